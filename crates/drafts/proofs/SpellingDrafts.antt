-- The spelling of a draft, part by part in the order in which it is written: its colours are those of the two lists, one after the other.
use Prim.Native.Nat.{ℕ, ◌+◌}
use mathlib.Core.Path.{◌≡◌, sym, ap, ◌∙◌}
use mathlib.Core.Bool.{Bool, true, true≢false}
use mathlib.Core.List.{List, ◌++◌, append_assoc}
use native.Mathlib.Omega.{arith}
use borrow.Author.Tests.{ltb-false, le-ltb, leb-true, le-leb}
use lib.Dec.{ltb}
use lib.ListN.{length, take, length-append}
use lib.Seq.{length-take-le}
use Rattle.names.specs.Number.{spell_number}
use Rattle.names.specs.Colours.{names_in}
use Rattle.names.specs.Spelling.{spell_names, spell_colours, most_colours}
use Rattle.names.proofs.Picking.{pick_ind}
use Rattle.names.proofs.ReadingColours.{names-count}
use Rattle.names.specs.declared.colours.Colours.{Colours}
use Rattle.books.specs.SpellBook.{spell_rules, spell_three, spell_book}
use Rattle.books.specs.Keeps.{most_rules}
use Rattle.drafts.specs.Draft.{draft_in, DraftFits, counts_fit?, fits?, WroteBook, WroteDraft}
use Rattle.drafts.specs.declared.draft.Draft.{Draft}
use Rattle.drafts.specs.Written.{Written}
use Rattle.drafts.proofs.InARow.{names-turn, turn-append}

-- two lists of names in one
pub colours-spelled : (a b : List ℕ) (c e : Colours) → spell_colours (names_in a c ++ names_in b e)
    ≡ spell_number (c.count + e.count) ++ (spell_names (names_in a c) ++ spell_names (names_in b e))
colours-spelled a b c e =
    let all : length (names_in a c ++ names_in b e) ≡ c.count + e.count =
    length-append (names_in a c) (names_in b e) ∙ omega (arith, names-count a c, names-count b e) in
    rw (all, turn-append names-turn)

-- a draft of which the test holds
pub draft-few : (d : Draft) → fits? d ≡ true → length d.family.rules ≡ most_rules → DraftFits d
unfolding counts_fit?
draft-few d =
    pick_ind (λ (t : Bool). t ≡ true → length d.family.rules ≡ most_rules → DraftFits d) (ltb most_colours d.family.colours.count) _ _
    (λ _ e _. absurd (true≢false (sym e)))
    (λ own. pick_ind (λ (t : Bool). t ≡ true → length d.family.rules ≡ most_rules → DraftFits d) (ltb most_colours d.more.count) _ _
    (λ _ e _. absurd (true≢false (sym e)))
    (λ more e all. record { colours_few = ltb-false _ _ own; more_few = ltb-false _ _ more; rules_few = leb-true _ _ e; rules_all = all }))

-- ... and a draft that fits meets it
pub draft-fits : (d : Draft) → DraftFits d → fits? d ≡ true
unfolding counts_fit?
draft-fits d f = simp (le-ltb _ _ f.colours_few, le-ltb _ _ f.more_few) (le-leb _ _ f.rules_few)

-- so that writing it is writing its book
pub draft-wrote : {first second before after : List ℕ} {d : Draft} {r : Written} → DraftFits d → WroteDraft first second d before r after
    → WroteBook (draft_in first second d) before r after
draft-wrote {d = d} f w = record { answers = rw (draft-fits d f) at w.answers; leaves = rw (draft-fits d f) at w.leaves }

module _ (first second : List ℕ) (d : Draft) (ready : DraftFits d) where
  rules : length (take d.family.count d.family.rules) ≡ d.family.count
  rules = length-take-le d.family.count d.family.rules (omega (arith, ready.rules_few, ready.rules_all))

  pub draft-spelled : spell_book (draft_in first second d)
      ≡ spell_colours (names_in first d.family.colours ++ names_in second d.more)
      ++ (spell_three d.family.motifs d.family.start d.family.count ++ spell_rules (take d.family.count d.family.rules))
  draft-spelled = simp (rules, append_assoc)

  pub draft-length : length (spell_book (draft_in first second d))
      ≡ length (spell_colours (names_in first d.family.colours ++ names_in second d.more))
      + (length (spell_three d.family.motifs d.family.start d.family.count) + length (spell_rules (take d.family.count d.family.rules)))
  draft-length = ap length draft-spelled ∙ simp length-append
