-- All contents that keep the rules have exactly one accepted spelling, and reading it gives them back: each part is read back where the
-- one before it ends, and nothing follows the last.
use Prim.Native.Nat.{ℕ, ◌+◌, ◌-◌, ◌≤◌}
use mathlib.Core.Path.{◌≡◌, refl, sym, ap, ◌∙◌}
use mathlib.Core.Bool.{Bool, true}
use mathlib.Core.List.{List, [], ◌++◌, append_assoc, append-nil}
use native.Mathlib.Omega.{arith}
use native.Mathlib.Nat.{add_assoc}
use borrow.Author.Tests.{le-ltb}
use lib.ListN.{length, take, replicate, length-append, length-drop}
use lib.Seq.{take-append_seam}
use Rattle.names.specs.Pick.{fault}
use Rattle.names.specs.Number.{spell_number}
use Rattle.names.specs.Spelling.{spell_colours}
use Rattle.names.specs.Colours.{colours_of}
use Rattle.names.specs.declared.colours.Colours.{Colours}
use Rattle.names.specs.Bytes.{Bytes}
use Rattle.names.proofs.ReadingColours.{names-count}
use Rattle.names.proofs.SpellingColours.{colours-read-back}
use Rattle.books.specs.Contents.{Contents}
use Rattle.books.specs.Lent.{contents_by, contents_of}
use Rattle.books.specs.Keeps.{KeepsBy, Keeps, most_motifs, most_rules}
use Rattle.books.specs.Rules.{no_rule}
use Rattle.books.specs.Book.{figures_at, family_of, ruled_at, figured_at, book_by, book_of}
use Rattle.books.specs.SpellBook.{spell_rules, spell_book}
use Rattle.books.specs.declared.rule.Rule.{Rule}
use Rattle.books.specs.BookRead.{Figures, Whole}
use Rattle.books.proofs.ReadingBooks.{book-accepted}
use Rattle.books.proofs.StandingNumbers.{Stands, past-stands, in-read, below-read}
use Rattle.books.proofs.SpellingRules.{rules-read}

-- the figures of contents, how they are spelled, and how the rules lie once read
abbrev figures_of : Contents → Figures
figures_of b = record { motifs = b.motifs; start = b.start; count = length b.rules }

abbrev spell_figures : Contents → List ℕ
spell_figures b = spell_number b.motifs ++ (spell_number b.start ++ spell_number (length b.rules))

abbrev lying : Contents → List Rule
lying b = b.rules ++ replicate (most_rules - length b.rules) no_rule

figures-first : (b : Contents) → spell_figures b ++ spell_rules b.rules
    ≡ spell_number b.motifs ++ (spell_number b.start ++ (spell_number (length b.rules) ++ spell_rules b.rules))
figures-first b = simp append_assoc

module _ (strict : Bool) (b : Contents) (keeps : KeepsBy strict b) (s : List ℕ) where
  figures-read : (at : ℕ) (rest : List ℕ) → Stands s at (spell_figures b ++ rest) → figures_at s at ≡ Whole (figures_of b) (at + length (spell_figures b))
  unfolding figures_at
  figures-read at rest e =
      let motifs = spell_number b.motifs in
      let start = spell_number b.start in
      let count = spell_number (length b.rules) in
      let k : Stands s at (motifs ++ (start ++ (count ++ rest))) = simp append_assoc at e in
      let d = past-stands motifs (start ++ (count ++ rest)) k in
      let q = past-stands start (count ++ rest) d in
      let fits = keeps.sound.start_fits in
      simp (
        in-read 1 most_motifs b.motifs (start ++ (count ++ rest)) k keeps.motifs_some keeps.motifs_few (omega (arith, keeps.motifs_few)),
        below-read b.motifs 6 b.start (count ++ rest) d fits (omega (arith, fits, keeps.motifs_few)),
        in-read 1 most_rules (length b.rules) rest q keeps.rules_some keeps.rules_few (omega (arith, keeps.rules_few)),
      )
      (simp (length-append, add_assoc))

  -- a book whose colours were read, and after which its figures and rules stand, is read to its end
  coloured-read : (c : Colours) (from : ℕ) → c.count ≡ length b.colours → Stands s from (spell_figures b ++ spell_rules b.rules)
      → figured_at strict s c from ≡ record { fault = fault 0 0; family = family_of c (figures_of b) (lying b) }
  unfolding figured_at ruled_at
  coloured-read c from size e =
      let at = from + length (spell_figures b) in
      let d = past-stands (spell_figures b) (spell_rules b.rules) e in
      let q : Stands s at (spell_rules b.rules ++ []) = rw append-nil d in
      let ends : length s ≤ at + length (spell_rules b.rules) = omega (arith, ap length d.there, d.inside, length-drop at s) in
      simp (
        figures-read from (spell_rules b.rules) e,
        size,
        rules-read s b.motifs (length b.colours) keeps.motifs_few keeps.colours_ok.few strict b.rules at [] keeps.no_copies keeps.rules_few keeps.sound.rules_fit q,
        le-ltb _ _ ends,
      )

-- reading the spelling of contents that keep the rules accepts it and gives them back, each reader what it asks for
pub book-read-back-by : (strict : Bool) (b : Contents) → KeepsBy strict b → ((book_by strict (spell_book b)).fault ≡ fault 0 0) × (contents_by strict (spell_book b) ≡ b)
unfolding book_by
book-read-back-by strict b keeps =
    let s = spell_book b in
    let names = b.colours in
    let rest = spell_number b.motifs ++ (spell_number b.start ++ (spell_number (length b.rules) ++ spell_rules b.rules)) in
    let c = colours-read-back names rest keeps.colours_ok in
    let size : (colours_of s).colours.count ≡ length names = sym (names-count s (colours_of s).colours) ∙ ap length c.names in
    let whole : Stands s 0 (spell_colours names ++ rest) = record { inside = omega arith; there = refl } in
    let place : (colours_of s).next ≡ 0 + length (spell_colours names) = omega (arith, c.next) in
    let after : Stands s (colours_of s).next (spell_figures b ++ spell_rules b.rules) = rw (place, figures-first b) (past-stands (spell_colours names) rest whole) in
    let read = coloured-read strict b keeps s (colours_of s).colours (colours_of s).next size after in
    let rules : take (length b.rules) (b.rules ++ replicate (most_rules - length b.rules) no_rule) ≡ b.rules = take-append_seam b.rules (replicate (most_rules - length b.rules) no_rule) in
    let book : book_by strict s ≡ record { fault = fault 0 0; family = family_of (colours_of s).colours (figures_of b) (lying b) } = simp c.fine read in
    (rw book, rw (book, c.names, rules))

pub book-read-back : (b : Contents) → Keeps b → ((book_of (spell_book b)).fault ≡ fault 0 0) × (contents_of (spell_book b) ≡ b)
book-read-back = book-read-back-by true

-- two accepted inputs with the same contents are equal
pub one-spelling : (s t : List ℕ) → Bytes s → Bytes t → (book_of s).fault.number ≡ 0 → (book_of t).fault.number ≡ 0
    → contents_of s ≡ contents_of t → s ≡ t
one-spelling s t bs bt zs zt e = (book-accepted s bs zs).spelled ∙ (ap spell_book e ∙ sym (book-accepted t bt zt).spelled)
