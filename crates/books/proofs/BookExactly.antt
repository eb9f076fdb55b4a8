-- A book is refused exactly for what `BookFault` says: from what was read so far reading goes on with the next number, so that it stops where one of them
-- is refused, a rule stood earlier or bytes follow the last rule, and nowhere else.
use Prim.Native.Nat.{ℕ, ◌≤◌}
use mathlib.Core.Path.{◌≡◌, refl, ap}
use mathlib.Core.Bool.{Bool, true}
use mathlib.Core.List.{List}
use mathlib.Core.Logic.{◌↔◌, ◌⊎◌, inl, inr}
use native.Mathlib.Omega.{arith}
use borrow.Author.Tests.{ltb-true, eqb-true, eqb-false}
use lib.Dec.{ltb, eqb}
use lib.ListN.{length}
use Rattle.names.specs.Pick.{fault}
use Rattle.names.specs.Number.{number_in, number_below}
use Rattle.names.specs.Colours.{colours_of}
use Rattle.names.specs.ReadsList.{ListRead}
use Rattle.names.specs.Fault.{Fault}
use Rattle.names.specs.Read.{Value}
use Rattle.names.specs.declared.colours.Colours.{Colours}
use Rattle.names.proofs.Picking.{pick_ind}
use Rattle.names.proofs.Onwards.{onward-ind}
use Rattle.names.specs.Bytes.{Bytes}
use Rattle.names.proofs.ReadingNumbers.{number_in_lem}
use Rattle.names.proofs.Exactly.{number_in-exactly, number_below-exactly}
use Rattle.names.proofs.FirstFault.{FirstFault, first-fault}
use Rattle.names.proofs.ListExactly.{list-first, list-read-exactly}
use Rattle.books.specs.Contents.{Contents}
use Rattle.books.specs.Lent.{contents_by}
use Rattle.books.specs.Keeps.{KeepsBy, Keeps, NoCopies, most_motifs, most_rules}
use Rattle.books.specs.SpellBook.{spell_book}
use Rattle.books.specs.Rules.{no_rules, refused_rules, rule_at, repeats, rules_at}
use Rattle.books.specs.Book.{figures_at, ruled_at, figured_at, book_by, book_of}
use Rattle.books.specs.ReadsBook.{RuleStands, MotifsRead, motifs_read, StartRead, start_read, rules_so_far}
use Rattle.books.specs.ReadsBook.{BookFaultBy, BookFault, no_list, no_motifs, no_start, no_count, no_rule, equal_rule, more_bytes}
use Rattle.books.specs.RuleRead.{RulesRead}
use Rattle.books.specs.BookRead.{Figures, FiguresRead, Refused, BookRead}
use Rattle.books.proofs.Onwards.{after_rule-ind}
use Rattle.books.proofs.ReadingRules.{rule-refused}
use Rattle.books.proofs.ReadingBooks.{book-lies-by, book-accepted-by}
use Rattle.books.proofs.SpellingBooks.{book-read-back-by}
use Rattle.books.proofs.EqualRules.{repeats-back, copies-more, copies-none}
use Rattle.books.proofs.RulesHeld.{Held, held_more}
use Rattle.books.proofs.OneByOne.{in-turn-out}
use Rattle.books.proofs.RuleExactly.{rule-read-exactly, rule-refused-exactly}
use Rattle.books.proofs.BookOnward.{figured, rules_left, ruled-refused, fault-is}

-- ── What is read stands there ──

-- a book is read to its end, or refused for a fault of the book
abbrev Out : Bool → List ℕ → BookRead → Type 0
Out strict s r = (r.fault ≡ fault 0 0) ⊎ BookFaultBy strict s r.fault

module _ (strict : Bool) (s : List ℕ) (c : Colours) where
  rules-out : (g : Figures) (from at : ℕ) → StartRead s c.count g.motifs from → number_in s from 1 most_rules ≡ Value g.count at
      → Out strict s (ruled_at s c g (rules_at strict s at g.motifs c.count g.count))
  unfolding rules_at ruled_at
  rules-out g from first st e =
      let m = g.motifs in
      let n = c.count in
      let h = (number_in-exactly s from 1 most_rules _).0 e in
      let most = (number_in_lem s from 1 most_rules _ _ e).high in
      in-turn-out (RuleStands s m n) (NoCopies strict) Held (rules_left strict s c g m n) g.count
      (λ xs ys x less. held_more xs ys x (omega arith)) (Out strict s) first
      (λ xs ys at r once all.
      pick_ind (Out strict s) (ltb at (length s)) _ _
      (λ t. inr (more_bytes n m g.count at xs (rules_so_far from first st h r once) all (ltb-true _ _ t) refl)) (λ _. inl refl))
      (λ xs ys at k r once held more rest.
      after_rule-ind (λ (x : RulesRead). Out strict s (ruled_at s c g x)) refused_rules (rule_at s at m n) _
      (λ f d. rw (ruled-refused s c g f (rule-refused s at m n f d).some)
      (inr (no_rule n m g.count at xs (rules_so_far from first st h r once) more ((rule-refused-exactly s m n at f).0 d))))
      (λ x next d.
      let stands = (rule-read-exactly s m n at x next).0 d in
      rw held.begins
      (pick_ind (λ (q : RulesRead). Out strict s (ruled_at s c g q)) (repeats strict xs x) _ _
      (λ t. inr (equal_rule n m g.count at next xs x (rules_so_far from first st h r once) more stands (repeats-back strict xs x t) refl))
      (λ t. rest x next stands (copies-more strict xs x once t)))))
      no_rules (copies-none strict) (record { all = refl; begins = refl })

  figured-out : (at : ℕ) → ListRead s c.count at → Out strict s (figured_at strict s c at)
  unfolding figured_at figures_at
  figured-out at l =
      onward-ind (λ (r : FiguresRead). Out strict s (figured strict s c r)) Refused (number_in s at 1 most_motifs) _
      (λ f e. inr (no_motifs c.count at l ((number_in-exactly s at 1 most_motifs _).0 e)))
      (λ motifs next e.
      let m : MotifsRead s c.count motifs next = motifs_read at l ((number_in-exactly s at 1 most_motifs _).0 e) in
      onward-ind (λ (r : FiguresRead). Out strict s (figured strict s c r)) Refused (number_below s next motifs 6) _
      (λ f d. inr (no_start c.count motifs next m ((number_below-exactly s next motifs 6 _).0 d)))
      (λ start then d.
      let st : StartRead s c.count motifs then = start_read next start m ((number_below-exactly s next motifs 6 _).0 d) in
      onward-ind (λ (r : FiguresRead). Out strict s (figured strict s c r)) Refused (number_in s then 1 most_rules) _
      (λ f b. inr (no_count c.count motifs then st ((number_in-exactly s then 1 most_rules _).0 b)))
      (λ count end b. rules-out (record { motifs = motifs; start = start; count = count }) then end st b)))

book-out : (strict : Bool) (s : List ℕ) → Out strict s (book_by strict s)
unfolding book_by
book-out strict s =
    pick_ind (Out strict s) (eqb (colours_of s).fault.number 0) _ _
    (λ t. figured-out strict s (colours_of s).colours (colours_of s).next ((list-read-exactly s _ _).0 (eqb-true _ 0 t, refl, refl)))
    (λ t.
    let some : 1 ≤ (colours_of s).fault.number = omega (arith, eqb-false (colours_of s).fault.number 0 t) in
    inr (no_list (((list-first s).exactly _ some).0 refl)))

-- a refused book has no colours, and one that is read has some
module _ (strict : Bool) (s : List ℕ) where
  pub book-first : FirstFault (BookFaultBy strict s) (book_by strict s).fault
  book-first =
      first-fault (BookFaultBy strict s) (book_by strict s).fault (book-out strict s) (λ f x. ap (λ (r : BookRead). r.fault) (fault-is strict s f x))
      (λ z f x. omega (arith, (book-lies-by strict s z).colours_some, ap (λ (r : BookRead). r.family.colours.count) (fault-is strict s f x)))

  pub refused-exactly : (f : Fault) → 1 ≤ f.number → ((book_by strict s).fault ≡ f) ↔ BookFaultBy strict s f
  refused-exactly = book-first.exactly

  pub one-fault : (f g : Fault) → BookFaultBy strict s f → BookFaultBy strict s g → f ≡ g
  one-fault = book-first.one

  -- what nothing refuses is the spelling of contents that keep the rules
  pub faultless-exactly : Bytes s → ((f : Fault) → BookFaultBy strict s f → ⊥) ↔ ((b : Contents) × KeepsBy strict b × (s ≡ spell_book b))
  faultless-exactly bytes = (
    λ no. let a = book-accepted-by strict s bytes (book-first.none.0 no) in (contents_by strict s, a.keeps, a.spelled),
    λ x. book-first.none.1 (rw x.2 (ap (λ (f : Fault). f.number) (book-read-back-by strict x.0 x.1).0)),
  )

pub book-refused-exactly : (s : List ℕ) (f : Fault) → 1 ≤ f.number → ((book_of s).fault ≡ f) ↔ BookFault s f
book-refused-exactly = refused-exactly true

pub book-one-fault : (s : List ℕ) (f g : Fault) → BookFault s f → BookFault s g → f ≡ g
book-one-fault = one-fault true

pub book-faultless-exactly : (s : List ℕ) → Bytes s → ((f : Fault) → BookFault s f → ⊥) ↔ ((b : Contents) × Keeps b × (s ≡ spell_book b))
book-faultless-exactly = faultless-exactly true
