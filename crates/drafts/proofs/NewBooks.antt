-- A new book is written as the outcome of its contents says: the writer answers 0 or 13 as it finds room for their spelling, and a spelling at the front of the
-- slice is read back.
use Prim.Native.Nat.{ℕ, ◌+◌, ◌≤◌, ◌<◌}
use mathlib.Core.Path.{◌≡◌, refl, sym, ◌∙◌, ap, subst}
use mathlib.Core.Bool.{true, false}
use mathlib.Core.List.{List, ◌++◌}
use mathlib.Core.Logic.{◌↔◌, ⊎_elim}
use native.Mathlib.Omega.{arith}
use lib.Dec.{leb}
use lib.ListN.{length, take, drop}
use lib.Seq.{take_at, drop_at}
use borrow.Author.Tests.{leb-false}
use Rattle.names.specs.Bytes.{Bytes}
use Rattle.names.specs.Put.{put}
use Rattle.names.specs.Fault.{Fault}
use Rattle.names.proofs.Tests.{true-or-false}
use Rattle.names.proofs.Putting.{put_in, put-out, put-length}
use Rattle.books.specs.Answer.{plain}
use Rattle.books.specs.Book.{book_of, IsBook}
use Rattle.books.specs.Contents.{Contents}
use Rattle.books.specs.Derives.{Member}
use Rattle.books.specs.Keeps.{Keeps}
use Rattle.books.specs.Lent.{contents_of}
use Rattle.books.specs.Picture.{Picture}
use Rattle.books.specs.SpellBook.{spell_book}
use Rattle.books.proofs.ReadingBooks.{BookSpelled, book-accepted}
use Rattle.books.proofs.SpellingBooks.{book-read-back}
use Rattle.drafts.specs.Draft.{written_book}
use Rattle.drafts.specs.NewBook.{NewBook}
use Rattle.drafts.specs.Outcome.{spelled, written}

-- The writer's answer.
pub written-by : (c : Contents) (out : List ℕ)
    → written c out ≡ record { answer = plain (written_book c out).number; count = (written_book c out).count; out = put out 0 (spell_book c) }
unfolding written
written-by c out =
    ⊎_elim
    (λ (e : leb (length (spell_book c)) (length out) ≡ true). simp e)
    (λ (e : leb (length (spell_book c)) (length out) ≡ false).
    let short : length out < 0 + length (spell_book c) = omega (arith, leb-false (length (spell_book c)) (length out) e) in
    simp (e, put-out out 0 (spell_book c) short))
    (true-or-false (leb (length (spell_book c)) (length out)))

-- An accepted book spells contents that keep the rules.
pub accepted-spelled : (s : List ℕ) → Bytes s → IsBook s → BookSpelled s (contents_of s)
accepted-spelled s bytes accepted = book-accepted s bytes (ap (λ (f : Fault). f.number) accepted)

-- The spelling of contents that keep the rules stands at the front of the slice, and beyond it nothing has changed.
pub record Spelled (c : Contents) (out left : List ℕ) (count : ℕ) : Type 0 where
  pub keeps : Keeps c
  pub front : take count left ≡ spell_book c
  pub room : count ≤ length out
  pub beyond : drop count left ≡ drop count out
  pub as_long : length left ≡ length out

module _ (out l : List ℕ) (room : length l ≤ length out) where
  whole : put out 0 l ≡ l ++ drop (length l) out
  whole =
      let at : 0 + length l ≡ length l = omega arith in
      put_in out 0 l (omega arith) ∙ ap (λ (n : ℕ). l ++ drop n out) at

  front-put : take (length l) (put out 0 l) ≡ l
  front-put = ap (take (length l)) whole ∙ take_at l _ (length l) refl

  beyond-put : drop (length l) (put out 0 l) ≡ drop (length l) out
  beyond-put = ap (drop (length l)) whole ∙ drop_at l _ (length l) refl

pub spelled-so : (c : Contents) (out : List ℕ) → Keeps c → length (spell_book c) ≤ length out → Spelled c out (spelled c out).out (spelled c out).count
spelled-so c out keeps room =
    let l : List ℕ = spell_book c in
    record { keeps = keeps; front = front-put out l room; room = room; beyond = beyond-put out l room; as_long = put-length out 0 l }

-- It is read back.
pub spelled-accepted : (c : Contents) (s : List ℕ) → Keeps c → s ≡ spell_book c → IsBook s
spelled-accepted c s keeps e = ap (λ (t : List ℕ). (book_of t).fault) e ∙ (book-read-back c keeps).0

pub spelled-contents : (c : Contents) (s : List ℕ) → Keeps c → s ≡ spell_book c → contents_of s ≡ c
spelled-contents c s keeps e = ap contents_of e ∙ (book-read-back c keeps).1

pub new-book : (c : Contents) (X : Picture → Type 0) (out left : List ℕ) (count : ℕ) → ((p : Picture) → Member c p ↔ X p)
    → Spelled c out left count → NewBook out left count X
new-book c X out left count holds w =
    let contents : contents_of (take count left) ≡ c = spelled-contents c (take count left) w.keeps w.front in
    record {
      accepted = spelled-accepted c (take count left) w.keeps w.front;
      keeps = subst Keeps (sym contents) w.keeps;
      holds = λ p. subst (λ (b : Contents). Member b p ↔ X p) (sym contents) (holds p);
      room = w.room;
      beyond = w.beyond;
      as_long = w.as_long;
    }
