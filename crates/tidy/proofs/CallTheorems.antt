-- What the call leaves, from the bytes of the lent book to the bytes written. Where it answers 0, so many bytes of the slice are a book that every call reads and that holds
-- the same pictures as the lent one, of which every motif is kept and no rule stands twice, and tidying it again gives the same bytes. Its contents are the tidied ones, and its spelling is
-- read back.
use Prim.Native.Nat.{ℕ, ◌≤◌, ◌<◌}
use mathlib.Core.Path.{◌≡◌, sym, ◌∙◌, ap, subst, subst⁻¹}
use mathlib.Core.Bool.{false}
use mathlib.Core.List.{List}
use native.Mathlib.Omega.{arith}
use lib.ListN.{length, take}
use Rattle.names.specs.Bytes.{Bytes}
use Rattle.books.specs.Answer.{answer_in, count_in}
use Rattle.books.specs.Book.{IsBook, IsUntidy}
use Rattle.books.specs.Contents.{Contents}
use Rattle.books.specs.Derives.{Member}
use Rattle.books.specs.Keeps.{KeepsBy}
use Rattle.books.specs.Lent.{contents_by, contents_of}
use Rattle.books.specs.SpellBook.{spell_book}
use Rattle.books.specs.BookRead.{BookRead}
use Rattle.books.proofs.TwoReaders.{accepted-alike, contents-alike}
use Rattle.books.proofs.LongestBook.{spelling-bytes}
use Rattle.drafts.specs.NewBook.{NewBook}
use Rattle.drafts.specs.Outcome.{Outcome, Leaves}
use Rattle.drafts.proofs.NewBooks.{Spelled, spelled-so, spelled-accepted, spelled-contents, new-book}
use Rattle.tidy.specs.Kept.{Kept}
use Rattle.tidy.specs.Outcome.{tidying}
use Rattle.names.specs.Spelling.{Distinct}
use Rattle.tidy.specs.Tidied.{tidied}
use Rattle.tidy.proofs.Demand1.{tidy-read, dv_tidy-answered}
use Rattle.tidy.proofs.Endings.{untidy-keeps, StartRewrites, ends}
use Rattle.tidy.proofs.Keeping.{tidied-keeps}
use Rattle.tidy.proofs.SameSheets.{same-sheets}
use Rattle.tidy.proofs.Twice.{every-kept, tidied-apart, tidied-twice}

-- ── What was written ──

pub record Wrote (book out left : List ℕ) (count : ℕ) : Type 0 where
  pub keeps : KeepsBy false (contents_by false book)
  pub start : StartRewrites (contents_by false book)
  pub spelled : Spelled (tidied (contents_by false book)) out left count

module _ (book out : List ℕ) (bytes : Bytes book) where
  abbrev Writes : Outcome → Type 0
  Writes o = o.answer.number ≡ 0 → Wrote book out o.out o.count

  writes : Writes (tidying book out)
  writes =
      ends Writes book out bytes
      (record {
        in_book = λ bad z. absurd (bad z);
        no_start = λ _ _ z. absurd (omega arith);
        no_room = λ _ _ _ z. absurd (omega arith);
        with_room = λ fine some room _.
            let keeps = untidy-keeps book bytes fine in
            let c : Contents = tidied (contents_by false book) in
            record { keeps = keeps; start = some; spelled = spelled-so c out (tidied-keeps (contents_by false book) keeps some) room };
      })

  module _ (left : List ℕ) (r : ℕ) (leaves : Leaves (tidying book out) r left) (z : (answer_in r).number ≡ 0) where
    -- the bytes written
    abbrev new : List ℕ
    new = take (count_in r) left

    wrote : Wrote book out left (count_in r)
    wrote = subst⁻¹ Writes (tidy-read book out bytes left r leaves) writes z

    new-contents : contents_of new ≡ tidied (contents_by false book)
    new-contents = spelled-contents (tidied (contents_by false book)) new wrote.spelled.keeps wrote.spelled.front

    -- ── The theorems ──

    -- it is accepted, and holds the same pictures, of every size
    pub dv_tidy-holds : NewBook out left (count_in r) (Member (contents_by false book))
    dv_tidy-holds =
        new-book (tidied (contents_by false book)) (Member (contents_by false book)) out left (count_in r) (same-sheets (contents_by false book) wrote.keeps.sound) wrote.spelled

    -- no motif is left that could be dropped, and no rule stands twice
    pub dv_tidy-keeps-all : (a : ℕ) → a < (contents_of new).motifs → Kept (contents_of new) a
    dv_tidy-keeps-all = rw new-contents (every-kept (contents_by false book) wrote.keeps.sound wrote.start)

    pub dv_tidy-apart : Distinct (contents_of new).rules
    dv_tidy-apart = subst (λ (c : Contents). Distinct c.rules) (sym new-contents) (tidied-apart (contents_by false book))

-- tidying it again, with room, gives the same bytes
pub dv_tidy-again : (book out left : List ℕ) (r : ℕ) → Bytes book → Leaves (tidying book out) r left → (answer_in r).number ≡ 0
    → (out' left' : List ℕ) (r' : ℕ) → count_in r ≤ length out' → Leaves (tidying (take (count_in r) left) out') r' left'
    → ((answer_in r').number ≡ 0) × (take (count_in r') left' ≡ take (count_in r) left)
dv_tidy-again book out left r bytes leaves z out' left' r' room leaves' =
    let b : Contents = contents_by false book in
    let new : List ℕ = take (count_in r) left in
    let w = wrote book out bytes left r leaves z in
    let c = w.spelled in
    let new_bytes : Bytes new = subst Bytes (sym c.front) (spelling-bytes (tidied b) c.keeps) in
    let read : IsBook new = spelled-accepted (tidied b) new c.keeps c.front in
    let fine : IsUntidy new = sym (ap (λ (x : BookRead). x.fault) (accepted-alike new read)) ∙ read in
    let contents : contents_by false new ≡ tidied b = sym (contents-alike new read) ∙ new-contents book out bytes left r leaves z in
    let start : StartRewrites (contents_by false new) = rw contents (every-kept b w.keeps.sound w.start (tidied b).start c.keeps.sound.start_fits).0 in
    let same : spell_book (tidied (contents_by false new)) ≡ new = ap (λ (d : Contents). spell_book (tidied d)) contents
    ∙ ap spell_book (tidied-twice b w.keeps.sound w.start) ∙ sym c.front in
    let counted = (dv_tidy-answered book out bytes left r leaves).counted z in
    let size : length (spell_book (tidied (contents_by false new))) ≡ count_in r = ap length (same ∙ c.front) ∙ sym counted in
    let z' = (dv_tidy-answered new out' new_bytes left' r' leaves').zero.1 (fine, start, rw size room) in
    (z', (wrote new out' new_bytes left' r' leaves' z').spelled.front ∙ same)
