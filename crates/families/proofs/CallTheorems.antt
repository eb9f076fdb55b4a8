-- What each of the eight calls makes, from the bytes of the lent books to the bytes written: where it answers 0, so many bytes of the slice are a book that holds
-- exactly what the combination of the lent books should hold. Its contents are the combination's, and its spelling is read back.
use Prim.Native.Nat.{ℕ, ◌≤◌}
use mathlib.Core.Bool.{true}
use mathlib.Core.Path.{◌≡◌, sym, ◌∙◌, ap, subst⁻¹}
use mathlib.Core.List.{List}
use mathlib.Core.Logic.{◌↔◌, ◌⊎◌}
use lib.ListN.{length, take}
use Rattle.names.specs.Bytes.{Bytes}
use Rattle.books.specs.Book.{IsBook}
use Rattle.books.specs.Contents.{Contents}
use Rattle.books.specs.Derives.{Member}
use Rattle.books.specs.Keeps.{Sound, Keeps}
use Rattle.books.specs.Picture.{Picture}
use Rattle.books.specs.declared.rule.Dir.TheVariants.{Across as across, Down as down}
use Rattle.books.specs.SpellBook.{spell_book}
use Rattle.books.proofs.LongestBook.{spelling-bytes}
use Rattle.families.specs.Joined.{Both, Run}
use Rattle.families.specs.Images.{reversed, transpose, Image}
use Rattle.families.specs.Combine.{either_of, beside, above, run, stack, mirrored, flipped, transposed}
use Rattle.drafts.specs.Outcome.{Outcome, Leaves}
use Rattle.families.specs.Outcome.{made, on_one, on_second, on_two}
use Rattle.books.specs.Lent.{contents_of}
use Rattle.books.specs.Answer.{answer_in, count_in}
use Rattle.drafts.specs.NewBook.{Held, NewBook}
use Rattle.families.specs.declared.asked.Change.TheVariants.{Mirrored, Flipped, Transposed}
use Rattle.families.proofs.Keeping.{KeptTwo, KeptOne, joined_keeps, either_of-keeps, repeated-keeps, changed-keeps, keeps-within}
use Rattle.drafts.proofs.Outcomes.{lent-ends}
use Rattle.drafts.proofs.NewBooks.{accepted-spelled, Spelled, spelled-accepted, spelled-contents, new-book}
use Rattle.families.proofs.ReadingOff.{one-read, two_read}
use Rattle.families.proofs.Refusing.{one-verdict}
use Rattle.families.proofs.NewBooks.{made-spelled}
use Rattle.families.proofs.Lengths.{changed-as-long}
use Rattle.families.proofs.Theorems.{either_of-holds, beside-holds, above_holds, run_holds, stack-holds, mirrored-holds, flipped-holds, transposed-holds}
use Rattle.families.proofs.Theorems.{mirrored-again, flipped-again, transposed-again}

-- A call on two books that answers 0 has written a book that holds what X makes of theirs; ...
abbrev pub HoldsTwo : (Contents → Contents → Contents) → ((Picture → Type 0) → (Picture → Type 0) → Picture → Type 0) → Type 0
HoldsTwo op X = (first second out left : List ℕ) (r : ℕ) → Bytes first → Bytes second
    → Leaves (on_two op first second out) r left → (answer_in r).number ≡ 0 → NewBook out left (count_in r) (X (Held first) (Held second))

-- ... and so has one on one book.
abbrev pub HoldsOne : (Contents → Contents) → ((Picture → Type 0) → Picture → Type 0) → Type 0
HoldsOne op X = (book out left : List ℕ) (r : ℕ) → Bytes book
    → Leaves (on_one op book out) r left → (answer_in r).number ≡ 0 → NewBook out left (count_in r) (X (Held book))

-- An accepted book and two slices that are as long: both calls answer 0, and the second has written the lent book byte for byte.
abbrev pub GivesBack : (Contents → Contents) → Type 0
GivesBack op = (book out left out' left' : List ℕ) (r r' : ℕ) → Bytes book → IsBook book
    → length book ≤ length out → Leaves (on_one op book out) r left
    → length book ≤ length out' → Leaves (on_one op (take (count_in r) left) out') r' left'
    → ((answer_in r).number ≡ 0) × ((answer_in r').number ≡ 0) × (take (count_in r') left' ≡ book)

-- Two lent books.
two-new : (op : Contents → Contents → Contents) (X : (Picture → Type 0) → (Picture → Type 0) → Picture → Type 0) → KeptTwo op
    → ((f g : Contents) → Sound f → Sound g → (p : Picture) → Member (op f g) p ↔ X (Member f) (Member g) p) → HoldsTwo op X
two-new op X keeps holds first second out left r bf bs leaves =
    let New : Outcome → Type 0 = λ o. o.answer.number ≡ 0 → NewBook out o.out o.count (X (Held first) (Held second)) in
    subst⁻¹ New (two_read op keeps first second out left r bf bs leaves)
    (lent-ends New out true 1 first (λ f. on_second (op f) second out)
    (λ a. lent-ends New out true 2 second (λ g. made (op (contents_of first) g) out)
    (λ b z.
    let k = (accepted-spelled first bf a).keeps in
    let l = (accepted-spelled second bs b).keeps in
    new-book _ _ out _ _ (holds _ _ k.sound l.sound) (made-spelled _ out (keeps _ _ k l) z))
    (λ some z. absurd (some z)))
    (λ some z. absurd (some z)))

-- One lent book: it was accepted, and that of the combination is written.
one-spelled : (op : Contents → Contents) → KeptOne op → (book out left : List ℕ) (r : ℕ) → Bytes book → Leaves (on_one op book out) r left → (answer_in r).number ≡ 0
    → Keeps (contents_of book) × Spelled (op (contents_of book)) out left (count_in r)
one-spelled op keeps book out left r bytes leaves =
    let Spells : Outcome → Type 0 = λ o. o.answer.number ≡ 0 → Keeps (contents_of book) × Spelled (op (contents_of book)) out o.out o.count in
    subst⁻¹ Spells (one-read op keeps book out left r bytes leaves)
    (lent-ends Spells out true 1 book (λ f. made (op f) out)
    (λ a z. let k = (accepted-spelled book bytes a).keeps in (k, made-spelled _ out (keeps _ k) z))
    (λ some z. absurd (some z)))

one-new : (op : Contents → Contents) (X : (Picture → Type 0) → Picture → Type 0) → KeptOne op
    → ((f : Contents) → Sound f → (p : Picture) → Member (op f) p ↔ X (Member f) p) → HoldsOne op X
one-new op X keeps holds book out left r bytes leaves z =
    let (k, w) = one-spelled op keeps book out left r bytes leaves z in
    new-book (op (contents_of book)) (X (Held book)) out left (count_in r) (holds (contents_of book) k.sound) w

-- A change that keeps the rules, is undone by being made again, and leaves the spelling as long as it was.
module _ (op : Contents → Contents) (keeps : (f : Contents) → Keeps f → Keeps (op f)) (again : (f : Contents) → op (op f) ≡ f)
    (as_long : (f : Contents) → length (spell_book (op f)) ≡ length (spell_book f)) where
  kept : KeptOne op
  kept f k _ = keeps f k

  changed-length : (book : List ℕ) → Bytes book → IsBook book → length (spell_book (op (contents_of book))) ≡ length book
  changed-length book bytes accepted = as_long (contents_of book) ∙ sym (ap length (accepted-spelled book bytes accepted).spelled)

  -- a slice as long as the book has room
  one-zero : (book out left : List ℕ) (r : ℕ) → Bytes book → IsBook book → length book ≤ length out → Leaves (on_one op book out) r left → (answer_in r).number ≡ 0
  one-zero book out left r bytes accepted room leaves =
      (one-verdict op kept book out left r bytes accepted leaves).zero.1
      (keeps-within _ (keeps _ (accepted-spelled book bytes accepted).keeps), rw (changed-length book bytes accepted) room)

  given_back : GivesBack op
  given_back book out left out' left' r r' bytes accepted room leaves room' leaves' =
      let c : Contents = op (contents_of book) in
      let new : List ℕ = take (count_in r) left in
      let z = one-zero book out left r bytes accepted room leaves in
      let (_, w) = one-spelled op kept book out left r bytes leaves z in
      let new_bytes : Bytes new = subst⁻¹ Bytes w.front (spelling-bytes c w.keeps) in
      let new_accepted : IsBook new = spelled-accepted c new w.keeps w.front in
      let size : length new ≡ length book = ap length w.front ∙ changed-length book bytes accepted in
      let z' = one-zero new out' left' r' new_bytes new_accepted (rw size room') leaves' in
      let (_, w') = one-spelled op kept new out' left' r' new_bytes leaves' z' in
      let back : op (contents_of new) ≡ contents_of book = ap op (spelled-contents c new w.keeps w.front) ∙ again (contents_of book) in
      (z, z', w'.front ∙ (ap spell_book back ∙ sym (accepted-spelled book bytes accepted).spelled))

-- Either-of: what the first book or the second holds.
pub dv_either_of-holds : HoldsTwo either_of (λ F G p. F p ⊎ G p)
dv_either_of-holds = two-new either_of (λ F G p. F p ⊎ G p) either_of-keeps either_of-holds

-- Beside: a picture of the first with one of the second to its right.
pub dv_beside-holds : HoldsTwo beside (Both across)
dv_beside-holds = two-new beside (Both across) (joined_keeps across) beside-holds

-- Above: a picture of the first with one of the second below it.
pub dv_above-holds : HoldsTwo above (Both down)
dv_above-holds = two-new above (Both down) (joined_keeps down) above_holds

-- Run: one or more pictures of the book side by side.
pub dv_run-holds : HoldsOne run (Run across)
dv_run-holds = one-new run (Run across) (repeated-keeps across) run_holds

-- Stack: one or more pictures of the book on top of each other.
pub dv_stack-holds : HoldsOne stack (Run down)
dv_stack-holds = one-new stack (Run down) (repeated-keeps down) stack-holds

-- Mirrored, flipped, transposed: the images of the book's pictures.
pub dv_mirrored-holds : HoldsOne mirrored (Image (reversed across))
dv_mirrored-holds = one-new mirrored (Image (reversed across)) (λ f k _. changed-keeps Mirrored f k) (λ f _. mirrored-holds f)

pub dv_flipped-holds : HoldsOne flipped (Image (reversed down))
dv_flipped-holds = one-new flipped (Image (reversed down)) (λ f k _. changed-keeps Flipped f k) (λ f _. flipped-holds f)

pub dv_transposed-holds : HoldsOne transposed (Image transpose)
dv_transposed-holds = one-new transposed (Image transpose) (λ f k _. changed-keeps Transposed f k) (λ f _. transposed-holds f)

-- Each of these twice, with room both times, gives the lent book back byte for byte.
pub dv_mirrored-again : GivesBack mirrored
dv_mirrored-again = given_back mirrored (changed-keeps Mirrored) mirrored-again (changed-as-long Mirrored)

pub dv_flipped-again : GivesBack flipped
dv_flipped-again = given_back flipped (changed-keeps Flipped) flipped-again (changed-as-long Flipped)

pub dv_transposed-again : GivesBack transposed
dv_transposed-again = given_back transposed (changed-keeps Transposed) transposed-again (changed-as-long Transposed)
