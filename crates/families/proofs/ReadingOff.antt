-- What a host reads off a call's number, with the slice that it finds, is the call's outcome: every outcome packs, since its parts are bounded.
use Prim.Native.Nat.{ℕ}
use mathlib.Core.Bool.{true}
use mathlib.Core.Path.{◌≡◌}
use mathlib.Core.List.{List}
use native.Mathlib.Omega.{arith}
use Rattle.names.specs.Bytes.{Bytes}
use Rattle.books.specs.Contents.{Contents}
use Rattle.drafts.specs.Outcome.{Leaves}
use Rattle.families.specs.Outcome.{on_one, on_two}
use Rattle.families.proofs.Keeping.{KeptTwo, KeptOne}
use Rattle.drafts.proofs.Outcomes.{lent-packs, read_of, read_off}
use Rattle.drafts.proofs.NewBooks.{accepted-spelled}
use Rattle.families.proofs.Outcomes.{made-packs}

-- of a call on one book, ...
pub one-read : (op : Contents → Contents) → KeptOne op → (book out left : List ℕ) (r : ℕ) → Bytes book
    → Leaves (on_one op book out) r left → read_of r left ≡ on_one op book out
one-read op keeps book out left r bytes =
    read_off (on_one op book out) left r
    (lent-packs true 1 book out _ (omega arith) (λ a. made-packs _ out (keeps _ (accepted-spelled book bytes a).keeps)))

-- ... and on two
pub two_read : (op : Contents → Contents → Contents) → KeptTwo op → (first second out left : List ℕ) (r : ℕ) → Bytes first → Bytes second
    → Leaves (on_two op first second out) r left → read_of r left ≡ on_two op first second out
two_read op keeps first second out left r bf bs =
    read_off (on_two op first second out) left r
    (lent-packs true 1 first out _ (omega arith) (λ a. lent-packs true 2 second out _ (omega arith)
    (λ b. made-packs _ out (keeps _ _ (accepted-spelled first bf a).keeps (accepted-spelled second bs b).keeps))))
