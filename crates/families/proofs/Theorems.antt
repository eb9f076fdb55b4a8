-- What each of the eight combinations derives, for pictures of every size. Each is its law over a direction, or over both books, under its own name.
use mathlib.Core.Path.{◌≡◌}
use mathlib.Core.Logic.{◌↔◌, ◌⊎◌}
use Rattle.books.specs.Contents.{Contents}
use Rattle.books.specs.Picture.{Picture}
use Rattle.books.specs.declared.rule.Dir.TheVariants.{Across as across, Down as down}
use Rattle.books.specs.Derives.{Member}
use Rattle.books.specs.Keeps.{Sound, Keeps}
use Rattle.families.specs.Joined.{Both, Run}
use Rattle.families.specs.Images.{reversed, transpose, Image}
use Rattle.families.specs.Combine.{either_of, beside, above, run, stack, mirrored, flipped, transposed}
use Rattle.families.specs.Limits.{WithinLimits}
use Rattle.families.specs.declared.asked.Change.TheVariants.{Mirrored, Flipped, Transposed}
use Rattle.families.proofs.EitherOf.{either_of-derives}
use Rattle.families.proofs.Joins.{joined-derives}
use Rattle.families.proofs.Runs.{repeated-derives}
use Rattle.families.proofs.Images.{changed-image, changed-twice}
use Rattle.families.proofs.Keeping.{joined_keeps, either_of-keeps, repeated-keeps, changed-keeps}

-- Either-of: what the one or the other derives.
pub either_of-holds : (f g : Contents) → Sound f → Sound g → (p : Picture) → Member (either_of f g) p ↔ (Member f p ⊎ Member g p)
either_of-holds = either_of-derives

-- Beside: a picture of the first with one of the second to its right.
pub beside-holds : (f g : Contents) → Sound f → Sound g → (p : Picture) → Member (beside f g) p ↔ Both across (Member f) (Member g) p
beside-holds = joined-derives across

-- Above: a picture of the first with one of the second below it.
pub above_holds : (f g : Contents) → Sound f → Sound g → (p : Picture) → Member (above f g) p ↔ Both down (Member f) (Member g) p
above_holds = joined-derives down

-- Run: one or more pictures side by side.
pub run_holds : (f : Contents) → Sound f → (p : Picture) → Member (run f) p ↔ Run across (Member f) p
run_holds = repeated-derives across

-- Stack: one or more pictures on top of each other.
pub stack-holds : (f : Contents) → Sound f → (p : Picture) → Member (stack f) p ↔ Run down (Member f) p
stack-holds = repeated-derives down

-- Mirrored, flipped, transposed: the images.
pub mirrored-holds : (f : Contents) (p : Picture) → Member (mirrored f) p ↔ Image (reversed across) (Member f) p
mirrored-holds = changed-image Mirrored

pub flipped-holds : (f : Contents) (p : Picture) → Member (flipped f) p ↔ Image (reversed down) (Member f) p
flipped-holds = changed-image Flipped

pub transposed-holds : (f : Contents) (p : Picture) → Member (transposed f) p ↔ Image transpose (Member f) p
transposed-holds = changed-image Transposed

-- Each of them twice is the same contents.
pub mirrored-again : (f : Contents) → mirrored (mirrored f) ≡ f
mirrored-again = changed-twice Mirrored

pub flipped-again : (f : Contents) → flipped (flipped f) ≡ f
flipped-again = changed-twice Flipped

pub transposed-again : (f : Contents) → transposed (transposed f) ≡ f
transposed-again = changed-twice Transposed

-- All eight keep the rules of a book, the first five where they are within the limits.
pub all_keep : (f g : Contents) → Keeps f → Keeps g
    → (WithinLimits (either_of f g) → Keeps (either_of f g))
    × (WithinLimits (beside f g) → Keeps (beside f g))
    × (WithinLimits (above f g) → Keeps (above f g))
    × (WithinLimits (run f) → Keeps (run f))
    × (WithinLimits (stack f) → Keeps (stack f))
    × Keeps (mirrored f) × Keeps (flipped f) × Keeps (transposed f)
all_keep f g kf kg = (
  either_of-keeps f g kf kg,
  joined_keeps across f g kf kg,
  joined_keeps down f g kf kg,
  repeated-keeps across f kf,
  repeated-keeps down f kf,
  changed-keeps Mirrored f kf,
  changed-keeps Flipped f kf,
  changed-keeps Transposed f kf,
)
