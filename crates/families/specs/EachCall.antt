-- What holds of each of the eight calls: Two of the three on two books, One of the five on one.
use Rattle.books.specs.Contents.{Contents}
use Rattle.families.specs.Combine.{either_of, beside, above, run, stack, mirrored, flipped, transposed}

pub record EachCall (Two : (Contents → Contents → Contents) → Type 0) (One : (Contents → Contents) → Type 0) : Type 0 where
  pub dv_either_of : Two either_of
  pub dv_beside : Two beside
  pub dv_above : Two above
  pub dv_run : One run
  pub dv_stack : One stack
  pub dv_mirrored : One mirrored
  pub dv_flipped : One flipped
  pub dv_transposed : One transposed
