-- What joining across or down makes of sets of pictures.
use Rattle.books.specs.Picture.{Picture}
use Rattle.books.specs.Joined.{Joined}
use Rattle.books.specs.declared.rule.Dir.{Dir}

-- the pictures of X joined with pictures of Y
pub record Both (d : Dir) (X Y : Picture → Type 0) (r : Picture) : Type 0 where
  pub left : Picture
  pub right : Picture
  pub left_in : X left
  pub right_in : Y right
  pub whole : Joined d left right r

-- the pictures of X, one or more of them joined in a row
pub data Run (d : Dir) (X : Picture → Type 0) : Picture → Type 0 where
  one : {p : Picture} → X p → Run d X p
  more : {p q r : Picture} → X p → Run d X q → Joined d p q r → Run d X r
