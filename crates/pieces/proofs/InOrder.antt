-- The pieces stand by height, then width, then top row, then left column: of two slots the smaller is that of the piece that is smaller in the first of these in
-- which the two differ.
use mathlib.Core.Path.{◌≡◌, refl, sym}
use Prim.Native.Nat.{ℕ, ◌+◌, ◌-◌, ◌*◌, ◌≤◌, ◌<◌}
use native.Mathlib.Nat.{add-mul, one-mul, mul-le-mul_right}
use native.Mathlib.Omega.{arith}
use native.Mathlib.Decide.{dec_lt}
use Rattle.pieces.specs.Pieces.{Inside, slot_at, slot_of}
use Rattle.pieces.specs.declared.piece.Piece.{Piece}
use Rattle.pieces.proofs.Slots.{narrower, flatter}

-- x stands after p
pub data After (p x : Piece) : Type 0 where
  taller : p.height < x.height → After p x
  wider : p.height ≡ x.height → p.width < x.width → After p x
  lower : p.height ≡ x.height → p.width ≡ x.width → p.top < x.top → After p x
  righter : p.height ≡ x.height → p.width ≡ x.width → p.top ≡ x.top → p.left < x.left → After p x

same-slot : (m n : ℕ) {p x : Piece} → p.height ≡ x.height → p.width ≡ x.width → p.top ≡ x.top → p.left ≡ x.left → slot_of m n p ≡ slot_of m n x
unfolding slot_of
same-slot m n h w t l = rw (h, w, t, l) refl

-- in one size the slots rise with the top row and the left column
lower-row : (m n u v t l t' l' : ℕ) → l < n - v → t < t' → slot_at m n u v t l < slot_at m n u v t' l'
unfolding slot_at
lower-row m n u v t l t' l' h less =
    let a : (t + 1) * (n - v) ≤ t' * (n - v) = mul-le-mul_right (n - v) (omega arith) in
    omega (arith, add-mul t 1 (n - v), one-mul (n - v))

module _ (m n : ℕ) {p x : Piece} where
  pub after-later : Inside m n p → Inside m n x → After p x → slot_of m n p < slot_of m n x
  unfolding slot_of
  after-later i j (taller h) =
      flatter m n (p.height - 1) (p.width - 1) p.top p.left (omega arith) (omega arith) (omega arith) (x.height - 1) (x.width - 1) x.top x.left (omega arith)
  after-later i j (wider h w) =
      rw (← h) (narrower m n (p.height - 1) (p.width - 1) p.top p.left (omega arith) (omega arith) (x.width - 1) x.top x.left (omega arith))
  after-later i j (lower h w t) = rw (← h, ← w) (lower-row m n (p.height - 1) (p.width - 1) p.top p.left x.top x.left (omega arith) t)
  after-later i j (righter h w t l) = rw (← h, ← w, ← t) (unfold slot_at in omega arith)

-- Two numbers in order.
data Order (a b : ℕ) : Type 0 where
  less : a < b → Order a b
  same : a ≡ b → Order a b
  more : b < a → Order a b

order : (a b : ℕ) → Order a b
order a b = go (dec_lt a b) (dec_lt b a)
  where
    go : Dec (a < b) → Dec (b < a) → Order a b
    go (yes h) g = less h
    go (no h) (yes g) = more g
    go (no h) (no g) = same (omega arith)

pub later-after : (m n : ℕ) {p x : Piece} → Inside m n p → Inside m n x → slot_of m n p < slot_of m n x → After p x
later-after m n {p} {x} i j later = go (order p.height x.height) (order p.width x.width) (order p.top x.top) (order p.left x.left)
  where
    back : After x p → ⊥
    back a = omega (arith, after-later m n j i a)

    go : Order p.height x.height → Order p.width x.width → Order p.top x.top → Order p.left x.left → After p x
    go (less h) w t l = taller h
    go (more h) w t l = absurd (back (taller h))
    go (same h) (less w) t l = wider h w
    go (same h) (more w) t l = absurd (back (wider (sym h) w))
    go (same h) (same w) (less t) l = lower h w t
    go (same h) (same w) (more t) l = absurd (back (lower (sym h) (sym w) t))
    go (same h) (same w) (same t) (less l) = righter h w t l
    go (same h) (same w) (same t) (more l) = absurd (back (righter (sym h) (sym w) (sym t) l))
    go (same h) (same w) (same t) (same l) = absurd (omega (arith, same-slot m n h w t l))
