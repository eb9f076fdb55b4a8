-- The piece after p: one to the right; at the end of its row, at the start of the next row; after the last row, one column wider; and after the
-- widest, one row taller. Each time one block of the list is full, so that the slot rises by one.
use mathlib.Core.Path.{◌≡◌, ap, ◌∙◌}
use Prim.Native.Nat.{ℕ, ◌+◌, ◌-◌, ◌*◌, ◌≤◌, ◌<◌}
use native.Mathlib.Nat.{zero-mul, mul-zero, add-mul, one-mul, mul-add}
use native.Mathlib.Omega.{arith}
use native.Mathlib.Decide.{dec_lt}
use Rattle.pieces.specs.Pieces.{piece, Inside, total, stretches, slot_at, slot_of}
use Rattle.pieces.specs.inner.NextTo.{NextTo}
use Rattle.pieces.specs.declared.piece.Piece.{Piece}
use Rattle.pieces.proofs.Stretches.{stretches-next, total-stretches}

right_of : (m n u v t l : ℕ) → slot_at m n u v t (l + 1) ≡ slot_at m n u v t l + 1
unfolding slot_at
right_of m n u v t l = omega arith

below : (m n u v t l : ℕ) → l + 1 ≡ n - v → slot_at m n u v (t + 1) 0 ≡ slot_at m n u v t l + 1
unfolding slot_at
below m n u v t l h = omega (arith, add-mul t 1 (n - v), one-mul (n - v))

-- behind the last piece of a size, all of that size have been passed
module _ (m n u v t l : ℕ) (h : l + 1 ≡ n - v) (k : t + 1 ≡ m - u) where
  passed : (m - u) * stretches n (v + 1) ≡ (m - u) * stretches n v + (t * (n - v) + l) + 1
  passed =
      let a : (m - u) * stretches n (v + 1) ≡ (m - u) * stretches n v + (m - u) * (n - v) =
      ap (λ (x : ℕ). (m - u) * x) (stretches-next n v) ∙ mul-add (m - u) (stretches n v) (n - v) in
      let b : (t + 1) * (n - v) ≡ (m - u) * (n - v) = ap (λ (x : ℕ). x * (n - v)) k in
      omega (arith, add-mul t 1 (n - v), one-mul (n - v))

  wider : slot_at m n u (v + 1) 0 0 ≡ slot_at m n u v t l + 1
  unfolding slot_at
  wider = omega (arith, passed, zero-mul (n - (v + 1)))

  taller : v + 1 ≡ n → slot_at m n (u + 1) 0 0 0 ≡ slot_at m n u v t l + 1
  unfolding slot_at stretches
  taller j =
      let a : stretches m (u + 1) * stretches n n ≡ stretches m u * stretches n n + (m - u) * stretches n n =
      ap (λ (x : ℕ). x * stretches n n) (stretches-next m u) ∙ add-mul (stretches m u) (m - u) (stretches n n) in
      let b : (m - u) * stretches n (v + 1) ≡ (m - u) * stretches n n = ap (λ (x : ℕ). (m - u) * stretches n x) j in
      omega (arith, passed, mul-zero (m - (u + 1)), zero-mul (n - 0))

pub last : (m n : ℕ) → slot_at m n m 0 0 0 ≡ total m n
unfolding slot_at stretches
last m n = omega (arith, total-stretches m n, mul-zero (m - m), zero-mul (n - 0))

module _ (m n : ℕ) (p : Piece) (i : Inside m n p) where
  pub next-right : p.left + p.width < n → NextTo m n p (piece p.height p.width p.top (p.left + 1))
  unfolding slot_of
  next-right h = record {
    one = right_of m n (p.height - 1) (p.width - 1) p.top p.left;
    still = λ s. record { tall = i.tall; wide = i.wide; low = i.low; right = omega arith };
  }

  module _ (full : n ≤ p.left + p.width) where
    pub next-below : p.top + p.height < m → NextTo m n p (piece p.height p.width (p.top + 1) 0)
    unfolding slot_of
    next-below h = record {
      one = below m n (p.height - 1) (p.width - 1) p.top p.left (omega arith);
      still = λ s. record { tall = i.tall; wide = i.wide; low = omega arith; right = omega arith };
    }

    module _ (deep : m ≤ p.top + p.height) where
      pub next-wider : p.width < n → NextTo m n p (piece p.height (p.width + 1) 0 0)
      unfolding slot_of
      next-wider h = record {
        one =
            let e : p.width + 1 - 1 ≡ p.width - 1 + 1 = omega arith in
            rw e (wider m n (p.height - 1) (p.width - 1) p.top p.left (omega arith) (omega arith));
        still = λ s. record { tall = i.tall; wide = omega arith; low = omega arith; right = omega arith };
      }

      pub next-taller : n ≤ p.width → NextTo m n p (piece (p.height + 1) 1 0 0)
      unfolding slot_of
      next-taller h = record { one = step; still = λ s. inside s (dec_lt p.height m) }
        where
          step : slot_at m n (p.height + 1 - 1) 0 0 0 ≡ slot_at m n (p.height - 1) (p.width - 1) p.top p.left + 1
          step =
              let e : p.height + 1 - 1 ≡ p.height - 1 + 1 = omega arith in
              rw e (taller m n (p.height - 1) (p.width - 1) p.top p.left (omega arith) (omega arith) (omega arith))

          inside : slot_at m n (p.height + 1 - 1) 0 0 0 < total m n → Dec (p.height < m) → Inside m n (piece (p.height + 1) 1 0 0)
          inside s (yes g) = record { tall = omega arith; wide = omega arith; low = omega arith; right = omega arith }
          inside s (no g) =
              let e : p.height + 1 - 1 ≡ m = omega arith in
              let z : slot_at m n (p.height + 1 - 1) 0 0 0 ≡ total m n = ap (λ (x : ℕ). slot_at m n x 0 0 0) e ∙ last m n in
              absurd (omega arith)
