-- The next piece with a cell: whatever has the cell and stands after p stands no earlier. To the right there is no piece between; where none is left to the right,
-- the first of the next row that reaches the cell begins as far left as it may, and so it is with the next width and the next height.
use mathlib.Core.Path.{◌≡◌, refl, sym, ◌∙◌}
use mathlib.Core.Bool.{true, false, true≢false}
use mathlib.Core.Logic.{⊎_elim}
use Prim.Native.Nat.{ℕ, ◌+◌, ◌-◌, ◌≤◌, ◌<◌}
use native.Mathlib.Nat.{mul-le-mul_right, zero-mul, le_of_lt}
use native.Mathlib.Omega.{arith}
use native.Mathlib.Decide.{dec_lt}
use borrow.Author.Tests.{ltb-true, lt-ltb}
use Rattle.names.proofs.Tests.{lt-or-le, and_both, and-make}
use Rattle.pieces.specs.Pieces.{piece, Inside, total, slot_at, slot_of}
use Rattle.pieces.specs.Refill.{HasCell}
use Rattle.pieces.specs.inner.Refill.{goes_further, NextWith}
use Rattle.pieces.specs.declared.piece.Piece.{Piece}
use Rattle.pieces.proofs.InOrder.{After, taller, wider, lower, righter, after-later, later-after}
use Rattle.pieces.proofs.NextPiece.{next-right, last}
use Rattle.pieces.proofs.Slots.{slot_lt}

-- ── One place further ──

module _ (n cell from long : ℕ) where
  pub goes_on : goes_further n cell from long ≡ true → (from < cell) × (from + long < n)
  unfolding goes_further
  goes_on e = let (x, y) = and_both _ _ e in (ltb-true _ _ x, ltb-true _ _ y)

  -- no stretch of the same length further on has the cell
  pub goes-no-further : goes_further n cell from long ≡ false → (to : ℕ) → from < to → to ≤ cell → to + long ≤ n → ⊥
  unfolding goes_further
  goes-no-further e to h l r = true≢false (sym (and-make _ _ (lt-ltb from cell (omega arith)) (lt-ltb (from + long) n (omega arith))) ∙ e)

-- ── The first of a size ──

-- a piece that begins no lower and no further to the right than another of its size stands no later
no-later : (m n : ℕ) {q x : Piece} → q.height ≡ x.height → q.width ≡ x.width → q.top ≤ x.top → q.left ≤ x.left → slot_of m n q ≤ slot_of m n x
unfolding slot_of slot_at
no-later m n {q} {x} h w t l = rw (h, w) (omega (arith, mul-le-mul_right (n - (x.width - 1)) t))

-- behind the last height there is no piece
behind : (m n t l : ℕ) → total m n ≤ slot_of m n (piece (m + 1) 1 t l)
unfolding slot_of slot_at
behind m n t l = let e : m + 1 - 1 ≡ m = omega arith in rw e (omega (arith, last m n, zero-mul (n - 0)))

module _ (m n row column : ℕ) (p : Piece) (i : Inside m n p) (has : HasCell row column p) where
  abbrev Next : Piece → Type 0
  Next q = NextWith m n row column p q

  pub one_right : goes_further n column p.left p.width ≡ true → Next (piece p.height p.width p.top (p.left + 1))
  one_right e =
      let (a, b) = goes_on n column p.left p.width e in
      let one = (next-right m n p i b).one in
      record {
        later = omega arith;
        none_between = λ x inx hx l. omega arith;
        still = λ h. (
          record { tall = i.tall; wide = i.wide; low = i.low; right = omega arith },
          record { from_top = has.from_top; upto_bottom = has.upto_bottom; from_left = omega arith; upto_right = omega (arith, has.upto_right) },
        );
        ended = λ h. absurd (omega (arith, i.low));
      }

  module _ (no_right : goes_further n column p.left p.width ≡ false) where
    past-right : {x : Piece} → Inside m n x → HasCell row column x → p.width ≡ x.width → p.left < x.left → ⊥
    past-right {x} inx hx w l = goes-no-further n column p.left p.width no_right x.left l hx.from_left (omega (arith, inx.right))

    -- ── In the next row ──

    abbrev below : Piece
    below = piece p.height p.width (p.top + 1) (column + 1 - p.width)

    module _ (on : goes_further m row p.top p.height ≡ true) where
      below-inside : Inside m n below
      below-inside =
          let (a, b) = goes_on m row p.top p.height on in
          record { tall = i.tall; wide = i.wide; low = omega arith; right = omega (arith, i.right, has.upto_right, has.from_left) }

      below-first : (x : Piece) → Inside m n x → HasCell row column x → After p x → slot_of m n below ≤ slot_of m n x
      below-first x inx hx (taller h) = le_of_lt (after-later m n below-inside inx (taller h))
      below-first x inx hx (wider h w) = le_of_lt (after-later m n below-inside inx (wider h w))
      below-first x inx hx (lower h w t) = no-later m n h w (omega arith) (omega (arith, hx.upto_right))
      below-first x inx hx (righter h w t l) = absurd (past-right inx hx w l)

      pub next_row : Next below
      next_row =
          let (a, b) = goes_on m row p.top p.height on in
          record {
            later = after-later m n i below-inside (lower refl refl (omega arith));
            none_between = λ x inx hx l. below-first x inx hx (later-after m n i inx l);
            still = λ h. (
              below-inside,
              record { from_top = omega arith; upto_bottom = omega (arith, has.upto_bottom); from_left = omega (arith, i.wide); upto_right = omega (arith, i.wide) },
            );
            ended = λ h. absurd (omega (arith, i.low));
          }

    module _ (no_lower : goes_further m row p.top p.height ≡ false) where
      past-below : {x : Piece} → Inside m n x → HasCell row column x → p.height ≡ x.height → p.top < x.top → ⊥
      past-below {x} inx hx h t = goes-no-further m row p.top p.height no_lower x.top t hx.from_top (omega (arith, inx.low))

      -- ── One column wider ──

      abbrev broader : Piece
      broader = piece p.height (p.width + 1) (row + 1 - p.height) (column + 1 - (p.width + 1))

      module _ (narrow : p.width < n) where
        broader-inside : Inside m n broader
        broader-inside =
            record { tall = i.tall; wide = omega arith; low = omega (arith, i.low, has.from_top, has.upto_bottom); right = omega (arith, i.right, has.from_left, has.upto_right) }

        broader-first : (x : Piece) → Inside m n x → HasCell row column x → After p x → slot_of m n broader ≤ slot_of m n x
        broader-first x inx hx (taller h) = le_of_lt (after-later m n broader-inside inx (taller h))
        broader-first x inx hx (wider h w) = go (dec_lt (p.width + 1) x.width)
          where
            go : Dec (p.width + 1 < x.width) → slot_of m n broader ≤ slot_of m n x
            go (yes g) = le_of_lt (after-later m n broader-inside inx (wider h g))
            go (no g) = no-later m n h (omega arith) (omega (arith, hx.upto_bottom)) (omega (arith, hx.upto_right))
        broader-first x inx hx (lower h w t) = absurd (past-below inx hx h t)
        broader-first x inx hx (righter h w t l) = absurd (past-right inx hx w l)

        pub next-width : Next broader
        next-width = record {
          later = after-later m n i broader-inside (wider refl (omega arith));
          none_between = λ x inx hx l. broader-first x inx hx (later-after m n i inx l);
          still = λ h. (
            broader-inside,
            record {
              from_top = omega (arith, i.tall);
              upto_bottom = omega (arith, i.tall);
              from_left = omega arith;
              upto_right = omega arith;
            },
          );
          ended = λ h. absurd (omega (arith, i.low));
        }

      -- ── One row taller ──

      abbrev higher : Piece
      higher = piece (p.height + 1) 1 (row + 1 - (p.height + 1)) column

      module _ (full : n ≤ p.width) where
        module _ (flat : p.height < m) where
          higher-inside : Inside m n higher
          higher-inside =
              record { tall = omega arith; wide = omega arith; low = omega (arith, i.low, has.from_top, has.upto_bottom); right = omega (arith, i.right, has.upto_right) }

          higher-first : (x : Piece) → Inside m n x → HasCell row column x → After p x → slot_of m n higher ≤ slot_of m n x
          higher-first x inx hx (taller h) = go (dec_lt (p.height + 1) x.height) (dec_lt 1 x.width)
            where
              go : Dec (p.height + 1 < x.height) → Dec (1 < x.width) → slot_of m n higher ≤ slot_of m n x
              go (yes g) w = le_of_lt (after-later m n higher-inside inx (taller g))
              go (no g) (yes w) = le_of_lt (after-later m n higher-inside inx (wider (omega arith) w))
              go (no g) (no w) = no-later m n (omega arith) (omega (arith, inx.wide)) (omega (arith, hx.upto_bottom)) (omega (arith, hx.upto_right))
          higher-first x inx hx (wider h w) = absurd (omega (arith, inx.right))
          higher-first x inx hx (lower h w t) = absurd (past-below inx hx h t)
          higher-first x inx hx (righter h w t l) = absurd (past-right inx hx w l)

          next-taller : Next higher
          next-taller = record {
            later = after-later m n i higher-inside (taller (omega arith));
            none_between = λ x inx hx l. higher-first x inx hx (later-after m n i inx l);
            still = λ h. (higher-inside, record { from_top = omega arith; upto_bottom = omega arith; from_left = omega arith; upto_right = omega arith });
            ended = λ h. absurd (omega arith);
          }

        -- p was the whole sheet
        next-none : m ≤ p.height → Next higher
        next-none high =
            let all : p.height ≡ m = omega (arith, i.low) in
            let end : total m n ≤ slot_of m n higher = rw all (behind m n _ column) in
            record {
              later = omega (arith, slot_lt m n p i);
              none_between = λ x inx hx l. none x inx hx (later-after m n i inx l);
              still = λ h. absurd (omega arith);
              ended = λ h. end;
            }
          where
            none : (x : Piece) → Inside m n x → HasCell row column x → After p x → slot_of m n higher ≤ slot_of m n x
            none x inx hx (taller h) = absurd (omega (arith, inx.low))
            none x inx hx (wider h w) = absurd (omega (arith, inx.right))
            none x inx hx (lower h w t) = absurd (past-below inx hx h t)
            none x inx hx (righter h w t l) = absurd (past-right inx hx w l)

        pub next-height : Next higher
        next-height = ⊎_elim next-taller next-none (lt-or-le p.height m)
