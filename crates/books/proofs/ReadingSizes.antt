-- What callers use of a size that was read: rows and columns lie in their range, and the place after them within the input.
-- Both are numbers in a range, and have it from there.
use Prim.Native.Nat.{ℕ, ◌+◌, ◌≤◌}
use mathlib.Core.Path.{◌≡◌, subst}
use mathlib.Core.List.{List}
use native.Mathlib.Omega.{arith}
use lib.ListN.{length}
use Rattle.names.specs.Number.{number_in}
use Rattle.names.specs.Fault.{Fault}
use Rattle.names.specs.Read.{Value}
use Rattle.names.proofs.Onwards.{onward-ind}
use Rattle.names.proofs.ReadingNumbers.{Blamed, blamed-later, number_in_lem, number_in-refused}
use Rattle.books.specs.Size.{Within, size_at}
use Rattle.books.specs.declared.size.Size.{Size}
use Rattle.books.specs.SizeRead.{SizeRead, By, Refused as RefusedSize}

-- rows at a place, columns between them and the place after both
pub record SizeLies (s : List ℕ) (at most : ℕ) (z : Size) (next : ℕ) : Type 0 where
  pub between : ℕ
  pub rows_there : number_in s at 1 most ≡ Value z.rows between
  pub cols_there : number_in s between 1 most ≡ Value z.cols next
  pub within : Within most z.rows z.cols
  pub inside : next ≤ length s
  pub near : next ≤ at + 6

module _ (s : List ℕ) (at most : ℕ) where
  abbrev Found : SizeRead → Type 0
  Found (By z next) = SizeLies s at most z next
  Found (RefusedSize f) = Blamed s (at + 5) f

  found : Found (size_at s at most)
  unfolding size_at
  found =
      onward-ind Found RefusedSize (number_in s at 1 most) _
      (λ f e. blamed-later (omega arith) (number_in-refused s at 1 most f e))
      (λ rows between e.
      let g = number_in_lem s at 1 most rows between e in
      onward-ind Found RefusedSize (number_in s between 1 most) _
      (λ f d. blamed-later (omega (arith, g.near)) (number_in-refused s between 1 most f d))
      (λ cols next d.
      let h = number_in_lem s between 1 most cols next d in
      record {
        between = between;
        rows_there = e;
        cols_there = d;
        within = record { rows_some = g.low; rows_few = g.high; cols_some = h.low; cols_few = h.high };
        inside = h.inside;
        near = omega (arith, g.near, h.near);
      }))

  pub size-lies : (z : Size) (next : ℕ) → size_at s at most ≡ By z next → SizeLies s at most z next
  size-lies z next e = subst Found e found

  pub size-refused : (f : Fault) → size_at s at most ≡ RefusedSize f → Blamed s (at + 5) f
  size-refused f e = subst Found e found
