-- A book without copies of its rules has every rule of the book, so that it holds the same sheets, and none twice.
use Prim.Native.Nat.{ℕ, ◌≤◌}
use mathlib.Core.List.Memᴰ
use mathlib.Core.List.{List, [], ◌∷◌, Memᴰ}
use mathlib.Core.Path.{refl}
use mathlib.Core.Logic.{◌↔◌}
use native.Mathlib.Omega.{arith}
use lib.ListN.{length}
use Rattle.names.specs.Spelling.{Distinct}
use Rattle.books.specs.Contents.{Contents, Has, Called}
use Rattle.books.specs.Derives.{Derives, paint, join, Member}
use Rattle.books.specs.Equal.{firsts, without_copies}
use Rattle.books.specs.Keeps.{Sound}
use Rattle.books.specs.Picture.{Picture}
use Rattle.books.specs.declared.rule.Rule.{Rule}
use Rattle.books.specs.declared.rule.Body.{Body}
use Rattle.books.proofs.Firsts.{firsts-forth, firsts-back, firsts-distinct}

-- a book that has the rules and the colours of another derives what that derives
derives-more : (b c : Contents) → ((a : ℕ) (x : Body) → Has b a x → Has c a x) → ((k : ℕ) (n : List ℕ) → Called b k n → Called c k n)
    → {a : ℕ} {p : Picture} → Derives b a p → Derives c a p
derives-more b c has called (paint k h hr hc e) = paint k (has _ _ h) hr hc (called _ _ e)
derives-more b c has called (join d l r k h hk hs x y) = join d l r k (has _ _ h) hk hs (derives-more b c has called x) (derives-more b c has called y)

module _ (b : Contents) where
  pub without_copies-same : (p : Picture) → Member (without_copies b) p ↔ Member b p
  unfolding without_copies
  without_copies-same p = (
    derives-more (without_copies b) b (λ a x. firsts-back [] b.rules _) (λ k n e. e),
    derives-more b (without_copies b) (λ a x. firsts-forth b.rules _) (λ k n e. e),
  )

  pub without_copies-sound : Sound b → Sound (without_copies b)
  unfolding without_copies
  without_copies-sound s = record { start_fits = s.start_fits; rules_fit = λ r m. s.rules_fit r (firsts-back [] b.rules r m) }

  pub without_copies-distinct : Distinct (without_copies b).rules
  unfolding without_copies
  without_copies-distinct = firsts-distinct [] b.rules

-- some rule is left of some
pub firsts-some : (rs : List Rule) → 1 ≤ length rs → 1 ≤ length (firsts [] rs)
firsts-some [] h = absurd (omega arith)
firsts-some (r ∷ rs) h = some (firsts [] (r ∷ rs)) (firsts-forth (r ∷ rs) r (Memᴰ.head refl))
  where
    some : (l : List Rule) → Memᴰ r l → 1 ≤ length l
    some [] m = absurd (Memᴰ.not-nil m)
    some (q ∷ l) m = omega arith
