-- What holds of a fault, and of what follows where there is none, holds of reading onward after a size, figures, a body or a rule.
use Prim.Native.Nat.{ℕ}
use mathlib.Core.Path.{◌≡◌, refl}
use Rattle.names.specs.Fault.{Fault}
use Rattle.books.specs.Size.{after_size}
use Rattle.books.specs.Rules.{after_body, after_rule}
use Rattle.books.specs.Book.{after_figures}
use Rattle.books.specs.declared.rule.Rule.{Rule}
use Rattle.books.specs.declared.rule.Body.{Body}
use Rattle.books.specs.declared.size.Size.{Size}
use Rattle.books.specs.SizeRead.{SizeRead, By, Refused as RefusedSize}
use Rattle.books.specs.BodyRead.{BodyRead, Whole as WholeBody, Refused as RefusedBody}
use Rattle.books.specs.RuleRead.{RuleRead, Whole as WholeRule, Refused as RefusedRule}
use Rattle.books.specs.BookRead.{Figures, FiguresRead, Whole as WholeFigures, Refused as RefusedFigures}

module _ {ℓ κ} {A : Type ℓ} (P : A → Type κ) (refuse : Fault → A) where
  pub after_size-ind : (r : SizeRead) (go : Size → ℕ → A) → ((f : Fault) → r ≡ RefusedSize f → P (refuse f))
      → ((z : Size) (next : ℕ) → r ≡ By z next → P (go z next)) → P (after_size refuse r go)
  after_size-ind (By z next) go bad good = good z next refl
  after_size-ind (RefusedSize f) go bad good = bad f refl

  pub after_figures-ind : (r : FiguresRead) (go : Figures → ℕ → A) → ((f : Fault) → r ≡ RefusedFigures f → P (refuse f))
      → ((g : Figures) (next : ℕ) → r ≡ WholeFigures g next → P (go g next)) → P (after_figures refuse r go)
  after_figures-ind (WholeFigures g next) go bad good = good g next refl
  after_figures-ind (RefusedFigures f) go bad good = bad f refl

  pub after_body-ind : (r : BodyRead) (go : Body → ℕ → A) → ((f : Fault) → r ≡ RefusedBody f → P (refuse f))
      → ((b : Body) (next : ℕ) → r ≡ WholeBody b next → P (go b next)) → P (after_body refuse r go)
  after_body-ind (WholeBody b next) go bad good = good b next refl
  after_body-ind (RefusedBody f) go bad good = bad f refl

  pub after_rule-ind : (r : RuleRead) (go : Rule → ℕ → A) → ((f : Fault) → r ≡ RefusedRule f → P (refuse f))
      → ((x : Rule) (next : ℕ) → r ≡ WholeRule x next → P (go x next)) → P (after_rule refuse r go)
  after_rule-ind (WholeRule x next) go bad good = good x next refl
  after_rule-ind (RefusedRule f) go bad good = bad f refl
