-- What `map_err` makes of a result: its value stays, and the error is made of its error.
use mathlib.Core.Path.{◌≡◌, refl, sym, ap, subst, ◌∙◌}
use Rattle.std.specs.Prelude.{Result, Ok, Err}
use Rattle.std.specs.Result.{IsErrAnd, MatchResult}

abbrev or_else : {T D : Type 0} → T → Result T D → T
or_else y (Ok x) = x
or_else y (Err d) = y

pub value-same : {T E D : Type 0} (P : E → D → Type 0) (r : Result T E) {m : Result T D} → MatchResult r (λ x. m ≡ Ok x) (λ e. IsErrAnd m (P e))
    → {x : T} → m ≡ Ok x → r ≡ Ok x
value-same P (Ok y) made is = ap (λ q. Ok (or_else y q)) (sym made ∙ is)
value-same P (Err e) made is = absurd (rw is at made)

fails : {T D : Type 0} → Result T D → Type 0
fails (Ok x) = ⊥
fails (Err d) = Unit {0}

pub error-made : {T E D : Type 0} (P : E → D → Type 0) (r : Result T E) {m : Result T D} → MatchResult r (λ x. m ≡ Ok x) (λ e. IsErrAnd m (P e))
    → {d : D} → m ≡ Err d → (e : E) × (r ≡ Err e) × P e d
unfolding fails
error-made P (Ok y) made is = absurd (subst fails (sym is ∙ made) tt)
error-made P (Err e) made is = (e, refl, rw is at made)
