-- The test of the rules finds a colour rule of a name exactly where the book has one.
use Prim.Native.Nat.{ℕ}
use mathlib.Core.Path.{◌≡◌, refl, sym, ap, ◌∙◌}
use mathlib.Core.Bool.{true, false, false≢true, true≢false}
use mathlib.Core.List.Memᴰ
use mathlib.Core.List.{List, [], ◌∷◌, Memᴰ}
use mathlib.Core.Logic.{◌↔◌, ⊎_elim}
use Rattle.names.specs.Name.{Name}
use Rattle.books.specs.Contents.{Contents, Called}
use Rattle.books.specs.declared.rule.Rule.{Rule}
use Rattle.books.specs.declared.rule.Body.{Body}
use Rattle.books.specs.declared.rule.Body.TheVariants.{Colour, Across, Down}
use Rattle.names.proofs.Tests.{or-either, or_left, or_right}
use Rattle.books.proofs.Deciding.{called}
use Rattle.reasons.specs.Holds.{Named}
use Rattle.reasons.specs.Why.{body_names, rules_name}

module _ (b : Contents) (n : Name) where
  body_names_lem : (x : Body) → body_names b n x ≡ true → (c : ℕ) × (Colour c ≡ x) × Called b c n
  body_names_lem (Colour c) e = (c, refl, (called b c n).0 e)
  body_names_lem (Across l r) e = absurd (false≢true e)
  body_names_lem (Down u v) e = absurd (false≢true e)

  found-named : (rs : List Rule) → ((r : Rule) → Memᴰ r rs → Memᴰ r b.rules) → rules_name b n rs ≡ true → Named b n
  unfolding rules_name
  found-named [] i e = absurd (false≢true e)
  found-named (r ∷ rs) i e =
      ⊎_elim
      (λ u. let (c, is, same) = body_names_lem r.body u in
      record { head = r.head; colour = c; ruled = i _ (Memᴰ.head (λ j. record { head = r.head; body = is j })); called = same })
      (λ u. found-named rs (λ q m. i q (Memᴰ.tail m)) u)
      (or-either (body_names b n r.body) (λ _. rules_name b n rs) e)

  named-found : (a c : ℕ) (rs : List Rule) → Memᴰ (record { head = a; body = Colour c }) rs → Called b c n → rules_name b n rs ≡ true
  unfolding rules_name
  named-found a c [] m e = absurd (Memᴰ.not-nil m)
  named-found a c (r ∷ rs) m e =
      ⊎_elim
      (λ (q : ◌≡◌ {A = Rule} (record { head = a; body = Colour c }) r).
      or_left (body_names b n r.body) _ (sym (ap (λ (z : Rule). body_names b n z.body) q) ∙ (called b c n).1 e))
      (λ u. or_right (body_names b n r.body) _ (named-found a c rs u e))
      (Memᴰ.cases_cons m)

  pub naming-decided : (rules_name b n b.rules ≡ true) ↔ Named b n
  naming-decided = (
    found-named b.rules (λ r m. m),
    λ x. named-found x.head x.colour b.rules x.ruled x.called,
  )

  pub unnamed-none : rules_name b n b.rules ≡ false → Named b n → ⊥
  unnamed-none e x = true≢false (sym (naming-decided.1 x) ∙ e)
