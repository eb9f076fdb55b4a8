-- Passes settle: one that changes the marks makes the measure greater, so that after as many as the measure's bound no rule changes them.
use Prim.Native.Nat.{ℕ, zero, suc, ◌+◌, ◌≤◌, ◌<◌}
use mathlib.Core.Path.{◌≡◌, refl, sym, ◌∙◌, ap, subst}
use mathlib.Core.List.Memᴰ
use mathlib.Core.List.{List, [], ◌∷◌, Memᴰ}
use mathlib.Core.Logic.{◌⊎◌, inl, inr, ⊎_elim}
use native.Mathlib.Omega.{arith}
use Rattle.books.specs.declared.rule.Rule.{Rule}
use Rattle.tidy.specs.Marking.{pass, passes}

-- What every rule keeps, passes keep.
module _ (step : ℕ → Rule → ℕ) (P : ℕ → Type 0) where
  pass-keeps : (rs : List Rule) → ((m : ℕ) (r : Rule) → Memᴰ r rs → P m → P (step m r)) → (m : ℕ) → P m → P (pass step rs m)
  unfolding pass
  pass-keeps [] keep m p = p
  pass-keeps (r ∷ rs) keep m p =
      pass-keeps rs (λ w q i. keep w q (Memᴰ.tail i)) (step m r) (keep m r (Memᴰ.head refl) p)

  pub passes-keep : (rs : List Rule) → ((m : ℕ) (r : Rule) → Memᴰ r rs → P m → P (step m r)) → (n m : ℕ) → P m → P (passes step rs n m)
  unfolding passes
  passes-keep rs keep zero m p = p
  passes-keep rs keep (suc n) m p = passes-keep rs keep n (pass step rs m) (pass-keeps rs keep m p)

-- Where a pass changes nothing, more passes change nothing.
pub passes_same : (step : ℕ → Rule → ℕ) (rs : List Rule) (n m : ℕ) → pass step rs m ≡ m → passes step rs n m ≡ m
unfolding passes
passes_same step rs zero m e = refl
passes_same step rs (suc n) m e = ap (passes step rs n) e ∙ passes_same step rs n m e

-- The marks are the same, or there are more.
abbrev pub Grows : (ℕ → ℕ) → ℕ → ℕ → Type 0
Grows c m w = (w ≡ m) ⊎ (c m < c w)

grows-le : (c : ℕ → ℕ) (m w : ℕ) → Grows c m w → c m ≤ c w
grows-le c m w g = ⊎_elim (λ e. omega (arith, ap c e)) (λ l. omega arith) g

pub grows-on : (c : ℕ → ℕ) (m w v : ℕ) → Grows c m w → Grows c w v → Grows c m v
grows-on c m w v f g =
    ⊎_elim (λ e. subst (λ (k : ℕ). Grows c k v) e g) (λ l. inr (omega (arith, grows-le c w v g))) f

module _ (step : ℕ → Rule → ℕ) (c : ℕ → ℕ) where
  pass-grows : (rs : List Rule) → ((m : ℕ) (r : Rule) → Memᴰ r rs → Grows c m (step m r)) → (m : ℕ) → Grows c m (pass step rs m)
  unfolding pass
  pass-grows [] grow m = inl refl
  pass-grows (r ∷ rs) grow m =
      grows-on c m (step m r) (pass step rs (step m r)) (grow m r (Memᴰ.head refl))
      (pass-grows rs (λ w q i. grow w q (Memᴰ.tail i)) (step m r))

  -- where a pass changes nothing, no rule does
  pub pass_same : (rs : List Rule) → ((m : ℕ) (r : Rule) → Memᴰ r rs → Grows c m (step m r)) → (m : ℕ) → pass step rs m ≡ m
      → (r : Rule) → Memᴰ r rs → step m r ≡ m
  unfolding pass
  pass_same [] grow m e q i = absurd (Memᴰ.not-nil i)
  pass_same (r ∷ rs) grow m e q i =
      let later : (w : ℕ) (z : Rule) → Memᴰ z rs → Grows c w (step w z) = λ w z j. grow w z (Memᴰ.tail j) in
      let first : step m r ≡ m =
      ⊎_elim
      (λ s. s)
      (λ l. absurd (omega (arith, grows-le c (step m r) (pass step rs (step m r)) (pass-grows rs later (step m r)), ap c e)))
      (grow m r (Memᴰ.head refl)) in
      ⊎_elim
      (λ p. ap (step m) p ∙ first)
      (pass_same rs later m (ap (pass step rs) (sym first) ∙ e) q)
      (Memᴰ.cases_cons i)

  module _ (rs : List Rule) (grow : (m : ℕ) (r : Rule) → Memᴰ r rs → Grows c m (step m r)) where
    -- after n passes nothing changes any more, or the measure is n greater
    passes-grow : (n m : ℕ) → (pass step rs (passes step rs n m) ≡ passes step rs n m) ⊎ (c m + n ≤ c (passes step rs n m))
    unfolding passes
    passes-grow zero m = inr (omega arith)
    passes-grow (suc n) m =
        ⊎_elim
        (λ e. inl (let s : passes step rs n (pass step rs m) ≡ m = ap (passes step rs n) e ∙ passes_same step rs n m e in rw s e))
        (λ l. ⊎_elim (λ e. inl e) (λ g. inr (omega arith)) (passes-grow n (pass step rs m)))
        (pass-grows rs grow m)

    pub passes-settle : (n m : ℕ) → ((w : ℕ) → c w ≤ n) → (r : Rule) → Memᴰ r rs → step (passes step rs n m) r ≡ passes step rs n m
    passes-settle n m most =
        pass_same rs grow (passes step rs n m)
        (⊎_elim
        (λ e. e)
        (λ g. ⊎_elim
        (λ e. e)
        (λ l. absurd (omega (arith, most (pass step rs (passes step rs n m)))))
        (pass-grows rs grow (passes step rs n m)))
        (passes-grow n m))
