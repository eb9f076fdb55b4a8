-- Names that each keep the rules and are new after those that stood before: read one by one so, they are distinct, and distinct names are so read.
use mathlib.Core.Path.{refl, subst, sym}
use mathlib.Core.Logic.{⊎_elim}
use mathlib.Core.List.{List, [], ◌∷◌, ◌++◌}
use mathlib.Core.List.Memᴰ
use mathlib.Core.List.{Memᴰ}
use Rattle.names.specs.Name.{Name}
use Rattle.names.specs.Spelling.{NameOk, Distinct}

abbrev pub Fresh : List Name → List Name → Type 0
Fresh b [] = Unit {0}
Fresh b (n ∷ ns) = NameOk n × (Memᴰ n b → ⊥) × Fresh (b ++ (n ∷ [])) ns

pub fresh-each : (b ns : List Name) → Fresh b ns → (n : Name) → Memᴰ n ns → NameOk n
fresh-each b [] f n m = absurd (Memᴰ.not-nil m)
fresh-each b (x ∷ xs) f n m = ⊎_elim (λ e. subst NameOk (sym e) f.0) (λ t. fresh-each (b ++ (x ∷ [])) xs f.2 n t) (Memᴰ.cases_cons m)

fresh-absent : (b ns : List Name) → Fresh b ns → (n : Name) → Memᴰ n ns → Memᴰ n b → ⊥
fresh-absent b [] f n m q = Memᴰ.not-nil m
fresh-absent b (x ∷ xs) f n m q =
    ⊎_elim (λ e. f.1 (Memᴰ.cast (sym e) q)) (λ t. fresh-absent (b ++ (x ∷ [])) xs f.2 n t (Memᴰ.append_left (x ∷ []) q)) (Memᴰ.cases_cons m)

pub fresh-distinct : (b ns : List Name) → Fresh b ns → Distinct ns
fresh-distinct b [] f = tt
fresh-distinct b (x ∷ xs) f =
    (λ m. fresh-absent (b ++ (x ∷ [])) xs f.2 x m (Memᴰ.append_right b (Memᴰ.head refl)), fresh-distinct (b ++ (x ∷ [])) xs f.2)

pub make-fresh : (b ns : List Name) → ((n : Name) → Memᴰ n ns → NameOk n) → Distinct ns → ((n : Name) → Memᴰ n ns → Memᴰ n b → ⊥) → Fresh b ns
make-fresh b [] each d new = tt
make-fresh b (x ∷ xs) each d new = (
  each x (Memᴰ.head refl),
  new x (Memᴰ.head refl),
  make-fresh (b ++ (x ∷ [])) xs (λ n m. each n (Memᴰ.tail m)) d.1
      (λ n m q. ⊎_elim (λ u. new n (Memᴰ.tail m) u) (λ u. d.0 (Memᴰ.cast (sym (Memᴰ.eq_of_singleton u)) m)) (Memᴰ.append_cases b q)),
)
