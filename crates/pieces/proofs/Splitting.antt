-- Rules are split one after the other: a join goes to the next place of its direction and disturbs none that stands, and the head of a colour rule joins the painters
-- of its colour. So what masks give is what they gave before and what each rule gives.
use mathlib.Core.Path.{◌≡◌, refl, sym, ap₂, ◌∙◌, subst}
use mathlib.Core.Logic.{◌↔◌, ◌⊎◌, inl, inr, ⊎_elim}
use mathlib.Core.List.Memᴰ
use mathlib.Core.List.{List, [], ◌∷◌, Memᴰ}
use Prim.Native.Nat.{ℕ, suc, ◌+◌, ◌^◌, ◌≤◌, ◌<◌}
use native.Mathlib.Omega.{arith}
use native.Mathlib.Decide.{ℕ_discrete}
use borrow.Author.Tests.{eq-eqb, ne_eqb}
use lib.Bits.{bit_or, or_zero_r}
use lib.Dec.{eqb}
use lib.ListN.{length, get_or, set, length-set}
use lib.Seq.{get_or-set_same, get_or-set_other}
use Rattle.names.specs.Bits.{bit}
use Rattle.names.specs.Pick.{pick}
use Rattle.names.proofs.Bits.{none-set, or_split, or_left, or_right}
use Rattle.books.specs.declared.rule.Dir.{Dir}
use Rattle.books.specs.declared.rule.Dir.TheVariants.{Across as across, Down as down}
use Rattle.books.specs.declared.rule.Rule.{Rule}
use Rattle.books.specs.declared.rule.Body.{Body}
use Rattle.books.specs.declared.rule.Body.TheVariants.{Colour, Across, Down}
use Rattle.books.specs.Keeps.{most_rules}
use Rattle.pieces.specs.Masks.{seconds_from, heads_from, painters_from, colour_masks, all_masks, place_of, joins_of, Masked, put_at, put_join, put_painter, put_body, split_from}
use Rattle.pieces.specs.Firing.{firing, gathered, fired_at, joins_fired}
use Rattle.pieces.specs.declared.masks.Joins.{Joins}
use Rattle.pieces.proofs.Gathered.{gathered_next, gathered-same}

-- ── What one rule gives ──

-- at a cut, ...
abbrev pub fired : Dir → ℕ → ℕ → ℕ → Body → ℕ
fired d l r a (Colour c) = 0
fired across l r a (Across x y) = firing l r (2 ^ x) (2 ^ y) (2 ^ a)
fired across l r a (Down x y) = 0
fired down l r a (Across x y) = 0
fired down l r a (Down x y) = firing l r (2 ^ x) (2 ^ y) (2 ^ a)

-- ... and to a colour
abbrev pub painter : ℕ → ℕ → Body → ℕ
painter c a (Colour k) = pick (eqb k c) (2 ^ a) 0
painter c a (Across x y) = 0
painter c a (Down x y) = 0

-- ── The masks of one join ──

module _ (masks : List ℕ) (at a x y : ℕ) (low : at < most_rules) where
  abbrev one : List ℕ
  one = set masks at (2 ^ x)

  abbrev two : List ℕ
  two = set one (seconds_from + at) (2 ^ y)

  put_other : (i : ℕ) → (i ≡ at → ⊥) → (i ≡ seconds_from + at → ⊥) → (i ≡ heads_from + at → ⊥) → get_or (put_at masks at a x y) i 0 ≡ get_or masks i 0
  put_other i p q r =
      get_or-set_other two (heads_from + at) i (2 ^ a) 0 r ∙ get_or-set_other one (seconds_from + at) i (2 ^ y) 0 q ∙ get_or-set_other masks at i (2 ^ x) 0 p

  -- it fires at its place, and every other join as before
  put-fires : length masks ≡ all_masks → (l r : ℕ) → fired_at (put_at masks at a x y) l r at ≡ firing l r (2 ^ x) (2 ^ y) (2 ^ a)
  put-fires long l r =
      let first = get_or-set_other two (heads_from + at) at (2 ^ a) 0 (λ e. omega arith) ∙ get_or-set_other one (seconds_from + at) at (2 ^ y) 0 (λ e. omega arith)
      ∙ get_or-set_same masks at (2 ^ x) 0 (omega arith) in
      let second = get_or-set_other two (heads_from + at) (seconds_from + at) (2 ^ a) 0 (λ e. omega arith)
      ∙ get_or-set_same one (seconds_from + at) (2 ^ y) 0 (simp length-set (omega arith)) in
      let head = get_or-set_same two (heads_from + at) (2 ^ a) 0 (simp length-set (omega arith)) in
      rw (first, second, head)

  others-fire : (l r i : ℕ) → i < most_rules → (i ≡ at → ⊥) → fired_at (put_at masks at a x y) l r i ≡ fired_at masks l r i
  others-fire l r i h n =
      rw (
        put_other i n (λ e. omega arith) (λ e. omega arith),
        put_other (seconds_from + i) (λ e. omega arith) (λ e. n (omega arith)) (λ e. omega arith),
        put_other (heads_from + i) (λ e. omega arith) (λ e. omega arith) (λ e. n (omega arith)),
      )

  same-painters : (c : ℕ) → get_or (put_at masks at a x y) (painters_from + c) 0 ≡ get_or masks (painters_from + c) 0
  same-painters c = put_other (painters_from + c) (λ e. omega arith) (λ e. omega arith) (λ e. omega arith)

-- ── One rule more ──

-- masks with places free for so many rules
pub record PlacesFor (left : ℕ) (s : Masked) : Type 0 where
  pub long : length s.masks ≡ all_masks
  pub free : s.joins.across + s.joins.down + left ≤ most_rules

module _ (left : ℕ) (s : Masked) (places : PlacesFor (suc left) s) where
  abbrev j : Joins
  j = s.joins

  place-low : (d : Dir) (i : ℕ) → i ≤ joins_of j d → place_of d i < most_rules
  place-low across i h = omega (arith, places.free)
  place-low down i h = omega arith

  place-apart : (d e : Dir) (i : ℕ) → i < joins_of j d → place_of d i ≡ place_of e (joins_of j e) → ⊥
  place-apart across across i h p = omega arith
  place-apart across down i h p = omega (arith, places.free)
  place-apart down across i h p = omega (arith, places.free)
  place-apart down down i h p = omega (arith, places.free)

  module _ (a x y l r : ℕ) where
    -- those that stood, ...
    stood : (d e : Dir) → gathered (joins_of j d) (λ i. fired_at (put_join s e a x y).masks l r (place_of d i)) ≡ joins_fired s.masks j d l r
    unfolding joins_fired
    stood d e =
        gathered-same (joins_of j d) _ _
        (λ i h. others-fire s.masks (place_of e (joins_of j e)) a x y (place-low e (joins_of j e) (omega arith)) l r (place_of d i)
        (place-low d i (omega arith)) (place-apart d e i h))

    -- ... and one more
    more : (d : Dir) → gathered (joins_of j d + 1) (λ i. fired_at (put_join s d a x y).masks l r (place_of d i))
        ≡ bit_or (joins_fired s.masks j d l r) (firing l r (2 ^ x) (2 ^ y) (2 ^ a))
    more d =
        gathered_next (joins_of j d) _
        ∙ ap₂ bit_or (stood d d) (put-fires s.masks (place_of d (joins_of j d)) a x y (place-low d (joins_of j d) (omega arith)) places.long l r)

  -- what fires, with one rule more
  pub more-fires : (a : ℕ) (x : Body) (d : Dir) (l r : ℕ)
      → let t = put_body s a x in joins_fired t.masks t.joins d l r ≡ bit_or (joins_fired s.masks j d l r) (fired d l r a x)
  unfolding joins_fired
  more-fires a (Colour c) d l r =
      gathered-same (joins_of j d) _ _
      (λ i h. let low = place-low d i (omega arith) in rw (before (place_of d i) (omega arith), before (seconds_from + place_of d i) (omega arith), before (heads_from + place_of d i) (omega arith)))
      ∙ sym (or_zero_r _)
    where
      before : (i : ℕ) → i < painters_from → get_or (put_painter s a c).masks i 0 ≡ get_or s.masks i 0
      before i h = get_or-set_other s.masks (painters_from + c) i _ 0 (λ e. omega arith)
  more-fires a (Across x y) across l r = more a x y l r across
  more-fires a (Across x y) down l r = stood a x y l r down across ∙ sym (or_zero_r _)
  more-fires a (Down x y) across l r = stood a x y l r across down ∙ sym (or_zero_r _)
  more-fires a (Down x y) down l r = more a x y l r down

  -- the painters of a colour, with one rule more
  pub more-paints : (a : ℕ) (x : Body) (c : ℕ) → c < colour_masks
      → get_or (put_body s a x).masks (painters_from + c) 0 ≡ bit_or (get_or s.masks (painters_from + c) 0) (painter c a x)
  more-paints a (Colour k) c low = go (ℕ_discrete k c)
    where
      go : Dec (k ≡ c) → get_or (put_painter s a k).masks (painters_from + c) 0 ≡ bit_or (get_or s.masks (painters_from + c) 0) (pick (eqb k c) (2 ^ a) 0)
      go (yes e) = rw (e, eq-eqb c c refl) (get_or-set_same s.masks (painters_from + c) _ 0 (omega (arith, places.long)))
      go (no n) =
          rw (ne_eqb k c n)
          (get_or-set_other s.masks (painters_from + k) (painters_from + c) _ 0 (λ e. n (omega arith)) ∙ sym (or_zero_r (get_or s.masks (painters_from + c) 0)))
  more-paints a (Across x y) c low =
      same-painters s.masks (place_of across j.across) a x y (place-low across j.across (omega arith)) c ∙ sym (or_zero_r _)
  more-paints a (Down x y) c low = same-painters s.masks (place_of down j.down) a x y (place-low down j.down (omega arith)) c ∙ sym (or_zero_r _)

  pub more-places : (a : ℕ) (x : Body) → PlacesFor left (put_body s a x)
  more-places a (Colour c) = record { long = simp length-set places.long; free = omega (arith, places.free) }
  more-places a (Across x y) = record { long = simp length-set places.long; free = omega (arith, places.free) }
  more-places a (Down x y) = record { long = simp length-set places.long; free = omega (arith, places.free) }

-- ── All rules ──

pub split_places : (rules : List Rule) (s : Masked) → PlacesFor (length rules) s → PlacesFor 0 (split_from rules s)
unfolding split_from
split_places [] s places = places
split_places (q ∷ rest) s places = split_places rest (put_body s q.head q.body) (more-places (length rest) s places q.head q.body)

-- a number to which each rule adds its own has the bits that it had and those of each rule
module _ (number : Masked → ℕ) (own : Rule → ℕ)
    (more : (left : ℕ) (s : Masked) → PlacesFor (suc left) s → (q : Rule) → number (put_body s q.head q.body) ≡ bit_or (number s) (own q)) (a : ℕ) where
  abbrev Given : List Rule → Type 0
  Given rules = (q : Rule) × Memᴰ q rules × (bit (own q) a ≡ 1)

  split-adds : (rules : List Rule) (s : Masked) → PlacesFor (length rules) s → (bit (number (split_from rules s)) a ≡ 1) ↔ ((bit (number s) a ≡ 1) ⊎ Given rules)
  unfolding split_from
  split-adds [] s places = (inl, ⊎_elim (λ o. o) (λ (q, m, o). absurd (Memᴰ.not-nil m)))
  split-adds (q ∷ rest) s places =
      let e = more (length rest) s places q in
      let (there, back) = split-adds rest (put_body s q.head q.body) (more-places (length rest) s places q.head q.body) in (
        λ o. ⊎_elim
            (λ u. ⊎_elim inl (λ v. inr (q, Memᴰ.head refl, v)) (or_split (number s) (own q) a (rw e at u)))
            (λ (p, m, v). inr (p, Memᴰ.tail m, v))
            (there o),
        λ had. back (⊎_elim
            (λ u. inl (rw e (or_left (number s) (own q) a u)))
            (λ (p, m, v). ⊎_elim
            (λ n. inl (rw e (or_right (number s) (own q) a (subst (λ (x : Rule). bit (own x) a ≡ 1) n v))))
            (λ n. inr (p, n, v))
            (Memᴰ.cases_cons m))
            had),
      )

  -- and those of each rule alone, where it had none
  pub split-gives : (rules : List Rule) (s : Masked) → PlacesFor (length rules) s → number s ≡ 0 → (bit (number (split_from rules s)) a ≡ 1) ↔ Given rules
  split-gives rules s places none =
      let (there, back) = split-adds rules s places in (λ o. ⊎_elim (λ u. absurd (none-set a (rw none at u))) (λ g. g) (there o), λ g. back (inr g))
