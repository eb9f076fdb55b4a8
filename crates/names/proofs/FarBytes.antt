-- Bytes that follow far behind what is read change nothing: each reader looks only at bytes up to a bound after its place, so that a list t that reaches beyond the bound
-- reads as t ++ u does, whatever u is.
use Prim.Native.Nat.{ℕ, zero, suc, ◌+◌, ◌*◌, ◌<◌, ◌≤◌}
use mathlib.Core.Path.{◌≡◌, refl, ap₂}
use mathlib.Core.Bool.{Bool, true, false}
use mathlib.Core.List.{List, ◌∷◌, ◌++◌}
use native.Mathlib.Omega.{arith}
use borrow.Author.Tests.{lt-leb, eqb-true}
use lib.Dec.{eqb, ltb}
use lib.ListN.{length, take, drop, length-append, length-drop, get_or-append}
use lib.Seq.{take-append-le, drop-append-le}
use Rattle.names.specs.Pick.{pick, fault}
use Rattle.names.specs.Onward.{onward, faultless}
use Rattle.names.specs.Number.{longer_at, number_at, number_in, number_below}
use Rattle.names.specs.Name.{Name, name_from, name_of}
use Rattle.names.specs.Spelling.{longest_name, most_colours}
use Rattle.names.specs.Colours.{name_in, names_from, names_in, find_name, named_at, colour_at, after_colour, no_colours, refused_colours, with_colour, colours_from, colours_of}
use Rattle.names.specs.Fault.{Fault}
use Rattle.names.specs.Read.{Read}
use Rattle.names.specs.Read.{Value, Refused}
use Rattle.names.specs.NameRead.{NameRead}
use Rattle.names.specs.NameRead.{Whole, Ends, Bad}
use Rattle.names.specs.ColourRead.{ColourRead}
use Rattle.names.specs.ColourRead.{At, Refused as RefusedColour}
use Rattle.names.specs.declared.colours.Colours.{Colours}
use Rattle.names.specs.ColoursRead.{ColoursRead}
use Rattle.names.proofs.ReadingNumbers.{number_in_lem}
use Rattle.names.proofs.ReadingNames.{name-ends}
use Rattle.names.proofs.ReadingColours.{colour_span, list_span, Places, places-none, places-with, colour-lies}

-- what is read alike goes on alike
pub onward-same {ℓ} : {A : Type ℓ} (refuse : Fault → A) (r q : Read) (go to : ℕ → ℕ → A) → r ≡ q
    → ((v next : ℕ) → q ≡ Value v next → go v next ≡ to v next) → onward refuse r go ≡ onward refuse q to
onward-same refuse r (Value v next) go to e f = rw e (f v next refl)
onward-same refuse r (Refused f) go to e g = rw e

pick_same {ℓ} : {A : Type ℓ} (b : Bool) (x y z : A) → (b ≡ true → x ≡ y) → pick b x z ≡ pick b y z
pick_same true x y z f = f refl
pick_same false x y z f = refl

pub faultless-same {ℓ} : {A : Type ℓ} (refuse : Fault → A) (f : Fault) (x y : A) → (f.number ≡ 0 → x ≡ y) → faultless refuse f x ≡ faultless refuse f y
faultless-same refuse f x y same = pick_same (eqb f.number 0) x y (refuse f) (λ t. same (eqb-true f.number 0 t))

after_colour-same {ℓ} : {A : Type ℓ} (refuse : Fault → A) (r q : ColourRead) (go to : ℕ → ℕ → A) → r ≡ q
    → ((start len : ℕ) → q ≡ At start len → go start len ≡ to start len) → after_colour refuse r go ≡ after_colour refuse q to
after_colour-same refuse r (At start len) go to e f = rw e (f start len refl)
after_colour-same refuse r (RefusedColour f) go to e g = rw e

module _ (t u : List ℕ) where
  -- ── Numbers ──

  pub number-far : (at : ℕ) → at + 2 < length t → number_at (t ++ u) at ≡ number_at t at
  unfolding number_at longer_at
  number-far at h =
      let sum = length-append t u in
      simp (
        lt-leb (length (t ++ u)) at (omega arith),
        lt-leb (length (t ++ u)) (at + 1) (omega arith),
        lt-leb (length (t ++ u)) (at + 2) (omega arith),
        lt-leb (length t) at (omega arith),
        lt-leb (length t) (at + 1) (omega arith),
        lt-leb (length t) (at + 2) h,
        get_or-append t u 0 at (omega arith),
        get_or-append t u 0 (at + 1) (omega arith),
        get_or-append t u 0 (at + 2) h,
      )

  pub number_in-far : (at least most : ℕ) → at + 2 < length t → number_in (t ++ u) at least most ≡ number_in t at least most
  unfolding number_in
  number_in-far at least most h = rw (number-far at h)

  pub number_below-far : (at count refusal : ℕ) → at + 2 < length t → number_below (t ++ u) at count refusal ≡ number_below t at count refusal
  unfolding number_below
  number_below-far at count refusal h = rw (number-far at h)

  -- ── Names ──

  name_from-far : (l : List ℕ) (len k i : ℕ) → i + k ≤ length l → name_from (l ++ u) len i k ≡ name_from l len i k
  name_from-far l len zero i h = refl
  name_from-far l len (suc k) i h =
      let sum = length-append l u in
      simp (
        lt-leb (length (l ++ u)) i (omega arith),
        lt-leb (length l) i (omega arith),
        get_or-append l u 0 i (omega arith),
        name_from-far l len k (i + 1) (omega arith),
      )

  name-far : (start len : ℕ) → start + len ≤ length t → name_of (drop start (t ++ u)) len ≡ name_of (drop start t) len
  unfolding name_of
  name-far start len h = rw (drop-append-le start t u (omega arith)) (name_from-far (drop start t) len len 0 (omega (arith, length-drop start t)))

  -- the part of so many bytes from a place on
  part-far : (start len : ℕ) → start + len ≤ length t → take len (drop start (t ++ u)) ≡ take len (drop start t)
  part-far start len h = rw (drop-append-le start t u (omega arith)) (take-append-le len (drop start t) u (omega (arith, length-drop start t)))

  named-far : (start len : ℕ) (n : NameRead) → start + len < length t → name_of (drop start t) len ≡ n → named_at (t ++ u) start len n ≡ named_at t start len n
  named-far start len Whole h e = refl
  named-far start len Ends h e = absurd (omega (arith, name-ends (drop start t) len e, length-drop start t))
  named-far start len (Bad k) h e = refl

  -- ── Colours ──

  colour-far : (at : ℕ) → at + colour_span < length t → colour_at (t ++ u) at ≡ colour_at t at
  unfolding colour_at
  colour-far at h =
      onward-same RefusedColour (number_in (t ++ u) at 1 longest_name) (number_in t at 1 longest_name) _ _ (number_in-far at 1 longest_name (omega arith))
      (λ len start e.
      let g = number_in_lem t at 1 longest_name len start e in
      let near : start + len < length t = omega (arith, g.near, g.high) in
      rw (name-far start len (omega arith)) (named-far start len (name_of (drop start t) len) near refl))

  -- the name of a colour that was read from t
  name_in-far : (c : Colours) (i : ℕ) → Places t c → i < c.count → name_in (t ++ u) c i ≡ name_in t c i
  name_in-far c i g h = part-far _ _ (g.inside i h)

  names-far : (c : Colours) → Places t c → (k i : ℕ) → i + k ≤ c.count → names_from (t ++ u) c i k ≡ names_from t c i k
  names-far c g zero i h = refl
  names-far c g (suc k) i h = ap₂ ◌∷◌ (name_in-far c i g (omega arith)) (names-far c g k (i + 1) (omega arith))

  -- the names of a list that was read from t
  pub names_in-far : (c : Colours) → Places t c → names_in (t ++ u) c ≡ names_in t c
  names_in-far c g = names-far c g c.count 0 (omega arith)

  -- the number that a name has among them
  find_name-far : (c : Colours) (n : Name) → Places t c → find_name (t ++ u) c n ≡ find_name t c n
  unfolding find_name
  find_name-far c n g = rw (names_in-far c g)

  find-far : (c : Colours) (start len : ℕ) → Places t c → start + len ≤ length t
      → find_name (t ++ u) c (take len (drop start (t ++ u))) ≡ find_name t c (take len (drop start t))
  find-far c start len g h = rw (part-far start len h, find_name-far c (take len (drop start t)) g)

  colours_from-far : (k : ℕ) (c : Colours) (at : ℕ) → Places t c → c.count + k ≤ most_colours → at + colour_span * k < length t → colours_from (t ++ u) c at k ≡ colours_from t c at k
  colours_from-far zero c at g few h = refl
  colours_from-far (suc k) c at g few h =
      after_colour-same refused_colours (colour_at (t ++ u) at) (colour_at t at) _ _ (colour-far at (omega arith))
      (λ start len e.
      let l = colour-lies t at start len e in
      let room : c.count < most_colours = omega arith in
      ap₂ (λ (i : ℕ) (x : ColoursRead). pick (ltb i c.count) (refused_colours (fault 5 start)) x)
      (find-far c start len g l.inside)
      (colours_from-far k (with_colour c start len) (start + len) (places-with t c start len g room l.inside) (omega arith) (omega (arith, l.near, l.high))))

  pub colours-far : list_span < length t → colours_of (t ++ u) ≡ colours_of t
  unfolding colours_of
  colours-far h =
      onward-same refused_colours (number_in (t ++ u) 0 1 most_colours) (number_in t 0 1 most_colours) _ _ (number_in-far 0 1 most_colours (omega arith))
      (λ count next e.
      let g = number_in_lem t 0 1 most_colours count next e in
      colours_from-far count no_colours next (places-none t) (omega (arith, g.high)) (omega (arith, g.near, g.high)))
