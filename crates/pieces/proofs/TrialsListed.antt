-- The list of trials has every trial of the sheet, nothing else, and nothing twice: it goes by piece, then rule, then cut, and these make a trial.
use mathlib.Core.Path.{◌≡◌, refl, sym, ap, ◌∙◌, subst}
use mathlib.Core.List.Memᴰ
use mathlib.Core.List.{List, [], ◌∷◌, Memᴰ}
use mathlib.Core.Logic.{◌↔◌}
use Prim.Native.Nat.{ℕ, suc, ◌-◌, ◌<◌}
use native.Mathlib.Omega.{arith}
use lib.ListN.{length, get_or}
use Rattle.names.specs.Counted.{each}
use Rattle.names.proofs.Listing.{get_or-mem}
use Rattle.books.specs.Picture.{joins}
use Rattle.books.specs.Rules.{no_rule}
use Rattle.books.specs.declared.rule.Dir.{Dir}
use Rattle.books.specs.declared.rule.Dir.TheVariants.{Across as across, Down as down}
use Rattle.books.specs.declared.rule.Rule.{Rule}
use Rattle.books.specs.declared.rule.Body.{Body}
use Rattle.books.specs.declared.rule.Body.TheVariants.{Colour, Across, Down}
use Rattle.pieces.specs.Parts.{reach}
use Rattle.pieces.specs.Pieces.{piece, Inside, pieces, slot_of}
use Rattle.pieces.specs.Trials.{Trial, trial, cuts_for, trials_at, trials, Tries, Once}
use Rattle.pieces.specs.declared.piece.Piece.{Piece}
use Rattle.pieces.proofs.Doubles.{once-each, once-one, once-flat, member-flat, flat-member}
use Rattle.pieces.proofs.Slots.{lefts, tops, widths, length-pieces, slot_lt, get_or-slot, pieces-inside}
use Rattle.pieces.proofs.Sums.{member-each, each_member}

-- ── The pieces ──

module _ (m n : ℕ) {a : Piece} where
  in-lefts : (u v t : ℕ) → Memᴰ a (lefts n u v t) → (l : ℕ) × (a ≡ piece (suc u) (suc v) t l)
  in-lefts u v t h = let (l, _, k) = member-each (λ l. piece (suc u) (suc v) t l ∷ []) (n - v) h in (l, Memᴰ.eq_of_singleton k)

  in-tops : (u v : ℕ) → Memᴰ a (tops m n u v) → (t : ℕ) × (l : ℕ) × (a ≡ piece (suc u) (suc v) t l)
  in-tops u v h = let (t, _, k) = member-each (λ t. lefts n u v t) (m - u) h in let (l, e) = in-lefts u v t k in (t, l, e)

  in-widths : (u : ℕ) → Memᴰ a (widths m n u) → (v : ℕ) × (t : ℕ) × (l : ℕ) × (a ≡ piece (suc u) (suc v) t l)
  in-widths u h = let (v, _, k) = member-each (λ v. tops m n u v) n h in let (t, l, e) = in-tops u v k in (v, t, l, e)

pub pieces-once : (m n : ℕ) → Once (pieces m n)
unfolding pieces
pieces-once m n =
    once-each (λ u. widths m n u)
    (λ u. once-each (λ v. tops m n u v)
    (λ v. once-each (λ t. lefts n u v t)
    (λ t. once-each (λ l. piece (suc u) (suc v) t l ∷ []) (λ l. once-one _)
    (λ i j a h k. ap (λ (p : Piece). p.left) (sym (Memᴰ.eq_of_singleton h) ∙ Memᴰ.eq_of_singleton k)) (n - v))
    (λ i j a h k. ap (λ (p : Piece). p.top) (sym (in-lefts m n u v i h).1 ∙ (in-lefts m n u v j k).1)) (m - u))
    (λ i j a h k.
    let e : suc i ≡ suc j = ap (λ (p : Piece). p.width) (sym (in-tops m n u i h).2 ∙ (in-tops m n u j k).2) in
    omega arith) n)
    (λ i j a h k.
    let e : suc i ≡ suc j = ap (λ (p : Piece). p.height) (sym (in-widths m n i h).3 ∙ (in-widths m n j k).3) in
    omega arith) m

pub piece-listed : (m n : ℕ) (p : Piece) → Inside m n p → Memᴰ p (pieces m n)
piece-listed m n p i =
    subst (λ (q : Piece). Memᴰ q (pieces m n)) (get_or-slot m n p i p)
    (get_or-mem (pieces m n) (slot_of m n p) p (omega (arith, length-pieces m n, slot_lt m n p i)))

-- ── The trials at a piece ──

module _ (rules : List Rule) (p : Piece) where
  abbrev cuts : ℕ → ℕ
  cuts i = cuts_for (get_or rules i no_rule).body p

  abbrev of_rule : ℕ → List Trial
  of_rule i = each (cuts i) (λ k. trial p (suc k) i ∷ [])

  in-rule : (i : ℕ) {t : Trial} → Memᴰ t (of_rule i) → (k : ℕ) × (k < cuts i) × (t ≡ trial p (suc k) i)
  in-rule i h = let (k, l, w) = member-each (λ k. trial p (suc k) i ∷ []) (cuts i) h in (k, l, Memᴰ.eq_of_singleton w)

  in-piece : {t : Trial} → Memᴰ t (trials_at rules p) → (i : ℕ) × (i < length rules) × (k : ℕ) × (k < cuts i) × (t ≡ trial p (suc k) i)
  unfolding trials_at
  in-piece h = let (i, l, w) = member-each of_rule (length rules) h in let (k, g, e) = in-rule i w in (i, l, k, g, e)

  at_once : Once (trials_at rules p)
  unfolding trials_at
  at_once =
      once-each of_rule
      (λ i. once-each (λ k. trial p (suc k) i ∷ []) (λ k. once-one _)
      (λ k l t g h.
      let e : suc k ≡ suc l = ap (λ (t : Trial). t.cut) (sym (Memᴰ.eq_of_singleton g) ∙ Memᴰ.eq_of_singleton h) in
      omega arith) (cuts i))
      (λ i j t g h. ap (λ (t : Trial). t.rule) (sym (in-rule i g).2 ∙ (in-rule j h).2)) (length rules)

-- ── All of them ──

-- a rule with a cut joins in some direction, and the cut is one of that direction
record Cuts (x : Body) (p : Piece) (k : ℕ) : Type 0 where
  direction : Dir
  first : ℕ
  second : ℕ
  joining : x ≡ joins direction first second
  within : suc k < reach direction p

cut-within : (x : Body) (p : Piece) (k : ℕ) → k < cuts_for x p → Cuts x p k
cut-within (Colour c) p k h = absurd (omega arith)
cut-within (Across l r) p k h = record { direction = across; first = l; second = r; joining = refl; within = omega arith }
cut-within (Down u v) p k h = record { direction = down; first = u; second = v; joining = refl; within = omega arith }

cut-counted : (d : Dir) (l r : ℕ) (p : Piece) (k : ℕ) → suc k < reach d p → k < cuts_for (joins d l r) p
cut-counted across l r p k h = omega arith
cut-counted down l r p k h = omega arith

module _ (rules : List Rule) (m n : ℕ) where
  -- no trial stands twice
  pub trials-once : Once (trials rules m n)
  unfolding trials
  trials-once =
      once-flat (trials_at rules) (at_once rules)
      (λ p q t g h. ap (λ (t : Trial). t.piece) (sym (in-piece rules p g).4 ∙ (in-piece rules q h).4)) (pieces m n) (pieces-once m n)

  listed-tries : {t : Trial} → Memᴰ t (trials rules m n) → Tries rules m n t
  unfolding trials
  listed-tries {t} h =
      let (p, on, w) = member-flat (trials_at rules) (pieces m n) h in
      let (i, l, k, g, e) = in-piece rules p w in
      let c = cut-within (get_or rules i no_rule).body p k g in
      subst (Tries rules m n) (sym e)
      (record {
        on = pieces-inside m n on;
        numbered = l;
        direction = c.direction;
        first = c.first;
        second = c.second;
        joining = c.joining;
        some = omega arith;
        within = c.within;
      })

  tries-listed : (t : Trial) → Tries rules m n t → Memᴰ t (trials rules m n)
  unfolding trials trials_at
  tries-listed t h =
      let p = t.piece in
      let i = t.rule in
      let k = t.cut - 1 in
      let back : suc k ≡ t.cut = omega (arith, h.some) in
      let counted = cut-counted h.direction h.first h.second p k (rw back h.within) in
      let few : k < cuts rules p i = subst (λ (x : Body). k < cuts_for x p) (sym h.joining) counted in
      flat-member (trials_at rules) (pieces m n) p (piece-listed m n p h.on)
      (each_member (of_rule rules p) (length rules) i h.numbered
      (each_member (λ k. trial p (suc k) i ∷ []) (cuts rules p i) k few (Memᴰ.head (ap (λ (c : ℕ). trial p c i) (sym back)))))

  pub trials-all : (t : Trial) → Memᴰ t (trials rules m n) ↔ Tries rules m n t
  trials-all t = (listed-tries, tries-listed t)
