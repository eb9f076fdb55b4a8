-- Right entries of the parts make the right entry of the whole: what the rules give a thing is a cell's or a join's, and a join gives it exactly where it
-- fires at some cut.
use Prim.Native.Nat.{ℕ, ◌+◌, ◌-◌, ◌≤◌, ◌<◌}
use mathlib.Core.Path.{◌≡◌, sym, ap, ◌∙◌, subst}
use mathlib.Core.Bool.{Bool, true}
use mathlib.Core.List.{List, Memᴰ}
use mathlib.Core.Logic.{◌↔◌, ⊎_elim}
use native.Mathlib.Omega.{arith}
use lib.Bits.{bit_or}
use Rattle.books.specs.Picture.{joins}
use Rattle.books.specs.declared.rule.Dir.TheVariants.{Across as across, Down as down}
use Rattle.books.specs.declared.rule.Dir.{Dir}
use Rattle.books.specs.Search.{Cutting, Ruled, Gives, paint, join}
use Rattle.books.specs.declared.rule.Rule.{Rule}
use Rattle.books.specs.declared.rule.Body.{Body}
use Rattle.names.specs.Bits.{bit, bits}
use Rattle.pieces.specs.Filling.{cuts_of}
use Rattle.pieces.specs.Rights.{Right, Fires, Painted}
use Rattle.names.proofs.Bits.{or_split, or_left, or_right, same_bit, all-bits}
use Rattle.pieces.proofs.Entries.{bits-has, has-bits}
use Rattle.pieces.proofs.Gathered.{gathered-has, has-gathered}

-- a thing of a kind that is cut, and an entry for each
module _ {X : Type 0} (c : Cutting X) (rules : List Rule) (motifs : ℕ) (fit : (r : Rule) → Memᴰ r rules → r.head < motifs)
    (test : X → ℕ → Bool) (tested : (a : ℕ) (x : X) → (test x a ≡ true) ↔ Gives c rules a x) where
  abbrev entry : X → ℕ
  entry x = bits motifs (test x)

  -- ── The entry computed by a right test is right, and no other is ──

  headed : {a : ℕ} {x : X} → Gives c rules a x → (y : Body) × Ruled rules a y
  headed (paint k h e) = (_, h)
  headed (join d l r k h hk hs y z) = (_, h)

  entry-is : (x : X) → Right c rules (entry x) x
  entry-is x a = (
    λ o. (tested a x).0 (bits-has motifs (test x) a o).1,
    λ g. has-bits motifs (test x) a (fit _ (headed g).1) ((tested a x).1 g),
  )

  one_right : {e : ℕ} {x : X} → Right c rules e x → e ≡ entry x
  one_right {e} {x} u = all-bits e (entry x) (λ a. same_bit e (entry x) a (λ o. (entry-is x a).1 ((u a).0 o)) (λ o. (u a).1 ((entry-is x a).0 o)))

  -- what is not cut has the cell's
  pub cell-right : (x : X) → ((d : Dir) → c.reach d x ≤ 1) → (cell : ℕ) → Painted c rules cell x → cell ≡ entry x
  cell-right x small cell painted = one_right (λ a. (λ o. let (k, m, e) = (painted a).0 o in paint k m e, back a))
    where
      back : (a : ℕ) → Gives c rules a x → bit cell a ≡ 1
      back a (paint k m e) = (painted a).1 (k, m, e)
      back a (join d l r k m h s u v) = absurd (omega (arith, small d))

  -- ── What is no cell has what the joins give at its cuts, from the entries of the parts ──

  module _ (fire : Dir → ℕ → ℕ → ℕ) (fires : Fires rules fire) (l r : Dir → ℕ → ℕ) (x : X)
      (firsts : (d : Dir) (k : ℕ) → 1 ≤ k → k < c.reach d x → l d k ≡ entry (c.first d k x))
      (rests : (d : Dir) (k : ℕ) → 1 ≤ k → k < c.reach d x → r d k ≡ entry (c.rest d k x)) where
    abbrev cuts : Dir → ℕ
    cuts d = cuts_of fire l r d (c.reach d x)

    -- a join that fires gives, ...
    found : (d : Dir) (a : ℕ) → bit (cuts d) a ≡ 1 → Gives c rules a x
    unfolding cuts_of
    found d a o =
        let (i, h, u) = gathered-has (c.reach d x - 1) _ a o in
        let (y, z, m, p, q) = fires.only d _ _ a u in
        join {x = x} d y z (i + 1) m (omega arith) (omega arith)
        ((entry-is _ y).0 (ap (λ (n : ℕ). bit n y) (sym (firsts d (i + 1) (omega arith) (omega arith))) ∙ p))
        ((entry-is _ z).0 (ap (λ (n : ℕ). bit n z) (sym (rests d (i + 1) (omega arith) (omega arith))) ∙ q))

    -- ... and a join that gives fires
    fired : (d : Dir) (a y z k : ℕ) → Ruled rules a (joins d y z) → 1 ≤ k → k < c.reach d x
        → Gives c rules y (c.first d k x) → Gives c rules z (c.rest d k x) → bit (cuts d) a ≡ 1
    unfolding cuts_of
    fired d a y z k m h s u v =
        let e : k - 1 + 1 ≡ k = omega arith in
        has-gathered (c.reach d x - 1) _ a (k - 1) (omega arith)
        (subst (λ (n : ℕ). bit (fire d (l d n) (r d n)) a ≡ 1) (sym e)
        (fires.each d _ _ a y z m
        (ap (λ (n : ℕ). bit n y) (firsts d k h s) ∙ (entry-is _ y).1 u) (ap (λ (n : ℕ). bit n z) (rests d k h s) ∙ (entry-is _ z).1 v)))

    pub parts-right : ((k : ℕ) → c.Shows k x → ⊥) → bit_or (cuts across) (cuts down) ≡ entry x
    parts-right none =
        one_right (λ a. (λ o. ⊎_elim (λ u. found across a u) (λ u. found down a u) (or_split (cuts across) (cuts down) a o), back a))
      where
        back : (a : ℕ) → Gives c rules a x → bit (bit_or (cuts across) (cuts down)) a ≡ 1
        back a (paint k m e) = absurd (none k e)
        back a (join across y z k m h s u v) = or_left (cuts across) (cuts down) a (fired across a y z k m h s u v)
        back a (join down y z k m h s u v) = or_right (cuts across) (cuts down) a (fired down a y z k m h s u v)
