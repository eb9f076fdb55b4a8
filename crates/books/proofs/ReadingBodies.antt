-- What callers use of a rule's body that was read: it fits the counts, lies within the input, and stands there as it is spelled; a refusal
-- names what it blames. The kind is read first, and then what it carries.
use Prim.Native.Nat.{ℕ, ◌+◌, ◌<◌, ◌≤◌}
use mathlib.Core.Path.{◌≡◌, subst}
use mathlib.Core.List.{List, ◌++◌}
use native.Mathlib.Omega.{arith}
use lib.Dec.{eqb}
use lib.ListN.{length}
use borrow.Author.Tests.{eqb-true, eqb-false}
use Rattle.names.specs.Number.{number_below, spell_number}
use Rattle.names.specs.Fault.{Fault}
use Rattle.names.specs.Read.{Value}
use Rattle.names.proofs.Picking.{pick_ind}
use Rattle.names.proofs.Onwards.{onward-ind}
use Rattle.names.proofs.ReadingNumbers.{Blamed, blamed-later, number_below_lem, number_below-refused}
use Rattle.names.specs.Bytes.{Bytes}
use Rattle.books.specs.Keeps.{BodyFits}
use Rattle.books.specs.Rules.{colour_number_at, join_body, join_at, body_at}
use Rattle.books.specs.SpellBook.{spell_body}
use Rattle.books.specs.declared.rule.Body.{Body}
use Rattle.books.specs.declared.rule.Body.TheVariants.{Across, Down}
use Rattle.books.specs.BodyRead.{BodyRead, Whole as WholeBody, Refused as RefusedBody}
use Rattle.books.proofs.StandingNumbers.{Between, below-spelled, between-both}

-- a body whose kind stands at a place: it fits the counts, ends within the input, and stands there as it is spelled
pub record BodyLies (s : List ℕ) (at motifs colours : ℕ) (b : Body) (next : ℕ) : Type 0 where
  pub fits : BodyFits motifs colours b
  pub inside : next ≤ length s
  pub near : next ≤ at + 9
  pub spelled : Bytes s → Between s at next (spell_body b)

abbrev BodyFound : List ℕ → ℕ → ℕ → ℕ → BodyRead → Type 0
BodyFound s at motifs colours (WholeBody b next) = BodyLies s at motifs colours b next
BodyFound s at motifs colours (RefusedBody f) = Blamed s (at + 9) f

-- a join of kind 1 or 2 has that kind in front of its motifs
joined-spelled : (kind a b : ℕ) → (kind ≡ 0 → ⊥) → kind < 3 → spell_number kind ++ (spell_number a ++ spell_number b) ≡ spell_body (join_body kind a b)
joined-spelled kind a b some low =
    pick_ind (λ (x : Body). spell_number kind ++ (spell_number a ++ spell_number b) ≡ spell_body x) (eqb kind 1) (Across a b) (Down a b)
    (λ t. let one : kind ≡ 1 = eqb-true kind 1 t in rw one)
    (λ t. let other = eqb-false kind 1 t in let two : kind ≡ 2 = omega arith in rw two)

joined-fits : (kind a b motifs colours : ℕ) → a < motifs → b < motifs → BodyFits motifs colours (join_body kind a b)
joined-fits kind a b motifs colours h g = pick_ind (BodyFits motifs colours) (eqb kind 1) (Across a b) (Down a b) (λ _. (h, g)) (λ _. (h, g))

module _ (s : List ℕ) (at motifs colours kind then : ℕ) (e : number_below s at 3 7 ≡ Value kind then) where
  colour-found : kind ≡ 0 → BodyFound s at motifs colours (colour_number_at s then colours)
  unfolding colour_number_at
  colour-found none =
      let g = number_below_lem s at 3 7 kind then e in
      onward-ind (BodyFound s at motifs colours) RefusedBody (number_below s then colours 6) _
      (λ f d. blamed-later (omega (arith, g.near)) (number_below-refused s then colours 6 f d (omega arith) (omega arith)))
      (λ c next d.
      let h = number_below_lem s then colours 6 c next d in
      record {
        fits = h.low;
        inside = h.inside;
        near = omega (arith, g.near, h.near);
        spelled = λ bytes. rw none at (between-both (below-spelled s bytes at 3 7 kind then e) (below-spelled s bytes then colours 6 c next d));
      })

  join-found : (kind ≡ 0 → ⊥) → BodyFound s at motifs colours (join_at s then kind motifs)
  unfolding join_at
  join-found some =
      let g = number_below_lem s at 3 7 kind then e in
      onward-ind (BodyFound s at motifs colours) RefusedBody (number_below s then motifs 6) _
      (λ f d. blamed-later (omega (arith, g.near)) (number_below-refused s then motifs 6 f d (omega arith) (omega arith)))
      (λ a half d.
      let h = number_below_lem s then motifs 6 a half d in
      onward-ind (BodyFound s at motifs colours) RefusedBody (number_below s half motifs 6) _
      (λ f q. blamed-later (omega (arith, g.near, h.near)) (number_below-refused s half motifs 6 f q (omega arith) (omega arith)))
      (λ b next q.
      let k = number_below_lem s half motifs 6 b next q in
      record {
        fits = joined-fits kind a b motifs colours h.low k.low;
        inside = k.inside;
        near = omega (arith, g.near, h.near, k.near);
        spelled = λ bytes. rw (joined-spelled kind a b some g.low) at (between-both (below-spelled s bytes at 3 7 kind then e)
            (between-both (below-spelled s bytes then motifs 6 a half d) (below-spelled s bytes half motifs 6 b next q)));
      }))

body-found : (s : List ℕ) (at motifs colours : ℕ) → BodyFound s at motifs colours (body_at s at motifs colours)
unfolding body_at
body-found s at motifs colours =
    onward-ind (BodyFound s at motifs colours) RefusedBody (number_below s at 3 7) _
    (λ f e. blamed-later (omega arith) (number_below-refused s at 3 7 f e (omega arith) (omega arith)))
    (λ kind then e.
    pick_ind (BodyFound s at motifs colours) (eqb kind 0) (colour_number_at s then colours) (join_at s then kind motifs)
    (λ t. colour-found s at motifs colours kind then e (eqb-true kind 0 t))
    (λ t. join-found s at motifs colours kind then e (eqb-false kind 0 t)))

pub body-lies : (s : List ℕ) (at motifs colours : ℕ) (b : Body) (next : ℕ) → body_at s at motifs colours ≡ WholeBody b next → BodyLies s at motifs colours b next
body-lies s at motifs colours b next e = subst (BodyFound s at motifs colours) e (body-found s at motifs colours)

pub body_refused : (s : List ℕ) (at motifs colours : ℕ) (f : Fault) → body_at s at motifs colours ≡ RefusedBody f → Blamed s (at + 9) f
body_refused s at motifs colours f e = subst (BodyFound s at motifs colours) e (body-found s at motifs colours)
