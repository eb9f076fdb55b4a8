-- A rule is read exactly where `RuleStands` says, and refused exactly for what `RuleFault` says: reading it ends in one of their ways, and whatever ends
-- in that way is what reading finds, number by number.
use Prim.Native.Nat.{ℕ, ◌<◌, ◌≤◌}
use mathlib.Core.Path.{◌≡◌, refl, ◌∙◌, subst}
use mathlib.Core.List.{List}
use mathlib.Core.Logic.{◌↔◌}
use native.Mathlib.Omega.{arith}
use borrow.Author.Tests.{eqb-true, eqb-false, ne_eqb}
use lib.Dec.{eqb}
use Rattle.names.specs.Pick.{pick}
use Rattle.names.specs.Onward.{onward}
use Rattle.names.specs.Number.{number_below}
use Rattle.names.specs.Fault.{Fault}
use Rattle.names.proofs.Picking.{pick_ind}
use Rattle.names.proofs.Onwards.{onward-ind}
use Rattle.names.proofs.ReadingNumbers.{number_below_lem}
use Rattle.names.proofs.Exactly.{number_below-exactly}
use Rattle.books.specs.Rules.{colour_number_at, join_body, join_at, body_at, after_body, rule_at}
use Rattle.books.specs.ReadsBook.{HeadRead, KindRead, kind_read, FirstRead, first_read, ruled, RuleStands, a_colour, an_across, a_down}
use Rattle.books.specs.ReadsBook.{RuleFault, no_head, no_kind, no_colour, no_first, no_second}
use Rattle.books.specs.declared.rule.Rule.{Rule}
use Rattle.books.specs.declared.rule.Body.{Body}
use Rattle.books.specs.BodyRead.{BodyRead, Whole as WholeBody, Refused as RefusedBody}
use Rattle.books.specs.RuleRead.{RuleRead, Whole as WholeRule, Refused as RefusedRule}

-- ── What stands there is read ──

-- the rule of a head and a body
abbrev with_head : ℕ → BodyRead → RuleRead
with_head head b = after_body RefusedRule b (λ body end. WholeRule (ruled head body) end)

module _ (s : List ℕ) (motifs colours at : ℕ) where
  head-on : (head next : ℕ) → HeadRead s motifs at head next → rule_at s at motifs colours ≡ with_head head (body_at s next motifs colours)
  unfolding rule_at
  head-on head next h = rw ((number_below-exactly s at motifs 6 _).1 h)

  kind-on : (head kind next : ℕ) → KindRead s motifs at head kind next
      → rule_at s at motifs colours ≡ with_head head (pick (eqb kind 0) (colour_number_at s next colours) (join_at s next kind motifs))
  unfolding body_at
  kind-on head kind next (kind_read then h k) = head-on head then h ∙ rw ((number_below-exactly s then 3 7 _).1 k)

  join-on : (head kind next : ℕ) → KindRead s motifs at head kind next → 1 ≤ kind → rule_at s at motifs colours ≡ with_head head (join_at s next kind motifs)
  join-on head kind next k some = kind-on head kind next k ∙ rw (ne_eqb kind 0 (λ q. omega arith))

  first_on : (head kind first next : ℕ) → FirstRead s motifs at head kind first next
      → rule_at s at motifs colours ≡ with_head head (onward RefusedBody (number_below s next motifs 6) (λ second end. WholeBody (join_body kind first second) end))
  unfolding join_at
  first_on head kind first next (first_read then k some h) = join-on head kind then k some ∙ rw ((number_below-exactly s then motifs 6 _).1 h)

  stands_read : (x : Rule) (next : ℕ) → RuleStands s motifs colours at x next → rule_at s at motifs colours ≡ WholeRule x next
  unfolding colour_number_at
  stands_read x next (a_colour head colour then k h e) =
      kind-on head 0 then k ∙ rw ((number_below-exactly s then colours 6 _).1 h, e)
  stands_read x next (an_across head left right then k h e) =
      first_on head 1 left then k ∙ rw ((number_below-exactly s then motifs 6 _).1 h, e)
  stands_read x next (a_down head upper lower then k h e) =
      first_on head 2 upper then k ∙ rw ((number_below-exactly s then motifs 6 _).1 h, e)

  fault-read : (f : Fault) → RuleFault s motifs colours at f → rule_at s at motifs colours ≡ RefusedRule f
  unfolding rule_at body_at colour_number_at join_at
  fault-read f (no_head h) = rw ((number_below-exactly s at motifs 6 _).1 h)
  fault-read f (no_kind head next k h) = head-on head next k ∙ rw ((number_below-exactly s next 3 7 _).1 h)
  fault-read f (no_colour head next k h) = kind-on head 0 next k ∙ rw ((number_below-exactly s next colours 6 _).1 h)
  fault-read f (no_first head kind next k some h) = join-on head kind next k some ∙ rw ((number_below-exactly s next motifs 6 _).1 h)
  fault-read f (no_second head kind first next k h) = first_on head kind first next k ∙ rw ((number_below-exactly s next motifs 6 _).1 h)

  -- ── What is read stands there ──

  abbrev Out : RuleRead → Type 0
  Out (WholeRule x next) = RuleStands s motifs colours at x next
  Out (RefusedRule f) = RuleFault s motifs colours at f

  -- a head and a kind are followed by a colour for kind 0, and else by two motifs
  colour-out : (head next : ℕ) → KindRead s motifs at head 0 next → Out (with_head head (colour_number_at s next colours))
  unfolding colour_number_at
  colour-out head next k =
      onward-ind (λ (b : BodyRead). Out (with_head head b)) RefusedBody (number_below s next colours 6) _
      (λ f e. no_colour head next k ((number_below-exactly s next colours 6 _).0 e))
      (λ colour end e. a_colour head colour next k ((number_below-exactly s next colours 6 _).0 e) refl)

  join-out : (head kind next : ℕ) → KindRead s motifs at head kind next → 1 ≤ kind → kind < 3 → Out (with_head head (join_at s next kind motifs))
  unfolding join_at
  join-out head kind next k some few =
      onward-ind (λ (b : BodyRead). Out (with_head head b)) RefusedBody (number_below s next motifs 6) _
      (λ f e. no_first head kind next k some ((number_below-exactly s next motifs 6 _).0 e))
      (λ first then e.
      let one : FirstRead s motifs at head kind first then = first_read next k some ((number_below-exactly s next motifs 6 _).0 e) in
      onward-ind (λ (b : BodyRead). Out (with_head head b)) RefusedBody (number_below s then motifs 6) _
      (λ f d. no_second head kind first then one ((number_below-exactly s then motifs 6 _).0 d))
      (λ second end d.
      let two = (number_below-exactly s then motifs 6 _).0 d in
      pick_ind (λ (b : Body). RuleStands s motifs colours at (ruled head b) end) (eqb kind 1) _ _
      (λ t. an_across head first second then (rw (eqb-true kind 1 t) at one) two refl)
      (λ t.
      let last : kind ≡ 2 = omega (arith, eqb-false kind 1 t) in
      a_down head first second then (rw last at one) two refl)))

  rule-out : Out (rule_at s at motifs colours)
  unfolding rule_at body_at
  rule-out =
      onward-ind Out RefusedRule (number_below s at motifs 6) _
      (λ f e. no_head ((number_below-exactly s at motifs 6 _).0 e))
      (λ head then e.
      let one = (number_below-exactly s at motifs 6 _).0 e in
      onward-ind (λ (b : BodyRead). Out (with_head head b)) RefusedBody (number_below s then 3 7) _
      (λ f d. no_kind head then one ((number_below-exactly s then 3 7 _).0 d))
      (λ kind next d.
      let two : KindRead s motifs at head kind next = kind_read then one ((number_below-exactly s then 3 7 _).0 d) in
      pick_ind (λ (b : BodyRead). Out (with_head head b)) (eqb kind 0) _ _
      (λ t. colour-out head next (rw (eqb-true kind 0 t) at two))
      (λ t. join-out head kind next two (omega (arith, eqb-false kind 0 t)) (number_below_lem s then 3 7 kind next d).low)))

  pub rule-read-exactly : (x : Rule) (next : ℕ) → (rule_at s at motifs colours ≡ WholeRule x next) ↔ RuleStands s motifs colours at x next
  rule-read-exactly x next = (λ e. subst Out e rule-out, stands_read x next)

  pub rule-refused-exactly : (f : Fault) → (rule_at s at motifs colours ≡ RefusedRule f) ↔ RuleFault s motifs colours at f
  rule-refused-exactly f = (λ e. subst Out e rule-out, fault-read f)
