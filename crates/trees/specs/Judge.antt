-- A row of nodes judged from the top, of whatever comes apart across and down: a node by its motif and its piece, then each part in turn.
use Rattle.std.specs.Prelude.{ℕ, zero, suc, ◌+◌, List, [], ◌∷◌, eqb, ltb, length, get_or}
use Rattle.names.specs.Pick.{pick, and_then, fault}
use Rattle.names.specs.Fault.{Fault}
use Rattle.books.specs.Contents.{Contents}
use Rattle.books.specs.Picture.{Picture}
use Rattle.books.specs.Search.{Cutting}
use Rattle.books.specs.Decide.{pictures}
use Rattle.books.specs.Rules.{no_rule}
use Rattle.books.specs.declared.rule.Dir.{Dir}
use Rattle.books.specs.declared.rule.Dir.TheVariants.{Across as across, Down as down}
use Rattle.books.specs.declared.rule.Rule.{Rule}
use Rattle.books.specs.declared.rule.Body.{Body}
use Rattle.books.specs.declared.rule.Body.TheVariants.{Colour, Across, Down}
use Rattle.trees.specs.declared.node.Node.{Node}

-- a node fails; it is a cell; or it joins two parts, of these motifs
pub data Step : Type 0 where
  Wrong : Step
  Cell : Step
  Join : Dir → ℕ → ℕ → Step

-- a join is right where its cut leaves no part empty
unfoldable pub join_step : {X : Type 0} → Cutting X → X → ℕ → Dir → ℕ → ℕ → Step
join_step c x k d l r = pick (and_then (ltb 0 k) (λ _. ltb k (c.reach d x))) (Join d l r) Wrong

-- a colour rule where it has no cut, and x is one cell of its colour
unfoldable pub body_step : {X : Type 0} → Cutting X → X → ℕ → Body → Step
body_step c x k (Colour i) = pick (and_then (eqb k 0) (λ _. c.shown i x)) Cell Wrong
body_step c x k (Across l r) = join_step c x k across l r
body_step c x k (Down u v) = join_step c x k down u v

-- a node by its motif and what it stands on: its rule is in the book, and has the motif for its head
unfoldable pub step : {X : Type 0} → Cutting X → List Rule → ℕ → X → Node → Step
step c rules a x v =
    pick (and_then (ltb v.rule (length rules)) (λ _. eqb (get_or rules v.rule no_rule).head a))
    (body_step c x v.cut (get_or rules v.rule no_rule).body)
    Wrong

-- the number of nodes read, and those left; or the number of the first that fails
pub data Judged : Type 0 where
  past : ℕ → List Node → Judged
  failed : ℕ → Judged

abbrev pub followed : Judged → (ℕ → List Node → Judged) → Judged
followed (past e left) go = go e left
followed (failed e) go = failed e

-- after a node at a place, with `go` for a part
abbrev pub on_step : {X : Type 0} → Cutting X → (ℕ → X → List Node → ℕ → Judged) → X → ℕ → List Node → ℕ → Step → Judged
on_step c go x k vs at Wrong = failed at
on_step c go x k vs at Cell = past (at + 1) vs
on_step c go x k vs at (Join d l r) = followed (go l (c.first d k x) vs (at + 1)) (λ e left. go r (c.rest d k x) left e)

-- the nodes from a place on, with a bound on the depth
unfoldable pub judge_in : {X : Type 0} → Cutting X → List Rule → ℕ → ℕ → X → List Node → ℕ → Judged
judge_in c rules zero a x ns at = failed at
judge_in c rules (suc n) a x [] at = failed at
judge_in c rules (suc n) a x (v ∷ vs) at = on_step c (λ y z ns e. judge_in c rules n y z ns e) x v.cut vs at (step c rules a x v)

-- a cut leaves fewer rows and columns in all, so that their number bounds the depth
unfoldable pub judge : Contents → ℕ → Picture → List Node → ℕ → Judged
judge b a p ns at = judge_in (pictures b) b.rules (p.rows + p.cols) a p ns at

abbrev pub ended : Judged → Fault
ended (past e []) = fault 0 0
ended (past e (v ∷ vs)) = fault 16 e
ended (failed e) = fault 16 e

-- 0 for a tree of the picture and nothing else; or 16, with the first node that fails, or the number of nodes read where some are left over
unfoldable pub checked : Contents → Picture → List Node → Fault
checked b p ns = ended (judge b b.start p ns 0)
