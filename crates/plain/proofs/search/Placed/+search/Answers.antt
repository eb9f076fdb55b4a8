-- Every rule is tried, and every cut of a join.
use Rattle.std.proofs.Common.{◌≡◌, ◌-◌, false, sym, ◌∙◌, arith}
use Rattle.names.specs.Pick.{and_then}
use Rattle.names.proofs.Tests.{and-on, and-off}
use Rattle.pieces.specs.Parts.{first_part, rest_part}
use Rattle.plain.specs.inner.Search.{found}
use Rattle.plain.proofs.Trying.{rule_found, rule-unfit, other_head, rules-passed, cut-found, cut-passed, cuts-passed, found-step}
use Rattle.plain.proofs.search.Placed.+search.Goals as goal
use Rattle.plain.proofs.search.Placed.+search.Goals.{comes_apart-After-derives, comes_apart-else-derives-via-then-derives+else-derives-2, comes_apart-else-derives-via-else-derives, derives-else-rule-motif-via-then-rule-motif+else-fits, derives-else-rule-motif-via-else-rule-motif}

pub derives-loop-rule-init : goal.derives-loop-rule-init
derives-loop-rule-init t c = sym (found-step _ _ _ _ _)

pub derives-returns-then-fits : goal.derives-returns-then-fits
derives-returns-then-fits t c =
    sym (rule_found _ _ _ _ _ _ c.loop-rule-test.true (omega (arith, c.if-rule-motif.true)) (sym c.fits.ensures ∙ c.if-fits.true)) ∙ c.loop-rule.invariant

pub derives-loop-rule-preserved : goal.derives-loop-rule-preserved
derives-loop-rule-preserved t c =
    elim c.else-rule-motif.branch [
      | derives-else-rule-motif-via-then-rule-motif+else-fits w ↦
          sym (rule-unfit _ _ _ _ _ _ c.loop-rule-test.true (omega (arith, w.if-rule-motif.true)) (sym w.fits.ensures ∙ w.if-fits.false)) ∙ c.loop-rule.invariant
      | derives-else-rule-motif-via-else-rule-motif w ↦
          sym (other_head _ _ _ _ _ _ c.loop-rule-test.true (λ e. omega (arith, w.if-rule-motif.false))) ∙ c.loop-rule.invariant
    ]

pub derives-returns : goal.derives-returns
derives-returns t c = sym (rules-passed _ _ _ _ _ _ c.loop-rule-test.false) ∙ c.loop-rule.invariant

-- what the first part was found to be
first-told : {t : _} (c : comes_apart-After-derives t) → let a = c.args in let s = a.self.sheet.now in
    found s.rules.now s.size s.cells.now a.first (first_part a.d (c.loop-k.k - 1) a.self.piece) ≡ c.derives.result
first-told c = rw (← c.first_part.ensures.piece, ← c.first_part.ensures.sheet) (sym c.derives.ensures)

pub comes_apart-returns-then-derives-2 : goal.comes_apart-returns-then-derives-2
comes_apart-returns-then-derives-2 t c =
    let a = c.args in
    let s = a.self.sheet.now in
    let first = first-told (goal.at.comes_apart-returns-then-derives-2 t c).After-derives in
    let second : found s.rules.now s.size s.cells.now a.second (rest_part a.d (c.loop-k.k - 1) a.self.piece) ≡ c.derives-then-derives.result =
    rw (← c.rest_part.ensures.piece, ← c.rest_part.ensures.sheet) (sym c.derives-then-derives.ensures) in
    sym (cut-found _ _ _ _ _ _ (c.loop-k.k - 1) (omega (arith, c.loop-k-test.true)) (first ∙ c.if-derives.true) (second ∙ c.if-derives-2.true)) ∙ c.loop-k.invariant

pub comes_apart-loop-k-preserved : goal.comes_apart-loop-k-preserved
comes_apart-loop-k-preserved t c =
    let first = first-told (goal.at.comes_apart-loop-k-preserved t c).After-derives in
    let a = c.args in
    let s = a.self.sheet.now in
    let test = found s.rules.now s.size s.cells.now in
    let k = c.loop-k.k - 1 in
    let here : and_then (test a.first (first_part a.d k a.self.piece)) (λ _. test a.second (rest_part a.d k a.self.piece)) ≡ false =
    elim c.else-derives.branch [
      | comes_apart-else-derives-via-then-derives+else-derives-2 w ↦
          and-on _ _ (first ∙ w.if-derives.true) ∙ (rw (w.rest_part.ensures.piece, w.rest_part.ensures.sheet) at (sym w.derives-then-derives.ensures)) ∙ w.if-derives-2.false
      | comes_apart-else-derives-via-else-derives w ↦ and-off _ _ (first ∙ w.if-derives.false)
    ] in
    sym (cut-passed _ _ _ _ _ _ k (omega (arith, c.loop-k-test.true)) here) ∙ c.loop-k.invariant

pub comes_apart-returns : goal.comes_apart-returns
comes_apart-returns t c = sym (cuts-passed _ _ _ _ _ _ _ (omega (arith, c.loop-k-test.false))) ∙ c.loop-k.invariant
