-- The rules are put one after the other: what is left, split from here, is the whole.
use mathlib.Core.Path.{◌≡◌, sym, ap, ◌∙◌}
use mathlib.Core.List.{List, [], ◌∷◌, ◌++◌}
use Prim.Native.Nat.{ℕ, ◌+◌, ◌-◌, ◌≤◌, ◌<◌}
use native.Mathlib.Numerals.{add-one}
use native.Mathlib.Omega.{arith}
use lib.ListN.{length, get_or, take, drop, replicate, drop_of_length-le, length-take, length-drop}
use lib.Seq.{drop-cons}
use Rattle.names.proofs.Count.{left-suc}
use Rattle.books.specs.Rules.{no_rule}
use Rattle.books.specs.declared.rule.Rule.{Rule}
use Rattle.pieces.specs.Masks.{painters_from, colour_masks, all_masks, Masked, masked, no_joins, put_body, split_from, cleared, split_of}
use Rattle.pieces.proofs.Splitting.{more-places}
use Rattle.pieces.proofs.masks.split.Goals as goal

-- one rule after the other
module _ (rules : List Rule) (s : Masked) where
  one_split : (i : ℕ) → i < length rules → let q = get_or rules i no_rule in
      split_from (drop i rules) s ≡ split_from (drop (i + 1) rules) (put_body s q.head q.body)
  unfolding split_from
  one_split i h = ap (λ (l : List Rule). split_from l s) (drop-cons rules i no_rule h ∙ ap (λ (n : ℕ). get_or rules i no_rule ∷ drop n rules) (sym (add-one i)))

  all_split : (i : ℕ) → length rules ≤ i → split_from (drop i rules) s ≡ s
  unfolding split_from
  all_split i h = rw (drop_of_length-le rules {i = i} h)

-- The painters are the last masks: where they are cleared, nothing stands after them.
painters-cleared : (masks zeros : List ℕ) → length masks ≡ all_masks → let rest = drop painters_from masks in let n = length masks - painters_from in
    zeros ≡ replicate (length (take n rest)) 0 → take painters_from masks ++ (zeros ++ drop n rest) ≡ cleared masks
painters-cleared masks zeros size e =
    let rest = drop painters_from masks in
    let n = length masks - painters_from in
    let all : length (take n rest) ≡ colour_masks = omega (arith, length-take n rest, length-drop painters_from masks) in
    let none : drop n rest ≡ [] = drop_of_length-le rest {i = n} (omega (arith, length-drop painters_from masks)) in
    rw (e, all, none)

pub loop-rule-preserved : goal.loop-rule-preserved
loop-rule-preserved c =
    let rows = c.args.rules.now in
    let before = masked c.loop-rule.masks c.loop-rule.joins in
    let q = get_or rows c.loop-rule.rule-index no_rule in
    let low = c.loop-rule-test.true in
    let put = c.put_rule-joins.ensures in
    let places = rw (left-suc (length rows) c.loop-rule.rule-index low) at c.loop-rule.invariant.1 in (
      omega arith,
      rw put (more-places _ before places q.head q.body),
      ap (split_from (drop (c.loop-rule.rule-index + 1) rows)) put ∙ sym (one_split rows before c.loop-rule.rule-index (omega (arith, low))) ∙ c.loop-rule.invariant.2,
    )

pub returns : goal.returns
unfolding split_of
returns c =
    let rows = c.args.rules.now in
    sym (all_split rows (masked c.loop-rule.masks c.loop-rule.joins) c.loop-rule.rule-index (omega (arith))) ∙ c.loop-rule.invariant.2
    ∙ ap (λ (l : List ℕ). split_from rows (masked l no_joins)) (painters-cleared c.args.masks.now _ c.requires.all c.clear.ensures)
