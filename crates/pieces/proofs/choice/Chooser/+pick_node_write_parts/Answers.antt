-- A piece's tree is its node and the trees of its two parts, the second behind the first.
use Rattle.std.proofs.Common.{◌≡◌, ℕ, ◌+◌, ◌≤◌, length, arith}
use native.Mathlib.Nat.{le_of_lt}
use borrow.Author.Rules.{rules}
use Rattle.pieces.specs.Area.{area}
use Rattle.pieces.specs.inner.Known.{view_of}
use Rattle.pieces.specs.inner.TreeWrote.{part_room, part_tree}
use Rattle.pieces.specs.inner.Fitted.{own}
use Rattle.pieces.proofs.Cutting.{cut_in, area-pos}
use Rattle.pieces.proofs.TreeSteps.{tree-length}
use Rattle.pieces.proofs.Nodes.{room-some, leaf-small, rule-small, cut_inside, cut_small, of_parts, parts-due, tree_of_lem, first-due, rest-due}
use Rattle.pieces.proofs.Writing.{wrote_on}
use Rattle.pieces.proofs.choice.Chooser.+pick_node_write_parts.Goals as goal
use Rattle.pieces.proofs.choice.Chooser.+pick_node_write_parts.Goals.{pick_node-Start, write_parts-Start}

-- where a piece's node begins: there is room for it
room : {t : ℕ} (c : pick_node-Start t) → c.args.at + 2 ≤ length c.args.tree.now
room c = let due = c.requires in omega (arith, due.room, room-some _ _ _ due.on)

-- where the parts begin, both have cells
cells : {t : ℕ} (c : write_parts-Start t) → (1 ≤ area c.args.parts.first.piece) × (1 ≤ area c.args.parts.rest.piece)
cells c = let due = c.requires in (area-pos _ _ _ due.first_on, area-pos _ _ _ due.rest_on)

-- how long the first part's tree is
first-room : {t : ℕ} (c : write_parts-Start t) → let a = c.args in
    length (part_tree (view_of a.self.now) a.self.now.rules.now a.parts.first) ≡ part_room a.parts.first
first-room c = let due = c.requires in tree-length _ _ _ _ _ _ due.first_on due.first_fitted

pub pick_node-choose-requires : goal.pick_node-choose-requires
pick_node-choose-requires t c = let due = c.requires in record { on = due.on; fits = due.fitted.at_each own }

pub pick_node-put_node-requires : goal.pick_node-put_node-requires
pick_node-put_node-requires t c =
    let low = leaf-small c.args.self.now.table.tabled.sizes c.args.self.now.few c.requires c.choose.ensures _ c.in-Leaf.is in
    record { room = room (goal.at.pick_node-put_node-requires t c).Start; rule_low = omega (arith, low); cut_low = search rules }

pub pick_node-put_node-next-requires : goal.pick_node-put_node-next-requires
pick_node-put_node-next-requires t c =
    let due = c.requires in
    let chosen = c.in-Join.is in
    let choice = c.choose.ensures in
    record {
      room = room (goal.at.pick_node-put_node-next-requires t c).Start;
      rule_low = rule-small c.args.self.now.table.tabled.sizes c.args.self.now.few due choice _ _ _ _ _ chosen;
      cut_low = cut_small c.args.self.now.table.tabled.sizes c.args.self.now.few due choice _ _ _ _ _ chosen;
    }

pub pick_node-parts_of-requires : goal.pick_node-parts_of-requires
pick_node-parts_of-requires t c =
    let due = c.requires in
    let inside = cut_inside c.args.self.now.table.tabled.sizes c.args.self.now.few due c.choose.ensures _ _ _ _ _ c.in-Join.is in
    cut_in _ _ _ due.on c.args.self.now.table.tabled.sizes _ _ (le_of_lt inside)

-- the measure of the two parts together is one below the piece's
pub pick_node-write_parts-requires : goal.pick_node-write_parts-requires
pick_node-write_parts-requires t c =
    let chosen = c.in-Join.is in
    let put = c.put_node-next in
    rw c.parts_of.ensures (
      omega (arith, c.decreases, of_parts c.args.self.now.table.tabled.sizes c.args.self.now.few c.requires c.choose.ensures _ _ _ _ _ chosen),
      parts-due c.args.self.now.table.tabled.sizes c.args.self.now.few c.requires c.choose.ensures _ _ _ _ _ chosen put.ensures.next_is put.auto.tree,
    )

pub pick_node-returns-in-Leaf : goal.pick_node-returns-in-Leaf
pick_node-returns-in-Leaf t c =
    rw (tree_of_lem c.args.self.now.table.tabled.sizes c.args.self.now.few c.requires c.choose.ensures _ c.in-Leaf.is) c.put_node.ensures

pub pick_node-returns-in-Join : goal.pick_node-returns-in-Join
pick_node-returns-in-Join t c =
    let tree = tree_of_lem c.args.self.now.table.tabled.sizes c.args.self.now.few c.requires c.choose.ensures _ c.in-Join.is in
    let behind = rw c.parts_of.ensures at c.write_parts.ensures in
    rw tree (wrote_on (room (goal.at.pick_node-returns-in-Join t c).Start) c.put_node-next.ensures behind)

pub write_parts-pick_node-next-requires : goal.write_parts-pick_node-next-requires
write_parts-pick_node-next-requires t c =
    (omega (arith, c.decreases, cells (goal.at.write_parts-pick_node-next-requires t c).Start), first-due c.requires)

pub write_parts-pick_node-requires : goal.write_parts-pick_node-requires
write_parts-pick_node-requires t c =
    let s = (goal.at.write_parts-pick_node-requires t c).Start in
    let f = c.pick_node-next in
    (omega (arith, c.decreases, cells s), rest-due c.requires (omega (arith, f.ensures.next_is, first-room s)) f.auto.tree)

pub write_parts-returns : goal.write_parts-returns
write_parts-returns t c =
    let s = (goal.at.write_parts-returns t c).Start in
    wrote_on (omega (arith, c.requires.room, first-room s)) c.pick_node-next.ensures c.pick_node.ensures
