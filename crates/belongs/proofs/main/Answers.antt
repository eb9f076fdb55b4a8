-- No sheet has more nodes than the tree slice is long enough for.
use Rattle.std.proofs.Common.{arith}
use Rattle.books.specs.Press.{greatest_of}
use Rattle.belongs.proofs.NodesGiven.{nodes-few}
use Rattle.belongs.proofs.main.Goals as goal

pub print_nodes-requires : goal.print_nodes-requires
unfolding greatest_of
print_nodes-requires c = omega (arith, nodes-few _ _ c.nodes.ensures, c.derive.auto.tree)
