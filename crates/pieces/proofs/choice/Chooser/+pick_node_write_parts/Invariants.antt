-- Twice the piece's area: the parts have one less than the piece, and each part has less than both together.
use Rattle.std.proofs.Common.{◌+◌, ◌-◌, ◌*◌}
use Rattle.pieces.specs.Area.{area}
use Rattle.pieces.proofs.choice.Chooser.+pick_node_write_parts.Given as goal

abbrev pub decreases-pick_node : goal.decreases-pick_node
decreases-pick_node l = 2 * area l.x.piece

abbrev pub decreases-write_parts : goal.decreases-write_parts
decreases-write_parts l = 2 * (area l.parts.first.piece + area l.parts.rest.piece) - 1
