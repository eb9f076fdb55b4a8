-- Each colour of the second list is looked for in the first: held, it has its number there, and lacked, it is listed after all before it.
use lib.ListN.{length}
use Rattle.families.proofs.MergingLists.{SoFar}
use Rattle.families.proofs.lent.LentBook.merged.Given as goal

abbrev pub invariant-loop-i : goal.invariant-loop-i
invariant-loop-i l = SoFar l.self.bytes.now l.self.family.now.colours l.second.bytes.now l.second.family.now.colours (length l.yielded) l.more l.numbers
