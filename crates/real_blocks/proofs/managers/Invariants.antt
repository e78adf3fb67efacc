use lib.ListN.{length}
use Rattle.real_blocks.proofs.managers.Given as goal

abbrev pub decreases-loop-taken : goal.decreases-loop-taken
decreases-loop-taken g l = length l.rest
