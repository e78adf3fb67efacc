use native.Mathlib.Omega.{arith}
use borrow.Author.Tests.{ne_eqb}
use Rattle.end_to_end.specs.Encoding.{which_of}
use Rattle.end_to_end.proofs.calls.which_of.Goals as goal

pub returns-in-0 : goal.returns-in-0
unfolding which_of
returns-in-0 c = rw c.in-0.is

pub returns-in-1 : goal.returns-in-1
unfolding which_of
returns-in-1 c = rw c.in-1.is

pub returns-in_default : goal.returns-in_default
unfolding which_of
returns-in_default c = let n = c.args.number in rw (ne_eqb n 0 (omega arith), ne_eqb n 1 (omega arith))
