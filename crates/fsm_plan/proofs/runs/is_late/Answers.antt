use native.Mathlib.Omega.{arith}
use Rattle.fsm_sections.proofs.AnyLaws.{late_is}
use Rattle.fsm_plan.proofs.runs.is_late.Goals as goal

pub returns : goal.returns
returns c = late_is c.args.addr c.args.size (omega arith)
