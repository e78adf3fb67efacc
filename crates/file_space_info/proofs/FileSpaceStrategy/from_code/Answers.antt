use native.Mathlib.Omega.{arith}
use lib.Dec.{lit≤}
use Rattle.file_space_info.proofs.StrategyLaws.{from_is, from-over}
use Rattle.file_space_info.proofs.FileSpaceStrategy.from_code.Goals as goal

pub returns-in-0 : goal.returns-in-0
returns-in-0 c = from_is _ _ c.in-0.is (lit≤ tt)

pub returns-in-1 : goal.returns-in-1
returns-in-1 c = from_is _ _ c.in-1.is (lit≤ tt)

pub returns-in-2 : goal.returns-in-2
returns-in-2 c = from_is _ _ c.in-2.is (lit≤ tt)

pub returns-in-3 : goal.returns-in-3
returns-in-3 c = from_is _ _ c.in-3.is (lit≤ tt)

pub returns-in_default : goal.returns-in_default
returns-in_default c =
    from-over _ (omega (arith, c.in_default.in_default-own.rest.1, c.in_default.in_default-own.rest.0.1, c.in_default.in_default-own.rest.0.0.1, c.in_default.in_default-own.rest.0.0.0.1))
