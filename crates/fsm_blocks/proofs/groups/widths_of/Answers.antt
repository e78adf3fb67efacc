use native.Mathlib.Omega.{arith}
use Rattle.fsm_blocks.proofs.CountLaws.{widths_are}
use Rattle.fsm_blocks.proofs.groups.widths_of.Goals as goal

pub returns : goal.returns
returns c =
    widths_are c.args.header c.requires (omega (arith, c.well_formed)) (omega (arith, c.well_formed)) c.enc_size.ensures c.enc_size-2.ensures
