use native.Mathlib.Omega.{arith}
use Rattle.fields.proofs.WidthLaws.{bytes_of}
use Rattle.fields.proofs.width.enc_size.Goals as goal

pub returns : goal.returns
returns c = bytes_of c.args.value _ c.ranges.value.fits (omega arith)
