use Rattle.checksum.proofs.WordLaws.{rot_or}
use Rattle.checksum.proofs.rot.Goals as goal

pub returns : goal.returns
returns c = rot_or c.args.x c.args.k c.ranges.x.fits c.requires.1
