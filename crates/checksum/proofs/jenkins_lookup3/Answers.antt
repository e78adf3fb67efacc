use Rattle.checksum.specs.Lookup3.{lookup3}
use Rattle.checksum.proofs.jenkins_lookup3.Goals as goal

pub returns : goal.returns
unfolding lookup3
returns c = c.hashlittle.ensures
