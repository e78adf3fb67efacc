use Rattle.checksum.specs.Lookup3.{add32, mixed}
use Rattle.checksum.proofs.mix.Goals as goal

pub returns : goal.returns
unfolding mixed add32
returns c =
    rw (
      c.sub_xor_rot-c-2.ensures,
      c.sub_xor_rot-b-2.ensures,
      c.sub_xor_rot-a-2.ensures,
      c.sub_xor_rot-c.ensures,
      c.sub_xor_rot-b.ensures,
      c.sub_xor_rot-a.ensures,
    )
