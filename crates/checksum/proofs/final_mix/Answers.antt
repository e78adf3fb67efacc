use Rattle.checksum.specs.Lookup3.{finished}
use Rattle.checksum.proofs.final_mix.Goals as goal

pub returns : goal.returns
unfolding finished
returns c =
    rw (
      c.xor_sub_rot-c-3.ensures,
      c.xor_sub_rot-b-2.ensures,
      c.xor_sub_rot-a-2.ensures,
      c.xor_sub_rot-c-2.ensures,
      c.xor_sub_rot-b.ensures,
      c.xor_sub_rot-a.ensures,
      c.xor_sub_rot-c.ensures,
    )
