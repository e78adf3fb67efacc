use Rattle.file_space_info.proofs.ReadLaws.{info-is}
use Rattle.file_space_info.proofs.fixed_fields.Goals as goal

pub returns : goal.returns
returns c =
    let a = c.args in
    info-is a.offset_size a.length_size a.strategy a.bytes.now c.requires.0 c.requires.1 c.read_uint_le.ensures c.read_uint_le-2.ensures c.read_u16.ensures c.read_uint_le-3.ensures
