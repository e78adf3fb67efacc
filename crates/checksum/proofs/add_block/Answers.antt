use Rattle.std.proofs.Common.{◌∙◌}
use Rattle.checksum.specs.Lookup3.{add32, block_added}
use Rattle.checksum.proofs.WordLaws.{word_part}
use Rattle.checksum.proofs.add_block.Goals as goal

pub returns : goal.returns
unfolding block_added add32
returns c =
    let k = c.args.bytes.now in
    rw (c.word.ensures, c.word-2.ensures ∙ word_part 4 k, c.word-3.ensures ∙ word_part 8 k)
