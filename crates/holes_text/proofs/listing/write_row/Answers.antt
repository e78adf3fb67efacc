use mathlib.Core.List.{◌++◌}
use Rattle.text.specs.Text.{word}
use Rattle.text.proofs.TextLaws.{then}
use Rattle.holes_text.proofs.listing.write_row.Goals as goal

pub returns : goal.returns
returns c =
    let a = c.args in
    then a.at (word a.slot 32) (word a.addr 32 ++ word a.size 10) a.out.now c.write_word-second.ensures
    (then c.write_word-second.result (word a.addr 32) (word a.size 10) c.write_word-second.new.out c.write_word-third.ensures c.write_word.ensures)
