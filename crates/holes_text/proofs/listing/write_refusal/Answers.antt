use Rattle.text.specs.Text.{word}
use Rattle.holes_text.specs.Listing.{refused_line, refused_text}
use Rattle.text.proofs.TextLaws.{then}
use Rattle.holes_text.proofs.listing.write_refusal.Goals as goal

pub returns : goal.returns
unfolding refused_text
returns c =
    let a = c.args in
    rw (← c.from.ensures) (then 0 refused_line (word c.from.result 10) a.out.now c.write_bytes-second.ensures c.write_word.ensures)
