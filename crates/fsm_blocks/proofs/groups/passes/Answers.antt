use Rattle.fsm_blocks.proofs.CountLaws.{product_fits, by_quotient}
use Rattle.fsm_blocks.proofs.groups.passes.Goals as goal

pub overflow_mul-result : goal.overflow_mul-result
overflow_mul-result c =
    let a = c.args in record { fits = product_fits a.count a.entry c.if-count-lt4294967296.true c.requires.1 }

pub returns : goal.returns
returns c = let a = c.args in by_quotient a.room a.count a.entry c.requires.0
