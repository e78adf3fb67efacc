use Rattle.fields.proofs.RangeLaws.{ones_wide, ones_some, ones_narrow}
use Rattle.fields.proofs.convert.undefined_addr.Goals as goal

pub returns-then-offset_size-ge8 : goal.returns-then-offset_size-ge8
returns-then-offset_size-ge8 c = ones_wide _ c.if-offset_size-ge8.true

pub overflow_sub-result : goal.overflow_sub-result
overflow_sub-result c = ones_some _ c.if-offset_size-ge8.false

pub returns : goal.returns
returns c = ones_narrow _ c.if-offset_size-ge8.false
