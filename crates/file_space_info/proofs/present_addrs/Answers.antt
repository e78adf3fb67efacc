use Rattle.file_space_info.specs.Message.{present}
use borrow.Author.Rules.{rules}
use Rattle.file_space_info.proofs.present_addrs.Goals as goal

pub returns-then-persist : goal.returns-then-persist
unfolding present
returns-then-persist c = rw (c.if-persist.true, c.fixed_len.ensures)

pub returns-else-persist : goal.returns-else-persist
unfolding present
returns-else-persist c = search rules
