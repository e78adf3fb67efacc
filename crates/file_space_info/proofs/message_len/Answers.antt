use Rattle.file_space_info.proofs.message_len.Goals as goal

pub returns-then-persist : goal.returns-then-persist
returns-then-persist c = rw c.if-persist.true

pub returns-else-persist : goal.returns-else-persist
returns-else-persist c = rw c.if-persist.false
