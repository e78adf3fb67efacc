use Rattle.bench_save.proofs.lists_of.Goals as goal

pub returns : goal.returns
returns c = rw (c.total_at.ensures, c.total_at-2.ensures, c.total_at-3.ensures)
