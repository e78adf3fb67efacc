-- the first records are those that are shown after as many pieces, and the other pieces are left
use mathlib.Core.Path.{◌≡◌}
use lib.ListN.{take, drop}
use Rattle.split_records.specs.Records.{pieces_left}
use Rattle.split_records.proofs.RecordLaws.{all, shown}
use Rattle.split_records.proofs.split_at_pages.Given as goal

abbrev pub invariant-loop-record : goal.invariant-loop-record
invariant-loop-record l = record {
  stored : l.record-items ≡ shown l.sections l.count l.page (take l.n l.fn.out) l.record-index;
  others : drop l.record-index (all l.sections l.count l.page) ≡ pieces_left l.page l.count l.sections l.at.section l.at.done;
}
