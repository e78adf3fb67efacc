use native.Mathlib.Omega.{arith}
use lib.ListN.{length}
use Rattle.stored_managers.proofs.StoringLaws.{cut-place, stored_is, stored_reads}
use Rattle.stored_managers.proofs.store_managers.Goals as goal

pub returns : goal.returns
returns c =
    let a = c.args in
    let k = cut-place _ _ _ (length a.bytes.now) (omega (arith, c.well_formed)) c.saturating_add.ensures c.min-at.ensures in
    record {
      stored = stored_is a.meta.now a.raw.now a.unclassified.now a.n a.page a.start a.base.0 a.offset_size a.bytes.now _ k _ _ c.serialize_paged_managers.ensures;
      read = stored_reads a.meta.now a.raw.now a.unclassified.now a.n a.page a.start a.base.0 a.offset_size a.bytes.now _ k _ _ c.serialize_paged_managers.ensures
          (omega (arith, c.well_formed));
    }
