-- the fixed part is accepted where the code goes on
use native.Mathlib.Omega.{arith}
use Rattle.std.proofs.lemmas.Result.{err_from_is_err_and}
use Rattle.file_space_info.proofs.ReadLaws.{accepted, parsed-refused, count-within, parsed-over, parsed-is}
use Rattle.file_space_info.proofs.FileSpaceInfo.parse.Goals as goal

pub present_addrs-count-requires : goal.present_addrs-count-requires
present_addrs-count-requires c =
    let told = c.in_ok-info.ensures in
    let ok = accepted _ _ _ _ told in
    (ok.size.os_low, ok.long)

pub returns-then-addrs-count : goal.returns-then-addrs-count
returns-then-addrs-count c =
    let told = c.in_ok-info.ensures in
    let a = c.args in
    parsed-over a.offset_size a.length_size a.bytes.now a.addrs.now c.in_ok-info.info told c.present_addrs-count.result c.present_addrs-count.ensures (omega arith)

pub read_addrs-requires : goal.read_addrs-requires
read_addrs-requires c =
    let told = c.in_ok-info.ensures in
    let a = c.args in
    let m = c.in_ok-info.info in
    let n = c.present_addrs-count in
    let w = count-within a.offset_size a.length_size a.bytes.now a.addrs.now m told n.result n.ensures in
    ((accepted _ _ _ _ told).size.os_high, omega arith, omega arith)

pub returns-in_err-info : goal.returns-in_err-info
returns-in_err-info c =
    let a = c.args in
    let p = err_from_is_err_and c.from_residual.result c.from_residual.ensures.1 in
    rw (p.1, p.2) (parsed-refused a.offset_size a.length_size a.bytes.now a.addrs.now _ c.in_err-info.ensures)

pub returns : goal.returns
returns c =
    let told = c.in_ok-info.ensures in
    let a = c.args in
    let m = c.in_ok-info.info in
    let n = c.present_addrs-count in
    parsed-is a.offset_size a.length_size a.bytes.now a.addrs.now m told n.result n.ensures (omega arith) c.fixed_len.ensures c.read_addrs.ensures
