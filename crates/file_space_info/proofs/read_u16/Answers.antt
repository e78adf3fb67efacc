use native.Mathlib.Omega.{arith}
use Rattle.fields.proofs.LayoutLaws.{le_at-lt}
use Rattle.file_space_info.proofs.read_u16.Goals as goal

pub overflow_cast-result : goal.overflow_cast-result
overflow_cast-result c =
    let a = c.args in
    omega (arith, le_at-lt a.at 2 a.bytes.now (λ i. (c.shared_slice_known-1.given i).fits))
