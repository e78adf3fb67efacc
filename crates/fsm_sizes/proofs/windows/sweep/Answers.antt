use Rattle.std.proofs.Common.{◌+◌, refl, arith}
use Rattle.fsm_sections.specs.Sections.{of_size}
use Rattle.fsm_sections.specs.Chains.{sections_of}
use Rattle.fsm_sections.specs.Sources.{chains_of}
use Rattle.fsm_sizes.proofs.NoteLaws.{stands-full, stands_then, stands-over-by, stands_by_then}
use Rattle.fsm_sizes.proofs.SourceSizesLaws.{stands-again, A, B, C, all_three}
use Rattle.fsm_sizes.proofs.windows.sweep.Goals as goal

pub returns-in_err-x : goal.returns-in_err-x
returns-in_err-x c =
    let a = c.args in
    rw c.from_residual.ensures (stands-full a.w.from a.w.reach (λ x. of_size x (A a.s a.a.now a.b.now a.c.now)) _ _ _ _ _ _ _ c.in_err-x.ensures (omega arith))

pub gather_run-requires-2 : goal.gather_run-requires-2
gather_run-requires-2 c =
    let a = c.args in
    let e = c.in_ok-x.ensures in
    record {
      room = (e.1.room, c.requires.room.1, omega (arith, e.0, e.1.same));
      stands = stands-again a.w.from a.w.reach (λ x. of_size x (A a.s a.a.now a.b.now a.c.now)) _ _ _ _ _ _ e.1;
    }

pub returns-in_err-y : goal.returns-in_err-y
returns-in_err-y c =
    let a = c.args in
    let e = c.in_ok-x.ensures in
    rw c.from_residual-in_err-y.ensures
    (stands-over-by a.w.from a.w.reach (λ x. of_size x (A a.s a.a.now a.b.now a.c.now)) _ _ _ _ _ _ _ e.1 e.0 (λ x. of_size x (B a.s a.a.now a.b.now a.c.now)) _ _ _ c.in_err-y.ensures)

pub gather_run-requires-3 : goal.gather_run-requires-3
gather_run-requires-3 c =
    let a = c.args in
    let e = c.in_ok-y.ensures in
    record {
      room = (e.1.room, c.requires.room.1, omega (arith, e.0, e.1.same));
      stands = stands-again a.w.from a.w.reach (λ x. of_size x (B a.s a.a.now a.b.now a.c.now)) _ _ _ _ _ _ e.1;
    }

pub returns : goal.returns
returns c =
    let a = c.args in
    let e = c.in_ok-x.ensures in
    let f = c.in_ok-y.ensures in
    let two = stands_then a.w.from a.w.reach (λ x. of_size x (A a.s a.a.now a.b.now a.c.now)) (λ x. of_size x (A a.s a.a.now a.b.now a.c.now) + of_size x (B a.s a.a.now a.b.now a.c.now)) _ _ _ _ _ _ e.1 e.0 (λ x. of_size x (B a.s a.a.now a.b.now a.c.now)) _ _ _ _ f.1 (λ x. refl) in
    stands_by_then a.w.from a.w.reach (λ x. of_size x (A a.s a.a.now a.b.now a.c.now) + of_size x (B a.s a.a.now a.b.now a.c.now)) (λ x. of_size x (sections_of (chains_of a.s a.a.now a.b.now a.c.now))) _ _ _ _ _ _ two (omega (arith, f.0, e.1.same)) (λ x. of_size x (C a.s a.a.now a.b.now a.c.now)) _ _ _ _ c.gather_run-3.ensures (all_three a.s a.a.now a.b.now a.c.now)
