use Rattle.std.proofs.lemmas.Result.{err_from_is_err_and}
use Rattle.paged_calls.proofs.FreeLeftLaws.{leaves-metadata, leaves-raw}
use Rattle.paged_calls.proofs.free_pages.give_back_for.Goals as goal

pub returns-in_err-step-in-Meta : goal.returns-in_err-step-in-Meta
returns-in_err-step-in-Meta c =
    let a = c.args in
    let p = err_from_is_err_and c.from_residual.result c.from_residual.ensures.1 in
    rw (p.1, p.2) (leaves-metadata a.page a.kind a.f a.metadata.now a.raw.now a.unclassified.now a.marks.now a.lists _ _ _ _ c.in-Meta.is
    c.give_back.ensures c.in_err-step-in-Meta.was)

pub returns-in_err-step-in-Raw : goal.returns-in_err-step-in-Raw
returns-in_err-step-in-Raw c =
    let a = c.args in
    let p = err_from_is_err_and c.from_residual-in_err-step-in-Raw.result c.from_residual-in_err-step-in-Raw.ensures.1 in
    rw (p.1, p.2) (leaves-raw a.page a.kind a.f a.metadata.now a.raw.now a.unclassified.now a.marks.now a.lists _ _ _ _ c.in-Raw.is
    c.give_back-in-Raw.ensures c.in_err-step-in-Raw.was)

pub returns-in_ok-step-in-Meta : goal.returns-in_ok-step-in-Meta
returns-in_ok-step-in-Meta c =
    let a = c.args in
    leaves-metadata a.page a.kind a.f a.metadata.now a.raw.now a.unclassified.now a.marks.now a.lists _ _ _ _ c.in-Meta.is
    c.give_back.ensures c.in_ok-step-in-Meta.was

pub returns-in_ok-step-in-Raw : goal.returns-in_ok-step-in-Raw
returns-in_ok-step-in-Raw c =
    let a = c.args in
    leaves-raw a.page a.kind a.f a.metadata.now a.raw.now a.unclassified.now a.marks.now a.lists _ _ _ _ c.in-Raw.is
    c.give_back-in-Raw.ensures c.in_ok-step-in-Raw.was
