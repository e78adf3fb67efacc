use native.Mathlib.Omega.{arith}
use Rattle.fsm_plan.proofs.PlanLaws.{second-room, third_asked, slots-put}
use Rattle.fsm_plan.proofs.plan.put_slots.Goals as goal

pub put_small-k-requires : goal.put_small-k-requires
put_small-k-requires c =
    let p = c.requires in
    record { page = p.given.some; fits = p.fits.0; room = omega (arith, p.room) }

pub put_small-j-requires : goal.put_small-j-requires
put_small-j-requires c =
    let a = c.args in
    let p = c.requires in
    record { page = p.given.some; fits = p.fits.1; room = second-room a.s a.meta.now a.raw.now a.unclassified.now a.out.now p.given.some p.room _ _ c.put_small-k.ensures.put c.put_small-k.ensures.next }

pub put_large-requires : goal.put_large-requires
put_large-requires c =
    let every = let a = c.args in
    let p = c.requires in
    third_asked a.s a.meta.now a.raw.now a.unclassified.now a.out.now p.given.some p.room _ _ c.put_small-k.ensures.put c.put_small-k.ensures.next _ _ c.put_small-j.ensures.put c.put_small-j.ensures.next _ c.source_of-source.ensures p.given in
    record { given = every.0; room = every.1 }

pub returns : goal.returns
returns c =
    let a = c.args in
    let p = c.requires in
    slots-put a.s a.meta.now a.raw.now a.unclassified.now a.out.now p.given.some p.room _ _ c.put_small-k.ensures.put c.put_small-k.ensures.next _ _ c.put_small-j.ensures.put c.put_small-j.ensures.next _ c.source_of-source.ensures _ c.put_large.ensures
