use Rattle.std.proofs.Common.{refl}
use Rattle.fsm_sections.proofs.SourceLaws.{part_is, head_chain, whole-chain, pages-is, tail_is, left_within}
use Rattle.fsm_sections.specs.Sections.{section}
use Rattle.fsm_sections.proofs.parts.part_chain.Goals as goal

pub overflow_sub-size-in-Tail-2 : goal.overflow_sub-size-in-Tail-2
overflow_sub-size-in-Tail-2 c = let a = c.args in left_within a.part a.page a.addr a.size _ _ c.remainder-left.ensures

pub returns-in-Head : goal.returns-in-Head
returns-in-Head c =
    let a = c.args in
    part_is a.part a.page (section a.addr a.size) _
    (head_chain a.part a.page a.addr a.size _ _ c.in-Head.is c.head_size.ensures c.one_chain.ensures)

pub returns-in-Pages : goal.returns-in-Pages
returns-in-Pages c =
    let a = c.args in
    pages-is a.part a.page a.addr a.size _ _ _ c.in-Pages.is c.head_size-head.ensures
    c.quotient.ensures refl

pub returns-in-Tail : goal.returns-in-Tail
returns-in-Tail c =
    let a = c.args in
    tail_is a.part a.page a.addr a.size _ _ _ _ c.in-Tail.is c.head_size-in-Tail.ensures
    c.remainder-left.ensures refl c.one_chain-in-Tail.ensures

pub returns-in-Whole : goal.returns-in-Whole
returns-in-Whole c =
    let a = c.args in
    part_is a.part a.page (section a.addr a.size) _ (whole-chain a.part a.page a.addr a.size c.in-Whole.is)
