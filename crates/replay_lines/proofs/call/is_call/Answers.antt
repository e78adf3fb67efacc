use Rattle.std.proofs.Common.{◌∙◌, sym, rules}
use Rattle.std.specs.Cmp.Lexicographic.{same_text, other_text}
use Rattle.replay_lines.proofs.CallLaws.{name_not, name_ends, name-goes}
use Rattle.replay_lines.proofs.call.is_call.Goals as goal

pub returns-then-is_empty : goal.returns-then-is_empty
returns-then-is_empty c =
    let a = c.args in
    let f = c.in-Some.ensures.cases in
    c.if-is_empty.true ∙ name_ends a.name.now a.line.now c.in-Some.rest.now (same_text _ _ (sym f.0)) f.1 (search rules)

pub returns-else-is_empty : goal.returns-else-is_empty
returns-else-is_empty c =
    let a = c.args in
    let f = c.in-Some.ensures.cases in
    name-goes a.name.now a.line.now c.in-Some.rest.now (same_text _ _ (sym f.0)) f.1 (search rules)

pub returns-in-None : goal.returns-in-None
returns-in-None c = name_not c.args.name.now c.args.line.now (other_text _ _ (sym c.in-None.ensures.cases))
