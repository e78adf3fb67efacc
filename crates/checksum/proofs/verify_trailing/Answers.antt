use Rattle.std.proofs.Common.{◌≤◌, List, ℕ, length, take, ap, ◌∙◌, arith}
use Rattle.fields.specs.Le.{le_value}
use Rattle.checksum.specs.Lookup3.{lookup3}
use Rattle.checksum.proofs.TrailingLaws.{short, differs, agrees}
use Rattle.checksum.proofs.verify_trailing.Goals as goal

pub returns-in_default : goal.returns-in_default
returns-in_default c = short c.args.block.now c.in_default.ensures.cases

pub returns-then-computed-stored : goal.returns-then-computed-stored
returns-then-computed-stored c =
    let k = c.in-Some.ensures.cases in
    let long : 4 ≤ length c.args.block.now = omega (arith, k.2) in
    differs c.args.block.now _ _ long
    (c.word-stored.ensures ∙ ap (λ (l : List ℕ). le_value (take 4 l)) k.1) (c.jenkins_lookup3-computed.ensures ∙ ap lookup3 k.0) c.if-computed-stored.true

pub returns : goal.returns
returns c =
    let k = c.in-Some.ensures.cases in
    let long : 4 ≤ length c.args.block.now = omega (arith, k.2) in
    agrees c.args.block.now _ _ long
    (c.word-stored.ensures ∙ ap (λ (l : List ℕ). le_value (take 4 l)) k.1) (c.jenkins_lookup3-computed.ensures ∙ ap lookup3 k.0) c.if-computed-stored.false
