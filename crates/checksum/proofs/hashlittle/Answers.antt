use Rattle.std.proofs.Common.{◌≡◌, ◌<◌, ℕ, sym, ◌∙◌, arith, rules}
use Rattle.checksum.proofs.HashLaws.{hash_start, hash_step, hash_none, hash_some}
use Rattle.checksum.proofs.hashlittle.Goals as goal

some : {n : ℕ} → (n ≡ 0 → ⊥) → 0 < n
some h = omega arith

pub loop-rest-init : goal.loop-rest-init
loop-rest-init c = hash_start c.args.data.now c.args.initval

pub loop-rest-preserved : goal.loop-rest-preserved
loop-rest-preserved c =
    let l = c.loop-rest in
    rw (c.mix-w.ensures, c.add_block.ensures) (sym (hash_step l.rest.now l.w c.loop-rest-test.true) ∙ l.invariant)

pub returns-then-is_empty : goal.returns-then-is_empty
returns-then-is_empty c =
    let l = c.loop-rest in
    sym (hash_none l.rest.now l.w (search rules)) ∙ l.invariant

pub returns : goal.returns
returns c =
    let l = c.loop-rest in
    rw (c.final_mix.ensures, c.add_tail.ensures) (sym (hash_some l.rest.now l.w (some (search rules)) (omega arith)) ∙ l.invariant)
