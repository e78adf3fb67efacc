use Rattle.std.proofs.Common.{◌≡◌, ◌+◌, ◌*◌, ◌∙◌, rules}
use Rattle.replay_calls.proofs.WordLaws.{spell_start, spell_step}
use Rattle.replay_calls.proofs.words.number_of.Goals as goal

pub loop-byte-init : goal.loop-byte-init
loop-byte-init c = spell_start

pub loop-byte-preserved : goal.loop-byte-preserved
loop-byte-preserved c =
    let l = c.loop-byte in
    let tens : c.in_ok-tens.tens ≡ l.value * 10 = search rules in
    let sum : c.in_ok-value.value ≡ c.in_ok-tens.tens + c.in_ok-digit.digit = search rules in
    sum ∙ spell_step c.args.word.now l.byte-index l.value c.in_ok-tens.tens c.in_ok-digit.digit c.loop-byte-test.true l.invariant tens c.in_ok-digit.ensures.1
