use Rattle.std.proofs.Common.{◌<◌, arith}
use Rattle.command_words.proofs.Digits.{small}
use Rattle.command_words.proofs.word.number_behind_digits.Goals as goal

pub overflow_mul-number : goal.overflow_mul-number
overflow_mul-number c =
    let here : c.loop-digit.digit-index < 12 = omega arith in
    omega (arith, small c.loop-digit.number c.loop-digit.digit-index c.loop-digit.invariant.small here)

pub overflow_add-number : goal.overflow_add-number
overflow_add-number c =
    let here : c.loop-digit.digit-index < 12 = omega arith in
    omega (arith, small c.loop-digit.number c.loop-digit.digit-index c.loop-digit.invariant.small here)
