use Rattle.std.proofs.Common.{◌≡◌, ◌<◌, ◌+◌, ◌^◌, drop}
use Rattle.command_words.specs.Texts.{number_behind_digits}
use Rattle.command_words.proofs.word.number_behind_digits.Given as goal

-- The number so far is that of the digits before this one.
abbrev pub invariant-loop-digit : goal.invariant-loop-digit
invariant-loop-digit l = record {
  rest : number_behind_digits l.start l.digits ≡ number_behind_digits l.number (drop l.digit-index l.digits);
  small : l.number < 10 ^ (l.digit-index + 1);
}
