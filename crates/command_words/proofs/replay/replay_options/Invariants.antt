use Rattle.std.proofs.Common.{◌≡◌, ◌+◌, [], ◌∷◌, length, string_bytes}
use Rattle.command_words.specs.Texts.{texts}
use Rattle.command_words.specs.Options.{options, AnOption}
use Rattle.command_words.specs.Tables.{replay_option, no_replay_option}
use Rattle.command_words.specs.Allowed.{IsBelow}
use Rattle.command_words.proofs.replay.replay_options.Given as goal

-- What is left to read gives what all the words give.
abbrev pub invariant-loop-rest : goal.invariant-loop-rest
invariant-loop-rest l = record {
  reads : options replay_option (string_bytes l.image ∷ string_bytes l.log ∷ []) (AnOption no_replay_option) 3 (texts l.words)
      ≡ options replay_option (string_bytes l.image ∷ string_bytes l.log ∷ []) (AnOption l.given) l.place (texts l.rest);
  place : l.place + length l.rest ≡ 3 + length l.words;
  dump : IsBelow (3 + length l.words) l.given.dump;
}

abbrev pub decreases-loop-rest : goal.decreases-loop-rest
decreases-loop-rest l = length l.rest
