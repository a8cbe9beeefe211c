-- Recordings that were worked out by hand, by computation.
use Rattle.std.proofs.Common.{unwrap_or, refl}
use Rattle.replay_model.specs.Worked.{Scripted, first}
use Rattle.turn_model.specs.Board.{Board, Terms, board_at_start, harts}
use Rattle.turn_model.specs.Rounds.{rounds, last_turns}
use Rattle.turn_model.specs.Worked.{racing_machine, terms_of, fives, AreRecorded}

abbrev terms : Terms
terms = terms_of 2 8 67108864

abbrev begin : Board Scripted
begin = board_at_start terms 2 (first 2) (fives 2)

abbrev behind_rounds : Board Scripted
behind_rounds = unwrap_or (rounds racing_machine terms 0 5 begin) begin

abbrev at_end : Board Scripted
at_end = unwrap_or (last_turns racing_machine terms (harts behind_rounds) behind_rounds) begin

pub are_recorded : AreRecorded
are_recorded = record {
  smallest = refl;
  cut = refl;
  full = refl;
  sent = refl;
  fault = refl;
  no_moves = refl;
  race = refl;
  written_code = refl;
  claims = refl;
  favour = refl;
  modes = refl;
  in_rounds = record { number = 5; over = behind_rounds; closed = at_end; are_made = refl; is_over = refl; last = refl; recorded = refl };
}
