-- What the recorder's board comes to.
use Rattle.std.proofs.Common.{◌≡◌, ℕ, List, sym, ap, ◌∙◌}
use Rattle.log_entry.specs.declared.log.Log.{Log}
use Rattle.flat_machine.specs.Runs.{final_of}
use Rattle.run_model.specs.Run.{Run}
use Rattle.turn_model.specs.Board.{Supply, log_of}
use Rattle.crew_parts.specs.Boards.{Plain, EndsAs, board_of, state_of, spent, the_machine}
use Rattle.crew_parts.specs.Boards as boards
use Rattle.crew_parts.specs.Parts.{AreParts}
use Rattle.crew_core.specs.declared.crew.Crew.{Crew}
use Rattle.crew_core.specs.declared.finish.Finished.{Finished}
use Rattle.crew_core.specs.Standing.{Stands, terms_of}
use Rattle.crew_core.specs.Finish.{HasRuns, Finishes}
use Rattle.crew_core.proofs.Claiming.{streams_size}
use Rattle.crew_core.proofs.Stepping.{stands_outside}

pub has_runs : (c : Crew) (p : Plain) (runs : List Run) (left : Supply) → Stands c (board_of p spent) → c.harts ≡ p.harts → AreParts p runs
    → HasRuns runs (board_of p left)
has_runs c p runs left st harts parts = record {
  number = parts.number ∙ sym (streams_size c (board_of p spent) st ∙ harts);
  agree = parts.each;
}

pub ends_as : (c : Crew) (p : Plain) (runs : List Run) (f : Finished) (journal turns : List (ℕ × ℕ)) → Stands c (board_of p spent) → terms_of c
    ≡ boards.terms_of p
    → c.harts ≡ p.harts → AreParts p runs → Finishes c runs f → journal ≡ p.journal → turns ≡ p.turns → EndsAs p f.log f.ended journal turns
ends_as c p runs f journal turns st terms harts parts does same_journal same_turns =
    let last = does (board_of p spent) st (has_runs c p runs spent st harts parts) in
    record {
      log_is = λ left.
          (does (board_of p left) (stands_outside c (board_of p spent) left st) (has_runs c p runs left st harts parts)).log
          ∙ ap (λ t. log_of the_machine t (board_of p left)) terms;
      ended_is = last.ended ∙ ap (final_of (state_of p).flat) (sym (ap (λ (l : Log). l.cause) last.log));
      journal_is = same_journal;
      turns_are = same_turns;
    }
