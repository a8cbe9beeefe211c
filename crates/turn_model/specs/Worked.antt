-- Recordings that were worked out by hand, on machines whose harts do what a script says.
use Rattle.std.specs.Prelude.{ℕ, zero, suc, ◌≡◌, ◌==◌, true, false, List, [], ◌∷◌, replicate, slice_index, Option, Some, None, if◌then◌else◌}
use Rattle.std.specs.Option.{option_map}
use Rattle.rv_words.specs.declared.shared.Mode.{Mode}
use Rattle.rv_words.specs.declared.shared.Mode.TheVariants.{Read, Write}
use Rattle.rv_words.specs.declared.shared.Input.TheVariants.{Nothing}
use Rattle.rv_words.specs.declared.shared.Cause.TheVariants.{Stop, Limit, Full, Fault, Cut}
use Rattle.rv_words.specs.declared.shared.DeviceWord.TheVariants as words
use Rattle.log_entry.specs.declared.log.Entry.TheVariants as e
use Rattle.log_entry.specs.declared.log.Log.{Log}
use Rattle.order_rules.specs.Worked.{log_of, gain, from, race_log}
use Rattle.replay_model.specs.Worked.{Scripted, first, ended, stopping, racing, stop_log, race_journal}
use Rattle.turn_model.specs.Recordable.{Recordable}
use Rattle.turn_model.specs.Board.{Supply, Terms, board_at_start}
use Rattle.turn_model.specs.Lists.{RecordingEnd, recorded_by_list}
use Rattle.turn_model.specs.Rounds.{IsRecordedInRounds}

-- a hart that stores 7 to STOP in its third move
abbrev pub stopping_machine : Recordable Scripted ℕ
stopping_machine = record { flat = stopping; access = λ s h. if slice_index s.counts h == 2 then Some (words.Stop, Some 7) else None }

abbrev pub racing_machine : Recordable Scripted ℕ
racing_machine = record { flat = racing; access = λ s h. None }

abbrev pub terms_of : ℕ → ℕ → ℕ → Terms
terms_of pages limit log_limit = record { pages = pages; image = replicate 32 0; limit = limit; log_limit = log_limit }

-- a hart that sends a byte in its third move
abbrev pub sending_machine : Recordable Scripted ℕ
sending_machine = record { flat = stopping; access = λ s h. if slice_index s.counts h == 2 then Some (words.Tx, Some 65) else None }

-- hart 0 stores in the page of the code in its fifth move
abbrev pub writing_needs : ℕ → ℕ → List (ℕ × Mode)
writing_needs zero (suc (suc (suc (suc zero)))) = (0, Read) ∷ (0, Write) ∷ []
writing_needs h count = (0, Read) ∷ []

abbrev pub writing_machine : Recordable Scripted ℕ
writing_machine = record { flat = record racing { need = λ s h. writing_needs h (slice_index s.counts h) }; access = λ s h. None }

abbrev pub writing_list : List (ℕ × ℕ)
writing_list = (0, 12) ∷ (1, 12) ∷ (0, 12) ∷ (1, 4) ∷ (0, 12) ∷ (0, 1) ∷ (1, 12) ∷ (1, 12) ∷ (0, 12) ∷ []

abbrev pub writing_log : Log
writing_log = log_of 1 12 Limit (
    (e.Poll 0 0 5 0 ∷ gain 0 0 0 Read [] ∷ gain 4 0 3 Write (from 1 4 ∷ []) ∷ e.Yield 5 0 4 (Some Read) ∷ e.End 12 ∷ [])
    ∷ (e.Poll 0 1 5 0 ∷ gain 0 0 1 Read [] ∷ e.Yield 4 0 2 None ∷ gain 4 0 5 Read (from 0 5 ∷ []) ∷ e.End 12 ∷ [])
    ∷ [])

-- a clock that answers 5 so many times
abbrev pub fives : ℕ → Supply
fives n = record { answers = []; takes = 0; times = replicate n 5 }

abbrev pub by_list : Recordable Scripted ℕ → Terms → ℕ → Supply → List (ℕ × ℕ) → Option (RecordingEnd Scripted)
by_list machine terms harts supply list = recorded_by_list machine terms list (board_at_start terms harts (first harts) supply)

abbrev pub race_list : List (ℕ × ℕ)
race_list = (0, 8) ∷ (1, 8) ∷ (0, 8) ∷ (1, 8) ∷ (0, 2) ∷ (1, 2) ∷ (0, 8) ∷ (0, 8) ∷ (1, 8) ∷ (1, 8) ∷ []

-- the race in rounds: harts are favoured in turn
abbrev pub round_log : Log
round_log = log_of 2 8 Limit (
    (e.Poll 0 0 5 0 ∷ gain 0 0 0 Read [] ∷ gain 1 1 1 Read [] ∷ gain 3 1 3 Write (from 1 3 ∷ []) ∷ e.Yield 8 1 4 None ∷ e.End 8 ∷ [])
    ∷ (e.Poll 0 1 5 0 ∷ gain 0 0 1 Read [] ∷ gain 1 1 0 Read [] ∷ e.Yield 3 1 2 None ∷ gain 3 1 5 Write (from 0 8 ∷ []) ∷ e.End 8 ∷ [])
    ∷ [])

abbrev pub round_journal : List (ℕ × ℕ)
round_journal = (0, 2) ∷ (1, 2) ∷ (1, 2) ∷ (0, 2) ∷ (0, 2) ∷ (1, 3) ∷ (0, 1) ∷ (0, 6) ∷ (1, 1) ∷ (1, 5) ∷ []

abbrev pub round_turns : List (ℕ × ℕ)
round_turns = (0, 0) ∷ (1, 0) ∷ (1, 1) ∷ (0, 1) ∷ (0, 2) ∷ (1, 2) ∷ (0, 0) ∷ (0, 5) ∷ (1, 0) ∷ (0, 0) ∷ (1, 5) ∷ (0, 0) ∷ (0, 0) ∷ []

-- hart 0 wants page 0 of hart 1 and hart 2 page 1: once hart 1 yielded page 0, from which it fetches, it claims nothing behind that
-- page, and yields page 1 too
abbrev pub claiming_needs : ℕ → ℕ → List (ℕ × Mode)
claiming_needs zero count = (0, Read) ∷ (0, Write) ∷ []
claiming_needs (suc zero) count = (0, Read) ∷ (1, Write) ∷ []
claiming_needs h count = (0, Read) ∷ (1, Read) ∷ []

abbrev pub claiming_machine : Recordable Scripted ℕ
claiming_machine = record { flat = record racing { need = λ s h. claiming_needs h (slice_index s.counts h) }; access = λ s h. None }

abbrev pub claiming_log : Log
claiming_log = log_of 2 1 Cut (
    (e.Poll 0 2 5 0 ∷ gain 0 0 2 Read [] ∷ e.End 0 ∷ [])
    ∷ (e.Poll 0 0 5 0 ∷ gain 0 0 0 Read [] ∷ gain 0 1 0 Write [] ∷ e.Yield 0 0 3 None ∷ e.Yield 0 1 1 (Some Read) ∷ e.End 0 ∷ [])
    ∷ (e.Poll 0 1 5 0 ∷ gain 0 0 1 Read [] ∷ e.End 0 ∷ [])
    ∷ [])

-- harts 1 and 2 store in the page of the code in their first moves, and wait for one another as the favour goes round
abbrev pub favour_needs : ℕ → ℕ → List (ℕ × Mode)
favour_needs (suc h) zero = (0, Read) ∷ (0, Write) ∷ []
favour_needs h count = (0, Read) ∷ []

abbrev pub favour_machine : Recordable Scripted ℕ
favour_machine = record { flat = record racing { need = λ s h. favour_needs h (slice_index s.counts h) }; access = λ s h. None }

abbrev pub favour_list : List (ℕ × ℕ)
favour_list = (1, 2) ∷ (0, 3) ∷ (0, 1) ∷ (1, 3) ∷ (1, 0) ∷ (2, 3) ∷ (0, 0) ∷ (2, 1) ∷ (2, 0) ∷ (1, 2) ∷ (1, 1) ∷ (0, 1) ∷ []

abbrev pub favour_log : Log
favour_log = log_of 1 2 Cut (
    (e.Poll 0 1 5 0 ∷ gain 0 0 4 Read [] ∷ e.Yield 1 0 6 None ∷ e.End 1 ∷ [])
    ∷ (e.Poll 0 0 5 0 ∷ gain 0 0 0 Read [] ∷ gain 0 0 1 Write [] ∷ e.Yield 2 0 2 (Some Read) ∷ e.Yield 2 0 5 None ∷ e.End 2 ∷ [])
    ∷ (e.Poll 0 2 5 0 ∷ gain 0 0 3 Read (from 1 2 ∷ []) ∷ e.End 0 ∷ [])
    ∷ [])

-- harts that want two pages in turn: a want of another page is no rival, and a claim keeps a page only in a mode that conflicts
abbrev pub modes_needs : ℕ → ℕ → List (ℕ × Mode)
modes_needs zero zero = (0, Read) ∷ (1, Write) ∷ []
modes_needs h zero = (0, Read) ∷ []
modes_needs (suc (suc h)) count = (1, Read) ∷ (0, Read) ∷ []
modes_needs h count = (1, Read) ∷ (0, Write) ∷ []

abbrev pub modes_machine : Recordable Scripted ℕ
modes_machine = record { flat = record racing { need = λ s h. modes_needs h (slice_index s.counts h) }; access = λ s h. None }

abbrev pub modes_list : List (ℕ × ℕ)
modes_list = (1, 1) ∷ (0, 2) ∷ (0, 3) ∷ (2, 1) ∷ (0, 0) ∷ (1, 1) ∷ (0, 3) ∷ (2, 3) ∷ (2, 0) ∷ (1, 0) ∷ (2, 3) ∷ []

abbrev pub modes_log : Log
modes_log = log_of 2 2 Cut (
    (e.Poll 0 1 5 0 ∷ gain 0 0 1 Read [] ∷ gain 0 1 0 Write [] ∷ e.Yield 1 1 1 (Some Read) ∷ e.End 1 ∷ [])
    ∷ (e.Poll 0 0 5 0 ∷ gain 0 0 0 Read [] ∷ e.Yield 1 0 3 None ∷ gain 1 1 3 Read [] ∷ e.End 1 ∷ [])
    ∷ (e.Poll 0 2 5 0 ∷ gain 0 0 2 Read [] ∷ e.Yield 1 0 4 None ∷ gain 1 1 2 Read (from 0 1 ∷ []) ∷ e.End 1 ∷ [])
    ∷ [])

-- the log, the journal and the end of a recording
abbrev pub seen : RecordingEnd Scripted → Log × List (ℕ × ℕ) × Scripted
seen r = (r.log, r.journal, r.ended)

pub record AreRecorded : Type 0 where
  pub smallest : by_list stopping_machine (terms_of 1 100 67108864) 1 (fives 1) ((0, 8) ∷ (0, 8) ∷ []) ≡ Some (record {
    log = stop_log Stop 5 0 0 Read 2 Nothing 3;
    journal = (0, 2) ∷ (0, 3) ∷ [];
    turns = (0, 0) ∷ (0, 2) ∷ [];
    ended = ended (3 ∷ []) true 5;
    left = fives 0;
  })
  pub cut : by_list stopping_machine (terms_of 1 100 67108864) 1 (fives 1) ((0, 8) ∷ []) ≡ Some (record {
    log = log_of 1 100 Cut ((e.Poll 0 0 5 0 ∷ gain 0 0 0 Read [] ∷ e.End 0 ∷ []) ∷ []);
    journal = (0, 2) ∷ [];
    turns = (0, 0) ∷ (0, 0) ∷ [];
    ended = ended (0 ∷ []) false 5;
    left = fives 0;
  })
  -- the log with a Gain would have a byte more than the log limit
  pub full : by_list stopping_machine (terms_of 1 100 100) 1 (fives 1) ((0, 8) ∷ (0, 8) ∷ []) ≡ Some (record {
    log = log_of 1 100 Full ((e.Poll 0 0 5 0 ∷ e.End 0 ∷ []) ∷ []);
    journal = (0, 1) ∷ [];
    turns = (0, 0) ∷ [];
    ended = ended (0 ∷ []) false 5;
    left = fives 0;
  })
  -- the console takes one byte, and no more behind it
  pub sent : by_list sending_machine (terms_of 1 100 67108864) 1 (record (fives 1) { takes = 1 }) ((0, 8) ∷ (0, 8) ∷ []) ≡ Some (record {
    log = stop_log Stop 5 0 0 Read 2 Nothing 3;
    journal = (0, 2) ∷ (0, 3) ∷ [];
    turns = (0, 0) ∷ (0, 2) ∷ [];
    ended = ended (3 ∷ []) true 5;
    left = fives 0;
  })
  -- the console takes no byte
  pub fault : by_list sending_machine (terms_of 1 100 67108864) 1 (fives 1) ((0, 8) ∷ (0, 8) ∷ []) ≡ Some (record {
    log = log_of 1 100 Fault ((e.Poll 0 0 5 0 ∷ gain 0 0 0 Read [] ∷ e.End 2 ∷ []) ∷ []);
    journal = (0, 2) ∷ (0, 2) ∷ [];
    turns = (0, 0) ∷ (0, 2) ∷ [];
    ended = ended (2 ∷ []) false 5;
    left = fives 0;
  })
  pub no_moves : option_map seen (by_list racing_machine (terms_of 2 0 67108864) 2 (fives 0) []) ≡ Some
      (log_of 2 0 Limit ((e.End 0 ∷ []) ∷ (e.End 0 ∷ []) ∷ []), [], first 2)
  pub race : option_map seen (by_list racing_machine (terms_of 2 8 67108864) 2 (fives 2) race_list) ≡ Some (race_log, race_journal, ended (8 ∷ 8 ∷ []) false 5)
  pub written_code : option_map (λ r. r.log) (by_list writing_machine (terms_of 1 12 67108864) 2 (fives 2) writing_list) ≡ Some writing_log
  -- a claim is read anew before each Yield
  pub claims : by_list claiming_machine (terms_of 2 1 67108864) 3 (fives 3) ((1, 1) ∷ (2, 1) ∷ (0, 3) ∷ (1, 0) ∷ []) ≡ Some (record {
    log = claiming_log;
    journal = (1, 3) ∷ (2, 2) ∷ (0, 2) ∷ (1, 2) ∷ [];
    turns = (1, 0) ∷ (2, 0) ∷ (0, 0) ∷ (1, 0) ∷ (0, 0) ∷ (1, 0) ∷ (2, 0) ∷ [];
    ended = ended (0 ∷ 0 ∷ 0 ∷ []) false 5;
    left = fives 0;
  })
  pub in_rounds : IsRecordedInRounds racing_machine (terms_of 2 8 67108864) (board_at_start (terms_of 2 8 67108864) 2 (first 2) (fives 2)) (record {
    log = round_log;
    journal = round_journal;
    turns = round_turns;
    ended = ended (8 ∷ 8 ∷ []) false 5;
    left = fives 0;
  })
  pub favour : by_list favour_machine (terms_of 1 2 67108864) 3 (fives 3) favour_list ≡ Some (record {
    log = favour_log;
    journal = (1, 3) ∷ (0, 1) ∷ (1, 3) ∷ (2, 2) ∷ (0, 1) ∷ (1, 1) ∷ (0, 2) ∷ [];
    turns = (1, 0) ∷ (0, 0) ∷ (1, 2) ∷ (2, 0) ∷ (0, 0) ∷ (2, 0) ∷ (1, 0) ∷ (0, 1) ∷ (0, 0) ∷ (1, 0) ∷ (2, 0) ∷ [];
    ended = ended (1 ∷ 2 ∷ 0 ∷ []) false 5;
    left = fives 0;
  })
  pub modes : by_list modes_machine (terms_of 2 2 67108864) 3 (fives 3) modes_list ≡ Some (record {
    log = modes_log;
    journal = (1, 2) ∷ (0, 3) ∷ (0, 1) ∷ (2, 2) ∷ (1, 2) ∷ (0, 1) ∷ (2, 3) ∷ (1, 1) ∷ [];
    turns = (1, 0) ∷ (0, 0) ∷ (0, 1) ∷ (2, 0) ∷ (1, 1) ∷ (0, 0) ∷ (2, 1) ∷ (1, 0) ∷ (0, 0) ∷ (1, 0) ∷ (2, 0) ∷ [];
    ended = ended (1 ∷ 1 ∷ 1 ∷ []) false 5;
    left = fives 0;
  })
