-- Replays that were worked out by hand, on machines whose harts do what a script says.
use Rattle.std.specs.Prelude.{ℕ, zero, suc, ◌==◌, ◌+◌, ◌||◌, not, nat_lt, Bool, true, false, List, [], ◌∷◌, length, replicate, slice_index, slice_set}
use Rattle.std.specs.Prelude.{Option, Some, None, if◌then◌else◌}
use Rattle.rv_words.specs.declared.shared.Mode.{Mode}
use Rattle.rv_words.specs.declared.shared.Mode.TheVariants.{Read, Write}
use Rattle.rv_words.specs.declared.shared.Input.{Input}
use Rattle.rv_words.specs.declared.shared.Input.TheVariants.{Nothing, Empty, Byte}
use Rattle.rv_words.specs.declared.shared.Cause.{Cause}
use Rattle.rv_words.specs.declared.shared.Cause.TheVariants.{Stop, Limit, Full}
use Rattle.log_entry.specs.declared.log.Entry.TheVariants as e
use Rattle.log_entry.specs.declared.log.Log.{Log}
use Rattle.order_rules.specs.Worked.{log_of, gain, race_log}
use Rattle.replay_model.specs.Flat.{Flat}
use Rattle.flat_machine.specs.declared.act.Act.{Act}
use Rattle.flat_machine.specs.declared.act.Act.TheVariants.{Run, Touch, Poll, Lose}
use Rattle.replay_model.specs.State.{Replay, start}
use Rattle.replay_model.specs.Items.{IsFullOrder}
use Rattle.replay_model.specs.Outcome.{Done, Diverged, IsOutcome}
use Rattle.replay_model.specs.Inputs.{Agree}
use Rattle.outside.specs.declared.console.Asked.TheVariants as said
use Rattle.replay_model.specs.Journal.{IsLean, order_of}

pub record Scripted : Type 0 where
  pub counts : List ℕ
  pub stopped : Bool
  pub time : ℕ

abbrev pub is_nothing : Input → Bool
is_nothing Nothing = true
is_nothing _ = false

abbrev pub moved : Scripted → ℕ → Option Scripted
moved s h = if nat_lt h (length s.counts) then Some (record s { counts = slice_set s.counts h (slice_index s.counts h + 1) }) else None

abbrev pub stops : Option Scripted → Option Scripted
stops None = None
stops (Some s) = Some (record s { stopped = true })

-- needs: what the move at a count needs; stores: whether it stores to STOP
abbrev pub scripted : (ℕ → List (ℕ × Mode)) → (ℕ → Bool) → Flat Scripted ℕ
scripted needs stores = record {
  next = next;
  harts = λ s. length s.counts;
  count = λ s h. slice_index s.counts h;
  need = λ s h. needs (slice_index s.counts h);
  is_at_device = λ s h. stores (slice_index s.counts h);
  suits = λ s h input. is_nothing input;
  lines_at = λ s h time. 0;
  time = λ s. s.time;
  is_stopped = λ s. s.stopped;
  sent = λ s. [];
  reserved_page = λ s h. None;
  told = λ s h t. slice_index s.counts h;
} where
  next : Scripted → Act → Option Scripted
  next s (Run h) = if stores (slice_index s.counts h) then None else moved s h
  next s (Touch h input) = if s.stopped || not (stores (slice_index s.counts h)) || not (is_nothing input) then None else stops (moved s h)
  next s (Poll h time) = if s.stopped || nat_lt time s.time then None else Some (record s { time = time })
  next s (Lose h) = Some s

abbrev pub first : ℕ → Scripted
first harts = record { counts = replicate harts 0; stopped = false; time = 0 }

abbrev pub code_page : ℕ → List (ℕ × Mode)
code_page count = (0, Read) ∷ []

abbrev pub is_two : ℕ → Bool
is_two count = count == 2

-- one hart whose move at count 2 stores to STOP
abbrev pub stopping : Flat Scripted ℕ
stopping = scripted code_page is_two

abbrev pub racing_needs : ℕ → List (ℕ × Mode)
racing_needs (suc zero) = (0, Read) ∷ (1, Read) ∷ []
racing_needs (suc (suc (suc zero))) = (0, Read) ∷ (1, Write) ∷ []
racing_needs count = (0, Read) ∷ []

abbrev pub never : ℕ → Bool
never count = false

-- harts that load a word of page 1, add to it, store it, and go round
abbrev pub racing : Flat Scripted ℕ
racing = scripted racing_needs never

-- a log of the hart that stops, with what may be changed in it
abbrev pub stop_log : Cause → ℕ → ℕ → ℕ → Mode → ℕ → Input → ℕ → Log
stop_log cause time bits gain_count mode touch_count input end =
    log_of 1 100 cause ((e.Poll 0 0 time bits ∷ gain gain_count 0 0 mode [] ∷ e.Touch touch_count 1 input ∷ e.End end ∷ []) ∷ [])

abbrev pub ended : List ℕ → Bool → ℕ → Scripted
ended counts stopped time = record { counts = counts; stopped = stopped; time = time }

abbrev pub race_journal : List (ℕ × ℕ)
race_journal = (0, 2) ∷ (1, 2) ∷ (0, 2) ∷ (1, 2) ∷ (0, 2) ∷ (1, 3) ∷ (0, 1) ∷ (0, 6) ∷ (1, 1) ∷ (1, 5) ∷ []

-- a hart that stops and then has a Poll with a line that isn't set
abbrev pub late_poll_log : Log
late_poll_log = log_of 1 100 Stop ((e.Poll 0 0 5 0 ∷ gain 0 0 0 Read [] ∷ e.Touch 2 1 Nothing ∷ e.Poll 3 2 5 1 ∷ e.End 4 ∷ []) ∷ [])

-- two harts: one never gains its page, the other has a Touch where its move isn't at a device
abbrev pub twice_diverged_log : Log
twice_diverged_log = log_of 1 100 Stop ((e.Poll 0 0 5 0 ∷ e.End 5 ∷ []) ∷ (e.Poll 0 1 5 0 ∷ gain 0 0 0 Read [] ∷ e.Touch 1 2 Nothing ∷ e.End 3 ∷ []) ∷ [])

-- a machine with a reservation in page 1, whose time is 99 once one is lost
abbrev pub reserving : Flat Scripted ℕ
reserving = record (scripted code_page never) { next = next; reserved_page = λ s h. Some 1 } where
  next : Scripted → Act → Option Scripted
  next s (Lose h) = Some (record s { time = 99 })
  next s act = (scripted code_page never).next s act

-- a hart that gives up page 1 from Write
abbrev pub losing_log : Log
losing_log = log_of 3 1 Limit ((e.Poll 0 0 5 0 ∷ gain 0 0 0 Read [] ∷ gain 0 1 0 Write [] ∷ e.Yield 1 1 1 (Some Read) ∷ e.End 1 ∷ []) ∷ [])

-- and one that gives it up from Read, and another page from Write
abbrev pub keeping_log : Log
keeping_log =
    log_of 3 1 Limit (
    (e.Poll 0 0 5 0 ∷ gain 0 0 0 Read [] ∷ gain 0 1 0 Read [] ∷ gain 0 2 0 Write [] ∷ e.Yield 1 1 1 None ∷ e.Yield 1 2 1 None ∷ e.End 1 ∷ [])
    ∷ [])

-- a hart that loads three console inputs, sends a byte, and then stores to STOP
abbrev pub echo_log : Log
echo_log =
    log_of 1 100 Stop (
    (e.Poll 0 0 5 0 ∷ gain 0 0 0 Read [] ∷ e.Touch 1 1 Empty ∷ e.Touch 2 2 (Byte 65) ∷ e.Touch 3 3 Empty ∷ e.Touch 4 4 Nothing ∷ e.Touch 5 5 Nothing
    ∷ e.End 6 ∷ [])
    ∷ [])

-- a machine that has sent the byte 65 once hart 0 has made five moves
abbrev pub echoing : Flat Scripted ℕ
echoing = record (scripted code_page never) { sent = λ s. if nat_lt 4 (slice_index s.counts 0) then 65 ∷ [] else [] }

pub record AreReplayed : Type 0 where
  pub smallest : IsOutcome stopping (stop_log Stop 5 0 0 Read 2 Nothing 3) (first 1) (Done (ended (3 ∷ []) true 5))
  pub gain_late : IsOutcome stopping (stop_log Stop 5 0 1 Read 2 Nothing 3) (first 1) (Diverged 0 0 1 (ended (0 ∷ []) false 5))
  pub touch_early : IsOutcome stopping (stop_log Stop 5 0 0 Read 1 Nothing 3) (first 1) (Diverged 0 1 3 (ended (1 ∷ []) false 5))
  pub other_input : IsOutcome stopping (stop_log Stop 5 0 0 Read 2 Empty 3) (first 1) (Diverged 0 2 4 (ended (2 ∷ []) false 5))
  pub other_lines : IsOutcome stopping (stop_log Stop 5 1 0 Read 2 Nothing 3) (first 1) (Diverged 0 0 5 (ended (0 ∷ []) false 0))
  pub other_cause : IsOutcome stopping (stop_log Limit 5 0 0 Read 2 Nothing 3) (first 1) (Diverged 0 3 7 (ended (3 ∷ []) true 5))
  pub full_cause : IsOutcome stopping (stop_log Full 5 0 0 Read 2 Nothing 3) (first 1) (Diverged 0 3 7 (ended (3 ∷ []) true 5))
  pub later_time : IsOutcome stopping (stop_log Stop 6 0 0 Read 2 Nothing 3) (first 1) (Done (ended (3 ∷ []) true 6))
  pub more_held : IsOutcome stopping (stop_log Stop 5 0 0 Write 2 Nothing 3) (first 1) (Done (ended (3 ∷ []) true 5))
  pub later_end : IsOutcome stopping (stop_log Stop 5 0 0 Read 2 Nothing 4) (first 1) (Done (ended (4 ∷ []) true 5))
  pub lines_before_stop : IsOutcome stopping late_poll_log (first 1) (Diverged 0 3 5 (ended (3 ∷ []) true 5))
  pub least_of_two : IsOutcome stopping twice_diverged_log (first 2) (Diverged 0 0 1 (ended (0 ∷ 1 ∷ []) false 5))
  pub reservation_lost : IsOutcome reserving losing_log (first 1) (Done (ended (1 ∷ []) false 99))
  pub reservation_kept : IsOutcome reserving keeping_log (first 1) (Done (ended (1 ∷ []) false 5))
  pub race : IsOutcome racing race_log (first 2) (Done (ended (8 ∷ 8 ∷ []) false 5))
  pub journal : (t : Replay Scripted) × IsFullOrder racing race_log (start race_log (first 2)) (order_of race_journal) t
  pub lean : IsLean racing race_log (start race_log (first 2)) (order_of race_journal)
  pub inputs : Agree echoing echo_log (ended (6 ∷ []) true 5) (said.Nothing ∷ said.Byte 65 ∷ said.End ∷ []) (5 ∷ []) (65 ∷ [])
