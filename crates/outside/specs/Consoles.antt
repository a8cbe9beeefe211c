-- What contracts see of the consoles in memory.
use Rattle.std.specs.Prelude.{ℕ, ◌++◌, ◌-◌, ◌^◌, ◌∷◌, List, [], length, zero, suc, nat_lt, Bool, true, false, not, ◌&&◌, unwrap_or, slice_get}
use Rattle.outside.specs.declared.console.Asked.{Asked}
use Rattle.outside.specs.declared.console.Asked.TheVariants.{Nothing}
use Rattle.outside.specs.Numbered.{Numbered, calls_at_start, fails_next}
use Rattle.outside.specs.Seen.{SeenConsole}

-- a console in memory: its list of answers and the one that it gives from the list's end on, how many it gave,
-- the bytes that it took and for how many it has room, and its numbered calls
pub record MemConsoleState : Type 0 where
  pub list : List Asked
  pub last : Asked
  pub asked : ℕ
  pub taken : List ℕ
  pub room : ℕ
  pub calls : Numbered

-- a console that gives these answers and then the last one each time, with room for so many bytes, some of whose calls fail
abbrev pub mem_console_at_start : List Asked → Asked → ℕ → List ℕ → MemConsoleState
mem_console_at_start list last room fails =
    record { list = list; last = last; asked = 0; taken = []; room = room; calls = calls_at_start fails }

-- its next call, where it hands a byte over, is done
abbrev pub takes : MemConsoleState → Bool
takes c = not (fails_next c.calls) && nat_lt (length c.taken) c.room

-- the answer to the question of this number, from 0
abbrev pub answer_at : List Asked → Asked → ℕ → Asked
answer_at list last n = unwrap_or (slice_get list n) last

-- the answers of a console that was asked so often
abbrev pub given : List Asked → Asked → ℕ → List Asked
given list last zero = []
given list last (suc n) = given list last n ++ answer_at list last n ∷ []

-- one answer, given so often
abbrev pub repeated : {X : Type 0} → X → ℕ → List X
repeated answer zero = []
repeated answer (suc n) = repeated answer n ++ answer ∷ []

-- it tells its answers as long as their number can be told
abbrev pub seen_of_console : MemConsoleState → SeenConsole
seen_of_console c = record {
  tells_answers = nat_lt c.asked (2 ^ 64 - 1);
  answers = given c.list c.last c.asked;
  tells_taken = true;
  taken = c.taken;
  faults = c.calls.faults;
}

-- a console that never fails has no input and drops what it is given
abbrev pub seen_of_sure : ℕ → SeenConsole
seen_of_sure asked =
    record { tells_answers = nat_lt asked (2 ^ 64 - 1); answers = repeated Nothing asked; tells_taken = false; taken = []; faults = 0 }
