-- The board's flat machine, as replays speak of it.
use Rattle.std.specs.Prelude.{ℕ, List, [], length, Option, is_some, slice_get, slice_index}
use Rattle.std.specs.Option.{option_map, option_and_then, option_map_or}
use Rattle.rv_words.specs.declared.shared.Access.{Access}
use Rattle.rv_hart.specs.State.{Hart}
use Rattle.rv_hart.specs.Needs.{page_at, pages_needed}
use Rattle.rv_hart.specs.Moves.{need_of}
use Rattle.device_board.specs.State.{lines_at}
use Rattle.device_board.specs.Accesses.{touched}
use Rattle.flat_machine.specs.State.{FlatState}
use Rattle.flat_machine.specs.Moves.{fetched, next_move, access_of}
use Rattle.flat_machine.specs.Acts.{next}
use Rattle.flat_machine.specs.Runs.{step_between}
use Rattle.flat_machine.specs.declared.results.Step.{Step}
use Rattle.replay_model.specs.Flat.{Flat}

-- the device access of a hart's next move, where it is one
abbrev pub next_access : Hart → List ℕ → Option Access
next_access x memory = access_of (need_of (next_move x memory))

abbrev pub hart_access : FlatState → ℕ → Option Access
hart_access s h = option_and_then (λ x. next_access x s.memory) (slice_get s.harts h)

-- pages are of so many bytes
abbrev pub board : ℕ → Flat FlatState (List Step)
board unit = record {
  next = λ s act. next act s;
  harts = λ s. length s.harts;
  count = λ s h. slice_index s.counts h;
  need = λ s h. option_map_or (λ x. pages_needed unit x (fetched x s.memory)) (slice_get s.harts h) [];
  is_at_device = λ s h. is_some (hart_access s h);
  suits = λ s h input. is_some (option_and_then (λ access. touched s.devices access input) (hart_access s h));
  lines_at = λ s h time. lines_at s.devices h time;
  time = λ s. s.devices.mtime;
  is_stopped = λ s. is_some s.devices.stop;
  sent = λ s. s.devices.sent;
  reserved_page = λ s h. option_map (page_at unit) (option_and_then (λ x. x.reserved) (slice_get s.harts h));
  told = λ s h t. step_between s.memory (slice_get s.harts h) (slice_get t.harts h);
}
