-- A replay at its start.
use Rattle.std.proofs.Common.{Some, ◌≡◌, ℕ, ◌/◌, ◌<◌, max, List, [], map, length, slice_get, refl, sym, ap, ◌∙◌, subst, arith, zero-add}
use Rattle.std.specs.Prelude.{IsTrue}
use Rattle.std.specs.List.{range_with_len}
use Rattle.std.proofs.lemmas.List.{length-map}
use Rattle.std.proofs.lemmas.List.FromFn.{length-range_with_len, get_or-range_with_len}
use Rattle.std.proofs.lemmas.Option.{get_or_from_slice_get, slice_get_within}
use Rattle.shared_types.proofs.Lists.{map_at}
use Rattle.orders_law.specs.Orders.{below}
use Rattle.orders_law.proofs.Below.{below_range, length_below}
use Rattle.elf_image.specs.Image.{Image, IsWhole}
use Rattle.log_entry.specs.declared.log.Log.{Log}
use Rattle.log_entry.specs.Range.{in_range}
use Rattle.order_rules.specs.Cursor as cursors
use Rattle.order_rules.specs.Holders.{nobody}
use Rattle.run_model.specs.Run.{Run, run_at_start}
use Rattle.run_model.specs.Agreement.{Agrees, IsFirst}
use Rattle.run_model.proofs.Laws.{start_agrees}
use Rattle.hart_run.specs.Calls.{StartIsRight}
use Rattle.device_board.specs.State.{DevicesWithRoom, devices_at_start}
use Rattle.board_backing.specs.declared.backing.Backing.{Backing}
use Rattle.board_backing.specs.Backing.{BacksFirst}
use Rattle.replay_law.specs.Laws.{IsReplayable, first_replay}
use Rattle.replay_core.specs.declared.position.Position.{Position}
use Rattle.replay_core.specs.declared.replaying.Replaying.{Replaying}
use Rattle.board_backing.specs.Ends.{HasPlaces}
use Rattle.replay_core.specs.Standing.{OrdinalsBelow, IsRoomy, Stands, IsAt}

-- each run agrees with the first state of its image, on a board of so many harts
abbrev AgreeAtFirst : Image → ℕ → List Run → Type 0
AgreeAtFirst image harts runs = (h : ℕ) (r : Run) → slice_get runs h ≡ Some r → StartIsRight image harts h r

-- runs at their start do
pub agree_first : (image : Image) (harts : ℕ) (runs : List Run) → IsWhole image → runs ≡ map (λ h. run_at_start h harts image) (below harts)
    → (length runs ≡ harts) × AgreeAtFirst image harts runs
agree_first image harts runs whole are = (
  ap (λ (xs : List Run). length xs) are ∙ length-map (below harts) _ ∙ length_below harts,
  λ h r at s first.
      let m = map_at (λ h. run_at_start h harts image) (range_with_len 0 harts) h r
      (ap (λ ks. slice_get (map (λ h. run_at_start h harts image) ks) h) (sym (below_range harts)) ∙ ap (λ xs. slice_get xs h) (sym are) ∙ at) in
      let l : h < harts =
      (let w = slice_get_within (range_with_len 0 harts) h m.0 m.1 in let n = length-range_with_len 0 harts in omega (arith, w, n)) in
      let place : m.0 ≡ h =
      sym (get_or_from_slice_get (range_with_len 0 harts) h m.0 0 m.1) ∙ get_or-range_with_len 0 harts h 0 l ∙ zero-add h in
      subst (λ (z : Run). Agrees z h s) (ap (λ k. run_at_start k harts image) (sym place) ∙ m.2) (start_agrees h harts image s whole l first),
)

-- the first state of a replay is that of its image
pub is_first : (log : Log) (image : Image) → IsReplayable log image → IsFirst image (length log.streams) (first_replay log image)
is_first log image is =
    let size = is.whole.size in
    let pages = is.pages in
    let number : length image.bytes / 4096 ≡ log.pages = omega (arith, size, pages) in
    (refl, ap (λ n. nobody n (length log.streams)) (sym (ap (λ u. length image.bytes / u) is.whole.unit ∙ number)))

pub first_stands : (image : Image) (b : Position) → IsReplayable b.log image → IsTrue (in_range b.log) → b.cursor ≡ cursors.start b.log
    → BacksFirst image (length b.log.streams) b.backing → IsRoomy b → Stands image b (first_replay b.log image)
first_stands image b is range cursor backs roomy = record {
  replayable = is;
  range = range;
  order = [];
  obeys = ([], refl, refl);
  cursor = cursor;
  backs = backs (first_replay b.log image) (is_first b.log image is);
  roomy = roomy;
}

pub first_at : (image : Image) (log : Log) (stage : Replaying) (harts : ℕ) → stage.board.log ≡ log → Stands image stage.board (first_replay log image)
    → harts ≡ length stage.board.log.streams → length stage.runs.items ≡ harts → AgreeAtFirst image harts stage.runs.items
    → HasPlaces stage.ends harts (length image.bytes) → IsAt image stage (first_replay log image)
first_at image log stage harts log_is stands many long agree ends =
    let number : length log.streams ≡ harts = sym (many ∙ ap (λ (l : Log). length l.streams) log_is) in
    record {
      stands = stands;
      runs = long ∙ many;
      agree = λ h r at. agree h r at (first_replay log image)
          (subst (λ n. IsFirst image n (first_replay log image)) number (is_first log image (subst (λ l. IsReplayable l image) log_is stands.replayable)));
      ends = subst (λ n. HasPlaces stage.ends n (length image.bytes)) many ends;
    }

-- devices with room for each console byte of the log
pub first_roomy : (b : Position) (room : ℕ) → b.backing.devices ≡ record { devices = devices_at_start (length b.log.streams); spare = max 0 room }
    → OrdinalsBelow b.log room → IsRoomy b
first_roomy b room is below =
    let sent : length b.backing.devices.devices.sent ≡ 0 = ap (λ (d : DevicesWithRoom). length d.devices.sent) is in
    let spare : b.backing.devices.spare ≡ max 0 room = ap (λ (d : DevicesWithRoom). d.spare) is in
    record {
      harts = ap (λ (d : DevicesWithRoom). d.devices.harts) is;
      sent = omega (arith, sent);
      room = λ h i k e at o. let less = below h i k e at o in omega (arith, less, sent, spare);
    }

-- with more room it is the same state
pub backs_with_room : (image : Image) (harts : ℕ) (b : Backing) (d : DevicesWithRoom) → d.devices ≡ b.devices.devices → BacksFirst image harts b
    → BacksFirst image harts (record b { devices = d })
backs_with_room image harts b d same backs s first =
    let k = backs s first in
    record { unit_is = k.unit_is; number = k.number; memory = k.memory; devices_are = same ∙ k.devices_are; bytes = k.bytes }
