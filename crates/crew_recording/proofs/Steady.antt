-- The board's counts go on as a recording asks.
use Rattle.std.proofs.Common.{◌≡◌, ℕ, zero, suc, ◌+◌, ◌<◌, ◌≤◌, ◌||◌, List, [], length, map, replicate, Option, Some, None, slice_get, slice_index, nat_lt}
use Rattle.std.proofs.Common.{is_some, refl, sym, ap, ◌∙◌, subst, inl, inr, arith}
use Rattle.std.specs.List.{enumerate_from}
use Rattle.std.specs.Option.{option_and_then}
use Rattle.std.proofs.lemmas.List.FromFn.{length-enumerate_from}
use Rattle.std.proofs.lemmas.Option.{none-some, same_Some, get_or_from_slice_get, slice_get_past, slice_get_within}
use Rattle.std.proofs.lemmas.Bool.Decides.{eqb_tells}
use Rattle.std.proofs.lemmas.List.{get_or-set_other, length-map, length-replicate, length-set}
use Rattle.shared_types.proofs.Lists.{bound_to, chosen, mapped, set_here, unless}
use Rattle.log_entry.specs.declared.log.Entry.{Entry}
use Rattle.rv_hart.specs.Moves.{need_of}
use Rattle.flat_machine.specs.State.{FlatState}
use Rattle.flat_machine.specs.Moves.{next_move, access_of, lost_by}
use Rattle.flat_machine.specs.Acts.{next, ran, accessed, touch_made, poll_made, lost, counted_up}
use Rattle.flat_machine.specs.declared.act.Act.{Act}
use Rattle.flat_machine.specs.declared.act.Act.TheVariants.{Run, Touch, Poll, Lose}
use Rattle.replay_model.specs.Board.{board}
use Rattle.replay_model.specs.Items.{Item, IsFullOrder}
use Rattle.crew_recording.specs.Recording.{Recording, IsSteady, first_recording, stream_in, ended_streams, log_of_recording}
use Rattle.crew_recording.specs.Laws.{IsBoard, RunsAreObeyed}
use Rattle.crew_recording.proofs.Items.{IsTidy}
use Rattle.crew_recording.proofs.Obedience.{tidy_all, full, ends}

-- a count that is raised by one, and no other
raised : (counts : List ℕ) (h g : ℕ) → h < length counts → slice_index counts g ≤ slice_index (counted_up h counts) g
raised counts h g l = elim (eqb_tells g h) [
  | inl (t, same) ↦ subst (λ k. slice_index counts k ≤ slice_index (counted_up h counts) k) (sym same) (let e = here in omega (arith, e))
  | inr (f, n) ↦ let e = get_or-set_other counts h g (slice_index counts h + 1) 0 n in omega (arith, e)
]
  where
    here : slice_index (counted_up h counts) h ≡ slice_index counts h + 1
    here = get_or_from_slice_get (counted_up h counts) h (slice_index counts h + 1) 0 (set_here counts h (slice_index counts h + 1) l)

pub up_by_one : (counts : List ℕ) (h : ℕ) → h < length counts → slice_index (counted_up h counts) h ≡ slice_index counts h + 1
up_by_one counts h l = get_or_from_slice_get (counted_up h counts) h (slice_index counts h + 1) 0 (set_here counts h (slice_index counts h + 1) l)

-- what an act leaves of the harts and the counts
pub record Leaves (s : FlatState) (act : Act) (t : FlatState) : Type 0 where
  pub harts : length t.harts ≡ length s.harts
  pub counts : length t.counts ≡ length s.counts
  pub rises : (h : ℕ) → slice_index s.counts h ≤ slice_index t.counts h
  pub moves : (h : ℕ) → act ≡ Run h → slice_index t.counts h ≡ slice_index s.counts h + 1

abbrev runs_of : Act → Option ℕ
runs_of (Run h) = Some h
runs_of act = None

no_run : (act : Act) → runs_of act ≡ None → (h : ℕ) → act ≡ Run h → ⊥
no_run act n h e = none-some _ (sym n ∙ ap runs_of e)

pub leaves : (s t : FlatState) (act : Act) (harts : ℕ) → IsBoard harts s → next act s ≡ Some t → Leaves s act t
leaves s t (Run h) harts on is =
    let x = bound_to (λ x. ran s h x (next_move x s.memory)) (slice_get s.harts h) t is in
    let l : h < length s.counts = (let a = slice_get_within s.harts h x.0 x.1 in let b = on.harts_size in let c = on.counts_size in omega (arith, a, b, c)) in
    subst (Leaves s (Run h)) ((chosen (is_some (access_of (need_of (next_move x.0 s.memory)))) _ t x.2).1) (record {
      harts = length-set (map (lost_by _) s.harts) h _ ∙ length-map s.harts (lost_by _);
      counts = length-set s.counts h (slice_index s.counts h + 1);
      rises = λ g. raised s.counts h g l;
      moves = λ g e. subst (λ k. slice_index (counted_up h s.counts) k ≡ slice_index s.counts k + 1) (same_Some _ _ (ap runs_of e)) (up_by_one s.counts h l);
    })
leaves s t (Touch h input) harts on is =
    let x = bound_to (λ x. touch_made s h input x (next_move x s.memory)) (slice_get s.harts h) t is in
    let l : h < length s.counts = (let a = slice_get_within s.harts h x.0 x.1 in let b = on.harts_size in let c = on.counts_size in omega (arith, a, b, c)) in
    let d = mapped (accessed s h x.0 (next_move x.0 s.memory)) _ t (unless (is_some s.devices.stop) _ t x.2) in
    subst (Leaves s (Touch h input)) d.2 (record {
      harts = length-set s.harts h _;
      counts = length-set s.counts h (slice_index s.counts h + 1);
      rises = λ g. raised s.counts h g l;
      moves = λ g e. absurd (no_run (Touch h input) refl g e);
    })
leaves s t (Poll h time) harts on is =
    let x = bound_to (poll_made s h time) (slice_get s.harts h) t is in
    subst (Leaves s (Poll h time)) ((chosen (is_some s.devices.stop || nat_lt time s.devices.mtime) _ t x.2).1) (record {
      harts = length-set s.harts h _;
      counts = refl;
      rises = λ g. omega arith;
      moves = λ g e. absurd (no_run (Poll h time) refl g e);
    })
leaves s t (Lose h) harts on is =
    let x = mapped (lost s h) (slice_get s.harts h) t is in
    subst (Leaves s (Lose h)) x.2 (record {
      harts = length-set s.harts h _;
      counts = refl;
      rises = λ g. omega arith;
      moves = λ g e. absurd (no_run (Lose h) refl g e);
    })

pub board_steady : (unit harts : ℕ) → IsSteady (board unit) harts (IsBoard harts)
board_steady unit harts = record {
  lasts = λ s t act on is. let l = leaves s t act harts on is in record { harts_size = l.harts ∙ on.harts_size; counts_size = l.counts ∙ on.counts_size };
  rises = λ s t act h on is. (leaves s t act harts on is).rises h;
  moves = λ s t h on is. (leaves s t (Run h) harts on is).moves h refl;
  no_more = λ s h on l. ap (option_and_then (λ x. ran s h x (next_move x s.memory))) (slice_get_past s.harts h (let a = on.harts_size in omega (arith, a, l)));
}

pub no_stream : (n h : ℕ) → h < n → stream_in (replicate n []) h ≡ []
no_stream zero h l = absurd (omega (arith, l))
no_stream (suc n) zero l = refl
no_stream (suc n) (suc h) l = no_stream n h (omega (arith, l))

pub no_place : (n h : ℕ) → slice_index (replicate n 0) h ≡ 0
no_place zero h = refl
no_place (suc n) zero = refl
no_place (suc n) (suc h) = no_place n h

pub first_tidy : (unit pages harts : ℕ) (first : FlatState) → IsBoard harts first
    → IsTidy (board unit) harts (IsBoard harts) (board_steady unit harts) (first_recording pages harts first)
first_tidy unit pages harts first on = record {
  good = on;
  streams = length-replicate harts [];
  places = length-replicate harts 0;
  place = λ h l. no_place harts h ∙ sym (ap (λ (xs : List Entry). length xs) (no_stream harts h l));
}

-- a log has as many streams as its recording
pub ended_size : (unit : ℕ) (r : Recording FlatState) → length (ended_streams (board unit) r) ≡ length r.streams
ended_size unit r = length-map (enumerate_from 0 r.streams) _ ∙ length-enumerate_from 0 r.streams

pub runs_are_obeyed : RunsAreObeyed
runs_are_obeyed unit pages limit harts image cause first items r on is =
    let begin = first_recording pages harts first in
    let tidy = first_tidy unit pages harts first on in
    let size : length (ended_streams (board unit) r) ≡ harts = ended_size unit r
    ∙ (tidy_all (board unit) harts (IsBoard harts) (board_steady unit harts) begin r items is tidy).streams in (
      subst (λ n. IsFullOrder (board unit) (log_of_recording (board unit) pages limit image cause r) (first_recording pages n first).at
          (map (λ (x : ℕ × Item). x.0) items) r.at) (sym size)
          (full (board unit) harts (IsBoard harts) (board_steady unit harts) pages limit image cause begin r items is tidy),
      ends (board unit) harts (IsBoard harts) (board_steady unit harts) pages limit image cause begin r items is tidy,
    )
