-- The log of a recording of a board, whose items are allowed, is orderly.
use Rattle.std.proofs.Common.{◌≡◌, ◌≢◌, ℕ, zero, suc, ◌+◌, ◌<◌, ◌≤◌, ◌||◌, Bool, List, [], length, replicate, Option, Some, None, slice_get, slice_index}
use Rattle.std.proofs.Common.{unwrap_or, nat_lt, is_some, refl, sym, ap, ◌∙◌, subst, arith}
use Rattle.std.specs.Option.{option_and_then}
use Rattle.std.proofs.lemmas.Option.{none-some, same_Some, slice_get_within}
use Rattle.std.proofs.lemmas.Bool.{ltb-false, or_parts}
use Rattle.std.proofs.lemmas.List.{get_or-set_other, length-replicate}
use Rattle.shared_types.proofs.Lists.{bound_to, chosen, mapped, unless}
use Rattle.rv_words.specs.declared.shared.Mode.{Mode}
use Rattle.rv_words.specs.declared.shared.Input.{Input}
use Rattle.rv_words.specs.declared.shared.Input.TheVariants.{Time}
use Rattle.rv_words.specs.declared.shared.Cause.{Cause}
use Rattle.rv_hart.specs.Moves.{need_of}
use Rattle.device_board.specs.Accesses.{touched}
use Rattle.log_entry.specs.declared.log.Entry.{Entry}
use Rattle.log_entry.specs.Parts.{ordinal_of}
use Rattle.order_rules.specs.Places.{number_on}
use Rattle.order_rules.specs.Rules as rules
use Rattle.order_rules.specs.Orderly.{IsOrderly}
use Rattle.flat_machine.specs.State.{FlatState}
use Rattle.flat_machine.specs.Moves.{next_move, access_of}
use Rattle.flat_machine.specs.Acts.{next, ran, accessed, touch_made, poll_made, lost, counted_up}
use Rattle.flat_machine.specs.declared.act.Act.{Act}
use Rattle.flat_machine.specs.declared.act.Act.TheVariants.{Run, Touch, Poll, Lose}
use Rattle.replay_model.specs.Board.{board}
use Rattle.order_rules.specs.Holders.{row, held, nobody}
use Rattle.replay_model.specs.Items.{Item}
use Rattle.crew_recording.proofs.DeviceTimes.{touch_on}
use Rattle.replay_model.specs.Flat.{Flat}
use Rattle.crew_recording.specs.Recording.{Recording, IsSteady, Records, first_recording, stream_in, log_of_recording}
use Rattle.crew_recording.specs.Allowed.{IsTimed, actor, AreAllowed}
use Rattle.crew_recording.specs.Laws.{IsBoard, RunsAreOrderly}
use Rattle.crew_recording.proofs.Steady.{up_by_one, board_steady, no_stream, no_place}
use Rattle.crew_recording.proofs.Single.{IsTidyStream, no_stream_yet}
use Rattle.crew_recording.proofs.Numbers.{At, many, IsNumbered}
use Rattle.crew_recording.proofs.Tables.{FitsAt}
use Rattle.crew_recording.proofs.OrderedRecordings.{IsOrdered}
use Rattle.crew_recording.proofs.Rules.{many_streams, keeps_o1, keeps_o2, keeps_o3, keeps_o4, keeps_o5, keeps_o8}
use Rattle.crew_recording.proofs.Behind.{ordered_all, keeps_o6, keeps_o7}
use Rattle.crew_recording.proofs.Takings.{taken_whole}

-- the counts after an act
abbrev counts_by : Act → List ℕ → List ℕ
counts_by (Run h) counts = counted_up h counts
counts_by (Touch h input) counts = counted_up h counts
counts_by (Poll h time) counts = counts
counts_by (Lose h) counts = counts

-- what an act does to counts and time
pub record Does (s : FlatState) (act : Act) (t : FlatState) : Type 0 where
  pub inside : actor act < length s.counts
  pub counts : t.counts ≡ counts_by act s.counts
  pub later : s.devices.mtime ≤ t.devices.mtime
  pub touch_time : (h time : ℕ) → act ≡ Touch h (Time time) → (s.devices.mtime ≤ time) × (t.devices.mtime ≡ time)
  pub poll_time : (h time : ℕ) → act ≡ Poll h time → (s.devices.mtime ≤ time) × (t.devices.mtime ≡ time)

abbrev input_in : Act → Option Input
input_in (Touch h input) = Some input
input_in act = None

abbrev time_in : Act → Option ℕ
time_in (Poll h time) = Some time
time_in act = None

does : (harts : ℕ) (s t : FlatState) (act : Act) → IsBoard harts s → next act s ≡ Some t → Does s act t
does harts s t (Run h) on is =
    let x = bound_to (λ x. ran s h x (next_move x s.memory)) (slice_get s.harts h) t is in
    subst (Does s (Run h)) ((chosen (is_some (access_of (need_of (next_move x.0 s.memory)))) _ t x.2).1) (record {
      inside = (let a = slice_get_within s.harts h x.0 x.1 in let b = on.harts_size in let c = on.counts_size in omega (arith, a, b, c));
      counts = refl;
      later = omega arith;
      touch_time = λ g time e. absurd (none-some _ (ap input_in e));
      poll_time = λ g time e. absurd (none-some _ (ap time_in e));
    })
does harts s t (Touch h input) on is =
    let x = bound_to (λ x. touch_made s h input x (next_move x s.memory)) (slice_get s.harts h) t is in
    let d = mapped (accessed s h x.0 (next_move x.0 s.memory))
    (option_and_then (λ access. touched s.devices access input) (access_of (need_of (next_move x.0 s.memory)))) t
    (unless (is_some s.devices.stop) _ t x.2) in
    let a = bound_to (λ access. touched s.devices access input) (access_of (need_of (next_move x.0 s.memory))) d.0 d.1 in
    let goes = touch_on s.devices a.0 input d.0 a.2 in
    subst (Does s (Touch h input)) d.2 (record {
      inside = (let a = slice_get_within s.harts h x.0 x.1 in let b = on.harts_size in let c = on.counts_size in omega (arith, a, b, c));
      counts = refl;
      later = goes.later;
      touch_time = λ g time e. goes.time time (same_Some _ _ (ap input_in e));
      poll_time = λ g time e. absurd (none-some _ (ap time_in e));
    })
does harts s t (Poll h time) on is =
    let x = bound_to (poll_made s h time) (slice_get s.harts h) t is in
    let c = chosen (is_some s.devices.stop || nat_lt time s.devices.mtime) _ t x.2 in
    let l = ltb-false time s.devices.mtime (or_parts (is_some s.devices.stop) (nat_lt time s.devices.mtime) c.0).1 in
    subst (Does s (Poll h time)) c.1 (record {
      inside = (let a = slice_get_within s.harts h x.0 x.1 in let b = on.harts_size in let c = on.counts_size in omega (arith, a, b, c));
      counts = refl;
      later = l;
      touch_time = λ g u e. absurd (none-some _ (ap input_in e));
      poll_time = λ g u e. let v = same_Some _ _ (ap time_in e) in (omega (arith, l, v), v);
    })
does harts s t (Lose h) on is =
    let x = mapped (lost s h) (slice_get s.harts h) t is in
    subst (Does s (Lose h)) x.2 (record {
      inside = (let a = slice_get_within s.harts h x.0 x.1 in let b = on.harts_size in let c = on.counts_size in omega (arith, a, b, c));
      counts = refl;
      later = omega arith;
      touch_time = λ g time e. absurd (none-some _ (ap input_in e));
      poll_time = λ g time e. absurd (none-some _ (ap time_in e));
    })

others_stay : (act : Act) (counts : List ℕ) (g : ℕ) → g ≢ actor act → slice_index (counts_by act counts) g ≡ slice_index counts g
others_stay (Run h) counts g n = get_or-set_other counts h g (slice_index counts h + 1) 0 n
others_stay (Touch h input) counts g n = get_or-set_other counts h g (slice_index counts h + 1) 0 n
others_stay (Poll h time) counts g n = refl
others_stay (Lose h) counts g n = refl

pub board_timed : (unit harts : ℕ) → IsTimed (board unit) (IsBoard harts)
board_timed unit harts = record {
  touch_moves = λ s t h input on is. let d = does harts s t (Touch h input) on is in
      ap (λ (c : List ℕ). slice_index c h) d.counts ∙ up_by_one s.counts h d.inside;
  poll_stays = λ s t h time on is. ap (λ (c : List ℕ). slice_index c h) (does harts s t (Poll h time) on is).counts;
  lose_stays = λ s t h on is. ap (λ (c : List ℕ). slice_index c h) (does harts s t (Lose h) on is).counts;
  others = λ s t act g on is n. ap (λ (c : List ℕ). slice_index c g) (does harts s t act on is).counts ∙ others_stay act s.counts g n;
  later = λ s t act on is. (does harts s t act on is).later;
  touch_time = λ s t h time on is. (does harts s t (Touch h (Time time)) on is).touch_time h time refl;
  poll_time = λ s t h time on is. (does harts s t (Poll h time) on is).poll_time h time refl;
}

no_entry : (n g i : ℕ) (e : Entry) → At (replicate n []) g i e → ⊥
no_entry zero g i e at = none-some _ at
no_entry (suc n) zero i e at = none-some _ at
no_entry (suc n) (suc g) i e at = no_entry n g i e at

pub empty_stream : (n g : ℕ) → stream_in (replicate n []) g ≡ []
empty_stream zero g = refl
empty_stream (suc n) zero = refl
empty_stream (suc n) (suc g) = empty_stream n g

none_many : (test : Entry → Bool) (n : ℕ) → many test (replicate n []) ≡ 0
none_many test zero = refl
none_many test (suc n) = none_many test n

none_numbered : (number : Entry → Option ℕ) (n : ℕ) → IsNumbered number 0 (replicate n [])
none_numbered number n = record {
  below = λ g i k e at is. absurd (no_entry n g i e at);
  once = λ g i h j k e f at_e at_f is_e is_f. absurd (no_entry n g i e at_e);
  each = λ k l. absurd (omega (arith, l));
  count = none_many (λ e. is_some (number e)) n;
}

row_of_nobody : (pages n page : ℕ) → page < pages → row (nobody pages n) page ≡ replicate n None
row_of_nobody zero n page l = absurd (omega (arith, l))
row_of_nobody (suc pages) n zero l = refl
row_of_nobody (suc pages) n (suc page) l = row_of_nobody pages n page (omega (arith, l))

abbrev nothing_held : ℕ → List (Option Mode)
nothing_held n = replicate n None

none_of : (n h : ℕ) → unwrap_or (slice_get (nothing_held n) h) None ≡ None
none_of zero h = refl
none_of (suc n) zero = refl
none_of (suc n) (suc h) = none_of n h

nobody_holds : (pages n page h : ℕ) → held (nobody pages n) page h ≡ None
nobody_holds zero n page h = refl
nobody_holds (suc pages) n zero h = none_of n h
nobody_holds (suc pages) n (suc page) h = nobody_holds pages n page h

module _ {S V : Type 0} (flat : Flat S V) (harts : ℕ) (Good : S → Type 0) (steady : IsSteady flat harts Good) (timed : IsTimed flat Good) (pages limit : ℕ)
    (first : S) (good : Good first) (unmoved : (h : ℕ) → flat.count first h ≡ 0) where
  pub first_ordered : IsOrdered flat harts Good steady timed pages limit (first_recording pages harts first)
  first_ordered = record {
    tidy = record {
      good = good;
      streams = length-replicate harts [];
      places = length-replicate harts 0;
      place = λ h l. no_place harts h ∙ sym (ap (λ (xs : List Entry). length xs) (no_stream harts h l));
    };
    each = λ h l. subst (λ s. IsTidyStream limit s (flat.count first h)) (sym (empty_stream harts h))
        (subst (IsTidyStream limit []) (sym (unmoved h)) (no_stream_yet limit));
    numbers = λ page l. subst (λ n. IsNumbered (number_on page) n (replicate harts [])) (sym (no_place pages page)) (none_numbered (number_on page) harts);
    numbers_size = length-replicate pages 0;
    in_pages = λ g i e p at is. absurd (no_entry harts g i e at);
    ordinals = none_numbered ordinal_of harts;
    times = λ g i t e at is. absurd (no_entry harts g i e at);
    rise = λ g i h j k l s t e f at_e at_f oe of less se sf. absurd (no_entry harts g i e at_e);
  }

  pub first_fits : FitsAt flat harts pages (first_recording pages harts first).at
  first_fits = record {
    numbers_size = length-replicate pages 0;
    holders_size = length-replicate pages (replicate harts None);
    rows = λ page l. ap (λ (xs : List (Option Mode)). length xs) (row_of_nobody pages harts page l) ∙ length-replicate harts None;
  }

  pub orderly : (image : List ℕ) (cause : Cause) (items : List (ℕ × Item)) (r : Recording S) (is : Records flat (first_recording pages harts first) items r)
      → AreAllowed flat pages limit (first_recording pages harts first) r items is → IsOrderly (log_of_recording flat pages limit image cause r)
  orderly image cause items r is allowed =
      let begin = first_recording pages harts first in
      let last = ordered_all flat harts Good steady timed pages limit begin r items is allowed first_ordered in
      let follow = λ (page h : ℕ). nobody_holds pages harts page h
      ∙ sym (ap (rules.held (log_of_recording flat pages limit image cause r) page h) (no_place pages page)) in
      let empty = λ (g : ℕ). ap (λ (xs : List Entry). length xs) (empty_stream harts g) in
      record {
        counts_rise_to_the_end = keeps_o1 flat harts Good steady timed pages limit image cause r last;
        kinds_in_order_at_a_count = keeps_o2 flat harts Good steady timed pages limit image cause r last;
        polls_where_due = keeps_o3 flat harts Good steady timed pages limit image cause r last;
        touches_go_on = keeps_o4 flat harts Good steady timed pages limit image cause r last;
        pages_are_numbered = keeps_o5 flat harts Good steady timed pages limit image cause r last;
        holders_are_crew = keeps_o6 flat harts Good steady timed pages limit image cause r last begin items is allowed first_ordered first_fits follow empty;
        gains_name_their_waits =
            keeps_o7 flat harts Good steady timed pages limit image cause r last begin items is allowed first_ordered first_fits follow empty;
        ordinals_and_times_rise = keeps_o8 flat harts Good steady timed pages limit image cause r last;
        least_order_takes_all = taken_whole flat harts Good steady timed pages limit image cause r last begin items is allowed first_ordered
            (ap (λ n. record { places = replicate n 0; numbers = replicate pages 0; ordinal = 0 })
            (sym (many_streams flat harts Good steady timed pages limit image cause r last)));
      }

pub runs_are_orderly : RunsAreOrderly
runs_are_orderly unit pages limit harts image cause first items r is on unmoved allowed =
    orderly (board unit) harts (IsBoard harts) (board_steady unit harts) (board_timed unit harts) pages limit first on unmoved image cause items r is allowed
