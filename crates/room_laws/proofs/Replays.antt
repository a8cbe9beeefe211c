-- A replay under a log without room goes as under the log.
use Rattle.std.proofs.Common.{◌≡◌, ℕ, ◌==◌, ◌&&◌, not, ◌++◌, Bool, true, false, List, [], ◌∷◌, length, filter_map, Option, Some, None, is_some, option_map}
use Rattle.std.proofs.Common.{refl, sym, ap, subst, ◌∙◌}
use Rattle.std.specs.Prelude.{◌↔◌, count_by, IsSomeAnd, if◌then◌else◌}
use Rattle.std.specs.List.{list_all, cons_option}
use Rattle.std.specs.Option.{option_map_or}
use Rattle.std.proofs.lemmas.List.{length-map}
use Rattle.orders_law.specs.Orders.{IsFull, Leads, IsLeast, below}
use Rattle.outside.specs.declared.console.Asked.{Asked}
use Rattle.log_entry.specs.declared.log.Entry.{Entry}
use Rattle.log_entry.specs.declared.log.Entry.TheVariants.{Gain, Yield, Poll, Touch, End}
use Rattle.log_entry.specs.declared.log.Log.{Log}
use Rattle.log_entry.specs.Parts.{count_of, is_end, ordinal_of, time_of, units_of}
use Rattle.log_entry.specs.Room.{entry_without_room, stream_without_room, log_without_room}
use Rattle.order_rules.specs.Holders.{nobody}
use Rattle.order_rules.specs.Places.{entries}
use Rattle.order_rules.specs.Rules.{with_ordinal}
use Rattle.order_rules.specs.Cursor.{first_left}
use Rattle.replay_model.specs.Flat.{Flat}
use Rattle.replay_model.specs.State.{Replay, start}
use Rattle.replay_model.specs.Items.{Item, Ended, Move, Makes, Verdict, HasEnded, Holds, CanGo, HasDiverged, item_at, verdict_on, made, goes, next_item}
use Rattle.replay_model.specs.Items.{verdict, step, Obeys, IsFullOrder}
use Rattle.replay_model.specs.Acts.{acts_of_item, acts_of}
use Rattle.replay_model.specs.Outcome.{Outcome, Done, Diverged, is_stop, is_limit, same, is_ended, rule_of, cause_agrees, all_ended, diverged}
use Rattle.replay_model.specs.Outcome.{least_diverged, outcome_at, IsOutcome}
use Rattle.replay_model.specs.Journal.{IsWantedGain, IsLeanItem, Throughout}
use Rattle.replay_model.specs.Inputs.{console_input, by_ordinal, Agree}
use Rattle.room_laws.specs.Items.{item_without_room}
use Rattle.room_laws.specs.Laws.{IsReplayedAlike}
use Rattle.room_laws.proofs.Lists.{kept_mapped}
use Rattle.room_laws.proofs.Entries.{Unseen, unseen}
use Rattle.room_laws.proofs.Places.{harts_are, count_in}
use Rattle.room_laws.proofs.Rules.{ordinal_is}
use Rattle.room_laws.proofs.Judged.{both_ways, along_three, start_is, first_is}

-- what is the same of each entry's item is the same of each item
item_unseen : {X : Type 0} (f : Item → X) → Unseen (λ e. f (Makes e)) → (item : Item) → f (item_without_room item) ≡ f item
item_unseen f u Ended = refl
item_unseen f u Move = refl
item_unseen f u (Makes e) = λ i. u i e

chosen_item : (past ends : Bool) (e : Entry)
    → (if past then Move else if ends then Ended else Makes (entry_without_room e))
    ≡ item_without_room (if past then Move else if ends then Ended else Makes e)
chosen_item true ends e = refl
chosen_item false true e = refl
chosen_item false false e = refl

item_at_is : (count : ℕ) (o : Option Entry) → item_at count (option_map entry_without_room o) ≡ item_without_room (item_at count o)
item_at_is count None = refl
item_at_is count (Some e) =
    (λ i. if not (unseen count_of (λ c p s m w. refl) i e == count) then Move
    else if unseen is_end (λ c p s m w. refl) i e then Ended else Makes (entry_without_room e))
    ∙ chosen_item (not (count_of e == count)) (is_end e) e

some_then : {X : Type 0} (P Q : X → Type 0) → ((x : X) → P x → Q x) → (o : Option X) → IsSomeAnd o P → IsSomeAnd o Q
some_then P Q f None p = p
some_then P Q f (Some x) p = f x p

module _ {S V : Type 0} (flat : Flat S V) where
  verdict_on_is : (s : Replay S) (h : ℕ) (item : Item) → verdict_on flat s h (item_without_room item) ≡ verdict_on flat s h item
  verdict_on_is s h item = item_unseen (verdict_on flat s h) (unseen _ (λ c p q m w. refl)) item

  made_is : (s : Replay S) (h : ℕ) (item : Item) → made flat s h (item_without_room item) ≡ made flat s h item
  made_is s h item = item_unseen (made flat s h) (unseen _ (λ c p q m w. refl)) item

  goes_is : (s : Replay S) (h : ℕ) (item : Item) (v : Verdict) → goes flat s h (item_without_room item) v ≡ goes flat s h item v
  goes_is s h item CanGo = item_unseen (λ j. goes flat s h j CanGo) (unseen _ (λ c p q m w. refl)) item
  goes_is s h item HasEnded = refl
  goes_is s h item Holds = refl
  goes_is s h item (HasDiverged rule) = refl

  acts_of_item_is : (s : Replay S) (h : ℕ) (item : Item) → acts_of_item flat s h (item_without_room item) ≡ acts_of_item flat s h item
  acts_of_item_is s h item = item_unseen (acts_of_item flat s h) (unseen _ (λ c p q m w. refl)) item

  gain_there : (s : Replay S) (h : ℕ) (item : Item) → IsWantedGain flat s h (item_without_room item) → IsWantedGain flat s h item
  gain_there s h Ended t = t
  gain_there s h Move t = t
  gain_there s h (Makes (Gain count page seq mode waits)) t = t
  gain_there s h (Makes (Yield count page seq left)) t = t
  gain_there s h (Makes (Poll count ord time bits)) t = t
  gain_there s h (Makes (Touch count ord input)) t = t
  gain_there s h (Makes (End count)) t = t

  gain_back : (s : Replay S) (h : ℕ) (item : Item) → IsWantedGain flat s h item → IsWantedGain flat s h (item_without_room item)
  gain_back s h Ended t = t
  gain_back s h Move t = t
  gain_back s h (Makes (Gain count page seq mode waits)) t = t
  gain_back s h (Makes (Yield count page seq left)) t = t
  gain_back s h (Makes (Poll count ord time bits)) t = t
  gain_back s h (Makes (Touch count ord input)) t = t
  gain_back s h (Makes (End count)) t = t

module _ {S V : Type 0} (flat : Flat S V) (log : Log) where
  abbrev bare : Log
  bare = log_without_room log

  starts : (first : S) → start bare first ≡ start log first
  starts first = λ i. record { flat = first; cursor = start_is log i; holders = nobody (units_of log) (length-map log.streams stream_without_room i) }

  pub items_are : (s : Replay S) (h : ℕ) → next_item flat bare s h ≡ item_without_room (next_item flat log s h)
  items_are s h = ap (item_at (flat.count s.flat h)) (first_is log s.cursor h) ∙ item_at_is (flat.count s.flat h) (first_left log s.cursor h)

  verdict_is : (s : Replay S) (h : ℕ) → verdict flat bare s h ≡ verdict flat log s h
  verdict_is s h = ap (verdict_on flat s h) (items_are s h) ∙ verdict_on_is flat s h (next_item flat log s h)

  step_is : (h : ℕ) (s : Replay S) → step flat bare h s ≡ step flat log h s
  step_is h s = (λ i. goes flat s h (items_are s h i) (verdict_is s h i)) ∙ goes_is flat s h (next_item flat log s h) (verdict flat log s h)

  pub steps_are : step flat bare ≡ step flat log
  steps_are = λ i h s. step_is h s i

  orders : (s t : Replay S) (order : List ℕ) → Obeys flat bare s order t ↔ Obeys flat log s order t
  orders s t order = (
    λ o. (o.0, o.1, (both_ways (λ f. Leads f s o.0 t) steps_are).0 o.2),
    λ o. (o.0, o.1, (both_ways (λ f. Leads f s o.0 t) steps_are).1 o.2),
  )

  full : (s t : Replay S) (order : List ℕ) → IsFullOrder flat bare s order t ↔ IsFullOrder flat log s order t
  full s t order = (
    λ o. (o.0, o.1, (both_ways (λ f. IsFull f s o.0 t) steps_are).0 o.2),
    λ o. (o.0, o.1, (both_ways (λ f. IsFull f s o.0 t) steps_are).1 o.2),
  )

  acts_along : (s : Replay S) (order : List ℕ) → acts_of flat bare s order ≡ acts_of flat log s order
  acts_along s [] = refl
  acts_along s (h ∷ order) = λ i. option_map_or (λ m. of_item i ++ acts_along m.0 order i) (step_is h s i) []
    where
      of_item : acts_of_item flat s h (next_item flat bare s h) ≡ acts_of_item flat s h (next_item flat log s h)
      of_item = ap (acts_of_item flat s h) (items_are s h) ∙ acts_of_item_is flat s h (next_item flat log s h)

  pub outcome_is : (s : Replay S) → outcome_at flat bare s ≡ outcome_at flat log s
  outcome_is s = λ i.
      if all i then Some (if agrees i then Done s.flat else Diverged 0 (flat.count s.flat 0) 7 s.flat) else least_diverged flat log s (apart i)
    where
      all : all_ended flat bare s ≡ all_ended flat log s
      all = λ i. list_all (λ h. is_ended (verdict_is s h i)) (harts_are log i)

      agrees : cause_agrees flat bare s.flat ≡ cause_agrees flat log s.flat
      agrees = ap (λ hs. same (is_stop log.cause) (flat.is_stopped s.flat)
          && same (is_limit log.cause) (not (flat.is_stopped s.flat) && list_all (λ h. flat.count s.flat h == log.limit) hs)) (harts_are log)

      apart : diverged flat bare s ≡ diverged flat log s
      apart = λ i. filter_map (λ h. option_map (λ rule. (h, rule)) (rule_of (verdict_is s h i))) (harts_are log i)

  least_there : (first : S) (made : List (ℕ × Option V)) (end : Replay S)
      → IsLeast (step flat bare) (length bare.streams) (start bare first) made end ↔ IsLeast (step flat log) (length log.streams) (start log first) made end
  least_there first made end = along_three (λ f n s. IsLeast f n s made end) steps_are (length-map log.streams stream_without_room) (starts first)

  outcomes : (first : S) (outcome : Outcome S) → IsOutcome flat bare first outcome ↔ IsOutcome flat log first outcome
  outcomes first outcome = (
    λ o. (o.0, (o.1.0, (least_there first o.0 o.1.0).0 o.1.1, sym (outcome_is o.1.0) ∙ o.1.2)),
    λ o. (o.0, (o.1.0, (least_there first o.0 o.1.0).1 o.1.1, outcome_is o.1.0 ∙ o.1.2)),
  )

  -- what holds throughout an order under one of the two logs holds so under the other, where it does of the items
  there_throughout : (P Q : Replay S → ℕ → Item → Type 0) → ((s : Replay S) (h : ℕ) (item : Item) → P s h (item_without_room item) → Q s h item)
      → (s : Replay S) (order : List ℕ) → Throughout flat bare P s order → Throughout flat log Q s order
  there_throughout P Q f s [] t = t
  there_throughout P Q f s (h ∷ order) t = (
    f s h (next_item flat log s h) (subst (P s h) (items_are s h) t.0),
    some_then (λ m. Throughout flat bare P m.0 order) (λ m. Throughout flat log Q m.0 order) (λ m. there_throughout P Q f m.0 order) (step flat log h s)
        (subst (λ o. IsSomeAnd o (λ m. Throughout flat bare P m.0 order)) (step_is h s) t.1),
  )

  back_throughout : (P Q : Replay S → ℕ → Item → Type 0) → ((s : Replay S) (h : ℕ) (item : Item) → P s h item → Q s h (item_without_room item))
      → (s : Replay S) (order : List ℕ) → Throughout flat log P s order → Throughout flat bare Q s order
  back_throughout P Q f s [] t = t
  back_throughout P Q f s (h ∷ order) t = (
    subst (Q s h) (sym (items_are s h)) (f s h (next_item flat log s h) t.0),
    some_then (λ m. Throughout flat log P m.0 order) (λ m. Throughout flat bare Q m.0 order) (λ m. back_throughout P Q f m.0 order) (step flat bare h s)
        (subst (λ o. IsSomeAnd o (λ m. Throughout flat log P m.0 order)) (sym (step_is h s)) t.1),
  )

  lean_there : (s : Replay S) (h : ℕ) (item : Item) → IsLeanItem flat bare s h (item_without_room item) → IsLeanItem flat log s h item
  lean_there s h Ended t = t
  lean_there s h Move t = t
  lean_there s h (Makes (Gain count page seq mode waits)) t = t
  lean_there s h (Makes (Yield count page seq left)) t =
      record { hart = t.hart; mode = t.mode; other = t.other; goes_on = t.goes_on; wants = t.wants; conflicts = t.conflicts; leaves = t.leaves }
  lean_there s h (Makes (Poll count ord time bits)) t = t
  lean_there s h (Makes (Touch count ord input)) t = t
  lean_there s h (Makes (End count)) t = t

  lean_back : (s : Replay S) (h : ℕ) (item : Item) → IsLeanItem flat log s h item → IsLeanItem flat bare s h (item_without_room item)
  lean_back s h Ended t = t
  lean_back s h Move t = t
  lean_back s h (Makes (Gain count page seq mode waits)) t = t
  lean_back s h (Makes (Yield count page seq left)) t =
      record { hart = t.hart; mode = t.mode; other = t.other; goes_on = t.goes_on; wants = t.wants; conflicts = t.conflicts; leaves = t.leaves }
  lean_back s h (Makes (Poll count ord time bits)) t = t
  lean_back s h (Makes (Touch count ord input)) t = t
  lean_back s h (Makes (End count)) t = t

  -- what console and clock gave, by ordinals
  kept_of : {X : Type 0} (f : Entry → Option X) → Unseen f → filter_map f (by_ordinal bare) ≡ filter_map f (by_ordinal log)
  kept_of f u = ap (filter_map f) (ordered ∙ rooms (below (count_by (λ e. is_some (ordinal_of e)) (entries log))))
      ∙ kept_mapped entry_without_room f (by_ordinal log)
      ∙ ap (λ g. filter_map g (by_ordinal log)) u
    where
      ordered : by_ordinal bare
          ≡ filter_map (λ k. option_map entry_without_room (with_ordinal log k)) (below (count_by (λ e. is_some (ordinal_of e)) (entries log)))
      ordered = λ i. filter_map (λ k. ordinal_is log k i) (below (count_in log (λ e. is_some (ordinal_of e)) (unseen _ (λ c p q m w. refl)) i))

      by : (o : Option Entry) (es : List Entry)
          → cons_option (option_map entry_without_room o) (stream_without_room es) ≡ stream_without_room (cons_option o es)
      by None es = refl
      by (Some e) es = refl

      rooms : (ks : List ℕ)
          → filter_map (λ k. option_map entry_without_room (with_ordinal log k)) ks ≡ stream_without_room (filter_map (with_ordinal log) ks)
      rooms [] = refl
      rooms (k ∷ ks) = ap (cons_option (option_map entry_without_room (with_ordinal log k))) (rooms ks)
          ∙ by (with_ordinal log k) (filter_map (with_ordinal log) ks)

  console_is : filter_map console_input (by_ordinal bare) ≡ filter_map console_input (by_ordinal log)
  console_is = kept_of console_input (unseen _ (λ c p q m w. refl))

  clock_is : filter_map time_of (by_ordinal bare) ≡ filter_map time_of (by_ordinal log)
  clock_is = kept_of time_of (unseen _ (λ c p q m w. refl))

  inputs : (end : S) (asked : List Asked) (times took : List ℕ) → Agree flat bare end asked times took ↔ Agree flat log end asked times took
  inputs end asked times took = (
    λ a. record { console = a.console ∙ console_is; clock = a.clock ∙ clock_is; bytes = a.bytes },
    λ a. record { console = a.console ∙ sym console_is; clock = a.clock ∙ sym clock_is; bytes = a.bytes },
  )

  pub replayed_alike : IsReplayedAlike flat log
  replayed_alike = record {
    starts = starts;
    items_are = items_are;
    judged_is = verdict_on_is flat;
    made_is = made_is flat;
    verdicts_are = λ i s h. verdict_is s h i;
    steps_are = steps_are;
    orders = orders;
    full = full;
    acts_are = λ i s order. acts_along s order i;
    outcomes_are = λ i s. outcome_is s i;
    outcomes = outcomes;
    gains = λ s order. (
      there_throughout (IsWantedGain flat) (IsWantedGain flat) (gain_there flat) s order,
      back_throughout (IsWantedGain flat) (IsWantedGain flat) (gain_back flat) s order,
    );
    lean = λ s order. (
      there_throughout (IsLeanItem flat bare) (IsLeanItem flat log) lean_there s order,
      back_throughout (IsLeanItem flat log) (IsLeanItem flat bare) lean_back s order,
    );
    inputs = inputs;
  }
