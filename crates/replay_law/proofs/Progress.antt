-- Replays end: each item takes a place or raises a count, and both are bounded by the log.
use Rattle.std.proofs.Common.{◌≡◌, ◌≢◌, ◌⊎◌, ℕ, zero, suc, ◌+◌, ◌<◌, ◌≤◌, ◌==◌, not, Bool, true, false, List, [], ◌∷◌, map, length, Option, Some}
use Rattle.std.proofs.Common.{None, slice_index, slice_set, unwrap_or, true≢false, refl, sym, ap, ◌∙◌, subst, inl, inr, arith, if◌then◌else◌}
use Rattle.std.proofs.lemmas.Bool.{cases_eq, cases_lt, eqb-true, eq-eqb}
use Rattle.std.proofs.lemmas.List.{length-map, length-replicate, length-set}
use Rattle.std.proofs.lemmas.Option.{none-some, same_Some}
use Rattle.orders_law.specs.Orders.{IsFull, total}
use Rattle.log_entry.specs.declared.log.Entry.{Entry}
use Rattle.log_entry.specs.declared.log.Entry.TheVariants as entries
use Rattle.log_entry.specs.declared.log.Log.{Log}
use Rattle.log_entry.specs.Parts.{count_of, is_end, unit_of, units_of}
use Rattle.elf_image.specs.Image.{Image}
use Rattle.order_rules.specs.Places.{stream, entry_at}
use Rattle.order_rules.specs.Cursor.{Cursor, first_left}
use Rattle.flat_machine.specs.State.{FlatState}
use Rattle.flat_machine.specs.declared.act.Act.{Act}
use Rattle.flat_machine.specs.declared.act.Act.TheVariants as act
use Rattle.flat_machine.specs.declared.results.Step.{Step}
use Rattle.device_board.specs.State.{Devices}
use Rattle.replay_model.specs.Board.{board}
use Rattle.replay_model.specs.State.{Replay}
use Rattle.replay_model.specs.Items.{Item, Ended, Move, Makes, item_at, next_item, step}
use Rattle.run_model.specs.Run.{Run}
use Rattle.shared_types.proofs.Lists as lists
use Rattle.shared_types.proofs.Lists.{set_here}
use Rattle.std.proofs.lemmas.Option.{slice_get_within, get_or_from_slice_get}
use Rattle.replay_law.specs.Laws.{IsReplayable, first_replay, FullOrderIsThere}
use Rattle.replay_law.proofs.Local.{actor}
use Rattle.replay_law.proofs.Steps.{IsMade, act_of, flat_after, cursor_after, step_went}
use Rattle.replay_law.proofs.Cursors.{index_there, left_stays}
use Rattle.replay_law.proofs.Verdicts.{ActIs, act_is}
use Rattle.replay_law.proofs.Pairs.{makes_in, finds_after}
use Rattle.replay_law.proofs.Views.{Fits, Sound, shape_of}
use Rattle.replay_law.proofs.Deeds.{deed, chosen}
use Rattle.replay_law.proofs.Boards.{made_of, board_local, index_of}
use Rattle.replay_law.proofs.Orders.{Good, good_first, lasts, no_number, no_more}
use Rattle.replay_law.proofs.Streams.{first_there, next_there, next_rises, touch_rises}
use Rattle.orders_law.proofs.Totals.{total_least, total_more, index_map}
use Rattle.replay_law.proofs.Totals.{most, at_most}

-- a hart's count after its act, and after its item
abbrev act_count : Act → ℕ → ℕ
act_count (act.Run h) k = k + 1
act_count (act.Touch h input) k = k + 1
act_count a k = k

abbrev item_count : Item → ℕ → ℕ
item_count Move k = k + 1
item_count (Makes (entries.Touch count ord input)) k = k + 1
item_count item k = k

deed_count : (r : Run) (a : Act) (d : Devices) (q : Run × Devices) → deed r a d ≡ Some q → q.0.count ≡ act_count a r.count
deed_count r (act.Run h) d q is = sym (ap (λ (z : Run × Devices). z.0.count) (same_Some _ _ is))
deed_count r (act.Touch h input) d q is = let c = chosen _ _ _ q is in sym (ap (λ (z : Run × Devices). z.0.count) c.3)
deed_count r (act.Poll h time) d q is = let c = lists.chosen _ _ q is in sym (ap (λ (z : Run × Devices). z.0.count) c.1)
deed_count r (act.Lose h) d q is = sym (ap (λ (z : Run × Devices). z.0.count) (same_Some _ _ is))

abbrev is_run : Item → Bool
is_run Move = true
is_run item = false

pub move_means : (n : ℕ) (e : Entry) → item_at n (Some e) ≡ Move → count_of e ≢ n
move_means n e is same = by (count_of e == n) (is_end e) (eq-eqb (count_of e) n same) is where
  by : (a b : Bool) → a ≡ true → (if not a then Move else if b then Ended else Makes e) ≡ Move → ⊥
  by false b t f = true≢false (sym t)
  by true true t f = true≢false (sym (ap is_run f))
  by true false t f = true≢false (sym (ap is_run f))

-- the entry of an item is the first one left, stands at the hart's count, and is no End
pub record IsDue (n : ℕ) (o : Option Entry) (e : Entry) : Type 0 where
  pub first : o ≡ Some e
  pub count : count_of e ≡ n
  pub goes_on : is_end e ≡ false

pub makes_means : (n : ℕ) (o : Option Entry) (e : Entry) → item_at n o ≡ Makes e → IsDue n o e
makes_means n None e is = absurd (none-some _ (ap makes_in is))
makes_means n (Some x) e is = by (count_of x == n) (is_end x) refl refl is where
  by : (a b : Bool) → (count_of x == n) ≡ a → is_end x ≡ b → (if not a then Move else if b then Ended else Makes x) ≡ Makes e → IsDue n (Some x) e
  by false b c d f = absurd (none-some _ (ap makes_in f))
  by true true c d f = absurd (none-some _ (ap makes_in f))
  by true false c d f =
      let same : x ≡ e = same_Some _ _ (ap makes_in f) in
      record { first = ap Some same; count = ap count_of (sym same) ∙ eqb-true (count_of x) n c; goes_on = ap is_end (sym same) ∙ d }

module _ (log : Log) (image : Image) (is : IsReplayable log image) where
  abbrev Sane : Replay FlatState → Type 0
  Sane s = Sound (shape_of log) s

  acted_count : (s : Replay FlatState) (h : ℕ) (p : Option Act) (a : FlatState) (count : ℕ → ℕ) → Sane s
      → ((x : Act) → p ≡ Some x → ActIs (board (unit_of log)) s h x) → flat_after (board (unit_of log)) s.flat p ≡ Some a
      → (p ≡ None → (k : ℕ) → count k ≡ k) → ((x : Act) → p ≡ Some x → (k : ℕ) → act_count x k ≡ count k)
      → (board (unit_of log)).count a h ≡ count ((board (unit_of log)).count s.flat h)
  acted_count s h None a count sound own did rest moves = ap (λ f. (board (unit_of log)).count f h) (sym (same_Some _ _ did))
      ∙ sym (rest refl ((board (unit_of log)).count s.flat h))
  acted_count s h (Some x) a count sound own did rest moves =
      let o = own x refl in
      let m = made_of (shape_of log) s x a sound o.has did in
      let before : m.run.count ≡ (board (unit_of log)).count s.flat (actor x) =
      sym (index_of s.flat.counts (actor x) ∙ ap (λ z. unwrap_or z 0) m.agrees.count) in
      let later : (board (unit_of log)).count a (actor x) ≡ m.after.0.count = index_of a.counts (actor x) ∙ ap (λ z. unwrap_or z 0) m.done.agrees.count in
      subst (λ k. (board (unit_of log)).count a k ≡ count ((board (unit_of log)).count s.flat k)) o.by
      (later ∙ deed_count m.run x s.flat.devices m.after m.is ∙ moves x refl m.run.count ∙ ap count before)

  lose_count : (b : Bool) (h : ℕ) (x : Act) → (if b then Some (act.Lose h) else None) ≡ Some x → (k : ℕ) → act_count x k ≡ k
  lose_count true h x e k = ap (λ z. act_count z k) (sym (same_Some (act.Lose h) x e))
  lose_count false h x e k = absurd (none-some _ e)

  -- a hart's own count after its item
  own_count : (s : Replay FlatState) (h : ℕ) (item : Item) (a : FlatState) → Sane s → IsMade item
      → ((x : Act) → act_of (board (unit_of log)) s h item ≡ Some x → ActIs (board (unit_of log)) s h x)
      → flat_after (board (unit_of log)) s.flat (act_of (board (unit_of log)) s h item) ≡ Some a
      → (board (unit_of log)).count a h ≡ item_count item ((board (unit_of log)).count s.flat h)
  own_count s h Ended a sound real own did = absurd real
  own_count s h Move a sound real own did =
      acted_count s h (Some (act.Run h)) a (λ k. k + 1) sound own did (λ e k. absurd (none-some _ (sym e)))
      (λ x e k. ap (λ z. act_count z k) (sym (same_Some (act.Run h) x e)))
  own_count s h (Makes (entries.Gain count page seq mode waits)) a sound real own did =
      acted_count s h None a (λ k. k) sound own did (λ e k. refl) (λ x e k. absurd (none-some _ e))
  own_count s h (Makes (entries.Yield count page seq left)) a sound real own did =
      acted_count s h (act_of (board (unit_of log)) s h (Makes (entries.Yield count page seq left))) a (λ k. k) sound own did (λ e k. refl)
      (λ x e k. lose_count _ h x e k)
  own_count s h (Makes (entries.Poll count ord time bits)) a sound real own did =
      acted_count s h (Some (act.Poll h time)) a (λ k. k) sound own did (λ e k. refl)
      (λ x e k. ap (λ z. act_count z k) (sym (same_Some (act.Poll h time) x e)))
  own_count s h (Makes (entries.Touch count ord input)) a sound real own did =
      acted_count s h (Some (act.Touch h input)) a (λ k. k + 1) sound own did (λ e k. absurd (none-some _ (sym e)))
      (λ x e k. ap (λ z. act_count z k) (sym (same_Some (act.Touch h input) x e)))
  own_count s h (Makes (entries.End count)) a sound real own did = absurd real

  -- an entry is left of each stream, at a count that its hart has not passed
  pub record Behind (s : Replay FlatState) (h : ℕ) : Type 0 where
    pub entry : Entry
    pub first : first_left log s.cursor h ≡ Some entry
    pub count : (board (unit_of log)).count s.flat h ≤ count_of entry

  pub record Going (s : Replay FlatState) : Type 0 where
    pub good : Good log image is s
    pub places : length s.cursor.places ≡ length log.streams
    pub behind : (h : ℕ) → h < length log.streams → Behind s h

  pub going_first : Going (first_replay log image)
  going_first =
      let n = length log.streams in
      record {
        good = good_first log image is;
        places = length-replicate (length log.streams) 0;
        behind = λ h l.
            let e = first_there log is.orderly.counts_rise_to_the_end h l in
            record { entry = e.0; first = ap (entry_at log h) (no_number n h) ∙ e.1; count = let z = no_number n h in omega (arith, z) };
      }

  -- the places of a cursor after an item
  abbrev places_after : List ℕ → ℕ → Item → List ℕ
  places_after places h (Makes e) = slice_set places h (slice_index places h + 1)
  places_after places h item = places

  places_are : (c : Cursor) (h : ℕ) (item : Item) → (cursor_after c h item).places ≡ places_after c.places h item
  places_are c h Ended = refl
  places_are c h Move = refl
  places_are c h (Makes e) = refl

  places_size : (places : List ℕ) (h : ℕ) (item : Item) → length (places_after places h item) ≡ length places
  places_size places h Ended = refl
  places_size places h Move = refl
  places_size places h (Makes e) = length-set places h (slice_index places h + 1)

  set_index : (xs : List ℕ) (h k : ℕ) → h < length xs → slice_index (slice_set xs h k) h ≡ k
  set_index xs h k l = get_or_from_slice_get (slice_set xs h k) h k 0 (set_here xs h k l)

  next_count : (h i : ℕ) (e f : Entry) → entry_at log h i ≡ Some e → entry_at log h (i + 1) ≡ Some f → item_count (Makes e) (count_of e) ≤ count_of f
  next_count h i (entries.Gain count page seq mode waits) f at then_at =
      next_rises log is.orderly.counts_rise_to_the_end h i (entries.Gain count page seq mode waits) f at then_at
  next_count h i (entries.Yield count page seq left) f at then_at =
      next_rises log is.orderly.counts_rise_to_the_end h i (entries.Yield count page seq left) f at then_at
  next_count h i (entries.Poll count ord time bits) f at then_at =
      next_rises log is.orderly.counts_rise_to_the_end h i (entries.Poll count ord time bits) f at then_at
  next_count h i (entries.Touch count ord input) f at then_at = let l =
      touch_rises log is.orderly.counts_rise_to_the_end is.orderly.touches_go_on h i (entries.Touch count ord input) f at refl then_at in omega (arith, l)
  next_count h i (entries.End count) f at then_at = next_rises log is.orderly.counts_rise_to_the_end h i (entries.End count) f at then_at

  own_behind : (s a : Replay FlatState) (h : ℕ) (item : Item) → h < length s.cursor.places → Behind s h
      → item_at ((board (unit_of log)).count s.flat h) (first_left log s.cursor h) ≡ item → IsMade item
      → a.cursor ≡ cursor_after s.cursor h item → (board (unit_of log)).count a.flat h ≡ item_count item ((board (unit_of log)).count s.flat h) → Behind a h
  own_behind s a h Ended l behind next real cursor count = absurd real
  own_behind s a h Move l behind next real cursor count =
      let apart : count_of behind.entry ≢ (board (unit_of log)).count s.flat h =
      move_means ((board (unit_of log)).count s.flat h) behind.entry (ap (item_at ((board (unit_of log)).count s.flat h)) (sym behind.first) ∙ next) in
      let most : (board (unit_of log)).count s.flat h ≤ count_of behind.entry = behind.count in
      record { entry = behind.entry; first = ap (λ c. first_left log c h) cursor ∙ behind.first; count = omega (arith, count, most, apart) }
  own_behind s a h (Makes e) l behind next real cursor count =
      let due = makes_means ((board (unit_of log)).count s.flat h) (first_left log s.cursor h) e next in
      let following = next_there log is.orderly.counts_rise_to_the_end h (slice_index s.cursor.places h) e due.first due.goes_on in
      let place : slice_index a.cursor.places h ≡ slice_index s.cursor.places h + 1 = ap (λ (c : Cursor). slice_index c.places h) cursor
      ∙ set_index s.cursor.places h (slice_index s.cursor.places h + 1) l in
      record {
        entry = following.0;
        first = ap (entry_at log h) place ∙ following.1;
        count = subst (λ k. k ≤ count_of following.0) (ap (item_count (Makes e)) due.count ∙ sym count)
            (next_count h (slice_index s.cursor.places h) e following.0 due.first following.1);
      }

  -- what a step leaves of counts and places
  pub record Goes (s a : Replay FlatState) (h : ℕ) : Type 0 where
    pub item : Item
    pub next : next_item (board (unit_of log)) log s h ≡ item
    pub real : IsMade item
    pub inside : h < length log.streams
    pub cursor : a.cursor ≡ cursor_after s.cursor h item
    pub own : (board (unit_of log)).count a.flat h ≡ item_count item ((board (unit_of log)).count s.flat h)
    pub others : (g : ℕ) → g ≢ h → (board (unit_of log)).count a.flat g ≡ (board (unit_of log)).count s.flat g

  pub goes : (s a : Replay FlatState) (h : ℕ) (w : Option (List Step)) → Going s → step (board (unit_of log)) log h s ≡ Some (a, w) → Goes s a h
  goes s a h w going did =
      let x = step_went (board (unit_of log)) log s a h w did in
      let sound = going.good.sound in
      record {
        item = x.item;
        next = x.next;
        real = x.real;
        inside = elim (cases_lt h (length log.streams)) [ inl l ↦ l | inr m ↦ absurd (none-some _ (sym (no_more log image is h s going.good m) ∙ did)) ];
        cursor = ap (λ (z : Replay FlatState). z.cursor) x.built_is;
        own = own_count s h x.item a.flat sound x.real (λ y e. act_is (board (unit_of log)) s h x.item y x.go e) x.flat_is;
        others = λ g n. (finds_after (board (unit_of log)) (Fits (length log.streams) log.pages) (length log.streams) (units_of log)
            (board_local (shape_of log)) s h g x.item a.flat sound n x.go x.flat_is).count;
      }

  pub going_lasts : (s a : Replay FlatState) (h : ℕ) (w : Option (List Step)) → Going s → step (board (unit_of log)) log h s ≡ Some (a, w) → Going a
  going_lasts s a h w going did =
      let x = goes s a h w going did in
      let inside : h < length s.cursor.places = (let l = x.inside in let p = going.places in omega (arith, l, p)) in
      record {
        good = lasts log image is s a w h going.good did;
        places = ap (λ (c : Cursor). length c.places) x.cursor ∙ ap length (places_are s.cursor h x.item) ∙ places_size s.cursor.places h x.item
            ∙ going.places;
        behind = λ g l. elim (cases_eq g h) [
          | inl same ↦ subst (Behind a) (sym same) (own_behind s a h x.item inside (going.behind h x.inside) x.next x.real x.cursor x.own)
          | inr n ↦
              let b = going.behind g l in
              let same = x.others g n in
              let most = b.count in
              record {
                entry = b.entry;
                first = ap (λ c. first_left log c g) x.cursor ∙ left_stays log s.cursor h g x.item n
                    ∙ b.first;
                count = omega (arith, same, most);
              }
        ];
      }

  abbrev progress : Replay FlatState → ℕ
  progress s = total s.cursor.places + total s.flat.counts

  abbrev pub bound : ℕ
  bound = total (map length log.streams) + total (map most log.streams)

  counts_size : (s : Replay FlatState) → Going s → length s.flat.counts ≡ length log.streams
  counts_size s going = going.good.sound.sized.counts_size ∙ going.good.sound.sized.harts_size

  within_bound : (s : Replay FlatState) → Going s → progress s ≤ bound
  within_bound s going =
      let places = total_least s.cursor.places (map length log.streams) (going.places ∙ sym (length-map log.streams length)) (λ i l.
      let inside : i < length log.streams = (let p = going.places in omega (arith, l, p)) in
      let b = going.behind i inside in
      let w = slice_get_within (stream log i) (slice_index s.cursor.places i) b.entry b.first in
      let size = index_map length log.streams i inside in omega (arith, w, size)) in
      let counts = total_least s.flat.counts (map most log.streams) (counts_size s going ∙ sym (length-map log.streams most)) (λ i l.
      let inside : i < length log.streams = (let p = counts_size s going in omega (arith, l, p)) in
      let b = going.behind i inside in
      let count = b.count in
      let top = at_most (stream log i) (slice_index s.cursor.places i) b.entry b.first in
      let size = index_map most log.streams i inside in omega (arith, count, top, size)) in
      omega (arith, places, counts)

  count_rises : (item : Item) (k : ℕ) → k ≤ item_count item k
  count_rises Ended k = omega arith
  count_rises Move k = omega arith
  count_rises (Makes (entries.Gain count page seq mode waits)) k = omega arith
  count_rises (Makes (entries.Yield count page seq left)) k = omega arith
  count_rises (Makes (entries.Poll count ord time bits)) k = omega arith
  count_rises (Makes (entries.Touch count ord input)) k = omega arith
  count_rises (Makes (entries.End count)) k = omega arith

  counts_rise : (s a : Replay FlatState) (h : ℕ) → Goes s a h → (i : ℕ) → slice_index s.flat.counts i ≤ slice_index a.flat.counts i
  counts_rise s a h x i = elim (cases_eq i h) [
    | inl same ↦
        subst (λ k. slice_index s.flat.counts k ≤ slice_index a.flat.counts k) (sym same)
        (let own = x.own in let more = count_rises x.item ((board (unit_of log)).count s.flat h) in omega (arith, own, more))
    | inr n ↦ let same = x.others i n in omega (arith, same)
  ]

  places_rise : (places : List ℕ) (h : ℕ) → h < length places → (i : ℕ) → slice_index places i ≤ slice_index (slice_set places h (slice_index places h + 1)) i
  places_rise places h l i = elim (cases_eq i h) [
    | inl same ↦
        subst (λ k. slice_index places k ≤ slice_index (slice_set places h (slice_index places h + 1)) k) (sym same)
        (let own = set_index places h (slice_index places h + 1) l in omega (arith, own))
    | inr n ↦ let other = index_there places h i (slice_index places h + 1) n in omega (arith, other)
  ]

  grows_by : (s a : Replay FlatState) (h : ℕ) (item : Item) → (x : Goes s a h) → x.item ≡ item → Going s → Going a → progress s + 1 ≤ progress a
  grows_by s a h Ended x same going then_going = absurd (subst IsMade same x.real)
  grows_by s a h Move x same going then_going =
      let places : total a.cursor.places ≡ total s.cursor.places = ap (λ (c : Cursor). total c.places) (x.cursor ∙ ap (cursor_after s.cursor h) same) in
      let own : (board (unit_of log)).count a.flat h ≡ (board (unit_of log)).count s.flat h + 1 = x.own
      ∙ ap (λ i. item_count i ((board (unit_of log)).count s.flat h)) same in
      let inside : h < length s.flat.counts = (let l = x.inside in let c = counts_size s going in omega (arith, l, c)) in
      let counts = total_more s.flat.counts a.flat.counts h (counts_size s going ∙ sym (counts_size a then_going)) inside (λ i l. counts_rise s a h x i)
      (omega (arith, own)) in
      omega (arith, places, counts)
  grows_by s a h (Makes e) x same going then_going =
      let are : a.cursor.places ≡ slice_set s.cursor.places h (slice_index s.cursor.places h + 1) =
      ap (λ (c : Cursor). c.places) (x.cursor ∙ ap (cursor_after s.cursor h) same) in
      let inside : h < length s.cursor.places = (let l = x.inside in let p = going.places in omega (arith, l, p)) in
      let own = set_index s.cursor.places h (slice_index s.cursor.places h + 1) inside in
      let more =
      total_more s.cursor.places (slice_set s.cursor.places h (slice_index s.cursor.places h + 1)) h
      (sym (length-set s.cursor.places h (slice_index s.cursor.places h + 1))) inside
      (λ i l. places_rise s.cursor.places h inside i) (omega (arith, own)) in
      let places = ap total are in
      let counts = total_least s.flat.counts a.flat.counts (counts_size s going ∙ sym (counts_size a then_going)) (λ i l. counts_rise s a h x i) in
      omega (arith, more, places, counts)

  -- a hart that can step, if there is one
  pub record CanStep (s : Replay FlatState) : Type 0 where
    pub hart : ℕ
    pub state : Replay FlatState
    pub told : Option (List Step)
    pub did : step (board (unit_of log)) log hart s ≡ Some (state, told)

  search_below : (s : Replay FlatState) (n : ℕ) → CanStep s ⊎ ((h : ℕ) → h < n → step (board (unit_of log)) log h s ≡ None)
  search_below s zero = inr (λ h l. absurd (omega (arith, l)))
  search_below s (suc n) = elim (search_below s n) [
    | inl can ↦ inl can
    | inr none ↦ by (step (board (unit_of log)) log n s) refl none
  ]
    where
      by : (o : Option (Replay FlatState × Option (List Step))) → step (board (unit_of log)) log n s ≡ o
          → ((h : ℕ) → h < n → step (board (unit_of log)) log h s ≡ None) → CanStep s ⊎ ((h : ℕ) → h < suc n → step (board (unit_of log)) log h s ≡ None)
      by (Some m) e none = inl (record { hart = n; state = m.0; told = m.1; did = e })
      by None e none =
          inr (λ h l. elim (cases_eq h n) [ inl same ↦ ap (λ k. step (board (unit_of log)) log k s) same ∙ e | inr d ↦ none h (omega (arith, l, d)) ])

  pub record FullFrom (s : Replay FlatState) : Type 0 where
    pub end : Replay FlatState
    pub made : List (ℕ × Option (List Step))
    pub full : IsFull (step (board (unit_of log)) log) s made end

  stopped : (s : Replay FlatState) → Going s → ((h : ℕ) → h < length log.streams → step (board (unit_of log)) log h s ≡ None) → FullFrom s
  stopped s going none = record {
    end = s;
    made = [];
    full = record { leads = refl; over = λ h. elim (cases_lt h (length log.streams)) [ inl l ↦ none h l | inr m ↦ no_more log image is h s going.good m ] };
  }

  pub full_in : (n : ℕ) (s : Replay FlatState) → Going s → bound ≤ progress s + n → FullFrom s
  full_in zero s going enough = elim (search_below s (length log.streams)) [
    | inr none ↦ stopped s going none
    | inl can ↦
        let then_going = going_lasts s can.state can.hart can.told going can.did in
        let x = goes s can.state can.hart can.told going can.did in
        let more = grows_by s can.state can.hart x.item x refl going then_going in
        let most = within_bound can.state then_going in absurd (omega (arith, enough, more, most))
  ]
  full_in (suc n) s going enough = elim (search_below s (length log.streams)) [
    | inr none ↦ stopped s going none
    | inl can ↦
        let then_going = going_lasts s can.state can.hart can.told going can.did in
        let x = goes s can.state can.hart can.told going can.did in
        let more = grows_by s can.state can.hart x.item x refl going then_going in
        let rest = full_in n can.state then_going (omega (arith, enough, more)) in
        record {
          end = rest.end;
          made = (can.hart, can.told) ∷ rest.made;
          full = record { leads = (can.state, can.did, rest.full.leads); over = rest.full.over };
        }
  ]

pub full_order_is_there : FullOrderIsThere
full_order_is_there log image is =
    let f = full_in log image is (bound log image is) (first_replay log image) (going_first log image is) (omega arith) in
    (map (λ m. m.0) f.made, (f.end, (f.made, refl, f.full)))
