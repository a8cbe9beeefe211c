-- The entries that a hart makes in its turn.
use Rattle.std.proofs.Common.{◌≡◌, ◌≢◌, ℕ, zero, suc, ◌+◌, ◌<◌, ◌≤◌, List, [], ◌∷◌, length, Option, Some, None}
use Rattle.std.proofs.Common.{is_some, slice_index, refl, sym, ap, ap₂, ◌∙◌, subst, arith}
use Rattle.std.specs.Option.{option_map_or}
use Rattle.std.proofs.lemmas.Option.{get_or_from_slice_get, slice_get_within}
use Rattle.elf_image.specs.Image.{Image}
use Rattle.rv_words.specs.declared.shared.Mode.{Mode}
use Rattle.log_entry.specs.declared.log.Entry.{Entry}
use Rattle.log_entry.specs.declared.log.Log.{Log}
use Rattle.log_entry.specs.Parts.{count_of, unit_of}
use Rattle.order_rules.specs.Places.{stream}
use Rattle.order_rules.specs.Cursor.{first_left}
use Rattle.flat_machine.specs.State.{FlatState}
use Rattle.flat_machine.specs.declared.results.Step.{Step}
use Rattle.replay_model.specs.Board.{board, hart_access}
use Rattle.replay_model.specs.State.{Replay}
use Rattle.replay_model.specs.Items.{Item, Ended, Move, Makes, Verdict, HasEnded, Holds, CanGo, HasDiverged, item_at, goes, next_item, step, verdict}
use Rattle.replay_model.specs.Items.{verdict_on}
use Rattle.run_model.specs.Run.{Run}
use Rattle.run_model.specs.Agreement.{Agrees, IsAhead}
use Rattle.run_model.specs.declared.asked.Ahead.TheVariants as ahead
use Rattle.replay_law.proofs.Progress.{going_lasts, move_means}
use Rattle.replay_law.proofs.Timely.{reached_goes}
use Rattle.replay_law.proofs.Verdicts.{judge}
use Rattle.replay_parts.specs.Parts.{until_by}
use Rattle.replay_parts.specs.Turns.{MakesEntries, MakesNext}
use Rattle.replay_parts.proofs.Led.{move_next}
use Rattle.replay_parts.proofs.Within.{did}
use Rattle.replay_core.specs.declared.position.Position.{Position}
use Rattle.replay_core.specs.declared.went.Went.{Went}
use Rattle.replay_core.specs.declared.went.Went.TheVariants as went
use Rattle.replay_core.specs.Items.{after, answer_of, went_of}
use Rattle.replay_core.specs.Standing.{Goes, IsTied, Stands, item_of}
use Rattle.replay_core.specs.Entries.{ComesToEntries, Enters, HasMade, MakesAll, MakesEntry, after_entry, left_of}
use Rattle.replay_core.proofs.CountLimits.{at_most_limit}
use Rattle.replay_core.proofs.MovesMade.{free_goes, hart_there}
use Rattle.replay_core.proofs.StateAfterItem.{item_is, reached}
use Rattle.replay_core.proofs.StagesGoOn.{less_left}

-- a move that isn't made
looked : (image : Image) (b : Position) (r : Run) (h : ℕ) (v : Verdict) (s : Replay FlatState) (answer : Went) → Stands image b s → Agrees r h s
    → item_of b r h ≡ Move → verdict_on (board (unit_of b.log)) s h Move ≡ v → answer ≡ went_of Move v → after_entry b.log h s answer ≡ s
    → Enters image b r b.log h s answer
looked image b r h v s answer st a item is answer_is same =
    record {
      answer_is = answer_is
          ∙ sym (ap (λ i. went_of i (verdict_on (board (unit_of b.log)) s h i)) (item_is image b r h s st a ∙ item) ∙ ap (went_of Move) is);
      stands = subst (Stands image b) (sym same) st;
      agrees = subst (Agrees r h) (sym same) a;
    }

pub look_free : (image : Image) (b : Position) (r : Run) (h : ℕ) (s : Replay FlatState) → Stands image b s → Agrees r h s
    → item_of b r h ≡ Move → IsAhead (unit_of b.log) h s ahead.Free → Enters image b r b.log h s went.Moved
look_free image b r h s st a item asks = looked image b r h CanGo s went.Moved st a item (free_goes (unit_of b.log) s h asks) refl refl

pub look_wants : (image : Image) (b : Position) (r : Run) (h page : ℕ) (mode : Mode) (s : Replay FlatState) → Stands image b s → Agrees r h s
    → item_of b r h ≡ Move → IsAhead (unit_of b.log) h s (ahead.Wants page mode) → Enters image b r b.log h s (went.Diverged 1)
look_wants image b r h page mode s st a item asks =
    looked image b r h (HasDiverged 1) s (went.Diverged 1) st a item
    (ap (λ (w : Option (ℕ × Mode)). judge (board (unit_of b.log)) ((1, is_some w) ∷ (2, is_some (hart_access s.flat h)) ∷ [])) asks) refl refl

pub look_device : (image : Image) (b : Position) (r : Run) (h : ℕ) (access : _) (s : Replay FlatState) → Stands image b s → Agrees r h s
    → item_of b r h ≡ Move → IsAhead (unit_of b.log) h s (ahead.AtDevice access) → Enters image b r b.log h s (went.Diverged 2)
look_device image b r h access s st a item asks =
    looked image b r h (HasDiverged 2) s (went.Diverged 2) st a item
    (ap₂ (λ (w : Option (ℕ × Mode)) x. judge (board (unit_of b.log)) ((1, is_some w) ∷ (2, is_some x) ∷ [])) asks.0 asks.1) refl refl

-- below the count of its first entry left a hart's item is a move
pub moves_below : (b : Position) (r : Run) (h : ℕ) → r.count < until_by r.count (first_left b.log b.cursor h) → item_of b r h ≡ Move
moves_below b r h less = by (first_left b.log b.cursor h) less where
  by : (o : Option Entry) → r.count < until_by r.count o → item_at r.count o ≡ Move
  by None l = refl
  by (Some e) l = move_next r.count e l

-- and at that count none
pub none_there : (image : Image) (b : Position) (r : Run) (h : ℕ) (s : Replay FlatState) → Stands image b s → Agrees r h s
    → until_by r.count (first_left b.log b.cursor h) ≤ r.count → item_of b r h ≢ Move
none_there image b r h s st a past is =
    let x = (reached image b s st).going.behind h (hart_there image b r h s st a) in
    let first : first_left b.log b.cursor h ≡ Some x.entry = ap (λ c. first_left b.log c h) st.cursor ∙ x.first in
    let own : slice_index s.flat.counts h ≡ r.count = get_or_from_slice_get s.flat.counts h r.count 0 a.count in
    let until : until_by r.count (first_left b.log b.cursor h) ≡ count_of x.entry = ap (until_by r.count) first in
    let count = x.count in
    move_means r.count x.entry (sym (ap (item_at r.count) first) ∙ is) (omega (arith, past, own, until, count))

-- what comes of an item that is no move changes the state where it is an entry that can be made
entry_after : (log : Log) (h : ℕ) (s : Replay FlatState) (item : Item) (v : Verdict) (answer : Went) → next_item (board (unit_of log)) log s h ≡ item
    → verdict_on (board (unit_of log)) s h item ≡ v → item ≢ Move → answer ≡ went_of item v → after_entry log h s answer ≡ after log h s
entry_after log h s item v answer next is real answer_is = ap (after_entry log h s) answer_is ∙ by item v real step_is where
  step_is : step (board (unit_of log)) log h s ≡ goes (board (unit_of log)) s h item v
  step_is = ap (λ i. goes (board (unit_of log)) s h i (verdict_on (board (unit_of log)) s h i)) next ∙ ap (goes (board (unit_of log)) s h item) is

  stays : step (board (unit_of log)) log h s ≡ None → s ≡ after log h s
  stays none = sym (ap (λ (o : Option (Replay FlatState × Option (List Step))). option_map_or (λ m. m.0) o s) none)

  by : (i : Item) (w : Verdict) → i ≢ Move → step (board (unit_of log)) log h s ≡ goes (board (unit_of log)) s h i w
      → after_entry log h s (went_of i w) ≡ after log h s
  by i HasEnded n did = stays did
  by i Holds n did = stays did
  by i (HasDiverged rule) n did = stays did
  by Ended CanGo n did = stays did
  by Move CanGo n did = absurd (n refl)
  by (Makes e) CanGo n did = refl

pub enters : (image : Image) (old new : Position) (before run : Run) (h : ℕ) (s : Replay FlatState) (answer : Went) → Stands image old s → Agrees before h s
    → item_of old before h ≢ Move → Goes image new run old.log h s answer → Enters image new run old.log h s answer
enters image old new before run h s answer st a n x =
    let same : after_entry old.log h s answer ≡ after old.log h s =
    entry_after old.log h s (next_item (board (unit_of old.log)) old.log s h) (verdict (board (unit_of old.log)) old.log s h) answer refl refl
    (λ is. n (sym (item_is image old before h s st a) ∙ is)) x.answer_is in
    record {
      answer_is = x.answer_is;
      stands = subst (Stands image new) (sym same) x.stands;
      agrees = subst (Agrees run h) (sym same) x.agrees;
    }

-- where an entry was made, the hart can go and its item was one
pub entry_made : (log : Log) (s : Replay FlatState) (h : ℕ) → went.Entry ≡ answer_of log s h → MakesNext log s h
entry_made log s h is = by (next_item (board (unit_of log)) log s h) (verdict (board (unit_of log)) log s h) refl refl is where
  by : (i : Item) (v : Verdict) → next_item (board (unit_of log)) log s h ≡ i → verdict (board (unit_of log)) log s h ≡ v → went.Entry ≡ went_of i v
      → MakesNext log s h
  by i HasEnded a b e = let bad : ⊥ = cc in absurd bad
  by i Holds a b e = let bad : ⊥ = cc in absurd bad
  by i (HasDiverged rule) a b e = let bad : ⊥ = cc in absurd bad
  by Ended CanGo a b e = let bad : ⊥ = cc in absurd bad
  by Move CanGo a b e = let bad : ⊥ = cc in absurd bad
  by (Makes x) CanGo a b e = (x, (a, b))

-- and less is left of it
pub entry_less : (image : Image) (old new : Position) (before run : Run) (h : ℕ) (s : Replay FlatState) → (st : Stands image old s) → Agrees before h s
    → new.log ≡ old.log → Goes image new run old.log h s went.Entry → left_of new run h < left_of old before h
entry_less image old new before run h s st a log_is x =
    let log = old.log in
    let makes = entry_made old.log s h x.answer_is in
    let inside = hart_there image old before h s st a in
    let m = reached_goes old.log image st.order s h st.replayable st.obeys inside makes.1.1 in
    let going = (reached image old s st).going in
    let d = did old.log image st.replayable s m.0.0 h m.0.1 going m.1 in
    let on = going_lasts old.log image st.replayable s m.0.0 h m.0.1 going m.1 in
    let at : after old.log h s ≡ m.0.0 = ap (λ (o : Option (Replay FlatState × Option (List Step))). option_map_or (λ n. n.0) o s) m.1 in
    let stands : Stands image new m.0.0 = subst (Stands image new) at x.stands in
    let agrees : Agrees run h m.0.0 = subst (Agrees run h) at x.agrees in
    let behind = on.behind h inside in
    let place = slice_get_within (stream old.log h) (slice_index m.0.0.cursor.places h) behind.entry behind.first in
    let count = behind.count in
    let top = at_most_limit old.log st.replayable.orderly.counts_rise_to_the_end h (slice_index m.0.0.cursor.places h) behind.entry behind.first in
    let own : slice_index s.flat.counts h ≡ before.count = get_or_from_slice_get s.flat.counts h before.count 0 a.count in
    let then_own : slice_index m.0.0.flat.counts h ≡ run.count = get_or_from_slice_get m.0.0.flat.counts h run.count 0 agrees.count in
    let old_place : slice_index old.cursor.places h ≡ slice_index s.cursor.places h = ap (λ c. slice_index c.places h) st.cursor in
    let new_place : slice_index new.cursor.places h ≡ slice_index m.0.0.cursor.places h = ap (λ c. slice_index c.places h) stands.cursor in
    let more = d.more in
    less_left (length (stream old.log h) + old.log.limit) (length (stream new.log h) + new.log.limit) (slice_index old.cursor.places h + before.count)
    (slice_index new.cursor.places h + run.count) (ap (λ (l : Log). length (stream l h) + l.limit) log_is)
    (omega (arith, more, own, then_own, old_place, new_place))
    (omega (arith, place, count, top, then_own, new_place))

-- an entry behind others
one_more : (log : Log) (h n : ℕ) (s t u : Replay FlatState) (m : Replay FlatState × Option (List Step)) → MakesEntries log h n s t → MakesNext log t h
    → step (board (unit_of log)) log h t ≡ Some m → m.0 ≡ u → MakesEntries log h (suc n) s u
one_more log h zero s t u m is next did to =
    (subst (λ x. MakesNext log x h) (sym is) next, (m, (subst (λ x. step (board (unit_of log)) log h x ≡ Some m) (sym is) did, to)))
one_more log h (suc n) s t u m makes next did to =
    (makes.0, (makes.1.0, (makes.1.1.0, one_more log h n makes.1.0.0 t u m makes.1.1.1 next did to)))

pub none_made : (image : Image) (b : Position) (r : Run) (h : ℕ) (s : Replay FlatState) → Stands image b s → Agrees r h s → HasMade image b r b.log h s
none_made image b r h s st a = record { entries = 0; at = s; makes = refl; stands = st; agrees = a }

-- the board and run still stand for a state
pub tied_on : (old new : Position) (before run : Run) (h : ℕ) → ComesToEntries old new before run h → IsTied old before h → IsTied new run h
tied_on old new before run h comes t = let x = comes t.0 t.1.0 t.1.1 t.1.2 in (t.0, (x.at, x.stands, x.agrees))

-- one more was made
pub made_more : (old mid new : Position) (before between run : Run) (h : ℕ) → mid.log ≡ old.log → ComesToEntries old mid before between h
    → MakesEntry mid new between run h went.Entry → ComesToEntries old new before run h
made_more old mid new before between run h log_is comes makes image s st a =
    let x = comes image s st a in
    let e = makes image x.at x.stands x.agrees in
    let next : MakesNext old.log x.at h = subst (λ l. MakesNext l x.at h) log_is (entry_made mid.log x.at h e.answer_is) in
    let inside = hart_there image mid between h x.at x.stands x.agrees in
    let m = reached_goes mid.log image x.stands.order x.at h x.stands.replayable x.stands.obeys inside (entry_made mid.log x.at h e.answer_is).1.1 in
    let to : m.0.0 ≡ after mid.log h x.at =
    sym (ap (λ (o : Option (Replay FlatState × Option (List Step))). option_map_or (λ n. n.0) o x.at) m.1) in
    record {
      entries = suc x.entries;
      at = after mid.log h x.at;
      makes = one_more old.log h x.entries s x.at (after mid.log h x.at) m.0 x.makes next
          (subst (λ l. step (board (unit_of l)) l h x.at ≡ Some m.0) log_is m.1) to;
      stands = e.stands;
      agrees = e.agrees;
    }

-- the last was made before
same_state : (log : Log) (h : ℕ) (s : Replay FlatState) (answer : Went) → answer ≢ went.Entry → after_entry log h s answer ≡ s
same_state log h s went.Moved n = refl
same_state log h s went.Entry n = absurd (n refl)
same_state log h s went.Hold n = refl
same_state log h s (went.Diverged rule) n = refl
same_state log h s went.Ended n = refl

pub made_all : (old mid new : Position) (before between run : Run) (h : ℕ) (answer : Went) → mid.log ≡ old.log → ComesToEntries old mid before between h
    → MakesEntry mid new between run h answer → answer ≢ went.Entry → MakesAll old new before run h answer
made_all old mid new before between run h answer log_is comes makes none image s st a =
    let x = comes image s st a in
    let e = makes image x.at x.stands x.agrees in
    let same : after_entry mid.log h x.at answer ≡ x.at = same_state mid.log h x.at answer none in
    record {
      made = record {
        entries = x.entries;
        at = x.at;
        makes = x.makes;
        stands = subst (Stands image new) same e.stands;
        agrees = subst (Agrees run h) same e.agrees;
      };
      answer_is = subst (λ l. answer ≡ answer_of l x.at h) log_is e.answer_is;
      none = none;
    }
