-- A stage that goes on: the states that it is at, and what is left of its replay.
use Rattle.std.proofs.Common.{◌≡◌, ◌≢◌, inl, inr, ℕ, ◌||◌, Bool, true, false, true≢false, ◌+◌, ◌-◌, ◌*◌, ◌<◌, ◌≤◌, List, map, length}
use Rattle.std.proofs.Common.{Option, Some, slice_get, refl, sym, ap, ap₂}
use Rattle.std.proofs.Common.{◌∙◌, subst, arith}
use Rattle.std.specs.Prelude.{IsTrue}
use Rattle.std.specs.Option.{option_map_or}
use Rattle.std.proofs.lemmas.Bool.{cases_eq}
use Rattle.elf_image.specs.Image.{Image}
use Rattle.log_entry.specs.declared.log.Log.{Log}
use Rattle.log_entry.specs.Parts.{unit_of}
use Rattle.orders_law.specs.Orders.{total}
use Rattle.order_rules.specs.Cursor.{Cursor}
use Rattle.flat_machine.specs.State.{FlatState}
use Rattle.flat_machine.specs.declared.results.Step.{Step}
use Rattle.replay_model.specs.Board.{board}
use Rattle.replay_model.specs.State.{Replay}
use Rattle.replay_model.specs.Items.{Item, Ended, Move, Makes, Verdict, HasEnded, Holds, CanGo, HasDiverged, next_item, verdict, verdict_on, step}
use Rattle.run_model.specs.Run.{Run}
use Rattle.replay_law.proofs.Progress.{going_lasts}
use Rattle.replay_law.proofs.Timely.{reached_goes}
use Rattle.replay_core.specs.declared.position.Position.{Position}
use Rattle.replay_core.specs.declared.replaying.Replaying.{Replaying}
use Rattle.replay_core.specs.declared.went.Went.{Went}
use Rattle.replay_core.specs.Items.{IsStill, after, answer_of, went_of}
use Rattle.replay_core.specs.Standing.{Stands, IsAt, IsSame, IsSomewhere, GoesOn, LeadsOn, AnswersAt, HasNoItem, HasGone, CanGoNowhere, ComesTo, left}
use Rattle.replay_core.specs.Ends.{IsOutcomeOf}
use Rattle.replay_core.specs.declared.outcome.Outcome.{Outcome}
use Rattle.board_backing.proofs.EndLists.{all_mapped}
use Rattle.replay_core.proofs.StateAfterItem.{reached}
use Rattle.replay_core.proofs.ItemsLeft.{done, within, item_grows}
use Rattle.replay_core.proofs.StageAfterItem.{places_on}
use Rattle.replay_core.proofs.Verdicts.{still}

-- stages that are one are at the same states
pub same_at : (image : Image) (old new : Replaying) (s : Replay FlatState) → IsSame old new → IsAt image old s → IsAt image new s
same_at image old new s same at = record {
  stands = subst (λ b. Stands image b s) (sym same.0) at.stands;
  runs = ap length same.1.0 ∙ at.runs ∙ ap (λ (b : Position). length b.log.streams) (sym same.0);
  agree = λ h r is. at.agree h r (ap (λ xs. slice_get xs h) (sym same.1.0) ∙ is);
  ends = places_on old.ends new.ends (length old.board.log.streams) (length new.board.log.streams) (length s.flat.memory) (length s.flat.memory) same.1.1
      (ap (λ (b : Position). length b.log.streams) same.0) refl at.ends;
}

pub same_back : (old new : Replaying) → IsSame old new → IsSame new old
same_back old new same = (sym same.0, (sym same.1.0, sym same.1.1))

pub same_then : (a b c : Replaying) → IsSame a b → IsSame b c → IsSame a c
same_then a b c one two = (two.0 ∙ one.0, (two.1.0 ∙ one.1.0, two.1.1 ∙ one.1.1))

pub same_log : (old new : Replaying) → IsSame old new → new.board.log ≡ old.board.log
same_log old new same = ap (λ (b : Position). b.log) same.0

-- the states of stages, one after the other
pub on_then : (a b c : Replaying) → GoesOn a b → GoesOn b c → GoesOn a c
on_then a b c one two image s at = let t = one image s at in two image t.0 t.1

pub on_same : (old new : Replaying) → IsSame old new → GoesOn old new
on_same old new same image s at = (s, same_at image old new s same at)

pub on_item : (old new : Replaying) (h : ℕ) → LeadsOn old new h → GoesOn old new
on_item old new h leads image s at = (after old.board.log h s, leads image s at)

pub somewhere_on : (old new : Replaying) → GoesOn old new → IsSomewhere old → IsSomewhere new
somewhere_on old new on x = let t = on x.0 x.1.0 x.1.1 in (x.0, (t.0, t.1))

-- each hart of the log has a run
pub run_there : (stage : Replaying) (h : ℕ) → IsSomewhere stage → h < length stage.board.log.streams → h < length stage.runs.items
run_there stage h x l = let runs = x.1.1.runs in omega (arith, l, runs)

pub stream_there : (stage : Replaying) (h : ℕ) → IsSomewhere stage → h < length stage.runs.items → h < length stage.board.log.streams
stream_there stage h x l = let runs = x.1.1.runs in omega (arith, l, runs)

-- the counts of the runs are the state's
pub counts_are : (image : Image) (stage : Replaying) (s : Replay FlatState) → IsAt image stage s → map (λ (r : Run). r.count) stage.runs.items ≡ s.flat.counts
counts_are image stage s at =
    let sized = (reached image stage.board s at.stands).going.good.sound.sized in
    all_mapped (λ (r : Run). r.count) stage.runs.items s.flat.counts (at.runs ∙ sym (sized.counts_size ∙ sized.harts_size)) (λ h r is. (at.agree h r is).count)

abbrev pub most_done : Log → ℕ
most_done log = total (map length log.streams) + length log.streams * log.limit

abbrev pub done_of : Replaying → ℕ
done_of stage = total stage.board.cursor.places + total (map (λ (r : Run). r.count) stage.runs.items)

pub done_is : (image : Image) (stage : Replaying) (s : Replay FlatState) → (at : IsAt image stage s)
    → done_of stage ≡ done stage.board.log image at.stands.replayable s
done_is image stage s at =
    ap₂ (λ (c : Cursor) (ns : List ℕ). total c.places + total ns) at.stands.cursor (counts_are image stage s at)

pub less_left : (t u a b : ℕ) → u ≡ t → a + 1 ≤ b → b ≤ t → u - b < t - a
less_left t u a b same more most = omega (arith, same, more, most)

-- an item that was made leaves less
pub item_less : (image : Image) (old new : Replaying) (h : ℕ) (s : Replay FlatState) → (at : IsAt image old s) → IsAt image new (after old.board.log h s)
    → new.board.log ≡ old.board.log → (m : Replay FlatState × Option (List Step)) → step (board (unit_of old.board.log)) old.board.log h s ≡ Some m
    → left new < left old
item_less image old new h s at then_at log_is m did =
    let log = old.board.log in
    let is = at.stands.replayable in
    let going = (reached image old.board s at.stands).going in
    let after_is : after old.board.log h s ≡ m.0 = ap (λ (o : Option (Replay FlatState × Option (List Step))). option_map_or (λ n. n.0) o s) did in
    let new_done : done_of new ≡ done old.board.log image at.stands.replayable m.0 = done_is image new (after old.board.log h s) then_at
    ∙ ap (λ (t : Replay FlatState). total t.cursor.places + total t.flat.counts) after_is in
    let old_done = done_is image old s at in
    let grows : done old.board.log image at.stands.replayable s + 1 ≤ done old.board.log image at.stands.replayable m.0 =
    item_grows old.board.log image at.stands.replayable s m.0 h m.1 going did in
    let most : done old.board.log image at.stands.replayable m.0 ≤ most_done old.board.log =
    within old.board.log image at.stands.replayable m.0 (going_lasts old.board.log image at.stands.replayable s m.0 h m.1 going did) in
    less_left (most_done old.board.log) (most_done new.board.log) (done_of old) (done_of new) (ap most_done log_is)
    (subst (λ k. done_of old + 1 ≤ k) (sym new_done) (subst (λ k. k + 1 ≤ done old.board.log image at.stands.replayable m.0) (sym old_done) grows))
    (subst (λ k. k ≤ most_done old.board.log) (sym new_done) most)

-- where nothing was made the hart can't go
no_item : (u : ℕ) (s : Replay FlatState) (h : ℕ) (item : Item) (v : Verdict) → verdict_on (board u) s h item ≡ v → v ≡ CanGo → IsStill (went_of item v) → ⊥
no_item u s h Ended v is can quiet = let bad : ⊥ = cc in bad
no_item u s h Move v is can quiet = subst (λ w. IsStill (went_of Move w)) can quiet
no_item u s h (Makes e) v is can quiet = subst (λ w. IsStill (went_of (Makes e) w)) can quiet

pub still_stuck : (log : Log) (s : Replay FlatState) (h : ℕ) (answer : Went) → answer ≡ answer_of log s h → IsStill answer
    → verdict (board (unit_of log)) log s h ≢ CanGo
still_stuck log s h answer is quiet can =
    no_item (unit_of log) s h (next_item (board (unit_of log)) log s h) (verdict (board (unit_of log)) log s h) refl can (subst IsStill is quiet)

pub has_no_item : (old new : Replaying) (h : ℕ) (answer : Went) → AnswersAt old h answer → IsStill answer → IsSame old new → HasNoItem new h
has_no_item old new h answer answers quiet same image s at =
    let before = same_at image new old s (same_back old new same) at in
    subst (λ log. verdict (board (unit_of log)) log s h ≢ CanGo) (sym (same_log old new same))
    (still_stuck old.board.log s h answer (answers image s before) quiet)

-- where it was, less is left
pub has_item : (old new : Replaying) (h : ℕ) (answer : Went) → IsSomewhere old → h < length old.runs.items → AnswersAt old h answer → LeadsOn old new h
    → new.board.log ≡ old.board.log → (IsStill answer → ⊥) → left new < left old
has_item old new h answer x there answers leads log_is made =
    by (verdict (board (unit_of old.board.log)) old.board.log x.1.0 h) refl
  where
    quiet : (v : Verdict) → verdict (board (unit_of old.board.log)) old.board.log x.1.0 h ≡ v → v ≢ CanGo → IsStill answer
    quiet v is n =
        let item = next_item (board (unit_of old.board.log)) old.board.log x.1.0 h in
        subst IsStill (sym (answers x.0 x.1.0 x.1.1 ∙ ap (went_of (next_item (board (unit_of old.board.log)) old.board.log x.1.0 h)) is))
        (still (next_item (board (unit_of old.board.log)) old.board.log x.1.0 h) v n)

    by : (v : Verdict) → verdict (board (unit_of old.board.log)) old.board.log x.1.0 h ≡ v → left new < left old
    by CanGo is =
        let m = reached_goes old.board.log x.0 x.1.1.stands.order x.1.0 h x.1.1.stands.replayable x.1.1.stands.obeys (stream_there old h x there) is in
        item_less x.0 old new h x.1.0 x.1.1 (leads x.0 x.1.0 x.1.1) log_is m.0 m.1
    by HasEnded is = absurd (made (quiet HasEnded is (λ e. let bad : ⊥ = cc in bad)))
    by Holds is = absurd (made (quiet Holds is (λ e. let bad : ⊥ = cc in bad)))
    by (HasDiverged rule) is = absurd (made (quiet (HasDiverged rule) is (λ e. let bad : ⊥ = cc in bad)))

-- stages that are one have as much left
same_left : (old new : Replaying) → IsSame old new → left new ≡ left old
same_left old new same =
    ap₂ (λ (b : Position) (runs : List Run). total (map length b.log.streams) + length b.log.streams * b.log.limit
    - (total b.cursor.places + total (map (λ (r : Run). r.count) runs))) same.0 same.1.0

-- a hart that went and then another, or the same
pub gone_less : (went : Bool) (a b c : Replaying) → HasGone went a b → left c < left b → left c < left a
gone_less true a b c gone less = omega (arith, gone, less)
gone_less false a b c gone less = subst (λ n. left c < n) (same_left a b gone) less

pub gone_then : (went more : Bool) (a b c : Replaying) → HasGone went a b → HasGone more b c → HasGone (more || went) a c
gone_then went true a b c one two = gone_less went a b c one two
gone_then true false a b c one two = subst (λ n. n < left a) (sym (same_left b c two)) one
gone_then false false a b c one two = same_then a b c one two

pub no_item_on : (old new : Replaying) (h : ℕ) → IsSame old new → HasNoItem old h → HasNoItem new h
no_item_on old new h same none image s at =
    subst (λ log. verdict (board (unit_of log)) log s h ≢ CanGo) (sym (same_log old new same))
    (none image s (same_at image new old s (same_back old new same) at))

-- where no hart went none of those so far can go
pub stuck_then : (went more : Bool) (b c : Replaying) (hart : ℕ) → HasGone more b c → HasNoItem c hart → (went ≡ false → (h : ℕ) → h < hart → HasNoItem b h)
    → (more || went) ≡ false → (h : ℕ) → h < hart + 1 → HasNoItem c h
stuck_then went true b c hart gone own before none h less = absurd (true≢false none)
stuck_then went false b c hart gone own before none h less = elim (cases_eq h hart) [
  | inl same ↦ subst (HasNoItem c) (sym same) own
  | inr d ↦ no_item_on b c h gone (before none h (omega (arith, less, d)))
]

pub all_stuck : (stage : Replaying) → ((h : ℕ) → h < length stage.board.log.streams → HasNoItem stage h) → CanGoNowhere stage
all_stuck stage none image s at h less = none h less image s at

-- a hart of one is a hart of the other
pub hart_on : (old new : Replaying) (h : ℕ) → IsSomewhere old → IsSomewhere new → new.board.log ≡ old.board.log → h < length old.runs.items
    → h < length new.runs.items
hart_on old new h one two log_is there =
    let a = one.1.1.runs in
    let b = two.1.1.runs in
    let l = ap (λ (log : Log). length log.streams) log_is in
    omega (arith, a, b, l, there)

-- whether an item was made, as less that is left
pub has_gone : (made : Bool) (old new : Replaying) (h : ℕ) (answer : Went) → IsSomewhere old → h < length old.runs.items → AnswersAt old h answer
    → LeadsOn old new h → new.board.log ≡ old.board.log → (IsStill answer → IsSame old new) → (made ≡ false → IsStill answer)
    → (IsTrue made → IsStill answer → ⊥) → HasGone made old new
has_gone true old new h answer x there answers leads log_is same off on = has_item old new h answer x there answers leads log_is (on refl)
has_gone false old new h answer x there answers leads log_is same off on = same (off refl)

-- what a stage comes to that another goes on to, that one comes to
pub comes_on : (old new : Replaying) (answer : Outcome) → GoesOn old new → new.board.log ≡ old.board.log → ComesTo new answer → ComesTo old answer
comes_on old new answer on log_is comes image s at =
    let t = on image s at in subst (λ log. IsOutcomeOf log image answer) log_is (comes image t.0 t.1)
