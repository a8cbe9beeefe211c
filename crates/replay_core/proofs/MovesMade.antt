-- A move without device access, as an item.
use Rattle.std.proofs.Common.{◌≡◌, ◌≢◌, ℕ, zero, suc, ◌+◌, ◌*◌, ◌<◌, ◌≤◌, ◌^◌, [], ◌∷◌, length, Option, Some}
use Rattle.std.proofs.Common.{is_some, slice_index, refl, sym, ap, ap₂, ◌∙◌, subst, arith}
use Rattle.std.proofs.lemmas.Option.{get_or_from_slice_get}
use Rattle.elf_image.specs.Image.{Image}
use Rattle.rv_words.specs.declared.shared.Mode.{Mode}
use Rattle.log_order.proofs.Refusals.{small}
use Rattle.log_entry.specs.Parts.{unit_of}
use Rattle.flat_machine.specs.State.{FlatState}
use Rattle.replay_model.specs.Board.{board, hart_access}
use Rattle.replay_model.specs.State.{Replay, IsCrewState}
use Rattle.replay_model.specs.Items.{Move, CanGo, HasDiverged, verdict_on, made}
use Rattle.run_model.specs.Run.{Run}
use Rattle.run_model.specs.Agreement.{Agrees, IsAhead}
use Rattle.run_model.specs.declared.asked.Ahead.TheVariants as ahead
use Rattle.run_model.specs.declared.asked.Pause.{Pause}
use Rattle.run_model.specs.Legs.{Runs, DifferFor, KeepsPages, MakesLeg}
use Rattle.std.proofs.lemmas.Option.{slice_get_within}
use Rattle.hart_run.specs.Calls.{LegAgrees}
use Rattle.board_backing.proofs.Begins.{leg_backs}
use Rattle.replay_law.proofs.Verdicts.{judge}
use Rattle.replay_parts.proofs.Led.{runs_count}
use Rattle.replay_core.specs.declared.position.Position.{Position}
use Rattle.replay_core.specs.declared.went.Went.TheVariants as went
use Rattle.replay_core.specs.Standing.{Stands, Goes, item_of}
use Rattle.replay_core.proofs.CountLimits.{at_most_limit}
use Rattle.replay_core.proofs.StateAfterItem.{reached, store_unit, run_unit, item_is, went_to, stayed}

-- a hart with a run is one of the log's
pub hart_there : (image : Image) (b : Position) (r : Run) (h : ℕ) (s : Replay FlatState) → Stands image b s → Agrees r h s → h < length b.log.streams
hart_there image b r h s st a =
    let t = reached image b s st in
    let w = slice_get_within s.flat.harts h r.hart a.hart in
    let k = t.going.good.sound.sized.harts_size in omega (arith, w, k)

pub place_there : (image : Image) (b : Position) (r : Run) (h : ℕ) (s : Replay FlatState) → Stands image b s → Agrees r h s → h < length b.cursor.places
place_there image b r h s st a =
    let t = reached image b s st in
    let l = hart_there image b r h s st a in
    let p = t.going.places in
    let c = ap (λ z. length z.places) st.cursor in omega (arith, l, p, c)

-- its count is at most the limit
pub count_low : (image : Image) (b : Position) (r : Run) (h : ℕ) (s : Replay FlatState) → Stands image b s → Agrees r h s → r.count < 2 ^ 62
count_low image b r h s st a =
    let t = reached image b s st in
    let e = t.going.behind h (hart_there image b r h s st a) in
    let most = at_most_limit b.log st.replayable.orderly.counts_rise_to_the_end h (slice_index s.cursor.places h) e.entry e.first in
    let low = (small b.log st.range).limit in
    let count = e.count in
    let own : slice_index s.flat.counts h ≡ r.count = get_or_from_slice_get s.flat.counts h r.count 0 a.count in
    omega (arith, most, low, count, own)

-- a leg of one count from where a Run can go is that Run
one_run : (u h n : ℕ) (s t : Replay FlatState) → h < length s.flat.counts → Runs (board u) h n s t → (board u).count t.flat h ≤ (board u).count s.flat h + 1
    → ((board u).count t.flat h < (board u).count s.flat h + 1 → verdict_on (board u) t h Move ≢ CanGo)
    → verdict_on (board u) s h Move ≡ CanGo → made (board u) s h Move ≡ Some t
one_run u h zero s t l is within ends go =
    let z = ap (λ (x : Replay FlatState). (board u).count x.flat h) is in
    absurd (ends (omega (arith, z)) (ap (λ x. verdict_on (board u) x h Move) (sym is) ∙ go))
one_run u h (suc zero) s t l is within ends go = is.1.1 ∙ ap Some is.1.2
one_run u h (suc (suc n)) s t l is within ends go = let c = runs_count u h (suc (suc n)) s t l is in absurd (omega (arith, c, within))

pub free_goes : (u : ℕ) (s : Replay FlatState) (h : ℕ) → IsAhead u h s ahead.Free → verdict_on (board u) s h Move ≡ CanGo
free_goes u s h asks = ap₂ (λ (w : Option (ℕ × Mode)) x. judge (board u) ((1, is_some w) ∷ (2, is_some x) ∷ [])) asks.0 asks.1

-- a leg of the run is one by the log's unit
pub leg_is : (image : Image) (b : Position) (r new : Run) (h until : ℕ) (pause : Pause) (s : Replay FlatState) → Stands image b s → Agrees r h s
    → LegAgrees r new until pause → MakesLeg (unit_of b.log) new pause h until s
leg_is image b r new h until pause s st a leg =
    let unit = run_unit image b r h s st a in
    subst (λ u. MakesLeg u new pause h until s) unit
    (leg h s (subst (λ u. IsCrewState (board u) s) (sym unit) (reached image b s st).going.good.sound.crew) a)

-- one move was made
pub moved : (image : Image) (b : Position) (r new : Run) (h : ℕ) (pause : Pause) (s : Replay FlatState) → Stands image b s → Agrees r h s
    → item_of b r h ≡ Move → IsAhead (unit_of b.log) h s ahead.Free → MakesLeg (unit_of b.log) new pause h (r.count + 1) s → KeepsPages r new
    → Goes image b new b.log h s went.Moved
moved image b r new h pause s st a item asks leg kept =
    let l = slice_get_within s.flat.counts h r.count a.count in
    let own : slice_index s.flat.counts h ≡ r.count = get_or_from_slice_get s.flat.counts h r.count 0 a.count in
    let go = free_goes (unit_of b.log) s h asks in
    let most = leg.leg.within in
    let long : length leg.at.flat.memory ≡ length s.flat.memory = leg.agrees.memory ∙ ap₂ (λ (n : ℕ) (u : ℕ). n * u) kept.number kept.unit_is ∙ sym a.memory in
    let is : made (board (unit_of b.log)) s h Move ≡ Some leg.at =
    one_run (unit_of b.log) h leg.leg.moves s leg.at l leg.leg.runs (omega (arith, most, own)) (λ less. leg.leg.ends (omega (arith, less, own))) go in
    went_to image b b new h Move s leg.at went.Moved st (item_is image b r h s st a ∙ item) go is refl (st.cursor ∙ sym leg.others.cursor)
    (leg_backs b.backing h s leg.at st.backs (subst (λ u. DifferFor u h s leg.at) (sym (store_unit image b s st)) leg.others) long) st.roomy leg.agrees refl

-- it lacks a page
pub move_wants : (image : Image) (b : Position) (r : Run) (h page : ℕ) (mode : Mode) (s : Replay FlatState) → Stands image b s → Agrees r h s
    → item_of b r h ≡ Move → IsAhead (unit_of b.log) h s (ahead.Wants page mode) → Goes image b r b.log h s (went.Diverged 1)
move_wants image b r h page mode s st a item asks =
    stayed image b r h Move (HasDiverged 1) s (went.Diverged 1) st a (item_is image b r h s st a ∙ item)
    (ap (λ (w : Option (ℕ × Mode)). judge (board (unit_of b.log)) ((1, is_some w) ∷ (2, is_some (hart_access s.flat h)) ∷ [])) asks) refl refl

-- it is a device access
pub move_at_device : (image : Image) (b : Position) (r : Run) (h : ℕ) (access : _) (s : Replay FlatState) → Stands image b s → Agrees r h s
    → item_of b r h ≡ Move → IsAhead (unit_of b.log) h s (ahead.AtDevice access) → Goes image b r b.log h s (went.Diverged 2)
move_at_device image b r h access s st a item asks =
    stayed image b r h Move (HasDiverged 2) s (went.Diverged 2) st a (item_is image b r h s st a ∙ item)
    (ap₂ (λ (w : Option (ℕ × Mode)) x. judge (board (unit_of b.log)) ((1, is_some w) ∷ (2, is_some x) ∷ [])) asks.0 asks.1) refl refl
