-- A leg of a hart up to its first entry left, as items: each Run of it is one.
use Rattle.std.proofs.Common.{◌≡◌, ◌≢◌, ℕ, zero, suc, ◌+◌, ◌*◌, ◌<◌, ◌≤◌, ◌++◌, Bool, true, false, List, [], ◌∷◌, map, length, Option, Some, None}
use Rattle.std.proofs.Common.{unwrap_or, true≢false, slice_get, slice_set, slice_index, refl, sym, ap, ap₂, ◌∙◌, subst, arith, if◌then◌else◌, inl, inr}
use Rattle.std.specs.Prelude.{IsSome, IsTrue}
use Rattle.std.specs.List.{cons_option}
use Rattle.std.specs.Option.{option_map}
use Rattle.std.proofs.lemmas.Bool.{cases_eq, ne_eqb}
use Rattle.std.proofs.lemmas.Option.{get_or_from_slice_get, slice_get_within, unwrap_or-slice_get}
use Rattle.elf_image.specs.Image.{Image}
use Rattle.rv_words.specs.declared.shared.Mode.{Mode}
use Rattle.rv_words.specs.declared.shared.Mode.TheVariants.{Read, Write}
use Rattle.guest_pages.specs.Pages.{page_of}
use Rattle.log_entry.specs.declared.log.Entry.{Entry}
use Rattle.log_entry.specs.declared.log.Log.{Log}
use Rattle.log_entry.specs.Parts.{conflict, count_of, unit_of}
use Rattle.orders_law.specs.Orders.{Leads, total}
use Rattle.orders_law.proofs.Totals.{total_more}
use Rattle.order_rules.specs.Cursor.{Cursor, first_left}
use Rattle.order_rules.specs.Holders.{Holders, held, row}
use Rattle.flat_machine.specs.State.{FlatState}
use Rattle.flat_machine.specs.declared.results.Step.{Step}
use Rattle.replay_model.specs.Board.{board}
use Rattle.replay_model.specs.State.{Replay}
use Rattle.replay_model.specs.Items.{Move, item_at, goes, told_of, next_item, step, story, verdict_on}
use Rattle.run_model.specs.Run.{Run}
use Rattle.run_model.specs.Agreement.{Agrees, IsAhead}
use Rattle.run_model.specs.Legs.{Runs, DifferFor, KeepsPages, MakesLeg}
use Rattle.run_model.specs.declared.asked.Ahead.TheVariants as ahead
use Rattle.run_model.specs.declared.asked.Pause.{Pause}
use Rattle.board_backing.proofs.Begins.{leg_backs}
use Rattle.replay_law.specs.Laws.{first_replay}
use Rattle.replay_core.specs.declared.position.Position.{Position}
use Rattle.replay_core.specs.declared.replaying.Replaying.{Replaying}
use Rattle.replay_core.specs.Standing.{GoesOn, HasGone, IsAt, IsSame, IsSomewhere, MakesMoves, RunsOn, Stands, left}
use Rattle.replay_parts.proofs.Led.{made_cursor, move_next, run_counts, runs_count}
use Rattle.replay_core.proofs.MovesMade.{free_goes}
use Rattle.replay_core.proofs.ItemsLeft.{within}
use Rattle.replay_core.proofs.OtherHarts.{set_same}
use Rattle.replay_core.proofs.StageAfterItem.{stage_to}
use Rattle.replay_core.proofs.StagesGoOn.{done_is, done_of, less_left, most_done, on_same}
use Rattle.replay_core.proofs.StateAfterItem.{reached, run_unit, store_unit}
use Rattle.orders_law.proofs.Leads.{leads_on}

-- Runs up to the count of the hart's first entry left are steps of the replay
pub runs_lead : (log : Log) (h n : ℕ) (s t : Replay FlatState) (e : Entry) → first_left log s.cursor h ≡ Some e → h < length s.flat.counts
    → (board (unit_of log)).count t.flat h ≤ count_of e → Runs (board (unit_of log)) h n s t
    → (made : List (ℕ × Option (List Step))) × (Leads (step (board (unit_of log)) log) s made t
    × ((g : ℕ) → g ≢ h → story (board (unit_of log)) log g made ≡ []))
runs_lead log h zero s t e first l within is = ([], (is, λ g n. refl))
runs_lead log h (suc n) s t e first l within is =
    let m = is.1.0 in
    let all = runs_count (unit_of log) h (suc n) s t l is in
    let one = run_counts (unit_of log) h s is.1.0 l is.1.1 in
    let size = one.1 in
    let next : next_item (board (unit_of log)) log s h ≡ Move =
    ap (item_at ((board (unit_of log)).count s.flat h)) first
    ∙ move_next ((board (unit_of log)).count s.flat h) e (omega (arith, all, within)) in
    let told = told_of (board (unit_of log)) s h Move is.1.0 in
    let did : step (board (unit_of log)) log h s ≡ Some (is.1.0, told_of (board (unit_of log)) s h Move is.1.0) =
    ap (λ i. goes (board (unit_of log)) s h i (verdict_on (board (unit_of log)) s h i)) next ∙ ap (goes (board (unit_of log)) s h Move) is.0
    ∙ ap (option_map (λ (t : Replay FlatState). (t, told_of (board (unit_of log)) s h Move t))) is.1.1 in
    let rest = runs_lead log h n is.1.0 t e (ap (λ c. first_left log c h) (made_cursor (unit_of log) h s is.1.0 is.1.1) ∙ first) (omega (arith, l, size)) within
    is.1.2 in (
      (h, told_of (board (unit_of log)) s h Move is.1.0) ∷ rest.0,
      (
        (is.1.0, did, rest.1.0),
        λ g n. ap (λ (b : Bool). cons_option (if b then told_of (board (unit_of log)) s h Move is.1.0 else None) (story (board (unit_of log)) log g rest.0))
            (ne_eqb h g (λ same. n (sym same)))
            ∙ rest.1.1 g n,
      ),
    )

write_clashes : (m : Option Mode) → IsSome m → conflict (Some Write) m ≡ false → ⊥
write_clashes None some f = absurd (true≢false (sym some))
write_clashes (Some Read) some f = true≢false f
write_clashes (Some Write) some f = true≢false f

-- the board stands where Runs up to that count lead
pub stands_led : (image : Image) (b : Position) (h n : ℕ) (s t : Replay FlatState) (e : Entry) → Stands image b s → first_left b.log b.cursor h ≡ Some e
    → h < length s.flat.counts → (board (unit_of b.log)).count t.flat h ≤ count_of e → Runs (board (unit_of b.log)) h n s t
    → DifferFor (unit_of b.log) h s t → length t.flat.memory ≡ length s.flat.memory → Stands image b t
stands_led image b h n s t e st first l within runs differ long =
    let steps = runs_lead b.log h n s t e (ap (λ c. first_left b.log c h) (sym st.cursor) ∙ first) l within runs in
    record {
      replayable = st.replayable;
      range = st.range;
      order = map (λ (m : ℕ × Option (List Step)). m.0) (st.obeys.0 ++ steps.0);
      obeys = (
        st.obeys.0 ++ steps.0,
        refl,
        leads_on (step (board (unit_of b.log)) b.log) (first_replay b.log image) s t st.obeys.0 steps.0 st.obeys.2 steps.1.0,
      );
      cursor = st.cursor ∙ sym differ.cursor;
      backs = leg_backs b.backing h s t st.backs (subst (λ u. DifferFor u h s t) (sym (store_unit image b s st)) differ) long;
      roomy = st.roomy;
    }

-- a leg of hart h from a state at which the board stands
module _ (image : Image) (b : Position) (r new : Run) (h until : ℕ) (pause : Pause) (s : Replay FlatState) (e : Entry) (st : Stands image b s)
    (a : Agrees r h s) (first : first_left b.log b.cursor h ≡ Some e) (to : until ≤ count_of e) (leg : MakesLeg (unit_of b.log) new pause h until s)
    (kept : KeepsPages r new) where
  counted : h < length s.flat.counts
  counted = slice_get_within s.flat.counts h r.count a.count

  memory_long : length leg.at.flat.memory ≡ length s.flat.memory
  memory_long = leg.agrees.memory ∙ ap₂ (λ (n : ℕ) (u : ℕ). n * u) kept.number kept.unit_is ∙ sym a.memory

  steps : (made : List (ℕ × Option (List Step))) × (Leads (step (board (unit_of b.log)) b.log) s made leg.at
      × ((g : ℕ) → g ≢ h → story (board (unit_of b.log)) b.log g made ≡ []))
  steps =
      let within = leg.leg.within in
      runs_lead b.log h leg.leg.moves s leg.at e (ap (λ c. first_left b.log c h) (sym st.cursor) ∙ first) counted (omega (arith, within, to)) leg.leg.runs

  pub stands_there : Stands image b leg.at
  stands_there =
      let within = leg.leg.within in
      stands_led image b h leg.leg.moves s leg.at e st first counted (omega (arith, within, to)) leg.leg.runs leg.others memory_long

  -- another hart's run agrees on
  pub others_stay : (g : ℕ) (q : Run) → g ≢ h → Agrees q g s → Agrees q g leg.at
  others_stay g q n k =
      let before = (reached image b s st).going.good.sound in
      let sized = (reached image b leg.at stands_there).going.good.sound.sized in
      let harts_same : length leg.at.flat.harts ≡ length s.flat.harts = sized.harts_size ∙ sym before.sized.harts_size in
      let table_same : length leg.at.holders ≡ length s.holders = ap (λ (z : Holders). length z) leg.others.holders in
      record {
        unit_is = k.unit_is;
        harts = harts_same ∙ k.harts;
        memory = memory_long ∙ k.memory;
        table = table_same ∙ k.table;
        rows = λ page l. ap (λ (z : Holders). length (row z page)) leg.others.holders ∙ k.rows page (omega (arith, l, table_same)) ∙ sym harts_same;
        hart = leg.others.harts g n ∙ k.hart;
        count = leg.others.counts g n ∙ k.count;
        modes = λ page. ap (λ (z : Holders). held z page g) leg.others.holders ∙ k.modes page;
        bytes = λ page some.
            subst (λ u. page_of u leg.at.flat.memory page ≡ page_of u s.flat.memory page) (sym (run_unit image b q g s st k))
            (leg.others.pages page (λ write. write_clashes (held s.holders page g) (subst IsSome (sym (k.modes page)) some)
            (ap (λ m. conflict m (held s.holders page g)) (sym write) ∙ before.crew.holders page h g (λ same. n (sym same)))))
            ∙ k.bytes page some;
      }

  -- where nothing was ahead of the hart, moves were made
  pub moves_on : IsAhead (unit_of b.log) h s ahead.Free → r.count < until → r.count < new.count
  moves_on asks less = by leg.leg.moves leg.leg.runs refl where
    own : slice_index s.flat.counts h ≡ r.count
    own = get_or_from_slice_get s.flat.counts h r.count 0 a.count

    then_own : slice_index leg.at.flat.counts h ≡ new.count
    then_own = get_or_from_slice_get leg.at.flat.counts h new.count 0 leg.agrees.count

    by : (n : ℕ) → Runs (board (unit_of b.log)) h n s leg.at → n ≡ leg.leg.moves → r.count < new.count
    by zero is same =
        absurd (leg.leg.ends (let c = ap (λ (x : Replay FlatState). slice_index x.flat.counts h) is in omega (arith, own, less, c))
        (ap (λ x. verdict_on (board (unit_of b.log)) x h Move) (sym is) ∙ free_goes (unit_of b.log) s h asks))
    by (suc n) is same = let c = runs_count (unit_of b.log) h (suc n) s leg.at counted is in omega (arith, c, own, then_own)

  pub runs_on : IsAhead (unit_of b.log) h s ahead.Free → r.count < until → (most : ℕ) → until ≤ most → RunsOn image b r new h most s
  runs_on asks less most low = record {
    at = leg.at;
    made = steps.0;
    leads = steps.1.0;
    alone = steps.1.1;
    stands = stands_there;
    agrees = leg.agrees;
    others = others_stay;
    counts = λ g n. sym (unwrap_or-slice_get leg.at.flat.counts g 0) ∙ ap (λ o. unwrap_or o 0) (leg.others.counts g n) ∙ unwrap_or-slice_get s.flat.counts g 0;
    more = moves_on asks less;
    within =
        let top = leg.leg.within in
        let own : slice_index leg.at.flat.counts h ≡ new.count = get_or_from_slice_get leg.at.flat.counts h new.count 0 leg.agrees.count in
        omega (arith, top, own, low);
  }

-- a stage behind a leg of one of its harts
module _ (old new : Replaying) (h most : ℕ) (was r : Run) (there : slice_get old.runs.items h ≡ Some was) (makes : MakesMoves old.board was r h most)
    (board_is : new.board ≡ old.board) (runs_are : new.runs.items ≡ slice_set old.runs.items h r) (ends_are : new.ends ≡ old.ends) where
  pub moved_on : (image : Image) (s : Replay FlatState) → (at : IsAt image old s) → RunsOn image old.board was r h most s
  moved_on image s at = makes image s at.stands (at.agree h was there)

  pub then_at : (image : Image) (s : Replay FlatState) → (at : IsAt image old s) → IsAt image new (moved_on image s at).at
  then_at image s at =
      let m = moved_on image s at in
      stage_to image old new r was h s m.at at there (subst (λ b. Stands image b (moved_on image s at).at) (sym board_is) m.stands) m.agrees m.others
      (ap (λ (b : Position). b.log) board_is) runs_are ends_are

  pub leg_on : GoesOn old new
  leg_on image s at = ((moved_on image s at).at, then_at image s at)

  -- less is left
  pub leg_less : IsSomewhere old → left new < left old
  leg_less x =
      let image = x.0 in
      let s = x.1.0 in
      let at = x.1.1 in
      let m = moved_on x.0 x.1.0 x.1.1 in
      let is = at.stands.replayable in
      let before = (reached x.0 old.board x.1.0 x.1.1.stands).going in
      let going = (reached x.0 old.board m.at m.stands).going in
      let sized = before.good.sound.sized in
      let then_sized = going.good.sound.sized in
      let own : slice_index x.1.0.flat.counts h ≡ was.count = get_or_from_slice_get x.1.0.flat.counts h was.count 0 (x.1.1.agree h was there).count in
      let then_own : slice_index m.at.flat.counts h ≡ r.count = get_or_from_slice_get m.at.flat.counts h r.count 0 m.agrees.count in
      let further = m.more in
      let counts : total x.1.0.flat.counts + 1 ≤ total m.at.flat.counts =
      total_more x.1.0.flat.counts m.at.flat.counts h
      (sized.counts_size ∙ sized.harts_size ∙ sym (then_sized.counts_size ∙ then_sized.harts_size))
      (slice_get_within x.1.0.flat.counts h was.count (x.1.1.agree h was there).count)
      (λ g l. elim (cases_eq g h) [
        | inl same ↦ subst (λ k. slice_index x.1.0.flat.counts k ≤ slice_index m.at.flat.counts k) (sym same) (omega (arith, own, then_own, further))
        | inr n ↦ let other = m.counts g n in omega (arith, other)
      ])
      (omega (arith, own, then_own, further)) in
      let places : total m.at.cursor.places ≡ total x.1.0.cursor.places =
      ap (λ (c : Cursor). total c.places) (sym m.stands.cursor ∙ x.1.1.stands.cursor) in
      let old_done = done_is x.0 old x.1.0 x.1.1 in
      let new_done = done_is x.0 new m.at (then_at x.0 x.1.0 x.1.1) in
      let most = within old.board.log x.0 m.stands.replayable m.at going in
      less_left (most_done old.board.log) (most_done new.board.log) (done_of old) (done_of new) (ap (λ (b : Position). most_done b.log) board_is)
      (omega (arith, counts, places, old_done, new_done)) (omega (arith, most, new_done))

-- a stage behind what may be a leg
pub leg_or_same : (ran : Bool) (old new : Replaying) (h most : ℕ) (was r : Run) → slice_get old.runs.items h ≡ Some was
    → (IsTrue ran → MakesMoves old.board was r h most)
    → (ran ≡ false → r ≡ was) → new.board ≡ old.board → new.runs.items ≡ slice_set old.runs.items h r → new.ends ≡ old.ends → IsSomewhere old
    → GoesOn old new × HasGone ran old new
leg_or_same true old new h most was r there makes still board_is runs_are ends_are x = (
  leg_on old new h most was r there (makes refl) board_is runs_are ends_are,
  leg_less old new h most was r there (makes refl) board_is runs_are ends_are x,
)
leg_or_same false old new h most was r there makes still board_is runs_are ends_are x =
    let same : IsSame old new =
    (board_is, (runs_are ∙ ap (slice_set old.runs.items h) (still refl) ∙ set_same old.runs.items h was there, ends_are)) in
    (on_same old new same, same)
