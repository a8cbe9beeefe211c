-- Items of one hart that lead on: its leg, and its entries.
use Rattle.std.proofs.Common.{◌≡◌, ◌≢◌, ℕ, zero, suc, ◌+◌, ◌<◌, ◌≤◌, not, Bool, true, false, cond, List, [], ◌∷◌, length, Option, Some, None}
use Rattle.std.proofs.Common.{is_some, slice_get, slice_set, slice_index, refl, sym, ap, ◌∙◌, subst, arith, if◌then◌else◌}
use Rattle.std.specs.Option.{option_map}
use Rattle.std.proofs.lemmas.Bool.{ne_eqb}
use Rattle.std.proofs.lemmas.List.{length-set}
use Rattle.std.proofs.lemmas.Option.{get_or_from_slice_get, none-some, same_Some}
use Rattle.elf_image.specs.Image.{Image}
use Rattle.rv_words.specs.declared.shared.Mode.{Mode}
use Rattle.rv_hart.specs.Moves.{need_of}
use Rattle.log_entry.specs.declared.log.Entry.{Entry}
use Rattle.log_entry.specs.declared.log.Log.{Log}
use Rattle.log_entry.specs.Parts.{count_of, is_end, unit_of}
use Rattle.orders_law.specs.Orders.{Leads}
use Rattle.order_rules.specs.Cursor.{first_left}
use Rattle.order_rules.specs.Holders.{Holders, held, row}
use Rattle.flat_machine.specs.State.{FlatState}
use Rattle.flat_machine.specs.Acts.{next, ran, moved_by}
use Rattle.flat_machine.specs.Moves.{next_move, access_of, loaded_for}
use Rattle.flat_machine.specs.declared.act.Act.{Act}
use Rattle.flat_machine.specs.declared.act.Act.TheVariants as act
use Rattle.flat_machine.specs.declared.results.Step.{Step}
use Rattle.replay_model.specs.Board.{board}
use Rattle.replay_model.specs.State.{Replay}
use Rattle.replay_model.specs.Items.{Ended, Makes, Move, item_at, goes, told_of, made, next_item, step, verdict_on}
use Rattle.run_model.specs.Run.{Run}
use Rattle.run_model.specs.Agreement.{Agrees}
use Rattle.run_model.specs.Legs.{Runs}
use Rattle.shared_types.proofs.Lists.{bound_to, mapped, set_here}
use Rattle.replay_law.specs.Laws.{IsReplayable}
use Rattle.replay_law.proofs.Boards.{made_of, view_stays}
use Rattle.replay_law.proofs.Local.{actor}
use Rattle.replay_law.proofs.Progress.{Going, going_lasts}
use Rattle.replay_law.proofs.Steps.{act_of, flat_after, hold_in, holders_by, step_went}
use Rattle.replay_law.proofs.Tables.{held_stays, table_size, rows_size}
use Rattle.replay_law.proofs.Verdicts.{ActIs, act_is}
use Rattle.replay_law.proofs.Views.{Sound, shape_of}
use Rattle.replay_parts.specs.Turns.{MakesEntries}
use Rattle.replay_parts.proofs.Within.{count_in, did, place_of}

-- another's hold of a page changed, and the cursor
agrees_table : (s a : Replay FlatState) (g h : ℕ) (o : Option (ℕ × Option Mode)) (r : Run) → g ≢ h → a.holders ≡ holders_by s.holders h o
    → Agrees r g (record s { flat = a.flat }) → Agrees r g a
agrees_table s a g h o r n holders k =
    let size : length a.holders ≡ length s.holders = ap (λ (z : Holders). length z) holders ∙ table_size s.holders h o in
    record {
      unit_is = k.unit_is;
      harts = k.harts;
      memory = k.memory;
      table = size ∙ k.table;
      rows = λ page l. ap (λ (z : Holders). length (row z page)) holders ∙ rows_size s.holders page h o ∙ k.rows page (omega (arith, l, size));
      hart = k.hart;
      count = k.count;
      modes = λ page. ap (λ (z : Holders). held z page g) holders ∙ held_stays s.holders page h g o n ∙ k.modes page;
      bytes = k.bytes;
    }

ran_counts : (h : ℕ) (s f y : FlatState) (b : Bool) → y.counts ≡ slice_set s.counts h (slice_index s.counts h + 1) → cond b None (Some y) ≡ Some f
    → f.counts ≡ slice_set s.counts h (slice_index s.counts h + 1)
ran_counts h s f y true is did = absurd (none-some _ did)
ran_counts h s f y false is did = ap (λ (z : FlatState). z.counts) (sym (same_Some _ _ did)) ∙ is

-- a Run counts
pub run_counts : (u h : ℕ) (s t : Replay FlatState) → h < length s.flat.counts → made (board u) s h Move ≡ Some t
    → ((board u).count t.flat h ≡ (board u).count s.flat h + 1) × (length t.flat.counts ≡ length s.flat.counts)
run_counts u h s t l did =
    let m = mapped (λ (f : FlatState). record s { flat = f }) (next (act.Run h) s.flat) t did in
    let b = bound_to (λ x. ran s.flat h x (next_move x s.flat.memory)) (slice_get s.flat.harts h) m.0 m.1 in
    let after : FlatState = moved_by s.flat h b.0 (next_move b.0 s.flat.memory) (loaded_for s.flat.memory (need_of (next_move b.0 s.flat.memory))) in
    let f_counts : m.0.counts ≡ slice_set s.flat.counts h (slice_index s.flat.counts h + 1) =
    ran_counts h s.flat m.0 after (is_some (access_of (need_of (next_move b.0 s.flat.memory)))) refl b.2 in
    let counts : t.flat.counts ≡ slice_set s.flat.counts h (slice_index s.flat.counts h + 1) =
    ap (λ (z : Replay FlatState). z.flat.counts) (sym m.2) ∙ f_counts in (
      ap (λ xs. slice_index xs h) counts
          ∙ get_or_from_slice_get (slice_set s.flat.counts h (slice_index s.flat.counts h + 1)) h (slice_index s.flat.counts h + 1) 0
          (set_here s.flat.counts h (slice_index s.flat.counts h + 1) l),
      ap length counts ∙ length-set s.flat.counts h (slice_index s.flat.counts h + 1),
    )

pub runs_count : (u h n : ℕ) (s t : Replay FlatState) → h < length s.flat.counts → Runs (board u) h n s t → (board u).count t.flat h
    ≡ (board u).count s.flat h + n
runs_count u h zero s t l is = let z = ap (λ (x : Replay FlatState). (board u).count x.flat h) is in omega (arith, z)
runs_count u h (suc n) s t l is =
    let one = run_counts u h s is.1.0 l is.1.1 in
    let size = one.1 in
    let first = one.0 in
    let rest = runs_count u h n is.1.0 t (omega (arith, l, size)) is.1.2 in omega (arith, first, rest)

-- below the count of its first entry left a hart makes a move
pub move_next : (n : ℕ) (e : Entry) → n < count_of e → item_at n (Some e) ≡ Move
move_next n e less =
    ap (λ b. if not b then Move else if is_end e then Ended else Makes e) (ne_eqb (count_of e) n (λ same. absurd (omega (arith, less, same))))

pub made_cursor : (u h : ℕ) (s m : Replay FlatState) → made (board u) s h Move ≡ Some m → m.cursor ≡ s.cursor
made_cursor u h s m is =
    let f = mapped (λ (f : FlatState). record s { flat = f }) (next (act.Run h) s.flat) m is in ap (λ (z : Replay FlatState). z.cursor) (sym f.2)

module _ (log : Log) (image : Image) (is : IsReplayable log image) where
  -- an item of one hart leaves what the runs of the others agree with
  pub others_agree : (s a : Replay FlatState) (w : Option (List Step)) (g h : ℕ) (r : Run) → Going log image is s
      → step (board (unit_of log)) log h s ≡ Some (a, w) → g ≢ h → r.frames.unit ≡ unit_of log → Agrees r g s → Agrees r g a
  others_agree s a w g h r going did n unit k =
      let x = step_went (board (unit_of log)) log s a h w did in
      agrees_table s a g h (hold_in x.item) r n (ap (λ (z : Replay FlatState). z.holders) x.built_is)
      (by (act_of (board (unit_of log)) s h x.item) (λ act e. act_is (board (unit_of log)) s h x.item act x.go e) x.flat_is going.good.sound)
    where
      by : (o : Option Act) → ((act : Act) → o ≡ Some act → ActIs (board (unit_of log)) s h act) → flat_after (board (unit_of log)) s.flat o ≡ Some a.flat
          → Sound (shape_of log) s → Agrees r g (record s { flat = a.flat })
      by None own is sound = subst (λ f. Agrees r g (record s { flat = f })) (same_Some _ _ is) k
      by (Some act) own is sound =
          let o = own act refl in
          let m = made_of (shape_of log) s act a.flat sound o.has is in
          view_stays (shape_of log) s (actor act) g r m.after.0 a.flat sound (λ e. n (e ∙ o.by)) k unit m.done

  -- items of hart h lead from s to t, and leave all that another hart has
  pub record Led (s t : Replay FlatState) (h : ℕ) : Type 0 where
    pub made : List (ℕ × Option (List Step))
    pub leads : Leads (step (board (unit_of log)) log) s made t
    pub going : Going log image is t
    pub places : (g : ℕ) → g ≢ h → place_of t g ≡ place_of s g
    pub counts : (g : ℕ) → g ≢ h → count_in t g ≡ count_in s g
    pub sees : (g : ℕ) (r : Run) → g ≢ h → r.frames.unit ≡ unit_of log → Agrees r g s → Agrees r g t

  pub led_none : (s t : Replay FlatState) (h : ℕ) → Going log image is s → s ≡ t → Led s t h
  led_none s t h going same = record {
    made = [];
    leads = same;
    going = subst (Going log image is) same going;
    places = λ g n. ap (λ (x : Replay FlatState). place_of x g) (sym same);
    counts = λ g n. ap (λ (x : Replay FlatState). count_in x g) (sym same);
    sees = λ g r n unit k. subst (Agrees r g) same k;
  }

  pub led_more : (s a t : Replay FlatState) (h : ℕ) (w : Option (List Step)) → Going log image is s → step (board (unit_of log)) log h s ≡ Some (a, w)
      → Led a t h → Led s t h
  led_more s a t h w going e rest =
      let d = did log image is s a h w going e in
      record {
        made = (h, w) ∷ rest.made;
        leads = (a, e, rest.leads);
        going = rest.going;
        places = λ g n. rest.places g n ∙ d.others_place g n;
        counts = λ g n. rest.counts g n ∙ d.others_count g n;
        sees = λ g r n unit k. rest.sees g r n unit (others_agree s a w g h r going e n unit k);
      }

  -- a leg up to the count of the hart's first entry left
  pub led_by_runs : (n h : ℕ) (s t : Replay FlatState) (e : Entry) → Going log image is s → h < length s.flat.counts → first_left log s.cursor h ≡ Some e
      → (board (unit_of log)).count t.flat h ≤ count_of e → Runs (board (unit_of log)) h n s t → Led s t h
  led_by_runs zero h s t e going l first within runs = led_none s t h going runs
  led_by_runs (suc n) h s t e going l first within runs =
      let all = runs_count (unit_of log) h (suc n) s t l runs in
      let one = run_counts (unit_of log) h s runs.1.0 l runs.1.1 in
      let size = one.1 in
      let next : next_item (board (unit_of log)) log s h ≡ Move =
      ap (item_at ((board (unit_of log)).count s.flat h)) first
      ∙ move_next ((board (unit_of log)).count s.flat h) e (omega (arith, all, within)) in
      let did_it : step (board (unit_of log)) log h s ≡ Some (runs.1.0, told_of (board (unit_of log)) s h Move runs.1.0) =
      ap (λ i. goes (board (unit_of log)) s h i (verdict_on (board (unit_of log)) s h i)) next ∙ ap (goes (board (unit_of log)) s h Move) runs.0
      ∙ ap (option_map (λ (t : Replay FlatState). (t, told_of (board (unit_of log)) s h Move t))) runs.1.1 in
      led_more s runs.1.0 t h (told_of (board (unit_of log)) s h Move runs.1.0) going did_it
      (led_by_runs n h runs.1.0 t e (going_lasts log image is s runs.1.0 h (told_of (board (unit_of log)) s h Move runs.1.0) going did_it)
      (omega (arith, l, size))
      (ap (λ c. first_left log c h) (made_cursor (unit_of log) h s runs.1.0 runs.1.1) ∙ first) within runs.1.2)

  -- and its entries
  pub led_by_entries : (n h : ℕ) (s t : Replay FlatState) → Going log image is s → MakesEntries log h n s t → Led s t h
  led_by_entries zero h s t going makes = led_none s t h going makes
  led_by_entries (suc n) h s t going makes =
      let m = makes.1 in
      led_more s m.0.0 t h m.0.1 going m.1.0 (led_by_entries n h m.0.0 t (going_lasts log image is s m.0.0 h m.0.1 going m.1.0) m.1.1)
