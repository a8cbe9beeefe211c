-- On the board, what a hart wants stays while other harts go.
use Rattle.std.proofs.Common.{◌≡◌, ◌≢◌, ℕ, List, [], ◌∷◌, length, map, find, replicate, nat_lt, Option, Some, None, slice_get, slice_index, arith}
use Rattle.std.proofs.Common.{refl, sym, ap, ◌∙◌, subst}
use Rattle.std.specs.List.{enumerate_from}
use Rattle.std.specs.Option.{option_map_or}
use Rattle.std.proofs.lemmas.Option.{none-some, same_Some}
use Rattle.std.proofs.lemmas.List.FromFn.{length-enumerate_from}
use Rattle.std.proofs.lemmas.List.{length-map}
use Rattle.shared_types.proofs.Lists.{find_same}
use Rattle.rv_words.specs.declared.shared.Access.{Access}
use Rattle.rv_words.specs.declared.shared.Mode.{Mode}
use Rattle.rv_words.specs.declared.shared.Cause.TheVariants.{Limit}
use Rattle.rv_hart.specs.State.{Hart}
use Rattle.rv_hart.specs.Needs.{pages_needed}
use Rattle.log_entry.specs.declared.log.Log.{Log}
use Rattle.log_entry.specs.Parts.{strength, unit_of}
use Rattle.elf_image.specs.Image.{Image, IsWhole}
use Rattle.flat_machine.specs.State.{FlatState, flat_at_start}
use Rattle.flat_machine.specs.Acts.{next}
use Rattle.flat_machine.specs.Moves.{fetched}
use Rattle.flat_machine.specs.declared.act.Act.{Act}
use Rattle.flat_machine.specs.declared.results.Step.{Step}
use Rattle.orders_law.specs.Orders.{Leads}
use Rattle.run_model.specs.Run.{ahead_of}
use Rattle.run_model.specs.Agreement.{Asks}
use Rattle.run_model.specs.declared.asked.Ahead.{Ahead}
use Rattle.run_model.specs.declared.asked.Ahead.TheVariants.{Free, Wants, AtDevice}
use Rattle.run_model.proofs.Laws.{ahead_agrees}
use Rattle.replay_model.specs.Board.{board, hart_access}
use Rattle.order_rules.specs.Holders.{held, nobody}
use Rattle.replay_model.specs.State.{Replay, want}
use Rattle.replay_model.specs.Items.{Item, CanGo, verdict_on, step}
use Rattle.crew_recording.specs.Recording.{first_recording, log_of_recording}
use Rattle.crew_recording.proofs.Obedience.{full}
use Rattle.crew_recording.proofs.Behind.{ordered_all}
use Rattle.crew_recording.proofs.Steady.{no_place}
use Rattle.crew_recording.proofs.Whole.{first_ordered, orderly}
use Rattle.replay_law.specs.Laws.{IsReplayable, first_replay}
use Rattle.replay_law.proofs.Local.{actor, HasPages}
use Rattle.replay_law.proofs.Steps.{act_of, flat_after, hold_in, step_went}
use Rattle.replay_law.proofs.Tables.{held_stays}
use Rattle.replay_law.proofs.Verdicts.{act_is}
use Rattle.replay_law.proofs.Views.{Shape, Sound, shape_of, view, view_agrees}
use Rattle.replay_law.proofs.Boards.{made_of, view_stays}
use Rattle.replay_law.proofs.Orders.{good_first, good_along}
use Rattle.turn_model.specs.Recordable.{board_machine}
use Rattle.turn_model.specs.Board.{Terms, unit_in}
use Rattle.turn_model.specs.Laws.{IsPagedBoard}
use Rattle.turn_model.specs.Faithful.{IsFaithful}
use Rattle.turn_model.proofs.LeanJournals.{WantsStay}

-- two states that agree with what a hart sees agree in what it wants
asks_alike : (n : ℕ × Mode) (o p : Option Access) (w : Option (ℕ × Mode)) (a : Ahead) → Asks (Some n) o a → Asks w p a → w ≡ Some n
asks_alike n o p w Free one two = absurd (none-some _ (sym one.0))
asks_alike n o p w (Wants page mode) one two = two ∙ sym one
asks_alike n o p w (AtDevice at) one two = absurd (none-some _ (sym one.0))

module _ (shape : Shape) where
  act_leaves : (s : Replay FlatState) (act : Act) (t : FlatState) (h : ℕ) (n : ℕ × Mode) → Sound shape s → HasPages (board shape.unit) s act
      → next act s.flat ≡ Some t → h ≢ actor act → want (board shape.unit) s h ≡ Some n → want (board shape.unit) (record s { flat = t }) h ≡ Some n
  act_leaves s act t h n sound has did other wants = by (slice_get s.flat.harts h) refl where
    by : (o : Option Hart) → slice_get s.flat.harts h ≡ o → want (board shape.unit) (record s { flat = t }) h ≡ Some n
    by None at = absurd (none-some _
        (sym (ap (λ o. find (λ (m : ℕ × Mode). nat_lt (strength (held s.holders m.0 h)) (strength (Some m.1)))
        (option_map_or (λ x. pages_needed shape.unit x (fetched x s.flat.memory)) o [])) at) ∙ wants))
    by (Some x) at =
        let m = made_of shape s act t sound has did in
        let r = view shape s h x in
        let a = view_agrees shape s h x sound at in
        let b = view_stays shape s (actor act) h r m.after.0 t sound other a refl m.done in
        asks_alike n (hart_access s.flat h) (hart_access t h) (want (board shape.unit) (record s { flat = t }) h) (ahead_of r)
        (subst (λ w. Asks w (hart_access s.flat h) (ahead_of r)) wants (ahead_agrees r h s a)) (ahead_agrees r h (record s { flat = t }) b)

  -- the act of another hart's item, if it is one
  acts_leave : (s : Replay FlatState) (g h : ℕ) (item : Item) (p : Option Act) (t : FlatState) (n : ℕ × Mode) → Sound shape s
      → verdict_on (board shape.unit) s g item ≡ CanGo → act_of (board shape.unit) s g item ≡ p → h ≢ g → flat_after (board shape.unit) s.flat p ≡ Some t
      → want (board shape.unit) s h ≡ Some n → want (board shape.unit) (record s { flat = t }) h ≡ Some n
  acts_leave s g h item None t n sound go is other after wants =
      subst (λ f. want (board shape.unit) (record s { flat = f }) h ≡ Some n) (same_Some _ _ after) wants
  acts_leave s g h item (Some act) t n sound go is other after wants =
      let a = act_is (board shape.unit) s g item act go is in
      act_leaves s act t h n sound a.has after (λ e. other (e ∙ a.by)) wants

  step_leaves : (log : Log) (s t : Replay FlatState) (g h : ℕ) (w : Option (List Step)) (n : ℕ × Mode) → Sound shape s → h ≢ g
      → step (board shape.unit) log g s ≡ Some (t, w) → want (board shape.unit) s h ≡ Some n → want (board shape.unit) t h ≡ Some n
  step_leaves log s t g h w n sound other is wants =
      let x = step_went (board shape.unit) log s t g w is in
      let f = acts_leave s g h x.item (act_of (board shape.unit) s g x.item) t.flat n sound x.go refl other x.flat_is wants in
      ap (λ (z : Replay FlatState). want (board shape.unit) z h) x.built_is
      ∙ find_same _ _ ((board shape.unit).need t.flat h)
      (λ m. ap (λ o. nat_lt (strength o) (strength (Some m.1))) (held_stays s.holders m.0 g h (hold_in x.item) other))
      ∙ f

pub one_step : (log : Log) (g : ℕ) (s t : Replay FlatState) (made : List (ℕ × Option (List Step))) → map (λ (m : ℕ × Option (List Step)). m.0) made ≡ g ∷ []
    → Leads (step (board (unit_of log)) log) s made t → (w : Option (List Step)) × (step (board (unit_of log)) log g s ≡ Some (t, w))
one_step log g s t [] names leads = let l = ap (λ (xs : List ℕ). length xs) names in absurd (omega (arith, l))
one_step log g s t (x ∷ []) names leads = (
  x.1,
  subst (λ k. step (board (unit_of log)) log k s ≡ Some (t, x.1)) (ap (λ xs. slice_index xs 0) names)
      (leads.1 ∙ ap (λ (z : Replay FlatState). Some (z, x.1)) leads.2),
)
one_step log g s t (x ∷ y ∷ made) names leads = let l = ap (λ (xs : List ℕ). length xs) names in absurd (omega (arith, l))

-- an item after what was recorded so far is a step under the log that ends behind it
pub board_wants_stay : (terms : Terms) (image : Image) (harts : ℕ)
    (faithful : IsFaithful (board (unit_in terms)) harts terms.pages (IsPagedBoard harts terms.pages))
    → terms.pages ≡ image.pages → IsPagedBoard harts terms.pages (flat_at_start image harts) → IsWhole image
    → WantsStay (board_machine (unit_in terms)) terms harts (IsPagedBoard harts terms.pages) faithful (flat_at_start image harts)
board_wants_stay terms image harts faithful pages starts whole r m items g h item n known one other wants =
    let first = first_ordered (board (unit_in terms)) harts (IsPagedBoard harts terms.pages) faithful.steady faithful.timed terms.pages terms.limit
    (flat_at_start image harts) starts (no_place harts) in
    let begin = first_recording terms.pages harts (flat_at_start image harts) in
    let ordered = ordered_all (board (unit_in terms)) harts
    (IsPagedBoard harts terms.pages) faithful.steady faithful.timed terms.pages terms.limit begin r items known.0 known.1 first in
    let log = log_of_recording (board (unit_in terms)) terms.pages terms.limit terms.image Limit r in
    let alike : harts ≡ length log.streams = sym (length-map (enumerate_from 0 r.streams) _ ∙ length-enumerate_from 0 r.streams ∙ ordered.tidy.streams) in
    let is : IsReplayable log image = record {
      orderly = orderly (board (unit_in terms)) harts (IsPagedBoard harts terms.pages) faithful.steady faithful.timed terms.pages terms.limit
          (flat_at_start image harts) starts
          (no_place harts) terms.image Limit items r known.0 known.1;
      whole = whole;
      pages = pages;
    } in
    let so_far = full (board (unit_in terms)) harts
    (IsPagedBoard harts terms.pages) faithful.steady terms.pages terms.limit terms.image Limit begin r items known.0 first.tidy in
    let good = good_along log image is (first_replay log image) r.at so_far.0 (good_first log image is)
    (subst (λ k. Leads (step (board (unit_in terms)) log) (from k) so_far.0 r.at) alike so_far.2.leads) in
    let then = full (board (unit_in terms)) harts (IsPagedBoard harts terms.pages) faithful.steady terms.pages terms.limit terms.image Limit r m
    ((g, item) ∷ []) one.0 ordered.tidy in
    let next = one_step (log_of_recording (board (unit_in terms)) terms.pages terms.limit terms.image Limit m) g r.at m.at then.0 then.1 then.2.leads in
    step_leaves (shape_of log)
    (log_of_recording (board (unit_in terms)) terms.pages terms.limit terms.image Limit m) r.at m.at g h next.0 n good.sound other next.1 wants
  where
    -- the first state of a replay with so many harts
    from : ℕ → Replay FlatState
    from k = record {
      flat = flat_at_start image k;
      cursor = record { places = replicate k 0; numbers = replicate terms.pages 0; ordinal = 0 };
      holders = nobody terms.pages k;
    }
