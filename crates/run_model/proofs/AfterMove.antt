-- After one move the run agrees with the flat machine again, which changed for its hart alone.
use Rattle.std.proofs.Common.{◌≡◌, ◌≢◌, inl, inr, ℕ, ◌+◌, ◌*◌, ◌/◌, ◌%◌, ◌<◌, ◌≤◌, Bool, true, false, cond, [], ◌++◌, map, length}
use Rattle.std.proofs.Common.{Option, Some, None, slice_get, slice_set, slice_index, unwrap_or, true≢false, refl, sym, ap}
use Rattle.std.proofs.Common.{ap₂, ◌∙◌, subst, arith}
use Rattle.std.specs.Prelude.{IsSome}
use Rattle.std.specs.Option.{option_map, option_and_then}
use Rattle.std.proofs.lemmas.Bool.{cases_eq}
use Rattle.std.proofs.lemmas.Bool.Decides.{eqb_tells}
use Rattle.std.proofs.lemmas.List.{length-map, length-set}
use Rattle.std.proofs.lemmas.Option.{slice_get-map, slice_get_within, get_or_from_slice_get, none-some, same_Some}
use Rattle.rv_words.specs.declared.shared.Mode.TheVariants.{Write}
use Rattle.rv_words.specs.Limits.{IsUnit, page_bytes}
use Rattle.rv_words.specs.Memory.{low_bytes, put}
use Rattle.rv_words.proofs.Memory.{length_put}
use Rattle.rv_hart.specs.State.{Hart}
use Rattle.rv_hart.specs.Moves.{after, written, need_of, with_reserved}
use Rattle.rv_hart.specs.Needs.{page_at}
use Rattle.rv_hart.specs.declared.effect.Wrote.{Wrote}
use Rattle.rv_hart.specs.declared.effect.Wrote.TheVariants as wrote
use Rattle.guest_pages.specs.Pages.{Pages, page_of, bytes_of}
use Rattle.guest_pages.proofs.Agree.{stores_agree}
use Rattle.flat_machine.specs.State.{FlatState}
use Rattle.flat_machine.specs.Moves.{stored_by, lost_by, writes_in, place_in_memory}
use Rattle.log_entry.specs.Parts.{conflict}
use Rattle.replay_model.specs.Board.{board}
use Rattle.order_rules.specs.Holders.{held}
use Rattle.replay_model.specs.State.{Replay, IsCrewState}
use Rattle.run_model.specs.Run.{Run, hold_of, word_of, move_held, ahead_of, loaded_held, stored_in, moved_by, IsOneRun}
use Rattle.run_model.specs.Agreement.{Agrees, after_move}
use Rattle.run_model.specs.Legs.{DifferFor}
use Rattle.run_model.specs.declared.asked.Ahead.TheVariants.{Free}
use Rattle.run_model.proofs.Addresses.{store_place, store_fits, store_page, page_inside, one_page}
use Rattle.shared_types.proofs.Lists.{set_here, set_there}
use Rattle.run_model.proofs.Moves.{WriteHeld, ReservesHeld, write_by, reserve_by, same_board, length-low_bytes, there_by, free_data}

-- a store within a page of the memory, by the page's place and the place in it
store_in_page : (r : Run) (h : ℕ) (s : Replay FlatState) (at size value : ℕ) → Agrees r h s → IsOneRun r → WriteHeld r (wrote.Bytes at size value)
    → (page_at r.frames.unit at * r.frames.unit + place_in_memory at % r.frames.unit ≡ place_in_memory at)
    × (place_in_memory at % r.frames.unit + length (low_bytes size value) ≤ r.frames.unit)
    × (page_at r.frames.unit at < length r.frames.pages)
    × (page_at r.frames.unit at * r.frames.unit + r.frames.unit ≤ length s.flat.memory)
store_in_page r h s at size value a one w =
    let above = w.0.inside.0 in
    let u = r.frames.unit in
    let below : page_at r.frames.unit at < length r.frames.pages =
    store_page r.frames.unit (length r.frames.pages) r.hart.pages at size one.unit one.pages w.0 in
    let bytes : length (low_bytes size value) ≡ size = length-low_bytes size value w.0.size_is in
    let fits = store_fits r.frames.unit at size one.unit w.0.size_is w.0.aligned above in
    let whole = page_inside r.frames.unit (length r.frames.pages) (page_at r.frames.unit at) one.unit below in (
      store_place r.frames.unit at one.unit above,
      omega (arith, fits, bytes),
      below,
      subst (λ k. page_at r.frames.unit at * r.frames.unit + r.frames.unit ≤ k) (sym a.memory) whole,
    )

-- the memory and the frames after a move wrote
abbrev pub WroteAlike : Run → Replay FlatState → Wrote → Type 0
WroteAlike r s w =
    (length (stored_by s.flat.memory w) ≡ length s.flat.memory)
    × (((page : ℕ) → IsSome (hold_of r page) → page_of r.frames.unit (stored_by s.flat.memory w) page ≡ bytes_of (stored_in r.frames w) page)
    × ((page : ℕ) → hold_of r page ≢ Some Write → page_of r.frames.unit (stored_by s.flat.memory w) page ≡ page_of r.frames.unit s.flat.memory page))

wrote_alike : (r : Run) (h : ℕ) (s : Replay FlatState) (w : Wrote) → Agrees r h s → IsOneRun r → WriteHeld r w → WroteAlike r s w
wrote_alike r h s wrote.Nothing a one w = (refl, (a.bytes, λ page n. refl))
wrote_alike r h s (wrote.Bytes at size value) a one w =
    let p = page_at r.frames.unit at in
    let off = place_in_memory at % r.frames.unit in
    let bs = low_bytes size value in
    let i = store_in_page r h s at size value a one w in
    let stores = stores_agree s.flat.memory r.frames.unit (page_at r.frames.unit at) (place_in_memory at % r.frames.unit) (low_bytes size value) i.1 i.3 in
    let place : put s.flat.memory (place_in_memory at) (low_bytes size value)
    ≡ put s.flat.memory (page_at r.frames.unit at * r.frames.unit + place_in_memory at % r.frames.unit) (low_bytes size value) =
    ap (λ k. put s.flat.memory k (low_bytes size value)) (sym i.0) in
    let there : IsSome (hold_of r (page_at r.frames.unit at)) = subst IsSome (sym w.1) refl in (
      length_put s.flat.memory (low_bytes size value) (place_in_memory at) (omega (arith, i.0, i.1, i.3)),
      (
        λ page held. elim (cases_eq page (page_at r.frames.unit at)) [
          | inl e ↦
              ap (λ m. page_of r.frames.unit m page) place ∙ ap
              (page_of r.frames.unit (put s.flat.memory (page_at r.frames.unit at * r.frames.unit + place_in_memory at % r.frames.unit)
              (low_bytes size value))) e
              ∙ stores.0 ∙ ap (λ m. put m (place_in_memory at % r.frames.unit) (low_bytes size value)) (a.bytes (page_at r.frames.unit at) there)
              ∙ sym (ap (bytes_of (stored_in r.frames (wrote.Bytes at size value))) e
              ∙ ap (λ o. unwrap_or o []) (set_here r.frames.pages (page_at r.frames.unit at)
              (put (bytes_of r.frames (page_at r.frames.unit at)) (place_in_memory at % r.frames.unit) (low_bytes size value)) i.2))
          | inr n ↦
              ap (λ m. page_of r.frames.unit m page) place ∙ stores.1 page n ∙ a.bytes page held
              ∙ sym (ap (λ o. unwrap_or o []) (set_there r.frames.pages (page_at r.frames.unit at) page
              (put (bytes_of r.frames (page_at r.frames.unit at)) (place_in_memory at % r.frames.unit) (low_bytes size value)) n))
        ],
        λ page n. ap (λ m. page_of r.frames.unit m page) place ∙ stores.1 page (λ e. n (ap (hold_of r) e ∙ w.1)),
      ),
    )

pub stored_unit : (p : Pages) (w : Wrote) → (stored_in p w).unit ≡ p.unit
stored_unit p wrote.Nothing = refl
stored_unit p (wrote.Bytes at size value) = refl

pub stored_length : (p : Pages) (w : Wrote) → length (stored_in p w).pages ≡ length p.pages
stored_length p wrote.Nothing = refl
stored_length p (wrote.Bytes at size value) =
    length-set p.pages (page_at p.unit at) (put (bytes_of p (page_at p.unit at)) (place_in_memory at % p.unit) (low_bytes size value))

-- the run after the move agrees with the state after it
pub agrees_after : (r : Run) (h : ℕ) (s : Replay FlatState) → Agrees r h s → IsOneRun r → ahead_of r ≡ Free
    → Agrees (moved_by r (move_held r)) h (after_move r h s)
agrees_after r h s a one f =
    let loaded = loaded_held r (need_of (move_held r)) in
    let x : Hart = after r.hart (move_held r) (loaded_held r (need_of (move_held r))) in
    let w : Wrote = written (move_held r) (loaded_held r (need_of (move_held r))) in
    let alike : WroteAlike r s w =
    wrote_alike r h s w a one (write_by r (move_held r) (loaded_held r (need_of (move_held r))) (there_by r.hart (word_of r)) (free_data r f)) in
    let number : length (slice_set (map (lost_by w) s.flat.harts) h x) ≡ length s.flat.harts = length-set (map (lost_by w) s.flat.harts) h x
    ∙ length-map s.flat.harts (lost_by w) in
    let there : h < length s.flat.harts = slice_get_within s.flat.harts h r.hart a.hart in
    record {
      unit_is = subst IsUnit (sym (stored_unit r.frames w)) a.unit_is;
      harts = number ∙ a.harts ∙ sym (same_board r.hart (move_held r) (loaded_held r (need_of (move_held r)))).0;
      memory = alike.0 ∙ a.memory ∙ ap₂ (λ k u. k * u) (sym (stored_length r.frames w)) (sym (stored_unit r.frames w));
      table = a.table ∙ sym (stored_length r.frames w);
      rows = λ page l. a.rows page l ∙ sym number;
      hart = set_here (map (lost_by w) s.flat.harts) h x (omega (arith, there, length-map s.flat.harts (lost_by w)));
      count = set_here s.flat.counts h (slice_index s.flat.counts h + 1) (slice_get_within s.flat.counts h r.count a.count)
          ∙ ap (λ k. Some (k + 1)) (get_or_from_slice_get s.flat.counts h r.count 0 a.count);
      modes = a.modes;
      bytes = λ page held. ap (λ u. page_of u (stored_by s.flat.memory w) page) (stored_unit r.frames w) ∙ alike.1.0 page held;
    }

reserved_at : (unit : ℕ) (s : Replay FlatState) (g : ℕ) (y : Hart) (o : Option ℕ) → slice_get s.flat.harts g ≡ Some y → y.reserved ≡ o
    → (board unit).reserved_page s.flat g ≡ option_map (page_at unit) o
reserved_at unit s g y o at is = ap (λ z. option_map (page_at unit) (option_and_then (λ (x : Hart). x.reserved) z)) at ∙ ap (option_map (page_at unit)) is

-- a store to a page held in Write writes in no word that another hart has reserved
apart : (r : Run) (h : ℕ) (s : Replay FlatState) (at size value g : ℕ) (y : Hart) (o : Option ℕ) → Agrees r h s → IsOneRun r
    → IsCrewState (board r.frames.unit) s → WriteHeld r (wrote.Bytes at size value)
    → g ≢ h → slice_get s.flat.harts g ≡ Some y → y.reserved ≡ o → writes_in at o ≡ false
apart r h s at size value g y None a one crew w n there is = refl
apart r h s at size value g y (Some word) a one crew w n there is = elim (eqb_tells (at / 4) (word / 4)) [
  | inr (f, d) ↦ f
  | inl (t, e) ↦
      let page : page_at r.frames.unit at ≡ page_at r.frames.unit word = one_page r.frames.unit at word one.unit w.0.inside.0 e in
      let theirs : held s.holders (page_at r.frames.unit word) g ≡ Some Write =
      crew.reservations g (page_at r.frames.unit word) (reserved_at r.frames.unit s g y (Some word) there is) in
      let own : held s.holders (page_at r.frames.unit word) h ≡ Some Write =
      a.modes (page_at r.frames.unit word) ∙ ap (hold_of r) (sym page) ∙ w.1 in
      let clash : true ≡ false = ap₂ conflict (sym theirs) (sym own) ∙ crew.holders (page_at r.frames.unit word) g h n in
      absurd (true≢false clash)
]

lost_where : (b : Bool) (y : Hart) → b ≡ false → cond b (with_reserved None y) y ≡ y
lost_where true y e = absurd (true≢false e)
lost_where false y e = refl

-- so another hart is as it was
same_other : (r : Run) (h : ℕ) (s : Replay FlatState) (w : Wrote) (g : ℕ) (y : Hart) → Agrees r h s → IsOneRun r → IsCrewState (board r.frames.unit) s
    → WriteHeld r w → g ≢ h → slice_get s.flat.harts g ≡ Some y → lost_by w y ≡ y
same_other r h s wrote.Nothing g y a one crew w n there = refl
same_other r h s (wrote.Bytes at size value) g y a one crew w n there =
    lost_where (writes_in at y.reserved) y (apart r h s at size value g y y.reserved a one crew w n there refl)

others_by : (r : Run) (h : ℕ) (s : Replay FlatState) (w : Wrote) (g : ℕ) (o : Option Hart) → Agrees r h s → IsOneRun r → IsCrewState (board r.frames.unit) s
    → WriteHeld r w → g ≢ h → slice_get s.flat.harts g ≡ o → option_map (lost_by w) o ≡ o
others_by r h s w g None a one crew held n there = refl
others_by r h s w g (Some y) a one crew held n there = ap Some (same_other r h s w g y a one crew held n there)

-- the state after the move differs for its hart alone
pub differ_after : (r : Run) (h : ℕ) (s : Replay FlatState) → Agrees r h s → IsOneRun r → IsCrewState (board r.frames.unit) s → ahead_of r ≡ Free
    → DifferFor r.frames.unit h s (after_move r h s)
differ_after r h s a one crew f =
    let x : Hart = after r.hart (move_held r) (loaded_held r (need_of (move_held r))) in
    let w : Wrote = written (move_held r) (loaded_held r (need_of (move_held r))) in
    let held : WriteHeld r w = write_by r (move_held r) (loaded_held r (need_of (move_held r))) (there_by r.hart (word_of r)) (free_data r f) in
    let alike : WroteAlike r s w = wrote_alike r h s w a one held in
    record {
      harts = λ g n. set_there (map (lost_by w) s.flat.harts) h g x n ∙ slice_get-map (lost_by w) s.flat.harts g
          ∙ others_by r h s w g (slice_get s.flat.harts g) a one crew held n refl;
      counts = λ g n. set_there s.flat.counts h g (slice_index s.flat.counts h + 1) n;
      pages = λ page n. alike.1.1 page (λ e. n (a.modes page ∙ e));
      devices = refl;
      holders = refl;
      cursor = refl;
    }

own_reserved : (r : Run) (h page : ℕ) (s : Replay FlatState) (o : Option ℕ) → Agrees r h s → IsCrewState (board r.frames.unit) s → ReservesHeld r o
    → option_map (page_at r.frames.unit) o ≡ Some page → held s.holders page h ≡ Some Write
own_reserved r h page s o a crew (inl same) e = crew.reservations h page (reserved_at r.frames.unit s h r.hart o a.hart (sym same) ∙ e)
own_reserved r h page s o a crew (inr (inl none)) e = let bad : None ≡ Some page = ap (option_map (page_at r.frames.unit)) (sym none)
    ∙ e in absurd (none-some page bad)
own_reserved r h page s o a crew (inr (inr (at, (is, held_so)))) e =
    let same : page_at r.frames.unit at ≡ page = same_Some _ _ (ap (option_map (page_at r.frames.unit)) (sym is) ∙ e) in
    a.modes page ∙ ap (hold_of r) (sym same) ∙ held_so

-- and is CREW
pub crew_after : (r : Run) (h : ℕ) (s : Replay FlatState) → Agrees r h s → IsOneRun r → IsCrewState (board r.frames.unit) s → ahead_of r ≡ Free
    → IsCrewState (board r.frames.unit) (after_move r h s)
crew_after r h s a one crew f =
    let x : Hart = after r.hart (move_held r) (loaded_held r (need_of (move_held r))) in
    let differ = differ_after r h s a one crew f in
    let again = agrees_after r h s a one f in
    record {
      holders = crew.holders;
      reservations = λ g page e. elim (cases_eq g h) [
        | inl same ↦
            let own : (board r.frames.unit).reserved_page (after_move r h s).flat h ≡ option_map (page_at r.frames.unit) x.reserved =
            reserved_at r.frames.unit (after_move r h s) h x x.reserved again.hart refl in
            let at_page : option_map (page_at r.frames.unit) x.reserved ≡ Some page = sym own
            ∙ ap ((board r.frames.unit).reserved_page (after_move r h s).flat) (sym same) ∙ e in
            ap (held s.holders page) same ∙ own_reserved r h page s x.reserved a crew
            (reserve_by r (move_held r) (loaded_held r (need_of (move_held r))) (free_data r f)) at_page
        | inr n ↦ crew.reservations g page (ap (λ z. option_map (page_at r.frames.unit) (option_and_then (λ (y : Hart). y.reserved) z))
            (sym (differ.harts g n)) ∙ e)
      ];
    }

-- and the run is of its board still
pub one_after : (r : Run) → IsOneRun r → IsOneRun (moved_by r (move_held r))
one_after r one =
    let w : Wrote = written (move_held r) (loaded_held r (need_of (move_held r))) in
    record {
      unit = subst IsUnit (sym (stored_unit r.frames w)) one.unit;
      pages = ap₂ (λ k u. k * u) (stored_length r.frames w) (stored_unit r.frames w) ∙ one.pages
          ∙ ap (λ k. page_bytes * k) (sym (same_board r.hart (move_held r) (loaded_held r (need_of (move_held r)))).1);
      held_size = one.held_size ∙ sym (stored_length r.frames w);
    }
