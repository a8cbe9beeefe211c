-- A hart that is told to hold wants the page next, and this want is stored.
use Rattle.std.proofs.Common.{◌≡◌, ℕ, ◌<◌, List, length, max, Option, Some, None, unwrap_or, refl, sym, ap, ◌∙◌, subst, arith, ◌≤◌}
use Rattle.std.proofs.lemmas.Option.{same_Some}
use Rattle.std.proofs.lemmas.List.{length-set}
use Rattle.shared_types.proofs.Lists.{set_here}
use Rattle.rv_words.specs.declared.shared.Mode.{Mode}
use Rattle.elf_image.specs.Image.{Image}
use Rattle.log_entry.specs.declared.log.Entry.{Entry}
use Rattle.device_board.specs.Recording.{recorded_input}
use Rattle.flat_machine.specs.State.{FlatState}
use Rattle.replay_model.specs.Board.{board}
use Rattle.replay_model.specs.State.{want}
use Rattle.run_model.specs.Run.{Run}
use Rattle.turn_model.specs.Board.{Board, Order, Hold, Rest, Supply, Terms, last_order, unit_in, wanted}
use Rattle.turn_model.specs.Claims.{kept_by}
use Rattle.turn_model.specs.Laws.{IsPagedBoard, machine_in}
use Rattle.turn_model.specs.Lists.{whole_leg}
use Rattle.turn_model.specs.Steps.{gain_of, poll_at, touch_of, with_want, yield_of}
use Rattle.turn_model.specs.Turn.{turn}
use Rattle.turn_model.specs.Ways.{entered}
use Rattle.turn_model.proofs.Entries.{after_entry}
use Rattle.turn_model.proofs.StepInvariants.{Preserves}
use Rattle.turn_model.proofs.Turns.{turn_keeps}
use Rattle.turn_laws.specs.Laws.{IsReachable}
use Rattle.turn_laws.specs.Supplies.{followed_by}
use Rattle.turn_laws.proofs.Legs.{reached_are_crew}
use Rattle.turn_laws.proofs.ReachedBoards.{can_make, faithful_board, reached_is, sound_of}
use Rattle.crew_parts.specs.Boards.{Plain, IsBoardOf, board_of, spent, the_board, terms_of, told_to}
use Rattle.crew_parts.specs.Laws.{IsTurnOf, TurnsTo}
use Rattle.crew_parts.specs.Orders.{IsExact, is_hold, is_rest}
use Rattle.crew_parts.specs.Parts.{IsPartAdvanced}
use Rattle.crew_parts.proofs.Exact.{turn_tells}
use Rattle.crew_parts.proofs.Turned.{part_fits, reached_with}

module _ (t : Terms) (image : Image) (many : ℕ) (supply : Supply) (pages : t.pages ≡ image.pages) (h : ℕ) (inside : h < many) where
  -- the hart has a place for its want and its order
  abbrev There : Board FlatState → Type 0
  There b = (h < length b.wants) × (h < length b.orders)

  abbrev Wants : Order → Board FlatState → Type 0
  Wants order b = (page other : ℕ) → order ≡ Hold page other → (mode : Mode) × (want the_board b.at h ≡ Some (page, mode)) × (wanted b h ≡ Some (page, mode))

  abbrev Ended : Order → Board FlatState → Type 0
  Ended order b = (h < length b.orders) × Wants order b

  resting : (b : Board FlatState) → There b → Ended Rest b
  resting b there = (there.1, λ page other e. absurd (let bad : ⊥ = cc in bad))

  entry : (e : Entry) (c d : Board FlatState) → IsPagedBoard many t.pages c.at.flat → entered (machine_in t) t h e c ≡ Some d → There c → There d
  entry e c d good is there =
      let x = after_entry (machine_in t) t many t.pages (IsPagedBoard many t.pages) (faithful_board t many t.pages) h e c d good is in (
        subst (λ (ws : List (Option (ℕ × Mode))). h < length ws) (sym x.wants) there.0,
        subst (λ (os : List (Option Order)). h < length os) (sym x.orders) there.1,
      )

  holding : (b : Board FlatState) (n : ℕ × Mode) (g : ℕ) → want the_board b.at h ≡ Some n → There b → Ended (Hold n.0 g) (with_want h (Some n) b)
  holding b (page, mode) g is there = (
    there.1,
    λ further other e.
        let same : page ≡ further = cc in (
          mode,
          is ∙ ap (λ k. Some (k, mode)) same,
          ap (λ (o : Option (Option (ℕ × Mode))). unwrap_or o None) (set_here b.wants h (Some (page, mode)) there.0) ∙ ap (λ k. Some (k, mode)) same,
        ),
  )

  wants_kept : Preserves (machine_in t) t many t.pages (IsPagedBoard many t.pages) (faithful_board t many t.pages) h inside There There Ended
  wants_kept = record {
    stays = resting;
    opens = λ b there none running. there;
    rests = resting;
    goes = λ b until there. (there.1, λ page other e. absurd (let bad : ⊥ = cc in bad));
    holds = λ b n g low is there. holding b n g is there;
    fills = λ b low there. resting b there;
    fills_for = λ b g n other is there. resting b there;
    fails = λ b low there. resting b there;
    favours = λ b there. there;
    polls =
        λ b d time left sound there room is made. entry (poll_at (machine_in t) t h b (max time ((board (unit_in t)).time b.at.flat)))
        (record b { supply = left }) d sound.ordered.tidy.good made there;
    yields = λ b d n sound there room made. entry (yield_of (machine_in t) t h n b) b d sound.ordered.tidy.good made there;
    gains = λ b d n sound there room made. entry (gain_of (machine_in t) t h n b) b d sound.ordered.tidy.good made there;
    touches = λ b d word store answer now left rest sound there room access said is made.
        let e = touch_of (machine_in t) t h b (recorded_input word store ((board (unit_in t)).time b.at.flat) now answer) in
        let x = entry e (record b { supply = rest }) d sound.ordered.tidy.good made there in
        (λ _. resting d x, λ _. x);
  }

  -- so it is at the end of a turn
  abbrev Holds : Board FlatState → Type 0
  Holds d = (order : Order) → last_order d h ≡ Some order → Wants order d

  turn_holds : (n : ℕ) (b d : Board FlatState) → IsReachable t image many supply b → n ≤ whole_leg (machine_in t) t h b
      → turn (machine_in t) t h n b ≡ Some d → There b → Holds d
  turn_holds n b d from most is there =
      let reached = reached_is t image many supply pages b from in
      turn_keeps (machine_in t) t many t.pages (IsPagedBoard many t.pages) (faithful_board t many t.pages) h inside There There Ended Holds wants_kept n b d
      (sound_of t image many supply pages b reached) (can_make t image many supply pages h n b inside reached most) is
      (λ c x. (
        subst (λ (ws : List (Option (ℕ × Mode))). h < length ws) (sym x.wants) (let z = length-set b.wants h None in let l = there.0 in omega (arith, z, l)),
        subst (λ (os : List (Option Order)). h < length os) (sym x.orders) there.1,
      ))
      (λ c order ended further e.
      let same = same_Some _ _ (sym (ap (λ (o : Option (Option Order)). unwrap_or o None) (set_here c.orders h (Some order) ended.0)) ∙ e) in
      subst (λ (o : Order). Wants o c) same ended.1)

-- what a turn of plain data tells its hart
pub told_exactly : (p q : Plain) (h n : ℕ) (r : Run) (given : Supply) (order : Order) → IsBoardOf p → h < p.harts → IsPartAdvanced p h n r
    → TurnsTo p q h n given → told_to q h ≡ Some order → IsExact (terms_of p) (board_of q spent) h order
told_exactly p q h n r given order holds inside part is told =
    let b = board_of p (followed_by given spent) in
    let of : IsTurnOf p h n r = record { whole = holds.whole; reached = holds.reached; counts = holds.counts; hart = inside; part = part } in
    let good = (reached_are_crew (terms_of p) p.image p.harts holds.reached.0 holds.whole refl (board_of p spent) holds.reached.1).0 in
    let wants : h < length p.wants = (let k = holds.wants in omega (arith, k, inside)) in
    let orders : h < length p.orders = (let k = holds.orders in omega (arith, k, inside)) in
    let x = turn_tells (terms_of p) p.harts h n b (board_of q spent) good wants orders is in
    let same : x.0 ≡ order = same_Some _ _ (sym x.1 ∙ told) in
    let with = reached_with p h n given (board_of q spent) holds.reached is refl in
    let wanting = turn_holds (terms_of p) p.image p.harts with.0 refl h inside n b (board_of q spent) with.1 (part_fits p h n r (followed_by given spent) of)
    is (wants, orders) order told in
    record {
      rests = ap is_rest (sym same) ∙ x.2.rests;
      holds = ap is_hold (sym same) ∙ x.2.holds;
      kept = λ page other e.
          let w = wanting page other e in
          let k = x.2.kept page other (same ∙ e) in
          let both : (page, w.0) ≡ (page, k.0) = same_Some _ _ (sym w.2 ∙ k.1) in
          let mode : k.0 ≡ w.0 = sym (ap (λ (n : ℕ × Mode). n.1) both) in
          record { mode = w.0; wants = w.1; stored = w.2; by = ap (λ m. kept_by (board_of q spent) h (page, m)) (sym mode) ∙ k.2 };
    }
