-- The laws, of the board.
use Rattle.std.proofs.Common.{◌≡◌, ◌⊎◌, inl, inr, ℕ, zero, suc, ◌+◌, ◌-◌, ◌*◌, ◌<◌, ◌≤◌, ◌==◌, ◌||◌, not, true, false, List, [], length}
use Rattle.std.proofs.Common.{replicate, nat_lt, Option, Some, None, is_some, slice_get, unwrap_or, refl, sym, ap, ◌∙◌, subst, arith, true≢false}
use Rattle.std.specs.List.{list_all}
use Rattle.std.proofs.lemmas.Option.{same_Some}
use Rattle.std.proofs.lemmas.Bool.{ne_eqb, or_parts}
use Rattle.orders_law.specs.Orders.{below}
use Rattle.elf_image.specs.Image.{Image, IsWhole}
use Rattle.flat_machine.specs.State.{FlatState, flat_at_start}
use Rattle.replay_model.specs.Board.{board}
use Rattle.std.proofs.lemmas.List.{length-replicate}
use Rattle.shared_types.proofs.Lists.{is_nothing, none_there}
use Rattle.crew_recording.proofs.Steady.{no_place}
use Rattle.turn_model.specs.Board.{Board, Order, Supply, Terms, unit_in, board_at_start, harts, is_at_limit, is_over}
use Rattle.turn_model.specs.Lists.{RecordingEnd, leg_by, whole_leg}
use Rattle.turn_model.specs.Rounds.{round, rounds, IsRecordedInRounds}
use Rattle.turn_model.specs.Laws.{IsPagedBoard, machine_in}
use Rattle.turn_model.proofs.BoardFacts.{board_faithful, board_sends, start_is_board, start_with}
use Rattle.lean_journals.proofs.BoardWants.{board_wants_stay}
use Rattle.turn_model.proofs.Boards.{reached_begin, closing_begin}
use Rattle.round_progress.proofs.Demands.{IsFitting}
use Rattle.round_progress.specs.Measure.{has_leg, rounds_left}
use Rattle.round_progress.specs.Laws.{TurnsAreThere, ListsAreRecorded, RoundsGoOn, RoundsFall, RoundsAreRecorded, ComesFirst}
use Rattle.round_progress.proofs.TurnsThere.{turn_there}
use Rattle.round_progress.proofs.BoardAnswers.{board_answers}
use Rattle.round_progress.proofs.BoardDemands.{fitting_faithful, fitting_answers, board_plain, start_fits}
use Rattle.round_progress.proofs.BoardNeeds.{board_needs_stay}
use Rattle.round_progress.proofs.ListsAndSweeps as lists
use Rattle.round_progress.proofs.FirstHart.{Fine}
use Rattle.round_progress.proofs.Rounds.{round_finds}
use Rattle.round_progress.proofs.Measure.{going_leg, picks}
use Rattle.round_progress.proofs.RoundEnds.{has_harts, fine_rounds, falls, recorded_there, rounds_bound}

abbrev nones : ℕ → List (Option Order)
nones n = replicate n None

nothing_told : (n g : ℕ) → unwrap_or (slice_get (nones n) g) None ≡ None
nothing_told zero g = refl
nothing_told (suc n) zero = refl
nothing_told (suc n) (suc g) = nothing_told n g

pub turns_are_there : TurnsAreThere
turns_are_there terms harts pages h n b on size inside leg l =
    let m = length b.supply.times - 2 in
    let e =
    turn_there (machine_in terms) terms harts pages (IsPagedBoard harts pages) (board_faithful (unit_in terms) harts pages pages (inr (inr refl)) refl)
    (board_answers (unit_in terms) harts pages) h inside n m b (on, omega (arith, l), size) leg in
    (e.0, e.1, e.2.0, e.2.2, (let k = e.2.1 in omega (arith, k, l)))

pub lists_are_recorded : ListsAreRecorded
lists_are_recorded terms image harts supply list of l =
    lists.recorded_there (machine_in terms) terms harts image.pages (IsPagedBoard harts image.pages)
    (board_faithful (unit_in terms) harts image.pages image.pages (inr (inr refl)) refl) (board_answers (unit_in terms) harts image.pages) list
    (board_at_start terms harts (flat_at_start image harts) supply) of
    (start_is_board image harts, l, length-replicate harts [])

module _ (terms : Terms) (image : Image) (harts : ℕ) (supply : Supply) (whole : IsWhole image) (pages : terms.pages ≡ image.pages) where
  starts : IsPagedBoard harts terms.pages (flat_at_start image harts)
  starts = start_with terms image harts pages

  fits : IsFitting harts terms.pages (flat_at_start image harts)
  fits = start_fits image harts terms.pages starts

  abbrev FineB : Board FlatState → Type 0
  FineB b =
      Fine (machine_in terms) terms harts (IsFitting harts terms.pages) (fitting_faithful (unit_in terms) harts terms.pages terms.pages (inr (inr refl)) refl)
      (flat_at_start image harts) supply (start_fits image harts terms.pages (start_with terms image harts pages)) (no_place harts)
      (board_sends (unit_in terms))
      (board_plain (unit_in terms) harts terms.pages)
      (board_wants_stay terms image harts (board_faithful (unit_in terms) harts terms.pages terms.pages (inr (inr refl)) refl) pages
      (start_with terms image harts pages) whole)
      (board_needs_stay terms image harts (board_faithful (unit_in terms) harts terms.pages terms.pages (inr (inr refl)) refl) pages
      (start_with terms image harts pages) whole) b

  fine_begin : FineB (board_at_start terms harts (flat_at_start image harts) supply)
  fine_begin = record {
    reached =
        reached_begin (machine_in terms) terms harts (IsFitting harts terms.pages)
        (fitting_faithful (unit_in terms) harts terms.pages terms.pages (inr (inr refl)) refl) (flat_at_start image harts) supply
        (start_fits image harts terms.pages (start_with terms image harts pages)) (no_place harts) refl refl;
    closing =
        closing_begin (machine_in terms) terms harts (IsFitting harts terms.pages)
        (fitting_faithful (unit_in terms) harts terms.pages terms.pages (inr (inr refl)) refl) (flat_at_start image harts) supply
        (start_fits image harts terms.pages (start_with terms image harts pages)) (no_place harts) refl;
    wants_size = length-replicate harts None;
  }

  no_leg_at_start : has_leg (machine_in terms) terms (board_at_start terms harts (flat_at_start image harts) supply) ≡ false
  no_leg_at_start =
      let b = board_at_start terms harts (flat_at_start image harts) supply in
      none_there (λ h. nat_lt 0 (whole_leg (machine_in terms) terms h b)) (below (length b.streams))
      (λ i h at. ap (λ o. nat_lt 0 (leg_by (machine_in terms) terms h b o)) (nothing_told harts h))

  fine_at : (n : ℕ) (b : Board FlatState) → rounds (machine_in terms) terms 0 n (board_at_start terms harts (flat_at_start image harts) supply) ≡ Some b
      → FineB b
  fine_at n b is =
      fine_rounds (machine_in terms) terms harts (IsFitting harts terms.pages)
      (fitting_faithful (unit_in terms) harts terms.pages terms.pages (inr (inr refl)) refl) (flat_at_start image harts) supply _ (no_place harts)
      (board_sends (unit_in terms)) (board_plain (unit_in terms) harts terms.pages) _ _ (fitting_answers (unit_in terms) harts terms.pages) 0 n
      (board_at_start terms harts (flat_at_start image harts) supply) b fine_begin is

  first_one : (n : ℕ) (b : Board FlatState) → rounds (machine_in terms) terms 0 n (board_at_start terms harts (flat_at_start image harts) supply) ≡ Some b
      → not (n == 0) ≡ false → has_leg (machine_in terms) terms b ≡ false
  first_one zero b is e = subst (λ (z : Board FlatState). has_leg (machine_in terms) terms z ≡ false) (same_Some _ _ is) no_leg_at_start
  first_one (suc n) b is e = absurd (true≢false (sym (ap not (ne_eqb (suc n) 0 (λ z. absurd (omega (arith, z))))) ∙ e))

  falls_at : (n : ℕ) (b c : Board FlatState) → rounds (machine_in terms) terms 0 n (board_at_start terms harts (flat_at_start image harts) supply) ≡ Some b
      → is_over (machine_in terms) terms b ≡ false → round (machine_in terms) terms n (not (n == 0)) b ≡ Some c → is_over (machine_in terms) terms c ≡ false
      → rounds_left (machine_in terms) terms c < rounds_left (machine_in terms) terms b
  falls_at n b c is short one short' =
      falls (machine_in terms) terms harts (IsFitting harts terms.pages)
      (fitting_faithful (unit_in terms) harts terms.pages terms.pages (inr (inr refl)) refl) (flat_at_start image harts) supply _ (no_place harts)
      (board_sends (unit_in terms)) (board_plain (unit_in terms) harts terms.pages) _ _ (fitting_answers (unit_in terms) harts terms.pages) n
      (not (n == 0)) b c (fine_at n b is) short (first_one n b is) one short'

  goes_on_at : (n : ℕ) (b c : Board FlatState) → rounds (machine_in terms) terms 0 n (board_at_start terms harts (flat_at_start image harts) supply) ≡ Some b
      → is_over (machine_in terms) terms b ≡ false → round (machine_in terms) terms n (not (n == 0)) b ≡ Some c
      → (is_over (machine_in terms) terms c ≡ true)
      ⊎ (((g : ℕ) × (g < harts) × ((board (unit_in terms)).count b.at.flat g < (board (unit_in terms)).count c.at.flat g))
      ⊎ ((p : ℕ) × ComesFirst terms harts n b p × (0 < whole_leg (machine_in terms) terms p c)))
  goes_on_at n b c is short one =
      let fine = fine_at n b is in
      let pos =
      has_harts (machine_in terms) terms harts (IsFitting harts terms.pages)
      (fitting_faithful (unit_in terms) harts terms.pages terms.pages (inr (inr refl)) refl) (flat_at_start image harts) supply _ (no_place harts)
      (board_sends (unit_in terms)) (board_plain (unit_in terms) harts terms.pages) _ _ (fitting_answers (unit_in terms) harts terms.pages) b fine short in
      let p =
      picks (machine_in terms) terms harts (IsFitting harts terms.pages)
      (fitting_faithful (unit_in terms) harts terms.pages terms.pages (inr (inr refl)) refl) (flat_at_start image harts) supply _ (no_place harts)
      (board_sends (unit_in terms)) (board_plain (unit_in terms) harts terms.pages) _ _ n pos b fine short in
      let f =
      round_finds (machine_in terms) terms harts (IsFitting harts terms.pages)
      (fitting_faithful (unit_in terms) harts terms.pages terms.pages (inr (inr refl)) refl) (flat_at_start image harts) supply _ (no_place harts)
      (board_sends (unit_in terms)) (board_plain (unit_in terms) harts terms.pages) _ _ n pos p.0 p.1 (not (n == 0)) b c fine
      (is_nothing b.closed (or_parts (is_some b.closed) (list_all (is_at_limit (machine_in terms) terms b) (below (length b.streams))) short).0) p.2 one in
      elim f.1 [
        | inl won ↦ elim won [
          | inl closed ↦ inl (ap (λ x. x || list_all (is_at_limit (machine_in terms) terms c) (below (length c.streams))) closed)
          | inr more ↦ inr (inl more)
        ]
        | inr (until, told, less, none, off, low, polled) ↦ inr
            (inr (
              p.0,
              record { inside = p.1; below = p.2.0; first = p.2.1 },
              going_leg (machine_in terms) terms harts (IsFitting harts terms.pages)
                  (fitting_faithful (unit_in terms) harts terms.pages terms.pages (inr (inr refl)) refl) (flat_at_start image harts) supply _ (no_place harts)
                  (board_sends (unit_in terms)) (board_plain (unit_in terms) harts terms.pages) _ _ p.0 c p.1 f.0 (until, told, less, none, off),
            ))
      ]

  -- rounds from the start lead to a recording
  recorded_at : (n : ℕ) → 6 * harts * suc (2 * (harts * terms.limit) + 1) + 2 * harts ≤ n → n ≤ length supply.times → (r : RecordingEnd FlatState)
      × (is : IsRecordedInRounds (machine_in terms) terms (board_at_start terms harts (flat_at_start image harts) supply) r)
      × (is.number ≤ suc (2 * (harts * terms.limit) + 1))
  recorded_at n l m =
      let good = start_fits image harts terms.pages (start_with terms image harts pages) in
      let stay =
      board_wants_stay terms image harts (board_faithful (unit_in terms) harts terms.pages terms.pages (inr (inr refl)) refl) pages
      (start_with terms image harts pages) whole in
      let needs =
      board_needs_stay terms image harts (board_faithful (unit_in terms) harts terms.pages terms.pages (inr (inr refl)) refl) pages
      (start_with terms image harts pages) whole in
      recorded_there (machine_in terms) terms harts (IsFitting harts terms.pages)
      (fitting_faithful (unit_in terms) harts terms.pages terms.pages (inr (inr refl)) refl) (flat_at_start image harts) supply good (no_place harts)
      (board_sends (unit_in terms)) (board_plain (unit_in terms) harts terms.pages) stay needs (fitting_answers (unit_in terms) harts terms.pages)
      (2 * (harts * terms.limit) + 1)
      (board_at_start terms harts (flat_at_start image harts) supply)
      (subst (λ n. rounds_left (machine_in terms) terms (board_at_start terms harts (flat_at_start image harts) supply) ≤ 2 * (n * terms.limit) + 1)
      (length-replicate harts []) (rounds_bound (machine_in terms) terms (board_at_start terms harts (flat_at_start image harts) supply)))
      fine_begin (fits, omega (arith, l, m), length-replicate harts []) no_leg_at_start

pub rounds_go_on : RoundsGoOn
rounds_go_on terms image harts supply n b c whole pages is one = goes_on_at terms image harts supply whole pages n b c is one.0 one.1

pub rounds_fall : RoundsFall
rounds_fall terms image harts supply n b c whole pages is one short' = falls_at terms image harts supply whole pages n b c is one.0 one.1 short'

at_most : (m k n : ℕ) → m ≤ suc k → suc k ≤ n → m ≤ n
at_most m k n a b = omega (arith, a, b)

enough : (harts limit n : ℕ) → 6 * harts * (2 * (harts * limit) + 2) + 2 * harts ≤ n → 6 * harts * suc (2 * (harts * limit) + 1) + 2 * harts ≤ n
enough harts limit n l =
    let e : suc (2 * (harts * limit) + 1) ≡ 2 * (harts * limit) + 2 = omega arith in
    subst (λ k. 6 * harts * k + 2 * harts ≤ n) (sym e) l

number_bound : (a : ℕ) → suc (2 * a + 1) ≤ 2 * a + 2
number_bound a = omega arith

pub rounds_are_recorded : RoundsAreRecorded
rounds_are_recorded terms image many supply whole pages l =
    let x = recorded_at terms image many supply whole pages (length supply.times) (enough many terms.limit (length supply.times) l) (omega arith) in
    (x.0, x.1, at_most x.1.number (2 * (many * terms.limit) + 1) (2 * (many * terms.limit) + 2) x.2 (number_bound (many * terms.limit)))
