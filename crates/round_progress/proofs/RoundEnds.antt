-- Rounds end: where the clock has answers enough, there is a recording in rounds.
use Rattle.std.proofs.Common.{◌≡◌, ◌⊎◌, inl, inr, ℕ, zero, suc, ◌+◌, ◌*◌, ◌<◌, ◌≤◌, ◌==◌, ◌||◌, not, Bool, true, false, List, [], ◌∷◌, length, Some}
use Rattle.std.proofs.Common.{is_some, refl, sym, ap, ◌∙◌, subst, arith, if◌then◌else◌, true≢false}
use Rattle.std.specs.List.{list_all}
use Rattle.std.specs.Option.{option_and_then}
use Rattle.std.proofs.lemmas.Option.{same_Some}
use Rattle.std.proofs.lemmas.Bool.{ne_eqb}
use Rattle.std.proofs.lemmas.Bool.Decides.{leb_tells}
use Rattle.orders_law.specs.Orders.{below}
use Rattle.shared_types.proofs.Lists.{bound_to, not_chosen, unless}
use Rattle.turn_model.specs.Recordable.{Recordable}
use Rattle.turn_model.specs.Board.{Board, Supply, Terms, harts, is_at_limit, is_over}
use Rattle.turn_model.specs.Lists.{RecordingEnd, comes_to}
use Rattle.turn_model.specs.Rounds.{round, rounds, IsRecordedInRounds}
use Rattle.turn_model.specs.Faithful.{IsFaithful, AccessesSend}
use Rattle.turn_model.proofs.LeanJournals.{WantsStay}
use Rattle.round_progress.proofs.Demands.{IsAnswering, IsPlain}
use Rattle.round_progress.specs.Measure.{left_of, has_leg, rounds_left}
use Rattle.round_progress.proofs.OtherHarts.{NeedsStay}
use Rattle.round_progress.proofs.ListsAndSweeps.{HasB, round_there, last_there}
use Rattle.round_progress.proofs.FirstHart.{size_of}
use Rattle.round_progress.proofs.Rounds.{FineB}
use Rattle.round_progress.proofs.FurtherRounds.{rounds_more}
use Rattle.round_progress.proofs.Measure.{counts_round, round_falls}
use Rattle.turn_model.proofs.Rounds.{each_below}
use Rattle.orders_law.proofs.Below.{length_below}

second : (a b : Bool) → (a || b) ≡ false → b ≡ false
second true b e = absurd (true≢false e)
second false b e = e

module _ {S V : Type 0} (machine : Recordable S V) (terms : Terms) where
  left_bound : (b : Board S) (hs : List ℕ) → left_of machine terms b hs ≤ length hs * terms.limit
  left_bound b [] = omega arith
  left_bound b (h ∷ hs) = let rest = left_bound b hs in omega (arith, rest)

  -- no more is left than each hart's limit
  pub rounds_bound : (b : Board S) → rounds_left machine terms b ≤ 2 * (length b.streams * terms.limit) + 1
  rounds_bound b =
      let l = left_bound b (harts b) in
      let e = ap (λ n. n * terms.limit) (length_below (length b.streams)) in
      let u = unit_most (has_leg machine terms b) in omega (arith, l, e, u)
    where
      unit_most : (x : Bool) → (if x then 0 else 1) ≤ 1
      unit_most true = omega arith
      unit_most false = omega arith

module _ {S V : Type 0} (machine : Recordable S V) (terms : Terms) (many : ℕ) (Good : S → Type 0) (faithful : IsFaithful machine.flat many terms.pages Good)
    (first : S) (supply : Supply) (good : Good first) (unmoved : (h : ℕ) → machine.flat.count first h ≡ 0) (sends : AccessesSend machine)
    (plain : IsPlain machine many Good) (stay : WantsStay machine terms many Good faithful first)
    (needs_stay : NeedsStay machine terms many Good faithful first) (answers : IsAnswering machine many Good) where
  abbrev Fine : Board S → Type 0
  Fine b = FineB machine terms many Good faithful first supply good unmoved sends plain stay needs_stay b

  abbrev Has : ℕ → Board S → Type 0
  Has n b = HasB machine terms many terms.pages Good faithful answers n b

  -- a board that isn't over has harts
  pub has_harts : (b : Board S) → Fine b → is_over machine terms b ≡ false → zero < many
  has_harts b fine short = elim (leb_tells 1 many) [
    | inl (t, l) ↦ l
    | inr (f, l) ↦
        let none : length b.streams ≡ 0 =
        (let e = size_of machine terms many Good faithful first supply good unmoved sends plain stay needs_stay b fine in omega (arith, e, l)) in
        absurd (true≢false (subst (λ n. list_all (is_at_limit machine terms b) (below n) ≡ false) none
        (second (is_some b.closed) (list_all (is_at_limit machine terms b) (harts b)) short)))
  ]

  pub fine_rounds : (r more : ℕ) (b c : Board S) → Fine b → rounds machine terms r more b ≡ Some c → Fine c
  fine_rounds r zero b c fine is = subst Fine (same_Some _ _ is) fine
  fine_rounds r (suc more) b c fine is =
      let open_so = not_chosen (is_over machine terms b) (option_and_then (rounds machine terms (r + 1) more) (round machine terms r (not (r == 0)) b)) c is in
      let rest = unless (is_over machine terms b) (option_and_then (rounds machine terms (r + 1) more) (round machine terms r (not (r == 0)) b)) c is in
      let m = bound_to (rounds machine terms (r + 1) more) (round machine terms r (not (r == 0)) b) c rest in
      fine_rounds (r + 1) more m.0 c (counts_round machine terms many Good faithful first supply good unmoved sends plain stay needs_stay r
      (has_harts b fine open_so) (not (r == 0)) b m.0 fine m.1).0 m.2

  pub falls : (r : ℕ) (moved : Bool) (b c : Board S) → Fine b → is_over machine terms b ≡ false → (moved ≡ false → has_leg machine terms b ≡ false)
      → round machine terms r moved b ≡ Some c → is_over machine terms c ≡ false → rounds_left machine terms c < rounds_left machine terms b
  falls r moved b c fine short first_one is short' =
      round_falls machine terms many Good faithful first supply good unmoved sends plain stay needs_stay r
      (has_harts b fine short) moved b c fine short first_one is short'

  -- a further round, where the board isn't over
  one_round : (k r n : ℕ) (b : Board S) → rounds_left machine terms b ≤ k → Fine b → Has (6 * many * suc k + n) b
      → (not (r == 0) ≡ false → has_leg machine terms b ≡ false) → (over : Bool) → is_over machine terms b ≡ over
      → (is_over machine terms b ≡ true) ⊎ ((c : Board S) × (is_over machine terms b ≡ false) × (round machine terms r (not (r == 0)) b ≡ Some c) × Fine c
      × Has (6 * many * k + n) c × ((is_over machine terms c ≡ true) ⊎ (rounds_left machine terms c < rounds_left machine terms b)))
  one_round k r n b l fine has first_one true e = inl e
  one_round k r n b l fine has first_one false e =
      let more : Has (6 * many + (6 * many * k + n)) b = (has.0, (let z = has.1 in omega (arith, z)), has.2) in
      let c = round_there machine terms many terms.pages Good faithful answers r (not (r == 0)) (6 * many * k + n) b more in
      let fine_c =
      (counts_round machine terms many Good faithful first supply good unmoved sends plain stay needs_stay r (has_harts b fine e)
      (not (r == 0)) b c.0 fine c.1).0 in
      inr (c.0, e, c.1, fine_c, c.2, by c.0 c.1 (is_over machine terms c.0) refl)
    where
      by : (c : Board S) → round machine terms r (not (r == 0)) b ≡ Some c → (x : Bool) → is_over machine terms c ≡ x → (is_over machine terms c ≡ true)
          ⊎ (rounds_left machine terms c < rounds_left machine terms b)
      by c is true o = inl o
      by c is false o = inr (falls r (not (r == 0)) b c fine e first_one is o)

  -- rounds lead from a board to one that is over, no more than are left and one
  pub rounds_end : (k r n : ℕ) (b : Board S) → rounds_left machine terms b ≤ k → Fine b → Has (6 * many * suc k + n) b
      → (not (r == 0) ≡ false → has_leg machine terms b ≡ false)
      → (number : ℕ) × (over : Board S) × (number ≤ suc k) × (rounds machine terms r number b ≡ Some over) × (is_over machine terms over ≡ true) × Has n over
  rounds_end zero r n b l fine has first_one = elim (one_round zero r n b l fine has first_one (is_over machine terms b) refl) [
    | inl over ↦ (0, b, omega arith, refl, over, (has.0, (let z = has.1 in omega (arith, z)), has.2))
    | inr x ↦ elim x.5 [
      | inl over ↦ (
        1,
        x.0,
        omega arith,
        rounds_more machine terms r 0 b x.0 x.0 x.1 x.2 refl,
        over,
        (let h = x.4 in (h.0, (let z = h.1 in omega (arith, z)), h.2)),
      )
      | inr less ↦ absurd (omega (arith, less, l))
    ]
  ]
  rounds_end (suc k) r n b l fine has first_one = elim (one_round (suc k) r n b l fine has first_one (is_over machine terms b) refl) [
    | inl over ↦ (0, b, omega arith, refl, over, (has.0, (let z = has.1 in omega (arith, z)), has.2))
    | inr x ↦ elim x.5 [
      | inl over ↦ (
        1,
        x.0,
        omega arith,
        rounds_more machine terms r 0 b x.0 x.0 x.1 x.2 refl,
        over,
        (let h = x.4 in (h.0, (let z = h.1 in omega (arith, z)), h.2)),
      )
      | inr less ↦
          let rest =
          rounds_end k (r + 1) n x.0 (omega (arith, less, l)) x.3 x.4
          (λ e. absurd (true≢false (sym (ap not (ne_eqb (r + 1) 0 (λ z. absurd (omega (arith, z))))) ∙ e))) in
          (suc rest.0, rest.1, (let m = rest.2 in omega (arith, m)), rounds_more machine terms r rest.0 b x.0 rest.1 x.1 x.2 rest.3, rest.4, rest.5)
    ]
  ]

  -- and to a recording
  pub recorded_there : (k : ℕ) (b : Board S) → rounds_left machine terms b ≤ k → Fine b → Has (6 * many * suc k + 2 * many) b
      → has_leg machine terms b ≡ false → (r : RecordingEnd S) × (is : IsRecordedInRounds machine terms b r) × (is.number ≤ suc k)
  recorded_there k b l fine has none =
      let x = rounds_end k 0 (2 * many) b l fine has (λ _. none) in
      let size = length_below (length x.1.streams) in
      let alike = x.5.2 in
      let c =
      last_there machine terms many terms.pages Good faithful answers (harts x.1) 0 x.1 (each_below many (length x.1.streams) (omega (arith, alike)))
      (x.5.0, (let z = x.5.1 in omega (arith, z, size, alike)), alike) in
      (comes_to machine terms c.0, record { number = x.0; over = x.1; closed = c.0; are_made = x.3; is_over = x.4; last = c.1; recorded = refl }, x.2)
