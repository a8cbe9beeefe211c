-- A board and its harts' runs before any turn.
use Rattle.std.proofs.Common.{◌≡◌, ◌⊎◌, inl, inr, ℕ, zero, suc, ◌+◌, ◌/◌, ◌<◌, ◌≤◌, ◌++◌, List, [], ◌∷◌, map, length, replicate, Option, Some, None}
use Rattle.std.proofs.Common.{slice_get, slice_index, unwrap_or, refl, sym, ap, ap₂, ◌∙◌}
use Rattle.std.proofs.Common.{subst, arith, true≢false}
use Rattle.std.proofs.Math.Nat.{mul-div_cancel_left}
use Rattle.std.proofs.lemmas.List.{map-append, length-map, length-replicate}
use Rattle.std.proofs.lemmas.Option.{none-some, same_Some}
use Rattle.shared_types.proofs.Lists.{map_at}
use Rattle.orders_law.specs.Orders.{below}
use Rattle.elf_image.specs.Image.{Image, IsWhole}
use Rattle.flat_machine.specs.State.{FlatState, flat_at_start}
use Rattle.order_rules.specs.Holders.{nobody}
use Rattle.run_model.specs.Run.{Run, run_at_start}
use Rattle.run_model.specs.Agreement.{Agrees}
use Rattle.run_model.proofs.Laws.{start_agrees}
use Rattle.turn_model.specs.Board.{Board, Order, Terms, board_at_start}
use Rattle.crew_parts.specs.Boards.{Plain, World, plain_at_start, spent, state_of}
use Rattle.crew_parts.specs.Parts.{AreParts, until_by}
use Rattle.crew_parts.proofs.Laws.{boards_are_sound, first_boards}
use Rattle.crew_core.specs.declared.crew.Crew.{Crew}
use Rattle.crew_core.specs.Calls.{StandsAtStart, terms_at}
use Rattle.crew_core.specs.Kept.{IsSpare, IsSeenAs, plain_of}
use Rattle.crew_core.specs.Lanes.{Rows}
use Rattle.log_entry.specs.Waits.{WaitList}
use Rattle.log_entry.specs.declared.log.Entry.{Entry}
use Rattle.std.specs.Prelude.{All, false}
use Rattle.std.proofs.lemmas.List.Elements.{All-nil}
use Rattle.crew_core.proofs.Seated.{lanes_size}
use Rattle.crew_core.specs.Standing.{Stands, terms_of}
use Rattle.crew_core.proofs.BoardTurns.{counts_are}
use Rattle.orders_law.proofs.Below.{length_below}

at_last : (xs : List ℕ) (v i k : ℕ) → slice_get (xs ++ v ∷ []) i ≡ Some k → (slice_get xs i ≡ Some k) ⊎ ((i ≡ length xs) × (k ≡ v))
at_last [] v zero k is = inr (refl, sym (same_Some _ _ is))
at_last [] v (suc i) k is = absurd (none-some _ is)
at_last (x ∷ xs) v zero k is = inl is
at_last (x ∷ xs) v (suc i) k is = elim (at_last xs v i k is) [ inl at ↦ inl at | inr last ↦ inr (ap suc last.0, last.1) ]

-- each of the numbers below n stands at its place
below_is : (n h k : ℕ) → slice_get (below n) h ≡ Some k → (k ≡ h) × (h < n)
below_is zero h k is = absurd (none-some _ is)
below_is (suc n) h k is = elim (at_last (below n) n h k is) [
  | inl at ↦ let x = below_is n h k at in (x.0, (let l = x.1 in omega (arith, l)))
  | inr last ↦ let l = length_below n in let a = last.0 in let b = last.1 in (omega (arith, l, a, b), omega (arith, l, a))
]

-- the runs before any turn are the parts of the harts
pub first_parts : (image : Image) (harts limit log_limit : ℕ) (world : World) (runs : List Run) → IsWhole image
    → runs ≡ map (λ h. run_at_start h harts image) (below harts) → AreParts (plain_at_start image harts limit log_limit world) runs
first_parts image harts limit log_limit world runs whole are = record {
  number = ap (λ (xs : List Run). length xs) are ∙ length-map (below harts) _ ∙ length_below harts;
  each = λ h r at.
      let m = map_at (λ h. run_at_start h harts image) (below harts) h r (sym (ap (λ xs. slice_get xs h) are) ∙ at) in
      let place = below_is harts h m.0 m.1 in
      subst (λ (z : Run). Agrees z h (state_of p)) (ap (λ k. run_at_start k harts image) (sym place.0) ∙ m.2)
      (start_agrees h harts image (state_of p) whole place.1 (flat, table));
}
  where
    p : Plain
    p = plain_at_start image harts limit log_limit world

    flat : (state_of p).flat ≡ flat_at_start image harts
    flat = ap (λ (b : Board FlatState). b.at.flat) (first_boards image harts limit log_limit world spent).0

    units : length image.bytes / image.unit ≡ image.pages
    units = ap₂ (λ n u. n / u) whole.size whole.unit ∙ mul-div_cancel_left image.pages (omega arith)

    table : (state_of p).holders ≡ nobody (length image.bytes / image.unit) harts
    table = ap (λ (b : Board FlatState). b.at.holders) (first_boards image harts limit log_limit world spent).0
        ∙ ap₂ nobody (sym units) (length-replicate harts [])

-- nobody was told anything
pub told_nothing : (n h : ℕ) (o : Option Order) → o ≡ None → unwrap_or (slice_get (replicate n o) h) None ≡ None
told_nothing zero zero o none = refl
told_nothing zero (suc h) o none = refl
told_nothing (suc n) zero o none = none
told_nothing (suc n) (suc h) o none = told_nothing n h o none

-- a crew before any turn shows the plain data before any turn
pub start_shows : (c : Crew) (journal turns : List (ℕ × ℕ)) (image shown_image : Image) (harts limit log_limit : ℕ) (world first : World)
    → shown_image ≡ image → first ≡ world → terms_of c ≡ terms_at image limit log_limit → StandsAtStart image harts c → journal ≡ [] → turns ≡ []
    → plain_of c journal turns shown_image first world false false ≡ plain_at_start image harts limit log_limit world
start_shows c journal turns image shown_image harts limit log_limit world first image_is first_is terms stands same_journal same_turns =
    let b = board_at_start (terms_of c) harts (flat_at_start image harts) spent in
    let st = stands spent in
    let number : c.harts ≡ harts = sym st.harts ∙ sym (lanes_size c.seats) ∙ ap (λ (xs : List (List Entry)). length xs) st.streams
    ∙ length-replicate harts [] in
    let counts = counts_are c b st in
    ap₂ (λ i f. plain_of c journal turns i f world false false) image_is first_is
    ∙ ap₂ (λ j t. plain_of c j t image world world false false) same_journal same_turns
    ∙ ap₂ (λ n l. record (plain_of c [] [] image world world false false) { harts = n; limit = l }) number (ap (λ (t : Terms). t.limit) terms)
    ∙ ap₂ (λ g f. record (plain_of c [] [] image world world false false) { harts = harts; limit = limit; log_limit = g; favoured = f })
    (ap (λ (t : Terms). t.log_limit) terms) st.favoured
    ∙ ap₂ (λ x y. record (plain_of c [] [] image world world false false) {
      harts = harts;
      limit = limit;
      log_limit = log_limit;
      favoured = 0;
      streams = x;
      counts = y;
    }) st.streams counts
    ∙ ap₂ (λ x y. record (plain_of c [] [] image world world false false) {
      harts = harts;
      limit = limit;
      log_limit = log_limit;
      favoured = 0;
      streams = replicate harts [];
      counts = replicate harts 0;
      wants = x;
      orders = y;
    }) st.wants st.orders
    ∙ ap (λ x. record (plain_of c [] [] image world world false false) {
      harts = harts;
      limit = limit;
      log_limit = log_limit;
      favoured = 0;
      streams = replicate harts [];
      counts = replicate harts 0;
      wants = replicate harts None;
      orders = replicate harts None;
      closed = x;
    }) st.closed

pub first_keeps : (c : Crew) (spare : List WaitList) (journal turns : Rows ℕ) (image : Image) (harts limit log_limit : ℕ) (world : World) → IsWhole image
    → terms_of c ≡ terms_at image limit log_limit → StandsAtStart image harts c → limit ≤ 1000000000000 → 1 ≤ harts → harts ≤ 8 → All IsSpare spare
    → IsSeenAs c spare journal turns (plain_at_start image harts limit log_limit world)
first_keeps c spare journal turns image harts limit log_limit world whole terms stands most least few empty =
    let p = plain_at_start image harts limit log_limit world in
    let first = first_boards image harts limit log_limit world spent in
    let sound = boards_are_sound p whole first.1 in
    record {
      terms = terms;
      most = most;
      stands = subst (Stands c) (sym first.0)
          (subst (λ t. Stands c (board_at_start t harts (flat_at_start image harts) spent)) terms (stands spent));
      board = record {
        whole = whole;
        some = least;
        few = few;
        favours = least;
        streams = length-replicate harts [];
        wants = length-replicate harts None;
        orders = length-replicate harts None;
        counts = sym (ap (λ (b : Board FlatState). b.at.flat.counts) first.0);
        ahead = λ h l.
            let count = slice_index (replicate harts 0) h in
            subst (λ o. count ≤ until_by count o) (sym (told_nothing harts h None refl)) (omega arith);
        crew = sound.crew;
        numbered = sound.numbered;
        reached = first.1;
      };
      empty = empty;
      ready = λ yes. absurd (true≢false (sym yes));
    }

pub start_keeps : (c : Crew) (spare : List WaitList) (journal turns : Rows ℕ) (image shown_image : Image) (harts limit log_limit : ℕ) (world first : World)
    → IsWhole image → shown_image ≡ image → first ≡ world → terms_of c ≡ terms_at image limit log_limit → StandsAtStart image harts c
    → journal.rows ≡ [] → turns.rows ≡ [] → limit ≤ 1000000000000 → 1 ≤ harts → harts ≤ 8 → spare ≡ []
    → IsSeenAs c spare journal turns (plain_of c journal.rows turns.rows shown_image first world false false)
start_keeps c spare journal turns image shown_image harts limit log_limit world first whole image_is first_is terms stands same_journal same_turns most least
    few none =
    subst (IsSeenAs c spare journal turns)
    (sym (start_shows c journal.rows turns.rows image shown_image harts limit log_limit world first image_is first_is terms stands same_journal same_turns))
    (first_keeps c spare journal turns image harts limit log_limit world whole terms stands most least few (subst (All IsSpare) (sym none) (All-nil IsSpare)))
