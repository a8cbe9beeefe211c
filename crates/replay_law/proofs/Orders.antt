-- All full orders of a replay agree.
use Rattle.std.proofs.Common.{◌≡◌, ℕ, suc, ◌≤◌, ◌==◌, Bool, true, false, cond, List, [], ◌∷◌, map, filter, filter_map, replicate, length, Option}
use Rattle.std.proofs.Common.{Some, None, slice_get, slice_index, unwrap_or, refl, sym, ap, ◌∙◌, subst, arith, zero-add, inl, inr, if◌then◌else◌}
use Rattle.std.specs.List.{cons_option, range_with_len}
use Rattle.std.specs.Option.{option_map, option_and_then}
use Rattle.std.proofs.lemmas.Bool.{cases_lt}
use Rattle.std.proofs.lemmas.List.{length-replicate, get_or-replicate}
use Rattle.std.proofs.lemmas.List.FromFn.{length-map-range_with_len, get_or-map-range_with_len}
use Rattle.std.proofs.lemmas.Option.{none-some, slice_get_past, slice_get-get_or, unwrap_or-slice_get}
use Rattle.rv_hart.specs.State.{Hart}
use Rattle.rv_hart.specs.Moves.{hart_at_start}
use Rattle.rv_hart.specs.Needs.{page_at}
use Rattle.log_entry.specs.declared.log.Log.{Log}
use Rattle.log_entry.specs.Parts.{unit_of, units_of}
use Rattle.elf_image.specs.Image.{Image}
use Rattle.flat_machine.specs.State.{FlatState, FitsTogether}
use Rattle.flat_machine.specs.declared.results.Step.{Step}
use Rattle.flat_machine.proofs.FirstState.{start_fits}
use Rattle.orders_law.specs.Orders.{is_of, Leads, Lasts, Commutes}
use Rattle.orders_law.proofs.Shares.{own_apart, shares_agree}
use Rattle.orders_law.proofs.Confluence.{orders_agree}
use Rattle.order_rules.specs.Cursor.{first_left}
use Rattle.order_rules.specs.Rules as rules
use Rattle.replay_model.specs.Board.{board}
use Rattle.order_rules.specs.Holders.{held, nobody}
use Rattle.replay_model.specs.State.{Replay}
use Rattle.replay_model.specs.Items.{Move, Verdict, HasEnded, Holds, CanGo, HasDiverged, item_at, told_of, step, goes, made, verdict_on, next_item}
use Rattle.order_rules.proofs.Follow.{follow_is_crew}
use Rattle.run_model.proofs.Laws.{nobody_holds, nobody_has_rows}
use Rattle.replay_law.specs.Laws.{IsReplayable, first_flat, first_replay, ItemsCommute, EqualSharesAgree, AllOrdersAgree, LeastEndsThere, OrdersTellOutcome}
use Rattle.replay_law.proofs.Views.{Fits, shape_of}
use Rattle.replay_law.proofs.Boards.{board_local}
use Rattle.replay_law.proofs.GoodStates.{IsGood, steps_last, steps_meet}
use Rattle.orders_law.proofs.Bounds.{least_there}

pub no_number : (k page : ℕ) → slice_index (replicate k 0) page ≡ 0
no_number k page = elim (cases_lt page k) [
  | inl l ↦ get_or-replicate k page 0 0 l
  | inr m ↦ sym (unwrap_or-slice_get (replicate k 0) page 0)
      ∙ ap (λ o. unwrap_or o 0) (slice_get_past (replicate k 0) page (omega (arith, m, length-replicate {A = ℕ} k 0)))
]

-- no hart has a reservation at the start
no_reservation : (harts pages entry h : ℕ) → option_and_then (λ (x : Hart). x.reserved)
    (slice_get (map (λ id. hart_at_start id harts pages entry) (range_with_len 0 harts)) h) ≡ None
no_reservation harts pages entry h =
    let f : ℕ → Hart = λ id. hart_at_start id harts pages entry in
    elim (cases_lt h harts) [
      | inl l ↦
          let long = length-map-range_with_len f 0 harts in
          ap (option_and_then (λ (x : Hart). x.reserved)) (slice_get-get_or (map f (range_with_len 0 harts)) h (f h) (omega (arith, l, long))
          ∙ ap Some (get_or-map-range_with_len f 0 harts h h (f h) l (zero-add h)))
      | inr m ↦ ap (option_and_then (λ (x : Hart). x.reserved))
          (slice_get_past (map f (range_with_len 0 harts)) h (omega (arith, m, length-map-range_with_len f 0 harts)))
    ]

module _ (log : Log) (image : Image) (is : IsReplayable log image) where
  abbrev pub many : ℕ
  many = length log.streams

  abbrev pub Good : Replay FlatState → Type 0
  Good s = IsGood (board (unit_of log)) (Fits (length log.streams) log.pages) (length log.streams) (units_of log)
      (board_local (shape_of log)) log refl is.orderly.pages_are_numbered is.orderly.holders_are_crew s

  -- the first state is good
  pub good_first : Good (first_replay log image)
  good_first =
      let n = length log.streams in
      let follow : (page h : ℕ) → held (nobody (units_of log) (length log.streams)) page h
      ≡ rules.held log page h (slice_index (replicate (units_of log) 0) page) =
      λ page h. nobody_holds (units_of log) (length log.streams) page h ∙ sym (ap (rules.held log page h) (no_number (units_of log) page)) in
      record {
        sound = record {
          sized = subst (λ p. FitsTogether (first_flat log image).harts (replicate n 0) image.bytes p n) (sym is.pages)
              (start_fits image n image.pages image.entry n (first_flat log image).harts (replicate n 0) image.bytes is.whole refl refl refl refl refl);
          table = length-replicate (units_of log) (replicate n None);
          rows = λ page l. ap length (nobody_has_rows (units_of log) n page l) ∙ length-replicate n None;
          crew = record {
            holders = follow_is_crew log (nobody (units_of log) n) (replicate (units_of log) 0) is.orderly.holders_are_crew follow;
            reservations = λ h page e. absurd (none-some _ (sym (ap (option_map (page_at (unit_of log))) (no_reservation n image.pages image.entry h)) ∙ e));
          };
        };
        follow = follow;
        numbers = length-replicate (units_of log) 0;
      }

  pub lasts : Lasts (step (board (unit_of log)) log) Good
  lasts = steps_last (board (unit_of log)) (Fits (length log.streams) log.pages) (length log.streams) (units_of log)
      (board_local (shape_of log)) log refl is.orderly.pages_are_numbered is.orderly.holders_are_crew

  pub commutes : Commutes (step (board (unit_of log)) log) Good
  commutes = steps_meet (board (unit_of log)) (Fits (length log.streams) log.pages) (length log.streams) (units_of log)
      (board_local (shape_of log)) log refl is.orderly.pages_are_numbered is.orderly.holders_are_crew is.orderly.ordinals_and_times_rise

  -- further harts can't step
  pub no_more : (h : ℕ) (s : Replay FlatState) → Good s → length log.streams ≤ h → step (board (unit_of log)) log h s ≡ None
  no_more h s good l =
      let left : first_left log s.cursor h ≡ None = ap (λ o. slice_get (unwrap_or o []) (slice_index s.cursor.places h)) (slice_get_past log.streams h l) in
      let next : next_item (board (unit_of log)) log s h ≡ Move = ap (item_at ((board (unit_of log)).count s.flat h)) left in
      let none : made (board (unit_of log)) s h Move ≡ None =
      ap (option_map (λ f. record s { flat = f })) ((board_local (shape_of log)).nobody s.flat h good.sound.sized l) in
      ap (λ i. goes (board (unit_of log)) s h i (verdict_on (board (unit_of log)) s h i)) next ∙ cannot (verdict_on (board (unit_of log)) s h Move) none
    where
      cannot : (v : Verdict) → made (board (unit_of log)) s h Move ≡ None → goes (board (unit_of log)) s h Move v ≡ None
      cannot CanGo none = ap (option_map (λ t. (t, told_of (board (unit_of log)) s h Move t))) none
      cannot HasEnded none = refl
      cannot Holds none = refl
      cannot (HasDiverged rule) none = refl

-- what a test lets go counts for nothing
kept : {X Y : Type 0} (f : X → Option Y) (test : X → Bool) → ((x : X) → test x ≡ false → f x ≡ None) → (xs : List X)
    → filter_map f xs ≡ filter_map f (filter test xs)
kept f test none [] = refl
kept f test none (x ∷ xs) = by (test x) refl (kept f test none xs) where
  by : (b : Bool) → test x ≡ b → filter_map f xs ≡ filter_map f (filter test xs) → cons_option (f x) (filter_map f xs) ≡ filter_map f (filter test (x ∷ xs))
  by true e rest = ap (cons_option (f x)) rest ∙ sym (ap (λ b. filter_map f (cond b (x ∷ filter test xs) (filter test xs))) e)
  by false e rest = ap (λ o. cons_option o (filter_map f xs)) (none x e) ∙ rest
      ∙ sym (ap (λ b. filter_map f (cond b (x ∷ filter test xs) (filter test xs))) e)

-- a story is that of the hart's own steps
stories_agree : {V : Type 0} (h : ℕ) (made other : List (ℕ × Option V))
    → filter (λ (m : ℕ × Option V). m.0 == h) made ≡ filter (λ (m : ℕ × Option V). m.0 == h) other
    → filter_map (λ (m : ℕ × Option V). if m.0 == h then m.1 else None) made ≡ filter_map (λ (m : ℕ × Option V). if m.0 == h then m.1 else None) other
stories_agree {V} h made other same =
    let none : (m : ℕ × Option V) → (m.0 == h) ≡ false → (if m.0 == h then m.1 else None) ≡ None = λ m e. ap (λ b. if b then m.1 else None) e in
    kept (λ (m : ℕ × Option V). if m.0 == h then m.1 else None) (λ (m : ℕ × Option V). m.0 == h) none made
    ∙ ap (filter_map (λ (m : ℕ × Option V). if m.0 == h then m.1 else None)) same
    ∙ sym (kept (λ (m : ℕ × Option V). if m.0 == h then m.1 else None) (λ (m : ℕ × Option V). m.0 == h) none other)

-- where an order leads the state is good
pub good_along : (log : Log) (image : Image) (is : IsReplayable log image) (s t : Replay FlatState) (made : List (ℕ × Option (List Step))) → Good log image is s
    → Leads (step (board (unit_of log)) log) s made t → Good log image is t
good_along log image is s t [] good leads = subst (Good log image is) leads good
good_along log image is s t (x ∷ made) good leads = good_along log image is leads.0 t made (lasts log image is s leads.0 x.1 x.0 good leads.1) leads.2

pub items_commute : ItemsCommute
items_commute log image order s a b e f g h is obeys n did_g did_h =
    commutes log image is s a b e f g h (good_along log image is (first_replay log image) s obeys.0 (good_first log image is) obeys.2) n did_g did_h

-- a hart's share of an order
share_is : {V : Type 0} (h : ℕ) (made : List (ℕ × V)) → length (filter (λ g. g == h) (map (λ m. m.0) made)) ≡ length (filter (is_of h) made)
share_is h [] = refl
share_is h (m ∷ made) = by (m.0 == h) (share_is h made) where
  by : (b : Bool) → length (filter (λ g. g == h) (map (λ z. z.0) made)) ≡ length (filter (is_of h) made)
      → length (cond b (m.0 ∷ filter (λ g. g == h) (map (λ z. z.0) made)) (filter (λ g. g == h) (map (λ z. z.0) made)))
      ≡ length (cond b (m ∷ filter (is_of h) made) (filter (is_of h) made))
  by true same = ap suc same
  by false same = same

pub equal_shares_agree : EqualSharesAgree
equal_shares_agree log image order other s t is one two equal =
    let share : (h : ℕ) → length (filter (is_of h) one.0) ≡ length (filter (is_of h) two.0) =
    λ h. sym (share_is h one.0) ∙ ap (λ o. length (filter (λ g. g == h) o)) one.1 ∙ equal h ∙ sym (ap (λ o. length (filter (λ g. g == h) o)) two.1)
    ∙ share_is h two.0 in
    let agree = shares_agree (step (board (unit_of log)) log) (Good log image is) (lasts log image is) (commutes log image is)
    (first_replay log image) s t one.0 two.0 (good_first log image is) one.2 two.2 share in (
      agree.0,
      λ h. stories_agree h one.0 two.0 (agree.1 (is_of h)
          (own_apart (step (board (unit_of log)) log) (Good log image is) (lasts log image is) (commutes log image is) h)),
    )

pub all_orders_agree : AllOrdersAgree
all_orders_agree log image order other s t is one two =
    let agree = orders_agree (step (board (unit_of log)) log) (Good log image is) (lasts log image is) (commutes log image is)
    (first_replay log image) s t one.0 two.0 (good_first log image is) one.2 two.2 in (
      agree.0,
      λ h. stories_agree h one.0 two.0 (agree.1 (is_of h) (own_apart (step (board (unit_of log)) log) (Good log image is) (lasts log image is)
          (commutes log image is) h)),
    )

pub least_ends_there : LeastEndsThere
least_ends_there log image order s is one =
    least_there (step (board (unit_of log)) log) (Good log image is) (length log.streams) (lasts log image is) (commutes log image is) (no_more log image is)
    (first_replay log image) s one.0 (good_first log image is) one.2

pub orders_tell_outcome : OrdersTellOutcome
orders_tell_outcome log image order s outcome is one comes = let l = least_ends_there log image order s is one in (l.0, (s, l.1, comes))
