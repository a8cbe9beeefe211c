-- The moves that an order tells of a hart, item by item.
use Rattle.std.proofs.Common.{◌≡◌, ◌≢◌, ◌⊎◌, inl, inr, ℕ, ◌+◌, ◌<◌, ◌≤◌, ◌++◌, ◌==◌, nat_le, nat_lt, find, cond, not, Bool, true, false, List, [], ◌∷◌}
use Rattle.std.proofs.Common.{flat_map, take, drop, length, Option, Some, None, slice_get, slice_index, refl, sym, ap, ap₂, ◌∙◌, subst, arith, if◌then◌else◌}
use Rattle.std.proofs.Common.{true≢false, is_some}
use Rattle.std.specs.List.{cons_option}
use Rattle.std.specs.Option.{option_map_or}
use Rattle.std.proofs.lemmas.Bool.{cases_eq, eq-eqb, ne_eqb}
use Rattle.std.proofs.lemmas.Option.{none-some, slice_get-get_or}
use Rattle.std.proofs.lemmas.Grind.{flat_map-append}
use Rattle.std.proofs.lemmas.List.{drop-append-le, drop_all, length-append, take-append-le, take_all, length-take}
use Rattle.std.proofs.lemmas.List.Elements.{filter_map-append}
use Rattle.elf_image.specs.Image.{Image}
use Rattle.rv_words.specs.declared.shared.Mode.{Mode}
use Rattle.rv_words.specs.declared.shared.Mode.TheVariants.{Read, Write}
use Rattle.rv_hart.specs.State.{Hart}
use Rattle.rv_hart.specs.Effects.{fetch_of}
use Rattle.rv_hart.specs.Moves.{hart_at_start}
use Rattle.rv_hart.specs.Needs.{page_at, pages_needed}
use Rattle.rv_hart.specs.declared.effect.Fetch.{Fetch}
use Rattle.rv_hart.specs.declared.effect.Fetch.TheVariants as fetch
use Rattle.log_entry.specs.declared.log.Entry.TheVariants as entries
use Rattle.log_entry.specs.declared.log.Log.{Log}
use Rattle.log_entry.specs.Parts.{strength, unit_of}
use Rattle.orders_law.specs.Orders.{Leads}
use Rattle.order_rules.specs.Cursor.{guard_is_met}
use Rattle.order_rules.specs.Holders.{held}
use Rattle.flat_machine.specs.State.{FlatState}
use Rattle.flat_machine.specs.Moves.{fetched, fetched_by}
use Rattle.flat_machine.specs.Runs.{step_between, step_of}
use Rattle.flat_machine.specs.declared.results.Step.{Step}
use Rattle.replay_model.specs.Board.{board}
use Rattle.replay_model.specs.State.{Replay, want}
use Rattle.replay_model.specs.Items.{Item, Ended, Move, Makes, CanGo, step, story, tests, told_of, verdict_on}
use Rattle.run_model.specs.Agreement.{holds_fetch, word_seen}
use Rattle.run_model.proofs.Sight.{fetch_pc}
use Rattle.shared_types.proofs.Lists.{is_nothing}
use Rattle.replay_law.specs.Laws.{IsReplayable}
use Rattle.replay_law.proofs.Progress.{Going, Goes, goes, going_lasts}
use Rattle.replay_law.proofs.Steps.{IsMade, step_went}
use Rattle.replay_law.proofs.Verdicts.{judge, met, passed}
use Rattle.replay_core.specs.Stories.{moves_between, moves_of}

-- the moves that stand with an item
abbrev pub told_in : Option (List Step) → List Step
told_in w = flat_map (λ (told : List Step). told) (cons_option w [])

pub moves_append : (log : Log) (h : ℕ) (xs ys : List (ℕ × Option (List Step))) → moves_of log h (xs ++ ys) ≡ moves_of log h xs ++ moves_of log h ys
moves_append log h xs ys =
    ap (flat_map (λ (told : List Step). told)) (filter_map-append (λ (m : ℕ × Option (List Step)). if m.0 == h then m.1 else None) xs ys)
    ∙ flat_map-append (λ (told : List Step). told) (story (board (unit_of log)) log h xs) (story (board (unit_of log)) log h ys)

pub own_moves : (log : Log) (h g : ℕ) (w : Option (List Step)) → g ≡ h → moves_of log h ((g, w) ∷ []) ≡ told_in w
own_moves log h g w same = ap (λ (b : Bool). told_in (if b then w else None)) (eq-eqb g h same)

pub other_moves : (log : Log) (h g : ℕ) (w : Option (List Step)) → g ≢ h → moves_of log h ((g, w) ∷ []) ≡ []
other_moves log h g w n = ap (λ (b : Bool). told_in (if b then w else None)) (ne_eqb g h n)

-- those between two counts, once more were made: behind them, before them, or the next of them
pub past_them : (from to : ℕ) (xs ys : List Step) → to ≤ length xs → moves_between from to (xs ++ ys) ≡ moves_between from to xs
past_them from to xs ys l = ap (drop from) (take-append-le to xs ys l)

pub none_yet : (from to : ℕ) (xs : List Step) → length xs ≤ from → moves_between from to xs ≡ []
none_yet from to xs l = drop_all from (take to xs) (let size = length-take to xs in omega (arith, size, l))

pub before_them : (from to : ℕ) (xs ys : List Step) → length xs + length ys ≤ from → moves_between from to (xs ++ ys) ≡ moves_between from to xs
before_them from to xs ys l =
    none_yet from to (xs ++ ys) (let size = length-append xs ys in omega (arith, size, l)) ∙ sym (none_yet from to xs (omega (arith, l)))

pub next_of_them : (from to : ℕ) (xs : List Step) (x : Step) → from ≤ length xs → length xs < to
    → moves_between from to (xs ++ x ∷ []) ≡ moves_between from to xs ++ x ∷ []
next_of_them from to xs x some less =
    ap (drop from) (take_all to (xs ++ x ∷ []) (let size = length-append xs (x ∷ []) in omega (arith, size, less)))
    ∙ drop-append-le from xs (x ∷ []) some
    ∙ ap (λ zs. drop from zs ++ x ∷ []) (sym (take_all to xs (omega (arith, less))))

-- what is fetched is seen where no page is wanted
enough : (m : Option Mode) → nat_lt (strength m) (strength (Some Read)) ≡ false → nat_le (strength (Some Read)) (strength m) ≡ true
enough None f = absurd (true≢false f)
enough (Some Read) f = refl
enough (Some Write) f = refl

first_lacks : {X : Type 0} (test : X → Bool) (x : X) (xs : List X) → find test (x ∷ xs) ≡ None → test x ≡ false
first_lacks {X} test x xs none = by (test x) refl none where
  by : (b : Bool) → test x ≡ b → cond b (Some x) (find test xs) ≡ None → test x ≡ false
  by true e f = absurd (none-some _ (sym f))
  by false e f = e

module _ (unit h : ℕ) (s : Replay FlatState) (x : Hart) where
  lacks_none : List (ℕ × Mode) → Type 0
  lacks_none needs = find (λ (n : ℕ × Mode). nat_lt (strength (held s.holders n.0 h)) (strength (Some n.1))) needs ≡ None

  seen_by : (f : Fetch) → fetch_of x ≡ f → lacks_none (pages_needed unit x (fetched_by s.flat.memory f))
      → (if holds_fetch unit s h f then fetched_by s.flat.memory f else None) ≡ fetched_by s.flat.memory f
  unfolding lacks_none
  seen_by fetch.Interrupt e none = refl
  seen_by fetch.Fault e none = refl
  seen_by (fetch.At pc) e none =
      ap (λ (b : Bool). if b then fetched_by s.flat.memory (fetch.At pc) else None)
      (subst (λ at. nat_le (strength (Some Read)) (strength (held s.holders (page_at unit at) h)) ≡ true) (fetch_pc x pc e)
      (enough (held s.holders (page_at unit x.pc) h)
      (first_lacks (λ (n : ℕ × Mode). nat_lt (strength (held s.holders n.0 h)) (strength (Some n.1))) (page_at unit x.pc, Read) _ none)))

  pub sees_fetched : slice_get s.flat.harts h ≡ Some x → want (board unit) s h ≡ None → word_seen unit s h x ≡ fetched x s.flat.memory
  unfolding lacks_none
  sees_fetched there none =
      seen_by (fetch_of x) refl
      (ap (λ o. find (λ (n : ℕ × Mode). nat_lt (strength (held s.holders n.0 h)) (strength (Some n.1)))
      (option_map_or (λ (y : Hart). pages_needed unit y (fetched y s.flat.memory)) o [])) (sym there) ∙ none)

module _ (log : Log) (image : Image) (is : IsReplayable log image) where
  -- an item that is no move tells of none; a move, with which its hart's count rises by one, tells of that move, and no page is wanted before it
  abbrev pub Tells : Replay FlatState → Replay FlatState → ℕ → Option (List Step) → Hart → Hart → Type 0
  Tells s a g w before after =
      ((told_in w ≡ []) × ((board (unit_of log)).count a.flat g ≡ (board (unit_of log)).count s.flat g))
      ⊎ ((told_in w ≡ step_of s.flat.memory before after ∷ []) × (((board (unit_of log)).count a.flat g ≡ (board (unit_of log)).count s.flat g + 1)
      × (want (board (unit_of log)) s g ≡ None)))

  item_tells : (s a : Replay FlatState) (g : ℕ) (item : Item) (w : Option (List Step)) (before after : Hart) → (x : Goes log image is s a g) → x.item ≡ item
      → w ≡ told_of (board (unit_of log)) s g item a → verdict_on (board (unit_of log)) s g item ≡ CanGo
      → slice_get s.flat.harts g ≡ Some before → slice_get a.flat.harts g ≡ Some after → Tells s a g w before after
  item_tells s a g Ended w before after x same told go there then_there = absurd (subst IsMade same x.real)
  item_tells s a g Move w before after x same told go there then_there =
      let own = rw same at x.own in
      let one = passed (board (unit_of log)) 1 (is_some (want (board (unit_of log)) s g)) ((2, (board (unit_of log)).is_at_device s.flat g) ∷ []) go in
      inr (
        ap told_in told ∙ ap₂ (λ (o p : Option Hart). told_in (Some (step_between s.flat.memory o p))) there then_there,
        (own, is_nothing (want (board (unit_of log)) s g) one.0),
      )
  item_tells s a g (Makes (entries.Touch count ord input)) w before after x same told go there then_there =
      let own = rw same at x.own in
      let one = passed (board (unit_of log)) 1 (is_some (want (board (unit_of log)) s g))
      ((3, not ((board (unit_of log)).is_at_device s.flat g)) ∷ (4, not ((board (unit_of log)).suits s.flat g input)) ∷
      (6, (board (unit_of log)).is_stopped s.flat) ∷ [])
      (met (guard_is_met s.cursor (entries.Touch count ord input))
      (judge (board (unit_of log)) (tests (board (unit_of log)) s g (Makes (entries.Touch count ord input)))) go).1 in
      inr (
        ap told_in told ∙ ap₂ (λ (o p : Option Hart). told_in (Some (step_between s.flat.memory o p))) there then_there,
        (own, is_nothing (want (board (unit_of log)) s g) one.0),
      )
  item_tells s a g (Makes (entries.Gain count page seq mode waits)) w before after x same told go there then_there =
      let own = rw same at x.own in inl (ap told_in told, own)
  item_tells s a g (Makes (entries.Yield count page seq left)) w before after x same told go there then_there =
      let own = rw same at x.own in inl (ap told_in told, own)
  item_tells s a g (Makes (entries.Poll count ord time bits)) w before after x same told go there then_there =
      let own = rw same at x.own in inl (ap told_in told, own)
  item_tells s a g (Makes (entries.End count)) w before after x same told go there then_there = absurd (subst IsMade same x.real)

  pub step_tells : (s a : Replay FlatState) (g : ℕ) (w : Option (List Step)) (before after : Hart) → Going log image is s
      → step (board (unit_of log)) log g s ≡ Some (a, w) → slice_get s.flat.harts g ≡ Some before → slice_get a.flat.harts g ≡ Some after
      → Tells s a g w before after
  step_tells s a g w before after going did there then_there =
      let x = goes log image is s a g w going did in
      let y = step_went (board (unit_of log)) log s a g w did in
      let same : y.item ≡ x.item = sym y.next ∙ x.next in
      item_tells s a g x.item w before after x refl (y.told_is ∙ ap (λ i. told_of (board (unit_of log)) s g i a) same)
      (ap (verdict_on (board (unit_of log)) s g) (sym same) ∙ y.go) there then_there

  hart_there : (s : Replay FlatState) (g : ℕ) → Going log image is s → g < length log.streams → (x : Hart) × (slice_get s.flat.harts g ≡ Some x)
  hart_there s g going l =
      let size = going.good.sound.sized.harts_size in
      (_, slice_get-get_or s.flat.harts g (hart_at_start 0 0 0 0) (omega (arith, size, l)))

  -- a hart's count rises by the moves that are told of it
  one_counts : (s a : Replay FlatState) (g h : ℕ) (w : Option (List Step)) → Going log image is s → step (board (unit_of log)) log g s ≡ Some (a, w)
      → (board (unit_of log)).count a.flat h ≡ (board (unit_of log)).count s.flat h + length (moves_of log h ((g, w) ∷ []))
  one_counts s a g h w going did =
      let x = goes log image is s a g w going did in
      let before = hart_there s g going x.inside in
      let after = hart_there a g (going_lasts log image is s a g w going did) x.inside in
      elim (cases_eq h g) [
        | inl same ↦
            let size = ap length (own_moves log h g w (sym same)) in
            let counts : (board (unit_of log)).count a.flat g ≡ (board (unit_of log)).count s.flat g + length (told_in w) =
            elim (step_tells s a g w before.0 after.0 going did before.1 after.1) [
              | inl t ↦ let none = ap length t.0 in let c = t.1 in omega (arith, none, c)
              | inr t ↦ let one = ap length t.0 in let c = t.1.0 in omega (arith, one, c)
            ] in
            subst (λ k. (board (unit_of log)).count a.flat k ≡ (board (unit_of log)).count s.flat k + length (moves_of log h ((g, w) ∷ []))) (sym same)
            (omega (arith, size, counts))
        | inr n ↦
            let size = ap length (other_moves log h g w (λ same. n (sym same))) in
            let c = x.others h n in omega (arith, size, c)
      ]

  pub moves_count : (s t : Replay FlatState) (made : List (ℕ × Option (List Step))) (h : ℕ) → Going log image is s
      → Leads (step (board (unit_of log)) log) s made t
      → (board (unit_of log)).count t.flat h ≡ (board (unit_of log)).count s.flat h + length (moves_of log h made)
  moves_count s t [] h going leads = let c = ap (λ (x : Replay FlatState). slice_index x.flat.counts h) leads in omega (arith, c)
  moves_count s t (m ∷ made) h going leads =
      let one = one_counts s leads.0 m.0 h m.1 going leads.1 in
      let rest = moves_count leads.0 t made h (going_lasts log image is s leads.0 m.0 m.1 going leads.1) leads.2 in
      let parts = ap length (moves_append log h (m ∷ []) made) in
      let sum = length-append (moves_of log h (m ∷ [])) (moves_of log h made) in
      omega (arith, one, rest, parts, sum)
