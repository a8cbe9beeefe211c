-- The atomic moves on a word along all full orders agree.
use Rattle.std.proofs.Common.{◌≡◌, ◌≢◌, ℕ, Bool, true, false, cond, List, [], ◌∷◌, ◌++◌, map, flat_map, filter, length, Option, Some, None}
use Rattle.std.proofs.Common.{true≢false, refl, sym, ap, ap₂, ◌∙◌, subst}
use Rattle.std.specs.Option.{option_map, option_map_or}
use Rattle.std.proofs.lemmas.Option.{same_Some}
use Rattle.log_entry.specs.declared.log.Log.{Log}
use Rattle.log_entry.specs.Parts.{unit_of, units_of}
use Rattle.elf_image.specs.Image.{Image}
use Rattle.flat_machine.specs.State.{FlatState}
use Rattle.flat_machine.specs.declared.act.Act.{Act}
use Rattle.flat_machine.specs.declared.act.Act.TheVariants.{Run}
use Rattle.flat_machine.specs.declared.results.Step.{Step}
use Rattle.orders_law.specs.Orders.{Leads, IsFull, IsApart, Lasts, Commutes}
use Rattle.orders_law.proofs.Confluence.{orders_agree}
use Rattle.replay_model.specs.Board.{board}
use Rattle.replay_model.specs.State.{Replay, want}
use Rattle.replay_model.specs.Items.{Item, Ended, Move, Makes, CanGo, verdict_on, item_at, next_item, step}
use Rattle.shared_types.proofs.Lists.{mapped}
use Rattle.replay_law.specs.Atomics.{Atomic, next_atomic, item_atomics, atomics_along}
use Rattle.replay_law.specs.Laws.{IsReplayable, first_replay, AtomicsAgree}
use Rattle.replay_law.proofs.Local.{actor}
use Rattle.replay_law.proofs.Steps.{act_of, flat_after, Went, step_went}
use Rattle.replay_law.proofs.Cursors.{left_stays}
use Rattle.replay_law.proofs.Verdicts.{ActIs, act_is}
use Rattle.replay_law.proofs.Pairs.{finds_after}
use Rattle.replay_law.proofs.Views.{Fits, Sound, shape_of}
use Rattle.replay_law.proofs.Boards.{made_of, board_local}
use Rattle.replay_law.proofs.Atoms.{has_some, atomic_stays, atomics_apart}
use Rattle.replay_law.proofs.Orders.{Good, good_first, lasts, commutes}

nothing_in : (xs : List Atomic) → has_some xs ≡ false → xs ≡ []
nothing_in [] e = refl
nothing_in (x ∷ xs) e = absurd (true≢false e)

abbrev does_some : ℕ × List Atomic → Bool
does_some m = has_some m.1

abbrev all_of : List (ℕ × List Atomic) → List Atomic
all_of made = flat_map (λ m. m.1) made

-- what does nothing to the word can be left out
kept : (made : List (ℕ × List Atomic)) → all_of made ≡ all_of (filter does_some made)
kept [] = refl
kept (m ∷ made) = by (does_some m) refl (kept made) where
  by : (b : Bool) → does_some m ≡ b → all_of made ≡ all_of (filter does_some made) → m.1 ++ all_of made ≡ all_of (filter does_some (m ∷ made))
  by true e rest = ap (λ xs. m.1 ++ xs) rest ∙ sym (ap (λ b. all_of (cond b (m ∷ filter does_some made) (filter does_some made))) e)
  by false e rest = ap (λ xs. xs ++ all_of made) (nothing_in m.1 e) ∙ rest
      ∙ sym (ap (λ b. all_of (cond b (m ∷ filter does_some made) (filter does_some made))) e)

module _ (log : Log) (image : Image) (is : IsReplayable log image) (word : ℕ) where
  abbrev Sane : Replay FlatState → Type 0
  Sane s = Sound (shape_of log) s

  abbrev watch : Replay FlatState → ℕ → List Atomic
  watch s h = item_atomics word s.flat h (next_item (board (unit_of log)) log s h)

  -- a step with what it does to the word
  abbrev watched : ℕ → Replay FlatState → Option (Replay FlatState × List Atomic)
  watched h s = option_map (λ m. (m.0, watch s h)) (step (board (unit_of log)) log h s)

  pub record Watched (h : ℕ) (s a : Replay FlatState) (e : List Atomic) : Type 0 where
    pub told : Option (List Step)
    pub did : step (board (unit_of log)) log h s ≡ Some (a, told)
    pub seen : watch s h ≡ e

  was_watched : (h : ℕ) (s a : Replay FlatState) (e : List Atomic) → watched h s ≡ Some (a, e) → Watched h s a e
  was_watched h s a e did =
      let m = mapped (λ (m : Replay FlatState × Option (List Step)). (m.0, watch s h)) (step (board (unit_of log)) log h s) (a, e) did in
      record {
        told = m.0.1;
        did = m.1 ∙ ap (λ (z : Replay FlatState × List Atomic). Some (z.0, m.0.1)) m.2;
        seen = ap (λ (z : Replay FlatState × List Atomic). z.1) m.2;
      }

  item_same : (s a : Replay FlatState) (h : ℕ) (item : Item) → (item ≡ Move → next_atomic word a.flat h ≡ next_atomic word s.flat h)
      → item_atomics word a.flat h item ≡ item_atomics word s.flat h item
  item_same s a h Ended same = refl
  item_same s a h Move same = same refl
  item_same s a h (Makes e) same = refl

  wants_nothing : (s : Replay FlatState) (h : ℕ) (item : Item) → verdict_on (board (unit_of log)) s h item ≡ CanGo → item ≡ Move
      → want (board (unit_of log)) s h ≡ None
  wants_nothing s h item go move =
      (act_is (board (unit_of log)) s h Move (Run h) (subst (λ i. verdict_on (board (unit_of log)) s h i ≡ CanGo) move go) refl).has

  acts_stay : (s : Replay FlatState) (g h : ℕ) (p : Option Act) (a : FlatState) → Sane s → h ≢ g
      → ((act : Act) → p ≡ Some act → ActIs (board (unit_of log)) s g act) → flat_after (board (unit_of log)) s.flat p ≡ Some a
      → want (board (unit_of log)) s h ≡ None
      → next_atomic word a h ≡ next_atomic word s.flat h
  acts_stay s g h None a sound n own did none = ap (λ f. next_atomic word f h) (sym (same_Some _ _ did))
  acts_stay s g h (Some act) a sound n own did none =
      let o = own act refl in
      let m = made_of (shape_of log) s act a sound o.has did in
      atomic_stays (shape_of log) s (actor act) h m.after.0 a word sound (λ e. n (e ∙ o.by)) m.done none

  next_stays : (s a : Replay FlatState) (g h : ℕ) (w : Option (List Step)) → Sane s → h ≢ g → Went (board (unit_of log)) log s g a w
      → next_item (board (unit_of log)) log a h ≡ next_item (board (unit_of log)) log s h
  next_stays s a g h w sound n x =
      let finds = finds_after (board (unit_of log)) (Fits (length log.streams) log.pages) (length log.streams) (units_of log)
      (board_local (shape_of log)) s g h x.item a.flat sound n x.go x.flat_is in
      ap (λ z. next_item (board (unit_of log)) log z h) x.built_is ∙ ap₂ item_at finds.count (left_stays log s.cursor g h x.item n)

  -- another's step leaves what a hart that can step does to the word
  watch_stays : (s a b : Replay FlatState) (g h : ℕ) (v w : Option (List Step)) → Sane s → h ≢ g → step (board (unit_of log)) log g s ≡ Some (a, v)
      → step (board (unit_of log)) log h s ≡ Some (b, w) → watch a h ≡ watch s h
  watch_stays s a b g h v w sound n did_g did_h =
      let x = step_went (board (unit_of log)) log s a g v did_g in
      let y = step_went (board (unit_of log)) log s b h w did_h in
      ap (item_atomics word a.flat h) (next_stays s a g h v sound n x ∙ y.next)
      ∙ item_same s a h y.item (λ move. acts_stay s g h (act_of (board (unit_of log)) s g x.item) a.flat sound n
      (λ act e. act_is (board (unit_of log)) s g x.item act x.go e) x.flat_is (wants_nothing s h y.item y.go move))
      ∙ ap (item_atomics word s.flat h) (sym y.next)

  watched_lasts : Lasts watched (Good log image is)
  watched_lasts s a e g good did = let x = was_watched g s a e did in lasts log image is s a x.told g good x.did

  watched_commutes : Commutes watched (Good log image is)
  watched_commutes s a b e f g h good n did_g did_h =
      let x = was_watched g s a e did_g in
      let y = was_watched h s b f did_h in
      let met = commutes log image is s a b x.told y.told g h good n x.did y.did in (
        met.0,
        ap (option_map (λ (m : Replay FlatState × Option (List Step)). (m.0, watch a h))) met.1
            ∙ ap (λ z. Some (met.0, z)) (watch_stays s a b g h x.told y.told good.sound (λ z. n (sym z)) x.did y.did ∙ y.seen),
        ap (option_map (λ (m : Replay FlatState × Option (List Step)). (m.0, watch b g))) met.2
            ∙ ap (λ z. Some (met.0, z)) (watch_stays s b a h g y.told x.told good.sound n y.did x.did ∙ x.seen),
      )

  -- a step that does something to the word is a move
  moves : (s : Replay FlatState) (h : ℕ) (item : Item) → has_some (item_atomics word s.flat h item) ≡ true
      → (item ≡ Move) × (has_some (next_atomic word s.flat h) ≡ true)
  moves s h Ended some = absurd (true≢false (sym some))
  moves s h Move some = (refl, some)
  moves s h (Makes e) some = absurd (true≢false (sym some))

  moves_so : (s a : Replay FlatState) (h : ℕ) (e : List Atomic) → watched h s ≡ Some (a, e) → has_some e ≡ true → (want (board (unit_of log)) s h ≡ None)
      × (has_some (next_atomic word s.flat h) ≡ true)
  moves_so s a h e did some =
      let x = was_watched h s a e did in
      let y = step_went (board (unit_of log)) log s a h x.told x.did in
      let m = moves s h y.item (ap has_some (ap (item_atomics word s.flat h) (sym y.next) ∙ x.seen) ∙ some) in
      (wants_nothing s h y.item y.go m.0, m.1)

  apart : IsApart watched (Good log image is) does_some
  apart s a b e f g h good n did_g did_h some_g some_h =
      let x = moves_so s a g e did_g some_g in
      let y = moves_so s b h f did_h some_h in
      atomics_apart (shape_of log) s g h word good.sound n x.0 y.0 x.1 y.1

  -- an order with what its steps do to the word
  pub record Along (s t : Replay FlatState) (order : List ℕ) : Type 0 where
    pub steps : List (ℕ × List Atomic)
    pub leads : Leads watched s steps t
    pub atomics : all_of steps ≡ atomics_along word log s order

  along : (s t : Replay FlatState) (made : List (ℕ × Option (List Step))) → Leads (step (board (unit_of log)) log) s made t → Along s t (map (λ m. m.0) made)
  along s t [] leads = record { steps = []; leads = leads; atomics = refl }
  along s t (x ∷ made) leads =
      let rest = along leads.0 t made leads.2 in
      record {
        steps = (x.0, watch s x.0) ∷ rest.steps;
        leads = (leads.0, ap (option_map (λ (m : Replay FlatState × Option (List Step)). (m.0, watch s x.0))) leads.1, rest.leads);
        atomics = ap (λ xs. watch s x.0 ++ xs) rest.atomics
            ∙ sym (ap (λ o. option_map_or (λ (m : Replay FlatState × Option (List Step)). watch s x.0 ++ atomics_along word log m.0 (map (λ m. m.0) made)) o
            []) leads.1);
      }

  full_along : (s t : Replay FlatState) (made : List (ℕ × Option (List Step))) → IsFull (step (board (unit_of log)) log) s made t
      → (a : Along s t (map (λ m. m.0) made)) × IsFull watched s a.steps t
  full_along s t made full =
      let a = along s t made full.leads in
      (a, record { leads = a.leads; over = λ h. ap (option_map (λ (m : Replay FlatState × Option (List Step)). (m.0, watch t h))) (full.over h) })

pub atomics_agree : AtomicsAgree
atomics_agree log image order other s t word is one two =
    let a = full_along log image is word (first_replay log image) s one.0 one.2 in
    let b = full_along log image is word (first_replay log image) t two.0 two.2 in
    let agree = orders_agree (watched log image is word) (Good log image is) (watched_lasts log image is word) (watched_commutes log image is word)
    (first_replay log image) s t a.0.steps b.0.steps (good_first log image is) a.1 b.1 in
    ap (atomics_along word log (first_replay log image)) (sym one.1) ∙ sym a.0.atomics
    ∙ kept a.0.steps ∙ ap all_of (agree.1 does_some (apart log image is word)) ∙ sym (kept b.0.steps)
    ∙ b.0.atomics ∙ ap (atomics_along word log (first_replay log image)) two.1
