-- What is noted of a hart's moves while a stage goes on.
use Rattle.std.proofs.Common.{◌≡◌, ◌≢◌, ◌⊎◌, inl, inr, ℕ, ◌<◌, ◌≤◌, ◌++◌, ◌==◌, ◌&&◌, nat_le, nat_lt, Bool, true, false, List, [], ◌∷◌, length, append-nil}
use Rattle.std.proofs.Common.{flat_map, unwrap_or, Option, Some, None, slice_get, slice_set, slice_index, refl, sym, ap, ap₂, ◌∙◌, subst, arith, true≢false}
use Rattle.std.specs.Prelude.{IsTrue}
use Rattle.std.specs.Option.{option_map_or}
use Rattle.std.proofs.lemmas.List.{length-append}
use Rattle.std.proofs.lemmas.Bool.{and_parts, cases_eq, cases_lt, eq-eqb, eqb-true, le-leb, leb-true, lt-ltb, ltb-true}
use Rattle.std.proofs.lemmas.Option.{get_or_from_slice_get, slice_get_past, unwrap_or-slice_get}
use Rattle.elf_image.specs.Image.{Image}
use Rattle.log_entry.specs.declared.log.Log.{Log}
use Rattle.log_entry.specs.Parts.{unit_of}
use Rattle.orders_law.specs.Orders.{Leads}
use Rattle.orders_law.proofs.Leads.{leads_on}
use Rattle.flat_machine.specs.State.{FlatState}
use Rattle.flat_machine.specs.Moves.{fetched, move_of}
use Rattle.flat_machine.specs.Runs.{step_by, step_of}
use Rattle.flat_machine.specs.declared.results.Step.{Step}
use Rattle.replay_model.specs.Board.{board}
use Rattle.replay_model.specs.State.{Replay}
use Rattle.replay_model.specs.Items.{step}
use Rattle.run_model.specs.Run.{Run, word_of}
use Rattle.run_model.specs.Agreement.{word_seen}
use Rattle.run_model.proofs.Laws.{sees_word}
use Rattle.replay_law.specs.Laws.{first_replay}
use Rattle.replay_law.proofs.Orders.{no_number}
use Rattle.replay_law.proofs.Progress.{going_first}
use Rattle.replay_core.specs.declared.notes.Notes.{Notes}
use Rattle.replay_core.specs.declared.replaying.Replaying.{Replaying}
use Rattle.replay_core.specs.Items.{after}
use Rattle.replay_core.specs.declared.position.Position.{Position}
use Rattle.replay_core.specs.Standing.{IsAt, IsSame, LeadsOn, MakesMoves, RunsOn}
use Rattle.replay_core.specs.Stories.{moves_between, moves_of}
use Rattle.replay_core.specs.Telling.{HasAll, HasNoted, IsQuiet, NotesItem, NotesOn, SameAim, TellsOn, notes_at, seen_of}
use Rattle.replay_core.proofs.MovesTold.{before_them, moves_append, moves_count, next_of_them, none_yet, other_moves, own_moves, past_them, sees_fetched}
use Rattle.replay_core.proofs.MovesTold.{step_tells}
use Rattle.replay_core.proofs.MovesTold.{Tells}
use Rattle.replay_core.proofs.StateAfterItem.{reached, run_unit}
use Rattle.replay_core.proofs.OtherHarts.{set_same}
use Rattle.replay_core.proofs.LegsAsItems.{moved_on, then_at}
use Rattle.replay_core.proofs.StagesGoOn.{same_at}

-- notes after an order that led on
noted_at : (image : Image) (old new : Replaying) (n : Notes) (t : Replay FlatState) (made : List (ℕ × Option (List Step))) → new.board.log ≡ old.board.log
    → IsAt image new t → Leads (step (board (unit_of old.board.log)) old.board.log) (first_replay old.board.log image) made t
    → n.steps.items ≡ moves_between n.from n.to (moves_of old.board.log n.hart made) → HasNoted image new n t
noted_at image old new n t made log_is at leads steps =
    record {
      at = at;
      made = made;
      leads = subst (λ (log : Log). Leads (step (board (unit_of log)) log) (first_replay log image) made t) (sym log_is) leads;
      steps = subst (λ (log : Log). n.steps.items ≡ moves_between n.from n.to (moves_of log n.hart made)) (sym log_is) steps;
    }

-- nothing was made
pub noted_same : (image : Image) (old new : Replaying) (n : Notes) (s : Replay FlatState) → new.board.log ≡ old.board.log → HasNoted image old n s
    → IsAt image new s → HasNoted image new n s
noted_same image old new n s log_is has at = noted_at image old new n s has.made log_is at has.leads has.steps

no_items : {X : Type 0} (xs : List X) → length xs ≡ 0 → xs ≡ []
no_items [] e = refl
no_items (x ∷ xs) e = absurd (omega (arith, e))

-- what the test means
noted_means : (n : Notes) (h count : ℕ) → notes_at n h count ≡ true → (h ≡ n.hart) × ((n.from ≤ count) × (count < n.to))
noted_means n h count on =
    let one = and_parts (h == n.hart) (nat_le n.from count && nat_lt count n.to) on in
    let two = and_parts (nat_le n.from count) (nat_lt count n.to) one.1 in
    (eqb-true h n.hart one.0, (leb-true n.from count two.0, ltb-true count n.to two.1))

not_noted : (n : Notes) (h count : ℕ) → h ≡ n.hart → notes_at n h count ≡ false → (count < n.from) ⊎ (n.to ≤ count)
not_noted n h count same off = elim (cases_lt count n.from) [
  | inl low ↦ inl low
  | inr m ↦ elim (cases_lt count n.to) [
    | inl l ↦
        let on : notes_at n h count ≡ true =
        ap₂ (λ (a b : Bool). a && b) (eq-eqb h n.hart same) (ap₂ (λ (a b : Bool). a && b) (le-leb n.from count m) (lt-ltb count n.to l)) in
        absurd (true≢false (sym on ∙ off))
    | inr past ↦ inr past
  ]
]

-- as many moves are told of a hart as it has counted
module _ (image : Image) (old : Replaying) (n : Notes) (s : Replay FlatState) (has : HasNoted image old n s) where
  told_counts : length (moves_of old.board.log n.hart has.made) ≡ slice_index s.flat.counts n.hart
  told_counts =
      let st = has.at.stands in
      let all = moves_count old.board.log image st.replayable (first_replay old.board.log image) s has.made n.hart
      (going_first old.board.log image st.replayable)
      has.leads in
      let none = no_number (length old.board.log.streams) n.hart in
      omega (arith, all, none)

  -- none of a hart that the log hasn't
  pub nothing_told : length old.board.log.streams ≤ n.hart → n.steps.items ≡ []
  nothing_told past =
      let count = told_counts in
      let sized = (reached image old.board s has.at.stands).going.good.sound.sized in
      let long = sized.counts_size in
      let wide = sized.harts_size in
      let none : slice_index s.flat.counts n.hart ≡ 0 =
      sym (unwrap_or-slice_get s.flat.counts n.hart 0) ∙ ap (λ o. unwrap_or o 0) (slice_get_past s.flat.counts n.hart (omega (arith, long, wide, past))) in
      has.steps ∙ ap (moves_between n.from n.to) (no_items (moves_of old.board.log n.hart has.made) (omega (arith, count, none)))
      ∙ none_yet n.from n.to [] (omega arith)

  -- moves of a hart up to a count before which none is to be noted
  pub noted_leg : (new : Replaying) (h most : ℕ) (was r : Run) → new.board.log ≡ old.board.log → slice_get old.runs.items h ≡ Some was
      → IsQuiet n h was.count most
      → (m : RunsOn image old.board was r h most s) → IsAt image new m.at → HasNoted image new n m.at
  noted_leg new h most was r log_is there quiet m at =
      let log = old.board.log in
      let xs = moves_of old.board.log n.hart has.made in
      let ys = moves_of old.board.log n.hart m.made in
      noted_at image old new n m.at (has.made ++ m.made) log_is at
      (leads_on (step (board (unit_of old.board.log)) old.board.log) (first_replay old.board.log image) s m.at has.made m.made has.leads m.leads)
      (has.steps ∙ sym (ap (moves_between n.from n.to) (moves_append old.board.log n.hart has.made m.made) ∙ elim (cases_eq n.hart h) [
        | inl same ↦
            let all = moves_count old.board.log image has.at.stands.replayable (first_replay old.board.log image) m.at (has.made ++ m.made) n.hart
            (going_first old.board.log image has.at.stands.replayable)
            (leads_on (step (board (unit_of old.board.log)) old.board.log) (first_replay old.board.log image) s m.at has.made m.made has.leads m.leads) in
            let none = no_number (length old.board.log.streams) n.hart in
            let parts = ap length (moves_append old.board.log n.hart has.made m.made) in
            let sum = length-append (moves_of old.board.log n.hart has.made) (moves_of old.board.log n.hart m.made) in
            let own : slice_index s.flat.counts n.hart ≡ was.count =
            ap (slice_index s.flat.counts) same ∙ get_or_from_slice_get s.flat.counts h was.count 0 (has.at.agree h was there).count in
            let then_own : slice_index m.at.flat.counts n.hart ≡ r.count =
            ap (slice_index m.at.flat.counts) same ∙ get_or_from_slice_get m.at.flat.counts h r.count 0 m.agrees.count in
            let count = told_counts in
            let top = m.within in
            elim (quiet (sym same)) [
              | inl past ↦ past_them n.from n.to (moves_of old.board.log n.hart has.made) (moves_of old.board.log n.hart m.made)
                  (omega (arith, past, count, own))
              | inr low ↦ before_them n.from n.to (moves_of old.board.log n.hart has.made) (moves_of old.board.log n.hart m.made)
                  (omega (arith, low, top, all, none, parts, sum, then_own))
            ]
        | inr d ↦
            ap (λ (zs : List (List Step)). moves_between n.from n.to (moves_of old.board.log n.hart has.made ++ flat_map (λ (told : List Step). told) zs))
            (m.alone n.hart d)
            ∙ ap (moves_between n.from n.to) (append-nil (moves_of old.board.log n.hart has.made))
      ]))

  -- an item of a hart, by its run before and after
  module _ (new : Replaying) (h : ℕ) (was r : Run) (log_is : new.board.log ≡ old.board.log) (at : IsAt image new (after old.board.log h s))
      (there : slice_get old.runs.items h ≡ Some was) (then_there : slice_get new.runs.items h ≡ Some r) where
    own_count : slice_index s.flat.counts h ≡ was.count
    own_count = get_or_from_slice_get s.flat.counts h was.count 0 (has.at.agree h was there).count

    later_count : slice_index (after old.board.log h s).flat.counts h ≡ r.count
    later_count = get_or_from_slice_get (after old.board.log h s).flat.counts h r.count 0 (at.agree h r then_there).count

    still_at : step (board (unit_of old.board.log)) old.board.log h s ≡ None → s ≡ after old.board.log h s
    still_at e = sym (ap (λ (o : Option (Replay FlatState × Option (List Step))). option_map_or (λ k. k.0) o s) e)

    -- the item was made
    module _ (m : Replay FlatState × Option (List Step)) (did : step (board (unit_of old.board.log)) old.board.log h s ≡ Some m) where
      after_is : after old.board.log h s ≡ m.0
      after_is = ap (λ (o : Option (Replay FlatState × Option (List Step))). option_map_or (λ k. k.0) o s) did

      then_leads : Leads (step (board (unit_of old.board.log)) old.board.log) (first_replay old.board.log image) (has.made ++ (h, m.1) ∷ []) m.0
      then_leads = leads_on (step (board (unit_of old.board.log)) old.board.log) (first_replay old.board.log image) s m.0 has.made ((h, m.1) ∷ []) has.leads
          (m.0, did, refl)

      noted_then : (k : Notes) → k.steps.items ≡ moves_between k.from k.to (moves_of old.board.log k.hart (has.made ++ (h, m.1) ∷ []))
          → HasNoted image new k (after old.board.log h s)
      noted_then k steps = noted_at image old new k (after old.board.log h s) (has.made ++ (h, m.1) ∷ []) log_is at
          (subst (Leads (step (board (unit_of old.board.log)) old.board.log) (first_replay old.board.log image) (has.made ++ (h, m.1) ∷ [])) (sym after_is)
          then_leads)
          steps

      made_tells : Tells old.board.log image has.at.stands.replayable s m.0 h m.1 was.hart r.hart
      made_tells = step_tells old.board.log image has.at.stands.replayable s m.0 h m.1 was.hart r.hart (reached image old.board s has.at.stands).going did
          (has.at.agree h was there).hart
          (subst (λ (z : Replay FlatState). slice_get z.flat.harts h ≡ Some r.hart) after_is (at.agree h r then_there).hart)

      later : slice_index m.0.flat.counts h ≡ r.count
      later = ap (λ (z : Replay FlatState). slice_index z.flat.counts h) (sym after_is) ∙ later_count

      unnoted_made : (r.count ≡ was.count) ⊎ (notes_at n h was.count ≡ false) → HasNoted image new n (after old.board.log h s)
      unnoted_made quiet =
          let xs = moves_of old.board.log n.hart has.made in
          noted_then n
          (has.steps ∙ sym (ap (moves_between n.from n.to) (moves_append old.board.log n.hart has.made ((h, m.1) ∷ [])) ∙ elim (cases_eq h n.hart) [
            | inl same ↦ elim made_tells [
              | inl t ↦ nothing_more (own_moves old.board.log n.hart h m.1 same ∙ t.0)
              | inr t ↦
                  let size = ap length (own_moves old.board.log n.hart h m.1 same ∙ t.0) in
                  let counts = told_counts in
                  let own : slice_index s.flat.counts n.hart ≡ was.count = ap (slice_index s.flat.counts) (sym same) ∙ own_count in
                  let raised = t.1.0 in
                  let before = own_count in
                  let then = later in
                  elim (outside quiet same (λ even. absurd (omega (arith, even, raised, before, then)))) [
                    | inl low ↦ before_them n.from n.to (moves_of old.board.log n.hart has.made) (moves_of old.board.log n.hart ((h, m.1) ∷ []))
                        (omega (arith, low, size, counts, own))
                    | inr past ↦ past_them n.from n.to (moves_of old.board.log n.hart has.made) (moves_of old.board.log n.hart ((h, m.1) ∷ []))
                        (omega (arith, past, counts, own))
                  ]
            ]
            | inr d ↦ nothing_more (other_moves old.board.log n.hart h m.1 d)
          ]))
        where
          nothing_more : moves_of old.board.log n.hart ((h, m.1) ∷ []) ≡ []
              → moves_between n.from n.to (moves_of old.board.log n.hart has.made ++ moves_of old.board.log n.hart ((h, m.1) ∷ []))
              ≡ moves_between n.from n.to (moves_of old.board.log n.hart has.made)
          nothing_more none =
              ap (λ (zs : List Step). moves_between n.from n.to (moves_of old.board.log n.hart has.made ++ zs)) none
              ∙ ap (moves_between n.from n.to) (append-nil (moves_of old.board.log n.hart has.made))

          outside : (r.count ≡ was.count) ⊎ (notes_at n h was.count ≡ false) → h ≡ n.hart → (r.count ≡ was.count → ⊥)
              → (was.count < n.from) ⊎ (n.to ≤ was.count)
          outside (inl even) same uneven = absurd (uneven even)
          outside (inr off) same uneven = not_noted n h was.count same off

      noted_made : (k : Notes) (word : Option ℕ) → SameAim n k → r.count ≢ was.count → notes_at n h was.count ≡ true → word ≡ word_of was
          → k.steps.items ≡ n.steps.items ++ step_by was.hart word (move_of was.hart word) r.hart ∷ [] → HasNoted image new k (after old.board.log h s)
      noted_made k word aim uneven on word_is steps =
          let own = own_count in
          let then = later in
          elim made_tells [
            | inl t ↦ let even = t.1 in absurd (uneven (omega (arith, even, own, then)))
            | inr t ↦
                let parts = noted_means n h was.count on in
                let counts = told_counts in
                let mine : slice_index s.flat.counts n.hart ≡ was.count = ap (slice_index s.flat.counts) (sym parts.0) ∙ own_count in
                let from = parts.1.0 in
                let to = parts.1.1 in
                let fetches : word ≡ fetched was.hart s.flat.memory =
                word_is ∙ sees_word was h s (has.at.agree h was there)
                ∙ ap (λ u. word_seen u s h was.hart) (run_unit image old.board was h s has.at.stands (has.at.agree h was there))
                ∙ sees_fetched (unit_of old.board.log) h s was.hart (has.at.agree h was there).hart t.1.1 in
                noted_then k
                (steps
                ∙ ap₂ (λ (zs : List Step) (w : Option ℕ). zs ++ step_by was.hart w (move_of was.hart w) r.hart ∷ []) has.steps fetches
                ∙ sym (next_of_them n.from n.to (moves_of old.board.log n.hart has.made) (step_of s.flat.memory was.hart r.hart)
                (omega (arith, from, counts, mine))
                (omega (arith, to, counts, mine)))
                ∙ sym (ap (λ (zs : List Step). moves_between n.from n.to (moves_of old.board.log n.hart has.made ++ zs))
                (own_moves old.board.log n.hart h m.1 parts.0 ∙ t.0))
                ∙ sym (ap (moves_between n.from n.to) (moves_append old.board.log n.hart has.made ((h, m.1) ∷ [])))
                ∙ ap (λ f. moves_between f n.to (moves_of old.board.log n.hart (has.made ++ (h, m.1) ∷ []))) (sym aim.from)
                ∙ ap (λ f. moves_between k.from f (moves_of old.board.log n.hart (has.made ++ (h, m.1) ∷ []))) (sym aim.to)
                ∙ ap (λ g. moves_between k.from k.to (moves_of old.board.log g (has.made ++ (h, m.1) ∷ []))) (sym aim.hart))
          ]

    -- the item of a hart whose move, if it is one, isn't to be noted
    pub unnoted : (r.count ≡ was.count) ⊎ (notes_at n h was.count ≡ false) → HasNoted image new n (after old.board.log h s)
    unnoted quiet = by (step (board (unit_of old.board.log)) old.board.log h s) refl where
      by : (o : Option (Replay FlatState × Option (List Step))) → step (board (unit_of old.board.log)) old.board.log h s ≡ o
          → HasNoted image new n (after old.board.log h s)
      by None e = subst (HasNoted image new n) (still_at e)
          (noted_same image old new n s log_is has (subst (IsAt image new) (sym (still_at e)) at))
      by (Some m) e = unnoted_made m e quiet

    -- a move that was noted
    pub noted : (k : Notes) (word : Option ℕ) → SameAim n k → r.count ≢ was.count → notes_at n h was.count ≡ true → word ≡ word_of was
        → k.steps.items ≡ n.steps.items ++ step_by was.hart word (move_of was.hart word) r.hart ∷ [] → HasNoted image new k (after old.board.log h s)
    noted k word aim uneven on word_is steps = by (step (board (unit_of old.board.log)) old.board.log h s) refl where
      by : (o : Option (Replay FlatState × Option (List Step))) → step (board (unit_of old.board.log)) old.board.log h s ≡ o
          → HasNoted image new k (after old.board.log h s)
      by None e = absurd (uneven (sym later_count ∙ ap (λ (z : Replay FlatState). slice_index z.flat.counts h) (sym (still_at e)) ∙ own_count))
      by (Some m) e = noted_made m e k word aim uneven on word_is steps

-- a leg, or none
pub leg_noted : (ran : Bool) (old new : Replaying) (h most : ℕ) (was r : Run) (n : Notes) → slice_get old.runs.items h ≡ Some was
    → (IsTrue ran → MakesMoves old.board was r h most) → (ran ≡ false → r ≡ was) → new.board ≡ old.board → new.runs.items ≡ slice_set old.runs.items h r
    → new.ends ≡ old.ends → IsQuiet n h was.count most → NotesOn old new n n
leg_noted true old new h most was r n there makes still board_is runs_are ends_are quiet image s has =
    let m = moved_on old new h most was r there (makes refl) board_is runs_are ends_are image s has.at in (
      m.at,
      noted_leg image old n s has new h most was r (ap (λ (b : Position). b.log) board_is) there quiet m
          (then_at old new h most was r there (makes refl) board_is runs_are ends_are image s has.at),
    )
leg_noted false old new h most was r n there makes still board_is runs_are ends_are quiet image s has =
    let same : IsSame old new =
    (board_is, (runs_are ∙ ap (slice_set old.runs.items h) (still refl) ∙ set_same old.runs.items h was there, ends_are)) in
    (s, noted_same image old new n s (ap (λ (b : Position). b.log) board_is) has (same_at image old new s same has.at))

-- an item and its note
pub item_noted : (old new : Replaying) (h : ℕ) (was r : Run) (n k : Notes) → LeadsOn old new h → new.board.log ≡ old.board.log
    → slice_get old.runs.items h ≡ Some was → slice_get new.runs.items h ≡ Some r → SameAim n k → NotesItem n k h (seen_of was) r → NotesOn old new n k
item_noted old new h was r n k leads log_is there then_there aim item image s has = (
  after old.board.log h s,
  elim item [
    | inl none ↦ subst (λ z. HasNoted image new z (after old.board.log h s)) (sym none.0)
        (unnoted image old n s has new h was r log_is (leads image s has.at) there then_there none.1)
    | inr one ↦ noted image old n s has new h was r log_is (leads image s has.at) there then_there k (word_of was) aim one.1.0 one.1.1 refl one.0
  ],
)

-- and its note, where none is missed
pub item_told : (old new : Replaying) (h : ℕ) (was r : Run) (n k : Notes) → LeadsOn old new h → new.board.log ≡ old.board.log
    → slice_get old.runs.items h ≡ Some was → slice_get new.runs.items h ≡ Some r → SameAim n k → HasAll n k (NotesItem n k h (seen_of was) r)
    → TellsOn old new n k
item_told old new h was r n k leads log_is there then_there aim item none =
    let all = item none in (all.0, item_noted old new h was r n k leads log_is there then_there aim all.1)

-- notes of stages, one after the other
pub noted_on : (a b c : Replaying) (l m n : Notes) → NotesOn a b l m → NotesOn b c m n → NotesOn a c l n
noted_on a b c l m n one two image s has = let t = one image s has in two image t.0 t.1

pub same_aim : (n : Notes) → SameAim n n
same_aim n = record { hart = refl; from = refl; to = refl }

pub aim_on : (l m n : Notes) → SameAim l m → SameAim m n → SameAim l n
aim_on l m n one two = record { hart = two.hart ∙ one.hart; from = two.from ∙ one.from; to = two.to ∙ one.to }

pub noted_here : (a : Replaying) (n : Notes) → NotesOn a a n n
noted_here a n image s has = (s, has)

pub told_on : (a b c : Replaying) (l m n : Notes) → TellsOn a b l m → TellsOn b c m n → TellsOn a c l n
told_on a b c l m n one two none =
    let last = two none in let first = one last.0 in (first.0, noted_on a b c l m n first.1 last.1)

pub told_by : (a b : Replaying) (n : Notes) → NotesOn a b n n → TellsOn a b n n
told_by a b n on none = (none, on)

pub told_here : (a : Replaying) (n : Notes) → TellsOn a a n n
told_here a n = told_by a a n (noted_here a n)
