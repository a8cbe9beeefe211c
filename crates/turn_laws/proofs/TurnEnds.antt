-- What closed a board in a turn, and what a turn leaves of a board that is closed.
use Rattle.std.proofs.Common.{◌≡◌, ℕ, zero, suc, ◌+◌, ◌<◌, ◌≤◌, ◌||◌, Bool, List, [], ◌∷◌, length, replicate}
use Rattle.std.proofs.Common.{Option, Some, None, is_some, slice_get, slice_set, unwrap_or, refl, sym, ap, ◌∙◌, subst, arith, if◌then◌else◌}
use Rattle.std.proofs.lemmas.Option.{none-some, same_Some}
use Rattle.std.proofs.lemmas.List.{length-set}
use Rattle.shared_types.proofs.Lists.{bound_to, set_here}
use Rattle.rv_words.specs.declared.shared.Cause.{Cause}
use Rattle.rv_words.specs.declared.shared.Cause.TheVariants.{Full, Fault}
use Rattle.rv_words.specs.declared.shared.TheConstants.{MAX_HARTS}
use Rattle.replay_model.specs.State.{Replay}
use Rattle.replay_model.specs.Items.{Item, Move, goes, verdict_on}
use Rattle.crew_recording.specs.Recording.{Recording, IsRecorded, stream_in}
use Rattle.crew_recording.specs.Allowed.{IsPolled}
use Rattle.crew_recording.proofs.Items.{moves}
use Rattle.crew_recording.proofs.OrderedRecordings.{IsOrdered, ordered_item}
use Rattle.turn_model.specs.Recordable.{Recordable}
use Rattle.turn_model.specs.Board.{Board, Order, Rest, Terms, last_order, log_of}
use Rattle.turn_model.specs.Ways.{Way, On, Ends, Nowhere}
use Rattle.turn_model.specs.Ways as ways
use Rattle.turn_model.specs.Steps.{runs, commits, polls, yields, rests_at_limit, gains, touches, goes_on, steps}
use Rattle.turn_model.specs.Turn.{turn, ended_by, items_made, with_rows, with_order}
use Rattle.turn_model.specs.Faithful.{IsFaithful}
use Rattle.turn_model.proofs.Ways.{recording_of, by_one}
use Rattle.turn_model.proofs.Turns.{Sound, CanMove, MadeBy, sound_made}
use Rattle.turn_model.proofs.Entries.{can_and_does, Committed, committed}
use Rattle.turn_laws.specs.EndLaws.{IsFull}
use Rattle.turn_laws.proofs.FewWaits.{few_all}
use Rattle.turn_laws.proofs.EndWalks.{WaitsAt, Few, Walks, steps_walk}

module _ {S V : Type 0} (machine : Recordable S V) (terms : Terms) (many : ℕ) (Good : S → Type 0)
    (faithful : IsFaithful machine.flat many terms.pages Good) (lines : (s : S) (h time : ℕ) → machine.flat.lines_at s h time < 4)
    (most : many ≤ MAX_HARTS) where
  abbrev SoundB : Board S → Type 0
  SoundB b = Sound machine terms many terms.pages Good faithful b

  abbrev Moves : ℕ → ℕ → Recording S → Type 0
  Moves h n r = CanMove machine terms many terms.pages Good faithful h n r

  abbrev Makes : Recording S → List (ℕ × Item) → Recording S → Type 0
  Makes r items s = MadeBy machine terms many terms.pages Good faithful r items s

  abbrev FewB : Board S → Type 0
  FewB b = Few machine terms many Good faithful lines most b

  abbrev WaitsB : ℕ → Replay S → Type 0
  WaitsB h s = WaitsAt machine terms many Good faithful lines most h s

  abbrev CommittedB : ℕ → ℕ → Board S → Board S → Type 0
  CommittedB h n b c = Committed machine terms many terms.pages Good faithful h n b c

  runs_made : (h n : ℕ) (r : Recording S) (s : Replay S) → IsOrdered machine.flat many Good faithful.steady faithful.timed terms.pages terms.limit r
      → h < length r.streams → Moves h n r → runs machine terms h n r.at ≡ Some s
      → Makes r (by_one h (replicate n Move)) (record { at = s; streams = r.streams })
  runs_made h zero r s ordered l can e = (ap (λ (x : Replay S). record r { at = x }) (same_Some _ _ e), tt, tt)
  runs_made h (suc n) r s ordered l can e =
      let m = bound_to (λ (m : Replay S × Option V). runs machine terms h n m.0) (goes machine.flat r.at h Move (verdict_on machine.flat r.at h Move)) s e in
      let c = can_and_does machine terms many terms.pages Good faithful r.at h Move (verdict_on machine.flat r.at h Move) m.0 m.1 in
      let next : Recording S = record { at = m.0.0; streams = r.streams } in
      let one : IsRecorded machine.flat r h Move next = record { hart = l; stands = tt; goes = c.0; made = c.1; streams = refl } in
      let now : machine.flat.count r.at.flat h + 0 ≡ machine.flat.count r.at.flat h = omega arith in
      let allowed = subst (λ k. (k < terms.limit) × IsPolled (stream_in r.streams h) k) now (can 0 (omega arith)) in
      let up = moves machine.flat many Good faithful.steady r.at m.0.0 h ordered.tidy.good c.1 in
      let rest =
      runs_made h n next s (ordered_item machine.flat many Good faithful.steady faithful.timed terms.pages terms.limit r next h Move ordered one allowed) l
      (λ i less. let k : machine.flat.count r.at.flat h + (i + 1) ≡ machine.flat.count m.0.0.flat h + i = omega (arith, up) in
      subst (λ z. (z < terms.limit) × IsPolled (stream_in r.streams h) z) k (can (i + 1) (omega (arith, less)))) m.2 in
      ((next, one, rest.0), (allowed, rest.1), (tt, rest.2))

  -- what a full log or a fault that closed a board left, and who rests
  abbrev pub ClosedSo : ℕ → Board S → Type 0
  ClosedSo h d = (d.closed ≡ Some Full → IsFull terms (log_of machine terms d)) × (d.closed ≡ Some Fault → WaitsB h d.at × (last_order d h ≡ Some Rest))

  pub turn_ends : (h n : ℕ) (b d : Board S) → h < many → SoundB b → Moves h n (recording_of b) → FewB b → length d.orders ≡ many
      → turn machine terms h n b ≡ Some d → b.closed ≡ None → ClosedSo h d
  turn_ends h n b d inside sound can few size is unshut =
      let c = bound_to (λ c. ended_by h n b (ways.goes (steps machine terms h) (On c))) (commits machine terms h n b) d is in
      let x = committed machine terms many terms.pages Good faithful h n b c.0 c.1 in
      let l : h < length b.streams = (let z = sound.ordered.tidy.streams in omega (arith, z, inside)) in
      let made : Makes (recording_of b) (by_one h (replicate n Move)) (recording_of c.0) =
      subst (λ ss. Makes (recording_of b) (by_one h (replicate n Move)) (record { at = c.0.at; streams = ss })) (sym x.streams)
      (runs_made h n (recording_of b) c.0.at sound.ordered l can x.ran) in
      let sound' : SoundB c.0 =
      sound_made machine terms many terms.pages Good faithful b c.0 (by_one h (replicate n Move)) sound made
      (ap (λ (xs : List (Option Order)). length xs) x.orders) in
      let few' : FewB c.0 =
      few_all machine terms many terms.pages lines most (recording_of b) (recording_of c.0) (by_one h (replicate n Move)) made.0 made.1 few in
      by (ways.goes (steps machine terms h) (On c.0))
      (steps_walk machine terms many Good faithful lines most h inside c.0 sound' few' (x.closed ∙ unshut)) c.2
    where
      by : (way : Way S) → Walks machine terms many Good faithful lines most h way → ended_by h n b way ≡ Some d → ClosedSo h d
      by (On e) walks ended = absurd (none-some _ ended)
      by Nowhere walks ended = absurd (none-some _ ended)
      by (Ends order e) walks ended =
          let same = same_Some _ _ ended in
          let closed : d.closed ≡ e.closed = sym (ap (λ (z : Board S). z.closed) same) in
          let orders : d.orders ≡ slice_set e.orders h (Some order) = sym (ap (λ (z : Board S). z.orders) same) in
          let long : length e.orders ≡ many = sym (length-set e.orders h (Some order)) ∙ sym (ap (λ (xs : List (Option Order)). length xs) orders) ∙ size in (
            λ shut. subst (λ (z : Board S). IsFull terms (log_of machine terms z)) same (walks.0 (sym closed ∙ shut)),
            λ shut.
                let w = walks.1 (sym closed ∙ shut) in (
                  subst (λ (z : Board S). WaitsB h z.at) same w.0,
                  ap (λ (os : List (Option Order)). unwrap_or (slice_get os h) None) orders
                      ∙ ap (λ o. unwrap_or o None) (set_here e.orders h (Some order) (omega (arith, inside, long))) ∙ ap Some w.1,
                ),
          )

  -- on a closed board a turn makes its moves alone
  pub closed_turn : (h n : ℕ) (b d : Board S) (cause : Cause) → turn machine terms h n b ≡ Some d → b.closed ≡ Some cause
      → (c : Board S) × CommittedB h n b c × (with_rows h n (items_made h n b c) b (with_order h Rest c) ≡ d)
  closed_turn h n b d cause is shut =
      let c = bound_to (λ c. ended_by h n b (ways.goes (steps machine terms h) (On c))) (commits machine terms h n b) d is in
      let x = committed machine terms many terms.pages Good faithful h n b c.0 c.1 in
      let rest = polls machine terms h ∷ yields machine terms h ∷ rests_at_limit machine terms h ∷ gains machine terms h ∷ touches machine terms h
      ∷ rests_at_limit machine terms h ∷ goes_on machine terms h ∷ [] in (
        c.0,
        x,
        same_Some _ _
            (sym (ap (λ (p : Bool). ended_by h n b (ways.goes rest (if p || machine.flat.is_stopped c.0.at.flat then Ends Rest c.0 else On c.0)))
            (ap (λ (o : Option Cause). is_some o) (x.closed ∙ shut))) ∙ c.2),
      )
