-- What a turn of one hart leaves of another.
use Rattle.std.proofs.Common.{◌≡◌, ◌≢◌, ℕ, zero, suc, ◌+◌, ◌<◌, ◌≤◌, false, List, [], ◌∷◌, ◌++◌, length, max, find, nat_lt, Option}
use Rattle.std.proofs.Common.{Some, None, slice_get, unwrap_or, refl, sym, ap, ◌∙◌, subst, arith}
use Rattle.std.proofs.lemmas.Option.{same_Some}
use Rattle.rv_words.specs.declared.shared.Mode.{Mode}
use Rattle.device_board.specs.Recording.{recorded_input}
use Rattle.log_entry.specs.declared.log.Entry.{Entry}
use Rattle.log_entry.specs.declared.log.Entry.TheVariants as entries
use Rattle.log_entry.specs.Parts.{strength}
use Rattle.flat_machine.specs.declared.act.Act.TheVariants.{Run}
use Rattle.order_rules.specs.Holders.{Holders, held}
use Rattle.replay_model.specs.State.{Replay, want}
use Rattle.replay_model.specs.Items.{Item, Ended, Move, Makes, goes, verdict_on, made, effect, past}
use Rattle.shared_types.proofs.Lists.{mapped, set_there, bound_to, find_same}
use Rattle.crew_recording.specs.Recording.{Recording, IsRecorded, first_recording}
use Rattle.std.proofs.lemmas.List.{length-set}
use Rattle.replay_law.proofs.Tables.{held_stays}
use Rattle.crew_recording.proofs.OrderedRecordings.{acts_on}
use Rattle.crew_recording.proofs.Together.{Made, made_after, others_same}
use Rattle.turn_model.specs.Recordable.{Recordable}
use Rattle.turn_model.specs.Board.{Board, Order, Terms, wanted, stream, last_order}
use Rattle.turn_model.specs.Ways.{entered}
use Rattle.turn_model.specs.Steps.{runs, poll_at, yield_of, gain_of, touch_of}
use Rattle.turn_model.specs.Turn.{turn}
use Rattle.turn_model.specs.Faithful.{IsFaithful}
use Rattle.turn_model.proofs.Ways.{recording_of, by_one, IsSoundBoard}
use Rattle.turn_model.proofs.StepInvariants.{Preserves}
use Rattle.turn_model.proofs.Entries.{after_entry, can_and_does}
use Rattle.turn_model.proofs.Turns.{CanMove, Goes, IsOf, turn_keeps}
use Rattle.round_progress.proofs.Ways.{acted_holders, holders_are, held_after, rises_by}

abbrev pub first_of : List (ℕ × Mode) → Option (ℕ × Mode)
first_of [] = None
first_of (k ∷ ks) = Some k

module _ {S V : Type 0} (machine : Recordable S V) (terms : Terms) (many : ℕ) (Good : S → Type 0) (faithful : IsFaithful machine.flat many terms.pages Good)
    (first : S) where
  abbrev MadeBy : Recording S → List (ℕ × Item) → Recording S → Type 0
  MadeBy r items s = Made machine.flat terms.pages terms.limit r items s

  -- what a hart needs that wants nothing, and whether it is a device access, stays while another makes an item; the first page of a need stays
  abbrev pub NeedsStay : Type 0
  NeedsStay =
      (r m : Recording S) (items : List (ℕ × Item)) (g h : ℕ) (item : Item) → MadeBy (first_recording terms.pages many first) items r
      → MadeBy r ((g, item) ∷ []) m → h ≢ g
      → (want machine.flat r.at h ≡ None → (machine.flat.need m.at.flat h ≡ machine.flat.need r.at.flat h)
      × (machine.flat.is_at_device m.at.flat h ≡ machine.flat.is_at_device r.at.flat h))
      × (first_of (machine.flat.need m.at.flat h) ≡ first_of (machine.flat.need r.at.flat h))

  -- what is left of a hart
  pub record Left (h : ℕ) (r s : Recording S) : Type 0 where
    pub held_so : (q : ℕ) → held s.at.holders q h ≡ held r.at.holders q h
    pub first_so : first_of (machine.flat.need s.at.flat h) ≡ first_of (machine.flat.need r.at.flat h)
    pub quiet : want machine.flat r.at h ≡ None → machine.flat.is_at_device r.at.flat h ≡ false → (want machine.flat s.at h ≡ None)
        × (machine.flat.is_at_device s.at.flat h ≡ false)

  entry_held : (g h q : ℕ) (e : Entry) (holders : Holders) → h ≢ g
      → held (held_after machine terms many terms.pages Good faithful g e holders) q h ≡ held holders q h
  entry_held g h q (entries.Gain count page seq mode waits) holders n = held_stays holders q g h (Some (page, Some mode)) n
  entry_held g h q (entries.Yield count page seq left) holders n = held_stays holders q g h (Some (page, left)) n
  entry_held g h q (entries.Poll count ord time bits) holders n = refl
  entry_held g h q (entries.Touch count ord input) holders n = refl
  entry_held g h q (entries.End count) holders n = refl

  one_held : (r m : Recording S) (g h q : ℕ) (item : Item) → h ≢ g → IsRecorded machine.flat r g item m → held m.at.holders q h ≡ held r.at.holders q h
  one_held r m g h q Ended n one = absurd one.stands
  one_held r m g h q Move n one = ap (λ hs. held hs q h) (acted_holders machine terms many terms.pages Good faithful r.at m.at (Run g) one.made)
  one_held r m g h q (Makes e) n one =
      let i = mapped (past machine.flat g e) (effect machine.flat r.at g e) m.at one.made in
      sym (ap (λ (x : Replay S). held x.holders q h) i.2) ∙ ap (λ hs. held hs q h) (holders_are machine terms many terms.pages Good faithful r.at i.0 g e i.1)
      ∙ entry_held g h q e r.at.holders n

  want_alike : (r m : Recording S) (h : ℕ) → ((q : ℕ) → held m.at.holders q h ≡ held r.at.holders q h)
      → machine.flat.need m.at.flat h ≡ machine.flat.need r.at.flat h → want machine.flat m.at h ≡ want machine.flat r.at h
  want_alike r m h same needs =
      find_same _ _ (machine.flat.need m.at.flat h) (λ n. ap (λ o. nat_lt (strength o) (strength (Some n.1))) (same n.0))
      ∙ ap (find (λ n. nat_lt (strength (held r.at.holders n.0 h)) (strength (Some n.1)))) needs

  items_leave : NeedsStay → (g h : ℕ) → h ≢ g → (own : List Item) (before : List (ℕ × Item)) (r s : Recording S)
      → MadeBy (first_recording terms.pages many first) before r → MadeBy r (by_one g own) s → Left h r s
  items_leave stay g h n [] before r s known made = subst (Left h r) made.0 (record { held_so = λ q. refl; first_so = refl; quiet = λ none off. (none, off) })
  items_leave stay g h n (item ∷ own) before r s known made =
      let m = made.0.0 in
      let one : MadeBy r ((g, item) ∷ []) made.0.0 = ((made.0.0, made.0.1, refl), (made.1.0, tt), (made.2.0, tt)) in
      let now = stay r made.0.0 before g h item known one n in
      let held_now : (q : ℕ) → held made.0.0.at.holders q h ≡ held r.at.holders q h = λ q. one_held r made.0.0 g h q item n made.0.1 in
      let rest =
      items_leave stay g h n own (before ++ (g, item) ∷ []) made.0.0 s
      (made_after machine.flat terms.pages terms.limit (first_recording terms.pages many first) r made.0.0 before ((g, item) ∷ []) known one)
      (made.0.2, made.1.1, made.2.1) in
      record {
        held_so = λ q. rest.held_so q ∙ held_now q;
        first_so = rest.first_so ∙ now.1;
        quiet = λ none off. rest.quiet (want_alike r made.0.0 h held_now (now.0 none).0 ∙ none) ((now.0 none).1 ∙ off);
      }

  -- so many moves raise the count by as many
  runs_rise : (h n : ℕ) (s t : Replay S) → Good s.flat → runs machine terms h n s ≡ Some t → machine.flat.count t.flat h ≡ machine.flat.count s.flat h + n
  runs_rise h zero s t good is = let e = ap (λ (x : Replay S). machine.flat.count x.flat h) (same_Some _ _ is) in omega (arith, e)
  runs_rise h (suc n) s t good is =
      let m = bound_to (λ (m : Replay S × Option V). runs machine terms h n m.0) (goes machine.flat s h Move (verdict_on machine.flat s h Move)) t is in
      let c = can_and_does machine terms many terms.pages Good faithful s h Move (verdict_on machine.flat s h Move) m.0 m.1 in
      let a = acts_on machine.flat many Good faithful.steady faithful.timed terms.pages terms.limit s m.0.0 (Run h) c.1 in
      let good' : Good m.0.0.flat = subst Good (sym a.2) (faithful.steady.lasts s.flat a.0 (Run h) good a.1) in
      let rest = runs_rise h n m.0.0 t good' m.2 in
      let one = ap (λ f. machine.flat.count f h) a.2 ∙ faithful.steady.moves s.flat a.0 h good a.1 in omega (arith, rest, one)

  -- what the turn of a hart leaves in the lists of the board
  module _ (h : ℕ) (inside : h < many) (orders : List (Option Order)) (wants : List (Option (ℕ × Mode))) (least : ℕ) where
    abbrev Lists : Board S → Type 0
    Lists c =
        (c.orders ≡ orders) × (length c.wants ≡ many) × ((q : ℕ) → q ≢ h → slice_get c.wants q ≡ slice_get wants q) × (least ≤ machine.flat.count c.at.flat h)

    entry_lists : (e : Entry) (c d : Board S) → Good c.at.flat → entered machine terms h e c ≡ Some d → Lists c → Lists d
    entry_lists e c d good is l =
        let x = after_entry machine terms many terms.pages Good faithful h e c d good is in
        let up = rises_by machine terms many terms.pages Good faithful h e c d good is in
        let low = l.3 in (
          x.orders ∙ l.0,
          ap (λ (ws : List (Option (ℕ × Mode))). length ws) x.wants ∙ l.1,
          λ q n. ap (λ (ws : List (Option (ℕ × Mode))). slice_get ws q) x.wants ∙ l.2 q n,
          omega (arith, up, low),
        )

    lists_keep : Preserves machine terms many terms.pages Good faithful h inside Lists Lists (λ order c. Lists c)
    lists_keep = record {
      stays = λ b l. l;
      opens = λ b l none running. l;
      rests = λ b l. l;
      goes = λ b until l. l;
      holds = λ b n g low is l. (l.0, length-set b.wants h (Some n) ∙ l.1, λ q other. set_there b.wants h q (Some n) other ∙ l.2 q other, l.3);
      fills = λ b low l. l;
      fills_for = λ b g n other is l. l;
      fails = λ b low l. l;
      favours = λ b l. l;
      polls =
          λ b d time left sound l room is made. entry_lists (poll_at machine terms h b (max time (machine.flat.time b.at.flat)))
          (record b { supply = left }) d sound.ordered.tidy.good made l;
      yields = λ b d n sound l room made. entry_lists (yield_of machine terms h n b) b d sound.ordered.tidy.good made l;
      gains = λ b d n sound l room made. entry_lists (gain_of machine terms h n b) b d sound.ordered.tidy.good made l;
      touches = λ b d word store answer now left rest sound l room access said is made.
          let e = touch_of machine terms h b (recorded_input word store (machine.flat.time b.at.flat) now answer) in
          let x = entry_lists e (record b { supply = rest }) d sound.ordered.tidy.good made l in (λ _. x, λ _. x);
    }

  -- behind a turn of a hart with so many moves
  pub record Behind (h n : ℕ) (b d : Board S) : Type 0 where
    pub orders : (q : ℕ) → q ≢ h → last_order d q ≡ last_order b q
    pub wants : (q : ℕ) → q ≢ h → wanted d q ≡ wanted b q
    pub wants_size : length d.wants ≡ many
    pub own : machine.flat.count b.at.flat h + n ≤ machine.flat.count d.at.flat h

  pub turn_behind : (h : ℕ) → h < many → (n : ℕ) (b d : Board S) → IsSoundBoard machine.flat many terms.pages terms.limit Good faithful b
      → CanMove machine terms many terms.pages Good faithful h n (recording_of b) → length b.wants ≡ many → turn machine terms h n b ≡ Some d → Behind h n b d
  turn_behind h inside n b d sound can size is =
      turn_keeps machine terms many terms.pages Good faithful h inside L L (λ order c. L c) (Behind h n b)
      (lists_keep h inside b.orders b.wants (machine.flat.count b.at.flat h + n)) n b d sound can is
      (λ c x. (
        x.orders,
        ap (λ (ws : List (Option (ℕ × Mode))). length ws) x.wants ∙ length-set b.wants h None ∙ size,
        λ q other. ap (λ (ws : List (Option (ℕ × Mode))). slice_get ws q) x.wants ∙ set_there b.wants h q None other,
        (let e = runs_rise h n b.at c.at sound.ordered.tidy.good x.ran in omega (arith, e)),
      ))
      (λ c order l. record {
        orders =
            λ q other. ap (λ o. unwrap_or o None) (set_there c.orders h q (Some order) other)
            ∙ ap (λ (os : List (Option Order)). unwrap_or (slice_get os q) None) l.0;
        wants = λ q other. ap (λ o. unwrap_or o None) (l.2 q other);
        wants_size = l.1;
        own = l.3;
      })
    where
      L : Board S → Type 0
      L c = Lists h inside b.orders b.wants (machine.flat.count b.at.flat h + n) c

  -- and of another hart
  pub turn_leaves : NeedsStay → (h q : ℕ) → q ≢ h → (before : List (ℕ × Item)) (b d : Board S)
      → MadeBy (first_recording terms.pages many first) before (recording_of b) → (goes : Goes machine terms many terms.pages Good faithful b d)
      → IsOf machine terms many terms.pages Good faithful h b goes.items → Left q (recording_of b) (recording_of d)
  turn_leaves stay h q other before b d known goes of =
      items_leave stay h q other of.own before (recording_of b) (recording_of d) known
      (subst (λ items. MadeBy (recording_of b) items (recording_of d)) of.are goes.made)

  -- its count and its stream stay
  pub turn_same : (h q : ℕ) → q ≢ h → (b d : Board S) → IsSoundBoard machine.flat many terms.pages terms.limit Good faithful b
      → (goes : Goes machine terms many terms.pages Good faithful b d) → IsOf machine terms many terms.pages Good faithful h b goes.items
      → (stream d q ≡ stream b q) × (machine.flat.count d.at.flat q ≡ machine.flat.count b.at.flat q)
  turn_same h q other b d sound goes of =
      let x =
      others_same machine.flat many Good faithful.steady faithful.timed terms.pages terms.limit (recording_of b)
      (recording_of d) h q of.own other sound.ordered (subst (λ items. MadeBy (recording_of b) items (recording_of d)) of.are goes.made) in
      (x.stream, x.count)
