-- A turn of one hart leaves what another hart sees, and so the leg that it has ahead.
use Rattle.std.proofs.Common.{◌≡◌, ◌≢◌, ℕ, zero, suc, ◌+◌, ◌-◌, ◌<◌, ◌≤◌, List, [], ◌∷◌, ◌++◌, length, find, max, Bool, inl, inr, ◌⊎◌, Option, Some, None}
use Rattle.std.proofs.Common.{is_some, slice_get, unwrap_or, refl, sym, ap, ap₂, ◌∙◌, subst, arith}
use Rattle.std.specs.Prelude.{IsSome, min}
use Rattle.std.specs.Option.{option_map, option_and_then, option_map_or}
use Rattle.std.proofs.Math.Nat.{min-zero, zero-min, suc-min-suc}
use Rattle.std.proofs.lemmas.Option.{none-some, same_Some}
use Rattle.log_entry.specs.declared.log.Log.{Log}
use Rattle.elf_image.specs.Image.{Image, IsWhole}
use Rattle.flat_machine.specs.State.{FlatState, flat_at_start}
use Rattle.flat_machine.specs.Acts.{next}
use Rattle.flat_machine.specs.declared.act.Act.{Act}
use Rattle.flat_machine.specs.declared.act.Act.TheVariants as act
use Rattle.flat_machine.specs.declared.results.Step.{Step}
use Rattle.guest_pages.specs.Pages.{page_of}
use Rattle.replay_model.specs.Board.{board, hart_access}
use Rattle.order_rules.specs.Holders.{held, row}
use Rattle.replay_model.specs.State.{Replay, want, IsCrewState}
use Rattle.replay_model.specs.Items.{Item, Move, CanGo, Verdict, HasDiverged, HasEnded, Holds, judged, goes, told_of, verdict_on, made, step}
use Rattle.replay_model.proofs.ActsOfOrders.{went}
use Rattle.crew_recording.specs.Recording.{Recording, first_recording}
use Rattle.crew_recording.proofs.Together.{made_after, others_same}
use Rattle.replay_law.proofs.Local.{actor, HasPages}
use Rattle.replay_law.proofs.Steps.{act_of, flat_after, hold_in, step_went}
use Rattle.replay_law.proofs.Tables.{held_stays}
use Rattle.replay_law.proofs.Verdicts.{act_is}
use Rattle.replay_law.proofs.Views.{Shape, Sound, view, view_agrees, view_is_one}
use Rattle.replay_law.proofs.Boards.{made_of, view_stays}
use Rattle.run_model.specs.Run.{Run, IsOneRun, ahead_of, hold_of, moved_by, move_held}
use Rattle.run_model.specs.Agreement.{Agrees, Asks, after_move}
use Rattle.run_model.specs.Legs.{Runs, KeepsPages, DifferFor}
use Rattle.run_model.specs.declared.asked.Ahead.{Ahead}
use Rattle.run_model.specs.declared.asked.Ahead.TheVariants.{Free, Wants, AtDevice}
use Rattle.run_model.specs.Laws.{IsMoved}
use Rattle.run_model.proofs.Laws.{ahead_agrees, moves_agree, keeps_on_move}
use Rattle.turn_model.specs.Board.{unit_in, Board, Order, Go, Hold, Rest, Supply, Terms, last_order, count}
use Rattle.turn_model.specs.Ways.{entered}
use Rattle.turn_model.specs.Steps.{runs, poll_at, yield_of, gain_of, touch_of}
use Rattle.turn_model.proofs.StepInvariants.{Preserves}
use Rattle.turn_model.proofs.Turns.{turn_keeps}
use Rattle.turn_model.proofs.Entries.{after_entry}
use Rattle.log_entry.specs.declared.log.Entry.{Entry}
use Rattle.device_board.specs.Recording.{recorded_input}
use Rattle.shared_types.proofs.Lists.{set_there, found_at, bound_to}
use Rattle.crew_recording.proofs.OrderedRecordings.{acts_on}
use Rattle.turn_model.specs.Lists.{leg, leg_by, whole_leg}
use Rattle.turn_model.specs.Turn.{turn}
use Rattle.turn_model.specs.Laws.{IsPagedBoard, machine_in}
use Rattle.turn_model.proofs.Ways.{recording_of, by_one}
use Rattle.turn_laws.specs.Reached.{Reached, Turned}
use Rattle.turn_laws.proofs.ReachedBoards.{MadeBy, ReachedB, reached_is, sound_of, known, known_sound, known_step, can_make, turn_made, faithful_board}
use Rattle.turn_laws.proofs.ReachedBoards.{shape_in}
use Rattle.turn_laws.specs.Laws.{AgreesIn, AgreesAlike, HasSame, IsSameTo}

-- a run agrees with a state of other holders, where its own modes stay
agrees_held : (x : Run) (h : ℕ) (s m : Replay FlatState) → Agrees x h s → m.flat ≡ s.flat → length m.holders ≡ length s.holders
    → ((page : ℕ) → page < length s.holders → length (row m.holders page) ≡ length (row s.holders page))
    → ((page : ℕ) → held m.holders page h ≡ held s.holders page h) → Agrees x h m
agrees_held x h s m a flat table rows modes = record {
  unit_is = a.unit_is;
  harts = ap (λ (f : FlatState). length f.harts) flat ∙ a.harts;
  memory = ap (λ (f : FlatState). length f.memory) flat ∙ a.memory;
  table = table ∙ a.table;
  rows = λ page l. rows page (omega (arith, l, table)) ∙ a.rows page (omega (arith, l, table)) ∙ sym (ap (λ (f : FlatState). length f.harts) flat);
  hart = ap (λ (f : FlatState). slice_get f.harts h) flat ∙ a.hart;
  count = ap (λ (f : FlatState). slice_get f.counts h) flat ∙ a.count;
  modes = λ page. modes page ∙ a.modes page;
  bytes = λ page some. ap (λ (f : FlatState). page_of x.frames.unit f.memory page) flat ∙ a.bytes page some;
}

-- what one run agrees with in two states, each run agrees with that agrees with one of them
agrees_by : (terms : Terms) (h : ℕ) (x y : Run) (s t : Replay FlatState) → AgreesIn terms x h s → AgreesIn terms x h t → AgreesIn terms y h s
    → AgreesIn terms y h t
agrees_by terms h x y s t a b c = (
  c.0,
  record {
    unit_is = c.1.unit_is;
    harts = b.1.harts ∙ sym a.1.harts ∙ c.1.harts;
    memory = b.1.memory ∙ sym a.1.memory ∙ c.1.memory;
    table = b.1.table ∙ sym a.1.table ∙ c.1.table;
    rows = b.1.rows;
    hart = b.1.hart ∙ sym a.1.hart ∙ c.1.hart;
    count = b.1.count ∙ sym a.1.count ∙ c.1.count;
    modes = λ page. b.1.modes page ∙ sym (a.1.modes page) ∙ c.1.modes page;
    bytes = λ page some.
        let there : IsSome (hold_of x page) = subst (λ o. IsSome o) (sym (c.1.modes page) ∙ a.1.modes page) some in
        let unit : y.frames.unit ≡ x.frames.unit = c.0 ∙ sym a.0 in
        ap (λ u. page_of u t.flat.memory page) unit ∙ b.1.bytes page there ∙ sym (a.1.bytes page there)
        ∙ ap (λ u. page_of u s.flat.memory page) (sym unit) ∙ c.1.bytes page some;
  },
)

-- and of both the hart has the same
same_by : (terms : Terms) (h : ℕ) (x : Run) (s t : Replay FlatState) → AgreesIn terms x h s → AgreesIn terms x h t → HasSame terms h s t
same_by terms h x s t a b = record {
  same_hart = b.1.hart ∙ sym a.1.hart;
  same_count = b.1.count ∙ sym a.1.count;
  same_table = b.1.table ∙ sym a.1.table;
  same_modes = λ page. b.1.modes page ∙ sym (a.1.modes page);
  same_bytes = λ page some.
      let there : IsSome (hold_of x page) = subst (λ o. IsSome o) (a.1.modes page) some in
      ap (λ u. page_of u t.flat.memory page) (sym a.0) ∙ b.1.bytes page there ∙ sym (a.1.bytes page there)
      ∙ ap (λ u. page_of u s.flat.memory page) a.0;
}

-- states that differ for a hart alone, one after another
differ_then : (u h : ℕ) (s m t : Replay FlatState) → DifferFor u h s m → DifferFor u h m t → DifferFor u h s t
differ_then u h s m t one two = record {
  harts = λ g n. two.harts g n ∙ one.harts g n;
  counts = λ g n. two.counts g n ∙ one.counts g n;
  pages = λ page n. two.pages page (λ e. n (ap (λ hs. held hs page h) (sym one.holders) ∙ e)) ∙ one.pages page n;
  devices = two.devices ∙ one.devices;
  holders = two.holders ∙ one.holders;
  cursor = two.cursor ∙ one.cursor;
}

differ_none : (u h : ℕ) (s : Replay FlatState) → DifferFor u h s s
differ_none u h s = record { harts = λ g n. refl; counts = λ g n. refl; pages = λ page n. refl; devices = refl; holders = refl; cursor = refl }

module _ (shape : Shape) where
  -- a run on frames of the shape's unit
  abbrev Fits : Run → ℕ → Replay FlatState → Type 0
  Fits x h s = (x.frames.unit ≡ shape.unit) × Agrees x h s

  act_agrees : (s : Replay FlatState) (a : Act) (t : FlatState) (h : ℕ) (x : Run) → Sound shape s → HasPages (board shape.unit) s a → next a s.flat ≡ Some t
      → h ≢ actor a → Fits x h s → Agrees x h (record s { flat = t })
  act_agrees s a t h x sound has did other agrees =
      let m = made_of shape s a t sound has did in
      view_stays shape s (actor a) h x m.after.0 t sound other agrees.1 agrees.0 m.done

  acts_agree : (s : Replay FlatState) (g h : ℕ) (item : Item) (p : Option Act) (t : FlatState) (x : Run) → Sound shape s
      → verdict_on (board shape.unit) s g item ≡ CanGo → act_of (board shape.unit) s g item ≡ p → h ≢ g → flat_after (board shape.unit) s.flat p ≡ Some t
      → Fits x h s → Agrees x h (record s { flat = t })
  acts_agree s g h item None t x sound go is other after agrees = subst (λ f. Agrees x h (record s { flat = f })) (same_Some _ _ after) agrees.1
  acts_agree s g h item (Some act) t x sound go is other after agrees =
      let a = act_is (board shape.unit) s g item act go is in
      act_agrees s act t h x sound a.has after (λ e. other (e ∙ a.by)) agrees

  step_agrees : (log : Log) (s t : Replay FlatState) (g h : ℕ) (w : Option (List Step)) (x : Run) → Sound shape s → Sound shape t → h ≢ g
      → step (board shape.unit) log g s ≡ Some (t, w) → Fits x h s → Agrees x h t
  step_agrees log s t g h w x sound sound' other is agrees =
      let y = step_went (board shape.unit) log s t g w is in
      let f = acts_agree s g h y.item (act_of (board shape.unit) s g y.item) t.flat x sound y.go refl other y.flat_is agrees in
      agrees_held x h (record s { flat = t.flat }) t f refl (sound'.table ∙ sym sound.table)
      (λ page l. sound'.rows page (let k = sound.table in omega (arith, l, k)) ∙ sym (sound.rows page (let k = sound.table in omega (arith, l, k))))
      (λ page. ap (λ (z : Replay FlatState). held z.holders page h) y.built_is ∙ held_stays s.holders page g h (hold_in y.item) other)

-- the holders are CREW, in the terms' unit
abbrev IsCrewIn : Terms → Replay FlatState → Type 0
IsCrewIn terms s = IsCrewState (board (unit_in terms)) s

-- a run that asks for nothing moves
moves_free : (terms : Terms) (x : Run) (h : ℕ) (s : Replay FlatState) → AgreesIn terms x h s → IsOneRun x → IsCrewIn terms s → ahead_of x ≡ Free
    → IsMoved x h s
moves_free terms x h s a one crew free = moves_agree x h s a.1 one (subst (λ u. IsCrewState (board u) s) (sym a.0) crew) free

-- one more run, by what is ahead
goes_free : (terms : Terms) (x : Run) (h : ℕ) (s : Replay FlatState) → AgreesIn terms x h s → IsMoved x h s
    → (w : Option (List Step)) × (goes (board (unit_in terms)) s h Move (verdict_on (board (unit_in terms)) s h Move) ≡ Some (after_move x h s, w))
goes_free terms x h s a m =
    subst (λ u. (w : Option (List Step)) × (goes (board u) s h Move (verdict_on (board u) s h Move) ≡ Some (after_move x h s, w))) a.0 (
      told_of (board x.frames.unit) s h Move (after_move x h s),
      ap (goes (board x.frames.unit) s h Move) m.goes
          ∙ ap (λ o. option_map (λ t. (t, told_of (board x.frames.unit) s h Move t)) o) m.made,
    )

-- nothing else goes
goes_not : (terms : Terms) (x : Run) (h : ℕ) (s : Replay FlatState) → AgreesIn terms x h s → ahead_of x ≢ Free
    → goes (board (unit_in terms)) s h Move (verdict_on (board (unit_in terms)) s h Move) ≡ None
goes_not terms x h s a not_free =
    subst (λ u. goes (board u) s h Move (verdict_on (board u) s h Move) ≡ None) a.0 (by (ahead_of x) refl (ahead_agrees x h s a.1)) where
      by : (o : Ahead) → ahead_of x ≡ o → Asks (want (board x.frames.unit) s h) (hart_access s.flat h) o
          → goes (board x.frames.unit) s h Move (verdict_on (board x.frames.unit) s h Move) ≡ None
      by Free is asks = absurd (not_free is)
      by (Wants page mode) is asks = ap (λ w. goes (board x.frames.unit) s h Move (judged (board x.frames.unit) (option_map (λ (t : ℕ × Bool). t.0)
          (find (λ (t : ℕ × Bool). t.1) ((1, is_some w) ∷ (2, (board x.frames.unit).is_at_device s.flat h) ∷ []))))) asks
      by (AtDevice at) is asks =
          ap₂ (λ w o. goes (board x.frames.unit) s h Move (judged (board x.frames.unit) (option_map (λ (t : ℕ × Bool). t.0)
          (find (λ (t : ℕ × Bool). t.1) ((1, is_some w) ∷ (2, is_some o) ∷ []))))) asks.0 asks.1

-- behind a move the run agrees again
agrees_again : (terms : Terms) (x : Run) (h : ℕ) (s : Replay FlatState) → AgreesIn terms x h s → ahead_of x ≡ Free → IsMoved x h s
    → AgreesIn terms (moved_by x (move_held x)) h (after_move x h s)
agrees_again terms x h s a free m = ((keeps_on_move x x itself free).unit_is ∙ a.0, m.agrees) where
  itself : KeepsPages x x
  itself = record { held = refl; unit_is = refl; number = refl; board = (refl, refl); frames = λ page n. refl }

-- and the holders are CREW
crew_again : (terms : Terms) (x : Run) (h : ℕ) (s : Replay FlatState) → AgreesIn terms x h s → IsMoved x h s → IsCrewIn terms (after_move x h s)
crew_again terms x h s a m = subst (λ u. IsCrewState (board u) (after_move x h s)) a.0 m.crew

is_free : (o : Ahead) → (o ≡ Free) ⊎ (o ≢ Free)
is_free Free = inl refl
is_free (Wants page mode) = inr (λ e. let bad : ⊥ = cc in bad)
is_free (AtDevice at) = inr (λ e. let bad : ⊥ = cc in bad)

module _ (terms : Terms) (h : ℕ) where
  -- a run of which these are the hart's states
  abbrev Sees : Run → Replay FlatState → Type 0
  Sees x s = AgreesIn terms x h s × IsCrewIn terms s

  abbrev longer : ℕ → Option (Replay FlatState × Option (List Step)) → ℕ
  longer most o = option_map_or (λ (m : Replay FlatState × Option (List Step)). suc (leg (machine_in terms) terms h most m.0)) o 0

  abbrev further : ℕ → Option (Replay FlatState × Option (List Step)) → Option (Replay FlatState)
  further k = option_and_then (λ (z : Replay FlatState × Option (List Step)). runs (machine_in terms) terms h k z.0)

  sees_again : (x : Run) (s : Replay FlatState) → Sees x s → IsOneRun x → ahead_of x ≡ Free
      → IsMoved x h s × Sees (moved_by x (move_held x)) (after_move x h s)
  sees_again x s sees one free =
      let m = moves_free terms x h s sees.0 one sees.1 free in
      (m, (agrees_again terms x h s sees.0 free m, crew_again terms x h s sees.0 m))

  -- the leg of a hart hangs on what it sees
  pub leg_alike : (most : ℕ) (x : Run) (s t : Replay FlatState) → IsOneRun x → Sees x s → Sees x t
      → leg (machine_in terms) terms h most s ≡ leg (machine_in terms) terms h most t
  leg_alike zero x s t one a b = refl
  leg_alike (suc most) x s t one a b = elim (is_free (ahead_of x)) [
    | inl free ↦
        let m = sees_again x s a one free in
        let n = sees_again x t b one free in
        ap (longer most) (goes_free terms x h s a.0 m.0).1
        ∙ ap suc (leg_alike most (moved_by x (move_held x)) (after_move x h s) (after_move x h t) m.0.one m.1 n.1)
        ∙ sym (ap (longer most) (goes_free terms x h t b.0 n.0).1)
    | inr not_free ↦ ap (longer most) (goes_not terms x h s a.0 not_free ∙ sym (goes_not terms x h t b.0 not_free))
  ]

  -- and so do its moves
  pub runs_alike : (k : ℕ) (x : Run) (s t m : Replay FlatState) → IsOneRun x → Sees x s → Sees x t
      → runs (machine_in terms) terms h k s ≡ Some m
      → (n : Replay FlatState) × (runs (machine_in terms) terms h k t ≡ Some n) × AgreesAlike terms h m n
  runs_alike zero x s t m one a b is =
      let last = subst (AgreesIn terms x h) (same_Some _ _ is) a.0 in
      (t, refl, record { run = (x, one, last); each = λ y c. agrees_by terms h x y m t last b.0 c })
  runs_alike (suc k) x s t m one a b is = elim (is_free (ahead_of x)) [
    | inl free ↦
        let first = sees_again x s a one free in
        let second = sees_again x t b one free in
        let rest =
        runs_alike k (moved_by x (move_held x)) (after_move x h s) (after_move x h t) m first.0.one first.1 second.1
        (sym (ap (further k) (goes_free terms x h s a.0 first.0).1) ∙ is) in
        (rest.0, ap (further k) (goes_free terms x h t b.0 second.0).1 ∙ rest.1, rest.2)
    | inr not_free ↦ absurd (none-some m (sym (ap (further k) (goes_not terms x h s a.0 not_free)) ∙ is))
  ]

  -- which leave all others
  pub runs_leave : (k : ℕ) (x : Run) (s m : Replay FlatState) → IsOneRun x → Sees x s → runs (machine_in terms) terms h k s ≡ Some m
      → DifferFor (unit_in terms) h s m × IsCrewIn terms m × ((y : Run) × IsOneRun y × AgreesIn terms y h m)
  runs_leave zero x s m one a is =
      subst (λ z. DifferFor (unit_in terms) h s z × IsCrewIn terms z × ((y : Run) × IsOneRun y × AgreesIn terms y h z)) (same_Some _ _ is)
      (differ_none (unit_in terms) h s, a.1, (x, one, a.0))
  runs_leave (suc k) x s m one a is = elim (is_free (ahead_of x)) [
    | inl free ↦
        let first = sees_again x s a one free in
        let rest =
        runs_leave k (moved_by x (move_held x)) (after_move x h s) m first.0.one first.1
        (sym (ap (further k) (goes_free terms x h s a.0 first.0).1) ∙ is) in
        (differ_then (unit_in terms) h s (after_move x h s) m (subst (λ u. DifferFor u h s (after_move x h s)) a.0.0 first.0.others) rest.0, rest.1, rest.2)
    | inr not_free ↦ absurd (none-some m (sym (ap (further k) (goes_not terms x h s a.0 not_free)) ∙ is))
  ]

  -- so many moves are of a leg that may have as many
  runs_within : (k most : ℕ) (s t : Replay FlatState) → k ≤ most → runs (machine_in terms) terms h k s ≡ Some t
      → k ≤ leg (machine_in terms) terms h most s
  runs_within zero most s t l is = omega arith
  runs_within (suc k) zero s t l is = absurd (omega (arith, l))
  runs_within (suc k) (suc most) s t l is =
      let m = bound_to (λ (z : Replay FlatState × Option (List Step)). runs (machine_in terms) terms h k z.0)
      (goes (board (unit_in terms)) s h Move (verdict_on (board (unit_in terms)) s h Move)) t is in
      let rest = runs_within k most m.0.0 t (omega (arith, l)) m.2 in
      let e = ap (longer most) m.1 in omega (arith, rest, e)

  -- a leg that ends sooner
  pub leg_sooner : (k most : ℕ) (s : Replay FlatState) → leg (machine_in terms) terms h (min k most) s ≡ min k (leg (machine_in terms) terms h most s)
  leg_sooner zero most s =
      ap (λ n. leg (machine_in terms) terms h n s) (zero-min most) ∙ sym (zero-min (leg (machine_in terms) terms h most s))
  leg_sooner (suc k) zero s = ap (λ n. leg (machine_in terms) terms h n s) (min-zero (suc k)) ∙ sym (min-zero (suc k))
  leg_sooner (suc k) (suc most) s =
      ap (λ n. leg (machine_in terms) terms h n s) (suc-min-suc k most)
      ∙ by (goes (board (unit_in terms)) s h Move (verdict_on (board (unit_in terms)) s h Move)) (λ m. leg_sooner k most m)
    where
      by : (o : Option (Replay FlatState × Option (List Step)))
          → ((m : Replay FlatState) → leg (machine_in terms) terms h (min k most) m ≡ min k (leg (machine_in terms) terms h most m))
          → longer (min k most) o ≡ min (suc k) (longer most o)
      by None f = sym (min-zero (suc k))
      by (Some m) f = ap suc (f m.0) ∙ sym (suc-min-suc k (leg (machine_in terms) terms h most m.0))

module _ (terms : Terms) (image : Image) (harts : ℕ) (supply : Supply) (whole : IsWhole image) (pages : terms.pages ≡ image.pages) where
  abbrev MadeB : Recording FlatState → List (ℕ × Item) → Recording FlatState → Type 0
  MadeB r items s = MadeBy terms image harts supply pages r items s

  -- along the items of one hart
  items_agree : (g h : ℕ) → h ≢ g → (own : List Item) (before : List (ℕ × Item)) (r s : Recording FlatState) (x : Run)
      → MadeB (first_recording terms.pages harts (flat_at_start image harts)) before r → MadeB r (by_one g own) s → AgreesIn terms x h r.at
      → AgreesIn terms x h s.at
  items_agree g h other [] before r s x so_far made a = subst (λ (z : Recording FlatState). AgreesIn terms x h z.at) made.0 a
  items_agree g h other (item ∷ own) before r s x so_far made a =
      let one : MadeB r ((g, item) ∷ []) made.0.0 = ((made.0.0, made.0.1, refl), (made.1.0, tt), (made.2.0, tt)) in
      let further =
      made_after (board (unit_in terms)) terms.pages terms.limit (first_recording terms.pages harts (flat_at_start image harts)) r made.0.0 before
      ((g, item) ∷ []) so_far one in
      let is = known_step terms image harts supply pages r made.0.0 before g item so_far one in
      items_agree g h other own (before ++ (g, item) ∷ []) made.0.0 s x further (made.0.2, made.1.1, made.2.1) (
        a.0,
        step_agrees (shape_in terms harts) is.0 r.at made.0.0.at g h is.1.0 x (known_sound terms image harts supply pages whole r before so_far)
            (known_sound terms image harts supply pages whole made.0.0 (before ++ (g, item) ∷ []) further) other is.1.1 a,
      )

  abbrev pub ReachedFrom : Board FlatState → Type 0
  ReachedFrom b = Reached (machine_in terms) terms harts (flat_at_start image harts) supply b

  pub runs_stay : (g n h : ℕ) (b d : Board FlatState) (x : Run) → ReachedFrom b → g < harts → n ≤ whole_leg (machine_in terms) terms g b
      → turn (machine_in terms) terms g n b ≡ Some d → h ≢ g → AgreesIn terms x h b.at → AgreesIn terms x h d.at
  runs_stay g n h b d x r inside most is other a =
      let reached = reached_is terms image harts supply pages b r in
      let m = turn_made terms image harts supply pages g n b d inside reached most is in
      items_agree g h other m.1.own reached.goes.items (recording_of b) (recording_of d) x (known terms image harts supply pages b reached)
      (subst (λ items. MadeB (recording_of b) items (recording_of d)) m.1.are m.0.made) a

  pub board_sound : (b : Board FlatState) → ReachedFrom b → Sound (shape_in terms harts) b.at
  board_sound b r =
      let reached = reached_is terms image harts supply pages b r in
      known_sound terms image harts supply pages whole (recording_of b) reached.goes.items (known terms image harts supply pages b reached)

  -- the orders stay along the steps of a turn
  orders_keep : (g : ℕ) (inside : g < harts) (orders : List (Option Order))
      → Preserves (machine_in terms) terms harts terms.pages (IsPagedBoard harts terms.pages) (faithful_board terms harts terms.pages) g inside
      (λ c. c.orders ≡ orders) (λ c. c.orders ≡ orders) (λ order c. c.orders ≡ orders)
  orders_keep g inside orders = record {
    stays = λ b l. l;
    opens = λ b l none running. l;
    rests = λ b l. l;
    goes = λ b until l. l;
    holds = λ b n k low is l. l;
    fills = λ b low l. l;
    fills_for = λ b k n other is l. l;
    fails = λ b low l. l;
    favours = λ b l. l;
    polls =
        λ b d time left sound l room is made. entry (poll_at (machine_in terms) terms g b (max time ((board (unit_in terms)).time b.at.flat)))
        (record b { supply = left }) d sound.ordered.tidy.good made l;
    yields = λ b d n sound l room made. entry (yield_of (machine_in terms) terms g n b) b d sound.ordered.tidy.good made l;
    gains = λ b d n sound l room made. entry (gain_of (machine_in terms) terms g n b) b d sound.ordered.tidy.good made l;
    touches = λ b d word store answer now left rest sound l room access said is made.
        let e = touch_of (machine_in terms) terms g b (recorded_input word store ((board (unit_in terms)).time b.at.flat) now answer) in
        let x = entry e (record b { supply = rest }) d sound.ordered.tidy.good made l in (λ _. x, λ _. x);
  } where
    entry : (e : Entry) (c d : Board FlatState) → IsPagedBoard harts terms.pages c.at.flat → entered (machine_in terms) terms g e c ≡ Some d
        → c.orders ≡ orders → d.orders ≡ orders
    entry e c d good is l =
        (after_entry (machine_in terms) terms harts terms.pages (IsPagedBoard harts terms.pages)
        (faithful_board terms harts terms.pages) g e c d good is).orders ∙ l

  orders_stay : (g n h : ℕ) (b d : Board FlatState) → ReachedB terms image harts supply pages b → g < harts → n ≤ whole_leg (machine_in terms) terms g b
      → turn (machine_in terms) terms g n b ≡ Some d → h ≢ g → last_order d h ≡ last_order b h
  orders_stay g n h b d reached inside most is other =
      turn_keeps (machine_in terms) terms harts terms.pages (IsPagedBoard harts terms.pages) (faithful_board terms harts terms.pages) g inside
      (λ c. c.orders ≡ b.orders) (λ c. c.orders ≡ b.orders) (λ order c. c.orders ≡ b.orders) (λ c. last_order c h ≡ last_order b h)
      (orders_keep g inside b.orders) n b d
      (sound_of terms image harts supply pages b reached) (can_make terms image harts supply pages g n b inside reached most) is (λ c x. x.orders)
      (λ c order l. ap (λ o. unwrap_or o None) (set_there c.orders g h (Some order) other)
      ∙ ap (λ (os : List (Option Order)). unwrap_or (slice_get os h) None) l)

  pub reached_are_crew : (b : Board FlatState) → ReachedFrom b → IsPagedBoard harts terms.pages b.at.flat × (length b.streams ≡ harts)
      × IsCrewState (board (unit_in terms)) b.at × ((h : ℕ) → h < harts → (x : Run) × IsOneRun x × AgreesIn terms x h b.at)
  reached_are_crew b r =
      let sound = board_sound b r in
      let tidy = (sound_of terms image harts supply pages b (reached_is terms image harts supply pages b r)).ordered.tidy in (
        tidy.good,
        tidy.streams,
        sound.crew,
        λ h l.
            let x = found_at b.at.flat.harts h (let k = sound.sized.harts_size in omega (arith, l, k)) in (
              view (shape_in terms harts) b.at h x.0,
              view_is_one (shape_in terms harts) b.at h x.0 sound x.1,
              (refl, view_agrees (shape_in terms harts) b.at h x.0 sound x.1),
            ),
      )

  pub legs_stay : (g n h : ℕ) (b d : Board FlatState) → ReachedFrom b → g < harts → n ≤ whole_leg (machine_in terms) terms g b
      → turn (machine_in terms) terms g n b ≡ Some d → h < harts → h ≢ g
      → IsSameTo terms h b d
  legs_stay g n h b d r inside most is there other =
      let reached = reached_is terms image harts supply pages b r in
      let m = turn_made terms image harts supply pages g n b d inside reached most is in
      let sound = sound_of terms image harts supply pages b reached in
      let faithful = faithful_board terms harts terms.pages in
      let same =
      others_same (board (unit_in terms)) harts (IsPagedBoard harts terms.pages) faithful.steady faithful.timed terms.pages terms.limit (recording_of b)
      (recording_of d) g h m.1.own other sound.ordered (subst (λ items. MadeB (recording_of b) items (recording_of d)) m.1.are m.0.made) in
      let order = orders_stay g n h b d reached inside most is other in
      let x = (reached_are_crew b r).3 h there in
      let seen : Sees terms h x.0 b.at = (x.2, (board_sound b r).crew) in
      let still : Sees terms h x.0 d.at = (runs_stay g n h b d x.0 r inside most is other x.2, (board_sound d (Turned g n b d r inside most is)).crew) in
      record {
        same_order = order;
        same_entries = same.stream;
        same_count = same.count;
        same_part = same_by terms h x.0 b.at d.at seen.0 still.0;
        same_leg = leg_same h b d x.0 x.1 seen still same.count (last_order b h) (last_order d h) order;
        moves_agree = λ k s runs. runs_alike terms h k x.0 b.at d.at s x.1 seen still runs;
      }
    where
      leg_same : (h : ℕ) (b d : Board FlatState) (x : Run) → IsOneRun x → Sees terms h x b.at → Sees terms h x d.at
          → (board (unit_in terms)).count d.at.flat h ≡ (board (unit_in terms)).count b.at.flat h → (o p : Option Order) → p ≡ o
          → leg_by (machine_in terms) terms h d p ≡ leg_by (machine_in terms) terms h b o
      leg_same h b d x one a a' count o p same = ap (leg_by (machine_in terms) terms h d) same ∙ by o where
        by : (o : Option Order) → leg_by (machine_in terms) terms h d o ≡ leg_by (machine_in terms) terms h b o
        by None = refl
        by (Some Rest) = refl
        by (Some (Hold page k)) = refl
        by (Some (Go until)) =
            ap (λ k. leg (machine_in terms) terms h (until - k) d.at) count
            ∙ leg_alike terms h (until - (board (unit_in terms)).count b.at.flat h) x d.at b.at one a' a

not_gone : (terms : Terms) (s : Replay FlatState) (h : ℕ) (v : Verdict) → v ≢ CanGo → goes (board (unit_in terms)) s h Move v ≡ None
not_gone terms s h CanGo not_go = absurd (not_go refl)
not_gone terms s h HasEnded not_go = refl
not_gone terms s h Holds not_go = refl
not_gone terms s h (HasDiverged rule) not_go = refl

module _ (terms : Terms) (harts pages h until : ℕ) (t : Replay FlatState) where
  moved_on : (s m : Replay FlatState) → IsPagedBoard harts pages s.flat → made (board (unit_in terms)) s h Move ≡ Some m → IsPagedBoard harts pages m.flat
      × ((board (unit_in terms)).count m.flat h ≡ (board (unit_in terms)).count s.flat h + 1)
  moved_on s m good is =
      let faithful = faithful_board terms harts pages in
      let a = acts_on (board (unit_in terms)) harts (IsPagedBoard harts pages) faithful.steady faithful.timed terms.pages terms.limit s m (act.Run h) is in (
        subst (IsPagedBoard harts pages) (sym a.2) (faithful.steady.lasts s.flat a.0 (act.Run h) good a.1),
        ap (λ f. (board (unit_in terms)).count f h) a.2
            ∙ faithful.steady.moves s.flat a.0 h good a.1,
      )

  counted : (k : ℕ) (s : Replay FlatState) → IsPagedBoard harts pages s.flat → Runs (board (unit_in terms)) h k s t
      → (board (unit_in terms)).count s.flat h + k ≡ (board (unit_in terms)).count t.flat h
  counted zero s good is = let e = ap (λ (x : Replay FlatState). (board (unit_in terms)).count x.flat h) is in omega (arith, e)
  counted (suc k) s good is =
      let m = moved_on s is.1.0 good is.1.1 in
      let rest = counted k is.1.0 m.0 is.1.2 in
      let one = m.1 in omega (arith, rest, one)

  ended_leg : (s : Replay FlatState) (most : ℕ) → (0 < most → verdict_on (board (unit_in terms)) s h Move ≢ CanGo) → leg (machine_in terms) terms h most s ≡ 0
  ended_leg s zero ends = refl
  ended_leg s (suc most) ends =
      ap (λ o. option_map_or (λ (m : Replay FlatState × Option (List Step)). suc (leg (machine_in terms) terms h most m.0)) o 0)
      (not_gone terms s h (verdict_on (board (unit_in terms)) s h Move) (ends (omega arith)))

  pub leg_is : (k : ℕ) (s : Replay FlatState) → IsPagedBoard harts pages s.flat → Runs (board (unit_in terms)) h k s t
      → (board (unit_in terms)).count t.flat h ≤ until → ((board (unit_in terms)).count t.flat h < until → verdict_on (board (unit_in terms)) t h Move ≢ CanGo)
      → (k ≡ leg (machine_in terms) terms h (until - (board (unit_in terms)).count s.flat h) s) × (runs (machine_in terms) terms h k s ≡ Some t)
  leg_is zero s good is within ends =
      subst (λ (z : Replay FlatState). (0 ≡ leg (machine_in terms) terms h (until - (board (unit_in terms)).count z.flat h) z) × (Some z ≡ Some t)) (sym is)
      (sym (ended_leg t (until - (board (unit_in terms)).count t.flat h) (λ l. ends (omega (arith, l)))), refl)
  leg_is (suc k) s good is within ends =
      let m = moved_on s is.1.0 good is.1.1 in
      let rest = leg_is k is.1.0 m.0 is.1.2 within ends in
      let total = counted k is.1.0 m.0 is.1.2 in
      let one = m.1 in
      let more : until - (board (unit_in terms)).count s.flat h ≡ suc (until - (board (unit_in terms)).count is.1.0.flat h) =
      omega (arith, total, one, within) in
      let gone : goes (board (unit_in terms)) s h Move (verdict_on (board (unit_in terms)) s h Move) ≡ Some
      (is.1.0, told_of (board (unit_in terms)) s h Move is.1.0) = ap (goes (board (unit_in terms)) s h Move) is.0
      ∙ ap (λ o. option_map (λ t. (t, told_of (board (unit_in terms)) s h Move t)) o) is.1.1 in (
        ap suc rest.0 ∙ sym (ap (λ o. option_map_or
            (λ (z : Replay FlatState × Option (List Step)). suc (leg (machine_in terms) terms h (until - (board (unit_in terms)).count is.1.0.flat h) z.0)) o
            0) gone) ∙ sym (ap (λ j. leg (machine_in terms) terms h j s) more),
        ap (option_and_then (λ (z : Replay FlatState × Option (List Step)). runs (machine_in terms) terms h k z.0)) gone ∙ rest.1,
      )

  -- so many moves are of the leg up to a count that they don't pass
  pub moves_of_leg : (k : ℕ) (s : Replay FlatState) → IsPagedBoard harts pages s.flat → runs (machine_in terms) terms h k s ≡ Some t
      → (board (unit_in terms)).count t.flat h ≤ until
      → (k ≤ leg (machine_in terms) terms h (until - (board (unit_in terms)).count s.flat h) s)
      × ((board (unit_in terms)).count s.flat h + k ≡ (board (unit_in terms)).count t.flat h)
  moves_of_leg k s good is within =
      let total = counted_runs k s good is in
      (runs_within terms h k (until - (board (unit_in terms)).count s.flat h) s t (omega (arith, total, within)) is, total)
    where
      counted_runs : (k : ℕ) (s : Replay FlatState) → IsPagedBoard harts pages s.flat → runs (machine_in terms) terms h k s ≡ Some t
          → (board (unit_in terms)).count s.flat h + k ≡ (board (unit_in terms)).count t.flat h
      counted_runs zero s good is = let e = ap (λ (x : Replay FlatState). (board (unit_in terms)).count x.flat h) (same_Some _ _ is) in omega (arith, e)
      counted_runs (suc k) s good is =
          let m = bound_to (λ (z : Replay FlatState × Option (List Step)). runs (machine_in terms) terms h k z.0)
          (goes (board (unit_in terms)) s h Move (verdict_on (board (unit_in terms)) s h Move)) t is in
          let one = moved_on s m.0.0 good (went (board (unit_in terms)) s m.0.0 h Move (verdict_on (board (unit_in terms)) s h Move) m.0.1 m.1) in
          let rest = counted_runs k m.0.0 one.0 m.2 in
          let c = one.1 in omega (arith, rest, c)
