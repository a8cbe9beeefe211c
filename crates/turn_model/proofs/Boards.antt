-- The boards that turns lead to, from the one before any turn.
use Rattle.std.proofs.Common.{◌≡◌, ◌⊎◌, ℕ, zero, suc, ◌+◌, ◌-◌, ◌<◌, ◌≤◌, Bool, true, false, List, [], ◌∷◌, length, map, replicate, Option, Some, None}
use Rattle.std.proofs.Common.{slice_get, unwrap_or, inl, inr, refl, sym, ap, ◌∙◌, subst, arith, if◌then◌else◌}
use Rattle.std.specs.List.{enumerate_from, filter_map}
use Rattle.std.specs.Option.{option_map_or}
use Rattle.std.proofs.lemmas.Option.{none-some}
use Rattle.std.proofs.lemmas.List.FromFn.{length-enumerate_from}
use Rattle.std.proofs.lemmas.List.{length-map, length-replicate}
use Rattle.rv_words.specs.declared.shared.Cause.{Cause}
use Rattle.log_entry.specs.declared.log.Entry.{Entry}
use Rattle.log_entry.specs.Parts.{time_of}
use Rattle.orders_law.specs.Orders.{IsFull}
use Rattle.order_rules.specs.Orderly.{IsOrderly}
use Rattle.order_rules.specs.Holders.{nobody}
use Rattle.replay_model.specs.State.{Replay, start}
use Rattle.replay_model.specs.Items.{Item, Move, goes, verdict_on, IsFullOrder, step}
use Rattle.replay_model.specs.Journal.{order_of, IsWantedGain, IsLean, IsLeanItem, Throughout}
use Rattle.replay_model.specs.Inputs.{Agree, console_input}
use Rattle.replay_model.specs.Outcome.{Done, cause_agrees, outcome_at, least_diverged, diverged, Diverged}
use Rattle.crew_recording.specs.Recording.{Recording, Records, first_recording}
use Rattle.crew_recording.specs.Allowed.{IsPolled}
use Rattle.crew_recording.proofs.Items.{IsTidy, by_item, tidy_item}
use Rattle.crew_recording.proofs.Obedience.{throughout, full, ends}
use Rattle.crew_recording.proofs.Tables.{FitsAt}
use Rattle.crew_recording.proofs.OrderedRecordings.{IsOrdered}
use Rattle.crew_recording.proofs.Together.{Made}
use Rattle.crew_recording.proofs.Whole.{first_ordered, first_fits, orderly}
use Rattle.turn_model.specs.Recordable.{Recordable}
use Rattle.turn_model.specs.Board.{Board, Order, Go, Hold, Rest, Terms, Supply, stream, last_order, board_at_start, log_of, ended_streams}
use Rattle.turn_model.specs.Turn.{turn, items_made, with_rows, with_order}
use Rattle.turn_model.specs.Lists.{leg, leg_by, whole_leg}
use Rattle.turn_model.specs.Faithful.{IsFaithful, AccessesSend}
use Rattle.turn_model.proofs.Ways.{recording_of}
use Rattle.turn_model.proofs.StepInvariants.{Preserves}
use Rattle.turn_model.proofs.Entries.{Committed}
use Rattle.turn_model.proofs.Turns.{Sound, Orders, CanMove, Goes, stays, then_goes, sound_goes, turn_goes, turn_keeps}
use Rattle.turn_model.proofs.LogSizes.{IsWithin, within_begin, within_alike, within_keeps}
use Rattle.turn_model.proofs.ConsoleAndClock.{IsAnswered, answered_alike, answered_begin, answered_commit, answered_keeps}
use Rattle.turn_model.proofs.Ordinals.{by_ordinal_is}
use Rattle.turn_model.proofs.LeanJournals.{WantsStay, IsLeanTo, recorded_so, lean_alike, lean_turn}
use Rattle.turn_model.proofs.Closure.{MakesNone, IsClosing, Before, During, After, closing_keeps, commit_keeps}

abbrev no_streams : ℕ → List (List Entry)
no_streams n = replicate n []

leg_short : {S V : Type 0} (machine : Recordable S V) (terms : Terms) (h most : ℕ) (s : Replay S) → leg machine terms h most s ≤ most
leg_short machine terms h zero s = omega arith
leg_short {S} {V} machine terms h (suc most) s = by (goes machine.flat s h Move (verdict_on machine.flat s h Move))
    (λ m. leg_short machine terms h most m) where
      by : (o : Option (Replay S × Option V)) → ((m : Replay S) → leg machine terms h most m ≤ most)
          → option_map_or (λ m. suc (leg machine terms h most m.0)) o 0 ≤ suc most
      by None f = omega arith
      by (Some m) f = let l = f m.0 in omega (arith, l)

abbrev nones : {X : Type 0} → ℕ → List (Option X)
nones n = replicate n None

none_of : {X : Type 0} (n g : ℕ) → unwrap_or (slice_get (nones {X = X} n) g) None ≡ None
none_of zero g = refl
none_of (suc n) zero = refl
none_of (suc n) (suc g) = none_of n g

module _ {S V : Type 0} (machine : Recordable S V) (terms : Terms) (many : ℕ) (Good : S → Type 0)
    (faithful : IsFaithful machine.flat many terms.pages Good) where
  abbrev pub SoundBoard : Board S → Type 0
  SoundBoard b = Sound machine terms many terms.pages Good faithful b

  abbrev pub AsOrdered : Board S → Type 0
  AsOrdered b = Orders machine terms many terms.pages Good faithful b

  abbrev pub GoesTo : Board S → Board S → Type 0
  GoesTo b c = Goes machine terms many terms.pages Good faithful b c

  abbrev pub Closes : Board S → Type 0
  Closes b = IsClosing machine terms many terms.pages Good faithful b

  abbrev Within : Board S → Type 0
  Within b = IsWithin machine terms many terms.pages Good faithful b

  abbrev MovesOf : ℕ → ℕ → Board S → Type 0
  MovesOf h n b = CanMove machine terms many terms.pages Good faithful h n (recording_of b)

  -- a hart makes no more moves than its last order lets it
  pub can_leg : (h : ℕ) (b : Board S) → h < many → AsOrdered b → MovesOf h (whole_leg machine terms h b) b
  can_leg h b inside orders i less = by (last_order b h) refl less where
    by : (o : Option Order) → last_order b h ≡ o → i < leg_by machine terms h b o
        → (machine.flat.count b.at.flat h + i < terms.limit) × IsPolled (stream b h) (machine.flat.count b.at.flat h + i)
    by None is l = absurd (omega (arith, l))
    by (Some Rest) is l = absurd (omega (arith, l))
    by (Some (Hold page g)) is l = absurd (omega (arith, l))
    by (Some (Go until)) is l =
        let short = leg_short machine terms h (until - machine.flat.count b.at.flat h) b.at in
        orders h inside (Go until) is (machine.flat.count b.at.flat h + i) (omega arith) (omega (arith, l, short))

  pub no_leg : (h : ℕ) (b : Board S) → MakesNone (last_order b h) → whole_leg machine terms h b ≡ 0
  no_leg h b none = by (last_order b h) none where
    by : (o : Option Order) → MakesNone o → leg_by machine terms h b o ≡ 0
    by None n = refl
    by (Some Rest) n = refl
    by (Some (Hold page g)) n = refl
    by (Some (Go until)) n = absurd n

  -- no count falls
  pub rises : (g : ℕ) (r s : Recording S) (items : List (ℕ × Item)) → IsTidy machine.flat many Good faithful.steady r → Records machine.flat r items s
      → machine.flat.count r.at.flat g ≤ machine.flat.count s.at.flat g
  rises g r s [] tidy is = let e = ap (λ (x : Recording S). machine.flat.count x.at.flat g) is in omega (arith, e)
  rises g r s (x ∷ items) tidy is =
      let one = (by_item machine.flat many Good faithful.steady r.at is.0.at x.0 x.1 tidy.good is.1.made).rises g in
      let rest = rises g is.0 s items (tidy_item machine.flat many Good faithful.steady r is.0 x.0 x.1 tidy is.1) is.2 in omega (arith, one, rest)

  pub log_size_is : (d : Board S) → length (ended_streams machine terms d) ≡ length d.streams
  log_size_is d = length-map (enumerate_from 0 d.streams) _ ∙ length-enumerate_from 0 d.streams

  -- the board is closed, or all counts are at the limit
  abbrev pub IsDone : Board S → Type 0
  IsDone b = ((cause : Cause) × (b.closed ≡ Some cause)) ⊎ ((g : ℕ) → g < many → machine.flat.count b.at.flat g ≡ terms.limit)

  -- what closed a board stays, and on a closed board a turn does no more than its moves
  module _ (h : ℕ) (inside : h < many) (cause : Cause) (P : Replay S → Type 0) where
    abbrev pub Shut : Board S → Type 0
    Shut b = (b.closed ≡ Some cause) × P b.at

    shut_keeps : Preserves machine terms many terms.pages Good faithful h inside Shut (λ b. ⊥) (λ order b. Shut b)
    shut_keeps = record {
      stays = λ b shut. shut;
      opens = λ b shut none running. none-some cause (sym none ∙ shut.0);
      rests = λ b never. absurd never;
      goes = λ b until never. absurd never;
      holds = λ b n g low wants never. absurd never;
      fills = λ b low never. absurd never;
      fills_for = λ b g n other is never. absurd never;
      fails = λ b low never. absurd never;
      favours = λ b never. never;
      polls = λ b d time left sound never room is made. never;
      yields = λ b d n sound never room made. never;
      gains = λ b d n sound never room made. never;
      touches = λ b d word store answer now left rest sound never access room said is made. absurd never;
    }

    pub shut_turn : (n : ℕ) (b d : Board S) → SoundBoard b → MovesOf h n b → turn machine terms h n b ≡ Some d → b.closed ≡ Some cause
        → ((c : Board S) → Committed machine terms many terms.pages Good faithful h n b c → P c.at) → Shut d
    shut_turn n b d sound can is closed at =
        turn_keeps machine terms many terms.pages Good faithful h inside Shut (λ b. ⊥) (λ order b. Shut b) Shut shut_keeps n b d sound can is
        (λ c x. (x.closed ∙ closed, at c x)) (λ c order shut. shut)

  module _ (first : S) (supply : Supply) (good : Good first) (unmoved : (h : ℕ) → machine.flat.count first h ≡ 0) where
    abbrev pub begin : Board S
    begin = board_at_start terms many first supply

    -- the recording with which a board starts, with so many places
    abbrev from : ℕ → Recording S
    from k = record {
      at = record {
        flat = first;
        cursor = record { places = replicate k 0; numbers = replicate terms.pages 0; ordinal = 0 };
        holders = nobody terms.pages k;
      };
      streams = replicate many [];
    }

    begins : recording_of begin ≡ first_recording terms.pages many first
    begins = ap from (length-replicate many [])

    begin_sound : SoundBoard begin
    begin_sound = record {
      ordered = subst (IsOrdered machine.flat many Good faithful.steady faithful.timed terms.pages terms.limit) (sym begins)
          (first_ordered machine.flat many Good faithful.steady faithful.timed terms.pages terms.limit first good unmoved);
      fits = subst (λ (r : Recording S). FitsAt machine.flat many terms.pages r.at) (sym begins)
          (first_fits machine.flat many Good faithful.steady faithful.timed terms.pages terms.limit first good unmoved);
      orders_size = length-replicate many None;
    }

    abbrev Answered : Board S → Type 0
    Answered b = IsAnswered machine terms many terms.pages Good faithful supply b

    abbrev pub Stay : Type 0
    Stay = WantsStay machine terms many Good faithful first

    abbrev LeanTo : Board S → Type 0
    LeanTo b = IsLeanTo machine terms many Good faithful first b

    -- turns led there from the start
    pub record IsReached (b : Board S) : Type 0 where
      pub goes : GoesTo begin b
      pub orders : AsOrdered b
      pub within : Within b
      pub answered : Answered b
      pub lean : Stay → LeanTo b

    pub reached_sound : (b : Board S) → IsReached b → SoundBoard b
    reached_sound b reached = sound_goes machine terms many terms.pages Good faithful begin b begin_sound reached.goes

    pub reached_begin : machine.flat.sent first ≡ [] → machine.flat.time first ≡ 0 → IsReached begin
    reached_begin quiet early = record {
      goes = stays machine terms many terms.pages Good faithful begin begin refl refl refl;
      orders = λ g l order e. absurd (none-some _ (sym (none_of many g) ∙ e));
      within = within_begin machine terms many terms.pages Good faithful first supply;
      answered = answered_begin machine terms many terms.pages Good faithful supply first quiet early;
      lean = λ stay. record { items = []; leans = sym begins; order = refl; stored = λ g n is. absurd (none-some _ (sym (none_of many g) ∙ is)) };
    }

    -- what is changed beside the replay state, the streams, the journal and the orders
    pub reached_aside : (b c : Board S) → IsReached b → recording_of b ≡ recording_of c → c.journal ≡ b.journal → c.orders ≡ b.orders → c.supply ≡ b.supply
        → c.wants ≡ b.wants → AsOrdered c → IsReached c
    reached_aside b c reached same journal orders left wants ordered = record {
      goes = then_goes machine terms many terms.pages Good faithful begin b c reached.goes
          (stays machine terms many terms.pages Good faithful b c same journal orders);
      orders = ordered;
      within = within_alike machine terms many terms.pages Good faithful b c (sym (ap (λ (r : Recording S). r.streams) same)) reached.within;
      answered = answered_alike machine terms many terms.pages Good faithful supply b c left (ap (λ (r : Recording S). r.streams) (sym same))
          (ap (λ (r : Recording S). r.at.cursor.ordinal) (sym same)) (ap (λ (r : Recording S). machine.flat.sent r.at.flat) (sym same))
          (ap (λ (r : Recording S). machine.flat.time r.at.flat) (sym same)) reached.answered;
      lean = λ stay. lean_alike machine terms many Good faithful first b c same journal wants (reached.lean stay);
    }

    pub reached_turn : AccessesSend machine → (h n : ℕ) (b d : Board S) → h < many → IsReached b → MovesOf h n b → turn machine terms h n b ≡ Some d
        → IsReached d
    reached_turn sends h n b d inside reached can is =
        let one = turn_goes machine terms many terms.pages Good faithful h inside n b d (reached_sound b reached) reached.orders can is in
        record {
          goes = then_goes machine terms many terms.pages Good faithful begin b d reached.goes one.0;
          orders = one.1;
          within = turn_keeps machine terms many terms.pages Good faithful h inside Within Within (λ order c. Within c) Within
              (within_keeps machine terms many terms.pages Good faithful h inside) n b d (reached_sound b reached) can is
              (λ c x. within_alike machine terms many terms.pages Good faithful b c x.streams reached.within) (λ c order within. within);
          answered = turn_keeps machine terms many terms.pages Good faithful h inside Answered Answered (λ order c. Answered c) Answered
              (answered_keeps machine terms many terms.pages Good faithful supply h inside sends) n b d (reached_sound b reached) can is
              (λ c x. answered_commit machine terms many terms.pages Good faithful supply h n b c
              (reached_sound b reached).ordered.tidy.good x reached.answered)
              (λ c order one. answered_alike machine terms many terms.pages Good faithful supply c
              (with_rows h n (items_made h n b c) b (with_order h order c)) refl refl refl refl refl one);
          lean = λ stay. lean_turn machine terms many Good faithful first stay h inside n b d reached.goes.items (reached_sound b reached)
              (subst (λ (r : Recording S). Made machine.flat terms.pages terms.limit r reached.goes.items
              (recording_of b)) begins reached.goes.made) can is one.0 one.2 (reached.lean stay);
        }

    pub closing_turn : (h n : ℕ) (b d : Board S) → h < many → IsReached b → MovesOf h n b → (MakesNone (last_order b h) → n ≡ 0)
        → turn machine terms h n b ≡ Some d → Closes b → Closes d
    closing_turn h n b d inside reached can none is closing =
        let sound = reached_sound b reached in
        turn_keeps machine terms many terms.pages Good faithful h inside (Before machine terms many terms.pages Good faithful h inside)
        (During machine terms many terms.pages Good faithful h inside) (After machine terms many terms.pages Good faithful h inside) Closes
        (closing_keeps machine terms many terms.pages Good faithful h inside) n b d sound can is
        (λ c x. commit_keeps machine terms many terms.pages Good faithful h inside n b c sound.ordered.tidy.good none x closing)
        (λ c order closes. record { wants = closes.wants; closed = closes.closed })

    pub done_turn : (h n : ℕ) (b d : Board S) → h < many → IsReached b → MovesOf h n b → turn machine terms h n b ≡ Some d → IsDone b → IsDone d
    done_turn h n b d inside reached can is (inl closed) =
        inl (closed.0, (shut_turn h inside closed.0 (λ s. Unit {0}) n b d (reached_sound b reached) can is closed.1 (λ c x. tt)).0)
    done_turn h n b d inside reached can is (inr full) =
        let sound = reached_sound b reached in
        let one = turn_goes machine terms many terms.pages Good faithful h inside n b d sound reached.orders can is in
        let sound' = sound_goes machine terms many terms.pages Good faithful b d sound one.0 in
        inr (λ g l. let up = rises g (recording_of b) (recording_of d) one.0.items sound.ordered.tidy one.0.made.0 in
        let most = (sound'.ordered.each g l).bounded in let was = full g l in omega (arith, up, most, was))

    pub closing_begin : machine.flat.is_stopped first ≡ false → Closes begin
    closing_begin running = record { wants = λ g n is. absurd (none-some _ (sym (none_of many g) ∙ is)); closed = running }

    pub reached_orderly : (d : Board S) → IsReached d → IsOrderly (log_of machine terms d)
    reached_orderly d reached =
        let goes = reached.goes in
        let made = subst (λ (r : Recording S). Made machine.flat terms.pages terms.limit r goes.items (recording_of d)) begins goes.made in
        orderly machine.flat many Good faithful.steady faithful.timed terms.pages terms.limit first good unmoved terms.image
        (log_of machine terms d).cause goes.items (recording_of d) made.0 made.1

    pub reached_full : (d : Board S) → IsReached d → IsFullOrder machine.flat (log_of machine terms d) (start (log_of machine terms d) first)
        (order_of d.journal) d.at
    reached_full d reached =
        let goes = reached.goes in
        let log = log_of machine terms d in
        let f = full machine.flat many Good faithful.steady terms.pages terms.limit terms.image log.cause (recording_of begin)
        (recording_of d) goes.items goes.made.0 begin_sound.ordered.tidy in
        let alike : length (no_streams many) ≡ length (ended_streams machine terms d) = length-replicate many []
        ∙ sym (log_size_is d ∙ (reached_sound d reached).ordered.tidy.streams) in
        (f.0, f.1 ∙ sym goes.order, subst (λ n. IsFull (step machine.flat log) (from n).at f.0 d.at) alike f.2)

    -- each Gain is the want of its hart
    pub reached_gains : (d : Board S) → IsReached d → Throughout machine.flat (log_of machine terms d) (IsWantedGain machine.flat)
        (start (log_of machine terms d) first) (order_of d.journal)
    reached_gains d reached =
        let goes = reached.goes in
        let log = log_of machine terms d in
        let t = throughout machine.flat many Good faithful.steady terms.pages terms.limit terms.image log.cause (IsWantedGain machine.flat)
        (recording_of begin) (recording_of d) goes.items goes.made.0 begin_sound.ordered.tidy goes.made.2 in
        let alike : length (no_streams many) ≡ length (ended_streams machine terms d) = length-replicate many []
        ∙ sym (log_size_is d ∙ (reached_sound d reached).ordered.tidy.streams) in
        subst (Throughout machine.flat log (IsWantedGain machine.flat) (start log first)) (sym goes.order)
        (subst (λ n. Throughout machine.flat log (IsWantedGain machine.flat) (from n).at (map (λ (x : ℕ × Item). x.0) goes.items)) alike t)

    -- where wants stay, its journal is lean
    pub reached_lean : Stay → (d : Board S) → IsReached d
        → IsLean machine.flat (log_of machine terms d) (start (log_of machine terms d) first) (order_of d.journal)
    reached_lean stay d reached =
        let lean = reached.lean stay in
        let log = log_of machine terms d in
        let r = first_recording terms.pages many first in
        let tidy = (first_ordered machine.flat many Good faithful.steady faithful.timed terms.pages terms.limit first good unmoved).tidy in
        let each = recorded_so machine terms many Good faithful first log refl r (recording_of d) lean.items lean.leans in
        let t = throughout machine.flat many Good faithful.steady terms.pages terms.limit terms.image log.cause (IsLeanItem machine.flat log) r
        (recording_of d) lean.items each.0 tidy each.1 in
        let alike : many ≡ length (ended_streams machine terms d) = sym (log_size_is d ∙ (reached_sound d reached).ordered.tidy.streams) in
        subst (Throughout machine.flat log (IsLeanItem machine.flat log) (start log first)) (sym lean.order)
        (subst (λ n. Throughout machine.flat log (IsLeanItem machine.flat log) (from n).at (map (λ (x : ℕ × Item). x.0) lean.items)) alike t)

    pub reached_done : (d : Board S) → IsReached d → cause_agrees machine.flat (log_of machine terms d) d.at.flat ≡ true
        → outcome_at machine.flat (log_of machine terms d) d.at ≡ Some (Done d.at.flat)
    reached_done d reached agrees =
        let log = log_of machine terms d in
        let all = ends machine.flat many Good faithful.steady terms.pages terms.limit terms.image log.cause (recording_of begin)
        (recording_of d) reached.goes.items reached.goes.made.0 begin_sound.ordered.tidy in
        ap (λ (x : Bool). if x then Some
        (if cause_agrees machine.flat log d.at.flat then Done d.at.flat else Diverged 0
        (machine.flat.count d.at.flat 0) 7 d.at.flat) else least_diverged machine.flat log d.at (diverged machine.flat log d.at)) all
        ∙ ap (λ (x : Bool). Some (if x then Done d.at.flat else Diverged 0 (machine.flat.count d.at.flat 0) 7 d.at.flat)) agrees

    -- what was asked of console and clock agrees with the log
    pub reached_agrees : (d : Board S) → (reached : IsReached d)
        → Agree machine.flat (log_of machine terms d) d.at.flat reached.answered.asked reached.answered.times (machine.flat.sent d.at.flat)
    reached_agrees d reached =
        let order = by_ordinal_is (machine.flat.count d.at.flat) d.at.cursor.ordinal d.streams (reached_sound d reached).ordered.ordinals in
        record {
          console = reached.answered.console ∙ ap (filter_map console_input) (sym order);
          clock = reached.answered.clock ∙ ap (filter_map time_of) (sym order);
          bytes = refl;
        }
