-- What the cause of a recording says, and that its log is in range.
use Rattle.std.proofs.Common.{◌≡◌, ◌≢◌, inl, inr, ℕ, zero, suc, ◌+◌, ◌<◌, ◌≤◌, ◌&&◌, ◌++◌, Bool, true, false, List, [], ◌∷◌, length, map}
use Rattle.std.proofs.Common.{replicate, Option, Some, None, is_some, slice_get, slice_set, unwrap_or, refl, sym, ap, ap₂, ◌∙◌, subst, arith}
use Rattle.std.specs.Prelude.{sum_by}
use Rattle.std.specs.List.{list_all, enumerate_from}
use Rattle.std.specs.Option.{option_map, option_and_then}
use Rattle.std.proofs.lemmas.Bool.{le-leb, lt-ltb, or_parts}
use Rattle.std.proofs.lemmas.Bool.Decides.{eqb_tells}
use Rattle.std.proofs.lemmas.List.{length-replicate}
use Rattle.std.proofs.lemmas.List.Folds.{list_all-append}
use Rattle.std.proofs.lemmas.List.Sums.{sum_by-cons}
use Rattle.std.proofs.lemmas.Option.{none-some, same_Some}
use Rattle.shared_types.proofs.Lists.{bound_to, is_nothing, mapped, set_here, set_there}
use Rattle.rv_words.specs.Limits.{most_pages}
use Rattle.rv_words.specs.Words.{bit}
use Rattle.rv_words.specs.Addresses.{device_word}
use Rattle.rv_words.specs.declared.shared.Access.{Access}
use Rattle.rv_words.specs.declared.shared.Cause.{Cause}
use Rattle.rv_words.specs.declared.shared.Cause.TheVariants.{Limit, Full, Fault, Cut}
use Rattle.rv_words.specs.declared.shared.Mode.{Mode}
use Rattle.rv_words.specs.declared.shared.TheConstants.{MAX_HARTS}
use Rattle.device_board.specs.State.{Devices}
use Rattle.log_entry.specs.declared.log.Entry.{Entry}
use Rattle.log_entry.specs.declared.log.Entry.TheVariants as entries
use Rattle.log_entry.specs.Parts.{unit_of}
use Rattle.log_entry.specs.Range.{in_range, is_stream, is_entry, is_wait}
use Rattle.log_entry.specs.Size.{size_of, size_of_stream}
use Rattle.elf_image.specs.Image.{Image, IsWhole}
use Rattle.flat_machine.specs.State.{FlatState, flat_at_start}
use Rattle.privilege_directory.proofs.Table.{start_directory}
use Rattle.replay_model.specs.Board.{board, hart_access}
use Rattle.replay_model.specs.State.{Replay, want}
use Rattle.crew_recording.specs.Recording.{first_recording, stream_in}
use Rattle.crew_recording.proofs.Steady.{no_place}
use Rattle.crew_recording.proofs.Whole.{first_fits}
use Rattle.run_model.specs.Run.{ahead_of}
use Rattle.run_model.specs.Agreement.{Asks}
use Rattle.run_model.specs.declared.asked.Ahead.{Ahead}
use Rattle.run_model.specs.declared.asked.Ahead.TheVariants.{Free, Wants, AtDevice}
use Rattle.run_model.proofs.Laws.{ahead_agrees}
use Rattle.turn_model.specs.Board.{Board, Order, Rest, Supply, Terms, unit_in, harts, closes, last_order, log_of}
use Rattle.turn_model.specs.Board.{is_at_limit, is_over, board_at_start}
use Rattle.turn_model.specs.Lists.{RecordingEnd, leg_by, whole_leg, listed, closed_after, comes_to, recorded_by_list}
use Rattle.turn_model.specs.Rounds.{IsRecordedInRounds}
use Rattle.turn_model.specs.Steps.{runs}
use Rattle.turn_model.specs.Turn.{turn}
use Rattle.turn_model.specs.Laws.{IsPagedBoard, OfHarts, machine_in, first_board}
use Rattle.turn_model.proofs.BoardFacts.{start_with}
use Rattle.turn_model.proofs.Ways.{recording_of}
use Rattle.turn_model.proofs.Entries.{Committed}
use Rattle.turn_model.proofs.Boards.{log_size_is}
use Rattle.turn_laws.specs.Reached.{Begun, Turned, Favours, Shut}
use Rattle.turn_laws.specs.EndLaws.{IsFull, IsAtConsole, CauseTells, AreInLimits}
use Rattle.turn_laws.specs.Laws.{IsReachable}
use Rattle.turn_laws.specs.Waits.{yields_in}
use Rattle.turn_laws.proofs.FewWaits.{IsFewAt, board_of, few_all}
use Rattle.turn_laws.proofs.EndWalks.{WaitsAt}
use Rattle.turn_laws.proofs.TurnEnds.{ClosedSo, turn_ends, closed_turn}
use Rattle.turn_laws.proofs.Waits.{waits_begin, waits_stay, yields_at_start}
use Rattle.turn_laws.proofs.Sizes.{sizes_stay}
use Rattle.turn_laws.proofs.Legs.{runs_leave, runs_stay, reached_are_crew}
use Rattle.turn_laws.proofs.ReachedBoards.{faithful_board, can_make, reached_is, sound_of, known}
use Rattle.turn_laws.proofs.ReachedLists.{IsKept, listed_leads, closed_leads, rounds_lead, last_lead}
use Rattle.turn_model.proofs.Rounds.{each_below}

-- two lines are two bits

pub board_lines : (unit : ℕ) (s : FlatState) (h time : ℕ) → (board unit).lines_at s h time < 4
board_lines unit s h time = two (_) (_) where
  two : (a b : Bool) → bit a 0 + bit b 1 < 4
  two true true = omega arith
  two true false = omega arith
  two false true = omega arith
  two false false = omega arith

no_entries : (many h : ℕ) → stream_in (replicate many []) h ≡ []
no_entries zero h = refl
no_entries (suc n) zero = refl
no_entries (suc n) (suc h) = no_entries n h

-- no entry is empty
entry_size : (e : Entry) → 1 ≤ size_of e
entry_size (entries.Gain count page seq mode waits) = omega arith
entry_size (entries.Yield count page seq left) = omega arith
entry_size (entries.Poll count ord time bits) = omega arith
entry_size (entries.Touch count ord input) = omega arith
entry_size (entries.End count) = omega arith

pub entries_size : (es : List Entry) → length es ≤ sum_by size_of es
entries_size [] = omega arith
entries_size (e ∷ es) = let one = entry_size e in let rest = entries_size es in let c = sum_by-cons size_of e es in omega (arith, one, rest, c)

-- streams whose entries are in range, each with an End, in a log of fewer than 2^32 bytes
abbrev with_ends_from : ℕ → (ℕ → ℕ) → List (List Entry) → List (List Entry)
with_ends_from n count streams = map (λ (s : ℕ × List Entry). s.1 ++ entries.End (count s.0) ∷ []) (enumerate_from n streams)

streams_in : (many units k unit n : ℕ) (count : ℕ → ℕ) (streams : List (List Entry))
    → ((h : ℕ) → list_all (is_entry many units) (stream_in streams h) ≡ true)
    → sum_by (size_of_stream unit k) (with_ends_from n count streams) < 4294967296
    → list_all (is_stream many units) (with_ends_from n count streams) ≡ true
streams_in many units k unit n count [] all small = refl
streams_in many units k unit n count (s ∷ streams) all small =
    let ended = s ++ entries.End (count n) ∷ [] in
    let c = sum_by-cons (size_of_stream unit k) ended (with_ends_from (n + 1) count streams) in
    let short = entries_size ended in
    ap₂ (λ p q. p && q)
    (ap₂ (λ p q. p && q) (lt-ltb (length ended) 4294967296 (omega (arith, c, short, small)))
    (list_all-append (is_entry many units) s (entries.End (count n) ∷ []) ∙ ap (λ p. p && true) (all 0)))
    (streams_in many units k unit (n + 1) count streams (λ h. all (suc h)) (omega (arith, c, small)))

-- what asks for a device access asks for it elsewhere too
asks_alike : (o : Ahead) (w v : Option (ℕ × Mode)) (a b : Option Access) (at : Access) → Asks w a o → Asks v b o → w ≡ None → a ≡ Some at
    → (v ≡ None) × (b ≡ a)
asks_alike Free w v a b at one two none is = absurd (none-some _ (sym one.1 ∙ is))
asks_alike (Wants page mode) w v a b at one two none is = absurd (none-some _ (sym none ∙ one))
asks_alike (AtDevice access) w v a b at one two none is = (two.0, two.1 ∙ sym one.1)

module _ (terms : Terms) (image : Image) (many : ℕ) (supply : Supply) (pages : terms.pages ≡ image.pages) (most : many ≤ MAX_HARTS) where
  abbrev From : Board FlatState → Type 0
  From b = IsReachable terms image many supply b

  abbrev FewB : Board FlatState → Type 0
  FewB b = IsFewAt (machine_in terms) terms many terms.pages (recording_of b)

  abbrev WaitsB : ℕ → Replay FlatState → Type 0
  WaitsB g s =
      WaitsAt (machine_in terms) terms many (IsPagedBoard many terms.pages) (faithful_board terms many terms.pages) (board_lines (unit_in terms)) most g s

  few_first : IsFewAt (machine_in terms) terms many terms.pages (first_recording terms.pages many (flat_at_start image many))
  few_first =
      let faithful = faithful_board terms many terms.pages in
      let start = start_directory many terms.pages most in
      record {
        yields = replicate terms.pages [];
        are = waits_stay (machine_in terms) terms (board_at_start terms many (flat_at_start image many) supply)
            (board_of (first_recording terms.pages many (flat_at_start image many))) (replicate terms.pages []) refl refl
            (waits_begin (machine_in terms) terms many (flat_at_start image many) supply);
        few = λ page l. start.few page (let z = length-replicate {A = List (Option Mode)} terms.pages (replicate many None) in omega (arith, l, z));
        inside = λ page. ap (list_all (is_wait many)) (yields_at_start terms.pages page);
        entries = λ h. ap (list_all (is_entry many terms.pages)) (no_entries many h);
        fits = first_fits (board (unit_in terms)) many (IsPagedBoard many terms.pages) faithful.steady faithful.timed terms.pages terms.limit
            (flat_at_start image many) (start_with terms image many pages) (no_place many);
        size = length-replicate many [];
      }

  pub few_of : (b : Board FlatState) → From b → FewB b
  few_of b from =
      let reached = reached_is terms image many supply pages b from in
      let made = known terms image many supply pages b reached in
      few_all (machine_in terms) terms many terms.pages (board_lines (unit_in terms)) most (first_recording terms.pages many (flat_at_start image many))
      (recording_of b) reached.goes.items made.0 made.1 few_first

  abbrev Ends : ℕ → Board FlatState → Type 0
  Ends g d =
      ClosedSo (machine_in terms) terms many (IsPagedBoard many terms.pages) (faithful_board terms many terms.pages) (board_lines (unit_in terms)) most g d

  pub open_turn : (g n : ℕ) (b d : Board FlatState) → From b → g < many → n ≤ whole_leg (machine_in terms) terms g b
      → turn (machine_in terms) terms g n b ≡ Some d → b.closed ≡ None → Ends g d
  open_turn g n b d from inside less is unshut =
      let reached = reached_is terms image many supply pages b from in
      let after = sound_of terms image many supply pages d (reached_is terms image many supply pages d (Turned g n b d from inside less is)) in
      turn_ends (machine_in terms) terms many (IsPagedBoard many terms.pages) (faithful_board terms many terms.pages) (board_lines (unit_in terms)) most g n b d
      inside (sound_of terms image many supply pages b reached) (can_make terms image many supply pages g n b inside reached less) (few_of b from)
      after.orders_size is unshut

  pub at_console : (g : ℕ) (s : Replay FlatState) → g < many → WaitsB g s → IsAtConsole terms many s.flat
  at_console g s inside waits = record {
    running = is_nothing s.flat.devices.stop waits.running;
    hart = g;
    inside = inside;
    word = waits.word;
    store = waits.store;
    access = waits.access;
    console = waits.console;
  }

  -- the log of a reached board is in range
  pub board_in_range : AreInLimits terms image many → (b : Board FlatState) → From b → in_range (log_of (machine_in terms) terms b) ≡ true
  board_in_range limits b from =
      let few = few_of b from in
      let reached = reached_is terms image many supply pages b from in
      let size = log_size_is (machine_in terms) terms many (IsPagedBoard many terms.pages) (faithful_board terms many terms.pages) b ∙ few.size in
      let within = reached.within limits.frame in
      let bytes = limits.bytes in
      let least = limits.least_harts in
      let page_least = limits.whole.least_pages in
      let page_most = limits.whole.pages_within in
      let log = log_of (machine_in terms) terms b in
      let small : sum_by (size_of_stream (unit_of log) (length log.streams)) log.streams < 4294967296 = omega (arith, within, bytes) in
      ap₂ (λ p q. p && q) (ap₂ (λ p q. p && q) (ap₂ (λ p q. p && q) (ap₂ (λ p q. p && q) (ap₂ (λ p q. p && q)
      (le-leb 1 (length log.streams) (omega (arith, size, least)))
      (le-leb (length log.streams) 8 (omega (arith, size, most))))
      (le-leb 1 terms.pages (omega (arith, pages, page_least))))
      (le-leb terms.pages most_pages (subst (λ k. k ≤ most_pages) (sym pages) page_most)))
      (le-leb terms.limit 1000000000000 limits.limit))
      (ap (λ k. list_all (is_stream k terms.pages) log.streams) size
      ∙ streams_in many terms.pages (length log.streams) (unit_of log) 0 (λ h. (board (unit_in terms)).count b.at.flat h) b.streams few.entries small)

  module _ (whole : IsWhole image) where
    -- a hart that waits at the console for good
    pub record RestsAt (b : Board FlatState) : Type 0 where
      pub hart : ℕ
      pub inside : hart < many
      pub waits : WaitsB hart b.at
      pub rests : last_order b hart ≡ Some Rest

    abbrev Tells : Board FlatState → Type 0
    Tells b = (b.closed ≡ Some Full → IsFull terms (log_of (machine_in terms) terms b)) × (b.closed ≡ Some Fault → RestsAt b)

    abbrev Kept : Board FlatState → Type 0
    Kept b = From b × Tells b

    tells_other : (b : Board FlatState) (cause : Cause) → b.closed ≡ Some cause → cause ≢ Full → cause ≢ Fault → Tells b
    tells_other b cause is full fault = (λ e. absurd (full (same_Some _ _ (sym is ∙ e))), λ e. absurd (fault (same_Some _ _ (sym is ∙ e))))

    tells_open : (b : Board FlatState) → b.closed ≡ None → Tells b
    tells_open b none = (λ e. absurd (none-some _ (sym none ∙ e)), λ e. absurd (none-some _ (sym none ∙ e)))

    -- another hart's moves leave it there
    waits_still : (h n g : ℕ) (b d c : Board FlatState) → From b → h < many → n ≤ whole_leg (machine_in terms) terms h b
        → turn (machine_in terms) terms h n b ≡ Some d → d.at ≡ c.at
        → Committed (machine_in terms) terms many terms.pages (IsPagedBoard many terms.pages) (faithful_board terms many terms.pages) h n b c
        → g ≢ h → g < many → WaitsB g b.at → WaitsB g d.at
    waits_still h n g b d c from inside less is at x other there waits =
        let crew = reached_are_crew terms image many supply whole pages b from in
        let own = crew.3 g there in
        let mover = crew.3 h inside in
        let agrees = runs_stay terms image many supply whole pages h n g b d own.0 from inside less is other own.2 in
        let left = runs_leave terms h n mover.0 b.at c.at mover.1 (mover.2, crew.2) x.ran in
        let devices : d.at.flat.devices ≡ b.at.flat.devices = ap (λ (s : Replay FlatState). s.flat.devices) at ∙ left.0.devices in
        let a = bound_to (λ (a : Access). option_map (λ word. (word, a.store)) (device_word b.at.flat.devices.harts a.at)) (hart_access b.at.flat g)
        (waits.word, waits.store) waits.access in
        let one = subst (λ u. Asks (want (board u) b.at g) (hart_access b.at.flat g) (ahead_of own.0)) own.2.0 (ahead_agrees own.0 g b.at own.2.1) in
        let two = subst (λ u. Asks (want (board u) d.at g) (hart_access d.at.flat g) (ahead_of own.0)) agrees.0 (ahead_agrees own.0 g d.at agrees.1) in
        let alike = asks_alike (ahead_of own.0) _ _ (hart_access b.at.flat g) (hart_access d.at.flat g) a.0 one two waits.none a.1 in
        record {
          running = ap (λ (z : Devices). is_some z.stop) devices ∙ waits.running;
          none = alike.0;
          word = waits.word;
          store = waits.store;
          access = ◌∙◌ {b = (machine_in terms).access b.at.flat g}
              (ap₂ (λ o (z : Devices). option_and_then (λ (a : Access). option_map (λ word. (word, a.store)) (device_word z.harts a.at)) o) alike.1 devices)
              waits.access;
          console = waits.console;
        }

    rests_still : (h n : ℕ) (b d : Board FlatState) → From b → h < many → n ≤ whole_leg (machine_in terms) terms h b
        → turn (machine_in terms) terms h n b ≡ Some d → b.closed ≡ Some Fault → RestsAt b → RestsAt d
    rests_still h n b d from inside less is shut rests =
        let c =
        closed_turn (machine_in terms) terms many (IsPagedBoard many terms.pages) (faithful_board terms many terms.pages) (board_lines (unit_in terms)) most h n
        b d Fault is shut in
        let sound = sound_of terms image many supply pages b (reached_is terms image many supply pages b from) in
        let at : d.at ≡ c.0.at = sym (ap (λ (z : Board FlatState). z.at) c.2) in
        let orders : d.orders ≡ slice_set b.orders h (Some Rest) =
        sym (ap (λ (z : Board FlatState). z.orders) c.2) ∙ ap (λ os. slice_set os h (Some Rest)) c.1.orders in
        elim (eqb_tells rests.hart h) [
          | inl (t, same) ↦
              let none : n ≡ 0 = (let z = ap (leg_by (machine_in terms) terms h b) (ap (last_order b) (sym same) ∙ rests.rests) in omega (arith, less, z)) in
              let still : c.0.at ≡ b.at = moved_none h n b.at c.0.at none c.1.ran in
              record {
                hart = rests.hart;
                inside = rests.inside;
                waits = subst (WaitsB rests.hart) (sym (at ∙ still)) rests.waits;
                rests = ap (last_order d) same ∙ ap (λ (os : List (Option Order)). unwrap_or (slice_get os h) None) orders
                    ∙ ap (λ o. unwrap_or o None) (set_here b.orders h (Some Rest) (let z = sound.orders_size in omega (arith, z, inside)));
              }
          | inr (f, other) ↦ record {
            hart = rests.hart;
            inside = rests.inside;
            waits = waits_still h n rests.hart b d c.0 from inside less is at c.1 other rests.inside rests.waits;
            rests = ap (λ (os : List (Option Order)). unwrap_or (slice_get os rests.hart) None) orders
                ∙ ap (λ o. unwrap_or o None) (set_there b.orders h rests.hart (Some Rest) other) ∙ rests.rests;
          }
        ]
      where
        moved_none : (h n : ℕ) (s t : Replay FlatState) → n ≡ 0 → runs (machine_in terms) terms h n s ≡ Some t → t ≡ s
        moved_none h zero s t none is = sym (same_Some _ _ is)
        moved_none h (suc n) s t none is = absurd (omega (arith, none))

    full_still : (h n : ℕ) (b d : Board FlatState) → turn (machine_in terms) terms h n b ≡ Some d → b.closed ≡ Some Full
        → IsFull terms (log_of (machine_in terms) terms b) → IsFull terms (log_of (machine_in terms) terms d)
    full_still h n b d is shut full =
        let c =
        closed_turn (machine_in terms) terms many (IsPagedBoard many terms.pages) (faithful_board terms many terms.pages) (board_lines (unit_in terms)) most h n
        b d Full is shut in
        let streams : d.streams ≡ b.streams = sym (ap (λ (z : Board FlatState). z.streams) c.2) ∙ c.1.streams in
        let size = sizes_stay (machine_in terms) terms b d streams in omega (arith, full, size)

    turn_tells : (h n : ℕ) (b d : Board FlatState) → From b → Tells b → h < many → n ≤ whole_leg (machine_in terms) terms h b
        → turn (machine_in terms) terms h n b ≡ Some d → Tells d
    turn_tells h n b d from tells inside less is = by b.closed refl where
      closed_same : (cause : Cause) → b.closed ≡ Some cause → d.closed ≡ Some cause
      closed_same cause shut =
          let c =
          closed_turn (machine_in terms) terms many (IsPagedBoard many terms.pages) (faithful_board terms many terms.pages) (board_lines (unit_in terms)) most h
          n b d cause is shut in
          sym (ap (λ (z : Board FlatState). z.closed) c.2) ∙ c.1.closed ∙ shut

      by : (o : Option Cause) → b.closed ≡ o → Tells d
      by None unshut =
          let ends = open_turn h n b d from inside less is unshut in
          (ends.0, λ shut. let w = ends.1 shut in record { hart = h; inside = inside; waits = w.0; rests = w.1 })
      by (Some cause) shut =
          let same = closed_same cause shut in (
            λ e. let full : b.closed ≡ Some Full = shut ∙ sym same ∙ e in full_still h n b d is full (tells.0 full),
            λ e. let fault : b.closed ≡ Some Fault = shut ∙ sym same ∙ e in rests_still h n b d from inside less is fault (tells.1 fault),
          )

    kept : IsKept (machine_in terms) terms many (λ b. Kept b)
    kept = record {
      turned = λ h n b d from inside less is. (Turned h n b d from.0 inside less is, turn_tells h n b d from.0 from.1 inside less is);
      favours = λ r b from. (
        Favours r b from.0,
        (
          from.1.0,
          λ e. let z = from.1.1 e in
              record { hart = z.hart; inside = z.inside; waits = z.waits; rests = z.rests },
        ),
      );
    }

    first_kept : Kept (first_board terms image many supply)
    first_kept = (Begun, tells_open (first_board terms image many supply) refl)

    size : (b : Board FlatState) → From b → length b.streams ≡ many
    size b from = (sound_of terms image many supply pages b (reached_is terms image many supply pages b from)).ordered.tidy.streams

    comes : (d : Board FlatState) → Kept d → CauseTells terms (comes_to (machine_in terms) terms d)
    comes d from = record {
      full = λ e. from.1.0 (of d.closed Full e (λ z. let no : ⊥ = cc in no));
      fault = λ e. let rests = from.1.1 (of d.closed Fault e (λ z. let no : ⊥ = cc in no)) in
          subst (λ k. IsAtConsole terms k d.at.flat)
          (sym (log_size_is (machine_in terms) terms many (IsPagedBoard many terms.pages) (faithful_board terms many terms.pages) d ∙ size d from.0))
          (at_console rests.hart d.at rests.inside rests.waits);
    } where
      of : (o : Option Cause) (cause : Cause) → unwrap_or o Limit ≡ cause → Limit ≢ cause → o ≡ Some cause
      of None cause e other = absurd (other e)
      of (Some x) cause e other = ap Some e

    -- the board of a recording by a list
    pub list_board : (list : List (ℕ × ℕ)) (r : RecordingEnd FlatState) → OfHarts many list
        → recorded_by_list (machine_in terms) terms list (first_board terms image many supply) ≡ Some r
        → (d : Board FlatState) × Kept d × (comes_to (machine_in terms) terms d ≡ r)
    list_board list r of recorded =
        let first = first_board terms image many supply in
        let x =
        mapped (comes_to (machine_in terms) terms) (option_and_then (closed_after (machine_in terms) terms) (listed (machine_in terms) terms list first)) r
        recorded in
        let y = bound_to (closed_after (machine_in terms) terms) (listed (machine_in terms) terms list first) x.0 x.1 in
        let c = y.0 in
        let from = listed_leads (machine_in terms) terms many (λ b. Kept b) kept list first c first_kept of y.1 in
        (x.0, closed_leads (machine_in terms) terms many (λ b. Kept b) kept c x.0 (λ short. cut c from short) (size c from.0) from y.2, x.2)
      where
        cut : (c : Board FlatState) → Kept c → is_over (machine_in terms) terms c ≡ false → Kept (closes Cut c)
        cut c from short =
            let none = is_nothing c.closed (or_parts (is_some c.closed) (list_all (is_at_limit (machine_in terms) terms c) (harts c)) short).0 in (
              Shut Cut c from.0,
              tells_other (closes Cut c) Cut (ap (λ o. Some (unwrap_or o Cut)) none) (λ z. let no : ⊥ = cc in no) (λ z. let no : ⊥ = cc in no),
            )

    pub rounds_board : (r : RecordingEnd FlatState) → IsRecordedInRounds (machine_in terms) terms (first_board terms image many supply) r
        → (d : Board FlatState) × Kept d × (r ≡ comes_to (machine_in terms) terms d)
    rounds_board r is =
        let over =
        rounds_lead (machine_in terms) terms many (λ b. Kept b) kept (λ b from. size b from.0) 0 is.number (first_board terms image many supply) is.over
        first_kept is.are_made in
        let closed =
        last_lead (machine_in terms) terms many (λ b. Kept b) kept (harts is.over) is.over is.closed over
        (each_below many (length is.over.streams) (let e = size is.over over.0 in omega (arith, e))) is.last in
        (is.closed, closed, is.recorded)

    pub list_tells : (list : List (ℕ × ℕ)) (r : RecordingEnd FlatState) → OfHarts many list
        → recorded_by_list (machine_in terms) terms list (first_board terms image many supply) ≡ Some r → CauseTells terms r
    list_tells list r of recorded = let d = list_board list r of recorded in subst (CauseTells terms) d.2 (comes d.0 d.1)

    pub rounds_tell : (r : RecordingEnd FlatState) → IsRecordedInRounds (machine_in terms) terms (first_board terms image many supply) r → CauseTells terms r
    rounds_tell r is = let d = rounds_board r is in subst (CauseTells terms) (sym d.2) (comes d.0 d.1)

    pub list_in_range : AreInLimits terms image many → (list : List (ℕ × ℕ)) (r : RecordingEnd FlatState) → OfHarts many list
        → recorded_by_list (machine_in terms) terms list (first_board terms image many supply) ≡ Some r → in_range r.log ≡ true
    list_in_range limits list r of recorded = let d = list_board list r of recorded in
        ap (λ (z : RecordingEnd FlatState). in_range z.log) (sym d.2) ∙ board_in_range limits d.0 d.1.0

    pub rounds_in_range : AreInLimits terms image many → (r : RecordingEnd FlatState)
        → IsRecordedInRounds (machine_in terms) terms (first_board terms image many supply) r → in_range r.log ≡ true
    rounds_in_range limits r is = let d = rounds_board r is in
        ap (λ (z : RecordingEnd FlatState). in_range z.log) d.2 ∙ board_in_range limits d.0 d.1.0
