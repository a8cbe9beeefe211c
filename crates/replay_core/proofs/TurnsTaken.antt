-- A turn of a replay's board, on the plain data that it is seen as.
use Rattle.std.proofs.Common.{◌≡◌, ◌≢◌, ℕ, zero, suc, ◌*◌, ◌<◌, List, length, slice_get, slice_index, slice_set, replicate, refl, sym, ap, ap₂}
use Rattle.std.proofs.Common.{◌∙◌, subst, arith}
use Rattle.std.proofs.lemmas.Option.{get_or_from_slice_get, slice_get_within}
use Rattle.elf_image.specs.Image.{Image}
use Rattle.rv_words.specs.Limits.{page_bytes}
use Rattle.log_entry.specs.declared.log.Log.{Log}
use Rattle.log_entry.specs.Parts.{count_of, unit_of}
use Rattle.order_rules.specs.Cursor.{Cursor, first_left}
use Rattle.flat_machine.specs.State.{FlatState}
use Rattle.flat_machine.specs.Acts.{next, ran}
use Rattle.flat_machine.specs.Moves.{next_move}
use Rattle.flat_machine.specs.declared.act.Act.TheVariants as act
use Rattle.replay_model.specs.Board.{board}
use Rattle.replay_model.specs.State.{Replay}
use Rattle.replay_model.specs.Items.{Item, Ended, Move, Makes, Verdict, HasEnded, Holds, CanGo, HasDiverged, next_item, verdict, verdict_on}
use Rattle.run_model.specs.Run.{Run, number_of}
use Rattle.run_model.specs.Agreement.{Agrees}
use Rattle.run_model.specs.Legs.{Runs, DifferFor}
use Rattle.shared_types.proofs.Lists.{bound_to, mapped}
use Rattle.board_backing.specs.declared.ends.Ends.{Ends}
use Rattle.board_backing.specs.Ends.{HasPlaces}
use Rattle.replay_law.specs.Laws.{IsReplayable, first_replay}
use Rattle.replay_parts.specs.Boards.{first_board, state_of}
use Rattle.replay_parts.specs.Laws.{Reaches}
use Rattle.replay_parts.specs.Parts.{IsPart, IsPartAdvanced, until_by, until_in}
use Rattle.replay_parts.specs.Turns.{IsTurn, MakesNext, committed, told_of}
use Rattle.replay_parts.proofs.Turned.{turns_reach}
use Rattle.replay_parts.proofs.Within.{first_boards, states_are}
use Rattle.replay_core.specs.declared.position.Position.{Position}
use Rattle.replay_core.specs.declared.went.Pace.{Pace}
use Rattle.replay_core.specs.declared.went.Went.{Went}
use Rattle.replay_core.specs.declared.went.Went.TheVariants as went
use Rattle.replay_core.specs.Items.{answer_of, went_of}
use Rattle.replay_core.specs.declared.replaying.Replaying.{Replaying}
use Rattle.replay_core.specs.Standing.{Begins, IsAt, Stands}
use Rattle.replay_core.specs.Entries.{HasMadeAll, MakesAll}
use Rattle.replay_core.specs.Turns.{AreParts, IsSeenAs, pace_of, plain_of, told}
use Rattle.log_order.proofs.Refusals.{small}
use Rattle.replay_core.proofs.LegsAsItems.{stands_led}
use Rattle.replay_core.proofs.MovesMade.{place_there}
use Rattle.replay_core.proofs.StageAfterItem.{places_on}
use Rattle.replay_core.proofs.StateAfterItem.{reached}

-- a hart that is advanced is one of the board
runs_there : (u h n : ℕ) (s t : Replay FlatState) (r : Run) → Runs (board u) h n s t → Agrees r h t → h < length s.flat.harts
runs_there u h zero s t r is a = slice_get_within s.flat.harts h r.hart (ap (λ (x : Replay FlatState). slice_get x.flat.harts h) is ∙ a.hart)
runs_there u h (suc n) s t r is a =
    let m = mapped (λ (f : FlatState). record s { flat = f }) (next (act.Run h) s.flat) is.1.0 is.1.1 in
    let b = bound_to (λ x. ran s.flat h x (next_move x s.flat.memory)) (slice_get s.flat.harts h) m.0 m.1 in
    slice_get_within s.flat.harts h b.0 b.1

-- what a hart is told by what comes of its item, where that is no entry
told_by : (u : ℕ) (s : Replay FlatState) (h until : ℕ) (item : Item) (v : Verdict) (answer : Went) → verdict_on (board u) s h item ≡ v
    → answer ≡ went_of item v → answer ≢ went.Entry → told (pace_of until answer) ≡ told_of until v
told_by u s h until item v answer judged is none = ap (λ w. told (pace_of until w)) is ∙ by item v judged (λ e. none (is ∙ e)) where
  by : (i : Item) (w : Verdict) → verdict_on (board u) s h i ≡ w → went_of i w ≢ went.Entry → told (pace_of until (went_of i w)) ≡ told_of until w
  by i HasEnded j n = refl
  by i Holds j n = refl
  by i (HasDiverged rule) j n = refl
  by Ended CanGo j n = let bad : ⊥ = cc in absurd bad
  by Move CanGo j n = refl
  by (Makes e) CanGo j n = absurd (n refl)

-- an entry that the hart can make is answered as one
made_is : (log : Log) (s : Replay FlatState) (h : ℕ) → MakesNext log s h → answer_of log s h ≡ went.Entry
made_is log s h makes =
    ap (λ i. went_of i (verdict (board (unit_of log)) log s h)) makes.1.0 ∙ ap (went_of (Makes makes.0)) makes.1.1

-- there is a place and a count for each hart
module _ (b : Position) (ends : Ends) (image : Image) (counts : List ℕ) (k : IsSeenAs b ends (plain_of b image counts)) where
  pub places_size : length b.cursor.places ≡ length b.log.streams
  places_size = ap (λ (c : Cursor). length c.places) k.stands.cursor ∙ (reached image b k.at k.stands).going.places

  pub counts_size : length counts ≡ length b.log.streams
  counts_size =
      let sized = (reached image b k.at k.stands).going.good.sound.sized in
      ap length (sym k.reaches.counts) ∙ sized.counts_size ∙ sized.harts_size

-- a turn of hart h, whose run is r and was advanced by n moves
module _ (b : Position) (ends : Ends) (image : Image) (counts : List ℕ) (r : Run) (h n : ℕ) (k : IsSeenAs b ends (plain_of b image counts))
    (part : IsPartAdvanced (plain_of b image counts) h n r) where
  from : state_of (plain_of b image counts) ≡ k.at
  from = states_are (plain_of b image counts) k.at k.reaches

  runs : Runs (board (unit_of b.log)) h n k.at part.led.at
  runs = subst (λ s. Runs (board (unit_of b.log)) h n s part.led.at) from part.led.runs

  pub inside : h < length b.log.streams
  inside =
      let l = runs_there (unit_of b.log) h n k.at part.led.at r runs part.led.agrees in
      let size = (reached image b k.at k.stands).going.good.sound.sized.harts_size in
      omega (arith, l, size)

  pub few : h < 8
  few = let l = inside in let most = (small b.log k.stands.range).harts in omega (arith, l, most)

  pub counted : h < length counts
  counted = let l = inside in let size = counts_size b ends image counts k in omega (arith, l, size)

  -- the board stands behind the leg
  pub led_there : Stands image b part.led.at
  led_there =
      let going = (reached image b k.at k.stands).going in
      let sized = going.good.sound.sized in
      let counts_size = sized.counts_size in
      let harts_size = sized.harts_size in
      let x = going.behind h inside in
      let own : slice_index part.led.at.flat.counts h ≡ r.count = get_or_from_slice_get part.led.at.flat.counts h r.count 0 part.led.agrees.count in
      let until : until_in b.log (state_of (plain_of b image counts)) h ≡ count_of x.entry =
      ap (λ s. until_in b.log s h) from ∙ ap (until_by (slice_index k.at.flat.counts h)) x.first in
      let within = part.within in
      stands_led image b h n k.at part.led.at x.entry k.stands (ap (λ c. first_left b.log c h) k.stands.cursor ∙ x.first)
      (let l = inside in omega (arith, l, counts_size, harts_size))
      (omega (arith, own, until, within)) runs (subst (λ s. DifferFor (unit_of b.log) h s part.led.at) from part.led.differ)
      (part.led.memory ∙ ap (λ (s : Replay FlatState). length s.flat.memory) from)

-- the entries behind it
module _ (b d : Position) (ends : Ends) (image : Image) (counts : List ℕ) (r after : Run) (h n : ℕ) (answer : Went)
    (k : IsSeenAs b ends (plain_of b image counts)) (part : IsPartAdvanced (plain_of b image counts) h n r) (makes : MakesAll b d r after h answer) where
  made : HasMadeAll image d after b.log h part.led.at answer
  made = makes image part.led.at (led_there b ends image counts r h n k part) part.led.agrees

  pub place_left : h < length d.cursor.places
  place_left = place_there image d after h made.made.at made.made.stands made.made.agrees

  turn : (until : ℕ) → until ≡ until_in b.log made.made.at h
      → IsTurn (plain_of b image counts) (committed (plain_of b image counts) h made.made.at) h n (told (pace_of until answer))
  turn until until_is =
      let own : slice_index part.led.at.flat.counts h ≡ r.count = get_or_from_slice_get part.led.at.flat.counts h r.count 0 part.led.agrees.count in
      let within = part.within in
      record {
        led = part.led.at;
        leg = part.led.runs;
        within = omega (arith, own, within);
        entries = made.made.entries;
        at = made.made.at;
        makes = made.made.makes;
        over = λ next. made.none (made.answer_is ∙ made_is b.log made.made.at h next);
        committed_is = refl;
        told_is = told_by (unit_of b.log) made.made.at h until (next_item (board (unit_of b.log)) b.log made.made.at h)
            (verdict (board (unit_of b.log)) b.log made.made.at h) answer refl made.answer_is made.none
            ∙ ap (λ u. told_of u (verdict (board (unit_of b.log)) b.log made.made.at h)) until_is;
      }

  stands : (until : ℕ) → until ≡ until_in b.log made.made.at h → Reaches (committed (plain_of b image counts) h made.made.at) made.made.at
  unfolding made turn
  stands until until_is =
      turns_reach (plain_of b image counts) (committed (plain_of b image counts) h made.made.at) k.at h n (told (pace_of until answer)) k.reaches
      (inside b ends image counts r h n k part)
      (turn until until_is)

  -- the board behind it, with the run's count
  turned : d.log ≡ b.log → (count until : ℕ) → count ≡ after.count → until ≡ until_by count (first_left d.log d.cursor h)
      → IsSeenAs d ends (plain_of d image (slice_set counts h count))
      × IsTurn (plain_of b image counts) (plain_of d image (slice_set counts h count)) h n (told (pace_of until answer))
      × IsPart (plain_of d image (slice_set counts h count)) h after
  turned log_is count until count_is until_by_is =
      let there = made.made.stands in
      let own : slice_index made.made.at.flat.counts h ≡ after.count =
      get_or_from_slice_get made.made.at.flat.counts h after.count 0 made.made.agrees.count in
      let until_is : until ≡ until_in b.log made.made.at h =
      until_by_is
      ∙ ap₂ (λ (m : ℕ) (l : Log). until_by m (first_left l d.cursor h)) (count_is ∙ sym own) log_is
      ∙ ap (λ c. until_by (slice_index made.made.at.flat.counts h) (first_left b.log c h)) there.cursor in
      let reaches = stands until until_is in
      let places : d.cursor.places ≡ slice_set b.cursor.places h (slice_index made.made.at.cursor.places h) =
      ap (λ (c : Cursor). c.places) there.cursor ∙ reaches.places in
      let same : plain_of d image (slice_set counts h count) ≡ committed (plain_of b image counts) h made.made.at =
      ap₂ (λ (l : Log) (ps : List ℕ). record { log = l; image = image; places = ps; counts = slice_set counts h count }) log_is places
      ∙ ap (λ m. record {
        log = b.log;
        image = image;
        places = slice_set b.cursor.places h (slice_index made.made.at.cursor.places h);
        counts = slice_set counts h m;
      }) (count_is ∙ sym own) in
      let then : Reaches (plain_of d image (slice_set counts h count)) made.made.at = subst (λ p. Reaches p made.made.at) (sym same) reaches in
      let before = reached image b k.at k.stands in
      let later = reached image d made.made.at there in
      let long : length made.made.at.flat.memory ≡ length k.at.flat.memory =
      later.going.good.sound.sized.memory_size ∙ ap (λ (l : Log). page_bytes * l.pages) log_is ∙ sym before.going.good.sound.sized.memory_size in (
        record {
          at = made.made.at;
          stands = there;
          reaches = then;
          has_places = places_on ends ends (length b.log.streams) (length d.log.streams) (length k.at.flat.memory) (length made.made.at.flat.memory) refl
              (ap (λ (l : Log). length l.streams) log_is) long k.has_places;
        },
        subst (λ p. IsTurn (plain_of b image counts) p h n (told (pace_of until answer))) (sym same) (turn until until_is),
        subst (Agrees after h) (sym (states_are (plain_of d image (slice_set counts h count)) made.made.at then)) made.made.agrees,
      )

-- a turn of the run's hart
pub turn_done : (b d : Position) (ends : Ends) (image : Image) (counts : List ℕ) (r after : Run) (hart place n count until : ℕ) (answer : Went) (pace : Pace)
    → IsSeenAs b ends (plain_of b image counts) → IsPartAdvanced (plain_of b image counts) (number_of r) n r → hart ≡ number_of r → place ≡ hart
    → MakesAll b d r after hart answer → d.log ≡ b.log → count ≡ after.count → until ≡ until_by count (first_left d.log d.cursor hart)
    → pace ≡ pace_of until answer
    → IsSeenAs d ends (plain_of d image (slice_set counts place count))
    × IsTurn (plain_of b image counts) (plain_of d image (slice_set counts place count)) (number_of r) n (told pace)
    × IsPart (plain_of d image (slice_set counts place count)) (number_of r) after
turn_done b d ends image counts r after hart place n count until answer pace k part hart_is place_is makes log_is count_is until_is pace_is =
    let here : IsPartAdvanced (plain_of b image counts) hart n r = subst (λ h. IsPartAdvanced (plain_of b image counts) h n r) (sym hart_is) part in
    let x = turned b d ends image counts r after hart n answer k here makes log_is count until count_is until_is in
    subst (λ i. IsSeenAs d ends (plain_of d image (slice_set counts i count))
    × IsTurn (plain_of b image counts) (plain_of d image (slice_set counts i count)) (number_of r) n (told pace)
    × IsPart (plain_of d image (slice_set counts i count)) (number_of r) after) (sym place_is) (
      x.0,
      subst (λ h. IsTurn (plain_of b image counts) (plain_of d image (slice_set counts hart count)) h n (told pace)) hart_is
          (subst (λ z. IsTurn (plain_of b image counts) (plain_of d image (slice_set counts hart count)) hart n (told z)) (sym pace_is) x.1),
      subst (λ h. Agrees after h (state_of (plain_of d image (slice_set counts hart count)))) hart_is x.2,
    )

-- a board and its parts are a stage at the state that the board stands for
pub staged : (stage : Replaying) (image : Image) (counts : List ℕ) → IsSeenAs stage.board stage.ends (plain_of stage.board image counts)
    → AreParts (plain_of stage.board image counts) stage.runs.items → IsAt image stage (state_of (plain_of stage.board image counts))
staged stage image counts k parts =
    let from : state_of (plain_of stage.board image counts) ≡ k.at = states_are (plain_of stage.board image counts) k.at k.reaches in
    record {
      stands = subst (Stands image stage.board) (sym from) k.stands;
      runs = parts.number;
      agree = parts.each;
      ends = subst (λ (s : Replay FlatState). HasPlaces stage.ends (length stage.board.log.streams) (length s.flat.memory)) (sym from) k.has_places;
    }

-- a stage before any item is a board before any turn and its parts
module _ (log : Log) (image : Image) (stage : Replaying) (counts : List ℕ) (begins : Begins log image stage)
    (none : counts ≡ replicate (length stage.runs.items) 0) where
  first_plain : plain_of stage.board image counts ≡ first_board log image
  first_plain =
      let size : length stage.runs.items ≡ length log.streams = begins.1.runs ∙ ap (λ (l : Log). length l.streams) begins.0 in
      ap₂ (λ (l : Log) (c : Cursor). record { log = l; image = image; places = c.places; counts = counts }) begins.0 begins.1.stands.cursor
      ∙ ap (λ ks. record { log = log; image = image; places = replicate (length log.streams) 0; counts = ks })
      (none ∙ ap (λ m. replicate m 0) size)

  first_reached : Reaches (plain_of stage.board image counts) (first_replay log image)
  first_reached =
      subst (λ p. Reaches p (first_replay log image)) (sym first_plain)
      (first_boards log image (subst (λ l. IsReplayable l image) begins.0 begins.1.stands.replayable))

  pub first_parts : AreParts (plain_of stage.board image counts) stage.runs.items
  first_parts = record {
    number = begins.1.runs;
    each = λ h r is. subst (Agrees r h) (sym (states_are (plain_of stage.board image counts) (first_replay log image) first_reached)) (begins.1.agree h r is);
  }
