-- A turn leaves the rows of journal and turns to its end, and tells its hart to go on to the next Poll alone.
use Rattle.std.proofs.Common.{◌≡◌, ℕ, ◌==◌, ◌||◌, min, Bool, true, false, List, [], ◌∷◌, map, max, Option, Some, None, is_some, refl, sym}
use Rattle.std.proofs.Common.{◌∙◌}
use Rattle.std.proofs.Common.{if◌then◌else◌, true≢false, unwrap_or}
use Rattle.std.specs.Option.{option_map}
use Rattle.rv_words.specs.declared.shared.Mode.{Mode}
use Rattle.rv_words.specs.declared.shared.Input.TheVariants.{Nothing}
use Rattle.rv_words.specs.declared.shared.Cause.{Cause}
use Rattle.rv_words.specs.declared.shared.Cause.TheVariants as causes
use Rattle.rv_words.specs.declared.shared.DeviceWord.{DeviceWord}
use Rattle.log_entry.specs.declared.log.Entry.{Entry}
use Rattle.outside.specs.declared.console.Asked.{Asked}
use Rattle.device_board.specs.Recording.{recorded_input}
use Rattle.flat_machine.specs.State.{FlatState}
use Rattle.replay_model.specs.State.{Replay}
use Rattle.replay_model.specs.Items.{Makes, made}
use Rattle.turn_model.specs.Board.{Board, Order, Go, Rest, Supply, Terms, stream, harts, wanted, closes, is_at_limit}
use Rattle.turn_model.specs.Claims.{holds_so, kept_by, needed}
use Rattle.turn_model.specs.Ways.{Way, On, Ends, Nowhere, goes, on, has_room, with_room, entered}
use Rattle.turn_model.specs.Steps.{passes_favour, console_gives, clock_gives, clock_answers, next_poll, steps}
use Rattle.turn_model.specs.Steps.{rests_where_closed, rests_at_limit, is_due, poll_at, polls_with, polls, yield_of, yields_now, yields_for, yields_to, yields}
use Rattle.turn_model.specs.Steps.{gain_of, gains_unless, gains_page, gains, touch_of, behind_touch, touched, touches_at, touches_with, accesses, touches}
use Rattle.turn_model.specs.Steps.{goes_on}
use Rattle.crew_parts.specs.Boards.{the_board, the_machine}
use Rattle.crew_core.specs.Calls.{first_steps}

abbrev Step : Type 0
Step = Board FlatState → Way FlatState

-- the rows stay, and where nothing failed no failure closed the board
pub record KeepsRows (failing : Bool) (b c : Board FlatState) : Type 0 where
  pub journal : c.journal ≡ b.journal
  pub turns : c.turns ≡ b.turns
  pub calm : failing ≡ false → c.closed ≡ Some causes.Fault → b.closed ≡ Some causes.Fault

as_it_is : (f : Bool) (b : Board FlatState) → KeepsRows f b b
as_it_is f b = record { journal = refl; turns = refl; calm = λ e x. x }

pub behind : (f : Bool) (b c d : Board FlatState) → KeepsRows f b c → KeepsRows f c d → KeepsRows f b d
behind f b c d x y = record { journal = y.journal ∙ x.journal; turns = y.turns ∙ x.turns; calm = λ e z. x.calm e (y.calm e z) }

-- nothing that is told of changed
pub alike : (f : Bool) (b c : Board FlatState) → c.journal ≡ b.journal → c.turns ≡ b.turns → c.closed ≡ b.closed → KeepsRows f b c
alike f b c journal turns closed = record { journal = journal; turns = turns; calm = λ e x. sym closed ∙ x }

filled : (f : Bool) (b : Board FlatState) → KeepsRows f b (closes causes.Full b)
filled f b = record { journal = refl; turns = refl; calm = λ e x. by b.closed x } where
  by : (o : Option Cause) → Some (unwrap_or o causes.Full) ≡ Some causes.Fault → o ≡ Some causes.Fault
  by None x = absurd (let bad : ⊥ = cc in bad)
  by (Some cause) x = x

-- whatever closed it, where something may have failed
pub changed_rows : (b c : Board FlatState) → c.journal ≡ b.journal → c.turns ≡ b.turns → KeepsRows true b c
changed_rows b c journal turns = record { journal = journal; turns = turns; calm = λ e. absurd (true≢false e) }

-- an order to go on names the next Poll, or the limit
abbrev pub IsNext : Terms → ℕ → Order → Board FlatState → Type 0
IsNext t h (Go until) b = until ≡ min t.limit (next_poll (the_board.count b.at.flat h) (stream b h))
IsNext t h order b = Unit {0}

module _ (t : Terms) (h : ℕ) (f : Bool) where
  abbrev pub KeepsRowsAlong : Board FlatState → Way FlatState → Type 0
  KeepsRowsAlong b (On c) = KeepsRows f b c
  KeepsRowsAlong b (Ends order c) = KeepsRows f b c × IsNext t h order c
  KeepsRowsAlong b Nowhere = Unit {0}

  after : (b c : Board FlatState) (way : Way FlatState) → KeepsRows f b c → KeepsRowsAlong c way → KeepsRowsAlong b way
  after b c (On d) x y = behind f b c d x y
  after b c (Ends order d) x y = (behind f b c d x y.0, y.1)
  after b c Nowhere x y = tt

  abbrev AllKeep : List Step → Type 0
  AllKeep [] = Unit {0}
  AllKeep (g ∷ gs) = ((c : Board FlatState) → KeepsRowsAlong c (g c)) × AllKeep gs

  walk : (gs : List Step) (b : Board FlatState) (way : Way FlatState) → AllKeep gs → KeepsRowsAlong b way → KeepsRowsAlong b (goes gs way)
  walk [] b way all kept = kept
  walk (g ∷ gs) b (On c) all kept = walk gs b (g c) all.1 (after b c (g c) kept (all.0 c))
  walk (g ∷ gs) b (Ends order c) all kept = kept
  walk (g ∷ gs) b Nowhere all kept = tt

  each : {X : Type 0} (g : X → Step) → ((x : X) (c : Board FlatState) → KeepsRowsAlong c (g x c)) → (xs : List X) → AllKeep (map g xs)
  each g keeps [] = tt
  each g keeps (x ∷ xs) = (keeps x, each g keeps xs)

  choice : (b : Board FlatState) (c : Bool) (x y : Way FlatState) → KeepsRowsAlong b x → KeepsRowsAlong b y → KeepsRowsAlong b (if c then x else y)
  choice b true x y left right = left
  choice b false x y left right = right

  rest : (b : Board FlatState) → KeepsRowsAlong b (Ends Rest b)
  rest b = (as_it_is f b, tt)

  roomy : (e : Entry) (step : Step) (b : Board FlatState) → KeepsRowsAlong b (step b) → KeepsRowsAlong b (with_room the_machine t e step b)
  roomy e step b fits = choice b (has_room the_machine t e b) (step b) (Ends Rest (closes causes.Full b)) fits (filled f b, tt)

  once : (b : Board FlatState) (g : Replay FlatState → Board FlatState) (o : Option (Replay FlatState)) → ((s : Replay FlatState) → KeepsRows f b (g s))
      → KeepsRowsAlong b (on (option_map g o))
  once b g None keeps = tt
  once b g (Some s) keeps = keeps s

  made_keeps : (b : Board FlatState) (o : Supply) (e : Entry) → KeepsRowsAlong b (on (entered the_machine t h e (record b { supply = o })))
  made_keeps b o e = once b _ (made the_board b.at h (Makes e)) (λ s. alike f b _ refl refl refl)

  closed_keeps : (b : Board FlatState) → KeepsRowsAlong b (rests_where_closed the_machine t b)
  closed_keeps b = choice b (is_some b.closed || the_board.is_stopped b.at.flat) (Ends Rest b) (On b) (rest b) (as_it_is f b)

  limit_keeps : (b : Board FlatState) → KeepsRowsAlong b (rests_at_limit the_machine t h b)
  limit_keeps b = choice b (is_at_limit the_machine t b h) (Ends Rest b) (On b) (rest b) (as_it_is f b)

  polls_with_keeps : (b : Board FlatState) (o : Option (ℕ × Supply)) → KeepsRowsAlong b (polls_with the_machine t h b o)
  polls_with_keeps b None = tt
  polls_with_keeps b (Some (time, left)) = made_keeps b left (poll_at the_machine t h b (max time (the_board.time b.at.flat)))

  polls_keep : (b : Board FlatState) → KeepsRowsAlong b (polls the_machine t h b)
  polls_keep b =
      choice b (is_due the_machine t h b) _ (On b)
      (roomy (poll_at the_machine t h b 0) (λ c. polls_with the_machine t h c (clock_answers c.supply.times c.supply)) b
      (polls_with_keeps b (clock_answers b.supply.times b.supply)))
      (as_it_is f b)

  yields_for_keeps : (g : ℕ) (b : Board FlatState) (o : Option (ℕ × Mode)) → KeepsRowsAlong b (yields_for the_machine t h g o b)
  yields_for_keeps g b None = as_it_is f b
  yields_for_keeps g b (Some n) =
      choice b (yields_now the_machine t h g n b) _ (On b)
      (roomy (yield_of the_machine t h n b) (λ c. on (entered the_machine t h (yield_of the_machine t h n c) c)) b
      (made_keeps b b.supply (yield_of the_machine t h n b)))
      (as_it_is f b)

  yields_to_keeps : (g : ℕ) (b : Board FlatState) → KeepsRowsAlong b (yields_to the_machine t h g b)
  yields_to_keeps g b = choice b (g == h) (On b) (yields_for the_machine t h g (wanted b g) b) (as_it_is f b) (yields_for_keeps g b (wanted b g))

  yields_keep : (b : Board FlatState) → KeepsRowsAlong b (yields the_machine t h b)
  yields_keep b = walk (map (yields_to the_machine t h) (harts b)) b (On b) (each (yields_to the_machine t h) yields_to_keeps (harts b)) (as_it_is f b)

  gains_unless_keeps : (o : Option ℕ) (n : ℕ × Mode) (b : Board FlatState) → KeepsRowsAlong b (gains_unless the_machine t o h n b)
  gains_unless_keeps None n b =
      roomy (gain_of the_machine t h n b) (λ c. on (entered the_machine t h (gain_of the_machine t h n c) c)) b
      (made_keeps b b.supply (gain_of the_machine t h n b))
  gains_unless_keeps (Some g) n b = (alike f b _ refl refl refl, tt)

  gains_page_keeps : (n : ℕ × Mode) (b : Board FlatState) → KeepsRowsAlong b (gains_page the_machine t h n b)
  gains_page_keeps n b = choice b (holds_so b h n) (On b) (gains_unless the_machine t (kept_by b h n) h n b) (as_it_is f b)
      (gains_unless_keeps (kept_by b h n) n b)

  pub gains_keep : (b : Board FlatState) → KeepsRowsAlong b (gains the_machine t h b)
  gains_keep b = walk (map (gains_page the_machine t h) (needed the_machine t b h)) b (On b)
      (each (gains_page the_machine t h) gains_page_keeps (needed the_machine t b h)) (as_it_is f b)

  pub first_keep : (b : Board FlatState) → KeepsRowsAlong b (goes (first_steps t h) (On b))
  first_keep b = walk (first_steps t h) b (On b) (closed_keeps, (polls_keep, (yields_keep, (limit_keeps, tt)))) (as_it_is f b)

module _ (t : Terms) (h : ℕ) where
  abbrev pub Leaves : Board FlatState → Way FlatState → Type 0
  Leaves b way = KeepsRowsAlong t h true b way

  favoured : (b d : Board FlatState) (c : Bool) → KeepsRows true b d → KeepsRows true b (if c then passes_favour h d else d)
  favoured b d true kept = changed_rows b _ kept.journal kept.turns
  favoured b d false kept = kept

  behind_keeps : (b d : Board FlatState) → KeepsRows true b d → Leaves b (behind_touch the_machine t h d)
  behind_keeps b d kept =
      choice t h true b (the_board.is_stopped d.at.flat) (Ends Rest (closes causes.Stop d)) _
      (changed_rows b _ kept.journal kept.turns, tt) (favoured b d (h == d.favoured) kept)

  touched_keeps : (b : Board FlatState) (g : Replay FlatState → Board FlatState) (o : Option (Replay FlatState))
      → ((s : Replay FlatState) → KeepsRows true b (g s))
      → Leaves b (touched the_machine t h (option_map g o))
  touched_keeps b g None keeps = tt
  touched_keeps b g (Some s) keeps = behind_keeps b (g s) (keeps s)

  touches_at_keep : (word : DeviceWord) (store : Option ℕ) (answer : Asked) (b : Board FlatState) (o : Option (ℕ × Supply))
      → Leaves b (touches_at the_machine t h word store answer b o)
  touches_at_keep word store answer b None = tt
  touches_at_keep word store answer b (Some (now, left)) =
      touched_keeps b _ (made the_board b.at h (Makes (touch_of the_machine t h b (recorded_input word store (the_board.time b.at.flat) now answer))))
      (λ s. changed_rows b _ refl refl)

  touches_with_keep : (word : DeviceWord) (store : Option ℕ) (b : Board FlatState) (o : Option (Asked × Supply))
      → Leaves b (touches_with the_machine t h word store b o)
  touches_with_keep word store b None = (changed_rows b _ refl refl, tt)
  touches_with_keep word store b (Some (answer, left)) = touches_at_keep word store answer b (clock_gives word store left)

  accesses_keep : (b : Board FlatState) (o : Option (DeviceWord × Option ℕ)) → Leaves b (accesses the_machine t h o b)
  accesses_keep b None = as_it_is true b
  accesses_keep b (Some (word, store)) =
      roomy t h true (touch_of the_machine t h b Nothing) (λ c. touches_with the_machine t h word store c (console_gives word store c.supply)) b
      (touches_with_keep word store b (console_gives word store b.supply))

  touches_keep : (b : Board FlatState) → Leaves b (touches the_machine t h b)
  touches_keep b = accesses_keep b (the_machine.access b.at.flat h)

  goes_on_keeps : (b : Board FlatState) → Leaves b (goes_on the_machine t h b)
  goes_on_keeps b = (as_it_is true b, refl)

  pub steps_keep : (b : Board FlatState) → Leaves b (goes (steps the_machine t h) (On b))
  steps_keep b =
      walk t h true (steps the_machine t h) b (On b) (
        closed_keeps t h true,
        (
          polls_keep t h true,
          (
            yields_keep t h true,
            (limit_keeps t h true, (gains_keep t h true, (touches_keep, (limit_keeps t h true, (goes_on_keeps, tt))))),
          ),
        ),
      )
      (as_it_is true b)
