-- What holds of a board that turns lead to.
use Rattle.std.proofs.Common.{inr, ◌≡◌, ℕ, ◌<◌, ◌≤◌, List, [], ◌∷◌, length, replicate, Option, Some, refl, sym, ap, ◌∙◌}
use Rattle.std.proofs.Common.{subst, arith}
use Rattle.std.specs.List.{enumerate_from}
use Rattle.std.proofs.lemmas.List.FromFn.{length-enumerate_from}
use Rattle.rv_words.specs.declared.shared.Cause.TheVariants.{Limit}
use Rattle.log_entry.specs.declared.log.Log.{Log}
use Rattle.orders_law.specs.Orders.{Leads}
use Rattle.elf_image.specs.Image.{Image, IsWhole}
use Rattle.flat_machine.specs.State.{FlatState, flat_at_start}
use Rattle.flat_machine.specs.declared.results.Step.{Step}
use Rattle.replay_model.specs.Board.{board}
use Rattle.order_rules.specs.Holders.{nobody}
use Rattle.replay_model.specs.State.{Replay}
use Rattle.replay_model.specs.Items.{Item, step}
use Rattle.crew_recording.specs.Recording.{Recording, first_recording, log_of_recording}
use Rattle.std.proofs.lemmas.List.{length-map, length-replicate}
use Rattle.crew_recording.proofs.Obedience.{full}
use Rattle.crew_recording.proofs.OrderedRecordings.{IsOrdered}
use Rattle.crew_recording.proofs.Behind.{ordered_all}
use Rattle.crew_recording.proofs.Steady.{no_place}
use Rattle.crew_recording.proofs.Together.{Made}
use Rattle.crew_recording.proofs.Whole.{first_ordered, orderly}
use Rattle.replay_law.specs.Laws.{IsReplayable, first_replay}
use Rattle.replay_law.proofs.Views.{Shape, Sound}
use Rattle.replay_law.proofs.Orders.{good_first, good_along}
use Rattle.turn_model.specs.Board.{Board, Supply, Terms, unit_in}
use Rattle.turn_model.specs.Lists.{whole_leg}
use Rattle.turn_model.specs.Turn.{turn}
use Rattle.turn_model.specs.Laws.{IsPagedBoard, machine_in}
use Rattle.turn_model.specs.Faithful.{IsFaithful}
use Rattle.turn_model.proofs.Ways.{recording_of}
use Rattle.turn_model.proofs.BoardFacts.{board_faithful, board_sends, start_with}
use Rattle.lean_journals.proofs.BoardWants.{one_step}
use Rattle.turn_model.proofs.Turns.{CanMove, Goes, IsOf, turn_goes}
use Rattle.turn_model.proofs.Boards.{SoundBoard, IsReached, can_leg, reached_begin, reached_aside, reached_sound, reached_turn}
use Rattle.turn_laws.specs.Reached.{Reached, Begun, Turned, Favours, Shut}

-- the board's flat machine gives what turns ask of it, in the terms' unit
abbrev pub faithful_board : (terms : Terms) (harts pages : ℕ) → IsFaithful (board (unit_in terms)) harts pages (IsPagedBoard harts pages)
faithful_board terms harts pages = board_faithful (unit_in terms) harts pages pages (inr (inr refl)) refl

-- how large a board is by its terms
abbrev pub shape_in : Terms → ℕ → Shape
shape_in terms harts =
    record { unit = unit_in terms; harts = harts; pages = terms.pages; units = terms.pages; unit_is = inr (inr refl); whole = omega arith }

module _ (terms : Terms) (image : Image) (harts : ℕ) (supply : Supply) (pages : terms.pages ≡ image.pages) where
  abbrev pub ReachedB : Board FlatState → Type 0
  ReachedB b =
      IsReached (machine_in terms) terms harts (IsPagedBoard harts terms.pages) (faithful_board terms harts terms.pages) (flat_at_start image harts) supply
      (start_with terms image harts pages) (no_place harts) b

  abbrev pub MovesOf : ℕ → ℕ → Board FlatState → Type 0
  MovesOf h n b =
      CanMove (machine_in terms) terms harts terms.pages (IsPagedBoard harts terms.pages) (faithful_board terms harts terms.pages) h n (recording_of b)

  abbrev pub SoundOf : Board FlatState → Type 0
  SoundOf b = SoundBoard (machine_in terms) terms harts (IsPagedBoard harts terms.pages) (faithful_board terms harts terms.pages) b

  abbrev pub MadeBy : Recording FlatState → List (ℕ × Item) → Recording FlatState → Type 0
  MadeBy r items s = Made (board (unit_in terms)) terms.pages terms.limit r items s

  pub can_make : (h n : ℕ) (b : Board FlatState) → h < harts → ReachedB b → n ≤ whole_leg (machine_in terms) terms h b → MovesOf h n b
  can_make h n b inside reached most i less =
      can_leg (machine_in terms) terms harts (IsPagedBoard harts terms.pages) (faithful_board terms harts terms.pages) h b inside reached.orders i
      (omega (arith, less, most))

  pub reached_is : (b : Board FlatState) → Reached (machine_in terms) terms harts (flat_at_start image harts) supply b → ReachedB b
  reached_is _ Begun =
      reached_begin (machine_in terms) terms harts (IsPagedBoard harts terms.pages) (faithful_board terms harts terms.pages)
      (flat_at_start image harts) supply (start_with terms image harts pages) (no_place harts) refl refl
  reached_is _ (Turned h n b c r inside most is) =
      let p = reached_is b r in
      reached_turn (machine_in terms) terms harts (IsPagedBoard harts terms.pages) (faithful_board terms harts terms.pages) (flat_at_start image harts) supply
      (start_with terms image harts pages) (no_place harts) (board_sends (unit_in terms)) h n b c inside p (can_make h n b inside p most) is
  reached_is _ (Favours f b r) =
      let p = reached_is b r in
      reached_aside (machine_in terms) terms harts (IsPagedBoard harts terms.pages) (faithful_board terms harts terms.pages)
      (flat_at_start image harts) supply (start_with terms image harts pages) (no_place harts) b _ p refl refl refl refl refl
      (λ g l order e. p.orders g l order e)
  reached_is _ (Shut cause b r) =
      let p = reached_is b r in
      reached_aside (machine_in terms) terms harts (IsPagedBoard harts terms.pages) (faithful_board terms harts terms.pages)
      (flat_at_start image harts) supply (start_with terms image harts pages) (no_place harts) b _ p refl refl refl refl refl
      (λ g l order e. p.orders g l order e)

  pub sound_of : (b : Board FlatState) → ReachedB b → SoundOf b
  sound_of b reached =
      reached_sound (machine_in terms) terms harts (IsPagedBoard harts terms.pages) (faithful_board terms harts terms.pages)
      (flat_at_start image harts) supply (start_with terms image harts pages) (no_place harts) b reached

  -- what was made, from the start
  pub known : (b : Board FlatState) (reached : ReachedB b)
      → MadeBy (first_recording terms.pages harts (flat_at_start image harts)) reached.goes.items (recording_of b)
  known b reached =
      subst (λ (r : Recording FlatState). MadeBy r reached.goes.items (recording_of b)) (ap from (length-replicate harts [])) reached.goes.made where
        from : ℕ → Recording FlatState
        from k =
            record {
              at = record {
                flat = flat_at_start image harts;
                cursor = record { places = replicate k 0; numbers = replicate terms.pages 0; ordinal = 0 };
                holders = nobody terms.pages k;
              };
              streams = replicate harts [];
            }

  -- the state is sound wherever items lead from the start
  pub known_sound : IsWhole image → (r : Recording FlatState) (items : List (ℕ × Item))
      → MadeBy (first_recording terms.pages harts (flat_at_start image harts)) items r → Sound (shape_in terms harts) r.at
  known_sound whole r items known =
      let faithful = faithful_board terms harts terms.pages in
      let starts = start_with terms image harts pages in
      let first =
      first_ordered (board (unit_in terms)) harts (IsPagedBoard harts terms.pages) faithful.steady faithful.timed terms.pages terms.limit
      (flat_at_start image harts) starts (no_place harts) in
      let begin = first_recording terms.pages harts (flat_at_start image harts) in
      let ordered =
      ordered_all (board (unit_in terms)) harts
      (IsPagedBoard harts terms.pages) faithful.steady faithful.timed terms.pages terms.limit begin r items known.0 known.1 first in
      let log = log_of_recording (board (unit_in terms)) terms.pages terms.limit terms.image Limit r in
      let alike : harts ≡ length log.streams = sym (length-map (enumerate_from 0 r.streams) _ ∙ length-enumerate_from 0 r.streams ∙ ordered.tidy.streams) in
      let is : IsReplayable log image = record {
        orderly =
            orderly (board (unit_in terms)) harts (IsPagedBoard harts terms.pages) faithful.steady faithful.timed terms.pages terms.limit
            (flat_at_start image harts) starts (no_place harts) terms.image Limit items r known.0 known.1;
        whole = whole;
        pages = pages;
      } in
      let so_far =
      full (board (unit_in terms)) harts (IsPagedBoard harts terms.pages) faithful.steady terms.pages terms.limit terms.image Limit begin r items
      known.0 first.tidy in
      let good =
      good_along log image is (first_replay log image) r.at so_far.0 (good_first log image is)
      (subst (λ k. Leads (step (board (unit_in terms)) log) (from k) so_far.0 r.at) alike so_far.2.leads) in
      subst (λ k. Sound (shape_in terms k) r.at) (sym alike) good.sound
    where
      from : ℕ → Replay FlatState
      from k =
          record {
            flat = flat_at_start image k;
            cursor = record { places = replicate k 0; numbers = replicate terms.pages 0; ordinal = 0 };
            holders = nobody terms.pages k;
          }

  pub known_ordered : (r : Recording FlatState) (items : List (ℕ × Item)) → MadeBy (first_recording terms.pages harts (flat_at_start image harts)) items r
      → IsOrdered (board (unit_in terms)) harts (IsPagedBoard harts terms.pages) (faithful_board terms harts terms.pages).steady
      (faithful_board terms harts terms.pages).timed terms.pages terms.limit r
  known_ordered r items known =
      let faithful = faithful_board terms harts terms.pages in
      ordered_all (board (unit_in terms)) harts (IsPagedBoard harts terms.pages) faithful.steady faithful.timed terms.pages terms.limit
      (first_recording terms.pages harts (flat_at_start image harts)) r items known.0 known.1
      (first_ordered (board (unit_in terms)) harts (IsPagedBoard harts terms.pages) faithful.steady faithful.timed terms.pages terms.limit
      (flat_at_start image harts) (start_with terms image harts pages) (no_place harts))

  -- an item behind them is a step of a replay
  pub known_step : (r m : Recording FlatState) (items : List (ℕ × Item)) (g : ℕ) (item : Item)
      → MadeBy (first_recording terms.pages harts (flat_at_start image harts)) items r → MadeBy r ((g, item) ∷ []) m
      → (log : Log) × ((w : Option (List Step)) × (step (board (unit_in terms)) log g r.at ≡ Some (m.at, w)))
  known_step r m items g item known one =
      let faithful = faithful_board terms harts terms.pages in
      let next =
      full (board (unit_in terms)) harts (IsPagedBoard harts terms.pages) faithful.steady terms.pages terms.limit terms.image Limit r m
      ((g, item) ∷ []) one.0 (known_ordered r items known).tidy in (
        log_of_recording (board (unit_in terms)) terms.pages terms.limit terms.image Limit m,
        one_step (log_of_recording (board (unit_in terms)) terms.pages terms.limit terms.image Limit m) g r.at m.at next.0 next.1 next.2.leads,
      )

  -- what a turn made
  pub turn_made : (g n : ℕ) (b d : Board FlatState) → g < harts → ReachedB b → n ≤ whole_leg (machine_in terms) terms g b
      → turn (machine_in terms) terms g n b ≡ Some d
      → (goes : Goes (machine_in terms) terms harts terms.pages (IsPagedBoard harts terms.pages) (faithful_board terms harts terms.pages) b d)
      × IsOf (machine_in terms) terms harts terms.pages (IsPagedBoard harts terms.pages) (faithful_board terms harts terms.pages) g b goes.items
  turn_made g n b d inside reached most is =
      let x =
      turn_goes (machine_in terms) terms harts terms.pages (IsPagedBoard harts terms.pages) (faithful_board terms harts terms.pages) g inside n b d
      (sound_of b reached) reached.orders (can_make g n b inside reached most) is in (x.0, x.2)
