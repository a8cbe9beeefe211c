-- What holds of a board that turns led to.
use Rattle.std.proofs.Common.{◌≡◌, ℕ, ◌<◌, List, [], ◌∷◌, map, slice_index, refl, sym, ap, ◌∙◌, subst, arith, zero, suc}
use Rattle.std.proofs.Common.{zero-add}
use Rattle.std.specs.List.{range_with_len}
use Rattle.std.proofs.lemmas.List.FromFn.{length-range_with_len, get_or-range_with_len}
use Rattle.std.proofs.lemmas.Option.{get_or_from_slice_get, slice_get_within}
use Rattle.shared_types.proofs.Lists.{map_at}
use Rattle.rv_hart.specs.State.{Hart}
use Rattle.rv_hart.specs.Moves.{hart_at_start}
use Rattle.elf_image.specs.Image.{Image, IsWhole}
use Rattle.flat_machine.specs.State.{FlatState, flat_at_start}
use Rattle.replay_model.specs.Items.{Item, Move}
use Rattle.replay_model.specs.Journal.{order_of}
use Rattle.replay_model.specs.State.{Replay}
use Rattle.crew_recording.specs.Recording.{Recording, Records, IsSteady, first_recording}
use Rattle.crew_recording.proofs.Items.{by_item}
use Rattle.turn_model.specs.Board.{Board, Supply, Terms}
use Rattle.turn_model.specs.Laws.{IsPagedBoard}
use Rattle.turn_model.proofs.BoardFacts.{start_with}
use Rattle.turn_laws.specs.Reached.{Reached}
use Rattle.turn_laws.proofs.ReachedBoards.{faithful_board, known, reached_is}
use Rattle.run_model.specs.Run.{Run}
use Rattle.run_model.specs.Legs.{Runs}
use Rattle.turn_laws.proofs.Legs.{reached_are_crew}
use Rattle.crew_parts.specs.Boards.{Plain, IsReached, the_board, the_machine, board_of, spent, state_of, terms_of}
use Rattle.crew_parts.specs.Parts.{IsPartAdvanced, number_of}
use Rattle.run_model.specs.Numbers.{AreNumbered}
use Rattle.run_model.proofs.Numbers.{numbered_first, numbers_kept}
use Rattle.crew_parts.proofs.States.{state_is}

Good : ℕ → ℕ → FlatState → Type 0
Good harts pages s = IsPagedBoard harts pages s × AreNumbered s

numbered_steady : (terms : Terms) (harts : ℕ) → IsSteady the_board harts (Good harts terms.pages)
unfolding Good
numbered_steady terms harts =
    let steady = (faithful_board terms harts terms.pages).steady in
    record {
      lasts = λ s t act good is. (steady.lasts s t act good.0 is, numbers_kept s t act good.1 is);
      rises = λ s t act h good is. steady.rises s t act h good.0 is;
      moves = λ s t h good is. steady.moves s t h good.0 is;
      no_more = λ s h good l. steady.no_more s h good.0 l;
    }

records_good : (terms : Terms) (harts : ℕ) (items : List (ℕ × Item)) (r s : Recording FlatState) → Good harts terms.pages r.at.flat
    → Records the_board r items s → Good harts terms.pages s.at.flat
records_good terms harts [] r s good is = subst (λ (z : Recording FlatState). Good harts terms.pages z.at.flat) is good
records_good terms harts (x ∷ items) r s good is =
    records_good terms harts items is.0 s
    (by_item the_board harts (Good harts terms.pages) (numbered_steady terms harts) r.at is.0.at x.0 x.1 good is.1.made).good is.2

-- the board, its harts and the state that its journal leads to
module _ (terms : Terms) (image : Image) (harts : ℕ) (supply : Supply) (pages : terms.pages ≡ image.pages) where
  abbrev From : Board FlatState → Type 0
  From b = Reached the_machine terms harts (flat_at_start image harts) supply b

  -- the items that were made, from the start
  pub items_of : (b : Board FlatState) → From b
      → (items : List (ℕ × Item))
      × Records the_board (first_recording terms.pages harts (flat_at_start image harts)) items (record { at = b.at; streams = b.streams })
      × (map (λ (x : ℕ × Item). x.0) items ≡ order_of b.journal)
  items_of b from =
      let reached = reached_is terms image harts supply pages b from in
      (reached.goes.items, (known terms image harts supply pages b reached).0, sym reached.goes.order)

  pub reached_numbered : (b : Board FlatState) → From b → AreNumbered b.at.flat
  unfolding Good
  reached_numbered b from =
      let x = items_of b from in
      (records_good terms harts x.0 (first_recording terms.pages harts (flat_at_start image harts)) (record { at = b.at; streams = b.streams })
      (start_with terms image harts pages, numbered_first image harts) x.1).1

-- moves leave each hart its number
runs_good : (terms : Terms) (harts h n : ℕ) (s t : Replay FlatState) → Good harts terms.pages s.flat → Runs the_board h n s t → Good harts terms.pages t.flat
runs_good terms harts h zero s t good is = subst (λ (z : Replay FlatState). Good harts terms.pages z.flat) is good
runs_good terms harts h (suc n) s t good is =
    runs_good terms harts h n is.1.0 t (by_item the_board harts (Good harts terms.pages) (numbered_steady terms harts) s is.1.0 h Move good is.1.1).good is.1.2

-- a run that is its part, advanced, has the hart's number
pub part_number : (p : Plain) (h n : ℕ) (r : Run) → IsWhole p.image → IsReached p → IsPartAdvanced p h n r → number_of r ≡ h
unfolding Good
part_number p h n r whole reached part =
    let terms = terms_of p in
    let paged = (reached_are_crew terms p.image p.harts reached.0 whole refl (board_of p spent) reached.1).0 in
    let numbered = reached_numbered terms p.image p.harts reached.0 refl (board_of p spent) reached.1 in
    (runs_good terms p.harts h n (state_of p) part.led.at (paged, numbered) part.led.runs).1 h r.hart part.led.agrees.hart

-- plain data with the streams, the journal and the counts of a reached board stand for its state
pub reached_state : (p : Plain) (supply : Supply) (b : Board FlatState) → Reached the_machine (terms_of p) p.harts (flat_at_start p.image p.harts) supply b
    → p.streams ≡ b.streams → p.journal ≡ b.journal → p.counts ≡ b.at.flat.counts → state_of p ≡ b.at
reached_state p supply b from streams journal counts =
    let x = items_of (terms_of p) p.image p.harts supply refl b from in
    let start = start_with (terms_of p) p.image p.harts refl in
    state_is p x.0 b.at (record { harts_size = start.harts_size; counts_size = start.counts_size })
    (subst (λ (ss : List (List _)). Records the_board (first_recording p.image.pages p.harts (flat_at_start p.image p.harts)) x.0
    (record { at = b.at; streams = ss }))
    (sym streams) x.1)
    (x.2 ∙ ap order_of (sym journal)) (λ h. ap (λ ks. slice_index ks h) counts)
