-- What a crew comes to is what the boards that it stands for come to.
use Rattle.std.proofs.Common.{◌≡◌, ℕ, suc, ◌+◌, ◌*◌, ◌<◌, ◌++◌, List, [], ◌∷◌, map, length, Option, Some, None, slice_get, refl, sym, ap, ap₂, ◌∙◌, arith}
use Rattle.std.proofs.lemmas.Option.{none-some}
use Rattle.std.specs.List.{enumerate_from}
use Rattle.rv_words.specs.Limits.{page_bytes}
use Rattle.log_entry.specs.declared.log.Entry.{Entry}
use Rattle.log_entry.specs.declared.log.Entry.TheVariants.{End}
use Rattle.flat_machine.specs.State.{FlatState}
use Rattle.order_rules.specs.Holders.{row}
use Rattle.run_model.specs.Run.{Run}
use Rattle.crew_recording.specs.Recording.{with_ends}
use Rattle.turn_model.specs.Board.{Board, ended_streams}
use Rattle.board_backing.specs.Ends.{Have, HasPlaces}
use Rattle.crew_parts.specs.Boards.{the_board, the_machine}
use Rattle.crew_core.specs.declared.crew.Crew.{Crew}
use Rattle.crew_core.specs.declared.seat.Seat.{Seat}
use Rattle.crew_core.specs.Standing.{Stands, terms_of}
use Rattle.crew_core.specs.Finish.{ended_stream, HasRuns}
use Rattle.crew_core.proofs.Seated.{lanes}
use Rattle.crew_core.proofs.Claiming.{streams_size}

-- the seats' streams with their Ends are the board's
ends_from : (n : ℕ) (count : ℕ → ℕ) (seats : List Seat) → ((g : ℕ) (s : Seat) → slice_get seats g ≡ Some s → s.count ≡ count (n + g))
    → map ended_stream seats ≡ map (λ (s : ℕ × List Entry). s.1 ++ End (count s.0) ∷ []) (enumerate_from n (lanes seats))
ends_from n count [] counts = refl
ends_from n count (s ∷ seats) counts =
    let now : n + 0 ≡ n = omega arith in
    ap₂ (λ k zs. (s.lane.entries ++ End k ∷ []) ∷ zs) (counts 0 s refl ∙ ap count now)
    (ends_from (n + 1) count seats (λ g x at. let e : n + suc g ≡ (n + 1) + g = omega arith in counts (suc g) x at ∙ ap count e))

pub streams_are : (c : Crew) (b : Board FlatState) → Stands c b → map ended_stream c.seats ≡ ended_streams the_machine (terms_of c) b
streams_are c b st =
    ends_from 0 (the_board.count b.at.flat) c.seats (λ g s at. let e : g ≡ 0 + g = omega arith in st.counts g s at ∙ ap (the_board.count b.at.flat) e)
    ∙ ap (with_ends (the_board.count b.at.flat)) st.streams

no_first : (runs : List Run) → slice_get runs 0 ≡ None → length runs ≡ 0
no_first [] e = refl
no_first (r ∷ runs) e = absurd (none-some r (sym e))

-- runs and backing have the state of the board
pub crew_has : (c : Crew) (runs : List Run) (b : Board FlatState) → Stands c b → HasRuns runs b → Have runs c.backing b.at
crew_has c runs b st has =
    let number = has.number ∙ streams_size c b st in
    record {
      backs = st.backs;
      number = number ∙ sym st.board.harts_size;
      counted = number ∙ sym st.board.counts_size;
      rows = λ page l. rows page l;
      agree = has.agree;
    }
  where
    rows : (page : ℕ) → page < length b.at.holders → length (row b.at.holders page) ≡ length b.at.flat.harts
    rows page l = first (slice_get runs 0) refl where
      first : (o : Option Run) → slice_get runs 0 ≡ o → length (row b.at.holders page) ≡ length b.at.flat.harts
      first (Some r) at = (has.agree 0 r at).rows page l
      first None at = absurd (let few = no_first runs at in let favours = st.favours in let number = has.number
          ∙ streams_size c b st in omega (arith, few, favours, number))

-- and there is a place for each byte of it
pub places_there : (c : Crew) (runs : List Run) (b : Board FlatState) → Stands c b → HasRuns runs b
    → HasPlaces c.ends (length runs) (length c.backing.pages.pages * c.backing.pages.unit)
places_there c runs b st has =
    let number : length c.backing.pages.pages ≡ c.pages = st.backs.number ∙ st.table in
    let places = st.ends.0 in
    record {
      harts = places.harts ∙ sym (has.number ∙ streams_size c b st);
      counts = places.counts ∙ sym (has.number ∙ streams_size c b st);
      memory = places.memory ∙ (let turned : page_bytes * c.pages ≡ c.pages * page_bytes = omega arith in turned) ∙ sym (ap₂ (λ n u. n * u) number st.unit_is);
    }
