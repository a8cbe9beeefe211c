-- A turn of the crew, on the plain data that its board is seen as.
use Rattle.std.proofs.Common.{◌≡◌, ◌≢◌, inl, inr, ℕ, zero, suc, ◌+◌, ◌<◌, ◌≤◌, ◌++◌, ◌==◌, not, false, Bool, List, map, length, Option, Some, None}
use Rattle.std.proofs.Common.{slice_get, slice_index, unwrap_or}
use Rattle.std.proofs.Common.{refl, sym, ap, ap₂, ◌∙◌, subst, arith, true≢false}
use Rattle.std.proofs.lemmas.List.{length-map}
use Rattle.std.proofs.lemmas.Option.{get_or_from_slice_get, slice_get-get_or, slice_get_past, slice_get_within}
use Rattle.std.proofs.lemmas.Bool.{cases_eq}
use Rattle.std.proofs.lemmas.Bool.Decides.{leb_tells}
use Rattle.shared_types.proofs.Lists.{get_map, same_list}
use Rattle.elf_image.specs.Image.{Image, IsWhole, start_digest}
use Rattle.flat_machine.specs.State.{FlatState, flat_at_start}
use Rattle.replay_model.specs.State.{Replay}
use Rattle.run_model.specs.Run.{Run}
use Rattle.run_model.specs.Agreement.{Agrees}
use Rattle.crew_recording.proofs.Items.{by_item}
use Rattle.log_entry.specs.Waits.{WaitList}
use Rattle.replay_model.specs.Items.{Move}
use Rattle.run_model.specs.Legs.{Runs}
use Rattle.turn_model.specs.Board.{Board, Order, Supply, Terms}
use Rattle.turn_model.specs.Laws.{IsPagedBoard}
use Rattle.turn_model.specs.Turn.{turn, with_row}
use Rattle.turn_laws.specs.Reached.{Reached}
use Rattle.turn_laws.specs.Supplies.{followed_by}
use Rattle.crew_parts.specs.Boards.{Plain, World, IsBoardOf, IsReached, the_board, the_machine, board_of, spent, state_of, told_to}
use Rattle.crew_parts.specs.Boards as boards
use Rattle.crew_parts.specs.Parts.{IsLed, IsPart, IsPartAdvanced, Part, number_of, part_of, until_by, until_of}
use Rattle.crew_parts.specs.Orders.{IsExact}
use Rattle.crew_parts.specs.Turns.{CountsFaults, Gives, HasTurn, SameTerms, SentIsTaken}
use Rattle.crew_parts.specs.Laws.{IsTurnOf, TurnsTo}
use Rattle.crew_parts.proofs.Laws.{boards_are_sound, left_is_free, moves_are_told, orders_are_exact, parts_stay, runs_stay_parts, states_are, turns_reach}
use Rattle.crew_core.specs.declared.seat.Seat.{Seat}
use Rattle.crew_core.specs.declared.crew.Crew.{Crew}
use Rattle.crew_core.specs.declared.turned.Turned.{Turned}
use Rattle.outside.specs.Seen.{ToldBefore}
use Rattle.std.specs.Prelude.{All}
use Rattle.device_board.specs.State.{Devices}
use Rattle.crew_core.specs.Does.{TakesSent}
use Rattle.crew_core.specs.Kept.{IsSpare, IsSeenAs, plain_of}
use Rattle.crew_core.specs.Lanes.{Rows, row_where}
use Rattle.crew_core.specs.Orders.{told, told_of}
use Rattle.crew_core.specs.Seats.{reach, seat_of}
use Rattle.crew_core.specs.Standing.{Stands, terms_of}
use Rattle.crew_core.specs.Turns.{ComesTo, TurnDoes}
use Rattle.crew_core.proofs.Machine.{faithful}
use Rattle.crew_core.proofs.Stepping.{stands_outside}
use Rattle.crew_core.proofs.Seated.{seat_there}

pub counts_are : (c : Crew) (b : Board FlatState) → Stands c b → map (λ (s : Seat). s.count) c.seats ≡ b.at.flat.counts
counts_are c b st = same_list (map (λ (s : Seat). s.count) c.seats) b.at.flat.counts (λ g. elim (leb_tells (suc g) (length c.seats)) [
  | inl (t, l) ↦
      let there = seat_there c.seats g l in
      get_map (λ (s : Seat). s.count) c.seats g (seat_of c.seats g) there ∙ ap Some (st.counts g (seat_of c.seats g) there)
      ∙ sym (slice_get-get_or b.at.flat.counts g 0 (let m = st.board.counts_size in let k = st.harts in omega (arith, l, m, k)))
  | inr (f, l) ↦
      let size : length (map (λ (s : Seat). s.count) c.seats) ≡ length c.seats = length-map c.seats _ in
      slice_get_past (map (λ (s : Seat). s.count) c.seats) g (omega (arith, size, l))
      ∙ sym (slice_get_past b.at.flat.counts g (let m = st.board.counts_size in let k = st.harts in omega (arith, l, m, k)))
])

board_alike : (b d : Board FlatState) → b.at ≡ d.at → b.streams ≡ d.streams → b.journal ≡ d.journal → b.turns ≡ d.turns → b.wants ≡ d.wants
    → b.orders ≡ d.orders → b.favoured ≡ d.favoured → b.closed ≡ d.closed → b.supply ≡ d.supply → b ≡ d
board_alike b d at streams journal turns wants orders favoured closed supply =
    ap₂ (λ x y. record b { at = x; streams = y }) at streams
    ∙ ap₂ (λ x y. record b { at = d.at; streams = d.streams; journal = x; turns = y }) journal turns
    ∙ ap₂ (λ x y. record d { wants = x; orders = y; favoured = b.favoured; closed = b.closed; supply = b.supply }) wants orders
    ∙ ap₂ (λ x y. record d { favoured = x; closed = y; supply = b.supply }) favoured closed
    ∙ ap (λ x. record d { supply = x }) supply

-- plain data that show a crew are those of each reached board that it stands for, with the same rows
pub shown : (c : Crew) (b : Board FlatState) (journal turns : List (ℕ × ℕ)) (image : Image) (first now : World) (abandoned prepared : Bool) (given : Supply)
    → Stands c b → Reached the_machine (boards.terms_of (plain_of c journal turns image first now abandoned prepared)) c.harts (flat_at_start image c.harts)
    given b
    → journal ≡ b.journal → turns ≡ b.turns → board_of (plain_of c journal turns image first now abandoned prepared) b.supply ≡ b
shown c b journal turns image first now abandoned prepared given st from same_journal same_turns =
    let p = plain_of c journal turns image first now abandoned prepared in
    board_alike (board_of p b.supply) b (states_are p given b from st.streams same_journal (counts_are c b st)) st.streams same_journal same_turns st.wants
    st.orders
    st.favoured st.closed refl

-- the moves that a hart's turns committed are its seat's
counts_at : (seats : List Seat) (h : ℕ) → h < length seats → slice_index (map (λ (s : Seat). s.count) seats) h ≡ (seat_of seats h).count
counts_at seats h l =
    get_or_from_slice_get (map (λ (s : Seat). s.count) seats) h (seat_of seats h).count 0
    (get_map (λ (s : Seat). s.count) seats h (seat_of seats h) (seat_there seats h l))

-- up to where a hart may move is what its seat says
pub reaches : (c : Crew) (journal turns : List (ℕ × ℕ)) (image : Image) (first now : World) (abandoned prepared : Bool) (h : ℕ)
    → h < length c.seats → until_of (plain_of c journal turns image first now abandoned prepared) h ≡ reach (seat_of c.seats h)
reaches c journal turns image first now abandoned prepared h l =
    let there = seat_there c.seats h l in
    let order = ap (λ x. unwrap_or x None) (get_map (λ (s : Seat). told_of s.order) c.seats h (seat_of c.seats h) there) in
    ap₂ until_by (counts_at c.seats h l) order

-- how far a hart may move is of its part
ahead_alike : (p q : Plain) (g : ℕ) → p.counts ≡ (state_of p).flat.counts → q.counts ≡ (state_of q).flat.counts → part_of q g ≡ part_of p g
    → slice_index p.counts g ≤ until_of p g → slice_index q.counts g ≤ until_of q g
ahead_alike p q g before after same ahead =
    let count : slice_index q.counts g ≡ slice_index p.counts g =
    ap (λ ks. slice_index ks g) after ∙ ap (λ (z : Part). z.count) same ∙ ap (λ ks. slice_index ks g) (sym before) in
    let until : until_of q g ≡ until_of p g = ap (λ (z : Part). z.until) same in
    omega (arith, count, until, ahead)

-- what the board's plain data are after a turn
pub record AfterTurn (p q : Plain) (d : Crew) (after : Run) (h n : ℕ) (t : Turned) (given : Supply) : Type 0 where
  pub turned : TurnsTo p q h n given
  pub stands : Stands d (board_of q spent)
  pub terms_are : terms_of d ≡ boards.terms_of q
  pub terms : SameTerms p q
  pub board : IsBoardOf q
  pub part : IsPart q h after
  pub others : (g : ℕ) → g < p.harts → g ≢ h → part_of q g ≡ part_of p g
  pub runs : (g : ℕ) (x : Run) → g < p.harts → g ≢ h → IsPart p g x → IsPart q g x
  pub told : told_to q h ≡ Some (told t.order)

same_terms : (c d : Crew) (image : Image) → terms_of c ≡ record { pages = image.pages; image = start_digest image; limit = c.limit; log_limit = c.log_limit }
    → terms_of d ≡ terms_of c → terms_of d ≡ record { pages = image.pages; image = start_digest image; limit = d.limit; log_limit = d.log_limit }
same_terms c d image are same =
    same ∙ are ∙ ap₂ (λ l g. record { pages = image.pages; image = start_digest image; limit = l; log_limit = g })
    (sym (ap (λ (t : Terms). t.limit) same)) (sym (ap (λ (t : Terms). t.log_limit) same))

told_seat : (seats : List Seat) (h : ℕ) → h < length seats → (o : Option Order) → told_of (seat_of seats h).order ≡ o
    → unwrap_or (slice_get (map (λ (s : Seat). told_of s.order) seats) h) None ≡ o
told_seat seats h l o is =
    ap (λ x. unwrap_or x None) (get_map (λ (s : Seat). told_of s.order) seats h (seat_of seats h) (seat_there seats h l)) ∙ is

pub after_turn : (c d : Crew) (old_journal old_turns journal turns : List (ℕ × ℕ)) (image : Image) (first before now : World) (abandoned prepared : Bool)
    (r after : Run) (h n : ℕ) (t : Turned) (given : Supply)
    → IsWhole image → terms_of c ≡ boards.terms_of (plain_of c old_journal old_turns image first before abandoned prepared)
    → IsBoardOf (plain_of c old_journal old_turns image first before abandoned prepared)
    → d.harts ≡ c.harts → h < c.harts
    → IsPartAdvanced (plain_of c old_journal old_turns image first before abandoned prepared) h n r
    → ComesTo c d after h n t (board_of (plain_of c old_journal old_turns image first before abandoned prepared) (followed_by given spent)) spent
    → journal ≡ with_row (not (t.items == 0)) (h, t.items) old_journal → turns ≡ with_row t.noted (h, t.moves) old_turns
    → AfterTurn (plain_of c old_journal old_turns image first before abandoned prepared) (plain_of d journal turns image first now abandoned false) d after h
    n t given
after_turn c d old_journal old_turns journal turns image first before now abandoned prepared r after h n t given whole terms board harts inside part
    comes same_journal same_turns =
    let p = plain_of c old_journal old_turns image first before abandoned prepared in
    let q = plain_of d journal turns image first now abandoned false in
    let to = comes.to in
    let of : IsTurnOf p h n r = record { whole = whole; reached = board.reached; counts = board.counts; hart = inside; part = part } in
    let made : turn the_machine (boards.terms_of p) h n (board_of p (followed_by given spent)) ≡ Some to =
    subst (λ terms. turn the_machine terms h n (board_of p (followed_by given spent)) ≡ Some to) terms comes.made in
    let reached = turns_reach p h n r given to of made comes.supply in
    let same : SameTerms p q = record {
      image = refl;
      harts = harts;
      limit = ap (λ (t : Terms). t.limit) comes.terms;
      log_limit = ap (λ (t : Terms). t.log_limit) comes.terms;
      first = refl;
    } in
    let now_terms : terms_of d ≡ boards.terms_of q = same_terms c d image terms comes.terms in
    let from : Reached the_machine (boards.terms_of q) d.harts (flat_at_start image d.harts) reached.0 to =
    subst (λ k. Reached the_machine (boards.terms_of q) k (flat_at_start image k) reached.0 to) (sym harts)
    (subst (λ terms. Reached the_machine terms c.harts (flat_at_start image c.harts) reached.0 to) (sym terms ∙ sym comes.terms ∙ now_terms) reached.1) in
    let is : board_of q to.supply ≡ to =
    shown d to journal turns image first now abandoned false reached.0 comes.stands from (same_journal ∙ sym comes.journal) (same_turns ∙ sym comes.turns) in
    let here : board_of q spent ≡ to = ap (board_of q) (sym comes.supply) ∙ is in
    let stands : Stands d (board_of q spent) = subst (Stands d) (sym here) comes.stands in
    let counts : q.counts ≡ (state_of q).flat.counts = counts_are d (board_of q spent) stands in
    let again : IsReached q = (reached.0, subst (Reached the_machine (boards.terms_of q) d.harts (flat_at_start image d.harts) reached.0) (sym here) from) in
    let sound = boards_are_sound q whole again in
    let turned : TurnsTo p q h n given = made ∙ ap Some (sym here) in
    let seated : h < length d.seats = (let k = stands.harts in omega (arith, inside, harts, k)) in
    let still : (g : ℕ) → g < p.harts → g ≢ h → part_of q g ≡ part_of p g = λ g there other. parts_stay p q h n g r given of turned counts same there other in
    record {
      turned = turned;
      stands = stands;
      terms_are = now_terms;
      terms = same;
      board = record {
        whole = whole;
        some = (let k = board.some in omega (arith, k, harts));
        few = stands.few;
        favours = stands.favours;
        streams = sound.streams;
        wants = stands.wants_size;
        orders = length-map d.seats (λ (s : Seat). told_of s.order) ∙ stands.harts;
        counts = counts;
        ahead = λ g there. elim (cases_eq g h) [
          | inl is ↦ subst (λ k. slice_index q.counts k ≤ until_of q k) (sym is)
              (subst (λ k. slice_index q.counts h ≤ k) (sym (reaches d journal turns image first now abandoned false h seated))
              (subst (λ k. k ≤ reach (seat_of d.seats h)) (sym (counts_at d.seats h seated)) comes.ahead))
          | inr other ↦ ahead_alike p q g board.counts counts (still g (omega (arith, there, harts)) other) (board.ahead g (omega (arith, there, harts)))
        ];
        crew = sound.crew;
        numbered = sound.numbered;
        reached = again;
      };
      part = subst (λ (z : Board FlatState). Agrees after h z.at) (sym here) comes.agrees;
      others = still;
      runs = λ g x there other agrees. runs_stay_parts p q h n g r x given of turned there other agrees;
      told = told_seat d.seats h (let k = stands.harts in omega (arith, inside, harts, k)) (Some (told t.order)) (ap told_of comes.order);
    }

-- the devices of plain data are those of a crew that stands for them
sent_is_taken : (c d : Crew) (p q : Plain) → Stands c (board_of p spent) → Stands d (board_of q spent) → TakesSent c d p.now.console q.now.console
    → SentIsTaken p q
sent_is_taken c d p q before after sent = λ tells.
    let taken = sent tells in (
      taken.0,
      taken.1,
      ap (λ (x : Devices). x.sent) (sym after.backs.devices_are) ∙ taken.2 ∙ ap (λ (x : Devices). x.sent ++ taken.0) before.backs.devices_are,
    )

-- so a turn was had
pub has_turn : (p q : Plain) (d : Crew) (before after : Run) (h n : ℕ) (t : Turned) (given : Supply) → AfterTurn p q d after h n t given
    → before.count ≡ slice_index p.counts h + n → Gives p.now q.now given
    → CountsFaults p.closed q.closed p.now.console.faults q.now.console.faults → SentIsTaken p q
    → IsExact (boards.terms_of p) (board_of q spent) h (told t.order) → q.abandoned ≡ p.abandoned → q.prepared ≡ false
    → HasTurn p q h before after (told t.order)
has_turn p q d before after h n t given x moved gives faults sent exact abandoned used = record {
  moves = n;
  moved = moved;
  given = given;
  gives = gives;
  turned = left_is_free p q h n given x.turned;
  faults = faults;
  sent = sent;
  told = x.told;
  exact = exact;
  part = x.part;
  others = x.others;
  runs = x.runs;
  terms = x.terms;
  abandoned = abandoned;
  used = used;
}

-- moves stay on the board
runs_paged : (harts pages h n : ℕ) (s t : Replay FlatState) → Runs the_board h n s t → IsPagedBoard harts pages s.flat → IsPagedBoard harts pages t.flat
runs_paged harts pages h zero s t is good = subst (λ (z : Replay FlatState). IsPagedBoard harts pages z.flat) is good
runs_paged harts pages h (suc n) s t is good =
    runs_paged harts pages h n is.1.0 t is.1.2 (by_item the_board harts (IsPagedBoard harts pages) (faithful harts pages).steady s is.1.0 h Move good
    is.1.1).good

-- the hart of a run that is ahead of its part is of the board
pub hart_inside : (c : Crew) (b : Board FlatState) (r : Run) (h n : ℕ) → Stands c b → IsLed r h n b.at → h < c.harts
hart_inside c b r h n st led =
    let paged = runs_paged c.harts c.pages h n b.at led.at led.runs st.board in
    let l = slice_get_within led.at.flat.harts h r.hart led.agrees.hart in
    let k = paged.harts_size in
    omega (arith, l, k)

-- what the crew's turn did to the plain data
pub turn_made : (c d : Crew) (spare : List WaitList) (old_journal old_turns : Rows ℕ) (journal turns : List (ℕ × ℕ)) (image : Image) (first before now : World)
    (abandoned prepared : Bool) (r after : Run) (h n : ℕ) (t : Turned)
    → IsSeenAs c spare old_journal old_turns (plain_of c old_journal.rows old_turns.rows image first before abandoned prepared)
    → IsPartAdvanced (plain_of c old_journal.rows old_turns.rows image first before abandoned prepared) h n r → d.harts ≡ c.harts
    → (does : TurnDoes c d r after h t before.console now.console before.clock now.clock)
    → journal ≡ row_where (not (t.items == 0)) (h, t.items) old_journal.rows → turns ≡ row_where t.noted (h, t.moves) old_turns.rows
    → AfterTurn (plain_of c old_journal.rows old_turns.rows image first before abandoned prepared) (plain_of d journal turns image first now abandoned false)
    d after
    h n t does.0
turn_made c d spare old_journal old_turns journal turns image first before now abandoned prepared r after h n t k part harts does same_journal same_turns =
    let p = plain_of c old_journal.rows old_turns.rows image first before abandoned prepared in
    let given = does.0 in
    let comes =
    does.4 (board_of p (followed_by given spent)) n spent (stands_outside c (board_of p spent) (followed_by given spent) k.stands) part.led
    (λ closed. (refl, refl)) refl in
    after_turn c d old_journal.rows old_turns.rows journal turns image first before now abandoned prepared r after h n t given k.board.whole k.terms k.board
    harts
    (hart_inside c (board_of p spent) r h n k.stands part.led) part comes same_journal same_turns

-- a turn of the crew is one of the board
pub turn_done : (c d : Crew) (spare more : List WaitList) (old_journal old_turns journal turns : Rows ℕ) (image : Image) (first before now : World)
    (abandoned prepared : Bool) (r after : Run) (hart n : ℕ) (t : Turned)
    → IsSeenAs c spare old_journal old_turns (plain_of c old_journal.rows old_turns.rows image first before abandoned prepared)
    → IsPartAdvanced (plain_of c old_journal.rows old_turns.rows image first before abandoned prepared) (number_of r) n r → hart ≡ number_of r
    → d.harts ≡ c.harts → ToldBefore before.console.tells_answers now.console.tells_answers
    → ToldBefore before.console.tells_taken now.console.tells_taken → ToldBefore before.clock.tells now.clock.tells
    → CountsFaults c.closed d.closed before.console.faults now.console.faults → TakesSent c d before.console now.console
    → TurnDoes c d r after hart t before.console now.console before.clock now.clock
    → journal.rows ≡ row_where (not (t.items == 0)) (hart, t.items) old_journal.rows → turns.rows ≡ row_where t.noted (hart, t.moves) old_turns.rows
    → All IsSpare more
    → IsSeenAs d more journal turns (plain_of d journal.rows turns.rows image first now abandoned false)
    × HasTurn (plain_of c old_journal.rows old_turns.rows image first before abandoned prepared)
    (plain_of d journal.rows turns.rows image first now abandoned false)
    (number_of r) r after (told t.order)
    × (number_of after ≡ number_of r)
turn_done c d spare more old_journal old_turns journal turns image first before now abandoned prepared r after hart n t k part hart_is harts answers taken times
    faults sent does same_journal same_turns empty =
    let p = plain_of c old_journal.rows old_turns.rows image first before abandoned prepared in
    let q = plain_of d journal.rows turns.rows image first now abandoned false in
    let here : IsPartAdvanced p hart n r = subst (λ h. IsPartAdvanced p h n r) (sym hart_is) part in
    let x =
    turn_made c d spare old_journal old_turns journal.rows turns.rows image first before now abandoned prepared r after hart n t k here harts does same_journal
    same_turns in
    let inside = hart_inside c (board_of p spent) r hart n k.stands here.led in
    let of : IsTurnOf p hart n r = record { whole = k.board.whole; reached = k.board.reached; counts = k.board.counts; hart = inside; part = here } in
    let gives : Gives before now does.0 =
    record { tells_answers = answers; tells_taken = taken; tells_times = times; answers = does.1; taken = does.2; times = does.3 } in (
      record {
        terms = x.terms_are;
        most = (let m = k.most in let l = x.terms.limit in omega (arith, m, l));
        stands = x.stands;
        board = x.board;
        empty = empty;
        ready = λ yes. absurd (true≢false (sym yes));
      },
      subst (λ h. HasTurn p q h r after (told t.order)) hart_is
          (has_turn p q d r after hart n t does.0 x (moves_are_told p hart n r of).0 gives faults (sent_is_taken c d p q k.stands x.stands sent)
          (orders_are_exact p q hart n r does.0 (told t.order) k.board inside here x.turned x.told) refl refl),
      x.board.numbered hart after.hart x.part.hart ∙ hart_is,
    )
