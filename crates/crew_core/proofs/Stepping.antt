-- The steps of a turn, on the crew.
use Rattle.std.proofs.Common.{◌≡◌, ◌≢◌, ℕ, ◌+◌, ◌<◌, ◌≤◌, nat_le, Bool, true, false, Option, Some, None, slice_get, slice_index}
use Rattle.std.proofs.Common.{unwrap_or, refl, sym, ap, ap₂, ◌∙◌, subst, arith, inl, inr, true≢false, if◌then◌else◌}
use Rattle.std.proofs.lemmas.Bool.{ne_eqb}
use Rattle.std.proofs.lemmas.Bool.Decides.{leb_tells}
use Rattle.rv_words.specs.declared.shared.Mode.{Mode}
use Rattle.rv_words.specs.declared.shared.Mode.TheVariants.{Read, Write}
use Rattle.rv_words.specs.declared.shared.Cause.{Cause}
use Rattle.rv_words.specs.declared.shared.Cause.TheVariants.{Full}
use Rattle.log_entry.specs.declared.log.Entry.{Entry}
use Rattle.log_entry.specs.declared.log.Entry.TheVariants.{Yield}
use Rattle.log_entry.specs.Parts.{strength, conflict}
use Rattle.log_entry.specs.Size.{size_of}
use Rattle.flat_machine.specs.State.{FlatState}
use Rattle.crew_parts.specs.Boards.{the_board}
use Rattle.replay_model.specs.Journal.{left_for}
use Rattle.run_model.specs.Run.{Run}
use Rattle.run_model.specs.Agreement.{Agrees}
use Rattle.crew_parts.specs.Boards.{the_machine}
use Rattle.turn_model.specs.Board as model
use Rattle.turn_model.specs.Board.{Board, Supply, Terms, wanted, closes}
use Rattle.turn_model.specs.Ways.{Way, On, Ends, on, has_room, with_room, entered}
use Rattle.turn_model.specs.Steps.{yields_to, yields_for, yields_now, yield_of}
use Rattle.crew_core.specs.declared.crew.Crew.{Crew}
use Rattle.crew_core.specs.declared.order.Order.TheVariants.{Rest}
use Rattle.crew_core.specs.Standing.{Stands, terms_of}
use Rattle.crew_core.specs.Does.{Does, Enters}

-- the favoured hart, the cause and what console and clock have still to give may be set
pub stands_set : (c : Crew) (b : Board FlatState) (f g : ℕ) (x y : Option Cause) (o : Supply) → Stands c b → f ≡ g → x ≡ y → f < c.harts
    → Stands (record c { favoured = f; closed = x }) (record b { favoured = g; closed = y; supply = o })
stands_set c b f g x y o st favoured closed inside = record {
  unit_is = st.unit_is;
  some = st.some;
  backs = st.backs;
  holders = st.holders;
  numbers = st.numbers;
  wants = st.wants;
  waits = st.waits;
  numbered = st.numbered;
  ordinal = st.ordinal;
  streams = st.streams;
  counts = st.counts;
  polls = st.polls;
  orders = st.orders;
  near = st.near;
  size = st.size;
  favoured = favoured;
  closed = closed;
  harts = st.harts;
  board = st.board;
  crew = st.crew;
  table = st.table;
  numbers_size = st.numbers_size;
  yields_size = st.yields_size;
  wants_inside = st.wants_inside;
  wants_size = st.wants_size;
  ends = st.ends;
  device_harts = st.device_harts;
  few = st.few;
  favours = inside;
  limit = st.limit;
  most_bytes = st.most_bytes;
  numbers_fit = st.numbers_fit;
  ordinal_fits = st.ordinal_fits;
}

pub stands_closed : (c : Crew) (b : Board FlatState) (cause : Cause) → Stands c b
    → Stands (record c { closed = Some (unwrap_or c.closed cause) }) (closes cause b)
stands_closed c b cause st =
    stands_set c b c.favoured b.favoured (Some (unwrap_or c.closed cause)) (Some (unwrap_or b.closed cause)) b.supply st st.favoured
    (ap (λ o. Some (unwrap_or o cause)) st.closed) st.favours

pub stands_outside : (c : Crew) (b : Board FlatState) (o : Supply) → Stands c b → Stands c (record b { supply = o })
stands_outside c b o st = stands_set c b c.favoured b.favoured c.closed b.closed o st st.favoured st.closed st.favours

pub stands_favoured : (c : Crew) (b : Board FlatState) (f : ℕ) → f < c.harts → Stands c b → Stands (record c { favoured = f }) (record b { favoured = f })
stands_favoured c b f l st = stands_set c b f f c.closed b.closed b.supply st refl st.closed l

-- whether there is room for an entry
pub room_is : (c : Crew) (b : Board FlatState) (e : Entry) (bytes : ℕ) → Stands c b → size_of e ≡ bytes → has_room the_machine (terms_of c) e b
    ≡ nat_le (c.size + bytes) c.log_limit
room_is c b e bytes st is = ap₂ (λ n m. nat_le (n + m) c.log_limit) (sym st.size) is

pub within_limit : (c : Crew) (b : Board FlatState) (bytes : ℕ) → Stands c b → nat_le (c.size + bytes) c.log_limit ≡ true → c.size + bytes ≤ 536870912
within_limit c b bytes st is = elim (leb_tells (c.size + bytes) c.log_limit) [
  | inl (t, l) ↦ let z = st.limit in omega (arith, z, l)
  | inr (f, l) ↦ absurd (true≢false (sym is ∙ f))
]

-- a step that makes an entry, without room for it
pub filled : (c new : Crew) (r : Run) (h : ℕ) (b : Board FlatState) (e : Entry) (bytes : ℕ) (step : Board FlatState → Way FlatState) → Stands c b
    → Agrees r h b.at → size_of e ≡ bytes → nat_le (c.size + bytes) c.log_limit ≡ false
    → new ≡ record c { closed = Some (unwrap_or c.closed Full) } → Does c new r h (Some Rest) (with_room the_machine (terms_of c) e step b) b.supply
filled c new r h b e bytes step st a size full is =
    subst (λ z. Does c z r h (Some Rest) (with_room the_machine (terms_of c) e step b) b.supply) (sym is)
    (record {
      to = closes Full b;
      is = ap (λ t. if t then step b else Ends model.Rest (closes Full b)) (room_is c b e bytes st size ∙ full);
      supply = refl;
      stands = stands_closed c b Full st;
      agrees = a;
      terms = refl;
    })

-- and with room
pub made_with_room : (c new : Crew) (r next : Run) (h : ℕ) (b : Board FlatState) (e : Entry) (bytes : ℕ) → Stands c b → size_of e ≡ bytes
    → nat_le (c.size + bytes) c.log_limit ≡ true → terms_of new ≡ terms_of c
    → Enters c new next h e b → Does c new next h None (with_room the_machine (terms_of c) e (λ d. on (entered the_machine (terms_of c) h e b)) b) b.supply
made_with_room c new r next h b e bytes st size room same enters = record {
  to = enters.to;
  is = ap (λ t. if t then on (entered the_machine (terms_of c) h e b) else Ends model.Rest (closes Full b)) (room_is c b e bytes st size ∙ room)
      ∙ ap on enters.made;
  supply = enters.supply;
  stands = enters.stands;
  agrees = enters.agrees;
  terms = same;
}

-- a hart yields to another by whether it does now
yields_step : (t : Terms) (h g : ℕ) (n : ℕ × Mode) (b : Board FlatState) (now : Bool) → g ≢ h → wanted b g ≡ Some n → yields_now the_machine t h g n b ≡ now
    → yields_to the_machine t h g b ≡ (if now then with_room the_machine t (yield_of the_machine t h n b)
    (λ c. on (entered the_machine t h (yield_of the_machine t h n c) c)) b else On b)
yields_step t h g n b now other want is =
    ap (λ z. if z then On b else yields_for the_machine t h g (wanted b g) b) (ne_eqb g h other)
    ∙ ap (λ o. yields_for the_machine t h g o b) want
    ∙ ap (λ z. if z then with_room the_machine t (yield_of the_machine t h n b) (λ c. on (entered the_machine t h (yield_of the_machine t h n c) c)) b else On
    b) is

asked_is : (c : Crew) (b : Board FlatState) (g : ℕ) (o : Option (ℕ × Mode)) → Stands c b → unwrap_or (slice_get c.directory.wants g) None ≡ o → wanted b g ≡ o
asked_is c b g o st is = ap (λ ws. unwrap_or (slice_get ws g) None) (sym st.wants) ∙ is

pub keeps_on : (c : Crew) (r : Run) (h g page : ℕ) (mode : Mode) (b : Board FlatState) → Stands c b → Agrees r h b.at → g ≢ h
    → unwrap_or (slice_get c.directory.wants g) None ≡ Some (page, mode)
    → yields_now the_machine (terms_of c) h g (page, mode) b ≡ false → Does c c r h None (yields_to the_machine (terms_of c) h g b) b.supply
keeps_on c r h g page mode b st a other asked now = record {
  to = b;
  is = yields_step (terms_of c) h g (page, mode) b false other (asked_is c b g (Some (page, mode)) st asked) now;
  supply = refl;
  stands = st;
  agrees = a;
  terms = refl;
}

pub fills : (c new : Crew) (r : Run) (h g page : ℕ) (mode : Mode) (b : Board FlatState) → Stands c b → Agrees r h b.at → g ≢ h
    → unwrap_or (slice_get c.directory.wants g) None ≡ Some (page, mode)
    → yields_now the_machine (terms_of c) h g (page, mode) b ≡ true → nat_le (c.size + 16) c.log_limit ≡ false → new
    ≡ record c { closed = Some (unwrap_or c.closed Full) }
    → Does c new r h (Some Rest) (yields_to the_machine (terms_of c) h g b) b.supply
fills c new r h g page mode b st a other asked now full is =
    subst (λ z. Does c new r h (Some Rest) z b.supply) (sym (yields_step (terms_of c) h g (page, mode) b true other
    (asked_is c b g (Some (page, mode)) st asked) now))
    (filled c new r h b (yield_of the_machine (terms_of c) h (page, mode) b) 16
    (λ d. on (entered the_machine (terms_of c) h (yield_of the_machine (terms_of c) h (page, mode) d) d)) st a refl full is)

pub gives_up : (c new : Crew) (r next : Run) (h g page : ℕ) (mode : Mode) (b : Board FlatState) → Stands c b → Agrees r h b.at → g ≢ h
    → unwrap_or (slice_get c.directory.wants g) None ≡ Some (page, mode)
    → yields_now the_machine (terms_of c) h g (page, mode) b ≡ true → nat_le (c.size + 16) c.log_limit ≡ true → terms_of new ≡ terms_of c
    → Enters c new next h (Yield (the_board.count b.at.flat h) page (slice_index b.at.cursor.numbers page) (left_for mode)) b
    → Does c new next h None (yields_to the_machine (terms_of c) h g b) b.supply
gives_up c new r next h g page mode b st a other asked now room same enters =
    subst (λ z. Does c new next h None z b.supply) (sym (yields_step (terms_of c) h g (page, mode) b true other (asked_is c b g (Some (page, mode)) st asked)
    now))
    (made_with_room c new r next h b (yield_of the_machine (terms_of c) h (page, mode) b) 16 st refl room same enters)

-- what a hart yields is less than what it held
pub yields_less : (hold : Option Mode) (mode : Mode) → conflict hold (Some mode) ≡ true → strength (left_for mode) < strength hold
yields_less None mode e = absurd (true≢false (sym e))
yields_less (Some Read) Read e = absurd (true≢false (sym e))
yields_less (Some Read) Write e = omega arith
yields_less (Some Write) Read e = omega arith
yields_less (Some Write) Write e = omega arith
