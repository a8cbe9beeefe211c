-- What keeps a hart from a page, and what follows.
use Rattle.std.proofs.Common.{◌≡◌, ◌≢◌, ◌⊎◌, inl, inr, ℕ, suc, ◌+◌, ◌<◌, ◌==◌, ◌&&◌, nat_lt, nat_le, not, true, false}
use Rattle.std.proofs.Common.{find, length, Option, Some, None, slice_get, slice_set, unwrap_or, refl, sym, ap, ap₂, ◌∙◌, subst}
use Rattle.std.proofs.Common.{arith, if◌then◌else◌}
use Rattle.std.specs.Prelude.{IsTrue, is_none}
use Rattle.std.specs.List.{range_with_len}
use Rattle.std.specs.Option.{option_or}
use Rattle.std.proofs.lemmas.Bool.{cases_eq}
use Rattle.std.proofs.lemmas.Bool.Decides.{leb_tells}
use Rattle.std.proofs.lemmas.List.{length-set}
use Rattle.std.proofs.lemmas.Option.{none-some, same_Some}
use Rattle.rv_words.specs.declared.shared.Mode.{Mode}
use Rattle.rv_words.specs.declared.shared.Cause.TheVariants.{Full}
use Rattle.log_entry.specs.Parts.{strength, conflict, is_some_and}
use Rattle.orders_law.specs.Orders.{below}
use Rattle.flat_machine.specs.State.{FlatState}
use Rattle.order_rules.specs.Holders.{held}
use Rattle.privilege_directory.specs.Directory.{clash_of, may_gain}
use Rattle.order_rules.proofs.Crew.{conflict_turned}
use Rattle.run_model.specs.Run.{Run, hold_of}
use Rattle.run_model.specs.Agreement.{Agrees}
use Rattle.shared_types.proofs.Lists.{find_same, set_here, set_there}
use Rattle.crew_parts.specs.Boards.{the_machine}
use Rattle.turn_model.specs.Board as model
use Rattle.turn_model.specs.Board.{Board, harts, closes}
use Rattle.turn_model.specs.Claims.{kept_by, rank, stands_before}
use Rattle.log_entry.specs.Size.{size_of}
use Rattle.rv_words.specs.Modes.{conflicts}
use Rattle.turn_model.specs.Ways.{On, on, entered}
use Rattle.turn_model.specs.Steps.{gains_page, gains_unless, gain_of, with_want}
use Rattle.crew_core.specs.declared.crew.Crew.{Crew}
use Rattle.crew_core.specs.declared.order.Order.TheVariants.{Rest, Hold}
use Rattle.crew_core.specs.Standing.{Stands, terms_of}
use Rattle.crew_core.specs.Does.{Does, Enters, rivals, wants_against}
use Rattle.crew_core.proofs.Claiming.{rank_is, streams_size}
use Rattle.crew_core.proofs.Yielding.{page_held}
use Rattle.crew_core.proofs.Stepping.{filled, made_with_room}
use Rattle.orders_law.proofs.Below.{below_range}

harts_are : (c : Crew) (b : Board FlatState) → Stands c b → range_with_len 0 c.harts ≡ harts b
harts_are c b st = sym (below_range c.harts) ∙ ap below (sym (streams_size c b st))

pub kept_is : (c : Crew) (b : Board FlatState) (h page : ℕ) (mode : Mode) (o : Option ℕ) → o
    ≡ option_or (clash_of c.directory h page mode) (find (rivals c h page mode) (range_with_len 0 c.harts)) → Stands c b → o ≡ kept_by b h (page, mode)
kept_is c b h page mode o is st =
    is ∙ ap₂ option_or
    (ap (λ n. find (λ g. not (g == h) && conflict (Some mode) (held c.directory.holders page g)) (range_with_len 0 n)) st.wants_size
    ∙ ap (find (λ g. not (g == h) && conflict (Some mode) (held c.directory.holders page g))) (harts_are c b st)
    ∙ find_same (λ g. not (g == h) && conflict (Some mode) (held c.directory.holders page g))
    (λ g. not (g == h) && conflict (held b.at.holders page g) (Some mode)) (harts b)
    (λ g. ap (λ z. not (g == h) && z) (conflict_turned (Some mode) (held c.directory.holders page g)
    ∙ ap (λ hs. conflict (held hs page g) (Some mode)) st.holders)))
    (ap (find (rivals c h page mode)) (harts_are c b st)
    ∙ find_same (rivals c h page mode) (λ g. stands_before b g h && is_some_and (model.wanted b g) (λ w. (w.0 == page) && conflicts w.1 mode)) (harts b)
    (λ g. ap₂ (λ x y. nat_lt x y && wants_against (unwrap_or (slice_get c.directory.wants g) None) page mode) (sym (rank_is c b g st)) (sym (rank_is c b h st))
    ∙ ap (λ ws. nat_lt (rank b g) (rank b h) && wants_against (unwrap_or (slice_get ws g) None) page mode) st.wants))

pub stands_asked : (c : Crew) (b : Board FlatState) (h page : ℕ) (mode : Mode) → h < c.harts → page < c.pages → Stands c b
    → Stands (record c { directory = record c.directory { wants = slice_set c.directory.wants h (Some (page, mode)) } }) (with_want h (Some (page, mode)) b)
stands_asked c b h page mode inside there st = record {
  unit_is = st.unit_is;
  some = st.some;
  backs = st.backs;
  holders = st.holders;
  numbers = st.numbers;
  wants = ap (λ ws. slice_set ws h (Some (page, mode))) st.wants;
  waits = st.waits;
  numbered = st.numbered;
  ordinal = st.ordinal;
  streams = st.streams;
  counts = st.counts;
  polls = st.polls;
  orders = st.orders;
  near = st.near;
  size = st.size;
  favoured = st.favoured;
  closed = st.closed;
  harts = st.harts;
  board = st.board;
  crew = st.crew;
  table = st.table;
  numbers_size = st.numbers_size;
  yields_size = st.yields_size;
  wants_inside = λ g m w. by_want g m w (cases_eq g h);
  limit = st.limit;
  wants_size = length-set c.directory.wants h _ ∙ st.wants_size;
  ends = st.ends;
  device_harts = st.device_harts;
  few = st.few;
  favours = st.favours;
  most_bytes = st.most_bytes;
  numbers_fit = st.numbers_fit;
  ordinal_fits = st.ordinal_fits;
}
  where
    by_want : (g : ℕ) (m : ℕ × Mode) → unwrap_or (slice_get (slice_set c.directory.wants h (Some (page, mode))) g) None ≡ Some m → (g ≡ h) ⊎ (g ≢ h)
        → m.0 < c.pages
    by_want g m w (inl same) =
        let l : h < length c.directory.wants = omega (arith, inside, st.wants_size) in
        let is = same_Some _ _ (sym (ap (λ o. unwrap_or o None) (set_here c.directory.wants h (Some (page, mode)) l))
        ∙ subst (λ z. unwrap_or (slice_get (slice_set c.directory.wants h (Some (page, mode))) z) None ≡ Some m) same w) in
        subst (λ (n : ℕ × Mode). n.0 < c.pages) is there
    by_want g m w (inr other) = st.wants_inside g m (sym (ap (λ o. unwrap_or o None) (set_there c.directory.wants h g (Some (page, mode)) other)) ∙ w)

not_so : (a b : ℕ) → a < b → nat_le b a ≡ false
not_so a b l = elim (leb_tells b a) [ inl (t, m) ↦ absurd (omega (arith, l, m)) | inr (f, m) ↦ f ]

-- a page that the hart lacks is gained, unless it is kept
page_step : (c : Crew) (r : Run) (h page : ℕ) (mode : Mode) (b : Board FlatState) (kept : Option ℕ) → Agrees r h b.at
    → strength (hold_of r page) < strength (Some mode) → kept ≡ kept_by b h (page, mode)
    → gains_page the_machine (terms_of c) h (page, mode) b ≡ gains_unless the_machine (terms_of c) kept h (page, mode) b
page_step c r h page mode b kept a lacks is =
    ap (λ t. if t then On b else gains_unless the_machine (terms_of c) (kept_by b h (page, mode)) h (page, mode) b)
    (ap (λ o. nat_le (strength (Some mode)) (strength o)) (a.modes page) ∙ not_so (strength (hold_of r page)) (strength (Some mode)) lacks)
    ∙ ap (λ o. gains_unless the_machine (terms_of c) o h (page, mode) b) (sym is)

pub waits_for : (c new : Crew) (r : Run) (h page other : ℕ) (mode : Mode) (b : Board FlatState) → Stands c b → Agrees r h b.at → h < c.harts → page < c.pages
    → strength (hold_of r page) < strength (Some mode) → Some other ≡ kept_by b h (page, mode)
    → new ≡ record c { directory = record c.directory { wants = slice_set c.directory.wants h (Some (page, mode)) } }
    → Does c new r h (Some (Hold page other)) (gains_page the_machine (terms_of c) h (page, mode) b) b.supply
waits_for c new r h page other mode b st a inside there lacks kept is = subst
    (λ z. Does c z r h (Some (Hold page other)) (gains_page the_machine (terms_of c) h (page, mode) b) b.supply) (sym is) (record {
      to = with_want h (Some (page, mode)) b;
      is = page_step c r h page mode b (Some other) a lacks kept;
      supply = refl;
      stands = stands_asked c b h page mode inside there st;
      agrees = a;
      terms = refl;
    })

pub full_gain : (c new : Crew) (r : Run) (h page bytes : ℕ) (mode : Mode) (b : Board FlatState) → Stands c b → Agrees r h b.at
    → strength (hold_of r page) < strength (Some mode) → None ≡ kept_by b h (page, mode)
    → size_of (gain_of the_machine (terms_of c) h (page, mode) b) ≡ bytes → nat_le (c.size + bytes) c.log_limit ≡ false → new
    ≡ record c { closed = Some (unwrap_or c.closed Full) }
    → Does c new r h (Some Rest) (gains_page the_machine (terms_of c) h (page, mode) b) b.supply
full_gain c new r h page bytes mode b st a lacks kept size full is =
    subst (λ z. Does c new r h (Some Rest) z b.supply) (sym (page_step c r h page mode b None a lacks kept))
    (filled c new r h b (gain_of the_machine (terms_of c) h (page, mode) b) bytes
    (λ d. on (entered the_machine (terms_of c) h (gain_of the_machine (terms_of c) h (page, mode) d) d)) st a size full is)

pub gains_it : (c new : Crew) (r next : Run) (h page bytes : ℕ) (mode : Mode) (b : Board FlatState) → Stands c b → Agrees r h b.at
    → strength (hold_of r page) < strength (Some mode) → None ≡ kept_by b h (page, mode)
    → size_of (gain_of the_machine (terms_of c) h (page, mode) b) ≡ bytes → nat_le (c.size + bytes) c.log_limit ≡ true → terms_of new ≡ terms_of c
    → Enters c new next h (gain_of the_machine (terms_of c) h (page, mode) b) b
    → Does c new next h None (gains_page the_machine (terms_of c) h (page, mode) b) b.supply
gains_it c new r next h page bytes mode b st a lacks kept size room same enters =
    subst (λ z. Does c new next h None z b.supply) (sym (page_step c r h page mode b None a lacks kept))
    (made_with_room c new r next h b (gain_of the_machine (terms_of c) h (page, mode) b) bytes st size room same enters)

-- nobody clashes where nothing keeps the page
pub may_be : (c : Crew) (r : Run) (h page : ℕ) (mode : Mode) (b : Board FlatState) (rest : Option ℕ) → Stands c b → Agrees r h b.at
    → strength (hold_of r page) < strength (Some mode) → option_or (clash_of c.directory h page mode) rest ≡ None → IsTrue (may_gain c.directory h page mode)
may_be c r h page mode b rest st a lacks none = by (clash_of c.directory h page mode) none where
  by : (o : Option ℕ) → option_or o rest ≡ None → IsTrue (is_none o && nat_lt (strength (held c.directory.holders page h)) (strength (Some mode)))
  by (Some x) e = absurd (none-some x (sym e))
  by None e = elim (leb_tells (suc (strength (held c.directory.holders page h))) (strength (Some mode))) [
    | inl (t, l) ↦ t
    | inr (f, l) ↦ (let z = ap strength (page_held c r h page b st a) in absurd (omega (arith, l, z, lacks)))
  ]
