-- What a hart claims, and when it yields.
use Rattle.std.proofs.Common.{◌≡◌, ℕ, ◌+◌, ◌-◌, ◌%◌, ◌==◌, ◌&&◌, ◌||◌, not, nat_lt, Bool, true, false, List, [], ◌∷◌, length}
use Rattle.std.proofs.Common.{take, Option, Some, None, slice_get, is_some, refl, sym, ap, ap₂, ◌∙◌, if◌then◌else◌}
use Rattle.std.specs.List.{list_any}
use Rattle.std.specs.Option.{option_map_or}
use Rattle.rv_words.specs.Addresses.{in_memory}
use Rattle.rv_words.specs.Modes.{conflicts}
use Rattle.rv_words.specs.declared.shared.Mode.{Mode}
use Rattle.rv_words.specs.declared.shared.Mode.TheVariants.{Read, Write}
use Rattle.rv_csr.specs.Traps.{pending}
use Rattle.rv_hart.specs.State.{Hart}
use Rattle.rv_hart.specs.Needs.{page_at, pages_needed}
use Rattle.rv_hart.specs.declared.effect.Fetch.TheVariants.{Interrupt, Fault, At}
use Rattle.log_entry.specs.Parts.{conflict}
use Rattle.flat_machine.specs.State.{FlatState}
use Rattle.flat_machine.specs.Moves.{fetched, fetched_by}
use Rattle.rv_words.specs.Limits.{page_bytes}
use Rattle.order_rules.specs.Holders.{held}
use Rattle.run_model.specs.Run.{Run, claim_of, most_needed, needed_in, stronger}
use Rattle.run_model.specs.Agreement.{Agrees, holds_fetch, pages_known}
use Rattle.run_model.proofs.Laws.{sees_claim}
use Rattle.crew_parts.specs.Boards.{the_machine}
use Rattle.turn_model.specs.Board.{Board}
use Rattle.turn_model.specs.Claims.{known, needed, holds_so, claims_against, rank}
use Rattle.turn_model.specs.Steps.{yields_now}
use Rattle.crew_core.specs.declared.crew.Crew.{Crew}
use Rattle.crew_core.specs.Standing.{Stands, terms_of}
use Rattle.crew_core.specs.Does.{rank_in}
use Rattle.crew_core.proofs.Machine.{run_unit}
use Rattle.crew_core.proofs.Seated.{lanes_size}
use Rattle.crew_core.proofs.Yielding.{count_is}

stronger_conflict : (a b : Option Mode) (m : Mode) → conflict (stronger a b) (Some m) ≡ (conflict a (Some m) || conflict b (Some m))
stronger_conflict None None Read = refl
stronger_conflict None None Write = refl
stronger_conflict None (Some Read) Read = refl
stronger_conflict None (Some Read) Write = refl
stronger_conflict None (Some Write) Read = refl
stronger_conflict None (Some Write) Write = refl
stronger_conflict (Some Read) None Read = refl
stronger_conflict (Some Read) None Write = refl
stronger_conflict (Some Read) (Some Read) Read = refl
stronger_conflict (Some Read) (Some Read) Write = refl
stronger_conflict (Some Read) (Some Write) Read = refl
stronger_conflict (Some Read) (Some Write) Write = refl
stronger_conflict (Some Write) None Read = refl
stronger_conflict (Some Write) None Write = refl
stronger_conflict (Some Write) (Some Read) Read = refl
stronger_conflict (Some Write) (Some Read) Write = refl
stronger_conflict (Some Write) (Some Write) Read = refl
stronger_conflict (Some Write) (Some Write) Write = refl

needed_conflict : (t : Bool) (x m : Mode) → conflict (if t then Some x else None) (Some m) ≡ (t && conflicts x m)
needed_conflict true x m = refl
needed_conflict false x m = refl

claim_conflicts : (page : ℕ) (m : Mode) (needs : List (ℕ × Mode)) → conflict (most_needed page needs) (Some m)
    ≡ list_any (λ (n : ℕ × Mode). (n.0 == page) && conflicts n.1 m) needs
claim_conflicts page m [] = refl
claim_conflicts page m (n ∷ needs) =
    stronger_conflict (needed_in page n) (most_needed page needs) m ∙ ap₂ (λ a b. a || b) (needed_conflict (n.0 == page) n.1 m) (claim_conflicts page m needs)

one_known : (t : Bool) (f : ℕ × Mode) (d : List (ℕ × Mode)) → f ∷ (if t then d else []) ≡ (if t then f ∷ d else take 1 (f ∷ d))
one_known true f d = refl
one_known false f d = refl

known_is : (b : Board FlatState) (h : ℕ) (x : Hart) → slice_get b.at.flat.harts h ≡ Some x
    → known the_machine (record { pages = 0; image = []; limit = 0; log_limit = 0 }) b h
    (needed the_machine (record { pages = 0; image = []; limit = 0; log_limit = 0 }) b h) ≡ pages_known page_bytes b.at h x
known_is b h x is =
    ap (λ (o : Option Hart). known the_machine (record { pages = 0; image = []; limit = 0; log_limit = 0 }) b h
    (option_map_or (λ (x : Hart). pages_needed page_bytes x (fetched x b.at.flat.memory)) o [])) is
    ∙ by (is_some (pending x.csrs)) (in_memory x.pages x.pc)
  where
    by : (p q : Bool) → known the_machine (record { pages = 0; image = []; limit = 0; log_limit = 0 }) b h
        (pages_needed page_bytes x (fetched_by b.at.flat.memory (if p then Interrupt else if q then At x.pc else Fault)))
        ≡ (if holds_fetch page_bytes b.at h (if p then Interrupt else if q then At x.pc else Fault) then pages_needed page_bytes x
        (fetched_by b.at.flat.memory (if p then Interrupt else if q then At x.pc else Fault))
        else take 1 (pages_needed page_bytes x (fetched_by b.at.flat.memory (if p then Interrupt else if q then At x.pc else Fault))))
    by true q = refl
    by false false = refl
    by false true = one_known (holds_so b h (page_at page_bytes x.pc, Read)) (page_at page_bytes x.pc, Read) _

claims_are : (c : Crew) (r : Run) (h page : ℕ) (mode : Mode) (b : Board FlatState) → Stands c b → Agrees r h b.at
    → claims_against the_machine (terms_of c) b h page mode ≡ (not (r.count == c.limit) && conflict (claim_of r page) (Some mode))
claims_are c r h page mode b st a =
    ap₂ (λ n xs. not (n == c.limit) && list_any (λ (n : ℕ × Mode). (n.0 == page) && conflicts n.1 mode) xs) (count_is r h b a) (known_is b h r.hart a.hart)
    ∙ ap (λ z. not (r.count == c.limit) && z) (sym (claim_conflicts page mode (pages_known page_bytes b.at h r.hart))
    ∙ ap (λ o. conflict o (Some mode)) (sym (sees_claim r h b.at page a
    ∙ ap (λ u. most_needed page (pages_known u b.at h r.hart)) (run_unit c r h b st a))))

pub streams_size : (c : Crew) (b : Board FlatState) → Stands c b → length b.streams ≡ c.harts
streams_size c b st = ap length (sym st.streams) ∙ lanes_size c.seats ∙ st.harts

pub rank_is : (c : Crew) (b : Board FlatState) (h : ℕ) → Stands c b → rank b h ≡ rank_in c h
rank_is c b h st = ap₂ (λ n f. (h + n - f) % n) (streams_size c b st) (sym st.favoured)

pub yields_are : (c : Crew) (r : Run) (h g page : ℕ) (mode : Mode) (b : Board FlatState) (t : Bool)
    → t ≡ (conflict (held c.directory.holders page h) (Some mode)
    && not ((not (r.count == c.limit) && conflict (claim_of r page) (Some mode)) && nat_lt (rank_in c h) (rank_in c g)))
    → Stands c b → Agrees r h b.at → t ≡ yields_now the_machine (terms_of c) h g (page, mode) b
yields_are c r h g page mode b t is st a =
    is ∙ ap (λ hs. conflict (held hs page h) (Some mode) && not
    ((not (r.count == c.limit) && conflict (claim_of r page) (Some mode)) && nat_lt (rank_in c h) (rank_in c g))) st.holders
    ∙ ap (λ z. conflict (held b.at.holders page h) (Some mode) && not (z && nat_lt (rank_in c h) (rank_in c g))) (sym (claims_are c r h page mode b st a))
    ∙ ap₂ (λ x y. conflict (held b.at.holders page h) (Some mode) && not (claims_against the_machine (terms_of c) b h page mode && nat_lt x y))
    (sym (rank_is c b h st)) (sym (rank_is c b g st))
