-- A hart of the crew yields a page.
use Rattle.order_rules.specs.Holders.{Holders}
use Rattle.std.proofs.Common.{◌≡◌, ◌≢◌, ℕ, zero, suc, ◌∷◌, ◌+◌, ◌<◌, ◌≤◌, ◌^◌, false, List, [], length, Option, Some, None, slice_get}
use Rattle.std.proofs.Common.{slice_index, refl, sym, ap, ap₂, ◌∙◌, subst, arith}
use Rattle.std.proofs.lemmas.Option.{none-some, same_Some}
use Rattle.rv_words.specs.declared.shared.Mode.{Mode}
use Rattle.rv_words.specs.declared.shared.Mode.TheVariants.{Write}
use Rattle.rv_words.specs.Limits.{page_bytes}
use Rattle.log_entry.specs.declared.log.Entry.TheVariants.{Yield}
use Rattle.log_entry.specs.Parts.{strength, conflict}
use Rattle.flat_machine.specs.State.{FlatState}
use Rattle.crew_parts.specs.Boards.{the_board}
use Rattle.order_rules.specs.Holders.{held, IsCrew}
use Rattle.replay_model.specs.Items.{effect}
use Rattle.privilege_directory.specs.Directory as directories
use Rattle.privilege_directory.specs.Directory.{yielded}
use Rattle.run_model.specs.Run.{Run, hold_of}
use Rattle.run_model.specs.Agreement.{Agrees}
use Rattle.board_backing.specs.declared.backing.Backing.{Backing}
use Rattle.board_backing.specs.Backing.{Leads}
use Rattle.board_backing.proofs.Backs.{yield_did}
use Rattle.turn_model.specs.Board.{Board}
use Rattle.crew_core.specs.declared.crew.Crew.{Crew}
use Rattle.crew_core.specs.Seats.{seat_of, entered_at}
use Rattle.crew_core.proofs.Seated.{seat_there}
use Rattle.crew_core.specs.Standing.{Stands}
use Rattle.crew_core.specs.Does.{Enters}
use Rattle.crew_core.proofs.Entries.{entered_is, further, past_agrees, stands_page}

pub page_held : (c : Crew) (r : Run) (h page : ℕ) (b : Board FlatState) → Stands c b → Agrees r h b.at → held c.directory.holders page h ≡ hold_of r page
page_held c r h page b st a = ap (λ hs. held hs page h) st.holders ∙ a.modes page

pub number_fits : (c : Crew) (b : Board FlatState) (page : ℕ) → Stands c b → slice_index c.directory.numbers page < 2 ^ 32
number_fits c b page st = let z = st.numbers_fit page in let w = st.most_bytes in let n = ap (λ xs. slice_index xs page) st.numbers in omega (arith, z, w, n)

pub count_is : (r : Run) (h : ℕ) (b : Board FlatState) → Agrees r h b.at → the_board.count b.at.flat h ≡ r.count
count_is r h b a = by b.at.flat.counts h a.count where
  by : (xs : List ℕ) (i : ℕ) → slice_get xs i ≡ Some r.count → slice_index xs i ≡ r.count
  by [] i e = absurd (none-some _ e)
  by (x ∷ xs) zero e = same_Some _ _ e
  by (x ∷ xs) (suc i) e = by xs i e

-- where a hart holds a page, no other hart holds it in Write
pub alone : (holders : Holders) (page h : ℕ) (left : Option Mode) → IsCrew holders → strength left < strength (held holders page h) → (g : ℕ) → g ≢ h
    → held holders page g ≢ Some Write
alone holders page h left crew less g n w = by (held holders page h) refl where
  by : (o : Option Mode) → held holders page h ≡ o → ⊥
  by None is = let z = ap strength is in absurd (omega (arith, less, z))
  by (Some mode) is = let z : conflict (Some Write) (Some mode) ≡ false = ap₂ conflict (sym w) (sym is) ∙ crew page g h n in absurd (let bad : ⊥ = cc in bad)

pub yield_enters : (c new : Crew) (r next : Run) (b : Board FlatState) (h page count seq : ℕ) (left : Option Mode) (backing : Backing)
    (directory : directories.Directory) → Stands c b → Agrees r h b.at → h < c.harts → page < c.pages
    → strength left < strength (held c.directory.holders page h) → c.size + 16 ≤ 536870912 → count ≡ r.count → seq ≡ slice_index c.directory.numbers page
    → directory ≡ yielded c.directory h page count left → IsCrew directory.holders
    → new ≡ record c { backing = backing; directory = directory; seats = entered_at h (Yield count page seq left) c.seats; size = c.size + 16 }
    → (((g : ℕ) → g ≢ h → held b.at.holders page g ≢ Some Write) → Leads c.backing backing next h (effect the_board b.at h (Yield count page seq left)))
    → Enters c new next h (Yield (the_board.count b.at.flat h) page (slice_index b.at.cursor.numbers page) left) b
yield_enters c new r next b h page count seq left backing directory st a inside there less fits counts numbers moves crew is leads =
    let e = Yield count page seq left in
    let number : seq ≡ slice_index b.at.cursor.numbers page = numbers ∙ ap (λ xs. slice_index xs page) st.numbers in
    let same : Yield (the_board.count b.at.flat h) page (slice_index b.at.cursor.numbers page) left
    ≡ e = ap₂ (λ n m. Yield n page m left) (count_is r h b a ∙ sym counts) (sym number) in
    let led = leads (alone b.at.holders page h left st.crew (subst (λ hs. strength left < strength (held hs page h)) st.holders less)) in
    let only = yield_did page_bytes b.at led.at h page count seq left led.made in
    subst (λ z. Enters c new next h z b) (sym same)
    (record {
      to = further b h e led.at;
      made = entered_is c b h e led.at led.made;
      supply = refl;
      stands = subst (λ z. Stands z (further b h e led.at)) (sym is) (stands_page c b h page e led.at backing directory st inside there
          (record { number = ap (λ m. Some (page, m)) number; no_touch = refl; no_poll = refl; bytes = omega arith })
          fits led.made only led.backs (led.unit_is ∙ st.unit_is)
          (record {
            holders = ap (λ (d : directories.Directory). d.holders) moves;
            numbers = ap (λ (d : directories.Directory). d.numbers) moves;
            yields = ap (λ (d : directories.Directory). d.yields) moves;
            wants = ap (λ (d : directories.Directory). d.wants) moves;
            crew = crew;
          }));
      agrees = past_agrees next h e led.at led.agrees;
    })

pub hart_there : (c : Crew) (b : Board FlatState) (h : ℕ) → Stands c b → h < c.harts → h < length b.at.flat.harts
hart_there c b h st l = let z = st.board.harts_size in omega (arith, l, z)

pub seat_count : (c : Crew) (r : Run) (h : ℕ) (b : Board FlatState) → Stands c b → Agrees r h b.at → h < c.harts → (seat_of c.seats h).count ≡ r.count
seat_count c r h b st a inside = st.counts h (seat_of c.seats h) (seat_there c.seats h (omega (arith, inside, st.harts))) ∙ count_is r h b a
