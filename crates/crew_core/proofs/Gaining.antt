-- A hart of the crew gains a page.
use Rattle.std.proofs.Common.{◌≡◌, ℕ, zero, suc, ◌+◌, ◌*◌, ◌<◌, ◌≤◌, ◌++◌, Bool, true, false, List, [], ◌∷◌, length, map, find, flat_map, Option}
use Rattle.std.proofs.Common.{Some, None, slice_index, refl, sym, ap, ap₂, ◌∙◌, subst, arith, inl, inr, nat_lt, ◌&&◌}
use Rattle.std.proofs.Common.{true≢false, if◌then◌else◌}
use Rattle.std.specs.Prelude.{IsTrue, is_none}
use Rattle.std.proofs.lemmas.Bool.Decides.{leb_tells}
use Rattle.std.specs.List.{enumerate_from}
use Rattle.std.specs.Option.{option_or}
use Rattle.std.proofs.lemmas.Bool.{cases_eq}
use Rattle.std.proofs.lemmas.Option.{same_Some}
use Rattle.std.proofs.lemmas.List.{map-append}
use Rattle.std.proofs.lemmas.List.Folds.{find-append}
use Rattle.rv_words.specs.declared.shared.Mode.{Mode}
use Rattle.rv_words.specs.declared.shared.Mode.TheVariants.{Read, Write}
use Rattle.log_entry.specs.declared.waits.WaitFor.{WaitFor}
use Rattle.log_entry.specs.Waits.{WaitList}
use Rattle.log_entry.specs.declared.log.Entry.{Entry}
use Rattle.log_entry.specs.declared.log.Entry.TheVariants.{Gain, End}
use Rattle.log_entry.specs.Size.{size_of}
use Rattle.log_entry.specs.Parts.{strength, conflict}
use Rattle.order_rules.specs.Places.{is_number, number_on}
use Rattle.order_rules.specs.Rules.{waits_due, waits_after}
use Rattle.flat_machine.specs.State.{FlatState}
use Rattle.crew_parts.specs.Boards.{the_board}
use Rattle.order_rules.specs.Holders.{Holders, row, held, with_held, IsCrew}
use Rattle.replay_model.specs.Items.{effect}
use Rattle.order_rules.proofs.Follow.{held_here, held_beside}
use Rattle.privilege_directory.specs.Directory as directories
use Rattle.privilege_directory.specs.Directory.{gained, may_gain, clash_of, by_others, yields_of}
use Rattle.run_model.specs.Run.{Run}
use Rattle.run_model.specs.Agreement.{Agrees, with_page_held}
use Rattle.std.proofs.lemmas.Option.{slice_get_within}
use Rattle.board_backing.specs.declared.backing.Backing.{Backing}
use Rattle.board_backing.specs.Backing.{Leads, IsUnwritten}
use Rattle.board_backing.proofs.Backs.{HeldOnly, plainly}
use Rattle.crew_parts.specs.Boards.{the_machine}
use Rattle.turn_model.specs.Board.{Board, Terms, count, log_of}
use Rattle.turn_model.specs.Steps.{gain_of}
use Rattle.crew_core.specs.declared.crew.Crew.{Crew}
use Rattle.crew_core.specs.Seats.{entered_at}
use Rattle.crew_core.specs.Standing.{Stands, log_so_far, terms_of}
use Rattle.crew_core.specs.Does.{Enters}
use Rattle.crew_core.proofs.Entries.{entered_is, further, past_agrees, stands_page}
use Rattle.crew_core.proofs.Yielding.{count_is}

abbrev all : ℕ → List (List Entry) → List (ℕ × Entry)
all n streams = flat_map (λ (s : ℕ × List Entry). map (λ e. (s.0, e)) s.1) (enumerate_from n streams)

-- Ends have no number of a page
find_ended : (test : ℕ × Entry → Bool) (count : ℕ → ℕ) (n : ℕ) (streams : List (List Entry)) → ((m k : ℕ) → test (m, End k) ≡ false)
    → find test (all n (map (λ (s : ℕ × List Entry). s.1 ++ End (count s.0) ∷ []) (enumerate_from n streams))) ≡ find test (all n streams)
find_ended test count n [] fails = refl
find_ended test count n (s ∷ streams) fails =
    find-append test (map (λ e. (n, e)) (s ++ End (count n) ∷ []))
    (all (n + 1) (map (λ (s : ℕ × List Entry). s.1 ++ End (count s.0) ∷ []) (enumerate_from (n + 1) streams)))
    ∙ ap₂ option_or
    (ap (find test) (map-append (λ (x : Entry). (n, x)) s (End (count n) ∷ [])) ∙ find-append test (map (λ e. (n, e)) s) ((n, End (count n)) ∷ [])
    ∙ ap (λ t. option_or (find test (map (λ (e : Entry). (n, e)) s)) (if t then Some (n, End (count n)) else None)) (fails n (count n))
    ∙ or_none (find test (map (λ (e : Entry). (n, e)) s)))
    (find_ended test count (n + 1) streams fails)
    ∙ sym (find-append test (map (λ e. (n, e)) s) (all (n + 1) streams))
  where
    or_none : (o : Option (ℕ × Entry)) → option_or o None ≡ o
    or_none None = refl
    or_none (Some x) = refl

-- the waits of a log with Ends are those without
waits_ended : (terms : Terms) (b : Board FlatState) (page h k : ℕ) → waits_due (log_of the_machine terms b) page h k
    ≡ waits_due (log_so_far terms b.streams) page h k
waits_ended terms b page h zero = refl
waits_ended terms b page h (suc k) =
    ap₂ (waits_after h) (waits_ended terms b page h k) (find_ended (λ (x : ℕ × Entry). is_number k (number_on page x.1)) (count the_machine terms b) 0
    b.streams (λ m j. refl))

-- a page that a hart may gain nobody holds in Write
pub unwritten : (holders : Holders) (page h : ℕ) (mode : Mode) → page < length holders → IsCrew (with_held holders page h (Some mode))
    → held (with_held holders page h (Some mode)) page h ≡ Some mode
    → strength (held holders page h) < strength (Some mode) → IsUnwritten holders page
unwritten holders page h mode there crew here less g w = elim (cases_eq g h) [
  | inl e ↦ (let z = ap (λ k. strength (held holders page k)) e in let y = ap strength w in let m = most mode in absurd (omega (arith, less, z, y, m)))
  | inr n ↦ (let z : conflict (Some Write) (Some mode) ≡ false = ap₂ conflict (sym w ∙ sym (held_beside holders page h g (Some mode) there n)) (sym here)
      ∙ crew page g h n in absurd (let bad : ⊥ = cc in bad))
]
  where
    most : (m : Mode) → strength (Some m) ≤ 2
    most Read = omega arith
    most Write = omega arith

-- the mode is more than what the hart holds
pub may_more : (d : directories.Directory) (h page : ℕ) (mode : Mode) → IsTrue (may_gain d h page mode)
    → strength (held d.holders page h) < strength (Some mode)
may_more d h page mode is = by (is_none (clash_of d h page mode)) (nat_lt (strength (held d.holders page h)) (strength (Some mode))) refl is where
  by : (a b : Bool) → nat_lt (strength (held d.holders page h)) (strength (Some mode)) ≡ b → IsTrue (a && b)
      → strength (held d.holders page h) < strength (Some mode)
  by true true e t = elim (leb_tells (suc (strength (held d.holders page h))) (strength (Some mode)))
      [ inl (u, l) ↦ l | inr (f, l) ↦ absurd (true≢false (sym e ∙ f)) ]
  by true false e t = absurd (true≢false (sym t))
  by false b e t = absurd (true≢false (sym t))

pub gain_enters : (c new : Crew) (r next : Run) (b : Board FlatState) (h page count seq bytes : ℕ) (mode : Mode) (waits : WaitList) (backing : Backing)
    (directory : directories.Directory) → Stands c b → Agrees r h b.at → h < c.harts → page < c.pages
    → strength (held c.directory.holders page h) < strength (Some mode) → bytes ≡ 17 + 9 * length waits.items → c.size + bytes ≤ 536870912 → count ≡ r.count
    → seq ≡ slice_index c.directory.numbers page → directory ≡ gained c.directory h page mode → IsCrew directory.holders
    → waits.items ≡ by_others h (yields_of c.directory page)
    → new ≡ record c {
      backing = backing;
      directory = directory;
      seats = entered_at h (Gain count page seq mode (record { items = waits.items; room = 0 }))
          c.seats;
      size = c.size + bytes;
    }
    → (IsUnwritten b.at.holders page → Leads c.backing backing next h
    (effect the_board b.at h (Gain count page seq mode (record { items = waits.items; room = 0 }))))
    → Enters c new next h (gain_of the_machine (terms_of c) h (page, mode) b) b
gain_enters c new r next b h page count seq bytes mode waits backing directory st a inside there less bytes_are fits counts numbers moves crew waits_are is
    leads =
    let e = Gain count page seq mode (record { items = waits.items; room = 0 }) in
    let number : seq ≡ slice_index b.at.cursor.numbers page = numbers ∙ ap (λ xs. slice_index xs page) st.numbers in
    let due : waits.items ≡ waits_due (log_of the_machine (terms_of c) b) page h (slice_index b.at.cursor.numbers page) =
    waits_are ∙ sym (st.waits page h (omega (arith, there, st.yields_size))) ∙ sym (waits_ended (terms_of c) b page h (slice_index b.at.cursor.numbers page)) in
    let same : gain_of the_machine (terms_of c) h (page, mode) b ≡ e =
    ap₂ (λ n m. Gain n page m mode (record { items = waits_due (log_of the_machine (terms_of c) b) page h (slice_index b.at.cursor.numbers page); room = 0 }))
    (count_is r h b a ∙ sym counts) (sym number)
    ∙ ap (λ ws. Gain count page seq mode (record { items = ws; room = 0 })) (sym due) in
    let page_there : page < length b.at.holders = omega (arith, there, st.table) in
    let seat_there : h < length (row b.at.holders page) = (let w = slice_get_within b.at.flat.harts h r.hart a.hart in let z = a.rows page page_there in omega
    (arith, w, z)) in
    let crewed : IsCrew (with_held b.at.holders page h (Some mode)) = subst (λ hs. IsCrew (with_held hs page h (Some mode))) st.holders
    (subst IsCrew (ap (λ (d : directories.Directory). d.holders) moves) crew) in
    let led = leads (unwritten b.at.holders page h mode page_there crewed (held_here b.at.holders page h (Some mode) page_there seat_there)
    (subst (λ hs. strength (held hs page h) < strength (Some mode)) st.holders less)) in
    let at_is : led.at ≡ with_page_held h page (Some mode) b.at = sym (same_Some _ _ led.made) in
    subst (λ z. Enters c new next h z b) (sym same)
    (record {
      to = further b h e led.at;
      made = entered_is c b h e led.at led.made;
      supply = refl;
      stands = subst (λ z. Stands z (further b h e led.at)) (sym (is ∙ ap (λ n. record c
          { backing = backing; directory = directory; seats = entered_at h e c.seats; size = c.size + n }) bytes_are))
          (stands_page c b h page e led.at backing directory st inside there
          (record { number = ap (λ m. Some (page, m)) number; no_touch = refl; no_poll = refl; bytes = omega arith })
          (let z = fits in omega (arith, z, bytes_are)) led.made
          (subst (λ z. HeldOnly b.at z page h (Some mode)) (sym at_is) (plainly b.at page h (Some mode))) led.backs (led.unit_is ∙ st.unit_is)
          (record {
            holders = ap (λ (d : directories.Directory). d.holders) moves;
            numbers = ap (λ (d : directories.Directory). d.numbers) moves;
            yields = ap (λ (d : directories.Directory). d.yields) moves;
            wants = ap (λ (d : directories.Directory). d.wants) moves;
            crew = crew;
          }));
      agrees = past_agrees next h e led.at led.agrees;
    })

pub gain_size : (c : Crew) (b : Board FlatState) (h page bytes : ℕ) (mode : Mode) → Stands c b → page < c.pages → bytes
    ≡ 17 + 9 * length (by_others h (yields_of c.directory page)) → size_of (gain_of the_machine (terms_of c) h (page, mode) b) ≡ bytes
gain_size c b h page bytes mode st there is =
    ap (λ (ws : List WaitFor). 17 + 9 * length ws) (waits_ended (terms_of c) b page h (slice_index b.at.cursor.numbers page)
    ∙ st.waits page h (omega (arith, there, st.yields_size))) ∙ sym is
