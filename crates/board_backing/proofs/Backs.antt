-- A backing still backs the state once a page was gained or yielded.
use Rattle.std.proofs.Common.{◌≡◌, ◌≢◌, inl, inr, ℕ, ◌<◌, ◌≤◌, Bool, true, false, cond, List, [], length, Option, Some, None, slice_get, slice_set}
use Rattle.std.proofs.Common.{unwrap_or, refl, sym, ap, ap₂, ◌*◌, ◌/◌, zero, suc, ◌∙◌, subst, arith}
use Rattle.std.proofs.lemmas.Bool.{cases_eq}
use Rattle.std.proofs.Math.Nat.{mul-div_cancel_left}
use Rattle.std.proofs.lemmas.List.{length-set}
use Rattle.std.proofs.lemmas.Option.{same_Some, slice_get_within}
use Rattle.std.specs.Option.{option_map}
use Rattle.rv_words.specs.declared.shared.Mode.{Mode}
use Rattle.rv_words.specs.declared.shared.Mode.TheVariants.{Read, Write}
use Rattle.guest_pages.specs.Pages.{Pages, bytes_of, with_page}
use Rattle.flat_machine.specs.State.{FlatState}
use Rattle.flat_machine.specs.Acts.{lost}
use Rattle.flat_machine.specs.declared.act.Act.TheVariants.{Lose}
use Rattle.log_entry.specs.declared.log.Entry.TheVariants.{Yield}
use Rattle.replay_model.specs.Board.{board}
use Rattle.order_rules.specs.Holders.{Holders, held, row, with_held}
use Rattle.replay_model.specs.Items.{effect, ends_reservation, holds, acted}
use Rattle.replay_model.specs.State.{Replay}
use Rattle.replay_model.proofs.ActsOfOrders.{mapped}
use Rattle.order_rules.proofs.Follow.{held_here, held_elsewhere}
use Rattle.run_model.specs.Run.{Run, hold_of, store_taken, store_given}
use Rattle.run_model.specs.Agreement.{Agrees, StoreHas, Yields, with_page_held}
use Rattle.shared_types.proofs.Lists.{set_there}
use Rattle.board_backing.specs.declared.backing.Backing.{Backing}
use Rattle.rv_words.specs.Limits.{IsUnit}
use Rattle.board_backing.specs.Backing.{Backs, IsUnwritten, IsOthersUnwritten, IsStoreOf, Leads, GainLeads, YieldLeads, YieldEnds, backing_given}

-- the state once a hart holds this of a page, and nothing else of the memory, the devices or the holders is another
pub record HeldOnly (s t : Replay FlatState) (page h : ℕ) (hold : Option Mode) : Type 0 where
  pub memory : t.flat.memory ≡ s.flat.memory
  pub devices : t.flat.devices ≡ s.flat.devices
  pub holders : t.holders ≡ with_held s.holders page h hold
  pub cursor : t.cursor ≡ s.cursor
  pub counts : t.flat.counts ≡ s.flat.counts

pub plainly : (s : Replay FlatState) (page h : ℕ) (hold : Option Mode) → HeldOnly s (with_page_held h page hold s) page h hold
plainly s page h hold = record { memory = refl; devices = refl; holders = refl; cursor = refl; counts = refl }

-- the store with other bytes of one page
pub record OtherPage (old new : Pages) (page : ℕ) : Type 0 where
  pub unit_is : new.unit ≡ old.unit
  pub number : length new.pages ≡ length old.pages
  pub others : (q : ℕ) → q ≢ page → bytes_of new q ≡ bytes_of old q

pub same_page : (p : Pages) (page : ℕ) → OtherPage p p page
same_page p page = record { unit_is = refl; number = refl; others = λ q n. refl }

pub put_page : (p : Pages) (page : ℕ) (bytes : List ℕ) → OtherPage p (with_page page bytes p) page
put_page p page bytes = record {
  unit_is = refl;
  number = length-set p.pages page bytes;
  others = λ q n. ap (λ o. unwrap_or o []) (set_there p.pages page q bytes n);
}

pub backs_held : (b : Backing) (pages : Pages) (s t : Replay FlatState) (page h : ℕ) (hold : Option Mode) → Backs b s → HeldOnly s t page h hold
    → OtherPage b.pages pages page → (IsUnwritten t.holders page → StoreHas b.pages.unit pages page s) → Backs (record b { pages = pages }) t
backs_held b pages s t page h hold backs only other here =
    let wide : length t.holders ≡ length s.holders =
    ap (λ (xs : Holders). length xs) only.holders ∙ length-set s.holders page (slice_set (row s.holders page) h hold) in
    record {
      unit_is = subst IsUnit (sym other.unit_is) backs.unit_is;
      number = other.number ∙ backs.number ∙ sym wide;
      memory = ap length only.memory ∙ backs.memory ∙ ap₂ (λ n u. n * u) (sym other.number) (sym other.unit_is);
      devices_are = backs.devices_are ∙ sym only.devices;
      bytes = λ q l free. subst (λ u. StoreHas u pages q t) (sym other.unit_is)
          (subst (λ memory. StoreHas b.pages.unit pages q (record t { flat = record t.flat { memory = memory } })) (sym only.memory) (elim (cases_eq q page) [
            | inl e ↦ subst (λ z. StoreHas b.pages.unit pages z s) (sym e) (here (subst (IsUnwritten t.holders) e free))
            | inr n ↦
                other.others q n
                ∙ backs.bytes q (omega (arith, l, wide)) (λ g w. free g (ap (λ hs. held hs q g) only.holders ∙ held_elsewhere s.holders page q h g hold n ∙ w))
          ]));
    }

-- the hart's seat in the table
pub seat : (r : Run) (h page : ℕ) (s : Replay FlatState) → Agrees r h s → page < length r.frames.pages
    → (page < length s.holders) × (h < length (row s.holders page))
seat r h page s a l =
    let inside : page < length s.holders = omega (arith, l, a.table) in
    (inside, let w = slice_get_within s.flat.harts h r.hart a.hart in omega (arith, w, a.rows page inside))

pub gain_backs : (b : Backing) (r : Run) (h page : ℕ) (mode : Mode) (s : Replay FlatState) → page < length r.frames.pages → Backs b s → Agrees r h s
    → IsUnwritten s.holders page → Backs (record b { pages = store_taken r page mode b.pages }) (with_page_held h page (Some mode) s)
gain_backs b r h page mode s l backs a free = let place = seat r h page s a l in by mode place.0 place.1 where
  by : (m : Mode) → page < length s.holders → h < length (row s.holders page)
      → Backs (record b { pages = store_taken r page m b.pages }) (with_page_held h page (Some m) s)
  by Read i j =
      backs_held b b.pages s (with_page_held h page (Some Read) s) page h (Some Read) backs (plainly s page h (Some Read)) (same_page b.pages page)
      (λ _. backs.bytes page i free)
  by Write i j =
      backs_held b (store_taken r page Write b.pages) s (with_page_held h page (Some Write) s) page h (Some Write) backs (plainly s page h (Some Write))
      (put_page b.pages page (bytes_of r.frames page)) (λ none. absurd (none h (held_here s.holders page h (Some Write) i j)))

-- what a Yield did
pub yield_did : (unit : ℕ) (s t : Replay FlatState) (h page count seq : ℕ) (left : Option Mode) → effect (board unit) s h (Yield count page seq left) ≡ Some t
    → HeldOnly s t page h left
yield_did unit s t h page count seq left is = by (ends_reservation (board unit) s h page) is where
  by : (b : Bool) → option_map (holds (board unit) page h left) (cond b (acted (board unit) s (Lose h)) (Some s)) ≡ Some t → HeldOnly s t page h left
  by false e =
      let same = same_Some _ _ e in
      record {
        memory = ap (λ (z : Replay FlatState). z.flat.memory) (sym same);
        devices = ap (λ (z : Replay FlatState). z.flat.devices) (sym same);
        holders = ap (λ (z : Replay FlatState). z.holders) (sym same);
        cursor = ap (λ (z : Replay FlatState). z.cursor) (sym same);
        counts = ap (λ (z : Replay FlatState). z.flat.counts) (sym same);
      }
  by true e =
      let a = mapped (holds (board unit) page h left) (acted (board unit) s (Lose h)) t e in
      let f = mapped (λ (f : FlatState). record s { flat = f }) ((board unit).next s.flat (Lose h)) a.0 a.1 in
      let x = mapped (lost s.flat h) (slice_get s.flat.harts h) f.0 f.1 in
      let same : holds (board unit) page h left (record s { flat = lost s.flat h x.0 }) ≡ t =
      ap (λ z. holds (board unit) page h left (record s { flat = z })) x.2 ∙ ap (holds (board unit) page h left) f.2 ∙ a.2 in
      record {
        memory = ap (λ (z : Replay FlatState). z.flat.memory) (sym same);
        devices = ap (λ (z : Replay FlatState). z.flat.devices) (sym same);
        holders = ap (λ (z : Replay FlatState). z.holders) (sym same);
        cursor = ap (λ (z : Replay FlatState). z.cursor) (sym same);
        counts = ap (λ (z : Replay FlatState). z.flat.counts) (sym same);
      }

pub yield_leads : (b : Backing) (r new : Run) (h page count seq : ℕ) (left : Option Mode) (ended : Bool) (s : Replay FlatState) → page < length r.frames.pages
    → Backs b s → Agrees r h s → IsOthersUnwritten s.holders page h
    → Yields b.pages.unit new (store_given r page (hold_of r page) b.pages) h page left ended s
    → Leads b (backing_given b r page) new h (effect (board b.pages.unit) s h (Yield count page seq left))
yield_leads b r new h page count seq left ended s l backs a alone yields =
    let place = seat r h page s a l in
    record {
      at = yields.at;
      made = yields.made count seq;
      backs = backs_held b (store_given r page (hold_of r page) b.pages) s yields.at page h left backs
          (yield_did b.pages.unit s yields.at h page count seq left (yields.made count seq)) (other (hold_of r page))
          (λ none. here (hold_of r page) refl place.0);
      unit_is = (other (hold_of r page)).unit_is;
      agrees = yields.agrees;
    }
  where
    other : (was : Option Mode) → OtherPage b.pages (store_given r page was b.pages) page
    other None = same_page b.pages page
    other (Some Read) = same_page b.pages page
    other (Some Write) = put_page b.pages page (bytes_of r.frames page)

    -- a page that the hart didn't hold in Write is the store's already
    still : (m : Option Mode) → m ≢ Some Write → hold_of r page ≡ m → page < length s.holders → StoreHas b.pages.unit b.pages page s
    still m n is i = backs.bytes page i (λ g w. elim (cases_eq g h) [
      | inl e ↦ n (sym is ∙ sym (a.modes page) ∙ ap (held s.holders page) (sym e) ∙ w)
      | inr other ↦ alone g other w
    ])

    here : (was : Option Mode) → hold_of r page ≡ was → page < length s.holders → StoreHas b.pages.unit (store_given r page (hold_of r page) b.pages) page s
    here None is i = subst (λ m. StoreHas b.pages.unit (store_given r page m b.pages) page s) (sym is) (still None (λ e. absurd (let bad : ⊥ = cc in bad)) is i)
    here (Some Read) is i =
        subst (λ m. StoreHas b.pages.unit (store_given r page m b.pages) page s) (sym is)
        (still (Some Read) (λ e. absurd (let bad : ⊥ = cc in bad)) is i)
    here (Some Write) is i = yields.bytes (a.modes page ∙ is)

-- of what the calls left
pub gained_leads : (b next : Backing) (r new : Run) (page : ℕ) (mode : Mode) → next ≡ record b { pages = store_taken r page mode b.pages } → IsStoreOf b r
    → page < length r.frames.pages
    → ((h : ℕ) (s : Replay FlatState) → Agrees r h s → StoreHas r.frames.unit b.pages page s → Agrees new h (with_page_held h page (Some mode) s))
    → GainLeads b next r new page mode
gained_leads b next r new page mode next_is store l after h count seq waits s backs a free =
    let place = seat r h page s a l in
    record {
      at = with_page_held h page (Some mode) s;
      made = refl;
      backs = subst (λ z. Backs z (with_page_held h page (Some mode) s)) (sym next_is) (gain_backs b r h page mode s l backs a free);
      unit_is = ap (λ (z : Backing). z.pages.unit) next_is ∙ taken_unit mode;
      agrees = after h s a (subst (λ u. StoreHas u b.pages page s) store.0 (backs.bytes page place.0 free));
    }
  where
    taken_unit : (m : Mode) → (store_taken r page m b.pages).unit ≡ b.pages.unit
    taken_unit Read = refl
    taken_unit Write = refl

pub yielded_leads : (b next : Backing) (r new : Run) (page : ℕ) (left : Option Mode) (ended : Bool) → next ≡ backing_given b r page → IsStoreOf b r
    → page < length r.frames.pages
    → ((h : ℕ) (s : Replay FlatState) → Agrees r h s → Yields r.frames.unit new next.pages h page left ended s)
    → YieldLeads b next r new page left
yielded_leads b next r new page left ended next_is store l yields h count seq s backs a alone =
    subst (λ z. Leads b z new h (effect (board b.pages.unit) s h (Yield count page seq left))) (sym next_is)
    (yield_leads b r new h page count seq left ended s l backs a alone
    (subst (λ u. Yields u new (store_given r page (hold_of r page) b.pages) h page left ended s) (sym store.0)
    (subst (λ (z : Backing). Yields r.frames.unit new z.pages h page left ended s) next_is (yields h s a))))

pub yield_answers : (b : Backing) (r new : Run) (store : Pages) (page : ℕ) (left : Option Mode) (ended : Bool) → IsStoreOf b r
    → ((h : ℕ) (s : Replay FlatState) → Agrees r h s → Yields r.frames.unit new store h page left ended s) → YieldEnds b r page ended
yield_answers b r new store page left ended is yields h s a =
    subst (λ u. ended ≡ ends_reservation (board u) s h page) (sym is.0) (yields h s a).answer

-- the unit of a memory of so many pages
pub one_unit : (n u v : ℕ) → suc n * u ≡ suc n * v → u ≡ v
one_unit n u v e =
    let some : zero < suc n = omega arith in
    sym (mul-div_cancel_left u some) ∙ ap (λ k. k / suc n) e ∙ mul-div_cancel_left v some

-- the store of a backing is that of a run which agrees with the same state, where there is a page
pub is_store : (b : Backing) (r : Run) (h : ℕ) (s : Replay FlatState) → Backs b s → Agrees r h s → 1 ≤ length s.holders → IsStoreOf b r
is_store b r h s backs a some =
    let pages : length b.pages.pages ≡ length r.frames.pages = backs.number ∙ a.table in
    (by (length r.frames.pages) refl, pages)
  where
    by : (n : ℕ) → length r.frames.pages ≡ n → b.pages.unit ≡ r.frames.unit
    by zero is = absurd (omega (arith, some, a.table, is))
    by (suc n) is = one_unit n b.pages.unit r.frames.unit
        (ap (λ k. k * b.pages.unit) (sym is ∙ sym a.table ∙ sym backs.number) ∙ sym backs.memory ∙ a.memory ∙ ap (λ k. k * r.frames.unit) is)
