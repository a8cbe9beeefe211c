-- The memory of a state, gathered from runs and store.
use Rattle.std.proofs.Common.{◌≡◌, inl, inr, ℕ, ◌+◌, ◌*◌, ◌<◌, ◌≤◌, ◌++◌, List, [], take, drop, length, Option, Some, None, slice_get}
use Rattle.std.proofs.Common.{unwrap_or}
use Rattle.std.proofs.Common.{refl, sym, ap, ap₂, ◌∙◌, subst, arith}
use Rattle.std.proofs.lemmas.Bool.{cases_lt}
use Rattle.std.proofs.lemmas.Option.{none-some, slice_get_past}
use Rattle.std.proofs.lemmas.List.{length-append, length-take-le}
use Rattle.std.proofs.Math.Seq.{take_all, take-add, take-append_seam}
use Rattle.rv_words.specs.Limits.{IsUnit}
use Rattle.rv_words.specs.Memory.{put}
use Rattle.rv_words.proofs.Units.{at_units}
use Rattle.guest_pages.specs.Pages.{page_of}
use Rattle.guest_pages.proofs.Agree.{range_is}
use Rattle.guest_pages.proofs.Whole.{length-page_of}
use Rattle.flat_machine.specs.State.{FlatState}
use Rattle.order_rules.specs.Holders.{held, row}
use Rattle.replay_model.specs.State.{Replay}
use Rattle.run_model.specs.Run.{Run}
use Rattle.hart_run.specs.Calls.{FrameAgrees}
use Rattle.shared_types.proofs.Lists.{found_at}
use Rattle.board_backing.specs.declared.backing.Backing.{Backing}
use Rattle.board_backing.specs.Backing.{IsUnwritten}
use Rattle.board_backing.proofs.Backs.{is_store}
use Rattle.board_backing.specs.Ends.{Have, HaveSome, IsHeldSo, IsNowhere}
use Rattle.run_model.proofs.Addresses.{page_inside}

-- the page of a run that holds it
pub run_page : (runs : List Run) (b : Backing) (s : Replay FlatState) (h page : ℕ) (r : Run) (bytes : List ℕ) → Have runs b s → slice_get runs h ≡ Some r
    → 1 ≤ length s.holders → FrameAgrees r page (Some bytes) → bytes ≡ page_of b.pages.unit s.flat.memory page
run_page runs b s h page r bytes have at some frame =
    let a = have.agree h r at in
    (frame h s a).1 ∙ ap (λ u. page_of u s.flat.memory page) (sym (is_store b r h s have.backs a some).0)

no_place : (runs : List Run) (g : ℕ) → slice_get runs g ≡ None → length runs ≤ g
no_place runs g none = elim (cases_lt g (length runs)) [
  | inl l ↦ absurd (let f = found_at runs g l in none-some _ (sym none ∙ f.1))
  | inr m ↦ m
]

-- nobody holds a page that no run holds
pub nowhere_unwritten : (runs : List Run) (b : Backing) (s : Replay FlatState) (page : ℕ) → Have runs b s → IsNowhere runs page → page < length s.holders
    → IsUnwritten s.holders page
nowhere_unwritten runs b s page have none inside g write = by (slice_get runs g) refl where
  by : (o : Option Run) → slice_get runs g ≡ o → ⊥
  by (Some r) e = none-some _ (sym (none g r e) ∙ sym ((have.agree g r e).modes page) ∙ write)
  by None e =
      let past = no_place runs g e in
      let number = have.number in
      let long = have.rows page inside in
      let beyond : held s.holders page g ≡ None = ap (λ o. unwrap_or o None) (slice_get_past (row s.holders page) g (omega (arith, past, number, long))) in
      none-some _ (sym beyond ∙ write)

-- the first bytes of a memory once some are put at a place
pub take_put : (m bytes : List ℕ) (at : ℕ) → at + length bytes ≤ length m → take (at + length bytes) (put m at bytes) ≡ take at m ++ bytes
take_put m bytes at fits =
    let long : length (take at m) ≡ at = length-take-le at m (omega (arith, fits)) in
    let all : length (take at m ++ bytes) ≡ at + length bytes = length-append (take at m) bytes ∙ ap (λ n. n + length bytes) long in
    ap (λ n. take n (put m at bytes)) (sym all) ∙ take-append_seam (take at m ++ bytes) (drop (at + length bytes) m)

-- one page more is the state's
pub page_more : (m n memory : List ℕ) (unit page : ℕ) → page * unit + unit ≤ length m → length (page_of unit memory page) ≡ unit
    → n ≡ put m (page * unit) (page_of unit memory page) → take (page * unit) m ≡ take (page * unit) memory
    → take ((page + 1) * unit) n ≡ take ((page + 1) * unit) memory
page_more m n memory unit page fits long is before =
    let at = page * unit in
    let more : (page + 1) * unit ≡ page * unit + unit = omega arith in
    let whole : page * unit + length (page_of unit memory page) ≤ length m = omega (arith, fits, long) in
    let here : page_of unit memory page ≡ take unit (drop (page * unit) memory) = range_is memory (page * unit) unit in
    ap (λ k. take k n) (more ∙ ap (λ k. page * unit + k) (sym long))
    ∙ ap (take (page * unit + length (page_of unit memory page))) is
    ∙ take_put m (page_of unit memory page) (page * unit) whole
    ∙ ap₂ (λ (xs : List ℕ) (ys : List ℕ). xs ++ ys) before here
    ∙ sym (ap (λ k. take k memory) more ∙ take-add (page * unit) unit memory)

-- and after the last the whole memory is
pub all_pages : (m memory : List ℕ) (size : ℕ) → length m ≡ size → length memory ≡ size → take size m ≡ take size memory → m ≡ memory
all_pages m memory size long_m long same = sym (take_all size m (omega (arith, long_m))) ∙ same ∙ take_all size memory (omega (arith, long))

-- a page of a state that they have lies in it whole
pub page_fits : (runs : List Run) (b : Backing) (s : Replay FlatState) (page : ℕ) → Have runs b s → page < length b.pages.pages
    → page * b.pages.unit + b.pages.unit ≤ length s.flat.memory
page_fits runs b s page have inside =
    subst (λ n. page * b.pages.unit + b.pages.unit ≤ n) (sym have.backs.memory) (page_inside b.pages.unit (length b.pages.pages) page have.backs.unit_is inside)

pub page_long : (runs : List Run) (b : Backing) (s : Replay FlatState) (page : ℕ) → Have runs b s → page < length b.pages.pages
    → length (page_of b.pages.unit s.flat.memory page) ≡ b.pages.unit
page_long runs b s page have inside = length-page_of s.flat.memory b.pages.unit page (page_fits runs b s page have inside)

-- its bytes are those of a run that holds it, and else the store's
pub held_page : (runs : List Run) (b : Backing) (s : Replay FlatState) (page : ℕ) (bytes : List ℕ) → Have runs b s → page < length b.pages.pages
    → IsHeldSo runs page bytes → bytes ≡ page_of b.pages.unit s.flat.memory page
held_page runs b s page bytes have inside held =
    run_page runs b s held.0 page held.1.0 bytes have held.1.1.0 (let number = have.backs.number in omega (arith, number, inside)) held.1.1.1

pub store_page : (runs : List Run) (b : Backing) (s : Replay FlatState) (page : ℕ) (bytes : List ℕ) → Have runs b s → page < length b.pages.pages
    → IsNowhere runs page → slice_get b.pages.pages page ≡ Some bytes → bytes ≡ page_of b.pages.unit s.flat.memory page
store_page runs b s page bytes have inside none at =
    let there : page < length s.holders = (let number = have.backs.number in omega (arith, number, inside)) in
    ap (λ (o : Option (List ℕ)). unwrap_or o []) (sym at) ∙ have.backs.bytes page there (nowhere_unwritten runs b s page have none there)

-- so it can be put at its place
pub put_fits : (runs : List Run) (b : Backing) (page size : ℕ) (bytes : List ℕ) → HaveSome runs b → page < length b.pages.pages
    → size ≡ length b.pages.pages * b.pages.unit → ((s : Replay FlatState) → Have runs b s → bytes ≡ page_of b.pages.unit s.flat.memory page)
    → page * b.pages.unit + length bytes ≤ size
put_fits runs b page size bytes x inside sized is =
    let fits = page_fits runs b x.0 page x.1 inside in
    let long : length bytes ≡ b.pages.unit = ap length (is x.0 x.1) ∙ page_long runs b x.0 page x.1 inside in
    let memory = x.1.backs.memory in
    subst (λ n. page * b.pages.unit + n ≤ size) (sym long) (subst (λ n. page * b.pages.unit + b.pages.unit ≤ n) (memory ∙ sym sized) fits)
