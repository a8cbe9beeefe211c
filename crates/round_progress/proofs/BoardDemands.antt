-- The board is what a round's progress asks of a machine.
use Rattle.std.proofs.Common.{◌≡◌, ℕ, ◌+◌, ◌%◌, ◌<◌, ◌==◌, ◌&&◌, ◌||◌, Bool, true, false, not, List, [], ◌∷◌, map, Option, Some, None}
use Rattle.std.proofs.Common.{slice_get, slice_set, nat_lt, is_some, refl, sym, ap, ◌∙◌, subst, inl, inr, arith, if◌then◌else◌, true≢false}
use Rattle.std.specs.Option.{option_map, option_and_then, option_map_or}
use Rattle.std.specs.List.{range_with_len}
use Rattle.std.proofs.lemmas.Option.{none-some, same_Some, slice_get_within}
use Rattle.std.proofs.lemmas.Bool.Decides.{eqb_tells}
use Rattle.std.proofs.lemmas.Bool.{and_parts}
use Rattle.rv_words.specs.declared.shared.Access.{Access}
use Rattle.rv_words.specs.declared.shared.Mode.{Mode}
use Rattle.rv_words.specs.declared.shared.Mode.TheVariants.{Read}
use Rattle.rv_words.specs.declared.shared.DeviceWord.{DeviceWord}
use Rattle.rv_words.specs.Addresses.{device_word, in_memory}
use Rattle.rv_csr.specs.Registers.{csr_read, is_read_only}
use Rattle.rv_csr.specs.Traps.{pending}
use Rattle.rv_decode.specs.declared.Instr.{Instr}
use Rattle.rv_decode.specs.declared.Instr.TheVariants as instr
use Rattle.rv_decode.specs.declared.LoadOp.{LoadOp}
use Rattle.rv_decode.specs.declared.StoreOp.{StoreOp}
use Rattle.rv_decode.specs.declared.UpperOp.{UpperOp}
use Rattle.rv_decode.specs.declared.UpperOp.TheVariants.{Lui, Auipc}
use Rattle.rv_decode.specs.declared.CsrOp.{CsrOp}
use Rattle.rv_decode.specs.Table.{meaning}
use Rattle.rv_hart.specs.State.{Hart}
use Rattle.rv_hart.specs.Values.{load_size, store_size, branch_taken, does_write}
use Rattle.rv_hart.specs.Effects.{reg, is_device, is_reserved, load_effect, store_effect, atomic_effect, conditional_effect, jump, upper_effect, csr_effect}
use Rattle.rv_hart.specs.Effects.{instr_effect, decoded_effect, entry_by, address, word_plus, without_bit_0}
use Rattle.rv_hart.specs.Moves.{hart_at_start, need_of, with_reserved}
use Rattle.rv_hart.specs.Needs.{page_at, data_pages, pages_needed}
use Rattle.rv_hart.specs.declared.effect.Effect.{Effect}
use Rattle.rv_hart.specs.declared.effect.Effect.TheVariants.{Sets, Jumps, Loads, Stores, Reserves, Commits, Fails, Updates, DeviceLoads, DeviceStores, Traps}
use Rattle.rv_hart.specs.declared.effect.Wrote.{Wrote}
use Rattle.rv_hart.specs.declared.effect.Wrote.TheVariants as wrote
use Rattle.device_board.specs.Accesses.{touched, MadeAgain}
use Rattle.elf_image.specs.Image.{Image}
use Rattle.flat_machine.specs.State.{FlatState, flat_at_start}
use Rattle.flat_machine.specs.Moves.{fetched, next_move, move_of, access_of, loaded_for, lost_by, writes_in}
use Rattle.flat_machine.specs.Acts.{next, ran, moved_by, accessed, touch_made, poll_made, lost}
use Rattle.flat_machine.specs.declared.act.Act.{Act}
use Rattle.flat_machine.specs.declared.act.Act.TheVariants.{Run, Touch, Poll, Lose}
use Rattle.flat_machine.proofs.DeviceHarts.{touch_keeps_harts}
use Rattle.run_model.proofs.Laws.{stays_on_board}
use Rattle.replay_model.specs.Board.{board, next_access, hart_access}
use Rattle.shared_types.proofs.Lists.{mapped, set_here, set_there, bound_to, chosen, unless, found_at, get_map, map_at}
use Rattle.turn_model.specs.Recordable.{board_machine}
use Rattle.turn_model.specs.Laws.{IsPagedBoard}
use Rattle.turn_model.specs.Faithful.{IsFaithful}
use Rattle.turn_model.proofs.BoardFacts.{board_faithful}
use Rattle.turn_model.proofs.BoardNeeds.{Divides}
use Rattle.rv_words.specs.Limits.{IsUnit}
use Rattle.turn_laws.proofs.TurnSizes.{board_short}
use Rattle.round_progress.proofs.Demands.{IsAnswering, IsPlain, IsFitting, IsThere}
use Rattle.round_progress.proofs.BoardAnswers.{board_answers}

-- harts that know so many harts
abbrev Each : ℕ → List Hart → Type 0
Each n harts = (h : ℕ) (x : Hart) → slice_get harts h ≡ Some x → x.harts ≡ n

set_each : (n : ℕ) (harts : List Hart) (h : ℕ) (x y : Hart) → slice_get harts h ≡ Some x → Each n harts → y.harts ≡ x.harts → Each n (slice_set harts h y)
set_each n harts h x y at all same g z is = elim (eqb_tells g h) [
  | inl (t, e) ↦
      let now : Some y ≡ Some z = sym (set_here harts h y (slice_get_within harts h x at)) ∙ subst (λ k. slice_get (slice_set harts h y) k ≡ Some z) e is in
      ap (λ (w : Hart). w.harts) (sym (same_Some _ _ now)) ∙ same ∙ all h x at
  | inr (f, other) ↦ all g z (sym (set_there harts h g y other) ∙ is)
]

lost_harts : (w : Wrote) (x : Hart) → (lost_by w x).harts ≡ x.harts
lost_harts wrote.Nothing x = refl
lost_harts (wrote.Bytes at size value) x = by (writes_in at x.reserved) where
  by : (b : Bool) → (if b then record x { reserved = None } else x).harts ≡ x.harts
  by true = refl
  by false = refl

lost_each : (n : ℕ) (w : Wrote) (harts : List Hart) → Each n harts → Each n (map (lost_by w) harts)
lost_each n w harts all h y is =
    let x = map_at (lost_by w) harts h y is in
    ap (λ (z : Hart). z.harts) (sym x.2) ∙ lost_harts w x.0 ∙ all h x.0 x.1

abbrev HartsAre : FlatState → Type 0
HartsAre s = Each s.devices.harts s.harts

harts_kept : (s t : FlatState) (act : Act) → HartsAre s → next act s ≡ Some t → HartsAre t
harts_kept s t (Run h) all is =
    let x = bound_to (λ x. ran s h x (next_move x s.memory)) (slice_get s.harts h) t is in
    let c = (chosen (is_some (access_of (need_of (next_move x.0 s.memory)))) _ t x.2).1 in
    subst HartsAre c
    (set_each s.devices.harts (map (lost_by _) s.harts) h (lost_by _ x.0) _ (get_map (lost_by _) s.harts h x.0 x.1) (lost_each s.devices.harts _ s.harts all)
    ((stays_on_board x.0 (next_move x.0 s.memory) _).0 ∙ sym (lost_harts _ x.0)))
harts_kept s t (Touch h input) all is =
    let x = bound_to (λ x. touch_made s h input x (next_move x s.memory)) (slice_get s.harts h) t is in
    let d =
    mapped (accessed s h x.0 (next_move x.0 s.memory))
    (option_and_then (λ access. touched s.devices access input) (access_of (need_of (next_move x.0 s.memory)))) t
    (unless (is_some s.devices.stop) _ t x.2) in
    let a = bound_to (λ access. touched s.devices access input) (access_of (need_of (next_move x.0 s.memory))) d.0 d.1 in
    let again : MadeAgain (touched s.devices a.0 input) s.devices d.0.0 (Some d.0.1) =
    subst (λ o. MadeAgain o s.devices d.0.0 (Some d.0.1)) (sym a.2) (refl, refl) in
    let same : d.0.0.harts ≡ s.devices.harts = touch_keeps_harts s.devices d.0.0 a.0 input (Some d.0.1) again in
    subst HartsAre d.2 (subst (λ n. Each n (accessed s h x.0 (next_move x.0 s.memory) d.0).harts) (sym same)
    (set_each s.devices.harts s.harts h x.0 _ x.1 all (stays_on_board x.0 (next_move x.0 s.memory) d.0.1).0))
harts_kept s t (Poll h time) all is =
    let x = bound_to (poll_made s h time) (slice_get s.harts h) t is in
    subst HartsAre (chosen (is_some s.devices.stop || nat_lt time s.devices.mtime) _ t x.2).1 (set_each s.devices.harts s.harts h x.0 _ x.1 all refl)
harts_kept s t (Lose h) all is =
    let x = mapped (lost s h) (slice_get s.harts h) t is in
    subst HartsAre x.2 (set_each s.devices.harts s.harts h x.0 _ x.1 all refl)

pub fitting_faithful : (unit harts pages units : ℕ) → IsUnit unit → Divides unit pages units → IsFaithful (board unit) harts units (IsFitting harts pages)
fitting_faithful unit harts pages units is_unit divides =
    let f = board_faithful unit harts pages units is_unit divides in
    record {
      steady = record {
        lasts = λ s t act on is. record { board = f.steady.lasts s t act on.board is; harts_are = harts_kept s t act on.harts_are is };
        rises = λ s t act h on is. f.steady.rises s t act h on.board is;
        moves = λ s t h on is. f.steady.moves s t h on.board is;
        no_more = λ s h on l. f.steady.no_more s h on.board l;
      };
      timed = record {
        touch_moves = λ s t h input on is. f.timed.touch_moves s t h input on.board is;
        poll_stays = λ s t h time on is. f.timed.poll_stays s t h time on.board is;
        lose_stays = λ s t h on is. f.timed.lose_stays s t h on.board is;
        others = λ s t act g on is n. f.timed.others s t act g on.board is n;
        later = λ s t act on is. f.timed.later s t act on.board is;
        touch_time = λ s t h time on is. f.timed.touch_time s t h time on.board is;
        poll_time = λ s t h time on is. f.timed.poll_time s t h time on.board is;
      };
      inside = λ s h on. f.inside s h on.board;
      touches = f.touches;
      stops = f.stops;
      sends = f.sends;
      times = f.times;
      polls = f.polls;
    }

pub fitting_answers : (unit harts pages : ℕ) → IsAnswering (board_machine unit) harts (IsFitting harts pages)
fitting_answers unit harts pages =
    let a = board_answers unit harts pages in
    record {
      polls = λ s h time on inside running l. a.polls s h time on.board inside running l;
      loses = λ s h on inside. a.loses s h on.board inside;
      touches = λ s h word store now answer on inside running access. a.touches s h word store now answer on.board inside running access;
    }

-- a device access is of a device word
abbrev Reaches : Hart → Effect → Type 0
Reaches x e = (a : Access) → access_of (need_of e) ≡ Some a → is_some (device_word x.harts a.at) ≡ true

reaches_either : (x : Hart) (b : Bool) (e f : Effect) → (b ≡ true → Reaches x e) → Reaches x f → Reaches x (if b then e else f)
reaches_either x true e f p q = p refl
reaches_either x false e f p q = q

no_access : (x : Hart) (e : Effect) → access_of (need_of e) ≡ None → Reaches x e
no_access x e none a is = absurd (none-some a (sym none ∙ is))

load_reaches : (x : Hart) (op : LoadOp) (rd at : ℕ) → Reaches x (load_effect x op rd at)
load_reaches x op rd at =
    reaches_either x (not (at % load_size op == 0)) _ _ (λ _. no_access x (Traps 4 at) refl)
    (reaches_either x (in_memory x.pages at) (Loads op rd at) _ (λ _. no_access x (Loads op rd at) refl)
    (reaches_either x (load_size op == 4 && is_device x at) (DeviceLoads rd at) (Traps 5 at)
    (λ e a is. ap (λ (z : Access). is_some (device_word x.harts z.at)) (sym (same_Some _ _ is)) ∙ (and_parts (load_size op == 4) (is_device x at) e).1)
    (no_access x (Traps 5 at) refl)))

store_reaches : (x : Hart) (op : StoreOp) (at value : ℕ) → Reaches x (store_effect x op at value)
store_reaches x op at value =
    reaches_either x (not (at % store_size op == 0)) _ _ (λ _. no_access x (Traps 6 at) refl)
    (reaches_either x (in_memory x.pages at) (Stores at (store_size op) value) _ (λ _. no_access x (Stores at (store_size op) value) refl)
    (reaches_either x (store_size op == 4 && is_device x at) (DeviceStores at value) (Traps 7 at)
    (λ e a is. ap (λ (z : Access). is_some (device_word x.harts z.at)) (sym (same_Some _ _ is)) ∙ (and_parts (store_size op == 4) (is_device x at) e).1)
    (no_access x (Traps 7 at) refl)))

atomic_reaches : (x : Hart) (misaligned at : ℕ) (effect : Effect) → Reaches x effect → Reaches x (atomic_effect x misaligned at effect)
atomic_reaches x misaligned at effect p =
    reaches_either x (not (at % 4 == 0)) (Traps misaligned at) _ (λ _. no_access x (Traps misaligned at) refl)
    (reaches_either x (in_memory x.pages at) effect (Traps (misaligned + 1) at) (λ _. p) (no_access x (Traps (misaligned + 1) at) refl))

jump_reaches : (x : Hart) (rd target : ℕ) → Reaches x (jump rd target)
jump_reaches x rd target =
    reaches_either x (target % 4 == 0) (Jumps rd target) (Traps 0 target) (λ _. no_access x (Jumps rd target) refl) (no_access x (Traps 0 target) refl)

csr_reaches : (x : Hart) (op : CsrOp) (rd rs1 number word : ℕ) (o : Option ℕ) → Reaches x (csr_effect x op rd rs1 number word o)
csr_reaches x op rd rs1 number word None = no_access x (Traps 2 word) refl
csr_reaches x op rd rs1 number word (Some old) =
    reaches_either x (not (does_write op rs1)) (Sets rd old) _ (λ _. no_access x (Sets rd old) refl)
    (reaches_either x (is_read_only number) (Traps 2 word) _ (λ _. no_access x (Traps 2 word) refl) (λ a is. absurd (none-some a is)))

upper_reaches : (x : Hart) (op : UpperOp) (rd imm : ℕ) → Reaches x (upper_effect x op rd imm)
upper_reaches x Lui rd imm = λ a is. absurd (none-some a is)
upper_reaches x Auipc rd imm = λ a is. absurd (none-some a is)

instr_reaches : (x : Hart) (i : Instr) (word : ℕ) → Reaches x (instr_effect x i word)
unfolding instr_effect
instr_reaches x (instr.Upper op rd imm) word = upper_reaches x op rd imm
instr_reaches x (instr.Jal rd offset) word = jump_reaches x rd (word_plus x.pc offset)
instr_reaches x (instr.Jalr rd rs1 offset) word = jump_reaches x rd (without_bit_0 (address x rs1 offset))
instr_reaches x (instr.Branch op rs1 rs2 offset) word =
    reaches_either x (branch_taken op (reg x rs1) (reg x rs2)) (jump 0 (word_plus x.pc offset)) (Sets 0 0) (λ _. jump_reaches x 0 (word_plus x.pc offset))
    (no_access x (Sets 0 0) refl)
instr_reaches x (instr.Load op rd rs1 offset) word = load_reaches x op rd (address x rs1 offset)
instr_reaches x (instr.Store op rs1 rs2 offset) word = store_reaches x op (address x rs1 offset) (reg x rs2)
instr_reaches x (instr.Imm op rd rs1 imm) word = λ a is. absurd (none-some a is)
instr_reaches x (instr.Shift op rd rs1 amount) word = λ a is. absurd (none-some a is)
instr_reaches x (instr.Reg op rd rs1 rs2) word = λ a is. absurd (none-some a is)
instr_reaches x (instr.Fence w) word = λ a is. absurd (none-some a is)
instr_reaches x (instr.FenceI w) word = λ a is. absurd (none-some a is)
instr_reaches x instr.Ecall word = λ a is. absurd (none-some a is)
instr_reaches x instr.Ebreak word = λ a is. absurd (none-some a is)
instr_reaches x instr.Mret word = λ a is. absurd (none-some a is)
instr_reaches x instr.Wfi word = λ a is. absurd (none-some a is)
instr_reaches x (instr.Csr op rd rs1 number) word = csr_reaches x op rd rs1 number word (csr_read number x.csrs)
instr_reaches x (instr.LoadReserved rd rs1 order) word = atomic_reaches x 4 (reg x rs1) (Reserves rd (reg x rs1)) (λ a is. absurd (none-some a is))
instr_reaches x (instr.StoreConditional rd rs1 rs2 order) word =
    atomic_reaches x 6 (reg x rs1) (conditional_effect x rd (reg x rs1) (reg x rs2))
    (reaches_either x (is_reserved x (reg x rs1)) (Commits rd (reg x rs1) (reg x rs2)) (Fails rd (reg x rs1)) (λ _ a is. absurd (none-some a is))
    (λ a is. absurd (none-some a is)))
instr_reaches x (instr.Amo op rd rs1 rs2 order) word = atomic_reaches x 6 (reg x rs1) (Updates op rd (reg x rs1) (reg x rs2)) (λ a is. absurd (none-some a is))

move_reaches : (x : Hart) (o : Option ℕ) → Reaches x (move_of x o)
move_reaches x None = by (pending x.csrs) where
  by : (c : Option ℕ) → Reaches x (entry_by x c)
  by None = λ a is. absurd (none-some a is)
  by (Some cause) = λ a is. absurd (none-some a is)
move_reaches x (Some word) = by (meaning word) where
  by : (o : Option Instr) → Reaches x (decoded_effect x o word)
  by None = no_access x (Traps 2 word) refl
  by (Some i) = instr_reaches x i word

-- a hart that loses its reservation needs what it needed
conditional_needs : (unit : ℕ) (a b c : Bool) (t u : Effect) (rd at value : ℕ)
    → data_pages unit (need_of (if a then t else if b then Fails rd at else u)) ≡ data_pages unit
    (need_of (if a then t else if b then (if c then Commits rd at value else Fails rd at) else u))
conditional_needs unit true b c t u rd at value = refl
conditional_needs unit false true true t u rd at value = refl
conditional_needs unit false true false t u rd at value = refl
conditional_needs unit false false c t u rd at value = refl

instr_needs : (unit : ℕ) (x : Hart) (i : Instr) (word : ℕ)
    → data_pages unit (need_of (instr_effect (with_reserved None x) i word)) ≡ data_pages unit (need_of (instr_effect x i word))
unfolding instr_effect
instr_needs unit x (instr.Upper Lui rd imm) word = refl
instr_needs unit x (instr.Upper Auipc rd imm) word = refl
instr_needs unit x (instr.Jal rd offset) word = refl
instr_needs unit x (instr.Jalr rd rs1 offset) word = refl
instr_needs unit x (instr.Branch op rs1 rs2 offset) word = refl
instr_needs unit x (instr.Load op rd rs1 offset) word = refl
instr_needs unit x (instr.Store op rs1 rs2 offset) word = refl
instr_needs unit x (instr.Imm op rd rs1 imm) word = refl
instr_needs unit x (instr.Shift op rd rs1 amount) word = refl
instr_needs unit x (instr.Reg op rd rs1 rs2) word = refl
instr_needs unit x (instr.Fence w) word = refl
instr_needs unit x (instr.FenceI w) word = refl
instr_needs unit x instr.Ecall word = refl
instr_needs unit x instr.Ebreak word = refl
instr_needs unit x instr.Mret word = refl
instr_needs unit x instr.Wfi word = refl
instr_needs unit x (instr.Csr op rd rs1 number) word = by (csr_read number x.csrs) where
  by : (o : Option ℕ) → data_pages unit (need_of (csr_effect (with_reserved None x) op rd rs1 number word o)) ≡ data_pages unit
      (need_of (csr_effect x op rd rs1 number word o))
  by None = refl
  by (Some old) = refl
instr_needs unit x (instr.LoadReserved rd rs1 order) word = refl
instr_needs unit x (instr.StoreConditional rd rs1 rs2 order) word =
    conditional_needs unit (not (reg x rs1 % 4 == 0)) (in_memory x.pages (reg x rs1)) (is_reserved x (reg x rs1)) (Traps 6 (reg x rs1))
    (Traps 7 (reg x rs1)) rd (reg x rs1) (reg x rs2)
instr_needs unit x (instr.Amo op rd rs1 rs2 order) word = refl

pages_same : (unit : ℕ) (x : Hart) (o : Option ℕ) → pages_needed unit (with_reserved None x) o ≡ pages_needed unit x o
pages_same unit x None = refl
pages_same unit x (Some word) = by (meaning word) where
  by : (o : Option Instr) → ◌≡◌ {A = List (ℕ × Mode)} ((page_at unit x.pc, Read) ∷ data_pages unit (need_of (decoded_effect (with_reserved None x) o word)))
      ((page_at unit x.pc, Read) ∷ data_pages unit (need_of (decoded_effect x o word)))
  by None = refl
  by (Some i) = ap (λ (ns : List (ℕ × Mode)). (page_at unit x.pc, Read) ∷ ns) (instr_needs unit x i word)

keeps_need : (unit : ℕ) (s t : FlatState) (h : ℕ) → next (Lose h) s ≡ Some t → (board unit).need t h ≡ (board unit).need s h
keeps_need unit s t h is =
    let x = mapped (lost s h) (slice_get s.harts h) t is in
    let here : slice_get (slice_set s.harts h (with_reserved None x.0)) h ≡ Some (with_reserved None x.0) =
    set_here s.harts h (with_reserved None x.0) (slice_get_within s.harts h x.0 x.1) in
    ap (λ (u : FlatState). (board unit).need u h) (sym x.2)
    ∙ ap (λ o. option_map_or (λ x. pages_needed unit x (fetched x s.memory)) o []) here
    ∙ pages_same unit x.0 (fetched x.0 s.memory)
    ∙ sym (ap (λ o. option_map_or (λ x. pages_needed unit x (fetched x s.memory)) o []) x.1)

abbrev paired : Access → Option DeviceWord → Option (DeviceWord × Option ℕ)
paired a w = option_map (λ word. (word, a.store)) w

tells_device : (unit : ℕ) (s : FlatState) (h : ℕ) → HartsAre s → (board_machine unit).access s h ≡ None → (board unit).is_at_device s h ≡ false
tells_device unit s h all none = by (hart_access s h) refl none where
  by : (o : Option Access) → hart_access s h ≡ o → option_and_then (λ (a : Access). paired a (device_word s.devices.harts a.at)) o ≡ None → is_some o ≡ false
  by None is e = refl
  by (Some a) is e =
      let x = bound_to (λ x. next_access x s.memory) (slice_get s.harts h) a is in
      let there = move_reaches x.0 (fetched x.0 s.memory) a x.2 in
      word_there (device_word s.devices.harts a.at) (subst (λ n. is_some (device_word n a.at) ≡ true) (all h x.0 x.1) there) e
    where
      word_there : (w : Option DeviceWord) → is_some w ≡ true → paired a w ≡ None → is_some (Some a) ≡ false
      word_there None t e = absurd (true≢false (sym t))
      word_there (Some word) t e = absurd (none-some _ (sym e))

runs_there : (unit harts pages : ℕ) (s : FlatState) (h : ℕ) → IsPagedBoard harts pages s → h < harts → (board unit).is_at_device s h ≡ false
    → IsThere (next (Run h) s)
runs_there unit harts pages s h on inside off =
    let x = found_at s.harts h (let z = on.harts_size in omega (arith, z, inside)) in
    let none : is_some (access_of (need_of (next_move x.0 s.memory))) ≡ false =
    ap (λ o. is_some (option_and_then (λ x. next_access x s.memory) o)) (sym x.1) ∙ off in
    let made : Option FlatState = Some (moved_by s h x.0 (next_move x.0 s.memory) (loaded_for s.memory (need_of (next_move x.0 s.memory)))) in (
      moved_by s h x.0 (next_move x.0 s.memory) (loaded_for s.memory (need_of (next_move x.0 s.memory))),
      ap (option_and_then (λ x. ran s h x (next_move x s.memory))) x.1 ∙ ap (λ b. if b then None else made) none,
    )

pub board_plain : (unit harts pages : ℕ) → IsPlain (board_machine unit) harts (IsFitting harts pages)
board_plain unit harts pages = record {
  short = λ s h on. board_short unit s h;
  keeps = λ s t h on is. keeps_need unit s t h is;
  tells = λ s h on none. tells_device unit s h on.harts_are none;
  runs = λ s h on inside off. runs_there unit harts pages s h on.board inside off;
}

-- where a board begins
pub start_fits : (image : Image) (harts pages : ℕ) → IsPagedBoard harts pages (flat_at_start image harts) → IsFitting harts pages (flat_at_start image harts)
start_fits image harts pages on = record {
  board = on;
  harts_are =
      λ h x is. let m = map_at (λ id. hart_at_start id harts image.pages image.entry) (range_with_len 0 harts) h x is in ap (λ (z : Hart). z.harts) (sym m.2);
}
