-- The moves that a replay tells of can be told as text: each has trapped, or fetched a word that is an instruction.
use Rattle.std.proofs.Common.{◌≡◌, ℕ, ◌==◌, Bool, true, false, List, [], ◌∷◌, Option, Some, None, option_map, if◌then◌else◌}
use Rattle.std.proofs.Common.{take, drop, refl, sym, ap, ◌∙◌, subst, arith, length-drop}
use Rattle.std.proofs.lemmas.List.{length-take}
use Rattle.std.specs.Prelude.{◌||◌, ◌&&◌, ◌<◌, ◌≤◌, ◌+◌, ◌^◌, is_some, flat_map, slice_get, length}
use Rattle.std.specs.List.{list_all, cons_option}
use Rattle.std.proofs.Math.Bool.{or-true}
use Rattle.std.proofs.lemmas.Bool.{and_parts, and_from}
use Rattle.std.proofs.lemmas.List.{take-append-drop}
use Rattle.std.proofs.lemmas.List.Folds.{list_all-append}
use Rattle.std.proofs.lemmas.Option.{none-some, same_Some}
use Rattle.rv_decode.specs.declared.Instr.{Instr}
use Rattle.rv_decode.specs.Table.{meaning}
use Rattle.rv_csr.specs.Traps.{pending}
use Rattle.rv_hart.specs.State.{Hart}
use Rattle.rv_hart.specs.Effects.{entry_by, decoded_effect, instr_effect}
use Rattle.rv_hart.specs.Moves.{trap_of}
use Rattle.elf_image.specs.Image.{Image}
use Rattle.log_entry.specs.declared.log.Log.{Log}
use Rattle.log_entry.specs.declared.log.Entry.TheVariants as entries
use Rattle.log_entry.specs.Parts.{unit_of}
use Rattle.flat_machine.specs.State.{FlatState}
use Rattle.flat_machine.specs.Moves.{fetched, move_of}
use Rattle.flat_machine.specs.Runs.{step_by, step_between}
use Rattle.flat_machine.specs.declared.results.Step.{Step}
use Rattle.orders_law.specs.Orders.{IsLeast}
use Rattle.replay_model.specs.Board.{board}
use Rattle.replay_model.specs.State.{Replay}
use Rattle.replay_model.specs.Items.{Item, Ended, Move, Makes, Verdict, HasEnded, Holds, CanGo, HasDiverged, told_of, goes, made as made_by, next_item}
use Rattle.replay_model.specs.Items.{verdict, step, story}
use Rattle.replay_law.specs.Laws.{first_replay}
use Rattle.replay_core.specs.Stories.{moves_of, IsStoryOf}
use Rattle.report_view.specs.Trace.{is_told}

-- a move that fetched nothing traps
entered : (x : Hart) (o : Option ℕ) → is_some (trap_of (entry_by x o)) ≡ true
entered x None = refl
entered x (Some cause) = refl

-- and so does one that fetched a word that is no instruction
decoded : (x : Hart) (word : ℕ) (o : Option Instr) → (is_some (trap_of (decoded_effect x o word)) || is_some o) ≡ true
decoded x word None = refl
decoded x word (Some i) = or-true (is_some (trap_of (instr_effect x i word)))

move_told : (x after : Hart) (word : Option ℕ) → is_told (step_by x word (move_of x word) after) ≡ true
move_told x after None = ap (λ b. b || false) (entered x (pending x.csrs))
move_told x after (Some word) = decoded x word (meaning word)

abbrev AllTold : List Step → Type 0
AllTold steps = list_all is_told steps ≡ true

between_told : (memory : List ℕ) (a b : Option Hart) → AllTold (step_between memory a b)
between_told memory (Some before) (Some after) = ap (λ b. b && true) (move_told before after (fetched before memory))
between_told memory (Some before) None = refl
between_told memory None b = refl

-- what an item tells, where it is a move
abbrev IsTold : Option (List Step) → Type 0
IsTold None = Unit {0}
IsTold (Some steps) = AllTold steps

item_told : (unit : ℕ) (s t : Replay FlatState) (h : ℕ) (item : Item) → IsTold (told_of (board unit) s h item t)
item_told unit s t h Move = between_told s.flat.memory (slice_get s.flat.harts h) (slice_get t.flat.harts h)
item_told unit s t h Ended = tt
item_told unit s t h (Makes (entries.Touch count ord input)) = between_told s.flat.memory (slice_get s.flat.harts h) (slice_get t.flat.harts h)
item_told unit s t h (Makes (entries.Gain count page seq mode waits)) = tt
item_told unit s t h (Makes (entries.Yield count page seq left)) = tt
item_told unit s t h (Makes (entries.Poll count ord time bits)) = tt
item_told unit s t h (Makes (entries.End count)) = tt

made_told : (unit : ℕ) (s : Replay FlatState) (h : ℕ) (item : Item) (o : Option (Replay FlatState)) (m : Replay FlatState × Option (List Step))
    → option_map (λ t. (t, told_of (board unit) s h item t)) o ≡ Some m → IsTold m.1
made_told unit s h item None m is = absurd (none-some m is)
made_told unit s h item (Some t) m is = subst (λ n. IsTold n.1) (same_Some _ _ is) (item_told unit s t h item)

goes_told : (unit : ℕ) (s : Replay FlatState) (h : ℕ) (item : Item) (v : Verdict) (m : Replay FlatState × Option (List Step))
    → goes (board unit) s h item v ≡ Some m → IsTold m.1
goes_told unit s h item CanGo m is = made_told unit s h item (made_by (board unit) s h item) m is
goes_told unit s h item HasEnded m is = absurd (none-some m is)
goes_told unit s h item Holds m is = absurd (none-some m is)
goes_told unit s h item (HasDiverged rule) m is = absurd (none-some m is)

-- moves of a hart, one item's before the others'
cons_told : (o : Option (List Step)) (xs : List (List Step)) → IsTold o → AllTold (flat_map (λ t. t) xs) → AllTold (flat_map (λ t. t) (cons_option o xs))
cons_told None xs one all = all
cons_told (Some steps) xs one all = list_all-append is_told steps (flat_map (λ t. t) xs) ∙ and_from _ _ one all

chosen_told : (b : Bool) (o : Option (List Step)) → IsTold o → IsTold (if b then o else None)
chosen_told true o told = told
chosen_told false o told = tt

-- the moves of a hart along an order
along_told : (log : Log) (h n : ℕ) (s t : Replay FlatState) (made : List (ℕ × Option (List Step)))
    → IsLeast (step (board (unit_of log)) log) n s made t → AllTold (moves_of log h made)
along_told log h n s t [] least = refl
along_told log h n s t (x ∷ made) least =
    cons_told (if x.0 == h then x.1 else None) (story (board (unit_of log)) log h made)
    (chosen_told (x.0 == h) x.1
    (goes_told (unit_of log) s x.0 (next_item (board (unit_of log)) log s x.0) (verdict (board (unit_of log)) log s x.0) (least.1.0, x.1) least.1.1))
    (along_told log h n least.1.0 t made least.1.2)

-- and each part of them
parts_told : (n : ℕ) (steps : List Step) → AllTold steps → AllTold (take n steps) × AllTold (drop n steps)
parts_told n steps all =
    and_parts (list_all is_told (take n steps)) (list_all is_told (drop n steps))
    (sym (list_all-append is_told (take n steps) (drop n steps)) ∙ ap (list_all is_told) (take-append-drop n steps) ∙ all)

pub story_told : (log : Log) (image : Image) (h from to : ℕ) (steps : List Step) → IsStoryOf log image h from to steps → list_all is_told steps ≡ true
story_told log image h from to steps is =
    let moves = moves_of log h is.0 in
    let all : AllTold moves = along_told log h (length log.streams) (first_replay log image) is.1.0 is.0 is.1.1 in
    subst (λ l. AllTold l) (sym is.1.2) (parts_told from (take to moves) (parts_told to moves all).0).1

-- and they are no more than the count below which they are told
pub story_short : (log : Log) (image : Image) (h from to : ℕ) (steps : List Step) → IsStoryOf log image h from to steps → from ≤ to
    → to ≤ 1000000000000 → from + length steps < 2 ^ 64
story_short log image h from to steps is rising small =
    let moves = moves_of log h is.0 in
    let e = ap length is.1.2 in
    let d = length-drop from (take to moves) in
    let t = length-take to moves in
    omega (arith, rising, small, e, d, t)
