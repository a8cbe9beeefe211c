-- An atomic move keeps its word to its hart.
use Rattle.std.proofs.Common.{◌≡◌, ◌≢◌, ◌≤◌, ℕ, Bool, true, false, List, [], ◌∷◌, Option, Some, None, slice_get, slice_index, unwrap_or, true≢false}
use Rattle.std.proofs.Common.{refl, sym, ap, ap₂, ◌∙◌, subst, if◌then◌else◌}
use Rattle.std.specs.Prelude.{IsSome}
use Rattle.std.specs.Option.{option_map_or}
use Rattle.std.proofs.lemmas.Option.{none-some, same_Some}
use Rattle.rv_words.specs.declared.shared.Mode.TheVariants.{Write}
use Rattle.rv_hart.specs.State.{Hart}
use Rattle.rv_hart.specs.Moves.{written, need_of}
use Rattle.rv_hart.specs.Needs.{page_at}
use Rattle.rv_hart.specs.declared.effect.Effect.{Effect}
use Rattle.rv_hart.specs.declared.effect.Effect.TheVariants.{Sets, Jumps, Loads, Stores, Reserves, Commits, Fails, Updates, DeviceLoads, DeviceStores}
use Rattle.rv_hart.specs.declared.effect.Effect.TheVariants.{WritesCsr, Returns, Traps}
use Rattle.rv_hart.specs.declared.effect.Need.TheVariants as need
use Rattle.order_rules.specs.Places.{is_number}
use Rattle.flat_machine.specs.State.{FlatState}
use Rattle.flat_machine.specs.Moves.{next_move, word_round, loaded_for}
use Rattle.log_entry.specs.Parts.{conflict}
use Rattle.replay_model.specs.Board.{board}
use Rattle.order_rules.specs.Holders.{held}
use Rattle.replay_model.specs.State.{Replay, want}
use Rattle.run_model.specs.Run.{Run, IsAbove, NotWants, hold_of, move_held, data_ahead}
use Rattle.run_model.specs.Agreement.{Agrees}
use Rattle.run_model.proofs.Laws.{sees_move, sees_held, data_not_wanted, data_lie_above, exclusive_is_held}
use Rattle.replay_law.specs.Atomics.{Atomic, atomic_at, value_of, on_word, next_atomic}
use Rattle.order_rules.proofs.Takings.{number_met}
use Rattle.replay_law.proofs.Views.{Shape, Sound, view, view_agrees}
use Rattle.replay_law.proofs.Deeds.{Done, not_wants}
use Rattle.replay_law.proofs.Boards.{view_stays, index_of, same_where}

-- an atomic move holds the page of its word in Write
atomic_held : (r : Run) (e : Effect) (word : ℕ) → NotWants (data_ahead r (need_of e)) → atomic_at e ≡ Some word
    → hold_of r (page_at r.frames.unit word) ≡ Some Write
atomic_held r (Sets rd value) word n is = absurd (none-some _ is)
atomic_held r (Jumps rd target) word n is = absurd (none-some _ is)
atomic_held r (Loads op rd at) word n is = absurd (none-some _ is)
atomic_held r (Stores at size value) word n is = absurd (none-some _ is)
atomic_held r (Reserves rd at) word n is = subst (λ z. hold_of r (page_at r.frames.unit z) ≡ Some Write) (same_Some _ _ is) (exclusive_is_held r at n)
atomic_held r (Commits rd at value) word n is = subst (λ z. hold_of r (page_at r.frames.unit z) ≡ Some Write) (same_Some _ _ is) (exclusive_is_held r at n)
atomic_held r (Fails rd at) word n is = subst (λ z. hold_of r (page_at r.frames.unit z) ≡ Some Write) (same_Some _ _ is) (exclusive_is_held r at n)
atomic_held r (Updates op rd at operand) word n is = subst (λ z. hold_of r (page_at r.frames.unit z) ≡ Some Write) (same_Some _ _ is) (exclusive_is_held r at n)
atomic_held r (DeviceLoads rd at) word n is = absurd (none-some _ is)
atomic_held r (DeviceStores at value) word n is = absurd (none-some _ is)
atomic_held r (WritesCsr rd old number value) word n is = absurd (none-some _ is)
atomic_held r Returns word n is = absurd (none-some _ is)
atomic_held r (Traps cause value) word n is = absurd (none-some _ is)

-- a word of a page held in Write is the same in two states that the run agrees with
word_same : (r : Run) (h : ℕ) (s t : Replay FlatState) (at : ℕ) → Agrees r h s → Agrees r h t → 0x80000000 ≤ at
    → NotWants (data_ahead r (need.Exclusive at)) → word_round t.flat.memory at ≡ word_round s.flat.memory at
word_same r h s t at a b above n =
    let some : IsSome (hold_of r (page_at r.frames.unit at)) = subst IsSome (sym (exclusive_is_held r at n)) refl in
    sym (sees_held r h t at b above some) ∙ sees_held r h s at a above some

-- so what an atomic move stores is the same
effect_same : (r : Run) (h : ℕ) (s t : Replay FlatState) (word count : ℕ) (e : Effect) → Agrees r h s → Agrees r h t → IsAbove (need_of e)
    → NotWants (data_ahead r (need_of e))
    → on_word word h count e (loaded_for t.flat.memory (need_of e)) ≡ on_word word h count e (loaded_for s.flat.memory (need_of e))
effect_same r h s t word count (Sets rd value) a b there n = refl
effect_same r h s t word count (Jumps rd target) a b there n = refl
effect_same r h s t word count (Loads op rd at) a b there n = refl
effect_same r h s t word count (Stores at size value) a b there n = refl
effect_same r h s t word count (Reserves rd at) a b there n = refl
effect_same r h s t word count (Commits rd at value) a b there n = refl
effect_same r h s t word count (Fails rd at) a b there n = refl
effect_same r h s t word count (Updates op rd at operand) a b there n =
    ap (on_word word h count (Updates op rd at operand)) (word_same r h s t at a b there n)
effect_same r h s t word count (DeviceLoads rd at) a b there n = refl
effect_same r h s t word count (DeviceStores at value) a b there n = refl
effect_same r h s t word count (WritesCsr rd old number value) a b there n = refl
effect_same r h s t word count Returns a b there n = refl
effect_same r h s t word count (Traps cause value) a b there n = refl

abbrev pub has_some : List Atomic → Bool
has_some [] = false
has_some (x ∷ xs) = true

has_some_where : (b : Bool) (x : Atomic) → has_some (if b then x ∷ [] else []) ≡ true → b ≡ true
has_some_where true x e = refl
has_some_where false x e = e

on_word_is : (word h count : ℕ) (e : Effect) (loaded : ℕ) → has_some (on_word word h count e loaded) ≡ true → atomic_at e ≡ Some word
on_word_is word h count e loaded some =
    number_met word (atomic_at e) (has_some_where (is_number word (atomic_at e))
    (record { hart = h; count = count; stored = value_of (written e loaded) }) some)

module _ (shape : Shape) where
  -- another's act leaves what the next move of a hart does to a word
  pub atomic_stays : (s : Replay FlatState) (g h : ℕ) (q : Run) (t : FlatState) (word : ℕ) → Sound shape s → h ≢ g → Done shape g s q t
      → want (board shape.unit) s h ≡ None → next_atomic word t h ≡ next_atomic word s.flat h
  atomic_stays s g h q t word sound n done none =
      let count : slice_index t.counts h ≡ slice_index s.flat.counts h = index_of t.counts h ∙ ap (λ o. unwrap_or o 0) (done.counts h n)
      ∙ sym (index_of s.flat.counts h) in
      ap₂ (λ o k. option_map_or (λ x. on_word word h k (next_move x t.memory) (loaded_for t.memory (need_of (next_move x t.memory)))) o [])
      (done.harts h n) count
      ∙ same_where (λ x. on_word word h (slice_index s.flat.counts h) (next_move x t.memory) (loaded_for t.memory (need_of (next_move x t.memory))))
      (λ x. on_word word h (slice_index s.flat.counts h) (next_move x s.flat.memory) (loaded_for s.flat.memory (need_of (next_move x s.flat.memory)))) []
      (slice_get s.flat.harts h) of_hart
    where
      of_hart : (x : Hart) → slice_get s.flat.harts h ≡ Some x
          → on_word word h (slice_index s.flat.counts h) (next_move x t.memory) (loaded_for t.memory (need_of (next_move x t.memory)))
          ≡ on_word word h (slice_index s.flat.counts h) (next_move x s.flat.memory) (loaded_for s.flat.memory (need_of (next_move x s.flat.memory)))
      of_hart x at =
          let r = view shape s h x in
          let a = view_agrees shape s h x sound at in
          let b = view_stays shape s g h r q t sound n a refl done in
          let w = not_wants r h s a none in
          ap (λ e. on_word word h (slice_index s.flat.counts h) e (loaded_for t.memory (need_of e))) (sees_move r h (record s { flat = t }) b w)
          ∙ effect_same r h s (record s { flat = t }) word (slice_index s.flat.counts h) (move_held r) a b (data_lie_above r) (data_not_wanted r w)
          ∙ sym (ap (λ e. on_word word h (slice_index s.flat.counts h) e (loaded_for s.flat.memory (need_of e))) (sees_move r h s a w))

  -- who is about to make an atomic move on a word holds its page in Write
  pub word_held : (s : Replay FlatState) (h word : ℕ) → Sound shape s → want (board shape.unit) s h ≡ None → has_some (next_atomic word s.flat h) ≡ true
      → held s.holders (page_at shape.unit word) h ≡ Some Write
  word_held s h word sound none some = by (slice_get s.flat.harts h) refl some where
    by : (o : Option Hart) → slice_get s.flat.harts h ≡ o
        → has_some (option_map_or (λ x. on_word word h (slice_index s.flat.counts h) (next_move x s.flat.memory)
        (loaded_for s.flat.memory (need_of (next_move x s.flat.memory)))) o []) ≡ true
        → held s.holders (page_at shape.unit word) h ≡ Some Write
    by None at some = absurd (true≢false (sym some))
    by (Some x) at some =
        let r = view shape s h x in
        let a = view_agrees shape s h x sound at in
        let w = not_wants r h s a none in
        let is : atomic_at (move_held r) ≡ Some word = ap atomic_at (sym (sees_move r h s a w))
        ∙ on_word_is word h (slice_index s.flat.counts h) (next_move x s.flat.memory)
        (loaded_for s.flat.memory (need_of (next_move x s.flat.memory))) some in
        a.modes (page_at shape.unit word) ∙ atomic_held r (move_held r) word (data_not_wanted r w) is

  -- so two harts are not both
  pub atomics_apart : (s : Replay FlatState) (g h word : ℕ) → Sound shape s → g ≢ h → want (board shape.unit) s g ≡ None → want (board shape.unit) s h ≡ None
      → has_some (next_atomic word s.flat g) ≡ true → has_some (next_atomic word s.flat h) ≡ true → ⊥
  atomics_apart s g h word sound n none_g none_h some_g some_h =
      let bad : true ≡ false = ap₂ conflict (sym (word_held s g word sound none_g some_g)) (sym (word_held s h word sound none_h some_h))
      ∙ sound.crew.holders (page_at shape.unit word) g h n in
      true≢false bad
