-- A move that was made uncounted is the next move of the run that counts.
use Rattle.std.proofs.Common.{◌≡◌, ℕ, zero, suc, ◌+◌, ◌≤◌, true, false, cond, Some, None, refl, sym, ap, ap₂, ◌∙◌, subst, arith}
use Rattle.std.specs.Prelude.{is_some}
use Rattle.rv_words.specs.declared.shared.Mode.TheVariants.{Read}
use Rattle.rv_decode.specs.declared.Instr.{Instr}
use Rattle.rv_decode.specs.Table.{meaning}
use Rattle.rv_csr.specs.State.{Csrs}
use Rattle.rv_csr.specs.Traps.{pending, counted_times}
use Rattle.rv_hart.specs.State.{Hart}
use Rattle.rv_hart.specs.Effects.{instr_effect, decoded_effect, effect_of}
use Rattle.rv_hart.specs.Moves.{after, written, need_of, with_csrs}
use Rattle.rv_hart.specs.Needs.{page_at}
use Rattle.rv_hart.specs.Bursts.{reads_csr, is_quiet, fetch_place}
use Rattle.rv_hart.proofs.Bursts.{effect_apart, after_apart, fetches_at}
use Rattle.rv_hart.specs.declared.effect.Effect.{Effect}
use Rattle.flat_machine.specs.State.{FlatState}
use Rattle.flat_machine.specs.Moves.{move_of}
use Rattle.replay_model.specs.State.{Replay}
use Rattle.run_model.specs.Run.{Run, lacks, word_held, word_of, fetched_from, move_held, ahead_of, data_ahead, loaded_held, stored_in, moved_by, IsOneRun}
use Rattle.run_model.specs.Legs.{KeepsPages, HasLed}
use Rattle.hart_run.specs.Bursts.{MovesFreely, HasGone, lagged, Passed}
use Rattle.run_model.specs.declared.asked.Ahead.TheVariants.{Free}
use Rattle.run_model.proofs.Laws.{asks_by_word, leads_on, keeps_on_move, stays_one}

-- what a run's code found of a move before it made it uncounted
pub record IsFound (r : Run) (pc word : ℕ) (i : Instr) (e : Effect) (loaded : ℕ) : Type 0 where
  pub place : fetch_place r.hart ≡ Some pc
  pub held : lacks r (page_at r.frames.unit pc, Read) ≡ false
  pub word_is : word ≡ word_held r pc
  pub instr : meaning word ≡ Some i
  pub apart : reads_csr i ≡ false
  pub effect : e ≡ instr_effect r.hart i word
  pub quiet : is_quiet e ≡ true
  pub free : data_ahead r (need_of e) ≡ Free
  pub loaded_is : loaded ≡ loaded_held r (need_of e)

-- and what it left
abbrev pub passed_by : Run → Effect → ℕ → Run
passed_by r e loaded = record r { hart = with_csrs r.hart.csrs (after r.hart e loaded); frames = stored_in r.frames (written e loaded) }

fetched_word : (n : ℕ) (r : Run) (pc word : ℕ) (i : Instr) (e : Effect) (loaded : ℕ) → IsFound r pc word i e loaded → is_some (pending r.hart.csrs) ≡ false
    → word_of (lagged n r) ≡ Some word
fetched_word n r pc word i e loaded f none =
    ap (fetched_from (lagged n r)) (fetches_at n r.hart pc none f.place)
    ∙ ap (λ b. cond b None (Some (word_held r pc))) f.held
    ∙ ap Some (sym f.word_is)

effect_is : (n : ℕ) (r : Run) (pc word : ℕ) (i : Instr) (e : Effect) (loaded : ℕ) → IsFound r pc word i e loaded → effect_of (lagged n r).hart word ≡ e
effect_is n r pc word i e loaded f =
    ap (λ o. decoded_effect (lagged n r).hart o word) f.instr
    ∙ effect_apart r.hart (counted_times n r.hart.csrs) i word f.apart
    ∙ sym f.effect

move_is : (n : ℕ) (r : Run) (pc word : ℕ) (i : Instr) (e : Effect) (loaded : ℕ) → IsFound r pc word i e loaded → is_some (pending r.hart.csrs) ≡ false
    → move_held (lagged n r) ≡ e
move_is n r pc word i e loaded f none = ap (move_of (lagged n r).hart) (fetched_word n r pc word i e loaded f none) ∙ effect_is n r pc word i e loaded f

free_is : (n : ℕ) (r : Run) (pc word : ℕ) (i : Instr) (e : Effect) (loaded : ℕ) → IsFound r pc word i e loaded → is_some (pending r.hart.csrs) ≡ false
    → ahead_of (lagged n r) ≡ Free
free_is n r pc word i e loaded f none =
    asks_by_word (lagged n r) word (fetched_word n r pc word i e loaded f none)
    ∙ ap (λ x. data_ahead r (need_of x)) (effect_is n r pc word i e loaded f)
    ∙ f.free

quiet_csrs : (h : Hart) (e : Effect) (loaded : ℕ) (c : Csrs) → (with_csrs c (after h e loaded)).csrs ≡ c
quiet_csrs h e loaded c = refl

one_more : (r : Run) (n : ℕ) (h : Hart) (e : Effect) (l : ℕ) → is_quiet e ≡ true → l ≡ loaded_held r (need_of e)
    → lagged (suc n) (passed_by r e l) ≡ moved_by (lagged n r) e
one_more r n h e l q is =
    ap₂ (λ (x : Hart) (k : ℕ). record (passed_by r e l) { hart = x; count = k }) (sym (after_apart r.hart (counted_times n r.hart.csrs) e l q)) (omega arith)
    ∙ ap (λ z. record r { hart = after (lagged n r).hart e z; count = r.count + n + 1; frames = stored_in r.frames (written e z) }) is

-- so the move is the next one, however many were made uncounted before it
pub passes : (r : Run) (pc word : ℕ) (i : Instr) (e : Effect) (loaded : ℕ) → IsFound r pc word i e loaded → Passed r (passed_by r e loaded)
passes r pc word i e loaded f =
    record {
      csrs = refl;
      count = refl;
      free = λ n none. free_is n r pc word i e loaded f none;
      move = λ n none. one_more r n r.hart e loaded f.quiet f.loaded_is ∙ ap (moved_by (lagged n r)) (sym (move_is n r pc word i e loaded f none));
    }

pub goes_further : (n : ℕ) (old r new : Run) → MovesFreely n old (lagged n r) → Passed r new → is_some (pending r.hart.csrs) ≡ false
    → MovesFreely (suc n) old (lagged (suc n) new)
goes_further n old r new g p none = (lagged n r, g, p.free n none, p.move n none)

pub one_on : (n : ℕ) (r t : Run) → IsOneRun r → MovesFreely n r t → IsOneRun t
one_on zero r t one g = subst IsOneRun (sym g) one
one_on (suc n) r t one (m, g, f, is) = subst IsOneRun (sym is) (stays_one m (one_on n r m one g))

-- a burst leads on as its moves do
pub led_on : (unit n : ℕ) (r t : Run) (h : ℕ) (s : Replay FlatState) → IsOneRun r → HasLed unit r h s → MovesFreely n r t → HasLed unit t h s
led_on unit zero r t h s one led g = subst (λ z. HasLed unit z h s) (sym g) led
led_on unit (suc n) r t h s one led (m, g, f, is) =
    subst (λ z. HasLed unit z h s) (sym is) (leads_on unit m h s (led_on unit n r m h s one led g) (one_on n r m one g) f)

pub keeps_on : (n : ℕ) (old r t : Run) → KeepsPages old r → MovesFreely n r t → KeepsPages old t
keeps_on zero old r t k g = subst (KeepsPages old) (sym g) k
keeps_on (suc n) old r t k (m, g, f, is) = subst (KeepsPages old) (sym is) (keeps_on_move old m (keeps_on n old r m k g) f)

pub one_gone : (r t : Run) → IsOneRun r → HasGone r t → IsOneRun t
one_gone r t one g = one_on g.moves r t one g.goes

pub led_gone : (unit : ℕ) (r t : Run) (h : ℕ) (s : Replay FlatState) → IsOneRun r → HasGone r t → HasLed unit r h s → HasLed unit t h s
led_gone unit r t h s one g led = led_on unit g.moves r t h s one led g.goes

pub keeps_gone : (old r t : Run) → HasGone r t → KeepsPages old r → KeepsPages old t
keeps_gone old r t g k = keeps_on g.moves old r t k g.goes

count_on : (n : ℕ) (r t : Run) → MovesFreely n r t → t.count ≡ r.count + n
count_on zero r t g = ap (λ (z : Run). z.count) g ∙ (omega arith)
count_on (suc n) r t (m, g, f, is) =
    let c = count_on n r m g in
    let d : t.count ≡ m.count + 1 = ap (λ (z : Run). z.count) is in
    omega (arith, c, d)

pub count_gone : (r t : Run) → HasGone r t → r.count ≤ t.count
count_gone r t g = let c = count_on g.moves r t g.goes in omega (arith, c)
