-- What console and clock give for an access, where they have it to give.
use Rattle.std.proofs.Common.{◌≡◌, ℕ, suc, ◌+◌, ◌++◌, List, [], ◌∷◌, length, Option, Some, None, refl, sym, ap, ap₂, ◌∙◌, arith, true≢false}
use Rattle.std.specs.Prelude.{IsTrue}
use Rattle.rv_words.specs.declared.shared.DeviceWord.{DeviceWord}
use Rattle.rv_words.specs.declared.shared.DeviceWord.TheVariants as words
use Rattle.outside.specs.declared.console.Asked.{Asked}
use Rattle.outside.specs.declared.console.Asked.TheVariants as said
use Rattle.device_board.specs.Recording.{recorded_input, answers_taken, bytes_given, uses_console}
use Rattle.turn_model.specs.Board.{Supply}
use Rattle.turn_model.specs.Steps.{console_gives, clock_gives, clock_answers}
use Rattle.crew_core.specs.Does.{times_taken, IsAsked}

-- the console gave an answer that makes the input, and this is left
pub record Gives (word : DeviceWord) (store : Option ℕ) (a : Asked) (o : Supply) (answers : List Asked) (takes : ℕ) : Type 0 where
  pub answer : Asked
  pub gives : console_gives word store o ≡ Some (answer, record o { answers = answers; takes = takes })
  pub input : (mtime now : ℕ) → recorded_input word store mtime now answer ≡ recorded_input word store mtime now a

all_left : (o : Supply) (answers : List Asked) (takes : ℕ) → o.answers ≡ [] ++ answers → o.takes ≡ 0 + takes
    → ◌≡◌ {A = Option (Asked × Supply)} (Some (said.Nothing, o)) (Some (said.Nothing, record o { answers = answers; takes = takes }))
all_left o answers takes a t = let t' : o.takes ≡ takes = omega (arith, t) in ap₂ (λ xs n. Some (said.Nothing, record o { answers = xs; takes = n })) a t'

rx : (xs : List Asked) (takes : ℕ) (times : List ℕ) (a : Asked) (answers : List Asked) → xs ≡ a ∷ answers
    → console_gives words.Rx None (record { answers = xs; takes = takes; times = times }) ≡ Some (a, record { answers = answers; takes = takes; times = times })
rx xs takes times a answers e = ap (λ ys. console_gives words.Rx None (record { answers = ys; takes = takes; times = times })) e

tx : (v : ℕ) (answers : List Asked) (n : ℕ) (times : List ℕ) (takes : ℕ) → n ≡ suc takes
    → console_gives words.Tx (Some v) (record { answers = answers; takes = n; times = times })
    ≡ Some (said.Nothing, record { answers = answers; takes = takes; times = times })
tx v answers n times takes e = ap (λ m. console_gives words.Tx (Some v) (record { answers = answers; takes = m; times = times })) e

pub console_is : (word : DeviceWord) (store : Option ℕ) (a : Asked) (o : Supply) (answers : List Asked) (takes : ℕ) → o.answers ≡ answers_taken word store a
    ++ answers → o.takes ≡ length (bytes_given word store) + takes → Gives word store a o answers takes
console_is (words.Msip k) None a o answers takes x y = record { answer = said.Nothing; gives = all_left o answers takes x y; input = λ m n. refl }
console_is (words.Msip k) (Some v) a o answers takes x y = record { answer = said.Nothing; gives = all_left o answers takes x y; input = λ m n. refl }
console_is (words.CompareLow k) None a o answers takes x y = record { answer = said.Nothing; gives = all_left o answers takes x y; input = λ m n. refl }
console_is (words.CompareLow k) (Some v) a o answers takes x y = record { answer = said.Nothing; gives = all_left o answers takes x y; input = λ m n. refl }
console_is (words.CompareHigh k) None a o answers takes x y = record { answer = said.Nothing; gives = all_left o answers takes x y; input = λ m n. refl }
console_is (words.CompareHigh k) (Some v) a o answers takes x y = record { answer = said.Nothing; gives = all_left o answers takes x y; input = λ m n. refl }
console_is words.TimeLow None a o answers takes x y = record { answer = said.Nothing; gives = all_left o answers takes x y; input = λ m n. refl }
console_is words.TimeLow (Some v) a o answers takes x y = record { answer = said.Nothing; gives = all_left o answers takes x y; input = λ m n. refl }
console_is words.TimeHigh None a o answers takes x y = record { answer = said.Nothing; gives = all_left o answers takes x y; input = λ m n. refl }
console_is words.TimeHigh (Some v) a o answers takes x y = record { answer = said.Nothing; gives = all_left o answers takes x y; input = λ m n. refl }
console_is words.Rx None a o answers takes x y = record {
  answer = a;
  gives = rx o.answers o.takes o.times a answers x
      ∙ (let t : o.takes ≡ takes = omega (arith, y) in ap (λ n. Some (a, record o { answers = answers; takes = n })) t);
  input = λ m n. refl;
}
console_is words.Rx (Some v) a o answers takes x y = record { answer = said.Nothing; gives = all_left o answers takes x y; input = λ m n. refl }
console_is words.Tx None a o answers takes x y = record { answer = said.Nothing; gives = all_left o answers takes x y; input = λ m n. refl }
console_is words.Tx (Some v) a o answers takes x y = record {
  answer = said.Nothing;
  gives = tx v o.answers o.takes o.times takes
      (let t : o.takes ≡ suc takes = omega (arith, y) in t) ∙ ap (λ xs. Some (said.Nothing, record o { answers = xs; takes = takes })) x;
  input = λ m n. refl;
}
console_is words.Stop None a o answers takes x y = record { answer = said.Nothing; gives = all_left o answers takes x y; input = λ m n. refl }
console_is words.Stop (Some v) a o answers takes x y = record { answer = said.Nothing; gives = all_left o answers takes x y; input = λ m n. refl }

-- a console that is used and has nothing to give fails
pub console_fails : (word : DeviceWord) (store : Option ℕ) (o : Supply) → IsTrue (uses_console word store) → o.answers ≡ [] → o.takes ≡ 0
    → console_gives word store o ≡ None
console_fails words.Rx None o uses x y = ap (λ ys. console_gives words.Rx None (record o { answers = ys })) x
console_fails words.Tx (Some v) o uses x y = ap (λ m. console_gives words.Tx (Some v) (record o { takes = m })) y
console_fails (words.Msip k) None o uses x y = absurd (true≢false (sym uses))
console_fails (words.Msip k) (Some v) o uses x y = absurd (true≢false (sym uses))
console_fails (words.CompareLow k) None o uses x y = absurd (true≢false (sym uses))
console_fails (words.CompareLow k) (Some v) o uses x y = absurd (true≢false (sym uses))
console_fails (words.CompareHigh k) None o uses x y = absurd (true≢false (sym uses))
console_fails (words.CompareHigh k) (Some v) o uses x y = absurd (true≢false (sym uses))
console_fails words.TimeLow None o uses x y = absurd (true≢false (sym uses))
console_fails words.TimeLow (Some v) o uses x y = absurd (true≢false (sym uses))
console_fails words.TimeHigh None o uses x y = absurd (true≢false (sym uses))
console_fails words.TimeHigh (Some v) o uses x y = absurd (true≢false (sym uses))
console_fails words.Rx (Some v) o uses x y = absurd (true≢false (sym uses))
console_fails words.Tx None o uses x y = absurd (true≢false (sym uses))
console_fails words.Stop None o uses x y = absurd (true≢false (sym uses))
console_fails words.Stop (Some v) o uses x y = absurd (true≢false (sym uses))

untimed : (o : Supply) (now : ℕ) (times : List ℕ) → now ≡ 0 → o.times ≡ [] ++ times
    → ◌≡◌ {A = Option (ℕ × Supply)} (Some (0, o)) (Some (now, record o { times = times }))
untimed o now times e t = ap₂ (λ n ts. Some (n, record o { times = ts })) (sym e) t

timed : (o : Supply) (now : ℕ) (times : List ℕ) → o.times ≡ (now ∷ []) ++ times → clock_answers o.times o ≡ Some (now, record o { times = times })
timed o now times t = ap (λ ts. clock_answers ts o) t

pub clock_is : (word : DeviceWord) (store : Option ℕ) (now : ℕ) (o : Supply) (times : List ℕ) → IsAsked word store now → o.times ≡ times_taken word store now
    ++ times → clock_gives word store o ≡ Some (now, record o { times = times })
clock_is (words.Msip k) None now o times e t = untimed o now times e t
clock_is (words.Msip k) (Some v) now o times e t = untimed o now times e t
clock_is (words.CompareLow k) None now o times e t = untimed o now times e t
clock_is (words.CompareLow k) (Some v) now o times e t = untimed o now times e t
clock_is (words.CompareHigh k) None now o times e t = untimed o now times e t
clock_is (words.CompareHigh k) (Some v) now o times e t = untimed o now times e t
clock_is words.TimeLow None now o times e t = timed o now times t
clock_is words.TimeLow (Some v) now o times e t = untimed o now times e t
clock_is words.TimeHigh None now o times e t = timed o now times t
clock_is words.TimeHigh (Some v) now o times e t = untimed o now times e t
clock_is words.Rx None now o times e t = untimed o now times e t
clock_is words.Rx (Some v) now o times e t = untimed o now times e t
clock_is words.Tx None now o times e t = untimed o now times e t
clock_is words.Tx (Some v) now o times e t = untimed o now times e t
clock_is words.Stop None now o times e t = untimed o now times e t
clock_is words.Stop (Some v) now o times e t = untimed o now times e t
