-- In an orderly log no Poll and no load of mtime goes back in time.
use Rattle.std.proofs.Common.{◌≡◌, ℕ, suc, ◌+◌, ◌≤◌, ◌&&◌, not, nat_lt, nat_le, Bool, true, false, cond, List, [], ◌∷◌, ◌++◌, map, flat_map, find}
use Rattle.std.proofs.Common.{Option, Some, None, slice_get, unwrap_or, refl, sym, ap, ap₂, ◌∙◌, subst, arith}
use Rattle.std.specs.List.{list_all, enumerate_from}
use Rattle.std.specs.Option.{option_map, option_and_then}
use Rattle.std.proofs.lemmas.Bool.{ltb-false, or_parts}
use Rattle.std.proofs.lemmas.List.Folds.{list_all-append}
use Rattle.rv_words.specs.Addresses.{device_word}
use Rattle.rv_words.specs.declared.shared.Access.{Access}
use Rattle.rv_words.specs.declared.shared.Input.{Input}
use Rattle.rv_words.specs.declared.shared.Input.TheVariants.{Nothing, Empty, Byte, Time}
use Rattle.rv_words.specs.declared.shared.DeviceWord.{DeviceWord}
use Rattle.rv_words.specs.declared.shared.DeviceWord.TheVariants.{Msip, CompareLow, CompareHigh, TimeLow, TimeHigh, Rx, Tx, Stop}
use Rattle.device_board.specs.State.{Devices, with_time}
use Rattle.device_board.specs.Accesses.{loaded, word_touched, touched}
use Rattle.log_entry.specs.declared.log.Entry.{Entry}
use Rattle.log_entry.specs.declared.log.Log.{Log}
use Rattle.log_entry.specs.Parts.{ordinal_of, time_of, time_of_input, is_some_and}
use Rattle.order_rules.specs.Places.{Placed, stream, entry_at, by_hart, is_number}
use Rattle.order_rules.specs.Rules.{is_misnumbered, with_ordinal, time_before, time_falls, ordinals_are_right, breaks_o8}
use Rattle.order_rules.specs.Orderly.{Keeps, o8}
use Rattle.order_rules.proofs.Least.{none_passes}
use Rattle.order_rules.proofs.Numbers.{in_stream, below_length}
use Rattle.order_rules.proofs.Takings.{ordinals_name}
use Rattle.replay_model.proofs.Times.{store_on}

abbrev at_place : ℕ → ℕ → Entry → Placed
at_place h i e = record { hart = h; place = i; entry = e }

all_in_row : (test : Placed → Bool) (h n : ℕ) (s : List Entry) → ((i : ℕ) (e : Entry) → slice_get s i ≡ Some e → test (at_place h (n + i) e) ≡ true)
    → list_all test (map (λ e. at_place h e.0 e.1) (enumerate_from n s)) ≡ true
all_in_row test h n [] each = refl
all_in_row test h n (x ∷ s) each =
    let first : n + 0 ≡ n = omega arith in
    let here : test (at_place h n x) ≡ true = subst (λ k. test (at_place h k x) ≡ true) first (each 0 x refl) in
    let rest =
    all_in_row test h (n + 1) s (λ i e at. let next : n + suc i ≡ n + 1 + i =
    omega arith in subst (λ k. test (at_place h k e) ≡ true) next (each (suc i) e at)) in
    ap₂ (λ a b. a && b) here rest

all_in_rows : (test : Placed → Bool) (n : ℕ) (streams : List (List Entry))
    → ((h i : ℕ) (s : List Entry) (e : Entry) → slice_get streams h ≡ Some s → slice_get s i ≡ Some e → test (at_place (n + h) i e) ≡ true)
    → list_all test (flat_map (λ s. map (λ e. at_place s.0 e.0 e.1) (enumerate_from 0 s.1)) (enumerate_from n streams)) ≡ true
all_in_rows test n [] each = refl
all_in_rows test n (s ∷ streams) each =
    let first : n + 0 ≡ n = omega arith in
    let here =
    all_in_row test n 0 s (λ i e at. let start : 0 + i ≡ i =
    omega arith in subst (λ k. test (at_place n k e) ≡ true) (sym start) (subst (λ k. test (at_place k i e) ≡ true) first (each 0 i s e refl at))) in
    let rest =
    all_in_rows test (n + 1) streams (λ h i t e there at. let next : n + suc h ≡ n + 1 + h =
    omega arith in subst (λ k. test (at_place k i e) ≡ true) next (each (suc h) i t e there at)) in
    list_all-append test (map (λ e. at_place n e.0 e.1) (enumerate_from 0 s))
    (flat_map (λ s. map (λ e. at_place s.0 e.0 e.1) (enumerate_from 0 s.1)) (enumerate_from (n + 1) streams)) ∙ ap₂ (λ a b. a && b) here rest

find_second : {X : Type 0} (test : X → Bool) (xs : List (ℕ × X)) → option_map (λ x. x.1) (find (λ x. test x.1) xs) ≡ find test (map (λ x. x.1) xs)
find_second test [] = refl
find_second test (x ∷ xs) = by (test x.1) (find_second test xs) where
  by : (b : Bool) → option_map (λ z. z.1) (find (λ z. test z.1) xs) ≡ find test (map (λ z. z.1) xs)
      → option_map (λ z. z.1) (cond b (Some x) (find (λ z. test z.1) xs)) ≡ cond b (Some x.1) (find test (map (λ z. z.1) xs))
  by true rest = refl
  by false rest = rest

seconds : {X : Type 0} (k : ℕ) (s : List X) (rest : List (ℕ × X)) → map (λ x. x.1) (map (λ e. (k, e)) s ++ rest) ≡ s ++ map (λ x. x.1) rest
seconds k [] rest = refl
seconds k (e ∷ s) rest = ap (λ xs. e ∷ xs) (seconds k s rest)

all_seconds : (n : ℕ) (streams : List (List Entry)) → map (λ (x : ℕ × Entry). x.1) (flat_map (λ s. map (λ e. (s.0, e)) s.1) (enumerate_from n streams))
    ≡ flat_map (λ s. s) streams
all_seconds n [] = refl
all_seconds n (s ∷ streams) = seconds n s (flat_map (λ s. map (λ e. (s.0, e)) s.1) (enumerate_from (n + 1) streams))
    ∙ ap (λ xs. s ++ xs) (all_seconds (n + 1) streams)

module _ (log : Log) (times_right : Keeps log o8) where
  right_at : (h i : ℕ) (e : Entry) → entry_at log h i ≡ Some e → breaks_o8 log (at_place h i e) ≡ false
  right_at h i e at =
      let right = none_passes log (o8 log) (h, i) times_right (stream log h, in_stream log h i e at, below_length (stream log h) i e at) in
      sym (ap (λ o. is_some_and o (λ z. breaks_o8 log (at_place h i z))) at) ∙ right

  all_right : ordinals_are_right log ≡ true
  all_right = all_in_rows (λ x. not (is_misnumbered ordinal_of log x)) 0 log.streams (λ h i s e there at.
      let start : 0 + h ≡ h = omega arith in
      subst (λ k. not (is_misnumbered ordinal_of log (at_place k i e)) ≡ true) (sym start)
      (ap not (or_parts _ _ (right_at h i e (ap (λ o. slice_get (unwrap_or o []) i) there ∙ at))).0))

  -- the entry with an ordinal is the one that stands there
  ordinal_there : (h i k : ℕ) (e : Entry) → entry_at log h i ≡ Some e → ordinal_of e ≡ Some k → with_ordinal log k ≡ Some e
  ordinal_there h i k e at is =
      ap (find (λ z. is_number k (ordinal_of z))) (sym (all_seconds 0 log.streams)) ∙ sym (find_second (λ z. is_number k (ordinal_of z)) (by_hart log))
      ∙ ap (option_map (λ (x : ℕ × Entry). x.1)) (ordinals_name log h i k e times_right at is)

  -- the time of an entry isn't below the time before it
  pub not_before : (h i k time : ℕ) (e : Entry) → entry_at log h i ≡ Some e → ordinal_of e ≡ Some k → time_of e ≡ Some time → time_before log k ≤ time
  not_before h i k time e at ordinal is =
      let right = (or_parts _ _ (right_at h i e at)).1 in
      let falls : time_falls log e ≡ false = sym (ap (λ b. b && time_falls log e) all_right) ∙ right in
      let less : nat_lt time (time_before log k) ≡ false =
      sym (ap₂ (λ o p. is_some_and o (λ t. is_some_and p (λ n. nat_lt t (time_before log n)))) is ordinal) ∙ falls in
      ltb-false time (time_before log k) less

  -- the time before the next ordinal
  pub time_after : (h i k : ℕ) (e : Entry) → entry_at log h i ≡ Some e → ordinal_of e ≡ Some k
      → time_before log (k + 1) ≡ unwrap_or (time_of e) (time_before log k)
  time_after h i k e at ordinal =
      let next : k + 1 ≡ suc k = omega arith in
      ap (time_before log) next ∙ ap (λ o. unwrap_or (option_and_then time_of o) (time_before log k)) (ordinal_there h i k e at ordinal)

-- mtime after an access: that of a Time input, and else as it was
abbrev Times : Devices → Input → Option (Devices × ℕ) → Type 0
Times d input None = Unit {0}
Times d input (Some after) = after.0.mtime ≡ unwrap_or (time_of_input input) d.mtime

timed_when : (d : Devices) (t half : ℕ) (b : Bool) → Times d (Time t) (cond b (Some (with_time t d, half)) None)
timed_when d t half true = refl
timed_when d t half false = tt

loaded_times : (d : Devices) (word : DeviceWord) (input : Input) → Times d input (loaded d word input)
loaded_times d (Msip h) Nothing = refl
loaded_times d (Msip h) Empty = tt
loaded_times d (Msip h) (Byte b) = tt
loaded_times d (Msip h) (Time t) = tt
loaded_times d (CompareLow h) Nothing = refl
loaded_times d (CompareLow h) Empty = tt
loaded_times d (CompareLow h) (Byte b) = tt
loaded_times d (CompareLow h) (Time t) = tt
loaded_times d (CompareHigh h) Nothing = refl
loaded_times d (CompareHigh h) Empty = tt
loaded_times d (CompareHigh h) (Byte b) = tt
loaded_times d (CompareHigh h) (Time t) = tt
loaded_times d TimeLow Nothing = tt
loaded_times d TimeLow Empty = tt
loaded_times d TimeLow (Byte b) = tt
loaded_times d TimeLow (Time t) = timed_when d t _ (nat_le d.mtime t)
loaded_times d TimeHigh Nothing = tt
loaded_times d TimeHigh Empty = tt
loaded_times d TimeHigh (Byte b) = tt
loaded_times d TimeHigh (Time t) = timed_when d t _ (nat_le d.mtime t)
loaded_times d Rx Nothing = tt
loaded_times d Rx Empty = refl
loaded_times d Rx (Byte b) = refl
loaded_times d Rx (Time t) = tt
loaded_times d Tx Nothing = refl
loaded_times d Tx Empty = tt
loaded_times d Tx (Byte b) = tt
loaded_times d Tx (Time t) = tt
loaded_times d Stop Nothing = refl
loaded_times d Stop Empty = tt
loaded_times d Stop (Byte b) = tt
loaded_times d Stop (Time t) = tt

word_times : (d : Devices) (word : DeviceWord) (store : Option ℕ) (input : Input) → Times d input (word_touched d word store input)
word_times d word None input = loaded_times d word input
word_times d word (Some v) Nothing = store_on d word v
word_times d word (Some v) Empty = tt
word_times d word (Some v) (Byte b) = tt
word_times d word (Some v) (Time t) = tt

touched_at : (d : Devices) (access : Access) (input : Input) (word : Option DeviceWord)
    → Times d input (option_and_then (λ w. word_touched d w access.store input) word)
touched_at d access input None = tt
touched_at d access input (Some word) = word_times d word access.store input

pub touched_times : (d : Devices) (access : Access) (input : Input) (x : Devices × ℕ) → touched d access input ≡ Some x
    → x.0.mtime ≡ unwrap_or (time_of_input input) d.mtime
touched_times d access input x is = subst (Times d input) is (touched_at d access input (device_word d.harts access.at))
