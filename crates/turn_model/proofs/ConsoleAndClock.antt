-- The log of a board agrees with what console and clock gave.
use Rattle.std.proofs.Common.{◌≡◌, ◌⊎◌, ℕ, zero, suc, ◌+◌, ◌<◌, false, List, [], ◌∷◌, ◌++◌, length, map, max, Option, Some, None, refl, sym, ap, ap₂, ◌∙◌}
use Rattle.std.proofs.Common.{subst, inl, inr, arith}
use Rattle.std.specs.List.{filter_map}
use Rattle.std.proofs.Math.Nat.{max_comm}
use Rattle.std.proofs.lemmas.Option.{none-some, same_Some}
use Rattle.std.proofs.lemmas.List.{append_assoc, append-nil, map-append}
use Rattle.std.proofs.lemmas.List.Elements.{filter_map-append}
use Rattle.rv_words.specs.declared.shared.Input.{Input}
use Rattle.rv_words.specs.declared.shared.Input.TheVariants.{Time}
use Rattle.rv_words.specs.declared.shared.Cause.TheVariants as causes
use Rattle.rv_words.specs.declared.shared.DeviceWord.{DeviceWord}
use Rattle.rv_words.specs.declared.shared.DeviceWord.TheVariants as words
use Rattle.outside.specs.declared.console.Asked.{Asked}
use Rattle.outside.specs.declared.console.Asked.TheVariants as said
use Rattle.device_board.specs.Recording.{input_of, recorded_input, answers_taken, bytes_given}
use Rattle.log_entry.specs.declared.log.Entry.{Entry}
use Rattle.log_entry.specs.declared.log.Entry.TheVariants.{Touch}
use Rattle.log_entry.specs.Parts.{ordinal_of, time_of, time_of_input, is_touch}
use Rattle.flat_machine.specs.declared.act.Act.TheVariants as acts
use Rattle.order_rules.specs.Cursor.{Cursor}
use Rattle.order_rules.proofs.Takings.{ordinal_by}
use Rattle.replay_model.specs.Inputs.{console_input, times_from, time_after}
use Rattle.replay_model.proofs.Times.{times_append, after_append}
use Rattle.crew_recording.specs.Recording.{Recording}
use Rattle.crew_recording.proofs.Numbers.{pushed}
use Rattle.turn_model.specs.Recordable.{Recordable}
use Rattle.turn_model.specs.Board.{Board, Supply, Terms, board_at_start, closes}
use Rattle.turn_model.specs.Ways.{entered}
use Rattle.turn_model.specs.Steps.{passes_favour, with_want, console_gives, clock_gives, clock_answers, poll_at, yield_of, gain_of, touch_of}
use Rattle.turn_model.specs.Faithful.{IsFaithful, AccessesSend}
use Rattle.turn_model.proofs.Ways.{recording_of}
use Rattle.turn_model.proofs.Steps.{Sound}
use Rattle.turn_model.proofs.StepInvariants.{Preserves}
use Rattle.turn_model.proofs.Entries.{Entered, after_entry, did_act, after_runs, Committed}
use Rattle.turn_model.proofs.Ordinals.{in_order, in_order_still, in_order_more}

-- the answers that an access takes of the clock
abbrev times_taken : DeviceWord → Option ℕ → ℕ → List ℕ
times_taken words.TimeLow None now = now ∷ []
times_taken words.TimeHigh None now = now ∷ []
times_taken word store now = []

-- what was taken of console and clock, and what is left
record Gave (asked : List Asked) (bytes : ℕ) (told : List ℕ) (o p : Supply) : Type 0 where
  answers : o.answers ≡ asked ++ p.answers
  takes : o.takes ≡ bytes + p.takes
  times : o.times ≡ told ++ p.times

nothing_given : (o p : Supply) (a answer : Asked) → ◌≡◌ {A = Option (Asked × Supply)} (Some (a, o)) (Some (answer, p)) → Gave [] 0 [] o p
nothing_given o p a answer is = let same = ap (λ (x : Asked × Supply). x.1) (same_Some _ _ is) in
    record { answers = ap (λ (x : Supply). x.answers) same; takes = ap (λ (x : Supply). x.takes) same ∙ omega arith; times = ap (λ (x : Supply). x.times) same }

byte_told : (answers : List Asked) (takes : ℕ) (times : List ℕ) (answer : Asked) (p : Supply)
    → console_gives words.Rx None (record { answers = answers; takes = takes; times = times }) ≡ Some (answer, p)
    → Gave (answer ∷ []) 0 [] (record { answers = answers; takes = takes; times = times }) p
byte_told [] takes times answer p is = absurd (none-some _ is)
byte_told (a ∷ answers) takes times answer p is =
    let same = same_Some _ _ is in
    record {
      answers = ap₂ (λ x xs. x ∷ xs) (ap (λ (x : Asked × Supply). x.0) same) (ap (λ (x : Asked × Supply). x.1.answers) same);
      takes = ap (λ (x : Asked × Supply). x.1.takes) same ∙ omega arith;
      times = ap (λ (x : Asked × Supply). x.1.times) same;
    }

byte_taken : (v : ℕ) (answers : List Asked) (takes : ℕ) (times : List ℕ) (answer : Asked) (p : Supply)
    → console_gives words.Tx (Some v) (record { answers = answers; takes = takes; times = times }) ≡ Some (answer, p)
    → Gave [] 1 [] (record { answers = answers; takes = takes; times = times }) p
byte_taken v answers zero times answer p is = absurd (none-some _ is)
byte_taken v answers (suc takes) times answer p is =
    let same = ap (λ (x : Asked × Supply). x.1) (same_Some _ _ is) in
    let left : takes ≡ p.takes = ap (λ (x : Supply). x.takes) same in
    record { answers = ap (λ (x : Supply). x.answers) same; takes = omega (arith, left); times = ap (λ (x : Supply). x.times) same }

console_gave : (word : DeviceWord) (store : Option ℕ) (o p : Supply) (answer : Asked) → console_gives word store o ≡ Some (answer, p)
    → Gave (answers_taken word store answer) (length (bytes_given word store)) [] o p
console_gave (words.Msip k) None o p answer is = nothing_given o p said.Nothing answer is
console_gave (words.Msip k) (Some v) o p answer is = nothing_given o p said.Nothing answer is
console_gave (words.CompareLow k) None o p answer is = nothing_given o p said.Nothing answer is
console_gave (words.CompareLow k) (Some v) o p answer is = nothing_given o p said.Nothing answer is
console_gave (words.CompareHigh k) None o p answer is = nothing_given o p said.Nothing answer is
console_gave (words.CompareHigh k) (Some v) o p answer is = nothing_given o p said.Nothing answer is
console_gave words.TimeLow None o p answer is = nothing_given o p said.Nothing answer is
console_gave words.TimeLow (Some v) o p answer is = nothing_given o p said.Nothing answer is
console_gave words.TimeHigh None o p answer is = nothing_given o p said.Nothing answer is
console_gave words.TimeHigh (Some v) o p answer is = nothing_given o p said.Nothing answer is
console_gave words.Rx None o p answer is = byte_told o.answers o.takes o.times answer p is
console_gave words.Rx (Some v) o p answer is = nothing_given o p said.Nothing answer is
console_gave words.Tx None o p answer is = nothing_given o p said.Nothing answer is
console_gave words.Tx (Some v) o p answer is = byte_taken v o.answers o.takes o.times answer p is
console_gave words.Stop None o p answer is = nothing_given o p said.Nothing answer is
console_gave words.Stop (Some v) o p answer is = nothing_given o p said.Nothing answer is

clock_told : (ts : List ℕ) (o p : Supply) (now : ℕ) → o.times ≡ ts → clock_answers ts o ≡ Some (now, p) → Gave [] 0 (now ∷ []) o p
clock_told [] o p now all is = absurd (none-some _ is)
clock_told (t ∷ ts) o p now all is =
    let same = same_Some _ _ is in
    record {
      answers = ap (λ (x : ℕ × Supply). x.1.answers) same;
      takes = ap (λ (x : ℕ × Supply). x.1.takes) same ∙ omega arith;
      times = all ∙ ap₂ (λ x xs. x ∷ xs) (ap (λ (x : ℕ × Supply). x.0) same) (ap (λ (x : ℕ × Supply). x.1.times) same);
    }

no_time_given : (o p : Supply) (now : ℕ) → ◌≡◌ {A = Option (ℕ × Supply)} (Some (0, o)) (Some (now, p)) → Gave [] 0 [] o p
no_time_given o p now is = let same = ap (λ (x : ℕ × Supply). x.1) (same_Some _ _ is) in
    record { answers = ap (λ (x : Supply). x.answers) same; takes = ap (λ (x : Supply). x.takes) same ∙ omega arith; times = ap (λ (x : Supply). x.times) same }

clock_gave : (word : DeviceWord) (store : Option ℕ) (o p : Supply) (now : ℕ) → clock_gives word store o ≡ Some (now, p)
    → Gave [] 0 (times_taken word store now) o p
clock_gave (words.Msip k) None o p now is = no_time_given o p now is
clock_gave (words.Msip k) (Some v) o p now is = no_time_given o p now is
clock_gave (words.CompareLow k) None o p now is = no_time_given o p now is
clock_gave (words.CompareLow k) (Some v) o p now is = no_time_given o p now is
clock_gave (words.CompareHigh k) None o p now is = no_time_given o p now is
clock_gave (words.CompareHigh k) (Some v) o p now is = no_time_given o p now is
clock_gave words.TimeLow None o p now is = clock_told o.times o p now refl is
clock_gave words.TimeLow (Some v) o p now is = no_time_given o p now is
clock_gave words.TimeHigh None o p now is = clock_told o.times o p now refl is
clock_gave words.TimeHigh (Some v) o p now is = no_time_given o p now is
clock_gave words.Rx None o p now is = no_time_given o p now is
clock_gave words.Rx (Some v) o p now is = no_time_given o p now is
clock_gave words.Tx None o p now is = no_time_given o p now is
clock_gave words.Tx (Some v) o p now is = no_time_given o p now is
clock_gave words.Stop None o p now is = no_time_given o p now is
clock_gave words.Stop (Some v) o p now is = no_time_given o p now is

-- the input of an access: the console's answer, or the clock's, or nothing
record Given (word : DeviceWord) (store : Option ℕ) (mtime now : ℕ) (a : Asked) (input : Input) : Type 0 where
  console : (count ord : ℕ) → map input_of (answers_taken word store a) ≡ filter_map console_input (Touch count ord input ∷ [])
  clock : (count ord : ℕ) → times_from mtime (times_taken word store now) ≡ filter_map time_of (Touch count ord input ∷ [])
  time : ((time_of_input input ≡ None) × (times_taken word store now ≡ [])) ⊎ ((input ≡ Time (max mtime now)) × (times_taken word store now ≡ now ∷ []))

input_given : (word : DeviceWord) (store : Option ℕ) (mtime now : ℕ) (a : Asked) → Given word store mtime now a (recorded_input word store mtime now a)
input_given (words.Msip k) None mtime now a = record { console = λ count ord. refl; clock = λ count ord. refl; time = inl (refl, refl) }
input_given (words.Msip k) (Some v) mtime now a = record { console = λ count ord. refl; clock = λ count ord. refl; time = inl (refl, refl) }
input_given (words.CompareLow k) None mtime now a = record { console = λ count ord. refl; clock = λ count ord. refl; time = inl (refl, refl) }
input_given (words.CompareLow k) (Some v) mtime now a = record { console = λ count ord. refl; clock = λ count ord. refl; time = inl (refl, refl) }
input_given (words.CompareHigh k) None mtime now a = record { console = λ count ord. refl; clock = λ count ord. refl; time = inl (refl, refl) }
input_given (words.CompareHigh k) (Some v) mtime now a = record { console = λ count ord. refl; clock = λ count ord. refl; time = inl (refl, refl) }
input_given words.TimeLow None mtime now a =
    record { console = λ count ord. refl; clock = λ count ord. ap (λ t. t ∷ []) (max_comm now mtime); time = inr (refl, refl) }
input_given words.TimeLow (Some v) mtime now a = record { console = λ count ord. refl; clock = λ count ord. refl; time = inl (refl, refl) }
input_given words.TimeHigh None mtime now a =
    record { console = λ count ord. refl; clock = λ count ord. ap (λ t. t ∷ []) (max_comm now mtime); time = inr (refl, refl) }
input_given words.TimeHigh (Some v) mtime now a = record { console = λ count ord. refl; clock = λ count ord. refl; time = inl (refl, refl) }
input_given words.Rx None mtime now (said.Byte b) = record { console = λ count ord. refl; clock = λ count ord. refl; time = inl (refl, refl) }
input_given words.Rx None mtime now said.Nothing = record { console = λ count ord. refl; clock = λ count ord. refl; time = inl (refl, refl) }
input_given words.Rx None mtime now said.End = record { console = λ count ord. refl; clock = λ count ord. refl; time = inl (refl, refl) }
input_given words.Rx (Some v) mtime now a = record { console = λ count ord. refl; clock = λ count ord. refl; time = inl (refl, refl) }
input_given words.Tx None mtime now a = record { console = λ count ord. refl; clock = λ count ord. refl; time = inl (refl, refl) }
input_given words.Tx (Some v) mtime now a = record { console = λ count ord. refl; clock = λ count ord. refl; time = inl (refl, refl) }
input_given words.Stop None mtime now a = record { console = λ count ord. refl; clock = λ count ord. refl; time = inl (refl, refl) }
input_given words.Stop (Some v) mtime now a = record { console = λ count ord. refl; clock = λ count ord. refl; time = inl (refl, refl) }

module _ {S V : Type 0} (machine : Recordable S V) (terms : Terms) (many pages : ℕ) (Good : S → Type 0) (faithful : IsFaithful machine.flat many pages Good)
    (supply : Supply) where
  -- the entries of a board with ordinals, in their order
  abbrev pub answered : Board S → List Entry
  answered b = in_order b.streams b.at.cursor.ordinal

  -- what was taken of console and clock so far, and what is left
  pub record IsAnswered (b : Board S) : Type 0 where
    pub asked : List Asked
    pub times : List ℕ
    pub answers_are : supply.answers ≡ asked ++ b.supply.answers
    pub times_are : supply.times ≡ times ++ b.supply.times
    pub takes_are : supply.takes ≡ length (machine.flat.sent b.at.flat) + b.supply.takes
    pub console : map input_of asked ≡ filter_map console_input (answered b)
    pub clock : times_from 0 times ≡ filter_map time_of (answered b)
    pub now : machine.flat.time b.at.flat ≡ time_after 0 times

  -- entries that follow, with what they took
  record Follows (b d : Board S) : Type 0 where
    made : List Entry
    asked : List Asked
    bytes : ℕ
    times : List ℕ
    gave : Gave asked bytes times b.supply d.supply
    order : answered d ≡ answered b ++ made
    sent : length (machine.flat.sent d.at.flat) ≡ length (machine.flat.sent b.at.flat) + bytes
    console : map input_of asked ≡ filter_map console_input made
    clock : times_from (machine.flat.time b.at.flat) times ≡ filter_map time_of made
    now : machine.flat.time d.at.flat ≡ time_after (machine.flat.time b.at.flat) times

  followed : (b d : Board S) → IsAnswered b → Follows b d → IsAnswered d
  followed b d one more = record {
    asked = one.asked ++ more.asked;
    times = one.times ++ more.times;
    answers_are = one.answers_are ∙ ap (λ xs. one.asked ++ xs) more.gave.answers ∙ sym (append_assoc one.asked more.asked d.supply.answers);
    times_are = one.times_are ∙ ap (λ xs. one.times ++ xs) more.gave.times ∙ sym (append_assoc one.times more.times d.supply.times);
    takes_are = (let a = one.takes_are in let g = more.gave.takes in let s = more.sent in omega (arith, a, g, s));
    console = map-append input_of one.asked more.asked ∙ ap₂ (λ x y. x ++ y) one.console more.console
        ∙ sym (filter_map-append console_input (answered b) more.made) ∙ ap (filter_map console_input) (sym more.order);
    clock = times_append 0 one.times more.times ∙ ap₂ (λ x y. x ++ y) one.clock (ap (λ t. times_from t more.times) (sym one.now) ∙ more.clock)
        ∙ sym (filter_map-append time_of (answered b) more.made) ∙ ap (filter_map time_of) (sym more.order);
    now = more.now ∙ ap (λ t. time_after t more.times) one.now ∙ sym (after_append 0 one.times more.times);
  }

  nothing_gave : (o p : Supply) → p ≡ o → Gave [] 0 [] o p
  nothing_gave o p same = record {
    answers = ap (λ (x : Supply). x.answers) (sym same);
    takes = ap (λ (x : Supply). x.takes) (sym same) ∙ omega arith;
    times = ap (λ (x : Supply). x.times) (sym same);
  }

  pub answered_alike : (b c : Board S) → c.supply ≡ b.supply → c.streams ≡ b.streams → c.at.cursor.ordinal ≡ b.at.cursor.ordinal
      → machine.flat.sent c.at.flat ≡ machine.flat.sent b.at.flat → machine.flat.time c.at.flat ≡ machine.flat.time b.at.flat → IsAnswered b → IsAnswered c
  answered_alike b c supply streams ordinal sent time one = followed b c one (record {
    made = [];
    asked = [];
    bytes = 0;
    times = [];
    gave = nothing_gave b.supply c.supply supply;
    order = ap₂ in_order streams ordinal ∙ sym (append-nil (answered b));
    sent = ap (λ (xs : List ℕ). length xs) sent ∙ omega arith;
    console = refl;
    clock = refl;
    now = time;
  })

  pub answered_begin : (first : S) → machine.flat.sent first ≡ [] → machine.flat.time first ≡ 0 → IsAnswered (board_at_start terms many first supply)
  answered_begin first sent time = record {
    asked = [];
    times = [];
    answers_are = refl;
    times_are = refl;
    takes_are = (let s = ap (λ (xs : List ℕ). length xs) sent in omega (arith, s));
    console = refl;
    clock = refl;
    now = time;
  }

  pub answered_commit : (h n : ℕ) (b c : Board S) → Good b.at.flat → Committed machine terms many pages Good faithful h n b c → IsAnswered b → IsAnswered c
  answered_commit h n b c good x one =
      let ran = after_runs machine terms many pages Good faithful h n b.at c.at good x.ran in
      answered_alike b c x.supply x.streams (ap (λ (k : Cursor). k.ordinal) ran.cursor) ran.sent ran.time one

  module _ (h : ℕ) (inside : h < many) where
    abbrev SoundB : Board S → Type 0
    SoundB b = Sound machine terms many pages Good faithful h inside b

    abbrev EnteredB : Entry → Board S → Board S → Type 0
    EnteredB e b d = Entered machine terms many pages Good faithful h e b d

    -- an entry without an ordinal
    plain_keeps : (b d : Board S) (e : Entry) → SoundB b → EnteredB e b d → ordinal_of e ≡ None → is_touch e ≡ false → time_of e ≡ None → IsAnswered b
        → IsAnswered d
    plain_keeps b d e sound x none plain timeless one =
        let l : h < length b.streams = (let z = sound.ordered.tidy.streams in omega (arith, z, inside)) in
        let ordinal : d.at.cursor.ordinal ≡ b.at.cursor.ordinal = x.ordinal ∙ ap (λ o. ordinal_by o b.at.cursor.ordinal) none in
        followed b d one (record {
          made = [];
          asked = [];
          bytes = 0;
          times = [];
          gave = nothing_gave b.supply d.supply x.supply;
          order = ap₂ in_order x.streams ordinal ∙ in_order_still b.at.cursor.ordinal b.streams h e l none sound.ordered.ordinals
              ∙ sym (append-nil (answered b));
          sent = ap (λ (xs : List ℕ). length xs) (x.sent plain) ∙ omega arith;
          console = refl;
          clock = refl;
          now = x.time timeless;
        })

    -- an entry with the next ordinal comes last
    comes_last : (b c d : Board S) (e : Entry) → SoundB b → recording_of c ≡ recording_of b → EnteredB e c d → ordinal_of e ≡ Some b.at.cursor.ordinal
        → answered d ≡ answered b ++ e ∷ []
    comes_last b c d e sound same x is =
        let l : h < length b.streams = (let z = sound.ordered.tidy.streams in omega (arith, z, inside)) in
        let streams : d.streams ≡ pushed h e b.streams = x.streams ∙ ap (λ (r : Recording S). pushed h e r.streams) same in
        let ordinal : d.at.cursor.ordinal ≡ b.at.cursor.ordinal + 1 = x.ordinal ∙ ap₂ ordinal_by is (ap (λ (r : Recording S). r.at.cursor.ordinal) same) in
        ap₂ in_order streams ordinal ∙ in_order_more b.at.cursor.ordinal b.streams h e l is sound.ordered.ordinals

    poll_keeps : (b d : Board S) (time : ℕ) (left : Supply) → SoundB b → IsAnswered b → clock_answers b.supply.times b.supply ≡ Some (time, left)
        → entered machine terms h (poll_at machine terms h b (max time (machine.flat.time b.at.flat))) (record b { supply = left }) ≡ Some d → IsAnswered d
    poll_keeps b d time left sound one is made =
        let t = max time (machine.flat.time b.at.flat) in
        let e = poll_at machine terms h b t in
        let c = record b { supply = left } in
        let x = after_entry machine terms many pages Good faithful h e c d sound.ordered.tidy.good made in
        let n = did_act machine terms many pages Good faithful h e (acts.Poll h t) c d refl made in
        let g = clock_told b.supply.times b.supply left time refl is in
        followed b d one (record {
          made = e ∷ [];
          asked = [];
          bytes = 0;
          times = time ∷ [];
          gave = subst (Gave [] 0 (time ∷ []) b.supply) (sym x.supply) g;
          order = comes_last b c d e sound refl x refl;
          sent = ap (λ (xs : List ℕ). length xs) (x.sent refl) ∙ omega arith;
          console = refl;
          clock = refl;
          now = (faithful.timed.poll_time b.at.flat d.at.flat h t sound.ordered.tidy.good n).1;
        })

    touch_keeps : AccessesSend machine → (b d : Board S) (word : DeviceWord) (store : Option ℕ) (answer : Asked) (now : ℕ) (left rest : Supply) → SoundB b
        → IsAnswered b → machine.access b.at.flat h ≡ Some (word, store)
        → console_gives word store b.supply ≡ Some (answer, left) → clock_gives word store left ≡ Some (now, rest)
        → entered machine terms h (touch_of machine terms h b (recorded_input word store (machine.flat.time b.at.flat) now answer))
        (record b { supply = rest }) ≡ Some d → IsAnswered d
    touch_keeps sends b d word store answer now left rest sound one access said told made =
        let input = recorded_input word store (machine.flat.time b.at.flat) now answer in
        let e = touch_of machine terms h b input in
        let c = record b { supply = rest } in
        let x = after_entry machine terms many pages Good faithful h e c d sound.ordered.tidy.good made in
        let n = did_act machine terms many pages Good faithful h e (acts.Touch h input) c d refl made in
        let g = console_gave word store b.supply left answer said in
        let k = clock_gave word store left rest now told in
        let given = input_given word store (machine.flat.time b.at.flat) now answer in
        followed b d one (record {
          made = e ∷ [];
          asked = answers_taken word store answer;
          bytes = length (bytes_given word store);
          times = times_taken word store now;
          gave = subst (Gave (answers_taken word store answer) (length (bytes_given word store)) (times_taken word store now) b.supply) (sym x.supply) (record {
            answers = g.answers ∙ ap (λ xs. answers_taken word store answer ++ xs) k.answers;
            takes = (let a = g.takes in let z = k.takes in omega (arith, a, z));
            times = g.times ∙ k.times;
          });
          order = comes_last b c d e sound refl x refl;
          sent = sends b.at.flat d.at.flat h word store input access n;
          console = given.console (machine.flat.count b.at.flat h) b.at.cursor.ordinal;
          clock = given.clock (machine.flat.count b.at.flat h) b.at.cursor.ordinal;
          now = later input given.time x n;
        })
      where
        later : (input : Input) → ((time_of_input input ≡ None) × (times_taken word store now ≡ []))
            ⊎ ((input ≡ Time (max (machine.flat.time b.at.flat) now)) × (times_taken word store now ≡ now ∷ []))
            → Entered machine terms many pages Good faithful h (touch_of machine terms h b input) (record b { supply = rest }) d
            → machine.flat.next b.at.flat (acts.Touch h input) ≡ Some d.at.flat
            → machine.flat.time d.at.flat ≡ time_after (machine.flat.time b.at.flat) (times_taken word store now)
        later input (inl still) x n = x.time still.0 ∙ ap (time_after (machine.flat.time b.at.flat)) (sym still.1)
        later input (inr moved) x n =
            let m = max (machine.flat.time b.at.flat) now in
            (faithful.timed.touch_time b.at.flat d.at.flat h m sound.ordered.tidy.good
            (subst (λ i. machine.flat.next b.at.flat (acts.Touch h i) ≡ Some d.at.flat) moved.0 n)).1
            ∙ max_comm (machine.flat.time b.at.flat) now ∙ ap (time_after (machine.flat.time b.at.flat)) (sym moved.1)

    aside : (b c : Board S) → recording_of c ≡ recording_of b → c.supply ≡ b.supply → IsAnswered b → IsAnswered c
    aside b c same supply one =
        answered_alike b c supply (ap (λ (r : Recording S). r.streams) same) (ap (λ (r : Recording S). r.at.cursor.ordinal) same)
        (ap (λ (r : Recording S). machine.flat.sent r.at.flat) same) (ap (λ (r : Recording S). machine.flat.time r.at.flat) same) one

    pub answered_keeps : AccessesSend machine → Preserves machine terms many pages Good faithful h inside IsAnswered IsAnswered (λ order b. IsAnswered b)
    answered_keeps sends = record {
      stays = λ b one. one;
      opens = λ b one none running. one;
      rests = λ b one. one;
      goes = λ b until one. one;
      holds = λ b n g low wants one. aside b (with_want h (Some n) b) refl refl one;
      fills = λ b low one. aside b (closes causes.Full b) refl refl one;
      fills_for = λ b g n other is one. aside b (closes causes.Full b) refl refl one;
      fails = λ b low one. aside b (closes causes.Fault b) refl refl one;
      favours = λ b one. aside b (passes_favour h b) refl refl one;
      polls = λ b d time left sound one room is made. poll_keeps b d time left sound one is made;
      yields = λ b d n sound one room made. let e = yield_of machine terms h n b in
          plain_keeps b d e sound (after_entry machine terms many pages Good faithful h e b d sound.ordered.tidy.good made) refl refl refl one;
      gains = λ b d n sound one room made. let e = gain_of machine terms h n b in
          plain_keeps b d e sound (after_entry machine terms many pages Good faithful h e b d sound.ordered.tidy.good made) refl refl refl one;
      touches = λ b d word store answer now left rest sound one access room said told made.
          let d' = touch_keeps sends b d word store answer now left rest sound one access said told made in
          (λ _. aside d (closes causes.Stop d) refl refl d', λ _. d');
    }
