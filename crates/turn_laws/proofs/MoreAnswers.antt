-- What a turn comes to where console and clock have more to give.
use Rattle.std.proofs.Common.{◌≡◌, ℕ, zero, suc, ◌+◌, ◌++◌, ◌==◌, ◌&&◌, ◌||◌, Bool, true, false, List, [], ◌∷◌, map, min, max, not, slice_set, nat_lt}
use Rattle.std.proofs.Common.{unwrap_or, arith, Option, Some, None, is_some, refl, sym, ap, ◌∙◌, subst, if◌then◌else◌, true≢false}
use Rattle.std.specs.List.{list_all}
use Rattle.std.specs.Option.{option_map, option_and_then}
use Rattle.std.proofs.lemmas.Option.{none-some, same_Some}
use Rattle.rv_words.specs.declared.shared.Mode.{Mode}
use Rattle.rv_words.specs.declared.shared.Cause.{Cause}
use Rattle.rv_words.specs.declared.shared.Cause.TheVariants.{Fault, Full, Stop, Cut}
use Rattle.rv_words.specs.declared.shared.DeviceWord.{DeviceWord}
use Rattle.rv_words.specs.declared.shared.DeviceWord.TheVariants as words
use Rattle.rv_words.specs.declared.shared.Input.TheVariants.{Nothing}
use Rattle.outside.specs.declared.console.Asked.{Asked}
use Rattle.device_board.specs.Recording.{recorded_input}
use Rattle.log_entry.specs.declared.log.Entry.{Entry}
use Rattle.replay_model.specs.State.{Replay}
use Rattle.replay_model.specs.Items.{Makes, made}
use Rattle.shared_types.proofs.Lists.{mapped, bound_to}
use Rattle.turn_model.specs.Recordable.{Recordable}
use Rattle.turn_model.specs.Board.{Board, Order, Rest, Supply, Terms, harts, stream, wanted, closes, is_over, is_at_limit}
use Rattle.turn_model.specs.Claims.{holds_so, kept_by, needed}
use Rattle.turn_model.specs.Ways.{Way, On, Ends, Nowhere, goes, on, has_room, with_room, entered}
use Rattle.turn_model.specs.Steps.{passes, passes_favour, with_want, runs, console_gives, clock_gives, clock_answers, rests_where_closed, rests_at_limit}
use Rattle.turn_model.specs.Steps.{is_due, poll_at, polls_with, polls, yield_of, yields_now, yields_for, yields_to, yields, gain_of, gains_unless, gains_page}
use Rattle.turn_model.specs.Steps.{gains, touch_of, behind_touch, touched, touches_at, touches_with, accesses, touches, goes_on, steps}
use Rattle.turn_model.specs.Lists.{RecordingEnd, whole_leg, listed, cut, closed_after, comes_to, recorded_by_list}
use Rattle.turn_model.specs.Rounds.{round_from, with_favoured, sweep, round, rounds, last_turns, IsRecordedInRounds}
use Rattle.turn_model.specs.Turn.{turn, ended_by}
use Rattle.turn_laws.specs.Supplies.{followed_by, with_more, HasFailed, Extends, WithMore, Always, NoAnswer, NotTaken, IsExtended, IsCarried, IsCarriedStep}
use Rattle.turn_laws.specs.Supplies.{AreCarried}

-- where a way ended, with more to give
data EndsAlike {S : Type 0} (f : Supply → Way S) (order : Order) (c : Board S) : Type 0 where
  Ever : ((x : Supply) → f x ≡ Ends order (with_more x c)) → EndsAlike f order c
  Unanswered : c.closed ≡ Some Fault → c.supply.answers ≡ [] → ((x : Supply) → x.answers ≡ [] → f x ≡ Ends order (with_more x c)) → EndsAlike f order c
  Untaken : c.closed ≡ Some Fault → c.supply.takes ≡ 0 → ((x : Supply) → x.takes ≡ 0 → f x ≡ Ends order (with_more x c)) → EndsAlike f order c

module _ {S : Type 0} where
  -- a way, and what it is with more to give
  abbrev Alike : (Supply → Way S) → Way S → Type 0
  Alike f (On c) = ((x : Supply) → f x ≡ On (with_more x c)) × (c.closed ≡ None)
  Alike f (Ends order c) = EndsAlike f order c
  Alike f Nowhere = Unit {0}

  alike_same : (f g : Supply → Way S) (way : Way S) → ((x : Supply) → g x ≡ f x) → Alike f way → Alike g way
  alike_same f g (On c) same a = (λ x. same x ∙ a.0 x, a.1)
  alike_same f g (Ends order c) same (Ever e) = Ever (λ x. same x ∙ e x)
  alike_same f g (Ends order c) same (Unanswered k o e) = Unanswered k o (λ x z. same x ∙ e x z)
  alike_same f g (Ends order c) same (Untaken k o e) = Untaken k o (λ x z. same x ∙ e x z)
  alike_same f g Nowhere same a = tt

  choice : (p : Bool) (f g : Supply → Way S) (w v : Way S) → Alike f w → Alike g v → Alike (λ x. if p then f x else g x) (if p then w else v)
  choice true f g w v a b = a
  choice false f g w v a b = b

  abbrev IsAlike : (Board S → Way S) → Type 0
  IsAlike step = (b : Board S) → b.closed ≡ None → Alike (λ x. step (with_more x b)) (step b)

  abbrev AllAlike : List (Board S → Way S) → Type 0
  AllAlike [] = Unit {0}
  AllAlike (step ∷ steps) = IsAlike step × AllAlike steps

  ended_goes : (steps : List (Board S → Way S)) (order : Order) (c : Board S) → goes steps (Ends order c) ≡ Ends order c
  ended_goes [] order c = refl
  ended_goes (step ∷ steps) order c = refl

  goes_alike : (steps : List (Board S → Way S)) → AllAlike steps → (f : Supply → Way S) (way : Way S) → Alike f way
      → Alike (λ x. goes steps (f x)) (goes steps way)
  goes_alike [] all f way a = a
  goes_alike (step ∷ steps) all f (On c) a =
      alike_same (λ x. goes steps (step (with_more x c))) (λ x. goes (step ∷ steps) (f x)) (goes steps (step c)) (λ x. ap (goes (step ∷ steps)) (a.0 x))
      (goes_alike steps all.1 (λ x. step (with_more x c)) (step c) (all.0 c a.1))
  goes_alike (step ∷ steps) all f (Ends order c) (Ever e) = Ever (λ x. ap (goes (step ∷ steps)) (e x))
  goes_alike (step ∷ steps) all f (Ends order c) (Unanswered k o e) = Unanswered k o (λ x z. ap (goes (step ∷ steps)) (e x z))
  goes_alike (step ∷ steps) all f (Ends order c) (Untaken k o e) = Untaken k o (λ x z. ap (goes (step ∷ steps)) (e x z))
  goes_alike (step ∷ steps) all f Nowhere a = tt

module _ {S : Type 0} where
  ends_with_more : (step : Board S → Way S) (b c : Board S) (order : Order) → b.closed ≡ None → EndsAlike (λ x. step (with_more x b)) order c
      → WithMore (λ x. step (with_more x b) ≡ Ends order (with_more x c)) b c
  ends_with_more step b c order still (Ever e) = Always e
  ends_with_more step b c order still (Unanswered k o e) = NoAnswer (still, k) o e
  ends_with_more step b c order still (Untaken k o e) = NotTaken (still, k) o e

  carried_step : (step : Board S → Way S) → IsAlike step → IsCarriedStep step
  carried_step step alike = record {
    on = λ b c still is. let a : Alike (λ x. step (with_more x b)) (On c) = subst (Alike (λ x. step (with_more x b))) is (alike b still) in (a.1, a.0);
    ends = λ b c order still is. ends_with_more step b c order still (subst (Alike (λ x. step (with_more x b))) is (alike b still));
  }

  ends_alike_of : (step : Board S → Way S) (b c : Board S) (order : Order) → WithMore (λ x. step (with_more x b) ≡ Ends order (with_more x c)) b c
      → EndsAlike (λ x. step (with_more x b)) order c
  ends_alike_of step b c order (Always e) = Ever e
  ends_alike_of step b c order (NoAnswer k o e) = Unanswered k.1 o e
  ends_alike_of step b c order (NotTaken k o e) = Untaken k.1 o e

  alike_step : (step : Board S → Way S) → IsCarriedStep step → IsAlike step
  alike_step step carried b still = by (step b) refl where
    by : (way : Way S) → step b ≡ way → Alike (λ x. step (with_more x b)) way
    by (On c) is = let r = carried.on b c still is in (r.1, r.0)
    by (Ends order c) is = ends_alike_of step b c order (carried.ends b c order still is)
    by Nowhere is = tt

  all_alike : (steps : List (Board S → Way S)) → AreCarried steps → AllAlike steps
  all_alike [] all = tt
  all_alike (step ∷ steps) all = (alike_step step all.0, all_alike steps all.1)

  all_carried : (steps : List (Board S → Way S)) → AllAlike steps → AreCarried steps
  all_carried [] all = tt
  all_carried (step ∷ steps) all = (carried_step step all.0, all_carried steps all.1)

  pub steps_go_on : (steps : List (Board S → Way S)) → AreCarried steps → IsCarriedStep (λ b. goes steps (On b))
  steps_go_on steps all =
      carried_step (λ b. goes steps (On b)) (λ b still. goes_alike steps (all_alike steps all) (λ x. On (with_more x b)) (On b) (λ x. refl, still))

-- what console and clock answer, with more to give
data ConsoleEnds (f : Supply → Option (Asked × Supply)) (o : Supply) : Type 0 where
  NoneLeft : o.answers ≡ [] → ((x : Supply) → x.answers ≡ [] → f x ≡ None) → ConsoleEnds f o
  NoTakes : o.takes ≡ 0 → ((x : Supply) → x.takes ≡ 0 → f x ≡ None) → ConsoleEnds f o

abbrev ConsoleAlike : (Supply → Option (Asked × Supply)) → Supply → Option (Asked × Supply) → Type 0
ConsoleAlike f o None = ConsoleEnds f o
ConsoleAlike f o (Some r) = (x : Supply) → f x ≡ Some (r.0, followed_by r.1 x)

console_alike : (word : DeviceWord) (store : Option ℕ) (o : Supply)
    → ConsoleAlike (λ x. console_gives word store (followed_by o x)) o (console_gives word store o)
console_alike words.Rx None o = by o.answers where
  by : (answers : List Asked) → ConsoleAlike (λ x. console_gives words.Rx None (followed_by (record o { answers = answers }) x))
      (record o { answers = answers }) (console_gives words.Rx None (record o { answers = answers }))
  by [] = NoneLeft refl (λ x e. ap (λ xs. console_gives words.Rx None (record (followed_by o x) { answers = xs })) e)
  by (a ∷ answers) = λ x. refl
console_alike words.Tx (Some v) o = by o.takes where
  by : (takes : ℕ) → ConsoleAlike (λ x. console_gives words.Tx (Some v) (followed_by (record o { takes = takes }) x)) (record o { takes = takes })
      (console_gives words.Tx (Some v) (record o { takes = takes }))
  by zero = NoTakes refl (λ x e. ap (λ k. console_gives words.Tx (Some v) (record (followed_by o x) { takes = 0 + k })) e)
  by (suc takes) = λ x. ap (λ k. console_gives words.Tx (Some v) (record (followed_by o x) { takes = k })) (suc_plus takes x.takes) where
    suc_plus : (a b : ℕ) → suc a + b ≡ suc (a + b)
    suc_plus a b = omega arith
console_alike words.Tx None o = λ x. refl
console_alike words.Rx (Some v) o = λ x. refl
console_alike (words.Msip n) store o = λ x. refl
console_alike (words.CompareLow n) store o = λ x. refl
console_alike (words.CompareHigh n) store o = λ x. refl
console_alike words.TimeLow store o = λ x. refl
console_alike words.TimeHigh store o = λ x. refl
console_alike words.Stop store o = λ x. refl

abbrev ClockAlike : (Supply → Option (ℕ × Supply)) → Option (ℕ × Supply) → Type 0
ClockAlike f None = Unit {0}
ClockAlike f (Some r) = (x : Supply) → f x ≡ Some (r.0, followed_by r.1 x)

answers_alike : (times : List ℕ) (o : Supply) → ClockAlike (λ x. clock_answers (times ++ x.times) (followed_by o x)) (clock_answers times o)
answers_alike [] o = tt
answers_alike (time ∷ times) o = λ x. refl

clock_alike : (word : DeviceWord) (store : Option ℕ) (o : Supply) → ClockAlike (λ x. clock_gives word store (followed_by o x)) (clock_gives word store o)
clock_alike words.TimeLow None o = answers_alike o.times o
clock_alike words.TimeHigh None o = answers_alike o.times o
clock_alike words.TimeLow (Some v) o = λ x. refl
clock_alike words.TimeHigh (Some v) o = λ x. refl
clock_alike (words.Msip n) store o = λ x. refl
clock_alike (words.CompareLow n) store o = λ x. refl
clock_alike (words.CompareHigh n) store o = λ x. refl
clock_alike words.Rx store o = λ x. refl
clock_alike words.Tx store o = λ x. refl
clock_alike words.Stop store o = λ x. refl

module _ {S V : Type 0} (machine : Recordable S V) (terms : Terms) where
  -- an entry is made alike
  entry_alike : (h : ℕ) (e : Entry) (b : Board S) → b.closed ≡ None
      → Alike (λ x. on (entered machine terms h e (with_more x b))) (on (entered machine terms h e b))
  entry_alike h e b still = by (made machine.flat b.at h (Makes e)) where
    by : (o : Option (Replay S)) → Alike (λ x. on
        (option_map (λ s. record (with_more x b) { at = s; streams = slice_set b.streams h (stream b h ++ e ∷ []) }) o))
        (on (option_map (λ s. record b { at = s; streams = slice_set b.streams h (stream b h ++ e ∷ []) }) o))
    by None = tt
    by (Some s) = (λ x. refl, still)

  room_alike : (e : Entry) (f : Supply → Way S) (step : Board S → Way S) (b : Board S) → Alike f (step b)
      → Alike (λ x. if has_room machine terms e b then f x else Ends Rest (closes Full (with_more x b))) (with_room machine terms e step b)
  room_alike e f step b a =
      choice (has_room machine terms e b) f (λ x. Ends Rest (closes Full (with_more x b))) (step b) (Ends Rest (closes Full b)) a (Ever (λ x. refl))

  polls_alike : (h : ℕ) → IsAlike (polls machine terms h)
  polls_alike h b still =
      choice (is_due machine terms h b) (λ x. with_room machine terms (poll_at machine terms h b 0)
      (λ c. polls_with machine terms h c (clock_answers c.supply.times c.supply)) (with_more x b)) (λ x. On (with_more x b)) _ (On b)
      (room_alike (poll_at machine terms h b 0)
      (λ x. polls_with machine terms h (with_more x b) (clock_answers (b.supply.times ++ x.times) (followed_by b.supply x)))
      (λ c. polls_with machine terms h c (clock_answers c.supply.times c.supply)) b
      (by (clock_answers b.supply.times b.supply) (λ x. clock_answers (b.supply.times ++ x.times) (followed_by b.supply x))
      (answers_alike b.supply.times b.supply)))
      (λ x. refl, still)
    where
      by : (o : Option (ℕ × Supply)) (f : Supply → Option (ℕ × Supply)) → ClockAlike f o
          → Alike (λ x. polls_with machine terms h (with_more x b) (f x)) (polls_with machine terms h b o)
      by None f a = tt
      by (Some r) f a =
          alike_same (λ x. polls_with machine terms h (with_more x b) (Some (r.0, followed_by r.1 x))) (λ x. polls_with machine terms h (with_more x b) (f x))
          (polls_with machine terms h b (Some r)) (λ x. ap (polls_with machine terms h (with_more x b)) (a x))
          (entry_alike h (poll_at machine terms h b (max r.0 (machine.flat.time b.at.flat))) (record b { supply = r.1 }) still)

  yields_alike : (h : ℕ) → IsAlike (yields machine terms h)
  yields_alike h b still = goes_alike (map (yields_to machine terms h) (harts b)) (all (harts b)) (λ x. On (with_more x b)) (On b) (λ x. refl, still) where
    for : (g : ℕ) (w : Option (ℕ × Mode)) → IsAlike (yields_for machine terms h g w)
    for g None c still = (λ x. refl, still)
    for g (Some n) c still =
        choice (yields_now machine terms h g n c)
        (λ x. with_room machine terms (yield_of machine terms h n c) (λ d. on (entered machine terms h (yield_of machine terms h n d) d)) (with_more x c))
        (λ x. On (with_more x c)) _ (On c)
        (room_alike (yield_of machine terms h n c) (λ x. on (entered machine terms h (yield_of machine terms h n c) (with_more x c)))
        (λ d. on (entered machine terms h (yield_of machine terms h n d) d)) c (entry_alike h (yield_of machine terms h n c) c still))
        (λ x. refl, still)

    all : (hs : List ℕ) → AllAlike (map (yields_to machine terms h) hs)
    all [] = tt
    all (g ∷ hs) = (
      λ c still. choice (g == h) (λ x. On (with_more x c)) (λ x. yields_for machine terms h g (wanted c g) (with_more x c)) (On c)
          (yields_for machine terms h g (wanted c g) c) (λ x. refl, still) (for g (wanted c g) c still),
      all hs,
    )

  gains_alike : (h : ℕ) → IsAlike (gains machine terms h)
  gains_alike h b still =
      goes_alike (map (gains_page machine terms h) (needed machine terms b h)) (all (needed machine terms b h)) (λ x. On (with_more x b)) (On b)
      (λ x. refl, still) where
        unless : (o : Option ℕ) (n : ℕ × Mode) → IsAlike (gains_unless machine terms o h n)
        unless None n c still =
            room_alike (gain_of machine terms h n c) (λ x. on (entered machine terms h (gain_of machine terms h n c) (with_more x c)))
            (λ d. on (entered machine terms h (gain_of machine terms h n d) d)) c (entry_alike h (gain_of machine terms h n c) c still)
        unless (Some g) n c still = Ever (λ x. refl)

        all : (ns : List (ℕ × Mode)) → AllAlike (map (gains_page machine terms h) ns)
        all [] = tt
        all (n ∷ ns) = (
          λ c still. choice (holds_so c h n) (λ x. On (with_more x c)) (λ x. gains_unless machine terms (kept_by c h n) h n (with_more x c)) (On c)
              (gains_unless machine terms (kept_by c h n) h n c) (λ x. refl, still) (unless (kept_by c h n) n c still),
          all ns,
        )

  limit_alike : (h : ℕ) → IsAlike (rests_at_limit machine terms h)
  limit_alike h b still =
      choice (is_at_limit machine terms b h) (λ x. Ends Rest (with_more x b)) (λ x. On (with_more x b)) (Ends Rest b) (On b) (Ever (λ x. refl))
      (λ x. refl, still)

  touches_alike : (h : ℕ) → IsAlike (touches machine terms h)
  touches_alike h b still = access (machine.access b.at.flat h) where
    behind : (c : Board S) → c.closed ≡ None → Alike (λ x. behind_touch machine terms h (with_more x c)) (behind_touch machine terms h c)
    behind c still =
        choice (machine.flat.is_stopped c.at.flat) (λ x. Ends Rest (closes Stop (with_more x c)))
        (λ x. On (if h == c.favoured then passes_favour h (with_more x c) else with_more x c)) (Ends Rest (closes Stop c))
        (On (if h == c.favoured then passes_favour h c else c)) (Ever (λ x. refl)) (by (h == c.favoured)) where
          by : (p : Bool) → Alike (λ x. On (if p then passes_favour h (with_more x c) else with_more x c)) (On (if p then passes_favour h c else c))
          by true = (λ x. refl, still)
          by false = (λ x. refl, still)

    touch : (e : Entry) (c : Board S) → c.closed ≡ None
        → Alike (λ x. touched machine terms h (entered machine terms h e (with_more x c))) (touched machine terms h (entered machine terms h e c))
    touch e c still = by (made machine.flat c.at h (Makes e)) where
      by : (o : Option (Replay S)) → Alike (λ x. touched machine terms h
          (option_map (λ s. record (with_more x c) { at = s; streams = slice_set c.streams h (stream c h ++ e ∷ []) }) o))
          (touched machine terms h (option_map (λ s. record c { at = s; streams = slice_set c.streams h (stream c h ++ e ∷ []) }) o))
      by None = tt
      by (Some s) = behind (record c { at = s; streams = slice_set c.streams h (stream c h ++ e ∷ []) }) still

    timed : (word : DeviceWord) (store : Option ℕ) (a : Asked) (o : Option (ℕ × Supply)) (f : Supply → Option (ℕ × Supply)) → ClockAlike f o
        → Alike (λ x. touches_at machine terms h word store a (with_more x b) (f x)) (touches_at machine terms h word store a b o)
    timed word store a None f alike = tt
    timed word store a (Some r) f alike =
        alike_same (λ x. touches_at machine terms h word store a (with_more x b) (Some (r.0, followed_by r.1 x)))
        (λ x. touches_at machine terms h word store a (with_more x b) (f x)) (touches_at machine terms h word store a b (Some r))
        (λ x. ap (touches_at machine terms h word store a (with_more x b)) (alike x))
        (touch (touch_of machine terms h b (recorded_input word store (machine.flat.time b.at.flat) r.0 a)) (record b { supply = r.1 }) still)

    told : (word : DeviceWord) (store : Option ℕ) (o : Option (Asked × Supply)) (f : Supply → Option (Asked × Supply)) → ConsoleAlike f b.supply o
        → Alike (λ x. touches_with machine terms h word store (with_more x b) (f x)) (touches_with machine terms h word store b o)
    told word store None f (NoneLeft none e) =
        Unanswered (ap (λ k. Some (unwrap_or k Fault)) still) none (λ x z. ap (touches_with machine terms h word store (with_more x b)) (e x z))
    told word store None f (NoTakes none e) =
        Untaken (ap (λ k. Some (unwrap_or k Fault)) still) none (λ x z. ap (touches_with machine terms h word store (with_more x b)) (e x z))
    told word store (Some r) f a =
        alike_same (λ x. touches_at machine terms h word store r.0 (with_more x b) (clock_gives word store (followed_by r.1 x)))
        (λ x. touches_with machine terms h word store (with_more x b) (f x)) (touches_with machine terms h word store b (Some r))
        (λ x. ap (touches_with machine terms h word store (with_more x b)) (a x))
        (timed word store r.0 (clock_gives word store r.1) (λ x. clock_gives word store (followed_by r.1 x)) (clock_alike word store r.1))

    access : (o : Option (DeviceWord × Option ℕ)) → Alike (λ x. accesses machine terms h o (with_more x b)) (accesses machine terms h o b)
    access None = (λ x. refl, still)
    access (Some (word, store)) =
        room_alike (touch_of machine terms h b Nothing)
        (λ x. touches_with machine terms h word store (with_more x b) (console_gives word store (followed_by b.supply x)))
        (λ c. touches_with machine terms h word store c (console_gives word store c.supply)) b
        (told word store (console_gives word store b.supply) (λ x. console_gives word store (followed_by b.supply x)) (console_alike word store b.supply))

  go_alike : (h : ℕ) → IsAlike (goes_on machine terms h)
  go_alike h b still = Ever (λ x. refl)

  closed_alike : IsAlike (rests_where_closed machine terms)
  closed_alike b still =
      choice (is_some b.closed || machine.flat.is_stopped b.at.flat) (λ x. Ends Rest (with_more x b)) (λ x. On (with_more x b)) (Ends Rest b) (On b)
      (Ever (λ x. refl)) (λ x. refl, still)

  all_steps : (h : ℕ) → AllAlike (steps machine terms h)
  all_steps h = (closed_alike, (polls_alike h, (yields_alike h, (limit_alike h, (gains_alike h, (touches_alike h, (limit_alike h, (go_alike h, tt))))))))

  pub steps_extend : (h : ℕ) → AreCarried (steps machine terms h)
  steps_extend h = all_carried (steps machine terms h) (all_steps h)

  steps_alike : (h : ℕ) (b : Board S) → b.closed ≡ None → Alike (λ x. goes (steps machine terms h) (On (with_more x b))) (goes (steps machine terms h) (On b))
  steps_alike h b still =
      goes_alike (steps machine terms h) (all_steps h) (λ x. On (with_more x b)) (On b) (λ x. refl, still)

  ended_extends : (h n : ℕ) (b c : Board S) (f : Supply → Way S) (way : Way S) (run : Board S → Option (Board S)) → b.closed ≡ None → Alike f way
      → ((x : Supply) → run (with_more x b) ≡ ended_by h n (with_more x b) (f x)) → ended_by h n b way ≡ Some c → IsExtended run b c
  ended_extends h n b c f (On d) run still a same is = absurd (none-some c is)
  ended_extends h n b c f Nowhere run still a same is = absurd (none-some c is)
  ended_extends h n b c f (Ends order d) run still (Ever e) same is =
      subst (IsExtended run b) (same_Some _ _ is) (Always (λ x. same x ∙ ap (ended_by h n (with_more x b)) (e x)))
  ended_extends h n b c f (Ends order d) run still (Unanswered k o e) same is =
      subst (IsExtended run b) (same_Some _ _ is) (NoAnswer (still, k) o (λ x z. same x ∙ ap (ended_by h n (with_more x b)) (e x z)))
  ended_extends h n b c f (Ends order d) run still (Untaken k o e) same is =
      subst (IsExtended run b) (same_Some _ _ is) (NotTaken (still, k) o (λ x z. same x ∙ ap (ended_by h n (with_more x b)) (e x z)))

  passes_alike : (h n : ℕ) (b : Board S) (x : Supply) → passes machine terms h n (with_more x b) ≡ with_more x (passes machine terms h n b)
  passes_alike h n b x = by ((h == b.favoured) && (nat_lt 0 n || is_at_limit machine terms b h)) where
    by : (p : Bool) → (if p then passes_favour h (with_more x b) else with_more x b) ≡ with_more x (if p then passes_favour h b else b)
    by true = refl
    by false = refl

  passes_closed : (h n : ℕ) (b : Board S) → ((passes machine terms h n b).closed ≡ b.closed) × ((passes machine terms h n b).supply ≡ b.supply)
  passes_closed h n b = by ((h == b.favoured) && (nat_lt 0 n || is_at_limit machine terms b h)) where
    by : (p : Bool) → ((if p then passes_favour h b else b).closed ≡ b.closed) × ((if p then passes_favour h b else b).supply ≡ b.supply)
    by true = (refl, refl)
    by false = (refl, refl)

  -- where a turn begins its steps
  abbrev moved : ℕ → ℕ → Board S → Replay S → Board S
  moved h n b s = with_want h None (passes machine terms h n (record b { at = s }))

  turn_extended : (h n : ℕ) (b c : Board S) → b.closed ≡ None → turn machine terms h n b ≡ Some c → IsExtended (turn machine terms h n) b c
  turn_extended h n b c still = by (runs machine terms h n b.at) refl where
    by : (o : Option (Replay S)) → runs machine terms h n b.at ≡ o
        → option_and_then (λ d. ended_by h n b (goes (steps machine terms h) (On d))) (option_map (moved h n b) o) ≡ Some c
        → IsExtended (turn machine terms h n) b c
    by None at is = absurd (none-some c is)
    by (Some s) at is =
        let d = moved h n b s in
        ended_extends h n b c (λ x. goes (steps machine terms h) (On (with_more x d))) (goes (steps machine terms h) (On d)) (turn machine terms h n) still
        (steps_alike h d ((passes_closed h n (record b { at = s })).0 ∙ still))
        (λ x. ap (λ o. option_and_then (λ d. ended_by h n (with_more x b) (goes (steps machine terms h) (On d))) (option_map (moved h n (with_more x b)) o)) at
        ∙ ap (λ d. ended_by h n (with_more x b) (goes (steps machine terms h) (On (with_want h None d)))) (passes_alike h n (record b { at = s }) x))
        is

  -- a turn of a board that is closed asks nothing
  shut_turn : (h n : ℕ) (b : Board S) (cause : Cause) (s : Replay S) → b.closed ≡ Some cause → runs machine terms h n b.at ≡ Some s
      → turn machine terms h n b ≡ ended_by h n b (Ends Rest (moved h n b s))
  shut_turn h n b cause s shut at =
      ap (λ o. option_and_then (λ d. ended_by h n b (goes (steps machine terms h) (On d))) (option_map (moved h n b) o)) at
      ∙ ap (ended_by h n b) (rests (moved h n b s).closed ((passes_closed h n (record b { at = s })).0 ∙ shut))
    where
      d : Board S
      d = moved h n b s

      rests : (k : Option Cause) → k ≡ Some cause
          → goes (polls machine terms h ∷ yields machine terms h ∷ rests_at_limit machine terms h ∷ gains machine terms h ∷ touches machine terms h ∷
          rests_at_limit machine terms h ∷ goes_on machine terms h ∷ [])
          (if is_some k || machine.flat.is_stopped (moved h n b s).at.flat then Ends Rest (moved h n b s) else On (moved h n b s)) ≡ Ends Rest
          (moved h n b s)
      rests None e = absurd (none-some cause e)
      rests (Some k) e = refl

  turn_ran : (h n : ℕ) (b c : Board S) → turn machine terms h n b ≡ Some c → (s : Replay S) × (runs machine terms h n b.at ≡ Some s)
  turn_ran h n b c is = by (runs machine terms h n b.at) refl is where
    by : (o : Option (Replay S)) → runs machine terms h n b.at ≡ o
        → option_and_then (λ d. ended_by h n b (goes (steps machine terms h) (On d))) (option_map (moved h n b) o) ≡ Some c → (s : Replay S)
        × (runs machine terms h n b.at ≡ Some s)
    by None at is = absurd (none-some c is)
    by (Some s) at is = (s, at)

  turn_shut : (h n : ℕ) (b c : Board S) (cause : Cause) → b.closed ≡ Some cause → turn machine terms h n b ≡ Some c → (c.closed ≡ Some cause)
      × (c.supply ≡ b.supply)
  turn_shut h n b c cause shut is =
      let s = turn_ran h n b c is in
      let p = passes_closed h n (record b { at = s.0 }) in
      let e = sym (same_Some _ _ (sym (shut_turn h n b cause s.0 shut s.1) ∙ is)) in
      (ap (λ (z : Board S). z.closed) e ∙ p.0 ∙ shut, ap (λ (z : Board S). z.supply) e ∙ p.1)

  shut_extends : (h n : ℕ) (b c : Board S) (cause : Cause) → b.closed ≡ Some cause → turn machine terms h n b ≡ Some c → (x : Supply)
      → Extends (turn machine terms h n) b c x
  shut_extends h n b c cause shut is x =
      let s = turn_ran h n b c is in
      shut_turn h n (with_more x b) cause s.0 shut s.1
      ∙ ap (λ d. ended_by h n (with_more x b) (Ends Rest (with_want h None d))) (passes_alike h n (record b { at = s.0 }) x)
      ∙ ap (λ d. Some (with_more x d)) (same_Some _ _ (sym (shut_turn h n b cause s.0 shut s.1) ∙ is))

  pub turn_carried : (h n : ℕ) (b c : Board S) → turn machine terms h n b ≡ Some c → IsCarried (turn machine terms h n) b c
  turn_carried h n b c is = record { extended = by b.closed refl; shut = λ cause e. turn_shut h n b c cause e is } where
    by : (k : Option Cause) → b.closed ≡ k → IsExtended (turn machine terms h n) b c
    by None e = turn_extended h n b c e is
    by (Some cause) e = Always (λ x. shut_extends h n b c cause e is x)

module _ {S : Type 0} where
  -- nothing is done
  pub none_carried : (run : Board S → Option (Board S)) (b : Board S) → ((x : Supply) → run (with_more x b) ≡ Some (with_more x b)) → IsCarried run b b
  none_carried run b same = record { extended = Always same; shut = λ cause e. (e, refl) }

  pub carried_by : (run by : Board S → Option (Board S)) (b c : Board S) → ((x : Supply) → by (with_more x b) ≡ run (with_more x b)) → IsCarried run b c
      → IsCarried by b c
  carried_by run by b c same carried = record { extended = through carried.extended; shut = carried.shut } where
    through : IsExtended run b c → IsExtended by b c
    through (Always e) = Always (λ x. same x ∙ e x)
    through (NoAnswer k o e) = NoAnswer k o (λ x z. same x ∙ e x z)
    through (NotTaken k o e) = NotTaken k o (λ x z. same x ∙ e x z)

  with_map : (Q R : Supply → Type 0) (b c : Board S) → ((x : Supply) → Q x → R x) → WithMore Q b c → WithMore R b c
  with_map Q R b c f (Always e) = Always (λ x. f x (e x))
  with_map Q R b c f (NoAnswer k o e) = NoAnswer k o (λ x z. f x (e x z))
  with_map Q R b c f (NotTaken k o e) = NotTaken k o (λ x z. f x (e x z))

  -- one behind another
  with_both : (Q R : Supply → Type 0) (first next : Board S → Option (Board S)) (b m c : Board S) → IsCarried first b m → IsCarried next m c → WithMore Q b m
      → WithMore R m c → WithMore (λ x. Q x × R x) b c
  with_both Q R first next b m c one two = by where
    -- a board that a failure closes was not closed before
    before : HasFailed m c → HasFailed b c
    before failed = (up b.closed refl, failed.1) where
      up : (k : Option Cause) → b.closed ≡ k → b.closed ≡ None
      up None e = e
      up (Some cause) e = absurd (none-some cause (sym failed.0 ∙ (one.shut cause e).0))

    by : WithMore Q b m → WithMore R m c → WithMore (λ x. Q x × R x) b c
    by (Always e) (Always f) = Always (λ x. (e x, f x))
    by (Always e) (NoAnswer k o f) = NoAnswer (before k) o (λ x z. (e x, f x z))
    by (Always e) (NotTaken k o f) = NotTaken (before k) o (λ x z. (e x, f x z))
    by (NoAnswer k o e) (Always f) = let s = two.shut Fault k.1 in NoAnswer (k.0, s.0) (ap (λ (p : Supply). p.answers) s.1 ∙ o) (λ x z. (e x z, f x))
    by (NoAnswer k o e) (NoAnswer l p f) = absurd (none-some Fault (sym l.0 ∙ k.1))
    by (NoAnswer k o e) (NotTaken l p f) = absurd (none-some Fault (sym l.0 ∙ k.1))
    by (NotTaken k o e) (Always f) = let s = two.shut Fault k.1 in NotTaken (k.0, s.0) (ap (λ (p : Supply). p.takes) s.1 ∙ o) (λ x z. (e x z, f x))
    by (NotTaken k o e) (NoAnswer l p f) = absurd (none-some Fault (sym l.0 ∙ k.1))
    by (NotTaken k o e) (NotTaken l p f) = absurd (none-some Fault (sym l.0 ∙ k.1))

  pub both_carried : (first next : Board S → Option (Board S)) (b m c : Board S) → IsCarried first b m → IsCarried next m c
      → IsCarried (λ d. option_and_then next (first d)) b c
  both_carried first next b m c one two = record {
    extended =
        with_map (λ x. Extends first b m x × Extends next m c x) (Extends (λ d. option_and_then next (first d)) b c) b c
        (λ x p. ap (option_and_then next) p.0 ∙ p.1) (with_both (Extends first b m) (Extends next m c) first next b m c one two one.extended two.extended);
    shut = λ cause e. let s = one.shut cause e in let t = two.shut cause s.0 in (t.0, t.1 ∙ s.1);
  }

module _ {S V : Type 0} (machine : Recordable S V) (terms : Terms) where
  pub listed_carried : (list : List (ℕ × ℕ)) (b c : Board S) → listed machine terms list b ≡ Some c → IsCarried (listed machine terms list) b c
  listed_carried [] b c is = subst (IsCarried (listed machine terms []) b) (same_Some _ _ is) (none_carried (listed machine terms []) b (λ x. refl))
  listed_carried (row ∷ list) b c is =
      let n = min row.1 (whole_leg machine terms row.0 b) in
      let m = bound_to (listed machine terms list) (turn machine terms row.0 n b) c is in
      carried_by (λ d. option_and_then (listed machine terms list) (turn machine terms row.0 n d)) (listed machine terms (row ∷ list)) b c (λ x. refl)
      (both_carried (turn machine terms row.0 n) (listed machine terms list) b m.0 c (turn_carried machine terms row.0 n b m.0 m.1)
      (listed_carried list m.0 c m.2))

  -- closing with another cause asks nothing
  cut_carried : (list : List (ℕ × ℕ)) (b c : Board S) → listed machine terms list (cut machine terms b) ≡ Some c
      → IsCarried (λ d. listed machine terms list (cut machine terms d)) b c
  cut_carried list b c is = by (is_over machine terms b) refl is where
    not_closed : (k : Option Cause) (p : Bool) → (is_some k || p) ≡ false → k ≡ None
    not_closed None p e = refl
    not_closed (Some cause) p e = absurd (true≢false e)

    cuts : b.closed ≡ None → IsCarried (listed machine terms list) (closes Cut b) c → IsCarried (λ d. listed machine terms list (closes Cut d)) b c
    cuts still r = record { extended = through r.extended; shut = λ cause e. absurd (none-some cause (sym still ∙ e)) } where
      through : IsExtended (listed machine terms list) (closes Cut b) c → IsExtended (λ d. listed machine terms list (closes Cut d)) b c
      through (Always e) = Always e
      through (NoAnswer k o e) = absurd (none-some _ (sym k.0))
      through (NotTaken k o e) = absurd (none-some _ (sym k.0))

    by : (p : Bool) → is_over machine terms b ≡ p → listed machine terms list (if p then b else closes Cut b) ≡ Some c
        → IsCarried (λ d. listed machine terms list (cut machine terms d)) b c
    by true over is =
        carried_by (listed machine terms list) (λ d. listed machine terms list (cut machine terms d)) b c
        (λ x. ap (λ p. listed machine terms list (if p then with_more x b else closes Cut (with_more x b))) over) (listed_carried list b c is)
    by false over is =
        carried_by (λ d. listed machine terms list (closes Cut d)) (λ d. listed machine terms list (cut machine terms d)) b c
        (λ x. ap (λ p. listed machine terms list (if p then with_more x b else closes Cut (with_more x b))) over)
        (cuts (not_closed b.closed (list_all (is_at_limit machine terms b) (harts b)) over) (listed_carried list (closes Cut b) c is))

  pub closed_carried : (b c : Board S) → closed_after machine terms b ≡ Some c → IsCarried (closed_after machine terms) b c
  closed_carried b c is =
      carried_by (λ d. listed machine terms (map (λ h. (h, 0)) (harts b)) (cut machine terms d)) (closed_after machine terms) b c
      (λ x. ap (λ hs. listed machine terms (map (λ h. (h, 0)) hs) (cut machine terms (with_more x b))) refl)
      (cut_carried (map (λ h. (h, 0)) (harts b)) b c (cut_harts (is_over machine terms b) is))
    where
      cut_harts : (p : Bool) → listed machine terms (map (λ h. (h, 0)) (harts b)) (if p then b else closes Cut b) ≡ Some c
          → listed machine terms (map (λ h. (h, 0)) (harts b)) (if p then b else closes Cut b) ≡ Some c
      cut_harts p e = e

  pub sweep_carried : (r : ℕ) (moved : Bool) (hs : List ℕ) (b c : Board S) → sweep machine terms r moved hs b ≡ Some c
      → IsCarried (sweep machine terms r moved hs) b c
  sweep_carried r moved [] b c is =
      subst (IsCarried (sweep machine terms r moved []) b) (same_Some _ _ is) (none_carried (sweep machine terms r moved []) b (λ x. refl))
  sweep_carried r moved (h ∷ hs) b c is =
      let n = if moved then whole_leg machine terms h b else 0 in
      let m = bound_to (sweep machine terms r moved hs) (turn machine terms h n (with_favoured r b)) c is in
      let t = turn_carried machine terms h n (with_favoured r b) m.0 m.1 in
      carried_by (λ d. option_and_then (sweep machine terms r moved hs) (turn machine terms h n (with_favoured r d)))
      (sweep machine terms r moved (h ∷ hs)) b c (λ x. refl)
      (both_carried (λ d. turn machine terms h n (with_favoured r d)) (sweep machine terms r moved hs) b m.0 c (aside n m.0 t.extended t.shut)
      (sweep_carried r moved hs m.0 c m.2))
    where
      aside : (n : ℕ) (m : Board S) → IsExtended (turn machine terms h n) (with_favoured r b) m
          → ((cause : Cause) → b.closed ≡ Some cause → (m.closed ≡ Some cause) × (m.supply ≡ b.supply))
          → IsCarried (λ d. turn machine terms h n (with_favoured r d)) b m
      aside n m (Always e) shut = record { extended = Always e; shut = shut }
      aside n m (NoAnswer k o e) shut = record { extended = NoAnswer k o e; shut = shut }
      aside n m (NotTaken k o e) shut = record { extended = NotTaken k o e; shut = shut }

  pub round_carried : (r : ℕ) (moved : Bool) (b c : Board S) → round machine terms r moved b ≡ Some c → IsCarried (round machine terms r moved) b c
  round_carried r moved b c is =
      let hs = round_from r b in
      let m = bound_to (λ d. sweep machine terms r false hs d) (option_and_then (sweep machine terms r false hs) (sweep machine terms r moved hs b)) c is in
      let l = bound_to (λ d. sweep machine terms r false hs d) (sweep machine terms r moved hs b) m.0 m.1 in
      carried_by (λ d. option_and_then (sweep machine terms r false hs) (option_and_then (sweep machine terms r false hs) (sweep machine terms r moved hs d)))
      (round machine terms r moved) b c (λ x. refl)
      (both_carried (λ d. option_and_then (sweep machine terms r false hs) (sweep machine terms r moved hs d)) (sweep machine terms r false hs) b m.0 c
      (both_carried (sweep machine terms r moved hs) (sweep machine terms r false hs) b l.0 m.0 (sweep_carried r moved hs b l.0 l.1)
      (sweep_carried r false hs l.0 m.0 l.2))
      (sweep_carried r false hs m.0 c m.2))

  pub rounds_carried : (r more : ℕ) (b c : Board S) → rounds machine terms r more b ≡ Some c → IsCarried (rounds machine terms r more) b c
  rounds_carried r zero b c is = subst (IsCarried (rounds machine terms r 0) b) (same_Some _ _ is) (none_carried (rounds machine terms r 0) b (λ x. refl))
  rounds_carried r (suc more) b c is = by (λ m e. rounds_carried (r + 1) more m c e) (is_over machine terms b) refl is where
    by : ((m : Board S) → rounds machine terms (r + 1) more m ≡ Some c → IsCarried (rounds machine terms (r + 1) more) m c) → (p : Bool)
        → is_over machine terms b ≡ p → (if p then None else option_and_then (rounds machine terms (r + 1) more) (round machine terms r (not (r == 0)) b)) ≡
        Some c → IsCarried (rounds machine terms r (suc more)) b c
    by rest true over is = absurd (none-some c is)
    by rest false over is =
        let m = bound_to (rounds machine terms (r + 1) more) (round machine terms r (not (r == 0)) b) c is in
        carried_by (λ d. option_and_then (rounds machine terms (r + 1) more) (round machine terms r (not (r == 0)) d)) (rounds machine terms r (suc more)) b c
        (λ x. ap (λ p. if p then None else option_and_then (rounds machine terms (r + 1) more) (round machine terms r (not (r == 0)) (with_more x b))) over)
        (both_carried (round machine terms r (not (r == 0))) (rounds machine terms (r + 1) more) b m.0 c (round_carried r (not (r == 0)) b m.0 m.1)
        (rest m.0 m.2))

  pub last_carried : (hs : List ℕ) (b c : Board S) → last_turns machine terms hs b ≡ Some c → IsCarried (last_turns machine terms hs) b c
  last_carried [] b c is = subst (IsCarried (last_turns machine terms []) b) (same_Some _ _ is) (none_carried (last_turns machine terms []) b (λ x. refl))
  last_carried (h ∷ hs) b c is = by (λ m e. last_carried hs m c e) (whole_leg machine terms h b) refl is where
    by : ((m : Board S) → last_turns machine terms hs m ≡ Some c → IsCarried (last_turns machine terms hs) m c) → (n : ℕ) → whole_leg machine terms h b ≡ n
        → option_and_then (last_turns machine terms hs) (if n == 0 then Some b else turn machine terms h n b) ≡ Some c
        → IsCarried (last_turns machine terms (h ∷ hs)) b c
    by rest n leg is =
        let m = bound_to (last_turns machine terms hs) (if n == 0 then Some b else turn machine terms h n b) c is in
        carried_by (λ d. option_and_then (last_turns machine terms hs) (if n == 0 then Some d else turn machine terms h n d))
        (last_turns machine terms (h ∷ hs)) b c
        (λ x. ap (λ k. option_and_then (last_turns machine terms hs) (if k == 0 then Some (with_more x b) else turn machine terms h k (with_more x b))) leg)
        (both_carried (λ d. if n == 0 then Some d else turn machine terms h n d) (last_turns machine terms hs) b m.0 c (one m.0 (n == 0) m.1) (rest m.0 m.2))
      where
        one : (m : Board S) (p : Bool) → (if p then Some b else turn machine terms h n b) ≡ Some m
            → IsCarried (λ d. if p then Some d else turn machine terms h n d) b m
        one m true e = subst (IsCarried (λ d. Some d) b) (same_Some _ _ e) (none_carried (λ d. Some d) b (λ x. refl))
        one m false e = turn_carried machine terms h n b m e

  -- recordings
  pub list_recorded : (list : List (ℕ × ℕ)) (b : Board S) (r : RecordingEnd S) → recorded_by_list machine terms list b ≡ Some r
      → (c : Board S) × (r ≡ comes_to machine terms c)
      × WithMore (λ x. recorded_by_list machine terms list (with_more x b) ≡ Some (comes_to machine terms (with_more x c))) b c
  list_recorded list b r is =
      let d = mapped (comes_to machine terms) (option_and_then (closed_after machine terms) (listed machine terms list b)) r is in
      let m = bound_to (closed_after machine terms) (listed machine terms list b) d.0 d.1 in
      let one =
      both_carried (listed machine terms list) (closed_after machine terms) b m.0 d.0 (listed_carried list b m.0 m.1) (closed_carried m.0 d.0 m.2) in (
        d.0,
        sym d.2,
        with_map (Extends (λ e. option_and_then (closed_after machine terms) (listed machine terms list e)) b d.0)
            (λ x. recorded_by_list machine terms list (with_more x b) ≡ Some (comes_to machine terms (with_more x d.0))) b d.0
            (λ x e. ap (option_map (comes_to machine terms)) e) one.extended,
      )

  pub rounds_recorded : (b : Board S) (r : RecordingEnd S) → IsRecordedInRounds machine terms b r
      → (c : Board S) × (r ≡ comes_to machine terms c)
      × WithMore (λ x. IsRecordedInRounds machine terms (with_more x b) (comes_to machine terms (with_more x c))) b c
  rounds_recorded b r is =
      let one = rounds_carried 0 is.number b is.over is.are_made in
      let two = last_carried (harts is.over) is.over is.closed is.last in (
        is.closed,
        is.recorded,
        with_map (λ x. Extends (rounds machine terms 0 is.number) b is.over x × Extends (last_turns machine terms (harts is.over)) is.over is.closed x)
            (λ x. IsRecordedInRounds machine terms (with_more x b) (comes_to machine terms (with_more x is.closed))) b is.closed
            (λ x p. record {
              number = is.number;
              over = with_more x is.over;
              closed = with_more x is.closed;
              are_made = p.0;
              is_over = is.is_over;
              last = p.1;
              recorded = refl;
            })
            (with_both (Extends (rounds machine terms 0 is.number) b is.over) (Extends (last_turns machine terms (harts is.over)) is.over is.closed)
            (rounds machine terms 0 is.number) (last_turns machine terms (harts is.over)) b is.over is.closed one two one.extended two.extended),
      )
  -- a list behind another
