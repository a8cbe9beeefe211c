-- What a turn that closes a board by a full log or a fault leaves.
use Rattle.std.proofs.Common.{◌≡◌, ℕ, ◌<◌, ◌≤◌, ◌==◌, ◌||◌, max, Bool, true, false, List, [], ◌∷◌, ◌++◌, length, map}
use Rattle.std.proofs.Common.{Option, Some, None, is_some, unwrap_or, refl, sym, ap, ◌∙◌, arith, if◌then◌else◌}
use Rattle.std.proofs.lemmas.Bool.{or_parts, leb-false}
use Rattle.std.proofs.lemmas.Option.{none-some, same_Some}
use Rattle.rv_words.specs.declared.shared.Mode.{Mode}
use Rattle.rv_words.specs.declared.shared.Cause.{Cause}
use Rattle.rv_words.specs.declared.shared.Cause.TheVariants.{Full, Fault, Stop}
use Rattle.rv_words.specs.declared.shared.DeviceWord.{DeviceWord}
use Rattle.rv_words.specs.declared.shared.DeviceWord.TheVariants as words
use Rattle.rv_words.specs.declared.shared.Input.TheVariants.{Nothing}
use Rattle.rv_words.specs.declared.shared.TheConstants.{MAX_HARTS}
use Rattle.outside.specs.declared.console.Asked.{Asked}
use Rattle.device_board.specs.Recording.{recorded_input, uses_console}
use Rattle.log_entry.specs.declared.log.Entry.{Entry}
use Rattle.log_entry.specs.Parts.{is_touch}
use Rattle.log_entry.specs.Size.{size_of}
use Rattle.order_rules.specs.Rules.{waits_due}
use Rattle.replay_model.specs.State.{Replay, want}
use Rattle.turn_model.specs.Recordable.{Recordable}
use Rattle.turn_model.specs.Board.{Board, Order, Go, Hold, Rest, Supply, Terms, harts, log_of, wanted, closes, is_at_limit}
use Rattle.turn_model.specs.Claims.{holds_so, kept_by}
use Rattle.turn_model.specs.Ways.{Way, On, Ends, Nowhere, on, has_room, with_room, entered, log_size}
use Rattle.turn_model.specs.Ways as ways
use Rattle.turn_model.specs.Steps.{with_want, passes_favour, next_number, console_gives, clock_gives, clock_answers, rests_where_closed}
use Rattle.turn_model.specs.Steps.{rests_at_limit, is_due, poll_at, polls_with, polls, yield_of, yields_now, yields_for, yields_to, yields, gain_of}
use Rattle.turn_model.specs.Steps.{gains_unless, gains_page, gains, touch_of, behind_touch, touched, touches_at, touches_with, accesses, touches, goes_on}
use Rattle.turn_model.specs.Steps.{steps}
use Rattle.turn_model.specs.Faithful.{IsFaithful, AllBelow}
use Rattle.turn_model.proofs.Ways.{recording_of, by_one, sound_after}
use Rattle.turn_model.proofs.Steps.{Sound, To, Any, Polled, Below, Kept, Ahead, ahead_first, ahead_wants, ahead_on, lacks, rests_where_closed_to}
use Rattle.turn_model.proofs.Steps.{rests_at_limit_to, below_limit, polls_to, yields_to_to, yields_come, gains_page_to, gains_to, touches_to}
use Rattle.turn_model.proofs.Entries.{after_entry}
use Rattle.turn_laws.specs.EndLaws.{IsFull}
use Rattle.turn_laws.proofs.FewWaits.{IsFewAt, board_of, waits_few, few_all}
use Rattle.turn_laws.proofs.Waits.{waits_alike}

-- the console gives nothing only to what it is called for
console_fails : (word : DeviceWord) (store : Option ℕ) (o : Supply) → console_gives word store o ≡ None → uses_console word store ≡ true
console_fails words.Rx None o is = refl
console_fails words.Rx (Some v) o is = absurd (none-some _ (sym is))
console_fails words.Tx None o is = absurd (none-some _ (sym is))
console_fails words.Tx (Some v) o is = refl
console_fails word store o is = absurd (none-some _ (sym is))

module _ {S V : Type 0} (machine : Recordable S V) (terms : Terms) (many : ℕ) (Good : S → Type 0)
    (faithful : IsFaithful machine.flat many terms.pages Good) (lines : (s : S) (h time : ℕ) → machine.flat.lines_at s h time < 4)
    (most : many ≤ MAX_HARTS) where
  -- the next move of a hart uses the console, and needs no page more; stop isn't set
  pub record WaitsAt (g : ℕ) (s : Replay S) : Type 0 where
    pub running : machine.flat.is_stopped s.flat ≡ false
    pub none : want machine.flat s g ≡ None
    pub word : DeviceWord
    pub store : Option ℕ
    pub access : machine.access s.flat g ≡ Some (word, store)
    pub console : uses_console word store ≡ true

  abbrev pub Few : Board S → Type 0
  Few b = IsFewAt machine terms many terms.pages (recording_of b)

  abbrev pub During : Board S → Type 0
  During b = (b.closed ≡ None) × (machine.flat.is_stopped b.at.flat ≡ false)

  abbrev pub EndsSo : ℕ → Order → Board S → Type 0
  EndsSo h order b = (b.closed ≡ Some Full → IsFull terms (log_of machine terms b)) × (b.closed ≡ Some Fault → WaitsAt h b.at × (order ≡ Rest))

  abbrev pub Walks : ℕ → Way S → Type 0
  Walks h (On b) = During b
  Walks h (Ends order b) = EndsSo h order b
  Walks h Nowhere = Unit {0}

  -- by another cause, or by none
  ends_open : (h : ℕ) (order : Order) (b : Board S) → b.closed ≡ None → EndsSo h order b
  ends_open h order b none = (λ e. absurd (none-some _ (sym none ∙ e)), λ e. absurd (none-some _ (sym none ∙ e)))

  closed_by : (b : Board S) (cause other : Cause) → b.closed ≡ None → (closes cause b).closed ≡ Some other → cause ≡ other
  closed_by b cause other none e = same_Some _ _ (ap (λ o. Some (unwrap_or o cause)) (sym none) ∙ e)

  module _ (h : ℕ) (inside : h < many) where
    abbrev SoundB : Board S → Type 0
    SoundB b = Sound machine terms many terms.pages Good faithful h inside b

    abbrev ToB : (Board S → Type 0) → Board S → Way S → Type 0
    ToB P b way = To machine terms many terms.pages Good faithful h inside P b way

    abbrev AnyB : Board S → Type 0
    AnyB = Any machine terms many terms.pages Good faithful h inside

    abbrev PolledB : Board S → Type 0
    PolledB = Polled machine terms many terms.pages Good faithful h inside

    abbrev BelowB : Board S → Type 0
    BelowB = Below machine terms many terms.pages Good faithful h inside

    abbrev W : Way S → Type 0
    W way = Walks h way

    -- further steps behind a way
    further : (P : Board S → Type 0) (b : Board S) (steps : List (Board S → Way S)) (way : Way S) → SoundB b → Few b → ToB P b way → W way
        → ((c : Board S) → SoundB c → Few c → P c → During c → W (ways.goes steps (On c))) → W (ways.goes steps way)
    further P b steps (On c) sound few comes walks more =
        more c (sound_after machine.flat many terms.pages terms.limit Good faithful h b c sound comes.0)
        (few_all machine terms many terms.pages lines most (recording_of b) (recording_of c) (by_one h comes.0.items) comes.0.made.0 comes.0.made.1 few)
        comes.1 walks
    further P b [] (Ends order c) sound few comes walks more = walks
    further P b (step ∷ steps) (Ends order c) sound few comes walks more = walks
    further P b [] Nowhere sound few comes walks more = tt
    further P b (step ∷ steps) Nowhere sound few comes walks more = tt

    choice : (c : Bool) (x y : Way S) → (c ≡ true → W x) → (c ≡ false → W y) → W (if c then x else y)
    choice true x y f g = f refl
    choice false x y f g = g refl

    -- an entry of no more than the greatest, for which there is no room
    roomy : (e : Entry) (step : Board S → Way S) (b : Board S) → size_of e ≤ 80 → b.closed ≡ None → W (step b) → W (with_room machine terms e step b)
    roomy e step b small none walks = choice (has_room machine terms e b) (step b) (Ends Rest (closes Full b)) (λ _. walks) (λ full. (
      λ _. let z = leb-false _ _ full in omega (arith, z, small),
      λ shut. let bad = closed_by b Full Fault none shut in let no : ⊥ = cc in absurd no,
    ))

    once : (o : Option (Board S)) → ((d : Board S) → o ≡ Some d → During d) → W (on o)
    once None f = tt
    once (Some d) f = f d refl

    entry_walks : (e : Entry) (c d : Board S) → is_touch e ≡ false → Good c.at.flat → During c → entered machine terms h e c ≡ Some d → During d
    entry_walks e c d plain good during is =
        let x = after_entry machine terms many terms.pages Good faithful h e c d good is in (x.closed ∙ during.0, x.stopped plain ∙ during.1)

    closed_walks : (b : Board S) → b.closed ≡ None → W (rests_where_closed machine terms b)
    closed_walks b none =
        choice (is_some b.closed || machine.flat.is_stopped b.at.flat) (Ends Rest b) (On b) (λ _. ends_open h Rest b none)
        (λ f. (none, (or_parts (is_some b.closed) (machine.flat.is_stopped b.at.flat) f).1))

    limit_walks : (b : Board S) → During b → W (rests_at_limit machine terms h b)
    limit_walks b during = choice (is_at_limit machine terms b h) (Ends Rest b) (On b) (λ _. ends_open h Rest b during.0) (λ _. during)

    polls_walk : (b : Board S) → SoundB b → During b → W (polls machine terms h b)
    polls_walk b sound during =
        choice (is_due machine terms h b) _ (On b)
        (λ due. roomy (poll_at machine terms h b 0) (λ c. polls_with machine terms h c (clock_answers c.supply.times c.supply)) b (omega arith) during.0
        (timed (clock_answers b.supply.times b.supply)))
        (λ _. during)
      where
        timed : (o : Option (ℕ × Supply)) → W (polls_with machine terms h b o)
        timed None = tt
        timed (Some (time, left)) =
            let e = poll_at machine terms h b (max time (machine.flat.time b.at.flat)) in
            once (entered machine terms h e (record b { supply = left }))
            (λ d made. entry_walks e (record b { supply = left }) d refl sound.ordered.tidy.good during made)

    yields_for_walks : (g : ℕ) (o : Option (ℕ × Mode)) (b : Board S) → SoundB b → During b → W (yields_for machine terms h g o b)
    yields_for_walks g None b sound during = during
    yields_for_walks g (Some n) b sound during =
        choice (yields_now machine terms h g n b) _ (On b)
        (λ _. roomy (yield_of machine terms h n b) (λ c. on (entered machine terms h (yield_of machine terms h n c) c)) b (omega arith) during.0
        (once (entered machine terms h (yield_of machine terms h n b) b)
        (λ d made. entry_walks (yield_of machine terms h n b) b d refl sound.ordered.tidy.good during made)))
        (λ _. during)

    all_yields : (gs : List ℕ) (b : Board S) → SoundB b → Few b → PolledB b → During b → W (ways.goes (map (yields_to machine terms h) gs) (On b))
    all_yields [] b sound few polled during = during
    all_yields (g ∷ gs) b sound few polled during =
        further PolledB b (map (yields_to machine terms h) gs) (yields_to machine terms h g b) sound few
        (yields_to_to machine terms many terms.pages Good faithful h inside g b sound polled)
        (choice (g == h) (On b) (yields_for machine terms h g (wanted b g) b) (λ _. during) (λ _. yields_for_walks g (wanted b g) b sound during))
        (λ c s f p d. all_yields gs c s f p d)

    gain_small : (n : ℕ × Mode) (b : Board S) → Few b → n.0 < terms.pages → size_of (gain_of machine terms h n b) ≤ 80
    gain_small n b few l =
        let w = (waits_few machine terms many terms.pages (recording_of b) n.0 h (next_number b n.0) few l inside refl).0 in
        let same : waits_due (log_of machine terms b) n.0 h (next_number b n.0) ≡ waits_due (log_of machine terms (board_of (recording_of b))) n.0 h
        (next_number b n.0) =
        waits_alike (log_of machine terms b) (log_of machine terms (board_of (recording_of b))) n.0 h (next_number b n.0) (λ j less. refl) in
        let z = ap length same in omega (arith, w, z)

    gains_page_walks : (n : ℕ × Mode) (b : Board S) → SoundB b → Few b → n.0 < terms.pages → During b → W (gains_page machine terms h n b)
    gains_page_walks n b sound few l during = choice (holds_so b h n) (On b) _ (λ _. during) (λ _. unless (kept_by b h n)) where
      unless : (o : Option ℕ) → W (gains_unless machine terms o h n b)
      unless None =
          roomy (gain_of machine terms h n b) (λ c. on (entered machine terms h (gain_of machine terms h n c) c)) b (gain_small n b few l) during.0
          (once (entered machine terms h (gain_of machine terms h n b) b)
          (λ d made. entry_walks (gain_of machine terms h n b) b d refl sound.ordered.tidy.good during made))
      unless (Some g) = ends_open h (Hold n.0 g) (with_want h (Some n) b) during.0

    all_gains : (done ns : List (ℕ × Mode)) (b : Board S) → SoundB b → Few b → BelowB b → AllBelow terms.pages ns
        → Ahead machine terms many terms.pages Good faithful h inside b done ns → During b → W (ways.goes (map (gains_page machine terms h) ns) (On b))
    all_gains done [] b sound few low below ahead during = during
    all_gains done (n ∷ ns) b sound few low below ahead during =
        further (λ c. Kept machine terms many terms.pages Good faithful h inside b c × (lacks c.at.holders h n ≡ false) × BelowB c) b
        (map (gains_page machine terms h) ns) (gains_page machine terms h n b) sound few
        (gains_page_to machine terms many terms.pages Good faithful h inside n b sound low below.0
        (ahead_wants machine terms many terms.pages Good faithful h inside b done n ns ahead))
        (gains_page_walks n b sound few below.0 during)
        (λ c s f p d. all_gains (done ++ n ∷ []) ns c s f p.2 below.1
        (ahead_on machine terms many terms.pages Good faithful h inside b c done n ns ahead p.0 p.1) d)

    touches_walk : (b : Board S) → SoundB b → want machine.flat b.at h ≡ None → During b → W (touches machine terms h b)
    touches_walk b sound none during = access (machine.access b.at.flat h) refl where
      favoured : (d : Board S) (c : Bool) → During d → W (On (if c then passes_favour h d else d))
      favoured d true x = x
      favoured d false x = x

      behind : (d : Board S) → d.closed ≡ None → W (behind_touch machine terms h d)
      behind d unshut = choice (machine.flat.is_stopped d.at.flat) (Ends Rest (closes Stop d)) _
          (λ _. (
            λ shut. let bad = closed_by d Stop Full unshut shut in let no : ⊥ = cc in absurd no,
            λ shut. let bad = closed_by d Stop Fault unshut shut in let no : ⊥ = cc in absurd no,
          ))
          (λ running. favoured d (h == d.favoured) (unshut, running))

      made : (e : Entry) (c : Board S) → Good c.at.flat → c.closed ≡ None → (o : Option (Board S)) → entered machine terms h e c ≡ o
          → W (touched machine terms h o)
      made e c good unshut None is = tt
      made e c good unshut (Some d) is = behind d ((after_entry machine terms many terms.pages Good faithful h e c d good is).closed ∙ unshut)

      timed : (word : DeviceWord) (store : Option ℕ) (answer : Asked) (o : Option (ℕ × Supply)) → W (touches_at machine terms h word store answer b o)
      timed word store answer None = tt
      timed word store answer (Some (now, left)) =
          let e = touch_of machine terms h b (recorded_input word store (machine.flat.time b.at.flat) now answer) in
          made e (record b { supply = left }) sound.ordered.tidy.good during.0 (entered machine terms h e (record b { supply = left })) refl

      told : (word : DeviceWord) (store : Option ℕ) → machine.access b.at.flat h ≡ Some (word, store) → (o : Option (Asked × Supply))
          → console_gives word store b.supply ≡ o → W (touches_with machine terms h word store b o)
      told word store at None is = (
        λ shut. let bad = closed_by b Fault Full during.0 shut in let no : ⊥ = cc in absurd no,
        λ _. (
          record { running = during.1; none = none; word = word; store = store; access = at; console = console_fails word store b.supply is },
          refl,
        ),
      )
      told word store at (Some (answer, left)) is = timed word store answer (clock_gives word store left)

      access : (o : Option (DeviceWord × Option ℕ)) → machine.access b.at.flat h ≡ o → W (accesses machine terms h o b)
      access None at = during
      access (Some (word, store)) at =
          roomy (touch_of machine terms h b Nothing) (λ c. touches_with machine terms h word store c (console_gives word store c.supply)) b (omega arith)
          during.0 (told word store at (console_gives word store b.supply) refl)

    pub steps_walk : (b : Board S) → SoundB b → Few b → b.closed ≡ None → W (ways.goes (steps machine terms h) (On b))
    steps_walk b sound few unshut =
        further AnyB b
        (polls machine terms h ∷ yields machine terms h ∷ rests_at_limit machine terms h ∷ gains machine terms h ∷ touches machine terms h
        ∷ rests_at_limit machine terms h ∷ goes_on machine terms h ∷ []) (rests_where_closed machine terms b) sound few
        (rests_where_closed_to machine terms many terms.pages Good faithful h inside b) (closed_walks b unshut) (λ b₁ s₁ f₁ _ d₁.
        further PolledB b₁
        (yields machine terms h ∷ rests_at_limit machine terms h ∷ gains machine terms h ∷ touches machine terms h ∷ rests_at_limit machine terms h
        ∷ goes_on machine terms h ∷ []) (polls machine terms h b₁) s₁ f₁
        (polls_to machine terms many terms.pages Good faithful h inside b₁ s₁) (polls_walk b₁ s₁ d₁) (λ b₂ s₂ f₂ p₂ d₂.
        further PolledB b₂
        (rests_at_limit machine terms h ∷ gains machine terms h ∷ touches machine terms h ∷ rests_at_limit machine terms h ∷ goes_on machine terms h ∷ [])
        (yields machine terms h b₂) s₂ f₂
        (yields_come machine terms many terms.pages Good faithful h inside b₂ s₂ p₂) (all_yields (harts b₂) b₂ s₂ f₂ p₂ d₂) (λ b₃ s₃ f₃ p₃ d₃.
        further BelowB b₃
        (gains machine terms h ∷ touches machine terms h ∷ rests_at_limit machine terms h ∷ goes_on machine terms h ∷ [])
        (rests_at_limit machine terms h b₃) s₃ f₃
        (rests_at_limit_to machine terms many terms.pages Good faithful h inside BelowB b₃
        (below_limit machine terms many terms.pages Good faithful h inside b₃ s₃ p₃)) (limit_walks b₃ d₃) (λ b₄ s₄ f₄ p₄ d₄.
        further (λ c. (want machine.flat c.at h ≡ None) × BelowB c) b₄
        (touches machine terms h ∷ rests_at_limit machine terms h ∷ goes_on machine terms h ∷ []) (gains machine terms h b₄) s₄ f₄
        (gains_to machine terms many terms.pages Good faithful h inside b₄ s₄ p₄)
        (all_gains [] (machine.flat.need b₄.at.flat h) b₄ s₄ f₄ p₄ (faithful.inside b₄.at.flat h s₄.ordered.tidy.good)
        (ahead_first machine terms many terms.pages Good faithful h inside b₄) d₄) (λ b₅ s₅ f₅ p₅ d₅.
        further AnyB b₅ (rests_at_limit machine terms h ∷ goes_on machine terms h ∷ []) (touches machine terms h b₅) s₅ f₅
        (touches_to machine terms many terms.pages Good faithful h inside b₅ s₅ p₅) (touches_walk b₅ s₅ p₅.0 d₅) (λ b₆ s₆ f₆ _ d₆.
        further AnyB b₆ (goes_on machine terms h ∷ []) (rests_at_limit machine terms h b₆) s₆ f₆
        (rests_at_limit_to machine terms many terms.pages Good faithful h inside AnyB b₆ (λ _. tt)) (limit_walks b₆ d₆)
        (λ b₇ s₇ f₇ _ d₇. ends_open h (Go _) b₇ d₇.0)))))))
