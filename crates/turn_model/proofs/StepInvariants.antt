-- What each step of a turn keeps, the whole turn keeps.
use Rattle.std.proofs.Common.{◌≡◌, ◌≢◌, ℕ, ◌<◌, ◌==◌, ◌||◌, Bool, true, false, List, [], ◌∷◌, ◌++◌, map, max, Option, Some, None, is_some, refl, sym, ◌∙◌}
use Rattle.std.proofs.Common.{if◌then◌else◌, true≢false}
use Rattle.std.proofs.lemmas.Bool.{eq-eqb, leb-false, lt-ltb, or_parts}
use Rattle.shared_types.proofs.Lists.{is_nothing}
use Rattle.rv_words.specs.declared.shared.Mode.{Mode}
use Rattle.rv_words.specs.declared.shared.Input.TheVariants.{Nothing}
use Rattle.rv_words.specs.declared.shared.Cause.TheVariants as causes
use Rattle.rv_words.specs.declared.shared.DeviceWord.{DeviceWord}
use Rattle.log_entry.specs.declared.log.Entry.{Entry}
use Rattle.outside.specs.declared.console.Asked.{Asked}
use Rattle.device_board.specs.Recording.{recorded_input}
use Rattle.log_entry.specs.Parts.{strength}
use Rattle.order_rules.specs.Holders.{held}
use Rattle.replay_model.specs.State.{want}
use Rattle.turn_model.specs.Recordable.{Recordable}
use Rattle.turn_model.specs.Board.{Board, Order, Go, Hold, Rest, Supply, Terms, harts, wanted, closes}
use Rattle.turn_model.specs.Claims.{holds_so, kept_by}
use Rattle.turn_model.specs.Ways.{Way, On, Ends, Nowhere, goes, on, has_room, with_room, entered}
use Rattle.turn_model.specs.Steps.{with_want, passes_favour, console_gives, clock_gives, clock_answers, steps, rests_where_closed, rests_at_limit, is_due}
use Rattle.turn_model.specs.Steps.{poll_at, polls_with, polls, yield_of, yields_now, yields_for, yields_to, yields, gain_of, gains_unless, gains_page, gains}
use Rattle.turn_model.specs.Steps.{touch_of, behind_touch, touched, touches_at, touches_with, accesses, touches, goes_on}
use Rattle.turn_model.specs.Faithful.{IsFaithful, AllBelow}
use Rattle.turn_model.proofs.Ways.{sound_after}
use Rattle.turn_model.proofs.Steps.{Sound, To, Any, Polled, Below, Kept, Ahead, ahead_first, ahead_wants, ahead_on, lacks, due_is, rests_where_closed_to}
use Rattle.turn_model.proofs.Steps.{rests_at_limit_to, below_limit, polls_to, yields_to_to, yields_come, gains_page_to, gains_to, touches_to}

-- while a turn goes on this holds, and where it ended that
abbrev pub Walks : {S : Type 0} → (Board S → Type 0) → (Order → Board S → Type 0) → Way S → Type 0
Walks During After (On b) = During b
Walks During After (Ends order b) = After order b
Walks During After Nowhere = Unit {0}

differ : (g h : ℕ) → (g == h) ≡ false → g ≢ h
differ g h f e = true≢false (sym (eq-eqb g h e) ∙ f)

module _ {S V : Type 0} (machine : Recordable S V) (terms : Terms) (many pages : ℕ) (Good : S → Type 0) (faithful : IsFaithful machine.flat many pages Good)
    (h : ℕ) (inside : h < many) where
  abbrev SoundB : Board S → Type 0
  SoundB b = Sound machine terms many pages Good faithful h inside b

  abbrev ToB : (Board S → Type 0) → Board S → Way S → Type 0
  ToB P b way = To machine terms many pages Good faithful h inside P b way

  abbrev AnyB : Board S → Type 0
  AnyB = Any machine terms many pages Good faithful h inside

  abbrev PolledB : Board S → Type 0
  PolledB = Polled machine terms many pages Good faithful h inside

  abbrev BelowB : Board S → Type 0
  BelowB = Below machine terms many pages Good faithful h inside

  abbrev pub HasLeft : Board S → Type 0
  HasLeft b = machine.flat.count b.at.flat h < terms.limit

  -- what the steps of a turn keep: before them, while the turn goes on, and where it ends
  pub record Preserves (Before During : Board S → Type 0) (After : Order → Board S → Type 0) : Type 0 where
    pub stays : (b : Board S) → Before b → After Rest b
    pub opens : (b : Board S) → Before b → b.closed ≡ None → machine.flat.is_stopped b.at.flat ≡ false → During b
    pub rests : (b : Board S) → During b → After Rest b
    pub goes : (b : Board S) (until : ℕ) → During b → After (Go until) b
    pub holds : (b : Board S) (n : ℕ × Mode) (g : ℕ) → HasLeft b → want machine.flat b.at h ≡ Some n → During b → After (Hold n.0 g) (with_want h (Some n) b)
    pub fills : (b : Board S) → HasLeft b → During b → After Rest (closes causes.Full b)
    pub fills_for : (b : Board S) (g : ℕ) (n : ℕ × Mode) → g ≢ h → wanted b g ≡ Some n → During b → After Rest (closes causes.Full b)
    pub fails : (b : Board S) → HasLeft b → During b → After Rest (closes causes.Fault b)
    pub favours : (b : Board S) → During b → During (passes_favour h b)
    pub polls : (b d : Board S) (time : ℕ) (left : Supply) → SoundB b → During b → has_room machine terms (poll_at machine terms h b 0) b ≡ true
        → clock_answers b.supply.times b.supply ≡ Some (time, left)
        → entered machine terms h (poll_at machine terms h b (max time (machine.flat.time b.at.flat))) (record b { supply = left }) ≡ Some d → During d
    pub yields : (b d : Board S) (n : ℕ × Mode) → SoundB b → During b → has_room machine terms (yield_of machine terms h n b) b ≡ true
        → entered machine terms h (yield_of machine terms h n b) b ≡ Some d → During d
    pub gains : (b d : Board S) (n : ℕ × Mode) → SoundB b → During b → has_room machine terms (gain_of machine terms h n b) b ≡ true
        → entered machine terms h (gain_of machine terms h n b) b ≡ Some d → During d
    pub touches : (b d : Board S) (word : DeviceWord) (store : Option ℕ) (answer : Asked) (now : ℕ) (left rest : Supply) → SoundB b → During b
        → machine.access b.at.flat h ≡ Some (word, store)
        → has_room machine terms (touch_of machine terms h b Nothing) b ≡ true → console_gives word store b.supply ≡ Some (answer, left)
        → clock_gives word store left ≡ Some (now, rest)
        → entered machine terms h (touch_of machine terms h b (recorded_input word store (machine.flat.time b.at.flat) now answer))
        (record b { supply = rest }) ≡ Some d
        → (machine.flat.is_stopped d.at.flat ≡ true → After Rest (closes causes.Stop d)) × (machine.flat.is_stopped d.at.flat ≡ false → During d)

  -- further steps behind a way
  further : (P D E : Board S → Type 0) (After : Order → Board S → Type 0) (b : Board S) (steps : List (Board S → Way S)) (way : Way S) → SoundB b
      → ToB P b way → Walks D After way
      → ((c : Board S) → SoundB c → P c → D c → Walks E After (goes steps (On c))) → Walks E After (goes steps way)
  further P D E After b steps (On c) sound comes walks more =
      more c (sound_after machine.flat many pages terms.limit Good faithful h b c sound comes.0) comes.1 walks
  further P D E After b [] (Ends order c) sound comes walks more = walks
  further P D E After b (step ∷ steps) (Ends order c) sound comes walks more = walks
  further P D E After b [] Nowhere sound comes walks more = tt
  further P D E After b (step ∷ steps) Nowhere sound comes walks more = tt

  module _ (Before During : Board S → Type 0) (After : Order → Board S → Type 0) (keeps : Preserves Before During After) where
    abbrev W : Way S → Type 0
    W way = Walks During After way

    choice : (c : Bool) (x y : Way S) → (c ≡ true → W x) → (c ≡ false → W y) → W (if c then x else y)
    choice true x y f g = f refl
    choice false x y f g = g refl

    roomy : (e : Entry) (step : Board S → Way S) (b : Board S) → (has_room machine terms e b ≡ true → W (step b)) → After Rest (closes causes.Full b)
        → W (with_room machine terms e step b)
    roomy e step b fits full = choice (has_room machine terms e b) (step b) (Ends Rest (closes causes.Full b)) fits (λ _. full)

    once : (o : Option (Board S)) → ((d : Board S) → o ≡ Some d → During d) → W (on o)
    once None f = tt
    once (Some d) f = f d refl

    closed_walks : (b : Board S) → Before b → W (rests_where_closed machine terms b)
    closed_walks b before =
        choice (is_some b.closed || machine.flat.is_stopped b.at.flat) (Ends Rest b) (On b) (λ _. keeps.stays b before)
        (λ f. let both = or_parts (is_some b.closed) (machine.flat.is_stopped b.at.flat) f in keeps.opens b before (is_nothing b.closed both.0) both.1)

    limit_walks : (b : Board S) → During b → W (rests_at_limit machine terms h b)
    limit_walks b during = choice _ (Ends Rest b) (On b) (λ _. keeps.rests b during) (λ _. during)

    polls_with_walks : (b : Board S) (o : Option (ℕ × Supply)) → SoundB b → During b → has_room machine terms (poll_at machine terms h b 0) b ≡ true
        → clock_answers b.supply.times b.supply ≡ o → W (polls_with machine terms h b o)
    polls_with_walks b None sound during room is = tt
    polls_with_walks b (Some (time, left)) sound during room is = once _ (λ d made. keeps.polls b d time left sound during room is made)

    polls_walk : (b : Board S) → SoundB b → During b → W (polls machine terms h b)
    polls_walk b sound during =
        choice (is_due machine terms h b) _ (On b)
        (λ due. roomy (poll_at machine terms h b 0) (λ c. polls_with machine terms h c (clock_answers c.supply.times c.supply)) b
        (λ room. polls_with_walks b (clock_answers b.supply.times b.supply) sound during room refl)
        (keeps.fills b (due_is machine terms many pages Good faithful h inside b due).0 during))
        (λ _. during)

    yields_for_walks : (g : ℕ) (b : Board S) (o : Option (ℕ × Mode)) → g ≢ h → wanted b g ≡ o → SoundB b → During b → W (yields_for machine terms h g o b)
    yields_for_walks g b None other is sound during = during
    yields_for_walks g b (Some n) other is sound during =
        choice (yields_now machine terms h g n b) _ (On b)
        (λ _. roomy (yield_of machine terms h n b) (λ c. on (entered machine terms h (yield_of machine terms h n c) c)) b
        (λ room. once (entered machine terms h (yield_of machine terms h n b) b) (λ d made. keeps.yields b d n sound during room made))
        (keeps.fills_for b g n other is during))
        (λ _. during)

    yields_to_walks : (g : ℕ) (b : Board S) → SoundB b → During b → W (yields_to machine terms h g b)
    yields_to_walks g b sound during =
        choice (g == h) (On b) (yields_for machine terms h g (wanted b g) b) (λ _. during)
        (λ f. yields_for_walks g b (wanted b g) (differ g h f) refl sound during)

    all_yields : (gs : List ℕ) (b : Board S) → SoundB b → PolledB b → During b → W (goes (map (yields_to machine terms h) gs) (On b))
    all_yields [] b sound polled during = during
    all_yields (g ∷ gs) b sound polled during =
        further PolledB During During After b (map (yields_to machine terms h) gs) (yields_to machine terms h g b) sound
        (yields_to_to machine terms many pages Good faithful h inside g b sound polled) (yields_to_walks g b sound during) (λ c s p d. all_yields gs c s p d)

    gains_unless_walks : (o : Option ℕ) (n : ℕ × Mode) (b : Board S) → SoundB b → HasLeft b → want machine.flat b.at h ≡ Some n → During b
        → W (gains_unless machine terms o h n b)
    gains_unless_walks None n b sound low wants during =
        roomy (gain_of machine terms h n b) (λ c. on (entered machine terms h (gain_of machine terms h n c) c)) b
        (λ room. once (entered machine terms h (gain_of machine terms h n b) b) (λ d made. keeps.gains b d n sound during room made)) (keeps.fills b low during)
    gains_unless_walks (Some g) n b sound low wants during = keeps.holds b n g low wants during

    gains_page_walks : (n : ℕ × Mode) (b : Board S) → SoundB b → HasLeft b → (lacks b.at.holders h n ≡ true → want machine.flat b.at h ≡ Some n) → During b
        → W (gains_page machine terms h n b)
    gains_page_walks n b sound low wants during =
        choice (holds_so b h n) (On b) (gains_unless machine terms (kept_by b h n) h n b) (λ _. during)
        (λ f. gains_unless_walks (kept_by b h n) n b sound low
        (wants (lt-ltb _ _ (leb-false (strength (Some n.1)) (strength (held b.at.holders n.0 h)) f))) during)

    all_gains : (done ns : List (ℕ × Mode)) (b : Board S) → SoundB b → BelowB b → AllBelow pages ns
        → Ahead machine terms many pages Good faithful h inside b done ns → During b → W (goes (map (gains_page machine terms h) ns) (On b))
    all_gains done [] b sound low below ahead during = during
    all_gains done (n ∷ ns) b sound low below ahead during =
        further (λ c. Kept machine terms many pages Good faithful h inside b c × (lacks c.at.holders h n ≡ false) × BelowB c) During During After b
        (map (gains_page machine terms h) ns) (gains_page machine terms h n b) sound
        (gains_page_to machine terms many pages Good faithful h inside n b sound low below.0
        (ahead_wants machine terms many pages Good faithful h inside b done n ns ahead))
        (gains_page_walks n b sound low.0 (ahead_wants machine terms many pages Good faithful h inside b done n ns ahead) during)
        (λ c s p d. all_gains (done ++ n ∷ []) ns c s p.2 below.1 (ahead_on machine terms many pages Good faithful h inside b c done n ns ahead p.0 p.1) d)

    behind_walks : (d : Board S) → (machine.flat.is_stopped d.at.flat ≡ true → After Rest (closes causes.Stop d))
        × (machine.flat.is_stopped d.at.flat ≡ false → During d) → W (behind_touch machine terms h d)
    behind_walks d both = choice (machine.flat.is_stopped d.at.flat) (Ends Rest (closes causes.Stop d)) _ both.0
        (λ f. favoured (h == d.favoured) (both.1 f)) where
          favoured : (c : Bool) → During d → W (On (if c then passes_favour h d else d))
          favoured true during = keeps.favours d during
          favoured false during = during

    touched_walks : (o : Option (Board S))
        → ((d : Board S) → o ≡ Some d → (machine.flat.is_stopped d.at.flat ≡ true → After Rest (closes causes.Stop d))
        × (machine.flat.is_stopped d.at.flat ≡ false → During d)) → W (touched machine terms h o)
    touched_walks None f = tt
    touched_walks (Some d) f = behind_walks d (f d refl)

    touches_at_walks : (word : DeviceWord) (store : Option ℕ) (answer : Asked) (left : Supply) (b : Board S) (o : Option (ℕ × Supply)) → SoundB b → During b
        → machine.access b.at.flat h ≡ Some (word, store)
        → has_room machine terms (touch_of machine terms h b Nothing) b ≡ true → console_gives word store b.supply ≡ Some (answer, left)
        → clock_gives word store left ≡ o → W (touches_at machine terms h word store answer b o)
    touches_at_walks word store answer left b None sound during access room said is = tt
    touches_at_walks word store answer left b (Some (now, rest)) sound during access room said is =
        touched_walks _ (λ d made. keeps.touches b d word store answer now left rest sound during access room said is made)

    touches_with_walks : (word : DeviceWord) (store : Option ℕ) (b : Board S) (o : Option (Asked × Supply)) → SoundB b → HasLeft b → During b
        → machine.access b.at.flat h ≡ Some (word, store)
        → has_room machine terms (touch_of machine terms h b Nothing) b ≡ true → console_gives word store b.supply ≡ o
        → W (touches_with machine terms h word store b o)
    touches_with_walks word store b None sound low during access room is = keeps.fails b low during
    touches_with_walks word store b (Some (answer, left)) sound low during access room is =
        touches_at_walks word store answer left b (clock_gives word store left) sound during access room is refl

    accesses_walk : (b : Board S) (o : Option (DeviceWord × Option ℕ)) → SoundB b → HasLeft b → During b → machine.access b.at.flat h ≡ o
        → W (accesses machine terms h o b)
    accesses_walk b None sound low during is = during
    accesses_walk b (Some (word, store)) sound low during is =
        roomy (touch_of machine terms h b Nothing) (λ c. touches_with machine terms h word store c (console_gives word store c.supply)) b
        (λ room. touches_with_walks word store b (console_gives word store b.supply) sound low during is room refl) (keeps.fills b low during)

    pub steps_walk : (b : Board S) → SoundB b → Before b → W (goes (steps machine terms h) (On b))
    steps_walk b sound before =
        further AnyB During During After b
        (polls machine terms h ∷ yields machine terms h ∷ rests_at_limit machine terms h ∷ gains machine terms h ∷ touches machine terms h
        ∷ rests_at_limit machine terms h ∷ goes_on machine terms h ∷ []) (rests_where_closed machine terms b) sound
        (rests_where_closed_to machine terms many pages Good faithful h inside b) (closed_walks b before) (λ b₁ s₁ _ d₁.
        further PolledB During During After b₁
        (yields machine terms h ∷ rests_at_limit machine terms h ∷ gains machine terms h ∷ touches machine terms h ∷ rests_at_limit machine terms h
        ∷ goes_on machine terms h ∷ []) (polls machine terms h b₁) s₁
        (polls_to machine terms many pages Good faithful h inside b₁ s₁) (polls_walk b₁ s₁ d₁) (λ b₂ s₂ p₂ d₂.
        further PolledB During During After b₂
        (rests_at_limit machine terms h ∷ gains machine terms h ∷ touches machine terms h ∷ rests_at_limit machine terms h ∷ goes_on machine terms h ∷ [])
        (yields machine terms h b₂) s₂
        (yields_come machine terms many pages Good faithful h inside b₂ s₂ p₂) (all_yields (harts b₂) b₂ s₂ p₂ d₂) (λ b₃ s₃ p₃ d₃.
        further BelowB During During After b₃
        (gains machine terms h ∷ touches machine terms h ∷ rests_at_limit machine terms h ∷ goes_on machine terms h ∷ [])
        (rests_at_limit machine terms h b₃) s₃
        (rests_at_limit_to machine terms many pages Good faithful h inside BelowB b₃ (below_limit machine terms many pages Good faithful h inside b₃ s₃ p₃))
        (limit_walks b₃ d₃) (λ b₄ s₄ p₄ d₄.
        further (λ c. (want machine.flat c.at h ≡ None) × BelowB c) During During After b₄
        (touches machine terms h ∷ rests_at_limit machine terms h ∷ goes_on machine terms h ∷ []) (gains machine terms h b₄) s₄
        (gains_to machine terms many pages Good faithful h inside b₄ s₄ p₄)
        (all_gains [] (machine.flat.need b₄.at.flat h) b₄ s₄ p₄ (faithful.inside b₄.at.flat h s₄.ordered.tidy.good)
        (ahead_first machine terms many pages Good faithful h inside b₄) d₄) (λ b₅ s₅ p₅ d₅.
        further AnyB During During After b₅ (rests_at_limit machine terms h ∷ goes_on machine terms h ∷ []) (touches machine terms h b₅) s₅
        (touches_to machine terms many pages Good faithful h inside b₅ s₅ p₅) (accesses_walk b₅ (machine.access b₅.at.flat h) s₅ p₅.1.0 d₅ refl) (λ b₆ s₆ _ d₆.
        further AnyB During During After b₆ (goes_on machine terms h ∷ []) (rests_at_limit machine terms h b₆) s₆
        (rests_at_limit_to machine terms many pages Good faithful h inside AnyB b₆ (λ _. tt)) (limit_walks b₆ d₆) (λ b₇ s₇ _ d₇. keeps.goes b₇ _ d₇)))))))
