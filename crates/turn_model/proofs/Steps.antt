-- What each step of a turn makes.
use Rattle.std.proofs.Common.{◌≡◌, ◌≢◌, ◌⊎◌, ℕ, zero, suc, ◌+◌, ◌*◌, ◌/◌, ◌%◌, ◌<◌, ◌≤◌, ◌==◌, ◌&&◌, Bool, true, false, not, cond, List, [], ◌∷◌, ◌++◌, length}
use Rattle.std.proofs.Common.{map, flat_map, find, max, min, Option, Some, None, slice_get, slice_set, nat_lt, nat_le, is_some, unwrap_or, refl, sym, ap, ap₂}
use Rattle.std.proofs.Common.{◌∙◌, subst, inl, inr, arith, if◌then◌else◌, append_assoc, true≢false}
use Rattle.std.specs.Option.{option_map}
use Rattle.std.proofs.lemmas.Option.{none-some, same_Some, slice_get-get_or, slice_get_past}
use Rattle.std.proofs.lemmas.Bool.{eq-eqb, ne_eqb, le-ltb, leb-false, lt-ltb, ltb-false}
use Rattle.std.proofs.lemmas.Bool.Decides.{eqb_tells, leb_tells}
use Rattle.std.proofs.lemmas.List.{length_push}
use Rattle.rv_words.specs.declared.shared.Mode.{Mode}
use Rattle.rv_words.specs.declared.shared.Input.{Input}
use Rattle.rv_words.specs.declared.shared.Input.TheVariants.{Nothing}
use Rattle.rv_words.specs.declared.shared.DeviceWord.{DeviceWord}
use Rattle.outside.specs.declared.console.Asked.{Asked}
use Rattle.device_board.specs.Recording.{recorded_input}
use Rattle.log_entry.specs.declared.log.Entry.{Entry}
use Rattle.log_entry.specs.declared.log.Entry.TheVariants as entries
use Rattle.log_entry.specs.Parts.{count_of, is_end, is_poll, is_touch, strength, conflict}
use Rattle.order_rules.specs.Places.{is_number, number_on}
use Rattle.order_rules.specs.Cursor.{guard_is_met}
use Rattle.flat_machine.specs.declared.act.Act.{Act}
use Rattle.flat_machine.specs.declared.act.Act.TheVariants.{Touch, Poll}
use Rattle.std.specs.List.{enumerate_from}
use Rattle.std.specs.Option.{option_or}
use Rattle.std.proofs.Math.Nat.{sub-add-min_cancel}
use Rattle.std.proofs.lemmas.List.Folds.{find-append}
use Rattle.orders_law.proofs.Below.{none_below}
use Rattle.shared_types.proofs.Lists.{last_passes, mapped, one_passes, set_there, neither_there}
use Rattle.rv_words.specs.declared.shared.Mode.TheVariants.{Read, Write}
use Rattle.log_entry.specs.declared.log.Log.{Log}
use Rattle.orders_law.specs.Orders.{below}
use Rattle.order_rules.specs.Rules.{has_poll, waits_due, waits_after}
use Rattle.replay_model.specs.Journal.{left_for, IsWantedGain}
use Rattle.crew_recording.specs.Recording.{IsRecorded}
use Rattle.crew_recording.specs.Allowed.{IsPolled, Allowed, log_so_far}
use Rattle.crew_recording.proofs.OrderedRecordings.{made_entry}
use Rattle.order_rules.specs.Holders.{Holders, row, held, with_held}
use Rattle.replay_model.specs.State.{Replay, want}
use Rattle.replay_model.specs.Items.{Makes, Holds, CanGo, judged, broken_rule, verdict_on, made, acted, past}
use Rattle.order_rules.proofs.Follow.{held_here, held_elsewhere}
use Rattle.crew_recording.proofs.Streams.{stream_here}
use Rattle.turn_model.specs.Recordable.{Recordable}
use Rattle.turn_model.specs.Board.{Board, Rest, Supply, Terms, harts, stream, wanted, closes, is_at_limit, log_of}
use Rattle.turn_model.specs.Claims.{holds_so, clash, rival, kept_by}
use Rattle.turn_model.specs.Ways.{Way, On, Ends, Nowhere, goes, on, has_room, with_room, entered}
use Rattle.turn_model.specs.Steps.{with_want, next_number, console_gives, clock_gives, clock_answers, rests_where_closed, rests_at_limit, is_due, poll_at}
use Rattle.turn_model.specs.Steps.{polls_with, polls, yield_of, yields_now, yields_for, yields_to, yields, gain_of, gains_unless, gains_page, gains, touch_of}
use Rattle.turn_model.specs.Steps.{behind_touch, touched, touches_at, touches_with, accesses, touches, next_poll, goes_on, passes_favour}
use Rattle.turn_model.specs.Faithful.{IsFaithful, AllBelow}
use Rattle.turn_model.proofs.Ways.{recording_of, IsSoundBoard, Went, Comes, IsMeant, aside, both, shifts, further}

-- a page that is held is there
held_is_there : (holders : Holders) (page h : ℕ) (mode : Mode) → conflict (held holders page h) (Some mode) ≡ true → page < length holders
held_is_there holders page h mode e = elim (leb_tells (length holders) page) [
  | inr (f, l) ↦ omega (arith, l)
  | inl (t, l) ↦ absurd (true≢false (sym e ∙ ap (λ o. conflict (unwrap_or (slice_get (unwrap_or o []) h) None) (Some mode)) (slice_get_past holders page l)))
]

-- a hart lacks a page in a mode
abbrev pub lacks : Holders → ℕ → ℕ × Mode → Bool
lacks holders h n = nat_lt (strength (held holders n.0 h)) (strength (Some n.1))

so_not_lacking : (a b : ℕ) → nat_le b a ≡ true → nat_lt a b ≡ false
so_not_lacking a b e = elim (leb_tells (suc a) b) [
  | inr (f, l) ↦ f
  | inl (t, l) ↦ elim (leb_tells b a) [ inl (u, m) ↦ absurd (omega (arith, l, m)) | inr (u, m) ↦ absurd (true≢false (sym e ∙ u)) ]
]

-- a hart that holds is in the row
holder_is_there : (r : List (Option Mode)) (h : ℕ) (mode : Mode) → conflict (unwrap_or (slice_get r h) None) (Some mode) ≡ true → h < length r
holder_is_there r h mode e = elim (leb_tells (length r) h) [
  | inr (f, l) ↦ omega (arith, l)
  | inl (t, l) ↦ absurd (true≢false (sym e ∙ ap (λ o. conflict (unwrap_or o None) (Some mode)) (slice_get_past r h l)))
]

-- waits are read off the streams alone
waits_of_streams : (one other : Log) (page h k : ℕ) → one.streams ≡ other.streams → waits_due one page h k ≡ waits_due other page h k
waits_of_streams one other page h zero e = refl
waits_of_streams one other page h (suc k) e =
    ap₂ (waits_after h) (waits_of_streams one other page h k e)
    (ap (λ (streams : List (List Entry)). find (λ (x : ℕ × Entry). is_number k (number_on page x.1))
    (flat_map (λ (s : ℕ × List Entry). map (λ e. (s.0, e)) s.1) (enumerate_from 0 streams))) e)

module _ {S V : Type 0} (machine : Recordable S V) (terms : Terms) (many pages : ℕ) (Good : S → Type 0) (faithful : IsFaithful machine.flat many pages Good)
    (h : ℕ) (inside : h < many) where
  abbrev pub Sound : Board S → Type 0
  Sound b = IsSoundBoard machine.flat many pages terms.limit Good faithful b

  abbrev pub Leads : Board S → Board S → Type 0
  Leads b c = Went machine.flat many pages terms.limit Good faithful h b c

  abbrev pub To : (Board S → Type 0) → Board S → Way S → Type 0
  To P b way = Comes machine.flat many pages terms.limit Good faithful h P b way

  abbrev pub Any : Board S → Type 0
  Any c = Unit {0}

  same : (b : Board S) → Leads b b
  same b = aside machine.flat many pages terms.limit Good faithful h b b refl refl refl (λ g n. refl)

  choice : (P : Board S → Type 0) (b : Board S) (c : Bool) (x y : Way S) → (c ≡ true → To P b x) → (c ≡ false → To P b y) → To P b (if c then x else y)
  choice P b true x y f g = f refl
  choice P b false x y f g = g refl

  roomy : (P : Board S → Type 0) (b : Board S) (e : Entry) (step : Board S → Way S) → To P b (step b) → To P b (with_room machine terms e step b)
  roomy P b e step comes = choice P b (has_room machine terms e b) (step b) (Ends Rest (closes _ b)) (λ _. comes)
      (λ _. (aside machine.flat many pages terms.limit Good faithful h b (closes _ b) refl refl refl (λ g n. refl), tt))

  once : (P : Board S → Type 0) (b : Board S) (o : Option (Board S)) → ((d : Board S) → o ≡ Some d → Leads b d × P d) → To P b (on o)
  once P b None f = tt
  once P b (Some d) f = f d refl

  pub weaker : (P Q : Board S → Type 0) (b : Board S) (way : Way S) → ((c : Board S) → P c → Q c) → To P b way → To Q b way
  weaker P Q b (On c) f comes = (comes.0, f c comes.1)
  weaker P Q b (Ends order c) f comes = comes
  weaker P Q b Nowhere f comes = tt

  -- an entry that is made at the hart's count, where it can go and is allowed
  pub record EntryMade (b d : Board S) (e : Entry) : Type 0 where
    pub went : Leads b d
    pub state : Replay S
    pub made : made machine.flat b.at h (Makes e) ≡ Some state
    pub at : d.at ≡ state
    pub own : machine.flat.count d.at.flat h ≡ (if is_touch e then machine.flat.count b.at.flat h + 1 else machine.flat.count b.at.flat h)
    pub stream : stream d h ≡ stream b h ++ e ∷ []

  entry_made : (b d : Board S) (e : Entry) → Sound b → count_of e ≡ machine.flat.count b.at.flat h → is_end e ≡ false
      → ((t : Replay S) → made machine.flat b.at h (Makes e) ≡ Some t → verdict_on machine.flat b.at h (Makes e) ≡ CanGo)
      → Allowed machine.flat pages terms.limit (recording_of b) h (Makes e) → IsWantedGain machine.flat b.at h (Makes e) → IsMeant (wanted b) h (Makes e)
      → entered machine terms h e b ≡ Some d → EntryMade b d e
  entry_made b d e sound stands no_end can allowed wanted_so meant is =
      let grown = slice_set b.streams h (stream b h ++ e ∷ []) in
      let a = mapped (λ (s : Replay S). record b { at = s; streams = grown }) (made machine.flat b.at h (Makes e)) d is in
      let l : h < length b.streams = (let z = sound.ordered.tidy.streams in omega (arith, z, inside)) in
      let c = record b { at = a.0; streams = grown } in
      let one : IsRecorded machine.flat (recording_of b) h (Makes e) (recording_of c) =
      record { hart = l; stands = (stands, no_end); goes = can a.0 a.1; made = a.1; streams = refl } in
      let x = made_entry machine.flat many Good faithful.steady faithful.timed pages terms.limit (recording_of b)
      (recording_of c) h e sound.ordered.tidy.good one in
      let grows : stream c h ≡ stream b h ++ e ∷ [] = stream_here b.streams h (stream b h ++ e ∷ []) l in
      record {
        went = subst (Leads b) a.2 (record {
          items = Makes e ∷ [];
          made = ((recording_of c, one, refl), (allowed, tt), (wanted_so, tt));
          journal = refl;
          orders = refl;
          size = ap (λ (xs : List Entry). length xs) grows ∙ length_push (stream b h) e;
          others = λ g n. refl;
          meant = (meant, tt);
        });
        state = a.0;
        made = a.1;
        at = sym (ap (λ (x : Board S). x.at) a.2);
        own = sym (ap (λ (x : Board S). machine.flat.count x.at.flat h) a.2) ∙ x.did.own;
        stream = sym (ap (λ (x : Board S). stream x h) a.2) ∙ grows;
      }

  -- below the limit the Poll of the count is made, where one is due
  abbrev pub Polled : Board S → Type 0
  Polled b = machine.flat.count b.at.flat h < terms.limit → IsPolled (stream b h) (machine.flat.count b.at.flat h)

  abbrev pub Below : Board S → Type 0
  Below b = (machine.flat.count b.at.flat h < terms.limit) × IsPolled (stream b h) (machine.flat.count b.at.flat h)

  polled_on : (b d : Board S) (e : Entry) → stream d h ≡ stream b h ++ e ∷ [] → machine.flat.count d.at.flat h ≡ machine.flat.count b.at.flat h
      → IsPolled (stream b h) (machine.flat.count b.at.flat h) → IsPolled (stream d h) (machine.flat.count d.at.flat h)
  polled_on b d e more same polled due =
      subst (λ n. has_poll (stream d h) n ≡ true) (sym same)
      (subst (λ s. has_poll s (machine.flat.count b.at.flat h) ≡ true) (sym more)
      (one_passes (λ x. is_poll x && (count_of x == machine.flat.count b.at.flat h)) (stream b h) (e ∷ []) (polled (subst (λ n. n % 4096 ≡ 0) same due))))

  can_go : (s : Replay S) (e : Entry) → guard_is_met s.cursor e ≡ true → broken_rule machine.flat s h (Makes e) ≡ None
      → verdict_on machine.flat s h (Makes e) ≡ CanGo
  can_go s e guard none = ap (λ g. if g then judged machine.flat (broken_rule machine.flat s h (Makes e)) else Holds) guard ∙ ap (judged machine.flat) none

  acts : (s t : Replay S) (e : Entry) (act : Act) → option_map (past machine.flat h e) (acted machine.flat s act) ≡ Some t
      → (f : S) × (machine.flat.next s.flat act ≡ Some f)
  acts s t e act is =
      let a = mapped (past machine.flat h e) (acted machine.flat s act) t is in
      let n = mapped (λ (f : S). record s { flat = f }) (machine.flat.next s.flat act) a.0 a.1 in (n.0, n.1)

  pub rests_where_closed_to : (b : Board S) → To Any b (rests_where_closed machine terms b)
  rests_where_closed_to b = choice Any b (_) (Ends Rest b) (On b) (λ _. (same b, tt)) (λ _. (same b, tt))

  not_limit : (b : Board S) → is_at_limit machine terms b h ≡ false → machine.flat.count b.at.flat h ≢ terms.limit
  not_limit b f e = true≢false (sym (eq-eqb (machine.flat.count b.at.flat h) terms.limit e) ∙ f)

  pub rests_at_limit_to : (Q : Board S → Type 0) (b : Board S) → (is_at_limit machine terms b h ≡ false → Q b) → To Q b (rests_at_limit machine terms h b)
  rests_at_limit_to Q b q = choice Q b (is_at_limit machine terms b h) (Ends Rest b) (On b) (λ _. (same b, tt)) (λ f. (same b, q f))

  pub below_limit : (b : Board S) → Sound b → Polled b → is_at_limit machine terms b h ≡ false → Below b
  below_limit b sound polled f =
      let bounded = (sound.ordered.each h inside).bounded in
      let n = not_limit b f in
      let less : machine.flat.count b.at.flat h < terms.limit = omega (arith, bounded, n) in (less, polled less)

  poll_can : (s t : Replay S) (time : ℕ) → made machine.flat s h
      (Makes (entries.Poll (machine.flat.count s.flat h) s.cursor.ordinal time (machine.flat.lines_at s.flat h time))) ≡ Some t
      → verdict_on machine.flat s h (Makes (entries.Poll (machine.flat.count s.flat h) s.cursor.ordinal time (machine.flat.lines_at s.flat h time))) ≡ CanGo
  poll_can s t time is =
      let bits = machine.flat.lines_at s.flat h time in
      let e = entries.Poll (machine.flat.count s.flat h) s.cursor.ordinal time bits in
      let n = acts s t e (Poll h time) is in
      can_go s e (eq-eqb s.cursor.ordinal s.cursor.ordinal refl)
      (ap₂ (λ a z. option_map (λ (t : ℕ × Bool). t.0) (find (λ (t : ℕ × Bool). t.1) ((5, not a) ∷ (6, z) ∷ []))) (eq-eqb bits bits refl)
      (faithful.polls s.flat n.0 h time n.1))

  last_poll : (s : List Entry) (n : ℕ) (e : Entry) → is_poll e ≡ true → count_of e ≡ n → has_poll (s ++ e ∷ []) n ≡ true
  last_poll s n e poll here = last_passes (λ x. is_poll x && (count_of x == n)) s e (ap₂ (λ a b. a && b) poll (eq-eqb (count_of e) n here))

  pub due_is : (b : Board S) → is_due machine terms h b ≡ true
      → (machine.flat.count b.at.flat h < terms.limit) × (machine.flat.count b.at.flat h % 4096 ≡ 0)
      × (has_poll (stream b h) (machine.flat.count b.at.flat h) ≡ false)
  due_is b e = by (leb_tells (suc (machine.flat.count b.at.flat h)) terms.limit) (eqb_tells (machine.flat.count b.at.flat h % 4096) 0)
      (has_poll (stream b h) (machine.flat.count b.at.flat h)) refl where
        n : ℕ
        n = machine.flat.count b.at.flat h

        by : (((nat_lt (machine.flat.count b.at.flat h) terms.limit) ≡ true) × (machine.flat.count b.at.flat h < terms.limit))
            ⊎ (((nat_lt (machine.flat.count b.at.flat h) terms.limit) ≡ false) × (terms.limit < suc (machine.flat.count b.at.flat h)))
            → (((machine.flat.count b.at.flat h % 4096 == 0) ≡ true) × (machine.flat.count b.at.flat h % 4096 ≡ 0))
            ⊎ (((machine.flat.count b.at.flat h % 4096 == 0) ≡ false) × (machine.flat.count b.at.flat h % 4096 ≢ 0))
            → (p : Bool) → has_poll (stream b h) (machine.flat.count b.at.flat h) ≡ p
            → (machine.flat.count b.at.flat h < terms.limit) × (machine.flat.count b.at.flat h % 4096 ≡ 0)
            × (has_poll (stream b h) (machine.flat.count b.at.flat h) ≡ false)
        by (inl (t, l)) (inl (u, d)) false p = (l, d, p)
        by (inl (t, l)) (inl (u, d)) true p =
            absurd (true≢false (sym e ∙ ap₂ (λ x y. x && (y && not (has_poll (stream b h) (machine.flat.count b.at.flat h)))) t u ∙ ap not p))
        by (inl (t, l)) (inr (u, d)) q p =
            absurd (true≢false (sym e ∙ ap₂ (λ x y. x && (y && not (has_poll (stream b h) (machine.flat.count b.at.flat h)))) t u))
        by (inr (t, l)) other q p =
            absurd (true≢false (sym e
            ∙ ap (λ x. x && ((machine.flat.count b.at.flat h % 4096 == 0) && not (has_poll (stream b h) (machine.flat.count b.at.flat h)))) t))

  not_due_is : (b : Board S) → is_due machine terms h b ≡ false → Polled b
  not_due_is b e less due = by (has_poll (stream b h) (machine.flat.count b.at.flat h)) refl where
    by : (p : Bool) → has_poll (stream b h) (machine.flat.count b.at.flat h) ≡ p → has_poll (stream b h) (machine.flat.count b.at.flat h) ≡ true
    by true p = p
    by false p = absurd (true≢false
        (sym (ap₂ (λ x y. x && (y && not (has_poll (stream b h) (machine.flat.count b.at.flat h)))) (lt-ltb (machine.flat.count b.at.flat h) terms.limit less)
        (eq-eqb (machine.flat.count b.at.flat h % 4096) 0 due) ∙ ap not p) ∙ e))

  polls_with_to : (b : Board S) (o : Option (ℕ × Supply)) → Sound b → is_due machine terms h b ≡ true → To Polled b (polls_with machine terms h b o)
  polls_with_to b None sound due = tt
  polls_with_to b (Some (time, left)) sound due =
      let c = record b { supply = left } in
      let e = poll_at machine terms h b (max time (machine.flat.time b.at.flat)) in
      once Polled b (entered machine terms h e c) (λ d is.
      let x = entry_made c d e (record { ordered = sound.ordered; fits = sound.fits; orders_size = sound.orders_size }) refl refl
      (λ t e. poll_can b.at t (max time (machine.flat.time b.at.flat)) e) (due_is b due) tt tt is in (
        both machine.flat many pages terms.limit Good faithful h b c d
            (aside machine.flat many pages terms.limit Good faithful h b c refl refl refl (λ g n. refl)) x.went,
        λ less here. subst (λ n. has_poll (stream d h) n ≡ true) (sym x.own)
            (subst (λ s. has_poll s (machine.flat.count b.at.flat h) ≡ true) (sym x.stream)
            (last_poll (stream b h) (machine.flat.count b.at.flat h) e refl refl)),
      ))

  pub polls_to : (b : Board S) → Sound b → To Polled b (polls machine terms h b)
  polls_to b sound =
      choice Polled b (is_due machine terms h b) _ (On b)
      (λ due. roomy Polled b (poll_at machine terms h b 0) (λ c. polls_with machine terms h c (clock_answers c.supply.times c.supply))
      (polls_with_to b (clock_answers b.supply.times b.supply) sound due))
      (λ not_due. (same b, not_due_is b not_due))

  number_is : (b : Board S) (page : ℕ) → Sound b → page < pages → is_number (next_number b page) (slice_get b.at.cursor.numbers page) ≡ true
  number_is b page sound l =
      ap (is_number (next_number b page)) (slice_get-get_or b.at.cursor.numbers page 0 (let z = sound.fits.numbers_size in omega (arith, l, z)))
      ∙ eq-eqb (next_number b page) (next_number b page) refl

  -- what is left of a page is less than what is held in conflict
  left_less : (hold : Option Mode) (mode : Mode) → conflict hold (Some mode) ≡ true → strength (left_for mode) < strength hold
  left_less None mode e = absurd (true≢false (sym e))
  left_less (Some Read) Read e = absurd (true≢false (sym e))
  left_less (Some Write) Read e = omega arith
  left_less (Some Read) Write e = omega arith
  left_less (Some Write) Write e = omega arith

  yields_for_to : (g : ℕ) (b : Board S) (o : Option (ℕ × Mode)) → g ≢ h → wanted b g ≡ o → Sound b → Polled b → To Polled b (yields_for machine terms h g o b)
  yields_for_to g b None other stored sound polled = (same b, polled)
  yields_for_to g b (Some n) other stored sound polled =
      choice Polled b (yields_now machine terms h g n b) _ (On b)
      (λ now.
      let hit = first_of (conflict (held b.at.holders n.0 h) (Some n.1)) _ now in
      let l : n.0 < pages = (let z = sound.fits.holders_size in let k = held_is_there b.at.holders n.0 h n.1 hit in omega (arith, z, k)) in
      let e = yield_of machine terms h n b in
      roomy Polled b e (λ c. on (entered machine terms h (yield_of machine terms h n c) c))
      (once Polled b (entered machine terms h e b) (λ d is.
      let x = entry_made b d e sound refl refl (λ t z. can_go b.at e (number_is b n.0 sound l) refl)
      (polled, l, left_less (held b.at.holders n.0 h) n.1 hit) tt (record { hart = g; mode = n.1; other = other; stored = stored; leaves = refl }) is in
      (x.went, λ less. polled_on b d e x.stream x.own (polled (let z = x.own in omega (arith, z, less)))))))
      (λ _. (same b, polled))
    where
      first_of : (x y : Bool) → (x && y) ≡ true → x ≡ true
      first_of true y e = refl
      first_of false y e = e

  pub yields_to_to : (g : ℕ) (b : Board S) → Sound b → Polled b → To Polled b (yields_to machine terms h g b)
  yields_to_to g b sound polled = choice Polled b (g == h) (On b) (yields_for machine terms h g (wanted b g) b) (λ _. (same b, polled))
      (λ f. yields_for_to g b (wanted b g) (λ e. true≢false (sym (eq-eqb g h e) ∙ f)) refl sound polled)

  all_yields : (gs : List ℕ) (b : Board S) → Sound b → Polled b → To Polled b (goes (map (yields_to machine terms h) gs) (On b))
  all_yields [] b sound polled = (same b, polled)
  all_yields (g ∷ gs) b sound polled =
      further machine.flat many pages terms.limit Good faithful h Polled Polled b (map (yields_to machine terms h) gs) (yields_to machine terms h g b) sound
      (yields_to_to g b sound polled) (λ c s p. all_yields gs c s p)

  pub yields_come : (b : Board S) → Sound b → Polled b → To Polled b (yields machine terms h b)
  yields_come b sound polled = all_yields (harts b) b sound polled

  -- the flat state is kept, and what the hart didn't lack it doesn't lack
  pub record Kept (b c : Board S) : Type 0 where
    pub flat : c.at.flat ≡ b.at.flat
    pub more : (n : ℕ × Mode) → lacks b.at.holders h n ≡ false → lacks c.at.holders h n ≡ false

  kept : (b : Board S) → Kept b b
  kept b = record { flat = refl; more = λ n e. e }

  gained_more : (holders : Holders) (n m : ℕ × Mode) → n.0 < length holders → h < length (row holders n.0) → lacks holders h m ≡ false
      → strength (held holders n.0 h) < strength (Some n.1) → lacks (with_held holders n.0 h (Some n.1)) h m ≡ false
  gained_more holders n m a b old more = elim (eqb_tells m.0 n.0) [
    | inl (t, same) ↦
        let now = subst (λ p. held (with_held holders n.0 h (Some n.1)) p h ≡ Some n.1) (sym same) (held_here holders n.0 h (Some n.1) a b) in
        let now' = ap strength now in
        let before = ltb-false (strength (held holders m.0 h)) (strength (Some m.1)) old in
        let moved = ap (λ p. strength (held holders p h)) same in
        le-ltb (strength (held (with_held holders n.0 h (Some n.1)) m.0 h)) (strength (Some m.1)) (omega (arith, now', before, moved, more))
    | inr (f, other) ↦ ap (λ o. nat_lt (strength o) (strength (Some m.1))) (held_elsewhere holders n.0 m.0 h h (Some n.1) other) ∙ old
  ]

  -- modes conflict both ways
  conflict_back : (x y : Option Mode) → conflict x y ≡ conflict y x
  conflict_back None None = refl
  conflict_back None (Some y) = refl
  conflict_back (Some x) None = refl
  conflict_back (Some Read) (Some Read) = refl
  conflict_back (Some Read) (Some Write) = refl
  conflict_back (Some Write) (Some Read) = refl
  conflict_back (Some Write) (Some Write) = refl

  no_clash : (b : Board S) (n : ℕ × Mode) → Sound b → kept_by b h n ≡ None → (g : ℕ) → g ≢ h → conflict (Some n.1) (held b.at.holders n.0 g) ≡ false
  no_clash b n sound none g other = conflict_back (Some n.1) (held b.at.holders n.0 g) ∙ by (conflict (held b.at.holders n.0 g) (Some n.1)) refl where
    clash_none : clash b h n ≡ None
    clash_none = (neither_there (clash b h n) (rival b h n) none).0

    by : (c : Bool) → conflict (held b.at.holders n.0 g) (Some n.1) ≡ c → conflict (held b.at.holders n.0 g) (Some n.1) ≡ false
    by false e = e
    by true e =
        let there : n.0 < pages = (let z = sound.fits.holders_size in let k = held_is_there b.at.holders n.0 g n.1 e in omega (arith, z, k)) in
        let column : g < many = (let z = sound.fits.rows n.0 there in let k = holder_is_there (row b.at.holders n.0) g n.1 e in omega (arith, z, k)) in
        let l : g < length b.streams = (let z = sound.ordered.tidy.streams in omega (arith, z, column)) in
        let f = none_below (λ i. not (i == h) && conflict (held b.at.holders n.0 i) (Some n.1)) (length b.streams) clash_none g l in
        absurd (true≢false (sym (ap₂ (λ x y. not x && y) (ne_eqb g h other) e) ∙ f))

  pub gains_page_to : (n : ℕ × Mode) (b : Board S) → Sound b → Below b → n.0 < pages → (lacks b.at.holders h n ≡ true → want machine.flat b.at h ≡ Some n)
      → To (λ c. Kept b c × (lacks c.at.holders h n ≡ false) × Below c) b (gains_page machine terms h n b)
  gains_page_to n b sound low l wants =
      choice (λ c. Kept b c × (lacks c.at.holders h n ≡ false) × Below c) b (holds_so b h n) (On b) (gains_unless machine terms (kept_by b h n) h n b)
      (λ so. (same b, (kept b, so_not_lacking (strength (held b.at.holders n.0 h)) (strength (Some n.1)) so, low)))
      (λ not_so. tries (kept_by b h n) refl (leb-false (strength (Some n.1)) (strength (held b.at.holders n.0 h)) not_so))
    where
      place : n.0 < length b.at.holders
      place = let z = sound.fits.holders_size in omega (arith, z, l)

      column : h < length (row b.at.holders n.0)
      column = let z = sound.fits.rows n.0 l in omega (arith, z, inside)

      gain_to : kept_by b h n ≡ None → strength (held b.at.holders n.0 h) < strength (Some n.1) → (d : Board S)
          → entered machine terms h (gain_of machine terms h n b) b ≡ Some d → Leads b d × (Kept b d × (lacks d.at.holders h n ≡ false) × Below d)
      gain_to none more d is =
          let e = gain_of machine terms h n b in
          let m = entry_made b d e sound refl refl (λ t z. can_go b.at e (number_is b n.0 sound l) refl) (
            low.0,
            low.1,
            l,
            more,
            no_clash b n sound none,
            waits_of_streams (log_of machine terms b)
                (log_so_far machine.flat pages terms.limit (recording_of b)) n.0 h (next_number b n.0) refl,
          )
          (wants (lt-ltb (strength (held b.at.holders n.0 h)) (strength (Some n.1)) more)) tt is in
          let t = same_Some _ _ m.made in
          let flat : d.at.flat ≡ b.at.flat = ap (λ (x : Replay S). x.flat) m.at ∙ sym (ap (λ (x : Replay S). x.flat) t) in
          let holders : d.at.holders ≡ with_held b.at.holders n.0 h (Some n.1) = ap (λ (x : Replay S). x.holders) m.at
          ∙ sym (ap (λ (x : Replay S). x.holders) t) in (
            m.went,
            (
              record { flat = flat; more = λ k old. ap (λ hs. lacks hs h k) holders ∙ gained_more b.at.holders n k place column old more },
              ap (λ hs. lacks hs h n) holders ∙ ap (λ o. nat_lt (strength o) (strength (Some n.1))) (held_here b.at.holders n.0 h (Some n.1) place column)
                  ∙ le-ltb (strength (Some n.1)) (strength (Some n.1)) (omega arith),
              ((let z = m.own in let k = low.0 in omega (arith, z, k)), polled_on b d e m.stream m.own low.1),
            ),
          )

      tries : (o : Option ℕ) → kept_by b h n ≡ o → strength (held b.at.holders n.0 h) < strength (Some n.1)
          → To (λ c. Kept b c × (lacks c.at.holders h n ≡ false) × Below c) b (gains_unless machine terms o h n b)
      tries None none more =
          roomy (λ c. Kept b c × (lacks c.at.holders h n ≡ false) × Below c) b (gain_of machine terms h n b)
          (λ c. on (entered machine terms h (gain_of machine terms h n c) c))
          (once (λ c. Kept b c × (lacks c.at.holders h n ≡ false) × Below c) b (entered machine terms h (gain_of machine terms h n b) b) (gain_to none more))
      tries (Some g) none more = (
        aside machine.flat many pages terms.limit Good faithful h b (with_want h (Some n) b) refl refl refl
            (λ k other. ap (λ o. unwrap_or o None) (set_there b.wants h k (Some n) other)),
        tt,
      )

  -- what the next move needs: first what isn't lacking, and then the rest
  pub record Ahead (b : Board S) (done ns : List (ℕ × Mode)) : Type 0 where
    pub need : machine.flat.need b.at.flat h ≡ done ++ ns
    pub none : find (lacks b.at.holders h) done ≡ None

  pub ahead_first : (b : Board S) → Ahead b [] (machine.flat.need b.at.flat h)
  ahead_first b = record { need = refl; none = refl }

  -- the first of the rest is wanted, if it is lacking
  pub ahead_wants : (b : Board S) (done : List (ℕ × Mode)) (n : ℕ × Mode) (ns : List (ℕ × Mode)) → Ahead b done (n ∷ ns) → lacks b.at.holders h n ≡ true
      → want machine.flat b.at h ≡ Some n
  ahead_wants b done n ns ahead lack =
      let test = lacks b.at.holders h in
      ap (find test) ahead.need ∙ find-append test done (n ∷ ns) ∙ ap (λ o. option_or o (find test (n ∷ ns))) ahead.none
      ∙ ap (λ x. cond x (Some n) (find test ns)) lack

  still_none : (b c : Board S) (xs : List (ℕ × Mode)) → Kept b c → find (lacks b.at.holders h) xs ≡ None → find (lacks c.at.holders h) xs ≡ None
  still_none b c [] kept none = refl
  still_none b c (x ∷ xs) kept none = by (lacks b.at.holders h x) refl none (still_none b c xs kept) where
    by : (l : Bool) → lacks b.at.holders h x ≡ l → cond l (Some x) (find (lacks b.at.holders h) xs) ≡ None
        → (find (lacks b.at.holders h) xs ≡ None → find (lacks c.at.holders h) xs ≡ None) → find (lacks c.at.holders h) (x ∷ xs) ≡ None
    by true is e rest = absurd (none-some _ (sym e))
    by false is e rest = ap (λ l. cond l (Some x) (find (lacks c.at.holders h) xs)) (kept.more x is) ∙ rest e

  pub ahead_on : (b c : Board S) (done : List (ℕ × Mode)) (n : ℕ × Mode) (ns : List (ℕ × Mode)) → Ahead b done (n ∷ ns) → Kept b c
      → lacks c.at.holders h n ≡ false → Ahead c (done ++ n ∷ []) ns
  ahead_on b c done n ns ahead kept lack = record {
    need = ap (λ f. machine.flat.need f h) kept.flat ∙ ahead.need ∙ sym (append_assoc done (n ∷ []) ns);
    none = find-append (lacks c.at.holders h) done (n ∷ []) ∙ ap₂ option_or (still_none b c done kept ahead.none) (ap (λ l. cond l (Some n) None) lack);
  }

  all_gains : (done ns : List (ℕ × Mode)) (b : Board S) → Sound b → Below b → AllBelow pages ns → Ahead b done ns
      → To (λ c. Kept b c × (find (lacks c.at.holders h) ns ≡ None) × Below c) b (goes (map (gains_page machine terms h) ns) (On b))
  all_gains done [] b sound low below ahead = (same b, (kept b, refl, low))
  all_gains done (n ∷ ns) b sound low below ahead =
      further machine.flat many pages terms.limit Good faithful h (λ c. Kept b c × (lacks c.at.holders h n ≡ false) × Below c)
      (λ d. Kept b d × (find (lacks d.at.holders h) (n ∷ ns) ≡ None) × Below d) b (map (gains_page machine terms h) ns)
      (gains_page machine terms h n b) sound
      (gains_page_to n b sound low below.0 (ahead_wants b done n ns ahead))
      (λ c s p. weaker (λ d. Kept c d × (find (lacks d.at.holders h) ns ≡ None) × Below d)
      (λ d. Kept b d × (find (lacks d.at.holders h) (n ∷ ns) ≡ None) × Below d) c (goes (map (gains_page machine terms h) ns) (On c))
      (λ d q. (
        record { flat = q.0.flat ∙ p.0.flat; more = λ k e. q.0.more k (p.0.more k e) },
        ap (λ x. cond x (Some n) (find (lacks d.at.holders h) ns)) (q.0.more n p.1) ∙ q.1,
        q.2,
      ))
      (all_gains (done ++ n ∷ []) ns c s p.2 below.1 (ahead_on b c done n ns ahead p.0 p.1)))

  pub gains_to : (b : Board S) → Sound b → Below b → To (λ c. (want machine.flat c.at h ≡ None) × Below c) b (gains machine terms h b)
  gains_to b sound low =
      weaker (λ c. Kept b c × (find (lacks c.at.holders h) (machine.flat.need b.at.flat h) ≡ None) × Below c)
      (λ c. (want machine.flat c.at h ≡ None) × Below c) b (gains machine terms h b)
      (λ c p. (ap (λ f. find (lacks c.at.holders h) (machine.flat.need f h)) p.0.flat ∙ p.1, p.2))
      (all_gains [] (machine.flat.need b.at.flat h) b sound low (faithful.inside b.at.flat h sound.ordered.tidy.good) (ahead_first b))

  behind_to : (b : Board S) → To Any b (behind_touch machine terms h b)
  behind_to b =
      choice Any b (machine.flat.is_stopped b.at.flat) (Ends Rest (closes _ b)) _
      (λ _. (aside machine.flat many pages terms.limit Good faithful h b (closes _ b) refl refl refl (λ g n. refl), tt)) (λ _. favoured (h == b.favoured)) where
        favoured : (c : Bool) → To Any b (On (if c then passes_favour h b else b))
        favoured true = (aside machine.flat many pages terms.limit Good faithful h b (passes_favour h b) refl refl refl (λ g n. refl), tt)
        favoured false = (same b, tt)

  touch_can : (s t : Replay S) (input : Input) → want machine.flat s h ≡ None
      → made machine.flat s h (Makes (entries.Touch (machine.flat.count s.flat h) s.cursor.ordinal input)) ≡ Some t
      → verdict_on machine.flat s h (Makes (entries.Touch (machine.flat.count s.flat h) s.cursor.ordinal input)) ≡ CanGo
  touch_can s t input none is =
      let e = entries.Touch (machine.flat.count s.flat h) s.cursor.ordinal input in
      let n = acts s t e (Touch h input) is in
      let f = faithful.touches s.flat n.0 h input n.1 in
      can_go s e (eq-eqb s.cursor.ordinal s.cursor.ordinal refl)
      (ap (λ w. option_map (λ (t : ℕ × Bool). t.0)
      (find (λ (t : ℕ × Bool). t.1)
      ((1, is_some w) ∷ (3, not (machine.flat.is_at_device s.flat h)) ∷ (4, not (machine.flat.suits s.flat h input)) ∷
      (6, machine.flat.is_stopped s.flat) ∷ []))) none
      ∙ ap₂ (λ a z. option_map (λ (t : ℕ × Bool). t.0)
      (find (λ (t : ℕ × Bool). t.1) ((3, not a) ∷ (4, not z) ∷ (6, machine.flat.is_stopped s.flat) ∷ []))) f.0 f.1
      ∙ ap (λ z. option_map (λ (t : ℕ × Bool). t.0) (find (λ (t : ℕ × Bool). t.1) ((6, z) ∷ []))) f.2)

  touched_to : (b : Board S) (o : Option (Board S)) → ((d : Board S) → o ≡ Some d → Leads b d) → To Any b (touched machine terms h o)
  touched_to b None f = tt
  touched_to b (Some d) f = shifts machine.flat many pages terms.limit Good faithful h Any b d (behind_touch machine terms h d) (f d refl) (behind_to d)

  touches_at_to : (word : DeviceWord) (store : Option ℕ) (answer : Asked) (b : Board S) (o : Option (ℕ × Supply)) → Sound b → Below b
      → want machine.flat b.at h ≡ None → To Any b (touches_at machine terms h word store answer b o)
  touches_at_to word store answer b None sound low none = tt
  touches_at_to word store answer b (Some (now, left)) sound low none =
      let c = record b { supply = left } in
      let input = recorded_input word store (machine.flat.time b.at.flat) now answer in
      touched_to b (entered machine terms h (touch_of machine terms h b input) c) (λ d is.
      both machine.flat many pages terms.limit Good faithful h b c d
      (aside machine.flat many pages terms.limit Good faithful h b c refl refl refl (λ g n. refl))
      (entry_made c d (touch_of machine terms h b input) (record { ordered = sound.ordered; fits = sound.fits; orders_size = sound.orders_size }) refl refl
      (λ t e. touch_can b.at t input none e) low tt tt is).went)

  touches_with_to : (word : DeviceWord) (store : Option ℕ) (b : Board S) (o : Option (Asked × Supply)) → Sound b → Below b → want machine.flat b.at h ≡ None
      → To Any b (touches_with machine terms h word store b o)
  touches_with_to word store b None sound low none = (aside machine.flat many pages terms.limit Good faithful h b (closes _ b) refl refl refl (λ g n. refl), tt)
  touches_with_to word store b (Some (answer, left)) sound low none = touches_at_to word store answer b (clock_gives word store left) sound low none

  accesses_to : (b : Board S) (o : Option (DeviceWord × Option ℕ)) → Sound b → Below b → want machine.flat b.at h ≡ None
      → To Any b (accesses machine terms h o b)
  accesses_to b None sound low none = (same b, tt)
  accesses_to b (Some (word, store)) sound low none =
      roomy Any b (touch_of machine terms h b Nothing) (λ c. touches_with machine terms h word store c (console_gives word store c.supply))
      (touches_with_to word store b (console_gives word store b.supply) sound low none)

  pub touches_to : (b : Board S) → Sound b → (want machine.flat b.at h ≡ None) × Below b → To Any b (touches machine terms h b)
  touches_to b sound p = accesses_to b (machine.access b.at.flat h) sound p.1 p.0

  -- up to where a hart is told to go, each Poll that is due is made
  pub goes_on_to : (b : Board S) → To Any b (goes_on machine terms h b)
  goes_on_to b = (same b, λ n from to. up_to n from to) where
    due_at : (p : Bool) (m n : ℕ) → has_poll (stream b h) m ≡ p → (machine.flat.count b.at.flat h + 4095) / 4096 * 4096 ≡ m
        → machine.flat.count b.at.flat h ≤ n → n < (if p then m + 4096 else m) → n % 4096 ≡ 0 → has_poll (stream b h) n ≡ true
    due_at true m n has is from to due = let e : m ≡ n = omega (arith, is, from, to, due) in subst (λ k. has_poll (stream b h) k ≡ true) e has
    due_at false m n has is from to due = absurd (omega (arith, is, from, to, due))

    up_to : (n : ℕ) → machine.flat.count b.at.flat h ≤ n → n < min terms.limit (next_poll (machine.flat.count b.at.flat h) (stream b h))
        → (n < terms.limit) × IsPolled (stream b h) n
    up_to n from to =
        let m = (machine.flat.count b.at.flat h + 4095) / 4096 * 4096 in
        let least = least_of terms.limit (next_poll (machine.flat.count b.at.flat h) (stream b h)) n to in
        (least.0, λ due. due_at (has_poll (stream b h) m) m n refl refl from least.1 due)
      where
        least_of : (a c n : ℕ) → n < min a c → (n < a) × (n < c)
        least_of a c n l = let e = sub-add-min_cancel a c in (omega (arith, l, e), omega (arith, l, e))
