-- Turns yield only pages that another hart wants: a stored want stays until its hart goes.
use Rattle.std.proofs.Common.{◌≡◌, ◌≢◌, ℕ, zero, suc, ◌<◌, ◌++◌, true, List, [], ◌∷◌, map, max, Option, Some, None, slice_get, slice_set, unwrap_or, inl, inr}
use Rattle.std.proofs.Common.{refl, sym, ap, ap₂, ◌∙◌, subst, arith}
use Rattle.std.proofs.lemmas.Option.{none-some, same_Some}
use Rattle.std.proofs.lemmas.Bool.Decides.{eqb_tells}
use Rattle.std.proofs.lemmas.List.{map-append}
use Rattle.shared_types.proofs.Lists.{set_there}
use Rattle.rv_words.specs.declared.shared.Mode.{Mode}
use Rattle.rv_words.specs.declared.shared.Mode.TheVariants.{Read, Write}
use Rattle.log_entry.specs.declared.log.Entry.{Entry}
use Rattle.log_entry.specs.declared.log.Entry.TheVariants as entries
use Rattle.log_entry.specs.declared.log.Log.{Log}
use Rattle.log_entry.specs.Parts.{strength, conflict}
use Rattle.device_board.specs.Recording.{recorded_input}
use Rattle.order_rules.specs.Holders.{held}
use Rattle.replay_model.specs.State.{Replay, want}
use Rattle.replay_model.specs.Items.{Item, Ended, Move, Makes}
use Rattle.replay_model.specs.Journal.{order_of, left_for, IsWantedGain, IsLeanItem}
use Rattle.crew_recording.specs.Recording.{Recording, IsRecorded, Records, first_recording}
use Rattle.crew_recording.specs.Allowed.{Allowed}
use Rattle.crew_recording.proofs.Obedience.{EachMade}
use Rattle.crew_recording.proofs.OrderedRecordings.{IsOrdered, ordered_item}
use Rattle.crew_recording.proofs.Together.{Made, made_after, others_same}
use Rattle.turn_model.specs.Recordable.{Recordable}
use Rattle.turn_model.specs.Board.{Board, Terms, wanted}
use Rattle.turn_model.specs.Steps.{poll_at, yield_of, gain_of, touch_of}
use Rattle.turn_model.specs.Turn.{turn}
use Rattle.turn_model.specs.Faithful.{IsFaithful}
use Rattle.turn_model.proofs.Ways.{recording_of, by_one, IsSoundBoard, IsMeant, AreMeant}
use Rattle.turn_model.proofs.StepInvariants.{Preserves}
use Rattle.turn_model.proofs.Entries.{Entered, after_entry}
use Rattle.turn_model.proofs.Closure.{cleared}
use Rattle.turn_model.proofs.Turns.{CanMove, Goes, IsOf, turn_keeps}

-- what is left for a hart in its mode is less than what conflicts with it alone
conflicts_so : (hold : Option Mode) (mode : Mode) → strength (left_for mode) < strength hold → conflict hold (Some mode) ≡ true
conflicts_so None Read l = absurd (omega (arith, l))
conflicts_so None Write l = absurd (omega (arith, l))
conflicts_so (Some Read) Read l = absurd (omega (arith, l))
conflicts_so (Some Read) Write l = refl
conflicts_so (Some Write) Read l = refl
conflicts_so (Some Write) Write l = refl

stored_is : (wants : List (Option (ℕ × Mode))) (h : ℕ) (n m : ℕ × Mode) → unwrap_or (slice_get (slice_set wants h (Some n)) h) None ≡ Some m → n ≡ m
stored_is [] h n m is = absurd (none-some _ is)
stored_is (w ∷ wants) zero n m is = same_Some _ _ is
stored_is (w ∷ wants) (suc h) n m is = stored_is wants h n m is

module _ {S V : Type 0} (machine : Recordable S V) (terms : Terms) (many : ℕ) (Good : S → Type 0) (faithful : IsFaithful machine.flat many terms.pages Good)
    (first : S) where
  abbrev MadeBy : Recording S → List (ℕ × Item) → Recording S → Type 0
  MadeBy r items s = Made machine.flat terms.pages terms.limit r items s

  -- what a hart wants stays while another makes an item, wherever allowed items lead
  abbrev pub WantsStay : Type 0
  WantsStay = (r m : Recording S) (items : List (ℕ × Item)) (g h : ℕ) (item : Item) (n : ℕ × Mode) → MadeBy (first_recording terms.pages many first) items r
      → MadeBy r ((g, item) ∷ []) m → h ≢ g
      → want machine.flat r.at h ≡ Some n → want machine.flat m.at h ≡ Some n

  -- a hart below the limit that wants a page in a mode
  abbrev Wanting : Replay S → ℕ → ℕ × Mode → Type 0
  Wanting s g n = (machine.flat.count s.flat g < terms.limit) × (want machine.flat s g ≡ Some n)

  abbrev OthersWant : (ℕ → Option (ℕ × Mode)) → ℕ → Replay S → Type 0
  OthersWant wants h s = (g : ℕ) (n : ℕ × Mode) → g ≢ h → wants g ≡ Some n → Wanting s g n

  -- an item of a lean journal, under every log with the limit
  abbrev LeanSo : Replay S → ℕ → Item → Type 0
  LeanSo s h item = (log : Log) → log.limit ≡ terms.limit → IsLeanItem machine.flat log s h item

  abbrev Leans : Recording S → List (ℕ × Item) → Recording S → Type 0
  Leans r [] s = r ≡ s
  Leans r (x ∷ items) s = (m : Recording S) × IsRecorded machine.flat r x.0 x.1 m × LeanSo r.at x.0 x.1 × Leans m items s

  leans_after : (r m s : Recording S) (xs ys : List (ℕ × Item)) → Leans r xs m → Leans m ys s → Leans r (xs ++ ys) s
  leans_after r m s [] ys one two = subst (λ (x : Recording S). Leans x ys s) (sym one) two
  leans_after r m s (x ∷ xs) ys one two = (one.0, one.1, one.2, leans_after one.0 m s xs ys one.3 two)

  -- the records of such items, each of which is lean
  pub recorded_so : (log : Log) → log.limit ≡ terms.limit → (r s : Recording S) (items : List (ℕ × Item)) → Leans r items s
      → (is : Records machine.flat r items s) × EachMade machine.flat (IsLeanItem machine.flat log) r s items is
  recorded_so log same r s [] leans = (leans, tt)
  recorded_so log same r s (x ∷ items) leans = let rest = recorded_so log same leans.0 s items leans.3 in
      ((leans.0, leans.1, rest.0), (leans.2 log same, rest.1))

  lean_item : (wants : ℕ → Option (ℕ × Mode)) (r : Recording S) (h : ℕ) (item : Item) → IsWantedGain machine.flat r.at h item
      → Allowed machine.flat terms.pages terms.limit r h item → IsMeant wants h item → OthersWant wants h r.at → LeanSo r.at h item
  lean_item wants r h Ended gain allowed meant others log same = tt
  lean_item wants r h Move gain allowed meant others log same = tt
  lean_item wants r h (Makes (entries.Gain count page seq mode waits)) gain allowed meant others log same = gain
  lean_item wants r h (Makes (entries.Yield count page seq left)) gain allowed meant others log same =
      let w = others meant.hart (page, meant.mode) meant.other meant.stored in
      record {
        hart = meant.hart;
        mode = meant.mode;
        other = meant.other;
        goes_on = subst (λ k. machine.flat.count r.at.flat meant.hart < k) (sym same) w.0;
        wants = w.1;
        conflicts = conflicts_so (held r.at.holders page h) meant.mode (subst (λ l. strength l < strength (held r.at.holders page h)) meant.leaves allowed.2);
        leaves = meant.leaves;
      }
  lean_item wants r h (Makes (entries.Poll count ord time bits)) gain allowed meant others log same = tt
  lean_item wants r h (Makes (entries.Touch count ord input)) gain allowed meant others log same = tt
  lean_item wants r h (Makes (entries.End count)) gain allowed meant others log same = tt

  abbrev OrderedR : Recording S → Type 0
  OrderedR r = IsOrdered machine.flat many Good faithful.steady faithful.timed terms.pages terms.limit r

  -- the items of a turn of h, while other harts want what they have stored
  items_lean : WantsStay → (wants : ℕ → Option (ℕ × Mode)) (h : ℕ) (own : List Item) (before : List (ℕ × Item)) (r s : Recording S) → OrderedR r
      → MadeBy (first_recording terms.pages many first) before r → MadeBy r (by_one h own) s → AreMeant wants h own → OthersWant wants h r.at
      → Leans r (by_one h own) s × OthersWant wants h s.at
  items_lean stays wants h [] before r s ordered known made meant others = (made.0, subst (λ (x : Recording S). OthersWant wants h x.at) made.0 others)
  items_lean stays wants h (item ∷ own) before r s ordered known made meant others =
      let m = made.0.0 in
      let one : MadeBy r ((h, item) ∷ []) made.0.0 = ((made.0.0, made.0.1, refl), (made.1.0, tt), (made.2.0, tt)) in
      let still : OthersWant wants h m.at = λ g n other is.
      let w = others g n other is in
      let same = others_same machine.flat many Good faithful.steady faithful.timed terms.pages terms.limit r made.0.0 h g (item ∷ []) other ordered one in
      (subst (λ k. k < terms.limit) (sym same.count) w.0, stays r made.0.0 before h g item n known one other w.1) in
      let rest = items_lean stays wants h own (before ++ (h, item) ∷ []) made.0.0 s
      (ordered_item machine.flat many Good faithful.steady faithful.timed terms.pages terms.limit r made.0.0 h item ordered made.0.1 made.1.0)
      (made_after machine.flat terms.pages terms.limit (first_recording terms.pages many first) r made.0.0 before ((h, item) ∷ []) known one)
      (made.0.2, made.1.1, made.2.1) meant.1 still in
      ((made.0.0, made.0.1, lean_item wants r h item made.2.0 made.1.0 meant.0 others, rest.0), rest.1)

  -- what a turn of h leaves of the stored wants
  module _ (h : ℕ) (inside : h < many) (wants : ℕ → Option (ℕ × Mode)) where
    abbrev OthersKept : Board S → Type 0
    OthersKept b = (g : ℕ) → g ≢ h → wanted b g ≡ wants g

    abbrev OwnNone : Board S → Type 0
    OwnNone b = (wanted b h ≡ None) × OthersKept b

    abbrev OwnWants : Board S → Type 0
    OwnWants b = ((n : ℕ × Mode) → wanted b h ≡ Some n → Wanting b.at h n) × OthersKept b

    none_wants : (b : Board S) → OwnNone b → OwnWants b
    none_wants b own = (λ n is. absurd (none-some _ (sym own.0 ∙ is)), own.1)

    entry_wants : (b d : Board S) (e : Entry) → Entered machine terms many terms.pages Good faithful h e b d → OwnNone b → OwnNone d
    entry_wants b d e x own = subst (λ ws. (unwrap_or (slice_get ws h) None ≡ None) × ((g : ℕ) → g ≢ h → unwrap_or (slice_get ws g) None ≡ wants g))
        (sym x.wants) own

    wants_keep : Preserves machine terms many terms.pages Good faithful h inside OwnNone OwnNone (λ order b. OwnWants b)
    wants_keep = record {
      stays = none_wants;
      opens = λ b own none running. own;
      rests = none_wants;
      goes = λ b until own. none_wants b own;
      holds = λ b n g low is own. (
        λ m stored. subst (Wanting b.at h) (stored_is b.wants h n m stored) (low, is),
        λ k other. ap (λ o. unwrap_or o None) (set_there b.wants h k (Some n) other) ∙ own.1 k other,
      );
      fills = λ b low own. none_wants b own;
      fills_for = λ b g n other is own. none_wants b own;
      fails = λ b low own. none_wants b own;
      favours = λ b own. own;
      polls = λ b d time left sound own room is made.
          let e = poll_at machine terms h b (max time (machine.flat.time b.at.flat)) in
          entry_wants (record b { supply = left }) d e
          (after_entry machine terms many terms.pages Good faithful h e (record b { supply = left }) d sound.ordered.tidy.good made) own;
      yields = λ b d n sound own room made. let e = yield_of machine terms h n b in
          entry_wants b d e (after_entry machine terms many terms.pages Good faithful h e b d sound.ordered.tidy.good made) own;
      gains = λ b d n sound own room made. let e = gain_of machine terms h n b in
          entry_wants b d e (after_entry machine terms many terms.pages Good faithful h e b d sound.ordered.tidy.good made) own;
      touches = λ b d word store answer now left rest sound own room access said is made.
          let e = touch_of machine terms h b (recorded_input word store (machine.flat.time b.at.flat) now answer) in
          let x = entry_wants (record b { supply = rest }) d e
          (after_entry machine terms many terms.pages Good faithful h e (record b { supply = rest }) d sound.ordered.tidy.good made) own in
          (λ _. none_wants d x, λ _. x);
    }

  turn_wants : (h : ℕ) (inside : h < many) (n : ℕ) (b d : Board S) → IsSoundBoard machine.flat many terms.pages terms.limit Good faithful b
      → CanMove machine terms many terms.pages Good faithful h n (recording_of b) → turn machine terms h n b ≡ Some d → OwnWants h inside (wanted b) d
  turn_wants h inside n b d sound can is =
      turn_keeps machine terms many terms.pages Good faithful h inside (OwnNone h inside (wanted b)) (OwnNone h inside (wanted b))
      (λ order c. OwnWants h inside (wanted b) c) (OwnWants h inside (wanted b)) (wants_keep h inside (wanted b)) n b d sound can is
      (λ c x. committed c x.wants) (λ c order own. own)
    where
      committed : (c : Board S) → c.wants ≡ slice_set b.wants h None → OwnNone h inside (wanted b) c
      committed c same = (
        ap (λ (ws : List (Option (ℕ × Mode))). unwrap_or (slice_get ws h) None) same ∙ cleared b.wants h,
        λ g other. ap (λ (ws : List (Option (ℕ × Mode))). unwrap_or (slice_get ws g) None) same ∙ ap (λ o. unwrap_or o None) (set_there b.wants h g None other),
      )

  -- lean items lead to a board, and who has stored a want wants it
  pub record IsLeanTo (b : Board S) : Type 0 where
    pub items : List (ℕ × Item)
    pub leans : Leans (first_recording terms.pages many first) items (recording_of b)
    pub order : order_of b.journal ≡ map (λ (x : ℕ × Item). x.0) items
    pub stored : (g : ℕ) (n : ℕ × Mode) → wanted b g ≡ Some n → Wanting b.at g n

  pub lean_alike : (b c : Board S) → recording_of b ≡ recording_of c → c.journal ≡ b.journal → c.wants ≡ b.wants → IsLeanTo b → IsLeanTo c
  lean_alike b c same journal wants lean = record {
    items = lean.items;
    leans = subst (λ (r : Recording S). Leans (first_recording terms.pages many first) lean.items r) same lean.leans;
    order = ap order_of journal ∙ lean.order;
    stored = λ g n is. subst (λ (r : Recording S). Wanting r.at g n) same
        (lean.stored g n (ap (λ (ws : List (Option (ℕ × Mode))). unwrap_or (slice_get ws g) None) (sym wants) ∙ is));
  }

  pub lean_turn : WantsStay → (h : ℕ) (inside : h < many) (n : ℕ) (b d : Board S) (before : List (ℕ × Item))
      → IsSoundBoard machine.flat many terms.pages terms.limit Good faithful b → MadeBy (first_recording terms.pages many first) before (recording_of b)
      → CanMove machine terms many terms.pages Good faithful h n (recording_of b) → turn machine terms h n b ≡ Some d
      → (goes : Goes machine terms many terms.pages Good faithful b d) → IsOf machine terms many terms.pages Good faithful h b goes.items → IsLeanTo b
      → IsLeanTo d
  lean_turn stays h inside n b d before sound known can is goes of lean =
      let made : MadeBy (recording_of b) (by_one h of.own) (recording_of d) =
      subst (λ items. MadeBy (recording_of b) items (recording_of d)) of.are goes.made in
      let x = items_lean stays (wanted b) h of.own before (recording_of b) (recording_of d) sound.ordered known made of.meant
      (λ g n other stored. lean.stored g n stored) in
      let own = turn_wants h inside n b d sound can is in
      record {
        items = lean.items ++ by_one h of.own;
        leans = leans_after (first_recording terms.pages many first) (recording_of b) (recording_of d) lean.items (by_one h of.own) lean.leans x.0;
        order = goes.order ∙ ap₂ (λ xs (ys : List (ℕ × Item)). xs ++ map (λ (y : ℕ × Item). y.0) ys) lean.order of.are
            ∙ sym (map-append (λ (y : ℕ × Item). y.0) lean.items (by_one h of.own));
        stored = λ g n stored. elim (eqb_tells g h) [
          | inl (t, same) ↦ subst (λ k. Wanting d.at k n) (sym same) (own.0 n (subst (λ k. wanted d k ≡ Some n) same stored))
          | inr (f, other) ↦ x.1 g n other (sym (own.1 g other) ∙ stored)
        ];
      }
