-- What a step leaves: the holders follow the log, and the state is sound.
use Rattle.std.proofs.Common.{◌≡◌, inl, inr, ℕ, ◌+◌, ◌<◌, ◌==◌, ◌&&◌, nat_le, Bool, true, false, length, Option, Some, None, slice_get, slice_set}
use Rattle.std.proofs.Common.{slice_index, refl, sym, ap, ap₂, ◌∙◌, subst, arith, if◌then◌else◌, true≢false}
use Rattle.std.proofs.lemmas.Option.{none-some, same_Some}
use Rattle.std.proofs.lemmas.Bool.{cases_eq, or_parts, eq-eqb}
use Rattle.std.proofs.lemmas.List.{length-set}
use Rattle.orders_law.specs.Orders.{Lasts, Commutes}
use Rattle.rv_words.specs.declared.shared.Mode.{Mode}
use Rattle.rv_words.specs.declared.shared.Mode.TheVariants.{Read, Write}
use Rattle.log_entry.specs.declared.log.Entry.{Entry}
use Rattle.log_entry.specs.declared.log.Entry.TheVariants as entries
use Rattle.log_entry.specs.declared.log.Log.{Log}
use Rattle.log_entry.specs.Waits.{WaitList}
use Rattle.log_entry.specs.Parts.{page_number, is_some_and, holds_then, strength}
use Rattle.order_rules.specs.Places.{Placed, stream, entry_at, is_number}
use Rattle.order_rules.specs.Cursor.{Cursor, first_left, taken}
use Rattle.order_rules.specs.Rules as rules
use Rattle.order_rules.specs.Rules.{breaks_o6}
use Rattle.order_rules.specs.Orderly.{Keeps, o5, o6, o8}
use Rattle.order_rules.proofs.Least.{none_passes}
use Rattle.order_rules.proofs.Numbers.{in_stream, below_length}
use Rattle.order_rules.proofs.Takings.{number_met}
use Rattle.flat_machine.specs.declared.act.Act.{Act}
use Rattle.flat_machine.specs.declared.act.Act.TheVariants.{Lose}
use Rattle.replay_model.specs.Flat.{Flat}
use Rattle.order_rules.specs.Holders.{row, held, with_held, IsCrew}
use Rattle.replay_model.specs.State.{Replay}
use Rattle.replay_model.specs.Items.{Item, Ended, Move, Makes, CanGo, verdict_on, ends_reservation, step}
use Rattle.order_rules.specs.Laws.{Follow}
use Rattle.order_rules.proofs.Follow.{still_follow, follow_is_crew, held_here, held_elsewhere}
use Rattle.std.proofs.lemmas.Option.{slice_get_within, get_or_from_slice_get}
use Rattle.replay_law.proofs.Local.{IsWellHeld, IsLocal}
use Rattle.replay_law.proofs.Steps.{IsMade, act_of, flat_after, built, step_went}
use Rattle.replay_law.proofs.Cursors.{guard_of, IsLeft}
use Rattle.replay_law.proofs.Tables.{held_stays, table_size, rows_size}
use Rattle.replay_law.proofs.Verdicts.{ActIs, guard_met, act_is}
use Rattle.replay_law.proofs.Pairs.{is_left, steps_commute}

at_most_write : (mode : Mode) → nat_le (strength (Some mode)) (strength (Some Write)) ≡ true
at_most_write Read = refl
at_most_write Write = refl

-- in a log that keeps O6, who gains a page doesn't hold it in Write
no_gain_of_write : (log : Log) (h i count page seq : ℕ) (mode : Mode) (waits : WaitList) → Keeps log o6
    → entry_at log h i ≡ Some (entries.Gain count page seq mode waits) → rules.held log page h seq ≡ Some Write → ⊥
no_gain_of_write log h i count page seq mode waits kept at held =
    let e = entries.Gain count page seq mode waits in
    let x : Placed = record { hart = h; place = i; entry = entries.Gain count page seq mode waits } in
    let right =
    none_passes log (o6 log) (h, i) kept (
      stream log h,
      in_stream log h i (entries.Gain count page seq mode waits) at,
      below_length (stream log h) i
          (entries.Gain count page seq mode waits) at,
    ) in
    let here : breaks_o6 log x ≡ false = sym (ap (λ o. is_some_and o (λ z. breaks_o6 log (record { hart = h; place = i; entry = z }))) at) ∙ right in
    let gains : nat_le (strength (Some mode)) (strength (rules.held log page h seq)) ≡ false = (or_parts _ _ here).0 in
    true≢false (sym (at_most_write mode) ∙ ap (λ m. nat_le (strength (Some mode)) (strength m)) (sym held) ∙ gains)

module _ {S V : Type 0} (flat : Flat S V) (Sized : S → Type 0) (harts pages : ℕ) (local : IsLocal flat Sized harts pages) where
  abbrev Sound : Replay S → Type 0
  Sound s = IsWellHeld flat Sized harts pages s

  flat_lasts : (s : Replay S) (g : ℕ) (p : Option Act) (a : S) → Sound s → ((act : Act) → p ≡ Some act → ActIs flat s g act)
      → flat_after flat s.flat p ≡ Some a → Sound (record s { flat = a })
  flat_lasts s g None a sound own e = subst (λ f. Sound (record s { flat = f })) (same_Some _ _ e) sound
  flat_lasts s g (Some act) a sound own e = local.lasts s act a sound (own act refl).has e

  -- a hart's hold of a page changes: a live reservation of its in that page asks for Write
  hold_lasts : (s : Replay S) (g page : ℕ) (hold : Option Mode) (c : Cursor) → Sound s → page < pages → g < harts
      → IsCrew (with_held s.holders page g hold) → (flat.reserved_page s.flat g ≡ Some page → hold ≡ Some Write)
      → Sound (record { flat = s.flat; cursor = c; holders = with_held s.holders page g hold })
  hold_lasts s g page hold c sound l m crew keeps =
      let inside : page < length s.holders = (let t = sound.table in omega (arith, t, l)) in
      let there : g < length (row s.holders page) = (let r = sound.rows page l in omega (arith, r, m)) in
      record {
        sized = sound.sized;
        table = table_size s.holders g (Some (page, hold)) ∙ sound.table;
        rows = λ q k. rows_size s.holders q g (Some (page, hold)) ∙ sound.rows q k;
        crew = record {
          holders = crew;
          reservations = λ h p is. elim (cases_eq h g) [
            | inr n ↦ held_stays s.holders p g h (Some (page, hold)) n ∙ sound.crew.reservations h p is
            | inl same ↦ elim (cases_eq p page) [
              | inr n ↦ held_elsewhere s.holders page p g h hold n ∙ sound.crew.reservations h p is
              | inl at ↦
                  subst (λ z. held (with_held s.holders page g hold) p z ≡ Some Write) (sym same)
                  (subst (λ z. held (with_held s.holders page g hold) z g ≡ Some Write) (sym at)
                  (held_here s.holders page g hold inside there ∙ keeps (subst (λ z. flat.reserved_page s.flat z ≡ Some page) same (is ∙ ap Some at))))
            ]
          ];
        };
      }

  with_cursor : (s : Replay S) (c : Cursor) → Sound s → Sound (record s { cursor = c })
  with_cursor s c sound = record {
    sized = sound.sized;
    table = sound.table;
    rows = sound.rows;
    crew = record { holders = sound.crew.holders; reservations = sound.crew.reservations };
  }

  -- after a Yield the hart has no live reservation in its page
  yield_clears : (s : Replay S) (g page : ℕ) (b : Bool) (a : S) (left : Option Mode) → Sound s → ends_reservation flat s g page ≡ b
      → flat_after flat s.flat (if b then Some (Lose g) else None) ≡ Some a → flat.reserved_page a g ≡ Some page → left ≡ Some Write
  yield_clears s g page true a left sound ends did is = absurd (none-some _ (sym (local.loses s.flat a g did) ∙ is))
  yield_clears s g page false a left sound ends did is =
      let reserved : flat.reserved_page s.flat g ≡ Some page = ap (λ f. flat.reserved_page f g) (same_Some _ _ did) ∙ is in
      let it_ends : ends_reservation flat s g page ≡ true =
      ap₂ (λ (m : Option Mode) (o : Option ℕ). (strength m == 2) && is_number page o) (sound.crew.reservations g page reserved) reserved
      ∙ eq-eqb page page refl in
      absurd (true≢false (sym it_ends ∙ ends))

  module _ (log : Log) (harts_are : length log.streams ≡ harts) (pages_right : Keeps log o5) (crew_right : Keeps log o6) where
    -- sound, and its holders are those that the log's entries so far leave
    pub record IsGood (s : Replay S) : Type 0 where
      pub sound : Sound s
      pub follow : Follow log s.holders s.cursor.numbers
      pub numbers : length s.cursor.numbers ≡ pages

    page_lasts : (s : Replay S) (g page seq : ℕ) (e : Entry) (f : S) → IsGood s → Sound (record s { flat = f }) → first_left log s.cursor g ≡ Some e
        → page_number e ≡ Some (page, seq)
        → is_number seq (slice_get s.cursor.numbers page) ≡ true → (c : Cursor) → c.numbers ≡ slice_set s.cursor.numbers page (seq + 1)
        → (flat.reserved_page f g ≡ Some page → holds_then e ≡ Some Write)
        → IsGood (record { flat = f; cursor = c; holders = with_held s.holders page g (holds_then e) })
    page_lasts s g page seq e f good sound left is guard c numbers keeps =
        let number = number_met seq (slice_get s.cursor.numbers page) guard in
        let l : page < pages = (let w = slice_get_within s.cursor.numbers page seq number in let k = good.numbers in omega (arith, w, k)) in
        let m : g < harts =
        (let w = slice_get_within log.streams g (stream log g) (in_stream log g (slice_index s.cursor.places g) e left) in omega (arith, w, harts_are)) in
        let inside : page < length s.holders = (let t = sound.table in omega (arith, t, l)) in
        let there : g < length (row s.holders page) = (let r = sound.rows page l in omega (arith, r, m)) in
        let follow =
        still_follow log s.holders s.cursor.numbers g (slice_index s.cursor.places g) page seq e pages_right left is number inside there good.follow in
        record {
          sound = hold_lasts (record s { flat = f }) g page (holds_then e) c sound l m
              (follow_is_crew log (with_held s.holders page g (holds_then e)) (slice_set s.cursor.numbers page (seq + 1)) crew_right follow) keeps;
          follow = subst (Follow log (with_held s.holders page g (holds_then e))) (sym numbers) follow;
          numbers = ap length numbers ∙ length-set s.cursor.numbers page (seq + 1) ∙ good.numbers;
        }

    same_table : (s : Replay S) (f : S) (c : Cursor) → IsGood s → Sound (record s { flat = f }) → c.numbers ≡ s.cursor.numbers
        → IsGood (record { flat = f; cursor = c; holders = s.holders })
    same_table s f c good sound numbers = record {
      sound = with_cursor (record s { flat = f }) c sound;
      follow = subst (Follow log s.holders) (sym numbers) good.follow;
      numbers = ap length numbers ∙ good.numbers;
    }

    gain_keeps : (s : Replay S) (g count page seq : ℕ) (mode : Mode) (waits : WaitList) (f : S) → IsGood s
        → first_left log s.cursor g ≡ Some (entries.Gain count page seq mode waits) → is_number seq (slice_get s.cursor.numbers page) ≡ true
        → s.flat ≡ f → flat.reserved_page f g ≡ Some page → Some mode ≡ Some Write
    gain_keeps s g count page seq mode waits f good left guard same is =
        let holds : held s.holders page g ≡ Some Write = good.sound.crew.reservations g page (ap (λ z. flat.reserved_page z g) same ∙ is) in
        let number : slice_index s.cursor.numbers page ≡ seq =
        get_or_from_slice_get s.cursor.numbers page seq 0 (number_met seq (slice_get s.cursor.numbers page) guard) in
        absurd (no_gain_of_write log g (slice_index s.cursor.places g) count page seq mode waits crew_right left
        (ap (rules.held log page g) (sym number) ∙ sym (good.follow page g) ∙ holds))

    item_lasts : (s : Replay S) (g : ℕ) (item : Item) (f : S) → IsGood s → IsLeft log s.cursor g item → verdict_on flat s g item ≡ CanGo → IsMade item
        → flat_after flat s.flat (act_of flat s g item) ≡ Some f
        → Sound (record s { flat = f }) → guard_of s.cursor item ≡ true → IsGood (built flat s g item f)
    item_lasts s g Ended f good left go real did sound guard = absurd real
    item_lasts s g Move f good left go real did sound guard = same_table s f s.cursor good sound refl
    item_lasts s g (Makes (entries.Gain count page seq mode waits)) f good left go real did sound guard =
        page_lasts s g page seq (entries.Gain count page seq mode waits) f good sound left refl guard
        (taken s.cursor g (entries.Gain count page seq mode waits)) refl
        (gain_keeps s g count page seq mode waits f good left guard (same_Some _ _ did))
    item_lasts s g (Makes (entries.Yield count page seq left_over)) f good left go real did sound guard =
        page_lasts s g page seq (entries.Yield count page seq left_over) f good sound left refl guard
        (taken s.cursor g (entries.Yield count page seq left_over)) refl
        (yield_clears s g page (ends_reservation flat s g page) f left_over good.sound refl did)
    item_lasts s g (Makes (entries.Poll count ord time bits)) f good left go real did sound guard =
        same_table s f (taken s.cursor g (entries.Poll count ord time bits)) good sound refl
    item_lasts s g (Makes (entries.Touch count ord input)) f good left go real did sound guard =
        same_table s f (taken s.cursor g (entries.Touch count ord input)) good sound refl
    item_lasts s g (Makes (entries.End count)) f good left go real did sound guard = absurd real

    pub steps_last : Lasts (step flat log) IsGood
    steps_last s a e g good did =
        let x = step_went flat log s a g e did in
        let left = is_left log s.cursor (flat.count s.flat g) g x.item x.next in
        subst IsGood (sym x.built_is)
        (item_lasts s g x.item a.flat good left x.go x.real x.flat_is
        (flat_lasts s g (act_of flat s g x.item) a.flat good.sound (λ act is. act_is flat s g x.item act x.go is) x.flat_is)
        (guard_met flat s g x.item x.go))

    pub steps_meet : Keeps log o8 → Commutes (step flat log) IsGood
    steps_meet ordinals_right s a b e f g h good = steps_commute flat Sized harts pages local log pages_right ordinals_right s a b e f g h good.sound
