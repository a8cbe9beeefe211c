-- The entries of a recording are in range: each Gain waits for seven Yields at most.
use Rattle.std.proofs.Common.{◌≡◌, inl, inr, ℕ, ◌<◌, ◌≤◌, ◌==◌, ◌&&◌, not, cond, Bool, true, false, List, [], ◌∷◌, ◌++◌, length}
use Rattle.std.proofs.Common.{Option, Some, None, slice_get, slice_index, slice_set, unwrap_or, refl, sym, ap, ap₂, ◌∙◌, subst, arith}
use Rattle.std.proofs.Common.{if◌then◌else◌, true≢false}
use Rattle.std.specs.List.{list_all}
use Rattle.std.specs.Option.{option_map}
use Rattle.std.proofs.lemmas.Option.{none-some, same_Some, get_or_from_slice_get}
use Rattle.std.proofs.lemmas.Bool.{and_parts, le-leb, lt-ltb}
use Rattle.std.proofs.lemmas.Bool.Decides.{eqb_tells}
use Rattle.std.proofs.lemmas.List.{length-set}
use Rattle.std.proofs.lemmas.List.Folds.{list_all-append}
use Rattle.shared_types.proofs.Lists.{mapped, set_here, set_there}
use Rattle.rv_words.specs.declared.shared.Mode.{Mode}
use Rattle.rv_words.specs.declared.shared.Mode.TheVariants.{Read, Write}
use Rattle.rv_words.specs.declared.shared.TheConstants.{MAX_HARTS}
use Rattle.log_entry.specs.declared.waits.WaitFor.{WaitFor}
use Rattle.log_entry.specs.declared.log.Entry.{Entry}
use Rattle.log_entry.specs.declared.log.Entry.TheVariants.{Gain, Yield, Poll, Touch, End}
use Rattle.log_entry.specs.Parts.{page_number, strength}
use Rattle.log_entry.specs.Range.{is_wait, is_left, is_entry}
use Rattle.flat_machine.specs.declared.act.Act.{Act}
use Rattle.flat_machine.specs.declared.act.Act.TheVariants as acts
use Rattle.order_rules.specs.Cursor.{guard_is_met}
use Rattle.order_rules.specs.Places.{is_number}
use Rattle.order_rules.specs.Rules.{waits_due}
use Rattle.order_rules.specs.Holders.{Holders, row, held, with_held}
use Rattle.order_rules.proofs.Follow.{row_here, row_there}
use Rattle.privilege_directory.specs.Directory.{by_others, AreFew}
use Rattle.privilege_directory.proofs.Holds.{few_yielded, few_gained}
use Rattle.replay_model.specs.State.{Replay}
use Rattle.replay_model.specs.Items.{Item, Ended, Move, Makes, Holds, CanGo, HasDiverged, judged, broken_rule}
use Rattle.replay_model.specs.Items.{verdict_on, made, acted, effect, past, holds}
use Rattle.replay_model.specs.Items.{ends_reservation}
use Rattle.crew_recording.specs.Recording.{Recording, IsRecorded, Records, stream_in}
use Rattle.crew_recording.specs.Allowed.{Allowed, AreAllowed, log_so_far}
use Rattle.crew_recording.proofs.Streams.{stream_here}
use Rattle.crew_recording.proofs.Tables.{FitsAt, fits_item}
use Rattle.turn_model.specs.Recordable.{Recordable}
use Rattle.turn_model.specs.Board.{Board, Terms, log_of}
use Rattle.turn_model.specs.Ways.{entered}
use Rattle.turn_model.specs.Steps.{next_number}
use Rattle.turn_laws.specs.Waits.{yields_in, yields_by, AreYields}
use Rattle.turn_laws.proofs.Waits.{waits_alike, waits_stay, waits_follow}

-- waits for harts of the board, without one hart's
waits_inside : (many h : ℕ) (ws : List WaitFor) → list_all (is_wait many) ws ≡ true → list_all (is_wait many) (by_others h ws) ≡ true
waits_inside many h [] all = refl
waits_inside many h (w ∷ ws) all =
    let both = and_parts (is_wait many w) (list_all (is_wait many) ws) all in
    by (not (w.hart == h)) both.0 (waits_inside many h ws both.1)
  where
    by : (b : Bool) → is_wait many w ≡ true → list_all (is_wait many) (by_others h ws) ≡ true
        → list_all (is_wait many) (cond b (w ∷ by_others h ws) (by_others h ws)) ≡ true
    by true one rest = ap₂ (λ p q. p && q) one rest
    by false one rest = rest

-- a Yield leaves less than Write
left_is : (left was : Option Mode) → strength left < strength was → is_left left ≡ true
left_is None was l = refl
left_is (Some Read) was l = refl
left_is (Some Write) None l = absurd (omega (arith, l))
left_is (Some Write) (Some Read) l = absurd (omega (arith, l))
left_is (Some Write) (Some Write) l = absurd (omega (arith, l))

-- a board with this state and these streams
abbrev pub board_of : {S : Type 0} → Recording S → Board S
board_of r = record {
  at = r.at;
  streams = r.streams;
  journal = [];
  turns = [];
  wants = [];
  orders = [];
  favoured = 0;
  closed = None;
  supply = record { answers = []; takes = 0; times = [] };
}

-- the holders after an entry
abbrev holders_by : ℕ → Entry → Holders → Holders
holders_by h (Gain count page seq mode waits) holders = with_held holders page h (Some mode)
holders_by h (Yield count page seq left) holders = with_held holders page h left
holders_by h e holders = holders

module _ {S V : Type 0} (machine : Recordable S V) (terms : Terms) (many pages : ℕ) where
  acted_holders : (s t : Replay S) (act : Act) → acted machine.flat s act ≡ Some t → t.holders ≡ s.holders
  acted_holders s t act is = sym (ap (λ (x : Replay S). x.holders) (mapped (λ (f : S). record s { flat = f }) (machine.flat.next s.flat act) t is).2)

  acted_numbers : (s t : Replay S) (act : Act) → acted machine.flat s act ≡ Some t → t.cursor.numbers ≡ s.cursor.numbers
  acted_numbers s t act is =
      sym (ap (λ (x : Replay S). x.cursor.numbers) (mapped (λ (f : S). record s { flat = f }) (machine.flat.next s.flat act) t is).2)

  yield_holders : (s t : Replay S) (h page : ℕ) (left : Option Mode) (b : Bool)
      → option_map (holds machine.flat page h left) (if b then acted machine.flat s (acts.Lose h) else Some s) ≡ Some t
      → t.holders ≡ with_held s.holders page h left
  yield_holders s t h page left false is = sym (ap (λ (x : Replay S). x.holders) (same_Some _ _ is))
  yield_holders s t h page left true is =
      let a = mapped (holds machine.flat page h left) (acted machine.flat s (acts.Lose h)) t is in
      sym (ap (λ (x : Replay S). x.holders) a.2) ∙ ap (λ hs. with_held hs page h left) (acted_holders s a.0 (acts.Lose h) a.1)

  effect_holders : (s t : Replay S) (h : ℕ) (e : Entry) → effect machine.flat s h e ≡ Some t → t.holders ≡ holders_by h e s.holders
  effect_holders s t h (Gain count page seq mode waits) is = sym (ap (λ (x : Replay S). x.holders) (same_Some _ _ is))
  effect_holders s t h (Yield count page seq left) is = yield_holders s t h page left (ends_reservation machine.flat s h page) is
  effect_holders s t h (Poll count ord time bits) is = acted_holders s t (acts.Poll h time) is
  effect_holders s t h (Touch count ord input) is = acted_holders s t (acts.Touch h input) is
  effect_holders s t h (End count) is = absurd (none-some _ is)

  entry_holders : (s t : Replay S) (h : ℕ) (e : Entry) → made machine.flat s h (Makes e) ≡ Some t → t.holders ≡ holders_by h e s.holders
  entry_holders s t h e is =
      let i = mapped (past machine.flat h e) (effect machine.flat s h e) t is in
      sym (ap (λ (x : Replay S). x.holders) i.2) ∙ effect_holders s i.0 h e i.1

  -- the entries so far are in range, and so is what the next Gain of each page would wait for
  pub record IsFewAt (r : Recording S) : Type 0 where
    pub yields : List (List WaitFor)
    pub are : AreYields machine terms (board_of r) yields
    pub few : (page : ℕ) → page < pages → AreFew (row r.at.holders page) (yields_in yields page)
    pub inside : (page : ℕ) → list_all (is_wait many) (yields_in yields page) ≡ true
    pub entries : (h : ℕ) → list_all (is_entry many pages) (stream_in r.streams h) ≡ true
    pub fits : FitsAt machine.flat many pages r.at
    pub size : length r.streams ≡ many

  -- a Gain of the next number waits for seven at most
  pub waits_few : (r : Recording S) (page h k : ℕ) → IsFewAt r → page < pages → h < many → k ≡ next_number (board_of r) page
      → (length (waits_due (log_of machine terms (board_of r)) page h k) ≤ 7)
      × (list_all (is_wait many) (waits_due (log_of machine terms (board_of r)) page h k) ≡ true)
  waits_few r page h k few l inside is =
      let there : page < length few.yields = (let z = few.are.size in let y = few.fits.numbers_size in omega (arith, l, z, y)) in
      let due : waits_due (log_of machine terms (board_of r)) page h k ≡ by_others h (yields_in few.yields page) =
      ap (waits_due (log_of machine terms (board_of r)) page h) is ∙ few.are.waits page h there in
      let less = (few.few page l).others h (let z = few.fits.rows page l in omega (arith, z, inside)) in (
        (let z = ap length due in omega (arith, z, less)),
        ap (list_all (is_wait many)) due ∙ waits_inside many h (yields_in few.yields page) (few.inside page),
      )

  -- a guard that is met is the page's next number
  goes_met : (s : Replay S) (h : ℕ) (e : Entry) → verdict_on machine.flat s h (Makes e) ≡ CanGo
      → (guard_is_met s.cursor e ≡ true) × (broken_rule machine.flat s h (Makes e) ≡ None)
  goes_met s h e is = by (guard_is_met s.cursor e) (broken_rule machine.flat s h (Makes e)) is where
    bad : {X : Type 0} → Holds ≡ CanGo → X
    bad z = let no : ⊥ = cc in absurd no

    worse : {X : Type 0} (rule : ℕ) → HasDiverged rule ≡ CanGo → X
    worse rule z = let no : ⊥ = cc in absurd no

    by : (g : Bool) (o : Option ℕ) → (if g then judged machine.flat o else Holds) ≡ CanGo → (g ≡ true) × (o ≡ None)
    by true None z = (refl, refl)
    by true (Some rule) z = worse rule z
    by false o z = bad z

  number_met : (numbers : List ℕ) (page seq : ℕ) → is_number seq (slice_get numbers page) ≡ true → seq ≡ slice_index numbers page
  number_met numbers page seq met = by (slice_get numbers page) refl met where
    by : (o : Option ℕ) → slice_get numbers page ≡ o → is_number seq o ≡ true → seq ≡ slice_index numbers page
    by None at e = absurd (true≢false (sym e))
    by (Some m) at e = elim (eqb_tells m seq) [
      | inl (t, same) ↦ sym same ∙ sym (get_or_from_slice_get numbers page m 0 at)
      | inr (f, other) ↦ absurd (true≢false (sym e ∙ f))
    ]

  -- one entry more of a hart
  entries_more : (streams : List (List Entry)) (h : ℕ) (e : Entry) → h < length streams → is_entry many pages e ≡ true
      → ((g : ℕ) → list_all (is_entry many pages) (stream_in streams g) ≡ true)
      → (g : ℕ) → list_all (is_entry many pages) (stream_in (slice_set streams h (stream_in streams h ++ e ∷ [])) g) ≡ true
  entries_more streams h e l one all g = elim (eqb_tells g h) [
    | inl (t, same) ↦
        ap (λ k. list_all (is_entry many pages) (stream_in (slice_set streams h (stream_in streams h ++ e ∷ [])) k)) same
        ∙ ap (list_all (is_entry many pages)) (stream_here streams h (stream_in streams h ++ e ∷ []) l)
        ∙ list_all-append (is_entry many pages) (stream_in streams h) (e ∷ [])
        ∙ ap₂ (λ p q. p && (q && true)) (all h) one
    | inr (f, other) ↦
        ap (λ o. list_all (is_entry many pages) (unwrap_or o [])) (set_there streams h g (stream_in streams h ++ e ∷ []) other) ∙ all g
  ]

  -- the rows and Yields once those of a page are others
  few_set : (holders : Holders) (yields : List (List WaitFor)) (p h : ℕ) (hold : Option Mode) (ys : List WaitFor) → p < length holders → p < length yields
      → AreFew (slice_set (row holders p) h hold) ys → ((q : ℕ) → q < pages → AreFew (row holders q) (yields_in yields q))
      → (q : ℕ) → q < pages → AreFew (row (with_held holders p h hold) q) (yields_in (slice_set yields p ys) q)
  few_set holders yields p h hold ys l m here all q inside = elim (eqb_tells q p) [
    | inl (t, same) ↦
        subst (λ k. AreFew (row (with_held holders p h hold) k) (yields_in (slice_set yields p ys) k)) (sym same)
        (subst (λ r. AreFew r (yields_in (slice_set yields p ys) p)) (sym (row_here holders p h hold l))
        (subst (λ o. AreFew (slice_set (row holders p) h hold) (unwrap_or o [])) (sym (set_here yields p ys m)) here))
    | inr (f, other) ↦
        subst (λ r. AreFew r (yields_in (slice_set yields p ys) q)) (sym (row_there holders p q h hold other))
        (subst (λ o. AreFew (row holders q) (unwrap_or o [])) (sym (set_there yields p q ys other)) (all q inside))
  ]

  inside_set : (yields : List (List WaitFor)) (p : ℕ) (ys : List WaitFor) → p < length yields → list_all (is_wait many) ys ≡ true
      → ((q : ℕ) → list_all (is_wait many) (yields_in yields q) ≡ true) → (q : ℕ) → list_all (is_wait many) (yields_in (slice_set yields p ys) q) ≡ true
  inside_set yields p ys m here all q = elim (eqb_tells q p) [
    | inl (t, same) ↦
        ap (λ k. list_all (is_wait many) (yields_in (slice_set yields p ys) k)) same
        ∙ ap (λ o. list_all (is_wait many) (unwrap_or o [])) (set_here yields p ys m) ∙ here
    | inr (f, other) ↦ ap (λ o. list_all (is_wait many) (unwrap_or o [])) (set_there yields p q ys other) ∙ all q
  ]

  -- the lines that a Poll records are two bits
  module _ (lines : (s : S) (h time : ℕ) → machine.flat.lines_at s h time < 4) (most : many ≤ MAX_HARTS) where
    bits_are : (s : Replay S) (h count ord time bits : ℕ) → broken_rule machine.flat s h (Makes (Poll count ord time bits)) ≡ None → bits < 4
    bits_are s h count ord time bits none = elim (eqb_tells (machine.flat.lines_at s.flat h time) bits) [
      | inl (t, same) ↦ let l = lines s.flat h time in omega (arith, same, l)
      | inr (f, other) ↦ absurd (none-some 5 (sym none
          ∙ ap (λ b. option_map (λ (t : ℕ × Bool). t.0) (cond (not b) (Some (5, not b)) (cond (machine.flat.is_stopped s.flat)
          (Some (6, machine.flat.is_stopped s.flat)) None))) f))
    ]

    entry_in : (r m : Recording S) (h : ℕ) (e : Entry) → IsRecorded machine.flat r h (Makes e) m → Allowed machine.flat pages terms.limit r h (Makes e)
        → IsFewAt r → is_entry many pages e ≡ true
    entry_in r m h (Gain count page seq mode waits) is allowed few =
        let l = allowed.2 in
        let there : h < many = (let z = few.size in let y = is.hart in omega (arith, z, y)) in
        let number = number_met r.at.cursor.numbers page seq (goes_met r.at h (Gain count page seq mode waits) is.goes).0 in
        let due = waits_few r page h seq few l there number in
        let same : waits.items ≡ waits_due (log_of machine terms (board_of r)) page h seq =
        allowed.5 ∙ waits_alike (log_so_far machine.flat pages terms.limit r) (log_of machine terms (board_of r)) page h seq (λ j less. refl) in
        ap₂ (λ p q. p && q)
        (ap₂ (λ p q. p && q) (lt-ltb page pages l) (le-leb (length waits.items) 7 (let z = ap length same in let d = due.0 in omega (arith, z, d))))
        (ap (list_all (is_wait many)) same ∙ due.1)
    entry_in r m h (Yield count page seq left) is allowed few =
        ap₂ (λ p q. p && q) (lt-ltb page pages allowed.1) (left_is left (held r.at.holders page h) allowed.2)
    entry_in r m h (Poll count ord time bits) is allowed few =
        lt-ltb bits 4 (bits_are r.at h count ord time bits (goes_met r.at h (Poll count ord time bits) is.goes).1)
    entry_in r m h (Touch count ord input) is allowed few = refl
    entry_in r m h (End count) is allowed few = refl

    -- the rows and Yields after an entry
    rows_after : (r : Recording S) (h : ℕ) (e : Entry) (few : IsFewAt r) → h < many → Allowed machine.flat pages terms.limit r h (Makes e)
        → ((q : ℕ) → q < pages → AreFew (row (holders_by h e r.at.holders) q) (yields_in (yields_by h e (page_number e) few.yields) q))
        × ((q : ℕ) → list_all (is_wait many) (yields_in (yields_by h e (page_number e) few.yields) q) ≡ true)
    rows_after r h (Gain count page seq mode waits) few inside allowed =
        let l = allowed.2 in
        let size = few.fits.rows page l in
        let place : page < length r.at.holders = (let z = few.fits.holders_size in omega (arith, z, l)) in
        let there : page < length few.yields = (let z = few.are.size in let y = few.fits.numbers_size in omega (arith, l, z, y)) in (
          few_set r.at.holders few.yields page h (Some mode) [] place there
              (few_gained mode (row r.at.holders page) h (omega (arith, size, most)) (omega (arith, size, inside)) (λ g m n. allowed.4 g n)) few.few,
          inside_set few.yields page [] there refl few.inside,
        )
    rows_after r h (Yield count page seq left) few inside allowed =
        let l = allowed.1 in
        let size = few.fits.rows page l in
        let place : page < length r.at.holders = (let z = few.fits.holders_size in omega (arith, z, l)) in
        let there : page < length few.yields = (let z = few.are.size in let y = few.fits.numbers_size in omega (arith, l, z, y)) in
        let ys = yields_in few.yields page ++ record { hart = h; count = count } ∷ [] in (
          few_set r.at.holders few.yields page h left ys place there
              (few_yielded (row r.at.holders page) (yields_in few.yields page) h count left (few.few page l) (omega (arith, size, inside)) allowed.2) few.few,
          inside_set few.yields page ys there (list_all-append (is_wait many) (yields_in few.yields page) (record { hart = h; count = count } ∷ [])
              ∙ ap₂ (λ p q. p && (q && true)) (few.inside page) (lt-ltb h many inside)) few.inside,
        )
    rows_after r h (Poll count ord time bits) few inside allowed = (few.few, few.inside)
    rows_after r h (Touch count ord input) few inside allowed = (few.few, few.inside)
    rows_after r h (End count) few inside allowed = (few.few, few.inside)

    -- the page and number of an entry that goes
    number_of : (r : Recording S) (h : ℕ) (e : Entry) → verdict_on machine.flat r.at h (Makes e) ≡ CanGo
        → Allowed machine.flat pages terms.limit r h (Makes e) → (p : ℕ × ℕ) → page_number e ≡ Some p → (p.0 < pages) × (p.1 ≡ next_number (board_of r) p.0)
    number_of r h (Gain count page seq mode waits) goes allowed p is =
        subst (λ (z : ℕ × ℕ). (z.0 < pages) × (z.1 ≡ next_number (board_of r) z.0)) (same_Some _ _ is)
        (allowed.2, number_met r.at.cursor.numbers page seq (goes_met r.at h (Gain count page seq mode waits) goes).0)
    number_of r h (Yield count page seq left) goes allowed p is =
        subst (λ (z : ℕ × ℕ). (z.0 < pages) × (z.1 ≡ next_number (board_of r) z.0)) (same_Some _ _ is)
        (allowed.1, number_met r.at.cursor.numbers page seq (goes_met r.at h (Yield count page seq left) goes).0)
    number_of r h (Poll count ord time bits) goes allowed p is = absurd (none-some _ is)
    number_of r h (Touch count ord input) goes allowed p is = absurd (none-some _ is)
    number_of r h (End count) goes allowed p is = absurd (none-some _ is)

    few_item : (r m : Recording S) (h : ℕ) (item : Item) → IsRecorded machine.flat r h item m → Allowed machine.flat pages terms.limit r h item
        → IsFewAt r → IsFewAt m
    few_item r m h Ended is allowed few = absurd allowed
    few_item r m h Move is allowed few =
        let numbers = acted_numbers r.at m.at (acts.Run h) is.made in
        let holders = acted_holders r.at m.at (acts.Run h) is.made in
        record {
          yields = few.yields;
          are = waits_stay machine terms (board_of r) (board_of m) few.yields is.streams numbers few.are;
          few = λ q l. subst (λ hs. AreFew (row hs q) (yields_in few.yields q)) (sym holders) (few.few q l);
          inside = few.inside;
          entries = λ g. ap (λ ss. list_all (is_entry many pages) (stream_in ss g)) is.streams ∙ few.entries g;
          fits = fits_item machine.flat many pages r.at m.at h Move few.fits is.made;
          size = ap (λ (ss : List (List Entry)). length ss) is.streams ∙ few.size;
        }
    few_item r m h (Makes e) is allowed few =
        let inside : h < many = (let z = few.size in let y = is.hart in omega (arith, z, y)) in
        let rows = rows_after r h e few inside allowed in
        let holders = entry_holders r.at m.at h e is.made in
        let streams : m.streams ≡ slice_set r.streams h (stream_in r.streams h ++ e ∷ []) = is.streams in
        let entry : entered machine terms h e (board_of r) ≡ Some (board_of m) =
        ap (option_map (λ (s : Replay S). record (board_of r) { at = s; streams = slice_set r.streams h (stream_in r.streams h ++ e ∷ []) })) is.made
        ∙ ap (λ ss. Some (record (board_of r) { at = m.at; streams = ss })) (sym streams) in
        record {
          yields = yields_by h e (page_number e) few.yields;
          are = waits_follow machine terms h e (board_of r) (board_of m) few.yields is.hart
              (λ p at. let z = number_of r h e is.goes allowed p at in
              ((let a = z.0 in let b = few.are.size in let c = few.fits.numbers_size in omega (arith, a, b, c)), z.1)) entry few.are;
          few = λ q l. subst (λ hs. AreFew (row hs q) (yields_in (yields_by h e (page_number e) few.yields) q)) (sym holders) (rows.0 q l);
          inside = rows.1;
          entries = λ g. ap (λ ss. list_all (is_entry many pages) (stream_in ss g)) streams
              ∙ entries_more r.streams h e is.hart (entry_in r m h e is allowed few) few.entries g;
          fits = fits_item machine.flat many pages r.at m.at h (Makes e) few.fits is.made;
          size = ap (λ (ss : List (List Entry)). length ss) streams ∙ length-set r.streams h (stream_in r.streams h ++ e ∷ []) ∙ few.size;
        }

    -- items keep it
    pub few_all : (r s : Recording S) (items : List (ℕ × Item)) (is : Records machine.flat r items s) → AreAllowed machine.flat pages terms.limit r s items is
        → IsFewAt r → IsFewAt s
    few_all r s [] is allowed few = subst IsFewAt is few
    few_all r s (x ∷ items) is allowed few = few_all is.0 s items is.2 allowed.1 (few_item r is.0 x.0 x.1 is.1 allowed.0 few)
