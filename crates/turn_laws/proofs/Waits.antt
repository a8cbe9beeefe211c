-- What a hart that gains a page waits for, along the entries of a board.
use Rattle.std.proofs.Common.{◌≡◌, ◌≢◌, ◌⊎◌, inl, inr, ℕ, zero, suc, ◌+◌, ◌<◌, ◌≤◌, ◌==◌, Bool, true, false, cond, List, [], ◌∷◌, ◌++◌, length, map, flat_map}
use Rattle.std.proofs.Common.{find, replicate, Option, Some, None, slice_get, slice_index, slice_set, unwrap_or, refl, sym, ap, ap₂, ◌∙◌, subst, arith}
use Rattle.std.proofs.Common.{if◌then◌else◌}
use Rattle.std.specs.List.{enumerate_from}
use Rattle.std.specs.Option.{option_map, option_or, option_and_then}
use Rattle.std.proofs.lemmas.Option.{none-some, same_Some, get_or_from_slice_get}
use Rattle.std.proofs.lemmas.Bool.{eq-eqb, ne_eqb}
use Rattle.std.proofs.lemmas.Bool.Decides.{eqb_tells}
use Rattle.std.proofs.lemmas.List.Folds.{find-append}
use Rattle.rv_words.specs.declared.shared.Mode.{Mode}
use Rattle.log_entry.specs.declared.waits.WaitFor.{WaitFor}
use Rattle.log_entry.specs.declared.log.Entry.{Entry}
use Rattle.log_entry.specs.declared.log.Entry.TheVariants.{Gain, Yield, Poll, Touch, End}
use Rattle.log_entry.specs.declared.log.Log.{Log}
use Rattle.log_entry.specs.Parts.{page_number}
use Rattle.flat_machine.specs.declared.act.Act.{Act}
use Rattle.flat_machine.specs.declared.act.Act.TheVariants as acts
use Rattle.order_rules.specs.Places.{number_on, is_number, numbered}
use Rattle.order_rules.specs.Cursor.{Cursor, taken}
use Rattle.order_rules.specs.Rules.{waits_due, waits_after, yields_after}
use Rattle.order_rules.proofs.Takings.{numbers_by}
use Rattle.replay_model.specs.State.{Replay}
use Rattle.replay_model.specs.Items.{Move, Makes, Verdict, HasEnded, Holds, CanGo, HasDiverged, goes, verdict_on, made, acted, effect, past, holds}
use Rattle.replay_model.specs.Items.{ends_reservation}
use Rattle.shared_types.proofs.Lists.{mapped, bound_to, set_here, set_there, neither_there, nothing_mapped}
use Rattle.replay_model.proofs.ActsOfOrders.{went}
use Rattle.crew_recording.specs.Recording.{stream_in}
use Rattle.std.proofs.lemmas.List.{length-set, length-replicate}
use Rattle.replay_law.proofs.Cursors.{index_there}
use Rattle.privilege_directory.specs.Directory.{by_others}
use Rattle.privilege_directory.proofs.Follow.{number_at_start, after_entry}
use Rattle.turn_model.specs.Recordable.{Recordable}
use Rattle.turn_model.specs.Board.{Board, Supply, Terms, board_at_start, count, log_of, stream}
use Rattle.turn_model.specs.Ways.{entered}
use Rattle.turn_model.specs.Steps.{runs, next_number, gain_of}
use Rattle.turn_laws.specs.Waits.{yields_in, yields_by, AreYields}

-- the first entry of some streams that passes a test, with its hart, from this one on
abbrev look : (Entry → Bool) → ℕ → List (List Entry) → Option (ℕ × Entry)
look test n [] = None
look test n (s ∷ streams) = option_or (option_map (λ e. (n, e)) (find test s)) (look test (n + 1) streams)

find_with : (test : Entry → Bool) (n : ℕ) (xs : List Entry)
    → find (λ (x : ℕ × Entry). test x.1) (map (λ e. (n, e)) xs) ≡ option_map (λ e. (n, e)) (find test xs)
find_with test n [] = refl
find_with test n (x ∷ xs) = by (test x) (find_with test n xs) where
  by : (b : Bool) → find (λ (x : ℕ × Entry). test x.1) (map (λ e. (n, e)) xs) ≡ option_map (λ e. (n, e)) (find test xs)
      → cond b (Some (n, x)) (find (λ (x : ℕ × Entry). test x.1) (map (λ e. (n, e)) xs)) ≡ option_map (λ e. (n, e)) (cond b (Some x) (find test xs))
  by true rest = refl
  by false rest = rest

or_none : {X : Type 0} (o : Option X) → option_or o None ≡ o
or_none None = refl
or_none (Some x) = refl

-- the Ends pass no test
look_is : (test : Entry → Bool) (count : ℕ → ℕ) (n : ℕ) (streams : List (List Entry)) → ((c : ℕ) → test (End c) ≡ false)
    → find (λ (x : ℕ × Entry). test x.1) (flat_map (λ (s : ℕ × List Entry). map (λ e. (s.0, e)) s.1)
    (enumerate_from n (map (λ (s : ℕ × List Entry). s.1 ++ End (count s.0) ∷ []) (enumerate_from n streams)))) ≡ look test n streams
look_is test count n [] ends = refl
look_is test count n (s ∷ streams) ends =
    find-append (λ (x : ℕ × Entry). test x.1) (map (λ e. (n, e)) (s ++ End (count n) ∷ []))
    (flat_map (λ (s : ℕ × List Entry). map (λ e. (s.0, e)) s.1)
    (enumerate_from (n + 1) (map (λ (s : ℕ × List Entry). s.1 ++ End (count s.0) ∷ []) (enumerate_from (n + 1) streams))))
    ∙ ap₂ option_or (find_with test n (s ++ End (count n) ∷ [])
    ∙ ap (option_map (λ e. (n, e))) (find-append test s (End (count n) ∷ [])
    ∙ ap (λ b. option_or (find test s) (cond b (Some (End (count n))) None)) (ends (count n)) ∙ or_none (find test s)))
    (look_is test count (n + 1) streams ends)

-- an entry more that doesn't pass
look_other : (test : Entry → Bool) (n h : ℕ) (e : Entry) (streams : List (List Entry)) → test e ≡ false
    → look test n (slice_set streams h (stream_in streams h ++ e ∷ [])) ≡ look test n streams
look_other test n h e [] fails = refl
look_other test n zero e (s ∷ streams) fails =
    ap (λ o. option_or (option_map (λ e. (n, e)) o) (look test (n + 1) streams))
    (find-append test s (e ∷ []) ∙ ap (λ b. option_or (find test s) (cond b (Some e) None)) fails ∙ or_none (find test s))
look_other test n (suc h) e (s ∷ streams) fails = ap (option_or (option_map (λ e. (n, e)) (find test s))) (look_other test (n + 1) h e streams fails)

-- and one that passes, alone
look_new : (test : Entry → Bool) (n h : ℕ) (e : Entry) (streams : List (List Entry)) → h < length streams → test e ≡ true → look test n streams ≡ None
    → look test n (slice_set streams h (stream_in streams h ++ e ∷ [])) ≡ Some (n + h, e)
look_new test n h e [] l passes none = absurd (omega (arith, l))
look_new test n zero e (s ∷ streams) l passes none =
    let first =
    nothing_mapped {Y = ℕ × Entry} (λ (e : Entry). (n, e)) (find test s)
    (neither_there (option_map (λ e. (n, e)) (find test s)) (look test (n + 1) streams) none).0 in
    ap (λ o. option_or (option_map (λ e. (n, e)) o) (look test (n + 1) streams))
    (find-append test s (e ∷ []) ∙ ap₂ (λ o b. option_or o (cond b (Some e) None)) first passes)
    ∙ ap (λ k. Some (k, e)) (plus_none n)
  where
    plus_none : (n : ℕ) → n ≡ n + 0
    plus_none n = omega arith
look_new test n (suc h) e (s ∷ streams) l passes none =
    let both = neither_there (option_map (λ e. (n, e)) (find test s)) (look test (n + 1) streams) none in
    ap₂ (λ o p. option_or (option_map (λ e. (n, e)) o) p) (nothing_mapped {Y = ℕ × Entry} (λ (e : Entry). (n, e)) (find test s) both.0)
    (look_new test (n + 1) h e streams (omega (arith, l)) passes both.1)
    ∙ ap (λ k. Some (k, e)) (plus_one n h)
  where
    plus_one : (n h : ℕ) → n + 1 + h ≡ n + suc h
    plus_one n h = omega arith

number_is : (page : ℕ) (e : Entry) (o : Option (ℕ × ℕ)) → page_number e ≡ o → number_on page e ≡ option_and_then (λ x. if x.0 == page then Some x.1 else None) o
number_is page e o is = ap (option_and_then (λ (x : ℕ × ℕ). if x.0 == page then Some x.1 else None)) is

-- waits hang on the entries with lesser numbers
pub waits_alike : (one other : Log) (page h k : ℕ) → ((j : ℕ) → j < k → numbered one page j ≡ numbered other page j)
    → waits_due one page h k ≡ waits_due other page h k
waits_alike one other page h zero same = refl
waits_alike one other page h (suc k) same = ap₂ (waits_after h) (waits_alike one other page h k (λ j l. same j (omega (arith, l)))) (same k (omega arith))

pub yields_at_start : (pages page : ℕ) → yields_in (replicate pages []) page ≡ []
yields_at_start zero page = refl
yields_at_start (suc n) zero = refl
yields_at_start (suc n) (suc i) = yields_at_start n i

-- the numbers after an entry
numbers_taken : (c : Cursor) (h : ℕ) (e : Entry) → (taken c h e).numbers ≡ numbers_by (page_number e) c.numbers
numbers_taken c h (Gain count page seq mode waits) = refl
numbers_taken c h (Yield count page seq left) = refl
numbers_taken c h (Poll count ord time bits) = refl
numbers_taken c h (Touch count ord input) = refl
numbers_taken c h (End count) = refl

module _ {S V : Type 0} (machine : Recordable S V) (terms : Terms) where
  acted_cursor : (s t : Replay S) (act : Act) → acted machine.flat s act ≡ Some t → t.cursor ≡ s.cursor
  acted_cursor s t act is = sym (ap (λ (x : Replay S). x.cursor) (mapped (λ (f : S). record s { flat = f }) (machine.flat.next s.flat act) t is).2)

  yield_cursor : (s t : Replay S) (h page : ℕ) (left : Option Mode) (b : Bool)
      → option_map (holds machine.flat page h left) (if b then acted machine.flat s (acts.Lose h) else Some s) ≡ Some t → t.cursor ≡ s.cursor
  yield_cursor s t h page left false is = sym (ap (λ (x : Replay S). x.cursor) (same_Some _ _ is))
  yield_cursor s t h page left true is =
      let a = mapped (holds machine.flat page h left) (acted machine.flat s (acts.Lose h)) t is in
      sym (ap (λ (x : Replay S). x.cursor) a.2) ∙ acted_cursor s a.0 (acts.Lose h) a.1

  effect_cursor : (s t : Replay S) (h : ℕ) (e : Entry) → effect machine.flat s h e ≡ Some t → t.cursor ≡ s.cursor
  effect_cursor s t h (Gain count page seq mode waits) is = sym (ap (λ (x : Replay S). x.cursor) (same_Some _ _ is))
  effect_cursor s t h (Yield count page seq left) is = yield_cursor s t h page left (ends_reservation machine.flat s h page) is
  effect_cursor s t h (Poll count ord time bits) is = acted_cursor s t (acts.Poll h time) is
  effect_cursor s t h (Touch count ord input) is = acted_cursor s t (acts.Touch h input) is
  effect_cursor s t h (End count) is = absurd (none-some _ is)

  numbers_after : (h : ℕ) (e : Entry) (b c : Board S) → entered machine terms h e b ≡ Some c
      → (c.at.cursor.numbers ≡ numbers_by (page_number e) b.at.cursor.numbers) × (c.streams ≡ slice_set b.streams h (stream_in b.streams h ++ e ∷ []))
  numbers_after h e b c is =
      let a =
      mapped (λ (s : Replay S). record b { at = s; streams = slice_set b.streams h (stream b h ++ e ∷ []) }) (made machine.flat b.at h (Makes e)) c is in
      let i = mapped (past machine.flat h e) (effect machine.flat b.at h e) a.0 a.1 in (
        sym (ap (λ (x : Board S). x.at.cursor.numbers) a.2) ∙ sym (ap (λ (x : Replay S). x.cursor.numbers) i.2)
            ∙ ap (λ (k : Cursor). (taken k h e).numbers) (effect_cursor b.at i.0 h e i.1) ∙ numbers_taken b.at.cursor h e,
        sym (ap (λ (x : Board S). x.streams) a.2),
      )

  abbrev test_of : ℕ → ℕ → Entry → Bool
  test_of page k e = is_number k (number_on page e)

  numbered_is : (b : Board S) (page k : ℕ) → numbered (log_of machine terms b) page k ≡ look (test_of page k) 0 b.streams
  numbered_is b page k = look_is (test_of page k) (machine.flat.count b.at.flat) 0 b.streams (λ c. refl)

  -- of another page, or another number
  numbered_other : (h : ℕ) (e : Entry) (b c : Board S) (page k : ℕ) → c.streams ≡ slice_set b.streams h (stream_in b.streams h ++ e ∷ [])
      → test_of page k e ≡ false → numbered (log_of machine terms c) page k ≡ numbered (log_of machine terms b) page k
  numbered_other h e b c page k streams fails =
      numbered_is c page k ∙ ap (look (test_of page k) 0) streams ∙ look_other (test_of page k) 0 h e b.streams fails ∙ sym (numbered_is b page k)

  numbered_new : (h : ℕ) (e : Entry) (b c : Board S) (page k : ℕ) → h < length b.streams → c.streams ≡ slice_set b.streams h (stream_in b.streams h ++ e ∷ [])
      → test_of page k e ≡ true → numbered (log_of machine terms b) page k ≡ None → numbered (log_of machine terms c) page k ≡ Some (h, e)
  numbered_new h e b c page k l streams passes none =
      numbered_is c page k ∙ ap (look (test_of page k) 0) streams ∙ look_new (test_of page k) 0 h e b.streams l passes (sym (numbered_is b page k) ∙ none)
      ∙ ap (λ z. Some (z, e)) (none_plus h)
    where
      none_plus : (h : ℕ) → 0 + h ≡ h
      none_plus h = omega arith

  pub waits_begin : (harts : ℕ) (first : S) (supply : Supply) → AreYields machine terms (board_at_start terms harts first supply) (replicate terms.pages [])
  waits_begin harts first supply = record {
    size = length-replicate terms.pages [] ∙ sym (length-replicate terms.pages 0);
    none_yet = λ page k l. numbered_is (board_at_start terms harts first supply) page k ∙ nothing (test_of page k) 0 harts;
    waits =
        λ page h l. ap (waits_due (log_of machine terms (board_at_start terms harts first supply)) page h) (number_at_start terms.pages page)
        ∙ sym (ap (by_others h) (yields_at_start terms.pages page));
  } where
    nothing : (test : Entry → Bool) (n k : ℕ) → look test n (replicate k []) ≡ None
    nothing test n zero = refl
    nothing test n (suc k) = nothing test (n + 1) k

  numbered_same : (b c : Board S) (page k : ℕ) → c.streams ≡ b.streams → numbered (log_of machine terms c) page k ≡ numbered (log_of machine terms b) page k
  numbered_same b c page k streams = numbered_is c page k ∙ ap (look (test_of page k) 0) streams ∙ sym (numbered_is b page k)

  pub waits_stay : (b c : Board S) (yields : List (List WaitFor)) → c.streams ≡ b.streams → c.at.cursor.numbers ≡ b.at.cursor.numbers
      → AreYields machine terms b yields → AreYields machine terms c yields
  waits_stay b c yields streams numbers are = record {
    size = are.size ∙ sym (ap (λ (ns : List ℕ). length ns) numbers);
    none_yet = λ page k l. numbered_same b c page k streams ∙ are.none_yet page k (let z = ap (λ ns. slice_index ns page) numbers in omega (arith, l, z));
    waits =
        λ page h l. ap (waits_due (log_of machine terms c) page h) (ap (λ ns. slice_index ns page) numbers)
        ∙ waits_alike (log_of machine terms c) (log_of machine terms b) page h (next_number b page) (λ j less. numbered_same b c page j streams)
        ∙ are.waits page h l;
  }

  pub waits_tell : (h : ℕ) (n : ℕ × Mode) (b : Board S) (yields : List (List WaitFor)) → n.0 < length yields → AreYields machine terms b yields
      → gain_of machine terms h n b ≡ Gain (count machine terms b h) n.0 (next_number b n.0) n.1
      (record { items = by_others h (yields_in yields n.0); room = 0 })
  waits_tell h n b yields l are =
      ap (λ waits. Gain (machine.flat.count b.at.flat h) n.0 (next_number b n.0) n.1 (record { items = waits; room = 0 })) (are.waits n.0 h l)

  pub waits_follow : (h : ℕ) (e : Entry) (b c : Board S) (yields : List (List WaitFor)) → h < length b.streams
      → ((p : ℕ × ℕ) → page_number e ≡ Some p → (p.0 < length yields) × (p.1 ≡ next_number b p.0)) → entered machine terms h e b ≡ Some c
      → AreYields machine terms b yields → AreYields machine terms c (yields_by h e (page_number e) yields)
  waits_follow h e b c yields l guard is are = let x = numbers_after h e b c is in by (page_number e) refl x.0 guard where
    streams : c.streams ≡ slice_set b.streams h (stream_in b.streams h ++ e ∷ [])
    streams = (numbers_after h e b c is).1

    -- an entry of no page
    beside : page_number e ≡ None → c.at.cursor.numbers ≡ b.at.cursor.numbers → AreYields machine terms c yields
    beside none numbers = record {
      size = are.size ∙ sym (ap (λ (ns : List ℕ). length ns) numbers);
      none_yet =
          λ page k low. numbered_other h e b c page k streams (ap (is_number k) (number_is page e None none))
          ∙ are.none_yet page k (let z = ap (λ ns. slice_index ns page) numbers in omega (arith, low, z));
      waits = λ page g low. ap (waits_due (log_of machine terms c) page g) (ap (λ ns. slice_index ns page) numbers)
          ∙ waits_alike (log_of machine terms c) (log_of machine terms b) page g (next_number b page)
          (λ j less. numbered_other h e b c page j streams (ap (is_number j) (number_is page e None none))) ∙ are.waits page g low;
    }

    -- an entry of a page
    within : (p : ℕ × ℕ) → page_number e ≡ Some p → p.0 < length yields → p.1 ≡ next_number b p.0
        → c.at.cursor.numbers ≡ slice_set b.at.cursor.numbers p.0 (p.1 + 1)
        → AreYields machine terms c (slice_set yields p.0 (yields_after h e (yields_in yields p.0)))
    within p at inside number numbers = record {
      size =
          length-set yields p.0 (yields_after h e (yields_in yields p.0)) ∙ are.size
          ∙ sym (ap (λ (ns : List ℕ). length ns) numbers ∙ length-set b.at.cursor.numbers p.0 (p.1 + 1));
      none_yet = λ page k low. none page k low (eqb_tells page p.0);
      waits = λ page g low. waits page g low (eqb_tells page p.0);
    } where
      there : p.0 < length b.at.cursor.numbers
      there = let z = are.size in omega (arith, inside, z)

      here : next_number c p.0 ≡ p.1 + 1
      here = get_or_from_slice_get c.at.cursor.numbers p.0 (p.1 + 1) 0 (ap (λ ns. slice_get ns p.0) numbers ∙ set_here b.at.cursor.numbers p.0 (p.1 + 1) there)

      away : (page : ℕ) → page ≢ p.0 → next_number c page ≡ next_number b page
      away page other = ap (λ ns. slice_index ns page) numbers ∙ index_there b.at.cursor.numbers p.0 page (p.1 + 1) other

      fails_away : (page k : ℕ) → page ≢ p.0 → test_of page k e ≡ false
      fails_away page k other = ap (is_number k) (number_is page e (Some p) at ∙ ap (λ x. if x then Some p.1 else None) (ne_eqb p.0 page (λ z. other (sym z))))

      test_here : (k : ℕ) → test_of p.0 k e ≡ (p.1 == k)
      test_here k = ap (is_number k) (number_is p.0 e (Some p) at ∙ ap (λ x. if x then Some p.1 else None) (eq-eqb p.0 p.0 refl))

      none : (page k : ℕ) → next_number c page ≤ k → (((page == p.0) ≡ true) × (page ≡ p.0)) ⊎ (((page == p.0) ≡ false) × (page ≢ p.0))
          → numbered (log_of machine terms c) page k ≡ None
      none page k low (inr (f, other)) =
          numbered_other h e b c page k streams (fails_away page k other) ∙ are.none_yet page k (let z = away page other in omega (arith, low, z))
      none page k low (inl (t, same)) =
          let low' : next_number c p.0 ≤ k = subst (λ q. next_number c q ≤ k) same low in
          subst (λ q. numbered (log_of machine terms c) q k ≡ None) (sym same)
          (numbered_other h e b c p.0 k streams (test_here k ∙ ne_eqb p.1 k (λ z. absurd (let w = here in omega (arith, z, low', w))))
          ∙ are.none_yet p.0 k (let w = here in omega (arith, low', w, number)))

      waits : (page g : ℕ) → page < length (slice_set yields p.0 (yields_after h e (yields_in yields p.0))) → (((page == p.0) ≡ true) × (page ≡ p.0))
          ⊎ (((page == p.0) ≡ false) × (page ≢ p.0))
          → waits_due (log_of machine terms c) page g (next_number c page) ≡ by_others g
          (yields_in (slice_set yields p.0 (yields_after h e (yields_in yields p.0))) page)
      waits page g low (inr (f, other)) =
          let size = length-set yields p.0 (yields_after h e (yields_in yields p.0)) in
          ap (waits_due (log_of machine terms c) page g) (away page other)
          ∙ waits_alike (log_of machine terms c) (log_of machine terms b) page g (next_number b page)
          (λ j less. numbered_other h e b c page j streams (fails_away page j other))
          ∙ are.waits page g (omega (arith, low, size))
          ∙ ap (λ o. by_others g (unwrap_or o [])) (sym (set_there yields p.0 page (yields_after h e (yields_in yields p.0)) other))
      waits page g low (inl (t, same)) =
          subst (λ q. waits_due (log_of machine terms c) q g (next_number c q) ≡ by_others g
          (yields_in (slice_set yields p.0 (yields_after h e (yields_in yields p.0))) q)) (sym same)
          (ap (waits_due (log_of machine terms c) p.0 g) (here ∙ one_more p.1)
          ∙ ap₂ (waits_after g)
          (waits_alike (log_of machine terms c) (log_of machine terms b) p.0 g p.1
          (λ j less. numbered_other h e b c p.0 j streams (test_here j ∙ ne_eqb p.1 j (λ z. absurd (omega (arith, z, less))))))
          (numbered_new h e b c p.0 p.1 l streams (test_here p.1 ∙ eq-eqb p.1 p.1 refl) (are.none_yet p.0 p.1 (omega (arith, number))))
          ∙ after_entry g h e (waits_due (log_of machine terms b) p.0 g p.1) (yields_in yields p.0)
          (ap (waits_due (log_of machine terms b) p.0 g) number ∙ are.waits p.0 g inside)
          ∙ ap (λ o. by_others g (unwrap_or o [])) (sym (set_here yields p.0 (yields_after h e (yields_in yields p.0)) inside)))
        where
          one_more : (k : ℕ) → k + 1 ≡ suc k
          one_more k = omega arith

    by : (o : Option (ℕ × ℕ)) → page_number e ≡ o → c.at.cursor.numbers ≡ numbers_by o b.at.cursor.numbers
        → ((p : ℕ × ℕ) → o ≡ Some p → (p.0 < length yields) × (p.1 ≡ next_number b p.0)) → AreYields machine terms c (yields_by h e o yields)
    by None at numbers ok = beside at numbers
    by (Some p) at numbers ok = let k = ok p refl in within p at k.0 k.1 numbers

  -- moves leave numbers and holders
  pub moves_keep : (h k : ℕ) (s t : Replay S) → runs machine terms h k s ≡ Some t → (t.cursor ≡ s.cursor) × (t.holders ≡ s.holders)
  moves_keep h zero s t is = let e = sym (same_Some _ _ is) in (ap (λ (x : Replay S). x.cursor) e, ap (λ (x : Replay S). x.holders) e)
  moves_keep h (suc k) s t is =
      let m = bound_to (λ (m : Replay S × Option V). runs machine terms h k m.0) (goes machine.flat s h Move (verdict_on machine.flat s h Move)) t is in
      let one = moved (verdict_on machine.flat s h Move) m.0 m.1 in
      let rest = moves_keep h k m.0.0 t m.2 in
      (rest.0 ∙ one.0, rest.1 ∙ one.1)
    where
      moved : (v : Verdict) (m : Replay S × Option V) → goes machine.flat s h Move v ≡ Some m → (m.0.cursor ≡ s.cursor) × (m.0.holders ≡ s.holders)
      moved CanGo m e =
          let a = went machine.flat s m.0 h Move CanGo m.1 e in
          let b = mapped (λ (f : S). record s { flat = f }) (machine.flat.next s.flat (acts.Run h)) m.0 a in
          (sym (ap (λ (x : Replay S). x.cursor) b.2), sym (ap (λ (x : Replay S). x.holders) b.2))
      moved HasEnded m e = absurd (none-some _ e)
      moved Holds m e = absurd (none-some _ e)
      moved (HasDiverged rule) m e = absurd (none-some _ e)
