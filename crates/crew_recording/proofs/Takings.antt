-- The log of a recording is taken whole in the order in which it was recorded, the Ends last.
use Rattle.std.proofs.Common.{◌≡◌, ◌≢◌, ◌⊎◌, ℕ, zero, suc, ◌+◌, ◌<◌, ◌≤◌, ◌==◌, Bool, true, false, cond, List, [], ◌∷◌, ◌++◌, length, find, Option, Some, None}
use Rattle.std.proofs.Common.{slice_get, slice_set, slice_index, is_some, unwrap_or, refl, sym, ap, ◌∙◌, subst, inl, inr, arith}
use Rattle.std.specs.Option.{option_map, option_and_then}
use Rattle.std.proofs.lemmas.Bool.Decides.{eqb_tells, leb_tells}
use Rattle.std.proofs.lemmas.List.{length_push, get_or-set_other, length-set}
use Rattle.std.proofs.lemmas.Option.{get_or_from_slice_get, slice_get_past}
use Rattle.shared_types.proofs.Lists.{at_end, mapped, set_here}
use Rattle.orders_law.specs.Orders.{Leads}
use Rattle.orders_law.proofs.Leads.{leads_on}
use Rattle.rv_words.specs.declared.shared.Cause.{Cause}
use Rattle.log_entry.specs.declared.log.Entry.TheVariants as entries
use Rattle.log_entry.specs.declared.log.Log.{Log}
use Rattle.order_rules.specs.Places.{entry_at, harts}
use Rattle.order_rules.specs.Cursor.{Cursor, start, first_left, taken, take_one}
use Rattle.order_rules.specs.Orderly.{LeastOrderLeaves}
use Rattle.order_rules.proofs.Takings.{takes, guard_is, least_takes_all}
use Rattle.replay_model.specs.Flat.{Flat}
use Rattle.replay_model.specs.State.{Replay}
use Rattle.replay_model.specs.Items.{Item, Ended, Move, Makes}
use Rattle.flat_machine.specs.declared.act.Act.TheVariants.{Run}
use Rattle.crew_recording.specs.Recording.{Recording, IsSteady, IsRecorded, Records, stream_in}
use Rattle.crew_recording.specs.Allowed.{IsTimed, AreAllowed}
use Rattle.crew_recording.proofs.OrderedRecordings.{IsOrdered, made_entry, ordered_item}
use Rattle.crew_recording.proofs.Rules.{log, many_streams, stream_is, keeps_o5, keeps_o8}
use Rattle.crew_recording.proofs.Behind.{made_at}

none_found : (test : ℕ → Bool) (xs : List ℕ) → ((h : ℕ) → test h ≡ false) → find test xs ≡ None
none_found test [] each = refl
none_found test (x ∷ xs) each = ap (λ b. cond b (Some x) (find test xs)) (each x) ∙ none_found test xs each

module _ {S V : Type 0} (flat : Flat S V) (many : ℕ) (Good : S → Type 0) (steady : IsSteady flat many Good) (timed : IsTimed flat Good) (pages limit : ℕ)
    (image : List ℕ) (cause : Cause) (s : Recording S) (last : IsOrdered flat many Good steady timed pages limit s) where
  abbrev Ordered : Recording S → Type 0
  Ordered r = IsOrdered flat many Good steady timed pages limit r

  abbrev final : Log
  final = log flat many Good steady timed pages limit image cause s last

  abbrev count : ℕ → ℕ
  count h = flat.count s.at.flat h

  -- the first entry left of a hart in a recording whose places are tidy
  first_left_is : (c : Cursor) (h : ℕ) → h < many → first_left final c h ≡ slice_get (stream_in s.streams h ++ entries.End (count h) ∷ [])
      (slice_index c.places h)
  first_left_is c h l = ap (λ xs. slice_get xs (slice_index c.places h)) (stream_is flat many Good steady timed pages limit image cause s last h l)

  -- what was recorded is taken in that order
  recorded_taken : (r : Recording S) (items : List (ℕ × Item)) (is : Records flat r items s) → AreAllowed flat pages limit r s items is → Ordered r
      → (legs : List (ℕ × ℕ)) × Leads (take_one final) r.at.cursor legs s.at.cursor
  recorded_taken r [] is allowed ordered = ([], ap (λ (x : Recording S). x.at.cursor) is)
  recorded_taken r (x ∷ items) is allowed ordered = one_more x.1 is.1
      (recorded_taken is.0 items is.2 allowed.1 (ordered_item flat many Good steady timed pages limit r is.0 x.0 x.1 ordered is.1 allowed.0)) where
        one_more : (item : Item) → IsRecorded flat r x.0 item is.0 → (legs : List (ℕ × ℕ)) × Leads (take_one final) is.0.at.cursor legs s.at.cursor
            → (legs : List (ℕ × ℕ)) × Leads (take_one final) r.at.cursor legs s.at.cursor
        one_more Ended one more = absurd one.stands
        one_more Move one more =
            let a = mapped (λ (f : S). record r.at { flat = f }) (flat.next r.at.flat (Run x.0)) is.0.at one.made in
            (more.0, subst (λ (y : Replay S). Leads (take_one final) y.cursor more.0 s.at.cursor) (sym a.2) more.1)
        one_more (Makes e) one more =
            let m = made_entry flat many Good steady timed pages limit r is.0 x.0 e ordered.tidy.good one in
            let inside : x.0 < many = (let z = ordered.tidy.streams in let w = one.hart in omega (arith, z, w)) in
            let place : slice_index r.at.cursor.places x.0 ≡ length (stream_in r.streams x.0) = ordered.tidy.place x.0 inside in
            let first : first_left final r.at.cursor x.0 ≡ Some e = ap (entry_at final x.0) place
            ∙ made_at flat many Good steady timed pages limit image cause s last r is.0 x.0 e items one is.2 in
            let did = takes final x.0 r.at.cursor e first (guard_is r.at.cursor e ∙ m.guard) in (
              (x.0, slice_index r.at.cursor.places x.0) ∷ more.0,
              (taken r.at.cursor x.0 e, did, subst (λ c. Leads (take_one final) c more.0 s.at.cursor) m.cursor more.1),
            )

  -- the Ends of the first harts are taken
  pub record EndsTaken (k : ℕ) : Type 0 where
    pub cursor : Cursor
    pub legs : List (ℕ × ℕ)
    pub leads : Leads (take_one final) s.at.cursor legs cursor
    pub places : length cursor.places ≡ many
    pub before : (h : ℕ) → h < k → slice_index cursor.places h ≡ length (stream_in s.streams h) + 1
    pub behind : (h : ℕ) → k ≤ h → h < many → slice_index cursor.places h ≡ length (stream_in s.streams h)

  ends_taken : (k : ℕ) → k ≤ many → EndsTaken k
  ends_taken zero l = record {
    cursor = s.at.cursor;
    legs = [];
    leads = refl;
    places = last.tidy.places;
    before = λ h less. absurd (omega (arith, less));
    behind = λ h more less. last.tidy.place h less;
  }
  ends_taken (suc k) l = further (ends_taken k (omega (arith, l))) where
    further : EndsTaken k → EndsTaken (suc k)
    further t =
        let e = entries.End (count k) in
        let first : first_left final t.cursor k ≡ Some e = first_left_is t.cursor k (omega (arith, l))
        ∙ ap (slice_get (stream_in s.streams k ++ e ∷ [])) (t.behind k (omega arith) (omega (arith, l))) ∙ at_end (stream_in s.streams k) e in
        let did = takes final k t.cursor e first refl in
        record {
          cursor = taken t.cursor k e;
          legs = t.legs ++ (k, slice_index t.cursor.places k) ∷ [];
          leads = leads_on (take_one final) s.at.cursor t.cursor (taken t.cursor k e) t.legs ((k, slice_index t.cursor.places k) ∷ []) t.leads
              (taken t.cursor k e, did, refl);
          places = length-set t.cursor.places k (slice_index t.cursor.places k + 1) ∙ t.places;
          before = λ h less. place t h less (eqb_tells h k);
          behind = λ h more less. get_or-set_other t.cursor.places k h (slice_index t.cursor.places k + 1) 0 (λ same. absurd (omega (arith, more, same)))
              ∙ t.behind h (omega (arith, more)) less;
        }
      where
        place : (t : EndsTaken k) (h : ℕ) → h < suc k → (((h == k) ≡ true) × (h ≡ k)) ⊎ (((h == k) ≡ false) × (h ≢ k))
            → slice_index (slice_set t.cursor.places k (slice_index t.cursor.places k + 1)) h ≡ length (stream_in s.streams h) + 1
        place t h less (inl (b, same)) =
            subst (λ z. slice_index (slice_set t.cursor.places k (slice_index t.cursor.places k + 1)) z ≡ length (stream_in s.streams z) + 1) (sym same)
            (get_or_from_slice_get (slice_set t.cursor.places k (slice_index t.cursor.places k + 1)) k (slice_index t.cursor.places k + 1) 0
            (set_here t.cursor.places k (slice_index t.cursor.places k + 1) (let z = t.places in omega (arith, z, l)))
            ∙ ap (λ z. z + 1) (t.behind k (omega arith) (omega (arith, l))))
        place t h less (inr (b, n)) = get_or-set_other t.cursor.places k h (slice_index t.cursor.places k + 1) 0 n ∙ t.before h (omega (arith, less, n))

  none_left : (t : EndsTaken many) (h : ℕ) → first_left final t.cursor h ≡ None
  none_left t h = elim (leb_tells many h) [
    | inl (b, l) ↦ ap (λ o. slice_get (unwrap_or o []) (slice_index t.cursor.places h))
        (slice_get_past final.streams h (let z = many_streams flat many Good steady timed pages limit image cause s last in omega (arith, l, z)))
    | inr (b, l) ↦
        let e = entries.End (count h) in
        first_left_is t.cursor h (omega (arith, l)) ∙ slice_get_past (stream_in s.streams h ++ e ∷ []) (slice_index t.cursor.places h)
        (let z = t.before h (omega (arith, l)) in let w = length_push (stream_in s.streams h) e in omega (arith, z, w))
  ]

  pub taken_whole : (r : Recording S) (items : List (ℕ × Item)) (is : Records flat r items s) → AreAllowed flat pages limit r s items is → Ordered r
      → r.at.cursor ≡ start final → LeastOrderLeaves final None
  taken_whole r items is allowed ordered begins =
      let one = recorded_taken r items is allowed ordered in
      let two = ends_taken many (omega arith) in
      let left : (h : ℕ) → first_left final two.cursor h ≡ None = none_left two in
      least_takes_all final (keeps_o5 flat many Good steady timed pages limit image cause s last)
      (keeps_o8 flat many Good steady timed pages limit image cause s last) (one.0 ++ two.legs) two.cursor
      (record {
        leads = subst (λ c. Leads (take_one final) c (one.0 ++ two.legs) two.cursor) begins
            (leads_on (take_one final) r.at.cursor s.at.cursor two.cursor one.0 two.legs one.1 two.leads);
        over = λ h. ap (option_and_then _) (left h);
      })
      (ap (option_map (λ h. (h, slice_index two.cursor.places h)))
      (none_found (λ h. is_some (first_left final two.cursor h)) (harts final) (λ h. ap is_some (left h))))
