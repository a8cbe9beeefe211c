-- In an orderly log, harts that have not ended don't all hold.
use Rattle.std.proofs.Common.{◌≡◌, ◌≢◌, ◌⊎◌, ℕ, zero, suc, ◌+◌, ◌<◌, ◌≤◌, ◌==◌, ◌&&◌, ◌||◌, not, nat_lt, nat_le, Bool, true, false, List, [], ◌∷◌, ◌++◌, length}
use Rattle.std.proofs.Common.{find, Option, Some, None, slice_set, slice_index, is_some, refl, sym, ap, ap₂, ◌∙◌, subst, inl, inr, ⊎_elim, arith, if◌then◌else◌}
use Rattle.std.proofs.Common.{true≢false}
use Rattle.std.specs.Option.{option_and_then}
use Rattle.std.proofs.lemmas.Option.{none-some, same_Some, get_or_from_slice_get, slice_get_past}
use Rattle.std.proofs.lemmas.Bool.{eqb-true, or_parts}
use Rattle.std.proofs.lemmas.Bool.Decides.{eqb_tells, leb_tells}
use Rattle.std.proofs.lemmas.List.{get_or-set_other, length-replicate, length-set}
use Rattle.orders_law.proofs.Below.{none_below}
use Rattle.shared_types.proofs.Lists.{mapped, nothing_mapped, set_here}
use Rattle.orders_law.specs.Orders.{Leads, IsFull}
use Rattle.orders_law.proofs.Confluence.{orders_agree}
use Rattle.orders_law.proofs.Least.{least_is_full}
use Rattle.log_entry.specs.declared.log.Entry.{Entry}
use Rattle.log_entry.specs.declared.log.Entry.TheVariants as entries
use Rattle.log_entry.specs.declared.log.Log.{Log}
use Rattle.log_entry.specs.Parts.{count_of, is_end, page_number, ordinal_of, is_some_and, unit_of}
use Rattle.order_rules.specs.Places.{Placed, stream, entry_at, harts}
use Rattle.order_rules.specs.Cursor as cursor
use Rattle.order_rules.specs.Cursor.{Cursor, first_left, guard_is_met, taken, take_one, least_left}
use Rattle.order_rules.specs.Rules.{breaks_o1}
use Rattle.order_rules.specs.Orderly.{Keeps, o1, o5, o8, IsOrderly}
use Rattle.order_rules.proofs.Least.{none_passes}
use Rattle.order_rules.proofs.Numbers.{in_stream, below_length}
use Rattle.order_rules.proofs.Takings.{Any, took, met_by, numbers_by, ordinal_by, guard_is, taken_is, takes, takings_commute, takings_last, no_more_harts}
use Rattle.flat_machine.specs.declared.act.Act.TheVariants.{Run}
use Rattle.replay_model.specs.Flat.{Flat}
use Rattle.replay_model.specs.Board.{board}
use Rattle.replay_model.specs.State.{Replay, start}
use Rattle.replay_model.specs.Items.{Item, Ended, Move, Makes, Verdict, HasEnded, Holds, CanGo, HasDiverged, item_at, judged, broken_rule, verdict_on, made}
use Rattle.replay_model.specs.Items.{effect, past, goes, next_item, verdict, step}
use Rattle.replay_model.proofs.ActsOfOrders.{went}
use Rattle.crew_recording.proofs.Tests.{met}
use Rattle.crew_recording.specs.Recording.{IsSteady}
use Rattle.crew_recording.specs.Laws.{IsBoard}
use Rattle.replay_law.proofs.Pairs.{entry_left}
use Rattle.replay_ends.specs.Laws.{NobodyHoldsAlone}
use Rattle.crew_recording.proofs.Items.{same_places, entry_places}
use Rattle.crew_recording.proofs.Steady.{board_steady}
use Rattle.orders_law.proofs.Leads.{leads_on}

abbrev is_over : Item → Bool
is_over Ended = true
is_over item = false

-- where the next item is the end, an End is left first
end_left : (n : ℕ) (o : Option Entry) → item_at n o ≡ Ended → (e : Entry) × (o ≡ Some e) × (is_end e ≡ true)
end_left n None is = absurd (true≢false (sym (ap is_over is)))
end_left n (Some x) is = by (count_of x == n) (is_end x) refl is where
  by : (a b : Bool) → is_end x ≡ b → (if not a then Move else if b then Ended else Makes x) ≡ Ended → (e : Entry) × (Some x ≡ Some e) × (is_end e ≡ true)
  by false b t f = absurd (true≢false (sym (ap is_over f)))
  by true true t f = (x, refl, t)
  by true false t f = absurd (true≢false (sym (ap is_over f)))

abbrev is_ended : Verdict → Bool
is_ended HasEnded = true
is_ended v = false

abbrev is_held : Verdict → Bool
is_held Holds = true
is_held v = false

module _ {S V : Type 0} (flat : Flat S V) where
  ended_item : (s : Replay S) (h : ℕ) (item : Item) → verdict_on flat s h item ≡ HasEnded → item ≡ Ended
  ended_item s h Ended is = refl
  ended_item s h Move is = by (broken_rule flat s h Move) is where
    by : (o : Option ℕ) → judged flat o ≡ HasEnded → Move ≡ Ended
    by None f = absurd (true≢false (sym (ap is_ended f)))
    by (Some k) f = absurd (true≢false (sym (ap is_ended f)))
  ended_item s h (Makes e) is = by (guard_is_met s.cursor e) (broken_rule flat s h (Makes e)) is where
    by : (b : Bool) (o : Option ℕ) → (if b then judged flat o else Holds) ≡ HasEnded → Makes e ≡ Ended
    by true None f = absurd (true≢false (sym (ap is_ended f)))
    by true (Some k) f = absurd (true≢false (sym (ap is_ended f)))
    by false o f = absurd (true≢false (sym (ap is_ended f)))

  held_item : (s : Replay S) (h : ℕ) (item : Item) → verdict_on flat s h item ≡ Holds → (e : Entry) × (item ≡ Makes e) × (guard_is_met s.cursor e ≡ false)
  held_item s h Ended is = absurd (true≢false (sym (ap is_held is)))
  held_item s h Move is = by (broken_rule flat s h Move) is where
    by : (o : Option ℕ) → judged flat o ≡ Holds → (e : Entry) × (Move ≡ Makes e) × (guard_is_met s.cursor e ≡ false)
    by None f = absurd (true≢false (sym (ap is_held f)))
    by (Some k) f = absurd (true≢false (sym (ap is_held f)))
  held_item s h (Makes e) is = by (guard_is_met s.cursor e) refl (broken_rule flat s h (Makes e)) is where
    by : (b : Bool) → guard_is_met s.cursor e ≡ b → (o : Option ℕ) → (if b then judged flat o else Holds) ≡ Holds
        → (x : Entry) × (Makes e ≡ Makes x) × (guard_is_met s.cursor x ≡ false)
    by true g None f = absurd (true≢false (sym (ap is_held f)))
    by true g (Some k) f = absurd (true≢false (sym (ap is_held f)))
    by false g o f = (e, refl, g)

  can_go : (s : Replay S) (h : ℕ) (item : Item) (v : Verdict) (m : Replay S × Option V) → goes flat s h item v ≡ Some m → v ≡ CanGo
  can_go s h item CanGo m e = refl
  can_go s h item HasEnded m e = absurd (none-some _ e)
  can_go s h item Holds m e = absurd (none-some _ e)
  can_go s h item (HasDiverged rule) m e = absurd (none-some _ e)

  module _ (many : ℕ) (Good : S → Type 0) (steady : IsSteady flat many Good) (log : Log) where
    -- what a step does to the cursor is a taking, or nothing
    step_takes : (s : Replay S) (h : ℕ) (m : Replay S) (w : Option V) → step flat log h s ≡ Some (m, w)
        → (legs : List (ℕ × ℕ)) × Leads (take_one log) s.cursor legs m.cursor
    step_takes s h m w is = by (next_item flat log s h) refl (went flat s m h (next_item flat log s h) (verdict_on flat s h (next_item flat log s h)) w is)
        (can_go s h (next_item flat log s h) (verdict_on flat s h (next_item flat log s h)) (m, w) is) where
          by : (item : Item) → next_item flat log s h ≡ item → made flat s h item ≡ Some m → verdict_on flat s h item ≡ CanGo
              → (legs : List (ℕ × ℕ)) × Leads (take_one log) s.cursor legs m.cursor
          by Ended next did go = absurd (none-some _ did)
          by Move next did go = ([], sym (same_places flat many Good steady s m (Run h) did))
          by (Makes e) next did go =
              let a = mapped (past flat h e) (effect flat s h e) m did in
              let first = entry_left (flat.count s.flat h) (first_left log s.cursor h) e next in
              let t = takes log h s.cursor e first (met (guard_is_met s.cursor e) _ go) in
              let after : taken s.cursor h e ≡ m.cursor = ap (λ (c : Cursor). taken c h e) (sym (entry_places flat many Good steady s a.0 h e a.1))
              ∙ ap (λ (x : Replay S). x.cursor) a.2 in
              ((h, slice_index s.cursor.places h) ∷ [], (taken s.cursor h e, t, after))

    leads_takes : (s t : Replay S) (made : List (ℕ × Option V)) → Leads (step flat log) s made t
        → (legs : List (ℕ × ℕ)) × Leads (take_one log) s.cursor legs t.cursor
    leads_takes s t [] is = ([], ap (λ (x : Replay S). x.cursor) is)
    leads_takes s t (x ∷ made) is =
        let one = step_takes s x.0 is.0 x.1 is.1 in
        let rest = leads_takes is.0 t made is.2 in
        (one.0 ++ rest.0, leads_on (take_one log) s.cursor is.0.cursor t.cursor one.0 rest.0 one.1 rest.1)

-- an End stands last in its stream
end_is_last : (log : Log) (h i : ℕ) (e : Entry) → Keeps log o1 → entry_at log h i ≡ Some e → is_end e ≡ true → i + 1 ≡ length (stream log h)
end_is_last log h i e kept at end =
    let x : Placed = record { hart = h; place = i; entry = e } in
    let right = none_passes log (o1 log) (h, i) kept (stream log h, in_stream log h i e at, below_length (stream log h) i e at) in
    let here : breaks_o1 log x ≡ false = sym (ap (λ o. is_some_and o (λ z. breaks_o1 log (record { hart = h; place = i; entry = z }))) at)
    ∙ (or_parts _ _ right).0 in
    let both = (or_parts _ _ here).1 in
    let open_up : (not (i + 1 == length (stream log h)) || nat_lt log.limit (count_of e)) ≡ false =
    sym (ap (λ b. b && (not (i + 1 == length (stream log h)) || nat_lt log.limit (count_of e))) end) ∙ both in
    by (i + 1 == length (stream log h)) refl (or_parts _ _ open_up).0
  where
    by : (b : Bool) → (i + 1 == length (stream log h)) ≡ b → not b ≡ false → i + 1 ≡ length (stream log h)
    by true t f = eqb-true (i + 1) (length (stream log h)) t
    by false t f = absurd (true≢false f)

no_page_of_end : (e : Entry) → is_end e ≡ true → (page_number e ≡ None) × (ordinal_of e ≡ None)
no_page_of_end (entries.Gain count page seq mode waits) t = absurd (true≢false (sym t))
no_page_of_end (entries.Yield count page seq left) t = absurd (true≢false (sym t))
no_page_of_end (entries.Poll count ord time bits) t = absurd (true≢false (sym t))
no_page_of_end (entries.Touch count ord input) t = absurd (true≢false (sym t))
no_page_of_end (entries.End count) t = (refl, refl)

module _ (log : Log) (orderly : IsOrderly log) where
  abbrev take : ℕ → Cursor → Option (Cursor × ℕ)
  take = take_one log

  pages_right : Keeps log o5
  pages_right = orderly.pages_are_numbered

  ordinals_right : Keeps log o8
  ordinals_right = orderly.ordinals_and_times_rise

  places_kept : (c d : Cursor) (legs : List (ℕ × ℕ)) → Leads take c legs d → length d.places ≡ length c.places
  places_kept c d [] is = ap (λ (x : Cursor). length x.places) (sym is)
  places_kept c d (x ∷ legs) is =
      let t = took log x.0 c is.0 x.1 is.1 in
      let one : length is.0.places ≡ length c.places = ap (λ (y : Cursor). length y.places) (sym t.cursor ∙ taken_is c x.0 t.entry)
      ∙ length-set c.places x.0 (slice_index c.places x.0 + 1) in
      places_kept is.0 d legs is.2 ∙ one

  module _ (t : Cursor) (so_far : List (ℕ × ℕ)) (reached : Leads take (cursor.start log) so_far t) where
    abbrev EndedAt : ℕ → Type 0
    EndedAt h = (e : Entry) × (first_left log t h ≡ Some e) × (is_end e ≡ true)

    abbrev HeldAt : ℕ → Type 0
    HeldAt h = (e : Entry) × (first_left log t h ≡ Some e) × (guard_is_met t e ≡ false)

    size : length t.places ≡ length log.streams
    size = places_kept (cursor.start log) t so_far reached ∙ length-replicate (length log.streams) 0

    -- the Ends of the first harts are taken, where these have ended
    pub record EndsTaken (k : ℕ) : Type 0 where
      pub cursor : Cursor
      pub legs : List (ℕ × ℕ)
      pub leads : Leads take t legs cursor
      pub size : length cursor.places ≡ length log.streams
      pub numbers : cursor.numbers ≡ t.numbers
      pub ordinal : cursor.ordinal ≡ t.ordinal
      pub before : (h : ℕ) → h < k → (EndedAt h × (slice_index cursor.places h ≡ slice_index t.places h + 1))
          ⊎ (HeldAt h × (slice_index cursor.places h ≡ slice_index t.places h))
      pub behind : (h : ℕ) → k ≤ h → slice_index cursor.places h ≡ slice_index t.places h

    ends_taken : (each : (h : ℕ) → h < length log.streams → EndedAt h ⊎ HeldAt h) (k : ℕ) → k ≤ length log.streams → EndsTaken k
    ends_taken each zero l = record {
      cursor = t;
      legs = [];
      leads = refl;
      size = size;
      numbers = refl;
      ordinal = refl;
      before = λ h less. absurd (omega (arith, less));
      behind = λ h more. refl;
    }
    ends_taken each (suc k) l = further (ends_taken each k (omega (arith, l))) (each k (omega (arith, l))) where
      further : EndsTaken k → EndedAt k ⊎ HeldAt k → EndsTaken (suc k)
      further x (inr held) = record {
        cursor = x.cursor;
        legs = x.legs;
        leads = x.leads;
        size = x.size;
        numbers = x.numbers;
        ordinal = x.ordinal;
        before = λ h less. place h less (eqb_tells h k);
        behind = λ h more. x.behind h (omega (arith, more));
      }
        where
          place : (h : ℕ) → h < suc k → (((h == k) ≡ true) × (h ≡ k)) ⊎ (((h == k) ≡ false) × (h ≢ k))
              → (EndedAt h × (slice_index x.cursor.places h ≡ slice_index t.places h + 1))
              ⊎ (HeldAt h × (slice_index x.cursor.places h ≡ slice_index t.places h))
          place h less (inl (b, same)) = inr (subst HeldAt (sym same) held, x.behind h (omega (arith, same)))
          place h less (inr (b, n)) = x.before h (omega (arith, less, n))
      further x (inl ended) =
          let e = ended.0 in
          let kind = no_page_of_end e ended.2 in
          let first : first_left log x.cursor k ≡ Some e = ap (entry_at log k) (x.behind k (omega arith)) ∙ ended.1 in
          let guard : guard_is_met x.cursor e ≡ true = guard_is x.cursor e ∙ ap₂ (λ p o. met_by p o x.cursor.numbers x.cursor.ordinal) kind.0 kind.1 in
          let did = takes log k x.cursor e first guard in
          let cursor = taken_is x.cursor k e in
          record {
            cursor = taken x.cursor k e;
            legs = x.legs ++ (k, slice_index x.cursor.places k) ∷ [];
            leads = leads_on take t x.cursor (taken x.cursor k e) x.legs ((k, slice_index x.cursor.places k) ∷ []) x.leads (taken x.cursor k e, did, refl);
            size = ap (λ (c : Cursor). length c.places) cursor ∙ length-set x.cursor.places k (slice_index x.cursor.places k + 1) ∙ x.size;
            numbers = ap (λ (c : Cursor). c.numbers) cursor ∙ ap (λ p. numbers_by p x.cursor.numbers) kind.0 ∙ x.numbers;
            ordinal = ap (λ (c : Cursor). c.ordinal) cursor ∙ ap (λ o. ordinal_by o x.cursor.ordinal) kind.1 ∙ x.ordinal;
            before = λ h less. place h less (eqb_tells h k);
            behind = λ h more. get_or-set_other x.cursor.places k h (slice_index x.cursor.places k + 1) 0 (λ same. absurd (omega (arith, more, same)))
                ∙ x.behind h (omega (arith, more));
          }
        where
          place : (h : ℕ) → h < suc k → (((h == k) ≡ true) × (h ≡ k)) ⊎ (((h == k) ≡ false) × (h ≢ k))
              → (EndedAt h × (slice_index (slice_set x.cursor.places k (slice_index x.cursor.places k + 1)) h ≡ slice_index t.places h + 1))
              ⊎ (HeldAt h × (slice_index (slice_set x.cursor.places k (slice_index x.cursor.places k + 1)) h ≡ slice_index t.places h))
          place h less (inl (b, same)) =
              inl (
                subst EndedAt (sym same) ended,
                subst (λ z. slice_index (slice_set x.cursor.places k (slice_index x.cursor.places k + 1)) z ≡ slice_index t.places z + 1) (sym same)
                    (get_or_from_slice_get (slice_set x.cursor.places k (slice_index x.cursor.places k + 1)) k (slice_index x.cursor.places k + 1) 0
                    (set_here x.cursor.places k (slice_index x.cursor.places k + 1) (let z = x.size in omega (arith, z, l)))
                    ∙ ap (λ z. z + 1) (x.behind k (omega arith))),
              )
          place h less (inr (b, n)) = ⊎_elim
              (λ a. inl (a.0, get_or-set_other x.cursor.places k h (slice_index x.cursor.places k + 1) 0 n ∙ a.1))
              (λ a. inr (a.0, get_or-set_other x.cursor.places k h (slice_index x.cursor.places k + 1) 0 n ∙ a.1))
              (x.before h (omega (arith, less, n)))

    pub all_ended : ((h : ℕ) → h < length log.streams → EndedAt h ⊎ HeldAt h) → (h : ℕ) → h < length log.streams → HeldAt h → ⊥
    all_ended each h inside held =
        let x = ends_taken each (length log.streams) (omega arith) in
        let c = x.cursor in
        let full : IsFull take (cursor.start log) (so_far ++ x.legs) c =
        record { leads = leads_on take (cursor.start log) t c so_far x.legs reached x.leads; over = λ g. over x g (leb_tells (length log.streams) g) } in
        let least = orderly.least_order_takes_all in
        let other = least_is_full take (length log.streams) (cursor.start log) least.1.0 least.0
        (λ g l. no_more_harts log pages_right ordinals_right g least.1.0 l) least.1.1 in
        let same : c ≡ least.1.0 =
        (orders_agree take (Any log pages_right ordinals_right) (takings_last log pages_right ordinals_right)
        (takings_commute log pages_right ordinals_right) (cursor.start log) c least.1.0 (so_far ++ x.legs) least.0 tt full other).0 in
        let none = none_below (λ g. is_some (first_left log c g)) (length log.streams)
        (nothing_mapped (λ g. (g, slice_index c.places g)) (find (λ g. is_some (first_left log c g)) (harts log))
        (ap (least_left log) same ∙ least.1.2)) h inside in
        ⊎_elim
        (λ a. two_kinds h held a.0)
        (λ a. let first : first_left log c h ≡ Some held.0 = ap (entry_at log h) a.1 ∙ held.1 in true≢false (sym (ap is_some first) ∙ none))
        (x.before h inside)
      where
        two_kinds : (h : ℕ) → HeldAt h → EndedAt h → ⊥
        two_kinds h held ended =
            let e = same_Some _ _ (sym held.1 ∙ ended.1) in
            let kind = no_page_of_end held.0 (ap is_end e ∙ ended.2) in
            true≢false (sym (guard_is t held.0 ∙ ap₂ (λ p o. met_by p o t.numbers t.ordinal) kind.0 kind.1) ∙ held.2)

        over : (x : EndsTaken (length log.streams)) (g : ℕ)
            → ((nat_le (length log.streams) g ≡ true) × (length log.streams ≤ g)) ⊎ ((nat_le (length log.streams) g ≡ false) × (g < length log.streams))
            → take g x.cursor ≡ None
        over x g (inl (b, l)) = no_more_harts log pages_right ordinals_right g x.cursor l
        over x g (inr (b, l)) = ⊎_elim
            (λ a. let last = end_is_last log g (slice_index t.places g) a.0.0 orderly.counts_rise_to_the_end a.0.1 a.0.2 in
            ap (option_and_then _) (slice_get_past (stream log g) (slice_index x.cursor.places g) (let z = a.1 in omega (arith, z, last))))
            (λ a.
            let e = a.0.0 in
            let first : first_left log x.cursor g ≡ Some e = ap (entry_at log g) a.1 ∙ a.0.1 in
            let guard : guard_is_met x.cursor e ≡ false = guard_is x.cursor e ∙ ap₂ (λ ns o. met_by (page_number e) (ordinal_of e) ns o) x.numbers x.ordinal
            ∙ sym (guard_is t e) ∙ a.0.2 in
            ap (option_and_then (λ y. if guard_is_met x.cursor y then Some (taken x.cursor g y, slice_index x.cursor.places g) else None)) first
            ∙ ap (λ b. if b then Some (taken x.cursor g e, slice_index x.cursor.places g) else None) guard)
            (x.before g (omega (arith, l)))

pub nobody_holds_alone : NobodyHoldsAlone
nobody_holds_alone log first order t orderly obeys each h inside = ⊎_elim (λ a. a) (λ a. absurd (held_out h inside a)) (each h inside) where
  reached : (legs : List (ℕ × ℕ)) × Leads (take_one log) (cursor.start log) legs t.cursor
  reached = leads_takes (board (unit_of log)) 0 (IsBoard 0) (board_steady (unit_of log) 0) log (start log first) t obeys.0 obeys.2

  as_ended : (g : ℕ) → verdict (board (unit_of log)) log t g ≡ HasEnded → (e : Entry) × (first_left log t.cursor g ≡ Some e) × (is_end e ≡ true)
  as_ended g v = end_left ((board (unit_of log)).count t.flat g) (first_left log t.cursor g)
      (ended_item (board (unit_of log)) t g (next_item (board (unit_of log)) log t g) v)

  as_held : (g : ℕ) → verdict (board (unit_of log)) log t g ≡ Holds → (e : Entry) × (first_left log t.cursor g ≡ Some e) × (guard_is_met t.cursor e ≡ false)
  as_held g v = let x = held_item (board (unit_of log)) t g (next_item (board (unit_of log)) log t g) v in
      (x.0, entry_left ((board (unit_of log)).count t.flat g) (first_left log t.cursor g) x.0 x.1, x.2)

  held_out : (g : ℕ) → g < length log.streams → verdict (board (unit_of log)) log t g ≡ Holds → ⊥
  held_out g l v = all_ended log orderly t.cursor reached.0 reached.1 (λ k m. ⊎_elim (λ a. inl (as_ended k a)) (λ a. inr (as_held k a)) (each k m)) g l
      (as_held g v)
