-- The pages that a move needs are gained one after another.
use Rattle.std.proofs.Common.{◌≡◌, ◌⊎◌, inl, inr, ℕ, suc, ◌<◌, ◌≤◌, nat_lt, nat_le, Bool, true, false, true≢false, cond, List, [], ◌∷◌}
use Rattle.std.proofs.Common.{map, find, length, Option, Some, None, slice_get, refl, sym, ap, ◌∙◌, subst, arith, if◌then◌else◌}
use Rattle.std.specs.Option.{option_map_or}
use Rattle.std.proofs.lemmas.Bool.{cases_eq}
use Rattle.std.proofs.lemmas.Bool.Decides.{leb_tells}
use Rattle.std.proofs.lemmas.Option.{none-some, same_Some}
use Rattle.rv_words.specs.declared.shared.Mode.{Mode}
use Rattle.rv_words.specs.declared.shared.Cause.TheVariants.{Full}
use Rattle.rv_hart.specs.State.{Hart}
use Rattle.rv_hart.specs.Needs.{data_pages, pages_needed}
use Rattle.rv_hart.specs.declared.effect.Need.{Need}
use Rattle.rv_hart.specs.declared.effect.Need.TheVariants as need
use Rattle.rv_hart.specs.Effects.{effect_of}
use Rattle.rv_hart.specs.Moves.{need_of}
use Rattle.log_entry.specs.Parts.{strength}
use Rattle.flat_machine.specs.State.{FlatState}
use Rattle.flat_machine.specs.Moves.{fetched}
use Rattle.crew_parts.specs.Boards.{the_board}
use Rattle.rv_words.specs.Limits.{page_bytes}
use Rattle.order_rules.specs.Holders.{row, held, with_held}
use Rattle.replay_model.specs.State.{want}
use Rattle.order_rules.proofs.Follow.{held_here, held_elsewhere}
use Rattle.crew_parts.specs.Boards.{the_machine}
use Rattle.turn_model.specs.Board as model
use Rattle.turn_model.specs.Board.{Board, Terms, closes}
use Rattle.turn_model.specs.Claims.{kept_by, holds_so, needed}
use Rattle.turn_model.specs.Ways.{Way, On, Ends, on, goes, has_room, entered}
use Rattle.turn_model.specs.Steps.{gains, gains_page, gains_unless, gain_of}
use Rattle.run_model.specs.Run.{Run, hold_of}
use Rattle.rv_words.specs.Limits.{page_bytes}
use Rattle.run_model.specs.Run.{ahead_of}
use Rattle.run_model.proofs.Laws.{ahead_agrees}
use Rattle.run_model.specs.Agreement.{Agrees, Asks, IsAhead}
use Rattle.crew_core.specs.Calls.{IsNotWanting}
use Rattle.std.proofs.lemmas.Option.{slice_get_within}
use Rattle.turn_model.specs.Faithful.{AllBelow}
use Rattle.crew_core.proofs.Machine.{faithful, asks_here}
use Rattle.crew_core.specs.declared.crew.Crew.{Crew}
use Rattle.crew_core.specs.Standing.{Stands, terms_of}
use Rattle.rv_words.specs.declared.shared.Access.{Access}
use Rattle.run_model.specs.declared.asked.Ahead.{Ahead}
use Rattle.run_model.specs.declared.asked.Ahead.TheVariants.{Free, Wants, AtDevice}
use Rattle.crew_core.specs.declared.order.Order.{Order}
use Rattle.crew_core.specs.Orders.{told, way_of}
use Rattle.crew_core.specs.Does.{Does}

abbrev pub lacking : Board FlatState → ℕ → ℕ × Mode → Bool
lacking b h n = nat_lt (strength (held b.at.holders n.0 h)) (strength (Some n.1))

less_or_so : (x y : ℕ) → nat_lt x y ≡ false → nat_le y x ≡ true
less_or_so x y e = elim (leb_tells (suc x) y) [
  | inl (t, l) ↦ absurd (true≢false (sym t ∙ e))
  | inr (f, l) ↦ elim (leb_tells y x) [ inl (u, m) ↦ u | inr (u, m) ↦ absurd (omega (arith, l, m)) ]
]

not_lacking : (x y : ℕ) → y ≤ x → nat_lt x y ≡ false
not_lacking x y l = elim (leb_tells (suc x) y) [ inl (t, m) ↦ absurd (omega (arith, l, m)) | inr (f, m) ↦ f ]

at_least : (x y : ℕ) → nat_lt x y ≡ false → y ≤ x
at_least x y e = elim (leb_tells (suc x) y) [ inl (t, m) ↦ absurd (true≢false (sym t ∙ e)) | inr (f, m) ↦ omega (arith, m) ]

module _ (t : Terms) (h : ℕ) where
  skips : (b : Board FlatState) (n : ℕ × Mode) → lacking b h n ≡ false → gains_page the_machine t h n b ≡ On b
  skips b n has = ap (λ z. if z then On b else gains_unless the_machine t (kept_by b h n) h n b)
      (less_or_so (strength (held b.at.holders n.0 h)) (strength (Some n.1)) has)

  goes_none : (b : Board FlatState) (l : List (ℕ × Mode)) → find (lacking b h) l ≡ None → goes (map (gains_page the_machine t h) l) (On b) ≡ On b
  goes_none b [] none = refl
  goes_none b (x ∷ l) none = by (lacking b h x) refl none (goes_none b l) where
    by : (z : Bool) → lacking b h x ≡ z → cond z (Some x) (find (lacking b h) l) ≡ None
        → (find (lacking b h) l ≡ None → goes (map (gains_page the_machine t h) l) (On b) ≡ On b)
        → goes (map (gains_page the_machine t h) l) (gains_page the_machine t h x b) ≡ On b
    by true has e rest = absurd (none-some x (sym e))
    by false has e rest = ap (goes (map (gains_page the_machine t h) l)) (skips b x has) ∙ rest e

  -- nothing is needed that isn't held so
  pub gains_none : (b : Board FlatState) → want the_board b.at h ≡ None → gains the_machine t h b ≡ On b
  gains_none b none = goes_none b (needed the_machine t b h) none

  -- what a page's Gain leaves
  pub record HasGained (b c : Board FlatState) (n : ℕ × Mode) : Type 0 where
    pub flat : c.at.flat ≡ b.at.flat
    pub holders : c.at.holders ≡ with_held b.at.holders n.0 h (Some n.1)

  has_gained : (b c : Board FlatState) (n : ℕ × Mode) → lacking b h n ≡ true → gains_page the_machine t h n b ≡ On c → HasGained b c n
  has_gained b c n lacks is = by_hold (holds_so b h n) refl is where
    told : (d : Board FlatState) → ◌≡◌ {A = Way FlatState} (On d) (On c) → d ≡ c
    told d e = cc

    by_room : (z : Bool) → (if z then on (entered the_machine t h (gain_of the_machine t h n b) b) else Ends model.Rest (closes Full b)) ≡ On c
        → HasGained b c n
    by_room true e =
        let same = told _ e in
        record { flat = ap (λ (z : Board FlatState). z.at.flat) (sym same); holders = ap (λ (z : Board FlatState). z.at.holders) (sym same) }
    by_room false e = absurd (let bad : ⊥ = cc in bad)

    by_kept : (o : Option ℕ) → gains_unless the_machine t o h n b ≡ On c → HasGained b c n
    by_kept None e = by_room (has_room the_machine t (gain_of the_machine t h n b) b) e
    by_kept (Some g) e = absurd (let bad : ⊥ = cc in bad)

    by_hold : (z : Bool) → holds_so b h n ≡ z → (if z then On b else gains_unless the_machine t (kept_by b h n) h n b) ≡ On c → HasGained b c n
    by_hold false so e = by_kept (kept_by b h n) e
    by_hold true so e = absurd (elim (leb_tells (strength (Some n.1)) (strength (held b.at.holders n.0 h))) [
      | inl (u, l) ↦ true≢false (sym lacks ∙ not_lacking (strength (held b.at.holders n.0 h)) (strength (Some n.1)) l)
      | inr (u, l) ↦ true≢false (sym so ∙ u)
    ])

  -- where a first page is lacked, what follows it
  pub one_lacked : (b : Board FlatState) (x : ℕ × Mode) (n : ℕ × Mode) → find (lacking b h) (x ∷ []) ≡ Some n → (n ≡ x) × (lacking b h x ≡ true)
  one_lacked b x n e = by (lacking b h x) refl e where
    by : (z : Bool) → lacking b h x ≡ z → cond z (Some x) None ≡ Some n → (n ≡ x) × (lacking b h x ≡ true)
    by true has e = (sym (same_Some _ _ e), has)
    by false has e = absurd (none-some n e)

  -- the hart's seat in the table of holders
  abbrev pub Seated : Board FlatState → ℕ → Type 0
  Seated b page = (page < length b.at.holders) × (h < length (row b.at.holders page))

  gained_so : (b c : Board FlatState) (n : ℕ × Mode) → Seated b n.0 → HasGained b c n → lacking c h n ≡ false
  gained_so b c n seat gained =
      let holds : held c.at.holders n.0 h ≡ Some n.1 = ap (λ hs. held hs n.0 h) gained.holders ∙ held_here b.at.holders n.0 h (Some n.1) seat.0 seat.1 in
      ap (λ o. nat_lt (strength o) (strength (Some n.1))) holds ∙ not_lacking (strength (Some n.1)) (strength (Some n.1)) (omega arith)

  still_so : (b c : Board FlatState) (n x : ℕ × Mode) → Seated b n.0 → HasGained b c n → lacking b h n ≡ true → lacking b h x ≡ false → lacking c h x ≡ false
  still_so b c n x seat gained lacks has = elim (cases_eq x.0 n.0) [
    | inl e ↦
        let holds : held c.at.holders x.0 h ≡ Some n.1 = ap (λ p. held c.at.holders p h) e ∙ ap (λ hs. held hs n.0 h) gained.holders
        ∙ held_here b.at.holders n.0 h (Some n.1) seat.0 seat.1 in
        let had : strength (Some x.1) ≤ strength (held b.at.holders n.0 h) = subst (λ p. strength (Some x.1) ≤ strength (held b.at.holders p h)) e
        (at_least (strength (held b.at.holders x.0 h)) (strength (Some x.1)) has) in
        let more : strength (held b.at.holders n.0 h) < strength (Some n.1) = less_of (strength (held b.at.holders n.0 h)) (strength (Some n.1)) lacks in
        ap (λ o. nat_lt (strength o) (strength (Some x.1))) holds ∙ not_lacking (strength (Some n.1)) (strength (Some x.1)) (omega (arith, had, more))
    | inr other ↦
        ap (λ o. nat_lt (strength o) (strength (Some x.1))) (ap (λ hs. held hs x.0 h) gained.holders
        ∙ held_elsewhere b.at.holders n.0 x.0 h h (Some n.1) other) ∙ has
  ]
    where
      less_of : (p q : ℕ) → nat_lt p q ≡ true → p < q
      less_of p q e = elim (leb_tells (suc p) q) [ inl (u, l) ↦ l | inr (f, l) ↦ absurd (true≢false (sym e ∙ f)) ]

  -- how a want of a list of two is found
  two_lacked : (b : Board FlatState) (x y n : ℕ × Mode) → find (lacking b h) (x ∷ y ∷ []) ≡ Some n
      → ((n ≡ x) × (lacking b h x ≡ true)) ⊎ ((lacking b h x ≡ false) × (n ≡ y) × (lacking b h y ≡ true))
  two_lacked b x y n e = by (lacking b h x) refl e where
    by : (z : Bool) → lacking b h x ≡ z → cond z (Some x) (find (lacking b h) (y ∷ [])) ≡ Some n
        → ((n ≡ x) × (lacking b h x ≡ true)) ⊎ ((lacking b h x ≡ false) × (n ≡ y) × (lacking b h y ≡ true))
    by true has e = inl (sym (same_Some _ _ e), has)
    by false has e = let o = one_lacked b y n e in inr (has, o.0, o.1)

  none_lacked : (b : Board FlatState) (x : ℕ × Mode) (l : List (ℕ × Mode)) → lacking b h x ≡ false → find (lacking b h) (x ∷ l) ≡ find (lacking b h) l
  none_lacked b x l has = ap (λ z. cond z (Some x) (find (lacking b h) l)) has

  -- what a move needs is two pages at most
  pub data Needs : List (ℕ × Mode) → Type 0 where
    none : Needs []
    one : (x : ℕ × Mode) → Needs (x ∷ [])
    two : (x y : ℕ × Mode) → Needs (x ∷ y ∷ [])

  data_needs : (f : ℕ × Mode) (n : Need) → Needs (f ∷ data_pages page_bytes n)
  data_needs f (need.Load at) = two f _
  data_needs f (need.Store at) = two f _
  data_needs f (need.Exclusive at) = two f _
  data_needs f (need.Device access) = one f
  data_needs f need.Nothing = one f

  move_needs : (x : Hart) (o : Option ℕ) → Needs (pages_needed page_bytes x o)
  move_needs x None = none
  move_needs x (Some word) = data_needs _ (need_of (effect_of x word))

  pub board_needs : (b : Board FlatState) → Needs (needed the_machine t b h)
  board_needs b = by (slice_get b.at.flat.harts h) where
    by : (o : Option Hart) → Needs (option_map_or (λ (x : Hart). pages_needed page_bytes x (fetched x b.at.flat.memory)) o [])
    by None = none
    by (Some x) = move_needs x (fetched x b.at.flat.memory)

  -- a first page is gained, or is not; then the next one that is lacked, if any
  ends_at : (b d : Board FlatState) (l : List (ℕ × Mode)) (n : ℕ × Mode) (order : model.Order) → Needs l → find (lacking b h) l ≡ Some n
      → gains_page the_machine t h n b ≡ Ends order d → goes (map (gains_page the_machine t h) l) (On b) ≡ Ends order d
  ends_at b d _ n order none e is = absurd (none-some n e)
  ends_at b d _ n order (one x) e is = let o = one_lacked b x n e in ap (λ z. gains_page the_machine t h z b) (sym o.0) ∙ is
  ends_at b d _ n order (two x y) e is = elim (two_lacked b x y n e) [
    | inl (same, lacks) ↦ ap (λ z. goes (gains_page the_machine t h y ∷ []) (gains_page the_machine t h z b)) (sym same)
        ∙ ap (goes (gains_page the_machine t h y ∷ [])) is
    | inr (has, same, lacks) ↦ ap (goes (gains_page the_machine t h y ∷ [])) (skips b x has) ∙ ap (λ z. gains_page the_machine t h z b) (sym same) ∙ is
  ]

  goes_on_at : (b c : Board FlatState) (l : List (ℕ × Mode)) (n : ℕ × Mode) → Needs l → find (lacking b h) l ≡ Some n → gains_page the_machine t h n b ≡ On c
      → Seated b n.0 → find (lacking c h) l ≡ None → goes (map (gains_page the_machine t h) l) (On b) ≡ On c
  goes_on_at b c _ n none e is seat all = absurd (none-some n e)
  goes_on_at b c _ n (one x) e is seat all = let o = one_lacked b x n e in ap (λ z. gains_page the_machine t h z b) (sym o.0) ∙ is
  goes_on_at b c _ n (two x y) e is seat all = elim (two_lacked b x y n e) [
    | inl (same, lacks) ↦
        let gained = has_gained b c n (subst (λ z. lacking b h z ≡ true) (sym same) lacks) is in
        let has : lacking c h x ≡ false = subst (λ z. lacking c h z ≡ false) same (gained_so b c n seat gained) in
        ap (λ z. goes (gains_page the_machine t h y ∷ []) (gains_page the_machine t h z b)) (sym same) ∙ ap (goes (gains_page the_machine t h y ∷ [])) is
        ∙ goes_none c (y ∷ []) (sym (none_lacked c x (y ∷ []) has) ∙ all)
    | inr (has, same, lacks) ↦ ap (goes (gains_page the_machine t h y ∷ [])) (skips b x has) ∙ ap (λ z. gains_page the_machine t h z b) (sym same) ∙ is
  ]

  goes_further_at : (b c : Board FlatState) (l : List (ℕ × Mode)) (n m : ℕ × Mode) → Needs l → find (lacking b h) l ≡ Some n → gains_page the_machine t h n b
      ≡ On c → Seated b n.0 → find (lacking c h) l ≡ Some m
      → goes (map (gains_page the_machine t h) l) (On b) ≡ gains_page the_machine t h m c
  goes_further_at b c _ n m none e is seat more = absurd (none-some n e)
  goes_further_at b c _ n m (one x) e is seat more =
      let o = one_lacked b x n e in
      let gained = has_gained b c n (subst (λ z. lacking b h z ≡ true) (sym o.0) o.1) is in
      let has : lacking c h x ≡ false = subst (λ z. lacking c h z ≡ false) o.0 (gained_so b c n seat gained) in
      absurd (none-some m (sym (none_lacked c x [] has) ∙ more))
  goes_further_at b c _ n m (two x y) e is seat more = elim (two_lacked b x y n e) [
    | inl (same, lacks) ↦
        let gained = has_gained b c n (subst (λ z. lacking b h z ≡ true) (sym same) lacks) is in
        let has : lacking c h x ≡ false = subst (λ z. lacking c h z ≡ false) same (gained_so b c n seat gained) in
        let o = one_lacked c y m (sym (none_lacked c x (y ∷ []) has) ∙ more) in
        ap (λ z. goes (gains_page the_machine t h y ∷ []) (gains_page the_machine t h z b)) (sym same) ∙ ap (goes (gains_page the_machine t h y ∷ [])) is
        ∙ ap (λ z. gains_page the_machine t h z c) (sym o.0)
    | inr (has, same, lacks) ↦
        let lacks_n = subst (λ z. lacking b h z ≡ true) (sym same) lacks in
        let gained = has_gained b c n lacks_n is in
        let has_y : lacking c h y ≡ false = subst (λ z. lacking c h z ≡ false) same (gained_so b c n seat gained) in
        absurd (none-some m (sym (none_lacked c x (y ∷ []) (still_so b c n x seat gained lacks_n has) ∙ none_lacked c y [] has_y) ∙ more))
  ]

  -- nothing is lacked once the second page was gained too
  gained_all : (b c d : Board FlatState) (l : List (ℕ × Mode)) (n m : ℕ × Mode) → Needs l → find (lacking b h) l ≡ Some n → gains_page the_machine t h n b
      ≡ On c
      → Seated b n.0 → find (lacking c h) l ≡ Some m → gains_page the_machine t h m c ≡ On d → Seated c m.0 → find (lacking d h) l ≡ None
  gained_all b c d _ n m none e is seat more last seat_m = absurd (none-some n e)
  gained_all b c d _ n m (one x) e is seat more last seat_m =
      let o = one_lacked b x n e in
      let gained = has_gained b c n (subst (λ z. lacking b h z ≡ true) (sym o.0) o.1) is in
      let has : lacking c h x ≡ false = subst (λ z. lacking c h z ≡ false) o.0 (gained_so b c n seat gained) in
      absurd (none-some m (sym (none_lacked c x [] has) ∙ more))
  gained_all b c d _ n m (two x y) e is seat more last seat_m = elim (two_lacked b x y n e) [
    | inl (same, lacks) ↦
        let gained = has_gained b c n (subst (λ z. lacking b h z ≡ true) (sym same) lacks) is in
        let has : lacking c h x ≡ false = subst (λ z. lacking c h z ≡ false) same (gained_so b c n seat gained) in
        let o = one_lacked c y m (sym (none_lacked c x (y ∷ []) has) ∙ more) in
        let lacks_m : lacking c h m ≡ true = subst (λ z. lacking c h z ≡ true) (sym o.0) o.1 in
        let second = has_gained c d m lacks_m last in
        let first_so : lacking d h x ≡ false = still_so c d m x seat_m second lacks_m has in
        let second_so : lacking d h y ≡ false = subst (λ z. lacking d h z ≡ false) o.0 (gained_so c d m seat_m second) in
        none_lacked d x (y ∷ []) first_so ∙ none_lacked d y [] second_so
    | inr (has, same, lacks) ↦
        let lacks_n = subst (λ z. lacking b h z ≡ true) (sym same) lacks in
        let gained = has_gained b c n lacks_n is in
        let has_y : lacking c h y ≡ false = subst (λ z. lacking c h z ≡ false) same (gained_so b c n seat gained) in
        absurd (none-some m (sym (none_lacked c x (y ∷ []) (still_so b c n x seat gained lacks_n has) ∙ none_lacked c y [] has_y) ∙ more))
  ]

  same_needs : (b c : Board FlatState) → c.at.flat ≡ b.at.flat → want the_board c.at h ≡ find (lacking c h) (needed the_machine t b h)
  same_needs b c same = ap (λ f. find (lacking c h) (the_board.need f h)) same

  pub gains_end : (b d : Board FlatState) (n : ℕ × Mode) (order : model.Order) → want the_board b.at h ≡ Some n → gains_page the_machine t h n b
      ≡ Ends order d → gains the_machine t h b ≡ Ends order d
  gains_end b d n order e is = ends_at b d (needed the_machine t b h) n order (board_needs b) e is

  pub gains_one : (b c : Board FlatState) (n : ℕ × Mode) → want the_board b.at h ≡ Some n → lacking b h n ≡ true → gains_page the_machine t h n b ≡ On c
      → Seated b n.0 → want the_board c.at h ≡ None → gains the_machine t h b ≡ On c
  gains_one b c n e lacks is seat all = goes_on_at b c (needed the_machine t b h) n (board_needs b) e is seat
      (sym (same_needs b c (has_gained b c n lacks is).flat) ∙ all)

  pub gains_two : (b c : Board FlatState) (n m : ℕ × Mode) → want the_board b.at h ≡ Some n → lacking b h n ≡ true → gains_page the_machine t h n b ≡ On c
      → Seated b n.0 → want the_board c.at h ≡ Some m → gains the_machine t h b ≡ gains_page the_machine t h m c
  gains_two b c n m e lacks is seat more = goes_further_at b c (needed the_machine t b h) n m (board_needs b) e is seat
      (sym (same_needs b c (has_gained b c n lacks is).flat) ∙ more)

  pub gains_held : (b c d : Board FlatState) (n m : ℕ × Mode) → want the_board b.at h ≡ Some n → lacking b h n ≡ true → gains_page the_machine t h n b ≡ On c
      → Seated b n.0 → want the_board c.at h ≡ Some m → lacking c h m ≡ true → gains_page the_machine t h m c ≡ On d → Seated c m.0 → want the_board d.at h
      ≡ None
  gains_held b c d n m e lacks is seat more lacks_m last seat_m =
      let first = (has_gained b c n lacks is).flat in
      let second = (has_gained c d m lacks_m last).flat in
      same_needs b d (second ∙ first)
      ∙ gained_all b c d (needed the_machine t b h) n m (board_needs b) e is seat (sym (same_needs b c first) ∙ more) last seat_m

found_inside : (pages : ℕ) (p : ℕ × Mode → Bool) (l : List (ℕ × Mode)) (n : ℕ × Mode) → AllBelow pages l → find p l ≡ Some n → (n.0 < pages) × (p n ≡ true)
found_inside pages p [] n all e = absurd (none-some n e)
found_inside pages p (x ∷ l) n all e = by (p x) refl e (found_inside pages p l n all.1) where
  by : (z : Bool) → p x ≡ z → cond z (Some x) (find p l) ≡ Some n → (find p l ≡ Some n → (n.0 < pages) × (p n ≡ true)) → (n.0 < pages) × (p n ≡ true)
  by true has e rest = let same = same_Some _ _ e in (subst (λ (z : ℕ × Mode). z.0 < pages) same all.0, subst (λ z. p z ≡ true) same has)
  by false has e rest = rest e

-- a want is of a page that there is, which the hart lacks
pub want_tells : (c : Crew) (b : Board FlatState) (h : ℕ) (n : ℕ × Mode) → Stands c b → want the_board b.at h ≡ Some n → (n.0 < c.pages)
    × (lacking b h n ≡ true)
want_tells c b h n st e = found_inside c.pages (lacking b h) (the_board.need b.at.flat h) n ((faithful c.harts c.pages).inside b.at.flat h st.board) e

pub lacks_run : (r : Run) (b : Board FlatState) (h : ℕ) (n : ℕ × Mode) → Agrees r h b.at → lacking b h n ≡ true → strength (hold_of r n.0) < strength (Some n.1)
lacks_run r b h n a lacks = elim (leb_tells (suc (strength (held b.at.holders n.0 h))) (strength (Some n.1))) [
  | inl (u, l) ↦ (let z = ap strength (a.modes n.0) in omega (arith, l, z))
  | inr (f, l) ↦ absurd (true≢false (sym lacks ∙ f))
]

pub seated_at : (c : Crew) (r : Run) (b : Board FlatState) (h page : ℕ) → Stands c b → Agrees r h b.at → page < c.pages → (page < length b.at.holders)
    × (h < length (row b.at.holders page))
seated_at c r b h page st a l =
    let there : page < length b.at.holders = omega (arith, l, st.table) in
    (there, let w = slice_get_within b.at.flat.harts h r.hart a.hart in let z = a.rows page there in omega (arith, w, z))

-- a hart that wants no page
pub no_want : (o : Ahead) (w : Option (ℕ × Mode)) (x : Option Access) → ((page : ℕ) (mode : Mode) → o ≡ Wants page mode → ⊥) → Asks w x o → w ≡ None
no_want Free w x not asks = asks.0
no_want (AtDevice access) w x not asks = asks.0
no_want (Wants page mode) w x not asks = absurd (not page mode refl)

-- the steps of the crew that gain pages are the board's
pub gains_nothing : (c : Crew) (r : Run) (h : ℕ) (b : Board FlatState) → Stands c b → Agrees r h b.at → want the_board b.at h ≡ None
    → Does c c r h None (gains the_machine (terms_of c) h b) b.supply
gains_nothing c r h b st a all = record { to = b; is = gains_none (terms_of c) h b all; supply = refl; stands = st; agrees = a; terms = refl }

pub gains_stop : (c new : Crew) (r next : Run) (h : ℕ) (n : ℕ × Mode) (b : Board FlatState) (order : Order) (answer : Option Order) → answer ≡ Some order
    → want the_board b.at h ≡ Some n
    → Does c new next h answer (gains_page the_machine (terms_of c) h n b) b.supply → Does c new next h answer (gains the_machine (terms_of c) h b) b.supply
gains_stop c new r next h n b order answer same e d = record {
  to = d.to;
  is = gains_end (terms_of c) h b d.to n (told order) e (d.is ∙ ap (λ z. way_of z d.to) same) ∙ ap (λ z. way_of z d.to) (sym same);
  supply = d.supply;
  stands = d.stands;
  agrees = d.agrees;
  terms = d.terms;
}

pub gains_first : (c new : Crew) (r next : Run) (h : ℕ) (n : ℕ × Mode) (b : Board FlatState) (answer : Option Order) → answer ≡ None → Stands c b
    → Agrees r h b.at → want the_board b.at h ≡ Some n
    → (d : Does c new next h answer (gains_page the_machine (terms_of c) h n b) b.supply) → want the_board d.to.at h ≡ None
    → Does c new next h None (gains the_machine (terms_of c) h b) b.supply
gains_first c new r next h n b answer same st a e d all =
    let tells = want_tells c b h n st e in
    record {
      to = d.to;
      is = gains_one (terms_of c) h b d.to n e tells.1 (d.is ∙ ap (λ z. way_of z d.to) same) (seated_at c r b h n.0 st a tells.0) all;
      supply = d.supply;
      stands = d.stands;
      agrees = d.agrees;
      terms = d.terms;
    }

pub gains_both : (c mid new : Crew) (r next last : Run) (h : ℕ) (n m : ℕ × Mode) (b : Board FlatState) (answer final : Option Order) → answer ≡ None
    → Stands c b → Agrees r h b.at → want the_board b.at h ≡ Some n
    → (d : Does c mid next h answer (gains_page the_machine (terms_of c) h n b) b.supply) → want the_board d.to.at h ≡ Some m
    → Does mid new last h final (gains_page the_machine (terms_of mid) h m d.to) d.to.supply
    → Does c new last h final (gains the_machine (terms_of c) h b) b.supply
gains_both c mid new r next last h n m b answer final same st a e d more rest =
    let tells = want_tells c b h n st e in
    record {
      to = rest.to;
      is = gains_two (terms_of c) h b d.to n m e tells.1 (d.is ∙ ap (λ z. way_of z d.to) same) (seated_at c r b h n.0 st a tells.0) more
          ∙ ap (λ t. gains_page the_machine t h m d.to) (sym d.terms) ∙ rest.is;
      supply = rest.supply ∙ d.supply;
      stands = rest.stands;
      agrees = rest.agrees;
      terms = rest.terms ∙ d.terms;
    }

-- behind a second Gain the hart wants no page
pub gains_leave_none : (c mid new : Crew) (r next last : Run) (h : ℕ) (n m : ℕ × Mode) (b : Board FlatState) (answer final : Option Order) → answer ≡ None
    → final ≡ None → Stands c b → Agrees r h b.at → want the_board b.at h ≡ Some n
    → (d : Does c mid next h answer (gains_page the_machine (terms_of c) h n b) b.supply) → want the_board d.to.at h ≡ Some m
    → (f : Does mid new last h final (gains_page the_machine (terms_of mid) h m d.to) d.to.supply) → want the_board f.to.at h ≡ None
gains_leave_none c mid new r next last h n m b answer final same same_final st a e d more f =
    let tells = want_tells c b h n st e in
    let further = want_tells mid d.to h m d.stands more in
    gains_held (terms_of c) h b d.to f.to n m e tells.1 (d.is ∙ ap (λ z. way_of z d.to) same) (seated_at c r b h n.0 st a tells.0) more further.1
    (ap (λ t. gains_page the_machine t h m d.to) (sym d.terms) ∙ f.is ∙ ap (λ z. way_of z f.to) same_final)
    (seated_at mid next d.to h m.0 d.stands d.agrees further.0)

pub not_wanting : (c : Crew) (r : Run) (h : ℕ) (b : Board FlatState) → Stands c b → Agrees r h b.at → want the_board b.at h ≡ None → IsNotWanting (ahead_of r)
not_wanting c r h b st a all = λ page mode e.
    none-some (page, mode) (sym all ∙ subst (IsAhead page_bytes h b.at) e (asks_here c r h (ahead_of r) b st a (λ g s agrees. ahead_agrees r g s agrees)))
