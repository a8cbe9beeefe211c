-- The holders of a replay follow the log.
use Rattle.std.proofs.Common.{◌≡◌, ◌≢◌, ℕ, suc, ◌+◌, ◌<◌, true, false, [], length, Option, Some, None, slice_get, slice_index, slice_set, unwrap_or, sym, ap}
use Rattle.std.proofs.Common.{ap₂, ◌∙◌, subst, inl, inr, arith, ◌⊎◌, ◌==◌, if◌then◌else◌}
use Rattle.std.proofs.lemmas.Option.{get_or_from_slice_get, slice_get_within}
use Rattle.std.proofs.lemmas.List.{get_or-set_other}
use Rattle.std.proofs.lemmas.Bool.Decides.{eqb_tells}
use Rattle.shared_types.proofs.Lists.{set_here, set_there}
use Rattle.rv_words.specs.declared.shared.Mode.{Mode}
use Rattle.log_entry.specs.declared.log.Entry.{Entry}
use Rattle.log_entry.specs.declared.log.Log.{Log}
use Rattle.log_entry.specs.Parts.{holds_then, conflict}
use Rattle.order_rules.specs.Places.{numbered}
use Rattle.order_rules.specs.Rules as rules
use Rattle.order_rules.specs.Rules.{held_after}
use Rattle.order_rules.proofs.Numbers.{numbers_name}
use Rattle.order_rules.proofs.Crew.{crew_before}
use Rattle.order_rules.specs.Holders.{Holders, row, held, with_held}
use Rattle.order_rules.specs.Laws.{StillFollow, FollowIsCrew}

-- the row and the holds of a table once a hart holds something else of a page
pub row_here : (holders : Holders) (page h : ℕ) (hold : Option Mode) → page < length holders
    → row (with_held holders page h hold) page ≡ slice_set (row holders page) h hold
row_here holders page h hold l = ap (λ o. unwrap_or o []) (set_here holders page (slice_set (row holders page) h hold) l)

pub row_there : (holders : Holders) (page q h : ℕ) (hold : Option Mode) → q ≢ page → row (with_held holders page h hold) q ≡ row holders q
row_there holders page q h hold n = ap (λ o. unwrap_or o []) (set_there holders page q (slice_set (row holders page) h hold) n)

pub held_here : (holders : Holders) (page h : ℕ) (hold : Option Mode) → page < length holders → h < length (row holders page)
    → held (with_held holders page h hold) page h ≡ hold
held_here holders page h hold a b =
    ap (λ r. unwrap_or (slice_get r h) None) (row_here holders page h hold a) ∙ ap (λ o. unwrap_or o None) (set_here (row holders page) h hold b)

pub held_beside : (holders : Holders) (page h g : ℕ) (hold : Option Mode) → page < length holders → g ≢ h
    → held (with_held holders page h hold) page g ≡ held holders page g
held_beside holders page h g hold a n =
    ap (λ r. unwrap_or (slice_get r g) None) (row_here holders page h hold a) ∙ ap (λ o. unwrap_or o None) (set_there (row holders page) h g hold n)

pub held_elsewhere : (holders : Holders) (page q h g : ℕ) (hold : Option Mode) → q ≢ page → held (with_held holders page h hold) q g ≡ held holders q g
held_elsewhere holders page q h g hold n = ap (λ r. unwrap_or (slice_get r g) None) (row_there holders page q h hold n)

-- what a hart holds after the entry of the page with a number
next_held : (log : Log) (page g h k : ℕ) (e : Entry) → numbered log page k ≡ Some (h, e)
    → rules.held log page g (k + 1) ≡ (if h == g then holds_then e else rules.held log page g k)
next_held log page g h k e is =
    let next : k + 1 ≡ suc k = omega arith in
    ap (rules.held log page g) next ∙ ap (held_after g (rules.held log page g k)) is

pub still_follow : StillFollow
still_follow log holders numbers h i page k e kept at is number a b follow q g = elim (eqb_tells q page) [
  | inr (f, n) ↦ held_elsewhere holders page q h g (holds_then e) n ∙ follow q g ∙ ap (rules.held log q g) (sym (get_or-set_other numbers page q (k + 1) 0 n))
  | inl (t, same) ↦
      subst (λ z. held (with_held holders page h (holds_then e)) z g ≡ rules.held log z g (slice_index (slice_set numbers page (k + 1)) z)) (sym same)
      (on_page (eqb_tells h g))
]
  where
    now : slice_index (slice_set numbers page (k + 1)) page ≡ k + 1
    now = get_or_from_slice_get (slice_set numbers page (k + 1)) page (k + 1) 0 (set_here numbers page (k + 1) (slice_get_within numbers page k number))

    then_held : rules.held log page g (slice_index (slice_set numbers page (k + 1)) page) ≡ (if h == g then holds_then e else rules.held log page g k)
    then_held = ap (rules.held log page g) now ∙ next_held log page g h k e (numbers_name log h i page k e kept at is)

    on_page : (((h == g) ≡ true) × (h ≡ g)) ⊎ (((h == g) ≡ false) × (h ≢ g))
        → held (with_held holders page h (holds_then e)) page g ≡ rules.held log page g (slice_index (slice_set numbers page (k + 1)) page)
    on_page (inl (t, same)) =
        subst (λ z. held (with_held holders page h (holds_then e)) page z ≡ holds_then e) same (held_here holders page h (holds_then e) a b)
        ∙ sym (then_held ∙ ap (λ c. if c then holds_then e else rules.held log page g k) t)
    on_page (inr (f, n)) =
        held_beside holders page h g (holds_then e) a (λ z. n (sym z)) ∙ follow page g
        ∙ ap (rules.held log page g) (get_or_from_slice_get numbers page k 0 number)
        ∙ sym (then_held ∙ ap (λ c. if c then holds_then e else rules.held log page g k) f)

pub follow_is_crew : FollowIsCrew
follow_is_crew log holders numbers kept follow page g h n =
    ap₂ conflict (follow page g) (follow page h) ∙ crew_before log page (slice_index numbers page) g h kept n
