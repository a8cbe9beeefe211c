-- The least order has one end, so a report is one.
use Rattle.std.proofs.Common.{◌≡◌, ℕ, ◌+◌, Bool, List, [], ◌∷◌, Option, Some, None, length, refl, sym, ap, ◌∙◌, inl, inr}
use Rattle.std.specs.Option.{option_map_or}
use Rattle.std.proofs.lemmas.Option.{none-some, same_Some}
use Rattle.log_entry.specs.declared.log.Log.{Log}
use Rattle.orders_law.proofs.Least.{least_is_one}
use Rattle.order_rules.specs.Cursor.{start, take_one, least_left}
use Rattle.order_rules.specs.Orderly.{Spot, LeastOrderLeaves, rules, Keeps, first_broken, IsOrderly, IsLeastBreak}
use Rattle.order_rules.specs.Laws.{ReportsAreOne}

pub one_left : (log : Log) (p q : Option Spot) → LeastOrderLeaves log p → LeastOrderLeaves log q → p ≡ q
one_left log p q a b =
    sym a.1.2 ∙ ap (least_left log) ((least_is_one (take_one log) (length log.streams) (start log) a.1.0 b.1.0 a.0 b.0 a.1.1 b.1.1).1) ∙ b.1.2

same_report : (rule hart entry rule' hart' entry' : ℕ) → ◌≡◌ {A = Option (ℕ × (ℕ × ℕ))} (Some (rule, (hart, entry))) (Some (rule', (hart', entry')))
    → (rule ≡ rule') × (hart ≡ hart') × (entry ≡ entry')
same_report rule hart entry rule' hart' entry' e =
    let x : ℕ × (ℕ × ℕ) = (rule, (hart, entry)) in
    let y : ℕ × (ℕ × ℕ) = (rule', (hart', entry')) in
    let p : x ≡ y = same_Some x y e in
    (ap (λ (z : ℕ × (ℕ × ℕ)). z.0) p, ap (λ (z : ℕ × (ℕ × ℕ)). z.1.0) p, ap (λ (z : ℕ × (ℕ × ℕ)). z.1.1) p)

same_spot : (hart entry hart' entry' : ℕ) → ◌≡◌ {A = Option (ℕ × ℕ)} (Some (hart, entry)) (Some (hart', entry')) → (hart ≡ hart') × (entry ≡ entry')
same_spot hart entry hart' entry' e =
    let x : ℕ × ℕ = (hart, entry) in
    let y : ℕ × ℕ = (hart', entry') in
    let p : x ≡ y = same_Some x y e in
    (ap (λ (z : ℕ × ℕ). z.0) p, ap (λ (z : ℕ × ℕ). z.1) p)

-- where each of some rules is kept, none is broken first
AllKept : Log → List (Log → Spot → Bool) → Type 0
AllKept log [] = Unit {0}
AllKept log (rule ∷ others) = Keeps log rule × AllKept log others

none_broken : (log : Log) (n : ℕ) (some : List (Log → Spot → Bool)) → AllKept log some → first_broken log n some ≡ None
unfolding AllKept
none_broken log n [] kept = refl
none_broken log n (rule ∷ others) kept =
    ap (λ o. option_map_or (λ p. Some (n, p)) o (first_broken log (n + 1) others)) kept.0 ∙ none_broken log (n + 1) others kept.1

pub unbroken : (log : Log) → IsOrderly log → first_broken log 1 rules ≡ None
unfolding AllKept
unbroken log o =
    none_broken log 1 rules (
      o.counts_rise_to_the_end,
      (
        o.kinds_in_order_at_a_count,
        (o.polls_where_due, (o.touches_go_on, (o.pages_are_numbered, (o.holders_are_crew, (o.gains_name_their_waits, (o.ordinals_and_times_rise, tt)))))),
      ),
    )

no_report : (log : Log) (rule hart entry : ℕ) → IsOrderly log → IsLeastBreak log rule hart entry → ⊥
no_report log rule hart entry o (inl e) = none-some _ (sym (unbroken log o) ∙ e)
no_report log rule hart entry o (inr b) = none-some _ (one_left log None (Some (hart, entry)) o.least_order_takes_all b.2)

one_report : (log : Log) (rule hart entry rule' hart' entry' : ℕ) → IsLeastBreak log rule hart entry → IsLeastBreak log rule' hart' entry'
    → (rule ≡ rule') × (hart ≡ hart') × (entry ≡ entry')
one_report log rule hart entry rule' hart' entry' (inl a) (inl b) = same_report rule hart entry rule' hart' entry' (sym a ∙ b)
one_report log rule hart entry rule' hart' entry' (inl a) (inr b) = absurd (none-some _ (sym b.1 ∙ a))
one_report log rule hart entry rule' hart' entry' (inr a) (inl b) = absurd (none-some _ (sym a.1 ∙ b))
one_report log rule hart entry rule' hart' entry' (inr a) (inr b) =
    let s = same_spot hart entry hart' entry' (one_left log (Some (hart, entry)) (Some (hart', entry')) a.2 b.2) in
    (a.0 ∙ sym b.0, s.0, s.1)

pub reports_are_one : ReportsAreOne
reports_are_one = record { none = no_report; one = one_report }
