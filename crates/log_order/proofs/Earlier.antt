-- Tests over the entries that stand before one.
use Rattle.std.proofs.Common.{◌≡◌, ℕ, zero, suc, Bool, true, false, List, [], ◌∷◌, flat_map, take, Option, Some, refl, ap, ◌∙◌, subst, inl, inr}
use Rattle.std.specs.Prelude.{slice_get, unwrap_or}
use Rattle.std.specs.List.{list_any}
use Rattle.std.proofs.lemmas.Bool.{or_from, or_left, or_right}
use Rattle.std.proofs.lemmas.Option.{none-some, same_Some}
use Rattle.std.proofs.lemmas.List.Folds.{list_any-append}
use Rattle.log_entry.specs.declared.log.Entry.{Entry}
use Rattle.log_entry.specs.declared.log.Log.{Log}
use Rattle.order_rules.specs.Places.{Placed, stream, entry_at, earlier}
use Rattle.order_rules.specs.Orderly.{Spot}
use Rattle.order_rules.specs.Laws.{IsBefore}
use Rattle.order_rules.proofs.Numbers.{in_stream}
use Rattle.shared_types.proofs.Lists.{any_there, none_there, get_take, in_take}
use Rattle.log_order.proofs.Lists.{any_in_take, none_in_take}

module _ (f : Entry → Bool) where
  all_of : List (List Entry) → List Entry
  all_of streams = flat_map (λ s. s) streams

  any_in_all : (streams : List (List Entry)) (g j : ℕ) (s : List Entry) (e : Entry) → slice_get streams g ≡ Some s → slice_get s j ≡ Some e → f e ≡ true
      → list_any f (flat_map (λ z. z) streams) ≡ true
  any_in_all [] g j s e there at t = absurd (none-some _ there)
  any_in_all (x ∷ streams) zero j s e there at t =
      list_any-append f x (flat_map (λ z. z) streams)
      ∙ or_left (list_any f x) (list_any f (flat_map (λ z. z) streams)) (any_there f x j e (ap (λ z. slice_get z j) (same_Some _ _ there) ∙ at) t)
  any_in_all (x ∷ streams) (suc g) j s e there at t =
      list_any-append f x (flat_map (λ z. z) streams)
      ∙ or_right (list_any f x) (list_any f (flat_map (λ z. z) streams)) (any_in_all streams g j s e there at t)

  none_in_all : (streams : List (List Entry))
      → ((g j : ℕ) (s : List Entry) (e : Entry) → slice_get streams g ≡ Some s → slice_get s j ≡ Some e → f e ≡ false)
      → list_any f (flat_map (λ z. z) streams) ≡ false
  none_in_all [] h = refl
  none_in_all (x ∷ streams) h =
      list_any-append f x (flat_map (λ z. z) streams)
      ∙ or_from (list_any f x) (list_any f (flat_map (λ z. z) streams)) (none_there f x (λ j e at. h 0 j x e refl at))
      (none_in_all streams (λ g j s e there at. h (suc g) j s e there at))

  pub any_earlier : (log : Log) (x : Placed) (q : Spot) (e : Entry) → IsBefore q (x.hart, x.place) → entry_at log q.0 q.1 ≡ Some e → f e ≡ true
      → list_any f (earlier log x) ≡ true
  any_earlier log x q e before at t =
      let whole = flat_map (λ z. z) (take x.hart log.streams) in
      let own = take x.place (stream log x.hart) in
      list_any-append f whole own ∙ elim before [
        | inl less ↦ or_left (list_any f whole) (list_any f own)
            (any_in_all (take x.hart log.streams) q.0 q.1 (stream log q.0) e (get_take log.streams x.hart q.0 less ∙ in_stream log q.0 q.1 e at) at t)
        | inr same ↦ or_right (list_any f whole) (list_any f own)
            (any_in_take f (stream log x.hart) x.place q.1 e same.1 (subst (λ (h : ℕ). entry_at log h q.1 ≡ Some e) same.0 at) t)
      ]

  pub none_earlier : (log : Log) (x : Placed) → ((q : Spot) (e : Entry) → IsBefore q (x.hart, x.place) → entry_at log q.0 q.1 ≡ Some e → f e ≡ false)
      → list_any f (earlier log x) ≡ false
  none_earlier log x h =
      let whole = flat_map (λ z. z) (take x.hart log.streams) in
      let own = take x.place (stream log x.hart) in
      list_any-append f whole own ∙ or_from (list_any f whole) (list_any f own)
      (none_in_all (take x.hart log.streams) (λ g j s e there at.
      let r = in_take log.streams x.hart g s there in
      h (g, j) e (inl r.0) (ap (λ (o : Option (List Entry)). slice_get (unwrap_or o []) j) r.1 ∙ at)))
      (none_in_take f (stream log x.hart) x.place (λ j e l at. h (x.hart, j) e (inr (refl, l)) at))
