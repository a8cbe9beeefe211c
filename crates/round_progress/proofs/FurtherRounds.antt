-- One round more behind others.
use Rattle.std.proofs.Common.{◌≡◌, ℕ, zero, suc, ◌+◌, ◌==◌, not, false, Some, None, refl, ap, ◌∙◌, sym, subst, arith, if◌then◌else◌}
use Rattle.std.specs.Option.{option_and_then}
use Rattle.std.proofs.lemmas.Option.{same_Some}
use Rattle.shared_types.proofs.Lists.{bound_to, not_chosen, unless}
use Rattle.turn_model.specs.Recordable.{Recordable}
use Rattle.turn_model.specs.Laws.{machine_in}
use Rattle.turn_model.specs.Board.{Board, Terms, is_over}
use Rattle.turn_model.specs.Rounds.{round, rounds}
use Rattle.round_progress.specs.Laws.{RoundsFollow}

module _ {S V : Type 0} (machine : Recordable S V) (terms : Terms) where
  pub rounds_more : (r more : ℕ) (b c d : Board S) → is_over machine terms b ≡ false → round machine terms r (not (r == 0)) b ≡ Some c
      → rounds machine terms (r + 1) more c ≡ Some d → rounds machine terms r (suc more) b ≡ Some d
  rounds_more r more b c d short is rest =
      ap (λ x. if x then None else option_and_then (rounds machine terms (r + 1) more) (round machine terms r (not (r == 0)) b)) short
      ∙ ap (option_and_then (rounds machine terms (r + 1) more)) is ∙ rest

  pub rounds_then : (more r k : ℕ) (b m c : Board S) → k ≡ r + more → rounds machine terms r more b ≡ Some m → is_over machine terms m ≡ false
      → round machine terms k (not (k == 0)) m ≡ Some c → rounds machine terms r (suc more) b ≡ Some c
  rounds_then zero r k b m c e is short one =
      let same : b ≡ m = same_Some _ _ is in
      let at : k ≡ r = omega (arith, e) in
      rounds_more r 0 b c c (ap (is_over machine terms) same ∙ short)
      (ap (round machine terms r (not (r == 0))) same ∙ subst (λ j. round machine terms j (not (j == 0)) m ≡ Some c) at one) refl
  rounds_then (suc more) r k b m c e is short one =
      let open_so = not_chosen (is_over machine terms b) (option_and_then (rounds machine terms (r + 1) more) (round machine terms r (not (r == 0)) b)) m is in
      let rest = unless (is_over machine terms b) (option_and_then (rounds machine terms (r + 1) more) (round machine terms r (not (r == 0)) b)) m is in
      let y = bound_to (rounds machine terms (r + 1) more) (round machine terms r (not (r == 0)) b) m rest in
      rounds_more r (suc more) b y.0 c open_so y.1 (rounds_then more (r + 1) k y.0 m c (omega (arith, e)) y.2 short one)

pub rounds_follow : RoundsFollow
rounds_follow terms n first b c is one =
    let up : n + 1 ≡ suc n = omega arith in
    subst (λ k. rounds (machine_in terms) terms 0 k first ≡ Some c) (sym up) (rounds_then (machine_in terms) terms n 0 n first b c (omega arith) is one.0 one.1)
