use Rattle.std.proofs.Common.{◌≡◌, ◌∙◌, ap, arith, rules}
use Rattle.std.proofs.lemmas.Fn.{always_returns_same}
use Rattle.std.proofs.lemmas.List.Sorted.{IsNonDecreasingBy-from_sort_by_key}
use Rattle.log_inspect.specs.declared.table.HandOver.{HandOver}
use Rattle.log_inspect.proofs.ByNumber.{is_by_number}
use Rattle.log_inspect.proofs.Ties.{kept_by_number}
use Rattle.log_inspect.proofs.table.sort_by_seq.Goals as goal

pub returns : goal.returns
returns c =
    let number = λ (x : HandOver). x.seq in
    let sort = c.in_ok-sort_by_key.ensures in
    let sorted = c.sort_by_key.new.self.items in
    let stable = sort.stable number (always_returns_same _ (λ a r. r ≡ number a.0.now) _ (λ a r q k. search rules)) in
    let rising = IsNonDecreasingBy-from_sort_by_key number _ sort.sorted (λ a r q k. search rules) in
    is_by_number number c.args.gains.now.items sorted rising (λ k.
    let x : HandOver = record { page = 0; seq = k; hart = 0; entry = 0 } in
    kept_by_number number c.args.gains.now.items sorted stable x k (omega arith))
