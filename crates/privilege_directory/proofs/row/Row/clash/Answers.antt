use Rattle.std.proofs.Common.{◌≡◌, ◌<◌, ◌==◌, ◌&&◌, not, true, sym, arith, rules, length, Some, None, slice_get, unwrap_or}
use Rattle.log_entry.specs.Parts.{conflict}
use Rattle.privilege_directory.proofs.FirstNumber.{first_from, none_from}
use Rattle.privilege_directory.proofs.row.Row.clash.Goals as goal

pub returns-then-conflict : goal.returns-then-conflict
returns-then-conflict c =
    let inside : c.loop-other.other < length c.args.self.now = search rules in
    let passes : (not (c.loop-other.other == c.args.hart) && conflict (Some c.args.mode) (unwrap_or (slice_get c.args.self.now c.loop-other.other) None))
    ≡ true = search rules in
    sym (first_from (λ g. not (g == c.args.hart) && conflict (Some c.args.mode) (unwrap_or (slice_get c.args.self.now g) None)) 0
    (length c.args.self.now) c.loop-other.other (omega arith) (omega (arith, inside))
    (λ g a b. c.loop-other.invariant g b) passes)

pub returns : goal.returns
returns c =
    let past : length c.args.self.now ≡ c.loop-other.other = search rules in
    sym (none_from (λ g. not (g == c.args.hart) && conflict (Some c.args.mode) (unwrap_or (slice_get c.args.self.now g) None)) 0 (length c.args.self.now)
    (λ g a b. c.loop-other.invariant g (omega (arith, b, past))))
