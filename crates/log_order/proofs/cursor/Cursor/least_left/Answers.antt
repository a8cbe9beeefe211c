use Rattle.std.proofs.Common.{◌≡◌, ℕ, ◌<◌, Some, length, sym, ap, ◌∙◌, subst, arith}
use Rattle.std.specs.Prelude.{is_some, option_map, slice_index}
use Rattle.order_rules.specs.Cursor.{first_left}
use Rattle.log_order.proofs.OneStep.{none_below, first_below}
use Rattle.log_order.proofs.cursor.Cursor.least_left.Goals as goal

pub returns-then-has_left : goal.returns-then-has_left
returns-then-has_left c =
    let log = c.args.l.now in
    let h = c.loop-hart.hart in
    let l : h < length log.streams = subst (λ xs. h < length xs) c.items-hart-end.ensures c.loop-hart-test.true in
    let found = first_below (λ j. is_some (first_left log c.args.self.now j)) (length log.streams) h l
    (sym c.has_left.ensures ∙ c.if-has_left.true) c.loop-hart.invariant in
    ap (λ (p : ℕ). Some (h, p)) c.place.ensures ∙ sym (ap (option_map (λ (h : ℕ). (h, slice_index c.args.self.now.places h))) found)

pub returns : goal.returns
returns c =
    let log = c.args.l.now in
    let past = c.loop-hart-test.false in
    let size : length c.items-hart-end.result.now ≡ length log.streams = ap length c.items-hart-end.ensures in
    let none = none_below (λ j. is_some (first_left log c.args.self.now j)) (length log.streams)
    (λ j m. c.loop-hart.invariant j (omega (arith, past, size, m))) in
    sym (ap (option_map (λ (h : ℕ). (h, slice_index c.args.self.now.places h))) none)
