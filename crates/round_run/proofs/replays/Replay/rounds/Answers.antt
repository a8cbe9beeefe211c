use Rattle.std.proofs.Common.{◌≡◌, ◌<◌, ◌∙◌, ap, sym, subst, take, length, arith}
use Rattle.std.specs.Prelude.{is_some}
use Rattle.std.specs.List.{list_any}
use Rattle.log_entry.specs.declared.log.Log.{Log}
use Rattle.round_run.specs.Replays.{left_in}
use Rattle.round_run.proofs.Settling.{none_goes, some_may}
use Rattle.round_run.proofs.replays.Replay.rounds.Goals as goal

pub rounds-init : goal.rounds-init
rounds-init g c = record {
  same = c.settle.ensures.same;
  parts = c.settle.ensures.led;
  places = c.settle.ensures.places;
  told = c.settle.ensures.told;
}

pub shared_ref_as_front-may_any_move : goal.shared_ref_as_front-may_any_move
shared_ref_as_front-may_any_move g c =
    let is = c.len.ensures in
    let n = c.rounds.invariant.parts.number in
    let log_is = ap (λ (l : Log). length l.streams) c.rounds.invariant.same.0 in
    let harts = c.harts.ensures.number in
    let few = c.harts.ensures.few in
    omega (arith, is, n, log_is, harts, few)

pub rounds-smaller : goal.rounds-smaller
rounds-smaller g c =
    let m = c.rounds.self in
    let some = some_may m.untils c.len.result (sym c.may_any_move.ensures ∙ c.rounds-test.true) in
    let less : some.0 < length m.runs.items = (let l = some.1.1.0 in let is = c.len.ensures in omega (arith, l, is)) in
    subst (λ z. left_in c.settle-in-rounds.new.self.board < left_in z) c.go_on.ensures.board
    (c.settle-in-rounds.ensures.less (c.in_ok-go_on.ensures.moved some.0 some.1.0 less some.1.1.1))

pub returns : goal.returns
returns g c =
    let m = c.rounds.self in
    let long : c.len.result ≡ length m.runs.items = (let is = c.len.ensures in omega (arith, is)) in
    record {
      same = c.rounds.invariant.same;
      parts = c.rounds.invariant.parts;
      stuck =
          none_goes m.board m.runs.items m.untils c.rounds.invariant.parts c.rounds.invariant.told
          (ap (λ n. list_any (λ u. is_some u) (take n m.untils)) (sym long) ∙ sym c.may_any_move.ensures ∙ c.rounds-test.false);
    }
