use Rattle.std.proofs.Common.{rules, ◌≡◌, ◌∙◌, ◌<◌, None, length, sym, ap, arith}
use Rattle.log_entry.specs.declared.log.Log.{Log}
use Rattle.replay_core.proofs.StagesGoOn.{on_same, same_then, somewhere_on}
use Rattle.replay_core.proofs.OutcomesTold.{answer_is_still, finds_first, finds_none_more, none_of_all}
use Rattle.replay_core.proofs.replaying.Replaying.first_diverged.Goals as goal

pub go-requires-clause-at : goal.go-requires-clause-at
go-requires-clause-at c =
    somewhere_on c.args.self.now c.loop-hart.self (on_same c.args.self.now c.loop-hart.self c.loop-hart.invariant.same) c.requires.at

pub returns-in-Some-clause-first : goal.returns-in-Some-clause-first
returns-in-Some-clause-first c =
    let number = ap (λ (l : Log). length l.streams) c.log.ensures.same in
    let there : c.loop-hart.hart < length c.args.self.now.board.log.streams = omega (arith, number) in
    finds_first c.args.self.now c.loop-hart.self c.loop-hart.hart c.go.result c.loop-hart.invariant.same c.requires.stuck c.go.ensures.answer there
    c.in-Some.rule (sym c.in-Some.ensures) c.loop-hart.invariant.none

pub loop-hart-preserved : goal.loop-hart-preserved
loop-hart-preserved c =
    let none : c.rule_in.result ≡ None = search rules in
    let number = ap (λ (l : Log). length l.streams) c.log.ensures.same in
    let there : c.loop-hart.hart < length c.args.self.now.board.log.streams = omega (arith, number) in
    record {
      same = same_then c.args.self.now c.loop-hart.self c.go.new.self c.loop-hart.invariant.same
          (c.go.ensures.still (answer_is_still c.args.self.now c.loop-hart.self c.loop-hart.hart c.go.result c.loop-hart.invariant.same c.requires.stuck
          c.go.ensures.answer there c.requires.at));
      none = finds_none_more c.args.self.now c.loop-hart.self c.loop-hart.hart c.go.result c.loop-hart.invariant.same c.requires.stuck
          c.go.ensures.answer there (sym c.rule_in.ensures ∙ none) c.loop-hart.invariant.none;
    }

pub returns-clause-first : goal.returns-clause-first
returns-clause-first c =
    let number = ap (λ (l : Log). length l.streams) c.log.ensures.same in
    none_of_all c.args.self.now (λ g less. let l : g < c.loop-hart.hart = omega (arith, less, number) in c.loop-hart.invariant.none g l)
