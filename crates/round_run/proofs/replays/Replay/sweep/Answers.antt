use Rattle.std.proofs.Common.{◌≡◌, ◌∙◌, ap, length, subst, sym, true≢false, arith}
use Rattle.log_entry.specs.declared.log.Log.{Log}
use Rattle.round_run.specs.Replays.{HadTurns}
use Rattle.round_run.proofs.Settling.{turns_begin, turns_more}
use Rattle.round_run.proofs.replays.Replay.sweep.Goals as goal
use Rattle.round_run.proofs.replays.Replay.sweep.Goals.{then-turn, else-turn}

pub loop-hart-init : goal.loop-hart-init
loop-hart-init c = let s = c.args.self.now in turns_begin s.board s.runs.items s.untils c.requires.led c.requires.places

pub turn-requires-clause-hart : goal.turn-requires-clause-hart
turn-requires-clause-hart c =
    let n = c.harts-hart-end.ensures.number in
    let log_is = ap (λ (l : Log). length l.streams) c.loop-hart.invariant.same.0 in
    let less = c.loop-hart-test.true in
    omega (arith, n, log_is, less)

pub turn-requires-clause-led : goal.turn-requires-clause-led
turn-requires-clause-led c = c.loop-hart.invariant.led

pub turn-requires-clause-places : goal.turn-requires-clause-places
turn-requires-clause-places c = c.loop-hart.invariant.places

pub loop-hart-preserved : goal.loop-hart-preserved
loop-hart-preserved c =
    let p = c.args.self.now in
    let m = c.loop-hart.self in
    let q = c.turn.new.self in
    elim c.if-turn.branch [
      | then-turn w ↦
          turns_more c.loop-hart.hart p.board m.board q.board p.runs.items m.runs.items q.runs.items m.untils q.untils c.loop-hart.changed c.turn.result
          c.if-turn.changed c.loop-hart.invariant c.turn.ensures (λ t. w.changed-is) (λ f. absurd (true≢false (sym w.if-turn.true ∙ f)))
      | else-turn w ↦
          turns_more c.loop-hart.hart p.board m.board q.board p.runs.items m.runs.items q.runs.items m.untils q.untils c.loop-hart.changed c.turn.result
          c.if-turn.changed c.loop-hart.invariant c.turn.ensures (λ t. absurd (true≢false (sym t ∙ w.if-turn.false))) (λ f. w.changed-is)
    ]

pub returns : goal.returns
returns c =
    let s = c.args.self.now in
    let q = c.loop-hart.self in
    let n = c.harts-hart-end.ensures.number in
    let end : c.loop-hart.hart ≡ length s.board.log.streams =
    (let l = c.loop-hart-test.false in let k = c.loop-hart.auto.hart-end in omega (arith, l, k, n)) in
    subst (λ i. HadTurns i s.board q.board s.runs.items q.runs.items q.untils c.loop-hart.changed) end c.loop-hart.invariant
