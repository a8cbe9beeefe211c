use Rattle.std.proofs.Common.{◌≡◌, arith, subst, sym}
use Rattle.recorder.proofs.Manning.{given_then}
use Rattle.round_run.specs.Rounds.{LastTurnsTo}
use Rattle.round_run.proofs.Rounding.{last_begins, last_ends, last_more}
use Rattle.round_run.proofs.rounds.Rounds.last_turns.Goals as goal

pub loop-hart-init : goal.loop-hart-init
loop-hart-init g c =
    let s = c.args.self.now in
    last_begins s.recording.board s.recording.runs.items s.recording.orders s.stood c.requires.ready c.requires.stood

pub loop-hart-preserved : goal.loop-hart-preserved
loop-hart-preserved g c =
    let p = c.args.self.now.recording.board in
    let m = c.loop-hart.self in
    let q = c.last_turn.new.self in
    let so = c.loop-hart.invariant in
    subst (LastTurnsTo _ p q.recording.board q.recording.runs.items q.recording.orders) (sym c.last_turn.ensures.stood)
    (last_more c.loop-hart.hart p m.recording.board q.recording.board m.recording.runs.items q.recording.runs.items m.recording.orders q.recording.orders
    m.stood (let l = c.loop-hart-test.true in let n = c.harts-harts.ensures.number in let k = so.takes.same.harts in omega (arith, l, n, k)) so
    c.in_ok-last_turn.ensures.turn)

pub returns-clause-taken : goal.returns-clause-taken
returns-clause-taken g c =
    let p = c.args.self.now.recording.board in
    let q = c.loop-hart.self in
    let end : c.loop-hart.hart ≡ p.harts =
    (let l = c.loop-hart-test.false in let n = c.harts-harts.ensures.number in let k = c.loop-hart.auto.hart-end in omega (arith, l, n, k)) in
    last_ends p q.recording.board q.recording.runs.items q.recording.orders q.stood
    (subst (λ i. LastTurnsTo i p q.recording.board q.recording.runs.items q.recording.orders q.stood) end c.loop-hart.invariant)

pub returns-in_err-last_turn-clause-given : goal.returns-in_err-last_turn-clause-given
returns-in_err-last_turn-clause-given g c =
    let takes = c.loop-hart.invariant.takes in
    given_then c.args.self.now.recording.board.now c.loop-hart.self.recording.board.now c.last_turn.new.self.recording.board.now
    (takes.given, takes.gives) c.last_turn.ensures.given

pub returns-clause-given : goal.returns-clause-given
returns-clause-given g c = let takes = c.loop-hart.invariant.takes in (takes.given, takes.gives)
