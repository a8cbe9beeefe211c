use Rattle.std.proofs.Common.{◌≡◌, false, arith, subst, sym}
use Rattle.crew_parts.specs.Boards.{Plain, is_over_in}
use Rattle.recorder.specs.Manned.{HasGiven}
use Rattle.recorder.proofs.Manning.{given_then}
use Rattle.round_run.specs.Sweeps.{TakesRound}
use Rattle.round_run.proofs.Rounding.{few_rounds, round_more, rounds_begin}
use Rattle.round_run.proofs.rounds.Rounds.rounds.Goals as goal

pub loop-alloc-init : goal.loop-alloc-init
loop-alloc-init g c =
    let s = c.args.self.now in
    rounds_begin s.recording.board s.recording.runs.items s.recording.orders s.stood c.requires.start c.requires.manned c.requires.stood

pub round-requires-clause-number : goal.round-requires-clause-number
round-requires-clause-number g c κs within =
    let m = c.loop-alloc.self in
    let short : is_over_in m.recording.board ≡ false = (let a = c.over.ensures.over in let t = c.loop-alloc-test.true in cc) in
    let l =
    few_rounds c.args.self.now.recording.board m.recording.board c.loop-alloc.number m.recording.runs.items m.recording.orders m.stood c.harts.ensures.holds
    c.requires.limit short c.loop-alloc.invariant in
    omega (arith, l)

pub overflow_add-number : goal.overflow_add-number
overflow_add-number g c =
    let m = c.loop-alloc.self in
    let short : is_over_in m.recording.board ≡ false = (let a = c.over.ensures.over in let t = c.loop-alloc-test.true in cc) in
    let l =
    few_rounds c.args.self.now.recording.board m.recording.board c.loop-alloc.number m.recording.runs.items m.recording.orders m.stood c.harts.ensures.holds
    c.requires.limit short c.loop-alloc.invariant in
    omega (arith, l)

pub loop-alloc-smaller : goal.loop-alloc-smaller
loop-alloc-smaller g c =
    let m = c.loop-alloc.self in
    let a = c.round.new.recording in
    let q = c.go_on.new.self in
    let short : is_over_in m.recording.board ≡ false = (let a = c.over.ensures.over in let t = c.loop-alloc-test.true in cc) in
    (round_more c.args.self.now.recording.board m.recording.board q.recording.board c.loop-alloc.number m.recording.runs.items a.runs.items
    q.recording.runs.items m.recording.orders a.orders q.recording.orders m.stood q.stood c.requires.start c.over.ensures.holds c.go_on.ensures.holds short
    c.loop-alloc.invariant
    (subst (λ z. TakesRound c.loop-alloc.number m.recording.board z a.runs.items a.orders) (sym c.go_on.ensures.board) c.in_ok-round.ensures.taken)
    c.in_ok-go_on.ensures.ready c.go_on.ensures.stood).1

pub loop-alloc-preserved : goal.loop-alloc-preserved
loop-alloc-preserved g c =
    let m = c.loop-alloc.self in
    let a = c.round.new.recording in
    let q = c.go_on.new.self in
    let short : is_over_in m.recording.board ≡ false = (let a = c.over.ensures.over in let t = c.loop-alloc-test.true in cc) in
    (round_more c.args.self.now.recording.board m.recording.board q.recording.board c.loop-alloc.number m.recording.runs.items a.runs.items
    q.recording.runs.items m.recording.orders a.orders q.recording.orders m.stood q.stood c.requires.start c.over.ensures.holds c.go_on.ensures.holds short
    c.loop-alloc.invariant
    (subst (λ z. TakesRound c.loop-alloc.number m.recording.board z a.runs.items a.orders) (sym c.go_on.ensures.board) c.in_ok-round.ensures.taken)
    c.in_ok-go_on.ensures.ready c.go_on.ensures.stood).0

pub returns-in_err-round-clause-given : goal.returns-in_err-round-clause-given
returns-in_err-round-clause-given g c =
    let takes = c.loop-alloc.invariant.takes in
    given_then c.args.self.now.recording.board.now c.loop-alloc.self.recording.board.now c.round.new.recording.board.now (takes.given, takes.gives)
    c.round.ensures.given

pub returns-in_err-go_on-clause-given : goal.returns-in_err-go_on-clause-given
returns-in_err-go_on-clause-given g c =
    let takes = c.loop-alloc.invariant.takes in
    subst (λ (z : Plain). HasGiven c.args.self.now.recording.board.now z.now) (sym c.go_on.ensures.board)
    (given_then c.args.self.now.recording.board.now c.loop-alloc.self.recording.board.now c.round.new.recording.board.now
    (takes.given, takes.gives) c.round.ensures.given)

pub returns-clause-given : goal.returns-clause-given
returns-clause-given g c = let takes = c.loop-alloc.invariant.takes in (takes.given, takes.gives)
