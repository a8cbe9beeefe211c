use Rattle.std.proofs.Common.{◌≡◌, ◌+◌, ◌%◌, ap, ap₂, ◌∙◌, arith, subst}
use Rattle.recorder.proofs.Manning.{given_then}
use Rattle.round_run.specs.Sweeps.{SweepsTo, harts_by, moves_to_come}
use Rattle.round_run.proofs.Sweeping.{mod_inside, sweep_begins, sweep_ends, sweep_step}
use Rattle.round_run.proofs.rounds.sweep.Goals as goal

pub loop-place-init : goal.loop-place-init
loop-place-init g c = λ moved is.
    sweep_begins c.args.round moved c.args.recording.now.board c.args.recording.now.runs.items c.args.recording.now.orders is

pub favoured_turn-requires-clause-favoured : goal.favoured_turn-requires-clause-favoured
favoured_turn-requires-clause-favoured g c κs within =
    let so = c.loop-place.invariant c.requires.ready.0 c.requires.ready.1 in
    mod_inside c.args.round c.from.result c.loop-place.recording.board.harts c.args.recording.now.board.harts
    (c.from.ensures ∙ c.harts-harts.ensures.number) so.takes.same.harts c.harts-harts.ensures.holds.some

pub favoured_turn-requires-clause-hart : goal.favoured_turn-requires-clause-hart
favoured_turn-requires-clause-hart g c κs within =
    let so = c.loop-place.invariant c.requires.ready.0 c.requires.ready.1 in
    mod_inside (c.args.round + c.from-in-loop-place.result) c.from-in-loop-place-2.result c.loop-place.recording.board.harts
    c.args.recording.now.board.harts (c.from-in-loop-place-2.ensures ∙ c.harts-harts.ensures.number) so.takes.same.harts
    c.harts-harts.ensures.holds.some

pub favoured_turn-requires-clause-manned : goal.favoured_turn-requires-clause-manned
favoured_turn-requires-clause-manned g c κs within =
    let so = c.loop-place.invariant c.requires.ready.0 c.requires.ready.1 in (
      moves_to_come (harts_by c.args.recording.now.board.harts c.args.round c.loop-place.place) c.requires.ready.0 c.loop-place.recording.board,
      so.manned,
    )

pub loop-place-preserved : goal.loop-place-preserved
loop-place-preserved g c = λ moved is.
    let p = c.args.recording.now.board in
    let m = c.loop-place.recording in
    let q = c.favoured_turn.new.recording in
    let so = c.loop-place.invariant moved is in
    let number = c.harts-harts.ensures.number in
    sweep_step c.args.round c.loop-place.place _ _ moved p m.board q.board m.runs.items q.runs.items m.orders q.orders c.favoured_turn.ensures.holds
    (let l = c.loop-place-test.true in omega (arith, l, number)) so (ap (λ n. c.args.round % n) (c.from.ensures ∙ number))
    (ap₂ (λ i n. (c.args.round + i) % n) c.from-in-loop-place.ensures (c.from-in-loop-place-2.ensures ∙ number))
    (c.in_ok-favoured_turn.ensures.turn (moves_to_come (harts_by p.harts c.args.round c.loop-place.place) moved m.board) so.manned)

pub returns-clause-taken : goal.returns-clause-taken
returns-clause-taken g c = λ moved is.
    let p = c.args.recording.now.board in
    let q = c.loop-place.recording in
    let end : c.loop-place.place ≡ p.harts =
    (let l = c.loop-place-test.false in let n = c.harts-harts.ensures.number in let k = c.loop-place.auto.place-end in omega (arith, l, n, k)) in
    sweep_ends c.args.round moved p q.board q.runs.items q.orders
    (subst (λ i. SweepsTo c.args.round moved (harts_by p.harts c.args.round i) p q.board q.runs.items q.orders) end (c.loop-place.invariant moved is))

pub returns-in_err-favoured_turn-clause-given : goal.returns-in_err-favoured_turn-clause-given
returns-in_err-favoured_turn-clause-given g c =
    let takes = (c.loop-place.invariant c.requires.ready.0 c.requires.ready.1).takes in
    given_then c.args.recording.now.board.now c.loop-place.recording.board.now c.favoured_turn.new.recording.board.now (takes.given, takes.gives)
    c.favoured_turn.ensures.given

pub returns-clause-given : goal.returns-clause-given
returns-clause-given g c = let takes = (c.loop-place.invariant c.requires.ready.0 c.requires.ready.1).takes in (takes.given, takes.gives)
