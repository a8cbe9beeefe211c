use Rattle.std.proofs.Common.{◌∙◌, ap, ap₂, arith, unwrap_or}
use Rattle.rv_words.specs.declared.shared.Cause.TheVariants.{Limit}
use Rattle.flat_machine.specs.Runs.{final_of}
use Rattle.turn_model.specs.Board.{log_with}
use Rattle.crew_core.specs.Standing.{terms_of}
use Rattle.crew_core.proofs.EndsOfTurns.{streams_are, crew_has, places_there}
use Rattle.crew_core.proofs.crew.Crew.finish.Goals as goal

pub gather-requires-clause-state : goal.gather-requires-clause-state
gather-requires-clause-state c =
    let t = c.requires in
    (t.0.at, crew_has c.args.self c.args.runs.now t.0 t.1 t.2)

pub gather-requires-clause-places : goal.gather-requires-clause-places
gather-requires-clause-places c = let t = c.requires in places_there c.args.self c.args.runs.now t.0 t.1 t.2

pub end-requires-clause-empty : goal.end-requires-clause-empty
end-requires-clause-empty c = c.requires.1.ends.1

pub end-requires-clause-room : goal.end-requires-clause-room
end-requires-clause-room c =
    let st = c.requires.1 in
    let room = st.ends.2 in
    let harts = st.harts in
    omega (arith, room, harts)

pub returns : goal.returns
returns c = λ b st has.
    let cause = c.unwrap_or-cause.ensures ∙ ap (λ o. unwrap_or o Limit) st.closed in
    record {
      log = ap₂ (log_with (terms_of c.args.self)) (c.end.ensures ∙ streams_are c.args.self b st) cause;
      ended = c.gather.ensures b.at (crew_has c.args.self c.args.runs.now b st has) ∙ ap (final_of b.at.flat) cause;
    }
