use Rattle.round_run.proofs.Settling.{parts_led, parts_may_go, some_moved}
use Rattle.round_run.proofs.replays.Replay.go_on.Goals as goal

pub legs-requires-clause-may : goal.legs-requires-clause-may
legs-requires-clause-may g c κs within =
    let s = c.args.self.now in
    parts_may_go s.board s.runs.items s.untils c.requires.parts c.requires.told

pub returns-clause-led : goal.returns-clause-led
returns-clause-led g c =
    let s = c.args.self.now in
    parts_led s.board s.runs.items c.legs.new.runs.items s.untils c.requires.parts c.requires.told c.in_ok-legs.ensures.gone

pub returns-clause-moved : goal.returns-clause-moved
returns-clause-moved g c = λ h until less is.
    let s = c.args.self.now in
    some_moved s.board s.runs.items c.legs.new.runs.items s.untils h until c.requires.parts c.requires.told c.in_ok-legs.ensures.gone less is
