use Rattle.std.proofs.Common.{ap, ◌∙◌, sym, slice_index, arith}
use Rattle.replay_parts.specs.Boards.{Plain}
use Rattle.round_run.proofs.Replaying.{differ_by, had_turn, inside_then, is_moved, run_found}
use Rattle.round_run.proofs.replays.Replay.turn.Goals as goal

pub turn-pace-requires : goal.turn-pace-requires
turn-pace-requires c =
    let s = c.args.self.now in
    let r = c.index_mut.result.now in
    is_moved s.board s.runs.items c.args.hart r c.requires.led
    (run_found s.runs.items c.args.hart c.from-place.result r
    (let h = c.requires.hart in let n = c.requires.led.number in omega (arith, h, n)) c.from-place.ensures c.index_mut.ensures.value)

pub bounds-self-place : goal.bounds-self-place
bounds-self-place c =
    let h = c.requires.hart in
    let n = c.harts.ensures.number in
    let few = c.harts.ensures.few in
    let is = c.from-place.ensures in
    omega (arith, h, n, few, is)

pub place-requires-2 : goal.place-requires-2
place-requires-2 c =
    let s = c.args.self.now in
    let r = c.index_mut.result.now in
    let there = run_found s.runs.items c.args.hart c.from-place.result r
    (let h = c.requires.hart in let n = c.requires.led.number in omega (arith, h, n)) c.from-place.ensures c.index_mut.ensures.value in
    inside_then s.board c.turn-pace.new.self s.runs.items c.args.hart r c.turn-pace.new.run c.turn-pace.result c.requires.led there c.turn-pace.ensures.turned

pub count-requires-2 : goal.count-requires-2
count-requires-2 c =
    let s = c.args.self.now in
    let r = c.index_mut.result.now in
    let there = run_found s.runs.items c.args.hart c.from-place.result r
    (let h = c.requires.hart in let n = c.requires.led.number in omega (arith, h, n)) c.from-place.ensures c.index_mut.ensures.value in
    inside_then s.board c.turn-pace.new.self s.runs.items c.args.hart r c.turn-pace.new.run c.turn-pace.result c.requires.led there c.turn-pace.ensures.turned

pub returns : goal.returns
returns c =
    let s = c.args.self.now in
    let r = c.index_mut.result.now in
    let h = c.requires.hart in
    let there = run_found s.runs.items c.args.hart c.from-place.result r
    (let n = c.requires.led.number in omega (arith, h, n)) c.from-place.ensures c.index_mut.ensures.value in
    let differ = differ_by c.place-2.result c.place.result c.count-2.result c.count.result c.ne.result c.ne.ensures in
    had_turn s.board c.turn-pace.new.self s.runs.items c.args.hart r c.turn-pace.new.run c.turn-pace.result c.requires.led there c.turn-pace.ensures.turned
    s.untils c.from-place.result c.until_of.result c.ne.result c.from-place.ensures
    (let n = c.harts.ensures.number in let few = c.harts.ensures.few in let size = c.requires.places in omega (arith, h, n, few, size))
    c.until_of.ensures
    (λ t e. differ.0 t (c.place-2.ensures ∙ ap (λ (p : Plain). slice_index p.places c.args.hart) e ∙ sym c.place.ensures)
    (c.count-2.ensures ∙ ap (λ (p : Plain). slice_index p.counts c.args.hart) e ∙ sym c.count.ensures))
    (λ f. (
      sym c.place-2.ensures ∙ (differ.1 f).0 ∙ c.place.ensures,
      sym c.count-2.ensures ∙ (differ.1 f).1 ∙ c.count.ensures,
    ))
