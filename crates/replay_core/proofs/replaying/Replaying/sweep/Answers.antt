use Rattle.std.proofs.Common.{◌∙◌, ◌<◌, length, ap, refl, sym, subst, arith}
use Rattle.log_entry.specs.declared.log.Log.{Log}
use Rattle.replay_core.specs.Standing.{HasGone}
use Rattle.replay_core.proofs.NotesKept.{aim_on, told_here, told_on, same_aim}
use Rattle.replay_core.proofs.StagesGoOn.{all_stuck, gone_then, hart_on, on_then, run_there, somewhere_on, stuck_then}
use Rattle.replay_core.proofs.replaying.Replaying.sweep.Goals as goal

pub loop-hart-init : goal.loop-hart-init
loop-hart-init c = record {
  on = λ image s at. (s, at);
  log = refl;
  gone = (refl, (refl, refl));
  stuck = λ none h less. absurd (omega (arith, less));
  aim = same_aim c.args.notes.now;
  noted = told_here c.args.self.now c.args.notes.now;
}

pub go_far-far-requires-clause-at : goal.go_far-far-requires-clause-at
go_far-far-requires-clause-at c = somewhere_on c.args.self.now c.loop-hart.self c.loop-hart.invariant.on c.requires

pub go_far-far-requires-clause-hart : goal.go_far-far-requires-clause-hart
go_far-far-requires-clause-hart c =
    let number = ap (λ (l : Log). length l.streams) c.log.ensures.same in
    let there : c.loop-hart.hart < length c.args.self.now.board.log.streams = omega (arith, number) in
    hart_on c.args.self.now c.loop-hart.self c.loop-hart.hart c.requires
    (somewhere_on c.args.self.now c.loop-hart.self c.loop-hart.invariant.on c.requires) c.loop-hart.invariant.log
    (run_there c.args.self.now c.loop-hart.hart c.requires there)

pub loop-hart-preserved : goal.loop-hart-preserved
loop-hart-preserved c = record {
  on = on_then c.args.self.now c.loop-hart.self c.go_far-far.new.self c.loop-hart.invariant.on c.go_far-far.ensures.on;
  log = c.go_far-far.ensures.log ∙ c.loop-hart.invariant.log;
  gone = subst (λ went. HasGone went c.args.self.now c.go_far-far.new.self) (sym c.either-went.ensures)
      (gone_then c.loop-hart.went c.go_far-far.result c.args.self.now c.loop-hart.self c.go_far-far.new.self c.loop-hart.invariant.gone
      c.go_far-far.ensures.gone);
  stuck = λ none. stuck_then c.loop-hart.went c.go_far-far.result c.loop-hart.self c.go_far-far.new.self c.loop-hart.hart c.go_far-far.ensures.gone
      c.go_far-far.ensures.stuck c.loop-hart.invariant.stuck (sym c.either-went.ensures ∙ none);
  aim = aim_on c.args.notes.now c.loop-hart.notes c.go_far-far.new.notes c.loop-hart.invariant.aim c.go_far-far.ensures.aim;
  noted = told_on c.args.self.now c.loop-hart.self c.go_far-far.new.self c.args.notes.now c.loop-hart.notes c.go_far-far.new.notes
      c.loop-hart.invariant.noted c.go_far-far.ensures.noted;
}

pub returns-clause-stuck : goal.returns-clause-stuck
returns-clause-stuck c = λ none.
    let number = ap (λ (l : Log). length l.streams) c.log.ensures.same in
    let same = ap (λ (l : Log). length l.streams) c.loop-hart.invariant.log in
    all_stuck c.loop-hart.self (λ h less. let l : h < c.loop-hart.hart = omega (arith, less, number, same) in c.loop-hart.invariant.stuck none h l)
