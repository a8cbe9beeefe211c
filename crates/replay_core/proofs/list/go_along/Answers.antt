use Rattle.std.proofs.Common.{◌≡◌, ◌∙◌, ◌<◌, length, slice_index, refl, subst, sym, arith}
use Rattle.std.proofs.lemmas.Option.{slice_get-get_or}
use Rattle.log_entry.specs.declared.log.Log.{Log}
use Rattle.replay_core.proofs.AlongLists.{all_followed, begins_along, followed}
use Rattle.replay_core.proofs.list.go_along.Goals as goal

pub loop-place-init : goal.loop-place-init
loop-place-init c = record { log = refl; follows = begins_along c.args.stage.now c.args.list.now c.args.answers.now }

pub go-requires : goal.go-requires
go-requires c =
    subst (λ (l : Log). slice_index c.args.list.now c.loop-place.place < length l.streams) (sym c.loop-place.invariant.log)
    (c.requires.harts c.loop-place.place (slice_index c.args.list.now c.loop-place.place)
    (slice_get-get_or c.args.list.now c.loop-place.place 0 c.loop-place-test.true))

pub loop-place-preserved : goal.loop-place-preserved
loop-place-preserved c =
    let inside : c.loop-place.place < length c.loop-place.answers = omega arith in
    record {
      log = c.go.ensures.log ∙ c.loop-place.invariant.log;
      follows = followed c.args.stage.now c.loop-place.stage c.go.new.self c.args.list.now c.loop-place.answers c.loop-place.place
          (slice_index c.args.list.now c.loop-place.place) c.go.result
          (slice_get-get_or c.args.list.now c.loop-place.place 0 c.loop-place-test.true) inside c.loop-place.invariant.log c.loop-place.invariant.follows
          c.go.ensures.answer c.go.ensures.at;
    }

pub returns : goal.returns
returns c =
    let all : c.loop-place.place ≡ length c.args.list.now = omega arith in
    let same : length c.loop-place.answers ≡ length c.args.list.now = omega arith in
    all_followed c.args.stage.now c.loop-place.stage c.args.list.now c.loop-place.answers c.loop-place.place all same c.loop-place.invariant.follows
