use Rattle.std.proofs.Common.{rules, ◌≡◌, ◌∙◌, sym, ap, refl, arith, subst, ◌<◌, ◌+◌, length, false}
use Rattle.std.specs.Prelude.{Some, None, slice_get, slice_set, slice_index, is_some, unwrap_or}
use Rattle.std.proofs.lemmas.Option.{slice_get_read}
use Rattle.std.proofs.lemmas.Grind.{get_or_default_zero}
use Rattle.rv_csr.specs.Traps.{with_lines}
use Rattle.rv_hart.specs.State.{Hart}
use Rattle.rv_hart.specs.Effects.{effect_of}
use Rattle.rv_hart.specs.Moves.{after}
use Rattle.flat_machine.specs.State.{FlatWithRoom, OnBoard, FitsTogether}
use Rattle.flat_machine.specs.Acts.{next, with_lines_of}
use Rattle.flat_machine.specs.declared.act.Act.TheVariants.{Touch}
use Rattle.flat_machine.proofs.StateAfterMove.{touched_fits, touch_state, touch_state_kept, touch_no_access, access_has_room}
use Rattle.flat_machine.proofs.DeviceHarts.{touch_keeps_harts}
use Rattle.flat_machine.proofs.machine.Flat.touch.Goals as goal
use Rattle.flat_machine.proofs.machine.Flat.touch.Goals.{After-index_mut-in-Some-replay_touch, In-None-replay_touch, In-None}

pub invariant_of-self : goal.invariant_of-self
invariant_of-self c =
    let inside : c.args.h < length c.self.inside.harts.items = search rules in
    let was_on_board : OnBoard c.self.inside.devices.devices.harts c.self.inside.pages c.index.result.now =
    subst (λ x. OnBoard c.self.inside.devices.devices.harts c.self.inside.pages x) (sym c.index.ensures)
    (c.self.invariant.same_board c.args.h c.index.result.now inside) in
    let on_board : OnBoard c.self.inside.devices.devices.harts c.self.inside.pages c.set_lines.new.self = (
      ap (λ (x : Hart). x.harts) c.set_lines.ensures ∙ c.finish.ensures.board.0 ∙ was_on_board.0,
      ap (λ (x : Hart). x.pages) c.set_lines.ensures
          ∙ c.finish.ensures.board.1 ∙ was_on_board.1,
    ) in
    touched_fits _ _ _ _ _ _ c.args.h _ _ c.self.invariant
    (touch_keeps_harts c.self.inside.devices.devices c.replay_touch.new.self.devices c.in-Some.access c.args.input c.replay_touch.result
    c.replay_touch.ensures.devices) on_board

pub replay_touch-requires-clause-room : goal.replay_touch-requires-clause-room
replay_touch-requires-clause-room c =
    let inside : c.args.h < length c.self.inside.harts.items = search rules in
    let there : slice_get c.self.inside.harts.items c.args.h ≡ Some c.index.result.now =
    slice_get_read c.self.inside.harts.items (length c.self.inside.harts.items) c.args.h c.index.result.now refl inside c.index.ensures in
    access_has_room _ c.args.self.now c.args.h c.in-Some.word c.args.input c.index.result.now c.in-Some.access c.self.view_is there c.in-Some.ensures
    c.requires.room

pub lines-requires : goal.lines-requires
lines-requires c =
    let inside : c.args.h < length c.self.inside.harts.items = search rules in
    let kept =
    touch_keeps_harts c.self.inside.devices.devices c.replay_touch.new.self.devices c.in-Some.access c.args.input c.replay_touch.result
    c.replay_touch.ensures.devices in
    omega (arith, inside, c.self.invariant.harts_size, kept)

pub invariant_of-self-in-None-replay_touch : goal.invariant_of-self-in-None-replay_touch
invariant_of-self-in-None-replay_touch c =
    let kept =
    touch_keeps_harts c.self.inside.devices.devices c.replay_touch.new.self.devices c.in-Some.access c.args.input c.replay_touch.result
    c.replay_touch.ensures.devices in
    subst (λ n. FitsTogether c.self.inside.harts.items c.self.inside.counts.items c.self.inside.memory c.self.inside.pages n) (sym kept) c.self.invariant

-- the access was made
made : (c : After-index_mut-in-Some-replay_touch) → next (Touch c.args.h c.args.input) c.args.self.now.state ≡ Some (record {
  harts = slice_set c.self.inside.harts.items c.args.h c.set_lines.new.self;
  counts = slice_set c.self.inside.counts.items c.args.h (c.index_mut-in-Some-replay_touch.result.now + 1);
  memory = c.self.inside.memory;
  devices = c.replay_touch.new.self.devices;
})
made c =
    let inside : c.args.h < length c.self.inside.harts.items = search rules in
    let there : slice_get c.self.inside.harts.items c.args.h ≡ Some c.index.result.now =
    slice_get_read c.self.inside.harts.items (length c.self.inside.harts.items) c.args.h c.index.result.now refl inside c.index.ensures in
    let running : is_some c.self.inside.devices.devices.stop ≡ false = search rules in
    let same : _ ≡ c.args.self.now.state = ap (λ (m : FlatWithRoom). m.state) c.self.view_is in
    let hart : c.set_lines.new.self ≡ with_lines_of c.replay_touch.new.self.devices c.args.h
    (after c.index.result.now (effect_of c.index.result.now c.in-Some.word) c.in-Some-replay_touch.loaded) =
    c.set_lines.ensures ∙ ap (λ l. record c.finish.new.self { csrs = with_lines l c.finish.new.self.csrs }) c.lines.ensures.lines
    ∙ ap (with_lines_of c.replay_touch.new.self.devices c.args.h) c.finish.ensures.after in
    let count : c.index_mut-in-Some-replay_touch.result.now ≡ slice_index c.self.inside.counts.items c.args.h =
    c.index_mut-in-Some-replay_touch.ensures.value
    ∙ get_or_default_zero c.self.inside.counts.items c.args.h _ (omega (arith, inside, c.self.invariant.counts_size)) in
    touch_state _ c.args.self.now.state c.args.h c.index_mut-in-Some-replay_touch.result.now c.in-Some-replay_touch.loaded c.in-Some.word c.args.input
    c.index.result.now c.set_lines.new.self c.in-Some.access c.replay_touch.new.self.devices same there running c.in-Some.ensures
    c.in-Some-replay_touch.ensures.devices hart count

pub returns-in-Some-replay_touch-clause-answer : goal.returns-in-Some-replay_touch-clause-answer
returns-in-Some-replay_touch-clause-answer c =
    sym (ap is_some (made (goal.at.returns-in-Some-replay_touch-clause-answer c).After-index_mut-in-Some-replay_touch))

pub returns-in-Some-replay_touch-clause-state : goal.returns-in-Some-replay_touch-clause-state
returns-in-Some-replay_touch-clause-state c =
    sym (ap (λ o. unwrap_or o c.args.self.now.state) (made (goal.at.returns-in-Some-replay_touch-clause-state c).After-index_mut-in-Some-replay_touch))

-- the input didn't suit
kept : (c : In-None-replay_touch) → (next (Touch c.args.h c.args.input) c.args.self.now.state ≡ None)
    × (record {
      harts = c.self.inside.harts.items;
      counts = c.self.inside.counts.items;
      memory = c.self.inside.memory;
      devices = c.replay_touch.new.self.devices;
    } ≡ c.args.self.now.state)
kept c =
    let inside : c.args.h < length c.self.inside.harts.items = search rules in
    let there : slice_get c.self.inside.harts.items c.args.h ≡ Some c.index.result.now =
    slice_get_read c.self.inside.harts.items (length c.self.inside.harts.items) c.args.h c.index.result.now refl inside c.index.ensures in
    let running : is_some c.self.inside.devices.devices.stop ≡ false = search rules in
    let same : _ ≡ c.args.self.now.state = ap (λ (m : FlatWithRoom). m.state) c.self.view_is in
    touch_state_kept _ c.args.self.now.state c.args.h c.in-Some.word c.args.input c.index.result.now c.in-Some.access c.replay_touch.new.self.devices same
    there running c.in-Some.ensures c.in-None-replay_touch.ensures.devices

pub returns-in-None-replay_touch-clause-answer : goal.returns-in-None-replay_touch-clause-answer
returns-in-None-replay_touch-clause-answer c =
    let k = kept (goal.at.returns-in-None-replay_touch-clause-answer c).In-None-replay_touch in
    sym (ap is_some k.0)

pub returns-in-None-replay_touch-clause-state : goal.returns-in-None-replay_touch-clause-state
returns-in-None-replay_touch-clause-state c =
    let k = kept (goal.at.returns-in-None-replay_touch-clause-state c).In-None-replay_touch in
    k.1 ∙ sym (ap (λ o. unwrap_or o c.args.self.now.state) k.0)

-- the next move is no device access
none : (c : In-None) → next (Touch c.args.h c.args.input) c.args.self.now.state ≡ None
none c =
    let inside : c.args.h < length c.self.inside.harts.items = search rules in
    let there : slice_get c.self.inside.harts.items c.args.h ≡ Some c.index.result.now =
    slice_get_read c.self.inside.harts.items (length c.self.inside.harts.items) c.args.h c.index.result.now refl inside c.index.ensures in
    let running : is_some c.self.inside.devices.devices.stop ≡ false = search rules in
    let same : _ ≡ c.args.self.now.state = ap (λ (m : FlatWithRoom). m.state) c.self.view_is in
    subst (λ z. next (Touch c.args.h c.args.input) z ≡ None) same
    (touch_no_access _ c.args.h c.args.input c.index.result.now there running c.in-None.ensures)

pub returns-in-None-clause-answer : goal.returns-in-None-clause-answer
returns-in-None-clause-answer c = sym (ap is_some (none (goal.at.returns-in-None-clause-answer c).In-None))

pub returns-in-None-clause-state : goal.returns-in-None-clause-state
returns-in-None-clause-state c =
    sym (ap (λ o. unwrap_or o c.args.self.now.state) (none (goal.at.returns-in-None-clause-state c).In-None))
