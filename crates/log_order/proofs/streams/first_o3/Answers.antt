use Rattle.std.proofs.Common.{◌≡◌, ◌+◌, length, Some, refl, sym, ap, ◌∙◌, subst}
use Rattle.std.specs.Prelude.{slice_get}
use Rattle.std.proofs.lemmas.Option.{slice_get_read, get_or_from_slice_get}
use Rattle.log_order.specs.InStream.{o3_in, polls_wrongly, due_after}
use Rattle.log_order.proofs.LoopSearch.{one_more}
use Rattle.log_order.proofs.Due.{IsDue, o3_by_due, due_step}
use Rattle.log_order.proofs.streams.first_o3.Goals as goal

pub returns-then-polls_wrongly : goal.returns-then-polls_wrongly
returns-then-polls_wrongly c =
    let s = c.args.s.now in
    let at : slice_get s c.loop-i.i ≡ Some c.index-s-i.result =
    slice_get_read s (length s) c.loop-i.i c.index-s-i.result refl c.loop-i-test.true c.index-s-i.is in (
      c.loop-i-test.true,
      o3_by_due c.args.limit s c.requires.order c.loop-i.i c.loop-i.due c.index-s-i.result c.loop-i.invariant.0 at
          ∙ ap (λ end. polls_wrongly c.args.limit end c.loop-i.due c.index-s-i.result) (sym c.loop-i.invariant.1)
          ∙ sym c.polls_wrongly.ensures ∙ c.if-polls_wrongly.true,
      c.loop-i.invariant.2,
    )

pub loop-i-preserved : goal.loop-i-preserved
loop-i-preserved c =
    let s = c.args.s.now in
    let at : slice_get s c.loop-i.i ≡ Some c.index-s-i.result =
    slice_get_read s (length s) c.loop-i.i c.index-s-i.result refl c.loop-i-test.true c.index-s-i.is in
    let same : c.index-s-i-in-loop-i.result ≡ c.index-s-i.result =
    c.index-s-i-in-loop-i.is ∙ get_or_from_slice_get s c.loop-i.i c.index-s-i.result c.index-s-i-in-loop-i.result at in
    let right = ap (λ end. polls_wrongly c.args.limit end c.loop-i.due c.index-s-i.result) (sym c.loop-i.invariant.1) ∙ sym c.polls_wrongly.ensures
    ∙ c.if-polls_wrongly.false in
    let next : due_after c.loop-i.due c.index-s-i.result ≡ c.next_due-due.result = ap (due_after c.loop-i.due) (sym same) ∙ sym c.next_due-due.ensures in (
      subst (λ due. IsDue s (c.loop-i.i + 1) due) next
          (due_step c.args.limit s c.requires.order c.loop-i.i c.loop-i.due c.index-s-i.result c.loop-i.invariant.0 at right),
      c.loop-i.invariant.1,
      one_more (o3_in c.args.limit s) c.loop-i.i c.loop-i.invariant.2
          (o3_by_due c.args.limit s c.requires.order c.loop-i.i c.loop-i.due c.index-s-i.result c.loop-i.invariant.0 at ∙ right),
    )
