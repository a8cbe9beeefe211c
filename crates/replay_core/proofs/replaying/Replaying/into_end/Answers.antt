use Rattle.std.proofs.Common.{◌≡◌, ◌∙◌, length, refl, sym, ap, subst}
use Rattle.log_entry.specs.declared.log.Log.{Log}
use Rattle.flat_machine.specs.Runs.{final_of}
use Rattle.board_backing.specs.Ends.{Have}
use Rattle.replay_core.proofs.EndLists.{stage_has}
use Rattle.replay_core.proofs.StageAfterItem.{places_on}
use Rattle.replay_core.proofs.replaying.Replaying.into_end.Goals as goal

pub gather-requires-clause-state : goal.gather-requires-clause-state
gather-requires-clause-state c =
    let runs : c.deref.result.now ≡ c.args.self.runs.items = c.deref.ensures.value in (
      c.requires.1.0,
      subst (λ rs. Have rs c.args.self.board.backing c.requires.1.0) (sym runs) (stage_has c.requires.0 c.args.self c.requires.1.0 c.requires.1.1),
    )

pub gather-requires-clause-places : goal.gather-requires-clause-places
gather-requires-clause-places c =
    let at = c.requires.1.1 in
    places_on c.args.self.ends c.args.self.ends _ _ _ _ refl (ap length c.deref.ensures.value ∙ at.runs) (sym at.stands.backs.memory) at.ends

pub returns : goal.returns
returns c = λ image s at.
    c.gather.ensures s (subst (λ rs. Have rs c.args.self.board.backing s) (sym c.deref.ensures.value) (stage_has image c.args.self s at))
    ∙ ap (λ (l : Log). final_of s.flat l.cause) c.log.ensures.same
