use Rattle.std.proofs.Common.{◌∙◌}
use Rattle.board_backing.proofs.EndLists.{written}
use Rattle.replay_core.proofs.list.replay_list.Goals as goal

pub returns : goal.returns
returns c = record {
  follows = λ image s at.
      let f = c.go_along.ensures image s at in
      (written c.in-Ok.answers.items c.go_along.new.answers _ (c.go_along.auto.answers ∙ c.deref_mut.ensures.len) ∙ f.0, f.1);
  refused = tt;
}
