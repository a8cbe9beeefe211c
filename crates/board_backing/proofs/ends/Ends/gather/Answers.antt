use Rattle.std.proofs.Common.{◌≡◌, ◌∙◌, map, sym, subst}
use Rattle.run_model.specs.Run.{Run}
use Rattle.board_backing.specs.Ends.{IsMemory}
use Rattle.board_backing.proofs.EndLists.{written, end_is}
use Rattle.board_backing.proofs.ends.Ends.gather.Goals as goal

pub returns : goal.returns
returns c = λ s have.
    let all : c.of.result ≡ map (λ (r : Run). r.hart) c.args.runs.now =
    c.of.ensures ∙ written c.args.self.harts.items c.put_harts.new.harts _ (c.put_harts.auto.harts ∙ c.deref_mut.ensures.len) ∙ c.put_harts.ensures in
    let counts : c.of-2.result ≡ map (λ (r : Run). r.count) c.args.runs.now =
    c.of-2.ensures ∙ written c.args.self.counts.items c.put_counts.new.counts _ (c.put_counts.auto.counts ∙ c.deref_mut-2.ensures.len)
    ∙ c.put_counts.ensures in
    let bytes : c.of-3.result ≡ c.put_memory.new.memory =
    c.of-3.ensures ∙ written c.args.self.memory.items c.put_memory.new.memory _ (c.put_memory.auto.memory ∙ c.deref_mut-3.ensures.len) in
    end_is c.args.runs.now c.args.backing s c.args.cause c.stop.result c.of.result c.of-2.result c.of-3.result c.of-4.result c.time.result have c.stop.ensures
    all counts (subst (IsMemory c.args.runs.now c.args.backing) (sym bytes) c.put_memory.ensures) (c.of-4.ensures ∙ c.into_sent.ensures) c.time.ensures
