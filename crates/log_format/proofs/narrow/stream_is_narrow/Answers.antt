use Rattle.std.proofs.Common.{subst}
use Rattle.std.proofs.lemmas.List.Elements.{All-more}
use Rattle.log_format.specs.Writing.{IsNarrow}
use Rattle.log_format.proofs.narrow.stream_is_narrow.Goals as goal

pub loop-entry-preserved : goal.loop-entry-preserved
loop-entry-preserved c =
    All-more IsNarrow c.args.entries.now c.loop-entry.entry-index _ c.loop-entry-test.true c.loop-entry.invariant
    (subst IsNarrow c.entry-item.is c.entry_is_narrow.ensures)
