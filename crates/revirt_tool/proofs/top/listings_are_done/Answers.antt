use Rattle.revirt_tool.proofs.Completeness.{listings_done, kept_are_logs}
use Rattle.revirt_tool.proofs.top.listings_are_done.Goals as goal

pub returns-clause-done : goal.returns-clause-done
returns-clause-done c = listings_done

pub returns-clause-kept : goal.returns-clause-kept
returns-clause-kept c = kept_are_logs
