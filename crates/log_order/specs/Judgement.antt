-- Every log is judged.
use Rattle.std.specs.Prelude.{ℕ, ◌⊎◌}
use Rattle.log_entry.specs.declared.log.Log.{Log}
use Rattle.order_rules.specs.Orderly.{IsOrderly, IsLeastBreak}

-- a log that isn't orderly has a report
abbrev pub EachIsJudged : Type 0
EachIsJudged = (log : Log) → IsOrderly log ⊎ ((rule : ℕ) × ((hart : ℕ) × ((entry : ℕ) × IsLeastBreak log rule hart entry)))
