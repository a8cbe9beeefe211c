-- The summary of a sample, as seven lines of text (docs/command-line.md).
use Rattle.std.specs.Prelude.{ℕ, ◌++◌, List, codes}
use Rattle.std.specs.List.{flat_map}
use Rattle.std.specs.Fmt.{decimal}
use Rattle.flat_machine.specs.declared.results.Final.{Final}
use Rattle.report_view.specs.Report.{cause_line, digest, newline}

abbrev pub sample_line : ℕ → List ℕ
sample_line number = codes "sample " ++ (decimal number ++ newline)

unfoldable pub spaced_count : ℕ → List ℕ
spaced_count count = codes " " ++ decimal count

abbrev pub spaced_counts : List ℕ → List ℕ
spaced_counts counts = flat_map spaced_count counts

-- the counts of all harts
abbrev pub counts_line : List ℕ → List ℕ
counts_line counts = codes "counts" ++ (spaced_counts counts ++ newline)

-- how many bytes the log has
abbrev pub log_line : ℕ → List ℕ
log_line size = codes "log " ++ (decimal size ++ newline)

-- a report, by its digest behind a name
abbrev pub digest_line : List ℕ → List ℕ → List ℕ
digest_line name report = name ++ (digest report ++ newline)

-- the sample's number, what its recording ended with, the size of its log, and the reports of the recording, of the replay on
-- one thread and of the replay in rounds
abbrev pub summary : ℕ → Final → ℕ → List ℕ → List ℕ → List ℕ → List ℕ
summary number ended size recorded one rounds =
    sample_line number ++ (cause_line ended.cause ended.stop ++ (counts_line ended.counts ++ (log_line size
    ++ (digest_line (codes "record ") recorded ++ (digest_line (codes "one ") one ++ digest_line (codes "rounds ") rounds)))))
