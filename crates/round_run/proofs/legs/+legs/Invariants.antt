use Rattle.std.proofs.Common.{◌+◌, ◌*◌}
use Rattle.round_run.proofs.legs.+legs.Given as goal

abbrev pub decreases-legs : goal.decreases-legs
decreases-legs g l = 2 * l.runs.now.len

abbrev pub decreases-led : goal.decreases-led
decreases-led g l = 2 * l.runs.now.len + 1
