use Rattle.std.proofs.Common.{◌-◌, length}
use Rattle.outside.proofs.Texts.{IsSought}
use Rattle.outside.proofs.folder.find.Given as goal

abbrev pub invariant-loop-next : goal.invariant-loop-next
invariant-loop-next l = IsSought l.name l.heads l.text l.from l.at

abbrev pub decreases-loop-next : goal.decreases-loop-next
decreases-loop-next l = length l.heads - l.from
