use Rattle.std.proofs.Common.{ℕ, Option, subst}
use Rattle.run_model.specs.Run.{Run}
use Rattle.round_run.specs.Legs.{Goes}
use Rattle.round_run.proofs.legs.LegMadeBy.make.Goals as goal

pub returns : goal.returns
returns g c = subst (λ (v : Run × Option ℕ). Goes v.0 c.go.new.run v.1) c.self.view_is c.go.ensures
