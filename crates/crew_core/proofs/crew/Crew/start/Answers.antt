use Rattle.std.proofs.Common.{rules, refl}
use Rattle.crew_core.proofs.Beginning.{begins}
use Rattle.crew_core.proofs.crew.Crew.start.Goals as goal

pub returns-clause-stands : goal.returns-clause-stands
returns-clause-stands c = λ outside. begins _ c.args.image.now outside (search rules) c.requires.least c.requires.most c.requires.log (search rules)
    (search rules) (search rules) (search rules) (search rules) refl c.frame_size.ensures refl refl (search rules) (search rules) (search rules)
