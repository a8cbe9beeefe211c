use Rattle.recorder.proofs.Listing.{parts_of_manned}
use Rattle.recorder.proofs.crewed.Recorder.finish.Goals as goal

pub finish-requires-after_bounds : goal.finish-requires-after_bounds
finish-requires-after_bounds g c κs within = λ open_still. parts_of_manned c.args.self.board c.args.self.runs.items c.args.self.orders c.requires
