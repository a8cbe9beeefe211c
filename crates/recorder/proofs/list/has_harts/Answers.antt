use Rattle.recorder.proofs.Listing.{all_are_of}
use Rattle.recorder.proofs.list.has_harts.Goals as goal

pub returns : goal.returns
returns c = all_are_of c.args.harts c.args.list.now c.all_below.result c.all_below.ensures
