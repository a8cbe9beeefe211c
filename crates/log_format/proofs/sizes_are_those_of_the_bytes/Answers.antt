use Rattle.log_format.proofs.Sizes.{have_their_sizes}
use Rattle.log_format.proofs.sizes_are_those_of_the_bytes.Goals as goal

pub returns : goal.returns
returns c = have_their_sizes
