use Rattle.log_format.proofs.PartsOf.{are_pieces}
use Rattle.log_format.proofs.pieces_are_the_bytes.Goals as goal

pub returns : goal.returns
returns c = are_pieces
