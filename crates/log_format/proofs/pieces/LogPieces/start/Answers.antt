use Rattle.log_format.proofs.Fits.{read-again}
use Rattle.log_format.proofs.PartsOf.{joined_pieces}
use Rattle.log_format.proofs.Sizes.{have_their_sizes}
use Rattle.log_format.proofs.pieces.LogPieces.start.Goals as goal

pub returns-clause-bytes : goal.returns-clause-bytes
returns-clause-bytes c = joined_pieces c.args.l.now

pub returns-clause-size : goal.returns-clause-size
returns-clause-size c = have_their_sizes.log c.args.l.now c.log_is_narrow.ensures.digest

pub returns-clause-again : goal.returns-clause-again
returns-clause-again c = read-again c.args.l.now c.requires c.log_is_narrow.ensures.streams c.log_is_narrow.ensures.digest
