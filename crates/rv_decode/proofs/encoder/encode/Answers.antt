use Rattle.rv_decode.proofs.Forward.{word_means}
use Rattle.rv_decode.proofs.encoder.encode.Goals as goal

pub returns-clause-means : goal.returns-clause-means
returns-clause-means c = word_means c.word_of.result c.args.i c.word_of.ensures c.requires
