-- The table is unambiguous, and its words and the instructions that fit belong to each other one to one.
use Rattle.std.proofs.Common.{sym, ◌∙◌}
use Rattle.rv_decode.specs.Table.{table, NoTwoRowsMatch}
use Rattle.rv_decode.specs.Fits.{NoTwoWordsMeanTheSame, WordsMeanWhatFits}
use Rattle.rv_decode.specs.Encoding.{encoded}
use Rattle.rv_decode.proofs.Rows.{each_apart, table_apart}
use Rattle.rv_decode.proofs.Back.{meaning_fits}
use Rattle.rv_decode.proofs.Encoding.{meaning_encoded}
use Rattle.rv_decode.proofs.Forward.{encoded_means, encoded_below}

pub rows : NoTwoRowsMatch
rows = each_apart table table_apart

pub words : NoTwoWordsMeanTheSame
words w v i b c h k = sym (meaning_encoded w i b h) ∙ meaning_encoded v i c k

pub instructions : WordsMeanWhatFits
instructions i =
    ((λ f. (encoded i, encoded_below i f, encoded_means i f)), (λ s. meaning_fits s.0 i s.1 s.2))
