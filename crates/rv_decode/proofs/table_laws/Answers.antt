use Rattle.rv_decode.proofs.Laws.{rows, words, instructions}
use Rattle.rv_decode.proofs.table_laws.Goals as goal

pub returns-clause-rows : goal.returns-clause-rows
returns-clause-rows c = rows

pub returns-clause-words : goal.returns-clause-words
returns-clause-words c = words

pub returns-clause-instructions : goal.returns-clause-instructions
returns-clause-instructions c = instructions
