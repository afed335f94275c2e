use Rattle.lex_words.proofs.FieldSteps.{fields_end}
use Rattle.lex_words.proofs.fields.read_chunk.Goals as goal

pub returns-clause-end : goal.returns-clause-end
returns-clause-end g c = λ none some. fields_end _ _ (c.in_ok-read.ensures.bytes.1 none some)
