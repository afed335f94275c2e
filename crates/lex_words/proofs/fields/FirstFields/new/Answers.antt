use Rattle.lex_words.proofs.FieldSteps.{fields_begin}
use Rattle.lex_words.proofs.fields.FirstFields.new.Goals as goal

pub returns : goal.returns
returns g c = fields_begin (g.R.Read.remaining c.args.inner)
