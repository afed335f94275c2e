use Rattle.lex_file.specs.Shapes.{root_of}
use Rattle.lex_file.proofs.Spellings.{spelt}
use Rattle.lex_file.proofs.Views.{root_is_node}
use Rattle.lex_file.proofs.laws.law_of_language.Goals as goal

pub returns-clause-language : goal.returns-clause-language
returns-clause-language c = λ bytes shape string. spelt bytes shape (root_of bytes) (root_is_node bytes shape) string

pub returns-clause-tails : goal.returns-clause-tails
returns-clause-tails c = spelt
