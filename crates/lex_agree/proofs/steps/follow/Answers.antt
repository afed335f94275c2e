use Rattle.std.proofs.Common.{sym, ◌∙◌}
use Rattle.lex_file.specs.Files.{bytes_of}
use Rattle.lex_agree.proofs.Walking.{nothing}
use Rattle.lex_agree.proofs.steps.follow.Goals as goal

pub returns-in-None-clause-strings : goal.returns-in-None-clause-strings
returns-in-None-clause-strings c = λ t. c.in-None.ensures.none t ∙ sym (nothing (bytes_of c.args.file.now) t)
