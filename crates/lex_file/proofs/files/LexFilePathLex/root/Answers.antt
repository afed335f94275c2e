use Rattle.std.proofs.Common.{rules}
use Rattle.lex_file.proofs.Views.{header_words, root_is_node}
use Rattle.lex_file.proofs.files.LexFilePathLex.root.Goals as goal

pub returns-clause-node : goal.returns-clause-node
returns-clause-node c = search (rules, header_words, root_is_node)

pub returns-clause-tails : goal.returns-clause-tails
returns-clause-tails c = search (rules, header_words)
