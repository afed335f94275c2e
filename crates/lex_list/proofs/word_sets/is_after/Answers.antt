use Rattle.lex_list.proofs.Rows.{reported_after}
use Rattle.lex_list.proofs.word_sets.is_after.Goals as goal

pub returns-in-Some : goal.returns-in-Some
returns-in-Some c = reported_after c.args.row.now c.in-Some.last.now c.args.word.now c.lt.result c.requires c.in-Some.ensures.value c.lt.ensures
