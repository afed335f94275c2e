use Rattle.lex_list.specs.Lines.{lines_in}
use Rattle.lex_list.proofs.Meanings.{list_holds}
use Rattle.lex_list.proofs.lists.WordList.read.Goals as goal

pub returns-clause-words : goal.returns-clause-words
returns-clause-words c =
    rw (c.in_ok-list.ensures, ← c.without_mark.ensures) (list_holds (lines_in c.without_mark.result.now) c.in_ok-words.words c.in_ok-words.ensures)
