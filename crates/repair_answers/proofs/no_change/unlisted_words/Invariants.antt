use Rattle.std.proofs.Common.{◌≡◌, take}
use Rattle.game_turns.specs.Unlisted.{letters_in}
use Rattle.repair_single.specs.Remaining.{words_of_rows}
use Rattle.repair_answers.proofs.no_change.unlisted_words.Given as goal

abbrev pub invariant-loop-row : goal.invariant-loop-row
invariant-loop-row l = record { so_far : letters_in l.words.items ≡ words_of_rows l.list (take l.row-index l.rows) }
