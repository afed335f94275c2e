use Rattle.std.proofs.Common.{◌≡◌, ◌++◌}
use Rattle.game_board.specs.Texts.{kinds_text}
use Rattle.game_board.proofs.texts.push_kinds.Given as goal

abbrev pub invariant-loop-k : goal.invariant-loop-k
invariant-loop-k l = l.text.items ≡ l.initial.text.items ++ kinds_text l.rules l.board l.first l.k
