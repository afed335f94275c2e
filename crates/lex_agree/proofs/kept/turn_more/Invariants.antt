use Rattle.std.proofs.Common.{◌≡◌, length, take}
use Rattle.lex_agree.specs.Walks.{AreTurned}
use Rattle.lex_agree.proofs.kept.turn_more.Given as goal

abbrev pub invariant-loop-split : goal.invariant-loop-split
invariant-loop-split l =
    record {
      letters : length l.kept.front ≡ 15;
      front : take l.split l.kept.front ≡ take l.split l.front;
      steps : AreTurned l.file.bytes.now l.first l.front l.split l.kept.steps;
    }
