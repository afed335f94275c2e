use Rattle.std.proofs.Common.{◌≡◌, ◌-◌, ◌≤◌, length, take}
use Rattle.lex_file.specs.Files.{number_of, IsRest}
use Rattle.lex_file.specs.Languages.{language_of}
use Rattle.lex_agree.specs.Walks.{AreKept}
use Rattle.lex_agree.proofs.Walking.{TurnsSoFar}
use Rattle.lex_agree.proofs.turning.+turn_over.Given as goal

abbrev pub decreases-turn_over : goal.decreases-turn_over
decreases-turn_over l = number_of l.node

abbrev pub invariant-loop-on : goal.invariant-loop-on
invariant-loop-on l =
    record {
      low : l.from ≤ 27;
      room : length l.front ≡ 15;
      front : take l.len l.front ≡ take l.len l.fn.front;
      rest : IsRest l.file.bytes.now (number_of l.node) l.from l.rest;
      kept : AreKept l.file.bytes.now l.kept;
      below : TurnsSoFar (language_of l.file.bytes.now) (take l.len l.fn.front) l.from;
    }

abbrev pub decreases-loop-on : goal.decreases-loop-on
decreases-loop-on l = 27 - l.from
