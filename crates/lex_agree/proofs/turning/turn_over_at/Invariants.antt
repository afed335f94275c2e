use Rattle.std.proofs.Common.{◌-◌, ◌≤◌}
use Rattle.lex_file.specs.Files.{number_of, IsRest}
use Rattle.lex_agree.specs.Walks.{AreKept}
use Rattle.lex_agree.proofs.Walking.{TurnsBelow}
use Rattle.lex_agree.proofs.turning.turn_over_at.Given as goal

abbrev pub invariant-loop-on : goal.invariant-loop-on
invariant-loop-on l =
    record {
      low : l.from ≤ 27;
      rest : IsRest l.file.bytes.now (number_of l.following) l.from l.rest;
      kept : AreKept l.file.bytes.now l.kept;
      below : TurnsBelow l.file.bytes.now l.front l.following l.from;
    }

abbrev pub decreases-loop-on : goal.decreases-loop-on
decreases-loop-on l = 27 - l.from
