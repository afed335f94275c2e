use Rattle.std.proofs.Common.{◌-◌, ◌≤◌}
use Rattle.lex_file.specs.Files.{number_of, IsRest}
use Rattle.lex_file.specs.Languages.{file_tail}
use Rattle.lex_agree.specs.Counts.{IsCount}
use Rattle.lex_agree.proofs.Bounds.{has_below}
use Rattle.lex_agree.proofs.counting.count_node.Given as goal

abbrev pub invariant-loop-on : goal.invariant-loop-on
invariant-loop-on l =
    record {
      low : l.from ≤ 27;
      rest : IsRest l.file.bytes.now (number_of l.node) l.from l.rest;
      below : IsCount (has_below (file_tail l.file.bytes.now (number_of l.node)) l.from) l.count;
    }

abbrev pub decreases-loop-on : goal.decreases-loop-on
decreases-loop-on l = 27 - l.from
