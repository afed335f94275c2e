use Rattle.std.proofs.Common.{◌≡◌, ◌-◌, ◌≤◌, map, slice_index}
use Rattle.lex_file.specs.Files.{bytes_of, number_of}
use Rattle.lex_file.specs.Shapes.{file_node}
use Rattle.lex_build.specs.Converts.{renamed}
use Rattle.lex_build.proofs.NewArcs.{arcs_below}
use Rattle.lex_build.proofs.converting.Conversion.new_arcs.Given as goal

abbrev pub invariant-loop-arc : goal.invariant-loop-arc
invariant-loop-arc l =
    record {
      taken : l.arcs.items ≡ map (renamed (slice_index l.self.numbers.items)) (arcs_below l.from (file_node (bytes_of l.file) (number_of l.node)));
      low : l.from ≤ 27;
    }

abbrev pub decreases-loop-arc : goal.decreases-loop-arc
decreases-loop-arc l = 27 - l.from
