use Rattle.std.proofs.Common.{◌≤◌, ◌-◌}
use Rattle.lex_file.specs.FileWords.{body_of}
use Rattle.lex_build.specs.Bodies.{IsKept}
use Rattle.lex_build.proofs.Gathering.{IsGathered}
use Rattle.lex_build.proofs.walks.+write_node.Given as goal

abbrev pub decreases-write_node : goal.decreases-write_node
decreases-write_node g l = g.L.PathLex.height l.lexicon.now l.node

abbrev pub invariant-loop-label : goal.invariant-loop-label
invariant-loop-label g l =
    record {
      kept : IsKept l.writer.bytes.items l.writer.nodes.entries;
      gathered : IsGathered (body_of l.fn.writer.bytes.items) (body_of l.writer.bytes.items) (g.L.PathLex.tail l.lexicon l.node) l.from l.arcs.items;
      low : l.from ≤ 27;
    }

abbrev pub decreases-loop-label : goal.decreases-loop-label
decreases-loop-label g l = 27 - l.from
