use Rattle.std.proofs.Common.{◌≡◌}
use Rattle.lex_file.specs.FileWords.{body_of}
use Rattle.lex_file.specs.Files.{bytes_of}
use Rattle.lex_build.specs.Bodies.{IsWhole}
use Rattle.lex_build.proofs.Converted.{IsConvertedUntil, nodes_remaining}
use Rattle.lex_build.proofs.converting.Conversion.add_nodes.Given as goal

abbrev pub invariant-loop-next : goal.invariant-loop-next
invariant-loop-next l =
    record {
      format : l.self.format ≡ l.initial.self.format;
      whole : IsWhole l.self.bytes.items;
      until : IsConvertedUntil l.self.format (bytes_of l.file) (body_of l.self.bytes.items) l.self.numbers.items l.next;
    }

abbrev pub decreases-loop-next : goal.decreases-loop-next
decreases-loop-next l = nodes_remaining (bytes_of l.file) l.next
