use Rattle.std.proofs.Common.{◌≡◌, ◌++◌, ◌∷◌, length, map}
use Rattle.std.specs.Prelude.{vec_items}
use Rattle.archive_lines.specs.TabLines.{unescaped, fields_after, fields_read}
use Rattle.archive_lines.proofs.tab_reading.read_fields.Given as goal

abbrev pub invariant-loop-cut : goal.invariant-loop-cut
invariant-loop-cut l = map vec_items l.fields.items ++ map unescaped (l.cut.field.now ∷ fields_after l.cut.after) ≡ fields_read l.line

abbrev pub decreases-loop-cut : goal.decreases-loop-cut
decreases-loop-cut l = length (fields_after l.cut.after)
