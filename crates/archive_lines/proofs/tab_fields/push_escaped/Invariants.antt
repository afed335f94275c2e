use Rattle.std.proofs.Common.{◌≡◌, ◌++◌, take}
use Rattle.archive_lines.specs.TabLines.{escaped}
use Rattle.archive_lines.proofs.tab_fields.push_escaped.Given as goal

abbrev pub invariant-loop-byte : goal.invariant-loop-byte
invariant-loop-byte l = l.line.items ≡ l.initial.line.items ++ escaped (take l.byte-index l.text)
