use Rattle.std.proofs.Common.{◌≡◌, ◌++◌, take}
use Rattle.sheet_audit.specs.Lines.{reported_texts}
use Rattle.sheet_audit.proofs.lines.push_numbers.Given as goal

abbrev pub invariant-loop-reported : goal.invariant-loop-reported
invariant-loop-reported l = l.text.items ≡ l.initial.text.items ++ reported_texts l.record.players l.record.events (take l.reported-index l.numbers)
