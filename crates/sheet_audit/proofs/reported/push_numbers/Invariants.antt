use Rattle.std.proofs.Common.{◌≡◌, ◌++◌, take}
use Rattle.std.specs.List.{flat_map}
use Rattle.sheet_audit.specs.Numbers.{reported_number}
use Rattle.sheet_audit.proofs.reported.push_numbers.Given as goal

abbrev pub invariant-loop-wrong : goal.invariant-loop-wrong
invariant-loop-wrong l = l.reported.items ≡ l.initial.reported.items ++ flat_map (reported_number l.events) (take l.wrong-index l.numbers)
