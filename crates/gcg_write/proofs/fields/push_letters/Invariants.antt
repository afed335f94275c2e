use Rattle.std.proofs.Common.{◌≡◌, ◌++◌}
use Rattle.gcg_write.specs.Fields.{letters_to}
use Rattle.gcg_write.proofs.fields.push_letters.Given as goal

abbrev pub invariant-loop-index : goal.invariant-loop-index
invariant-loop-index l = l.out.items ≡ l.initial.out.items ++ letters_to l.tiles l.index
