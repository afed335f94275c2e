use Rattle.std.proofs.Common.{◌≡◌, map, take}
use Rattle.lex_check.specs.Checks.{symbol_of}
use Rattle.lex_check.proofs.checks.text_of.Given as goal

abbrev pub invariant-loop-label : goal.invariant-loop-label
invariant-loop-label l = l.text.items ≡ map symbol_of (take l.label-index l.path.items)
