use Rattle.std.proofs.Common.{◌≡◌}
use Rattle.io_terminals.specs.Showing.{shown_to}
use Rattle.io_terminals.proofs.showing.shown.Given as goal

abbrev pub invariant-loop-place : goal.invariant-loop-place
invariant-loop-place l = l.out.items ≡ shown_to l.bytes l.place
