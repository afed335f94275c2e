use Rattle.std.proofs.Common.{rules}
use Rattle.lex_file.specs.Shapes.{arc_fault}
use Rattle.lex_file.proofs.opening.check_arc.Goals as goal

pub returns-then-label-least : goal.returns-then-label-least
unfolding arc_fault
returns-then-label-least c = search rules

pub returns-then-not-leads_back : goal.returns-then-not-leads_back
unfolding arc_fault
returns-then-not-leads_back c = search rules

pub returns-then-arc-eq0 : goal.returns-then-arc-eq0
unfolding arc_fault
returns-then-arc-eq0 c = search rules

pub returns : goal.returns
unfolding arc_fault
returns c = search rules
