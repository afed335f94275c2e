use Rattle.std.proofs.Common.{◌≡◌, ◌<◌}
use Rattle.repair_answers.proofs.Grouped.{like_to}
use Rattle.repair_answers.proofs.evidence.others_of.Given as goal

abbrev pub invariant-loop-other : goal.invariant-loop-other
invariant-loop-other g l = record { following : l.first < l.other; so_far : l.others.items ≡ like_to g.T.Lined.like l.items l.first l.other }
