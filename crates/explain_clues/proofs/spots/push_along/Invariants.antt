use Rattle.std.proofs.Common.{◌≡◌, ◌++◌}
use Rattle.explain_clues.specs.Spots.{scoring_along}
use Rattle.explain_clues.proofs.spots.push_along.Given as goal

abbrev pub invariant-loop-number : goal.invariant-loop-number
invariant-loop-number l = l.spots.items ≡ l.initial.spots.items ++ scoring_along l.rules l.board l.word l.wanted l.dir l.number
