use Rattle.std.proofs.Common.{drop}
use Rattle.deal_completion.proofs.DealStates.{IsDealing}
use Rattle.deal_completion.proofs.dealing.deal_of.Given as goal

abbrev pub invariant-loop-place : goal.invariant-loop-place
invariant-loop-place l = IsDealing l.rules l.steps (drop l.place l.steps) l.hands l.held.items
