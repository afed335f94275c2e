use Rattle.std.proofs.Common.{◌≡◌, ◌-◌, ◌++◌, get_or}
use Rattle.deal_completion.specs.Completion.{lacking}
use Rattle.deal_completion.proofs.WantLaws.{lacks_from}
use Rattle.deal_completion.proofs.wanting.push_lacking.Given as goal

abbrev pub invariant-loop-kind : goal.invariant-loop-kind
invariant-loop-kind l =
    l.list.items ++ lacks_from (λ k. get_or l.asked k 0 - get_or l.have k 0) l.kind (27 - l.kind) ≡ l.initial.list.items ++ lacking l.asked l.have
