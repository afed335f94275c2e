use Rattle.std.proofs.Common.{◌≡◌, ◌-◌, ◌++◌, replicate}
use Rattle.deal_completion.proofs.wanting.push_times.Given as goal

abbrev pub invariant-loop : goal.invariant-loop
invariant-loop l = l.list.items ++ replicate (l.number - l.counter) l.kind ≡ l.initial.list.items ++ replicate l.number l.kind
