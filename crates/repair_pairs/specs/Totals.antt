-- What the changes of a chain weigh and cost together, and how many numbers the sheet has with them.
use Rattle.std.specs.Prelude.{ℕ, ◌+◌, ◌-◌, Bool, List, length, map, sum, if◌then◌else◌}
use Rattle.std.specs.List.{count_by}
use Rattle.repair_changes.specs.Numbers.{leaves_out, numbers_with}
use Rattle.repair_changes.specs.Weights.{remaining_cost, weight_of}
use Rattle.repair_pairs.specs.declared.found.Head.{Head}
use Rattle.repair_pairs.specs.declared.chains.Chain.{Chain}

-- whether a change leaves out a line that should not be there
abbrev pub step_leaves_out : Head → Bool
step_leaves_out step = leaves_out step.first.change.slip

-- the changes but the last one leave out as many lines as they say
abbrev pub remaining_of : List Head → (events : ℕ) → ℕ
remaining_of steps events = events - count_by step_leaves_out steps

-- how many numbers a sheet of so many events has with all changes: a score and a total on each line, except those that should not be there
abbrev pub chain_numbers : Chain → (events : ℕ) → ℕ
chain_numbers chain events = numbers_with chain.last.listed.change.slip (remaining_of chain.steps.items events)

abbrev pub step_weight : Head → ℕ
step_weight step = weight_of step.first.change.slip

-- what all changes weigh
abbrev pub chain_weight : Chain → ℕ
chain_weight chain = sum (map step_weight chain.steps.items) + weight_of chain.last.listed.change.slip

-- what they cost: what they weigh, 5 for each number that stays wrong, and 3 for each word that is not in the list
abbrev pub chain_cost : Chain → ℕ
chain_cost chain = remaining_cost (length chain.last.remains.wrong.items) (length chain.last.remains.unlisted.items) + chain_weight chain
