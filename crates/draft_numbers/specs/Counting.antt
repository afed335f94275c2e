-- How many numbers of a draft there are to go by.
use Rattle.std.specs.Prelude.{ℕ, ◌+◌, ◌-◌, ◌*◌, Bool, true, false, List, count_by, slice_get, Option, Some, None, if◌then◌else◌}
use Rattle.gcg_drafts.specs.declared.missing.Missing.{Missing}
use Rattle.gcg_drafts.specs.declared.missing.Missing.TheVariants as missing
use Rattle.repair_changes.specs.Numbers.{leaves_out, numbers_with}
use Rattle.repair_changes.specs.declared.slips.Change.{Change}

-- whether a line lacks its total, and whether it lacks its score
abbrev pub lacks_total : Missing → Bool
lacks_total missing.Nothing = false
lacks_total missing.Total = true
lacks_total missing.Both = true

abbrev pub lacks_score : Missing → Bool
lacks_score missing.Nothing = false
lacks_score missing.Total = false
lacks_score missing.Both = true

-- how many numbers are missing
abbrev pub count_missing : List Missing → ℕ
count_missing lacks = count_by lacks_total lacks + count_by lacks_score lacks

-- how many are missing on a line, if something is said of it
abbrev pub count_on : Option Missing → ℕ
count_on None = 0
count_on (Some missing.Nothing) = 0
count_on (Some missing.Total) = 1
count_on (Some missing.Both) = 2

-- how many are missing on a line that a change leaves out
abbrev pub count_remaining_out : List Missing → Change → ℕ
count_remaining_out lacks change = if leaves_out change.slip then count_on (slice_get lacks change.place) else 0

-- The numbers that a record has with a change, without those that are missing; none is missing on a line that is left out.
abbrev pub numbers_to_go_by : List Missing → Change → (events : ℕ) → ℕ
numbers_to_go_by lacks change events = numbers_with change.slip events - (count_missing lacks - count_remaining_out lacks change)

-- the numbers that are written
abbrev pub count_written : List Missing → (events : ℕ) → ℕ
count_written lacks events = 2 * events - count_missing lacks
