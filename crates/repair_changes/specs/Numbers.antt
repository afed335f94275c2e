-- How many numbers a sheet has with a slip.
use Rattle.std.specs.Prelude.{ℕ, ◌-◌, ◌*◌, Bool, true, false, if◌then◌else◌}
use Rattle.repair_changes.specs.declared.slips.Slip.{Slip}
use Rattle.repair_changes.specs.declared.slips.Slip.TheVariants as slip

-- whether a line that should not be there is left out
abbrev pub leaves_out : Slip → Bool
leaves_out slip.Repeated = true
leaves_out slip.ExtraPass = true
leaves_out slip.Extra = true
leaves_out other = false

-- how many numbers a sheet has with a slip: a score and a total on each line, except one that should not be there
abbrev pub numbers_with : Slip → (events : ℕ) → ℕ
numbers_with what events = 2 * (if leaves_out what then events - 1 else events)

-- how many numbers it has with two slips
abbrev pub numbers_with_both : (first second : Slip) → (events : ℕ) → ℕ
numbers_with_both first second events = if leaves_out first then numbers_with second (events - 1) else numbers_with second events
