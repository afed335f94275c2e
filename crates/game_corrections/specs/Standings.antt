-- Who is ahead.
use Rattle.std.specs.Prelude.{◌≡◌, ℤ, pos, ◌+ℤ◌, ◌<ℤ◌, List, Option, Some, None}
use Rattle.gcg_read.specs.declared.events.Event.{Event}
use Rattle.gcg_read.specs.declared.events.Seat.TheVariants.{First, Second}
use Rattle.game_corrections.specs.declared.standings.Standing.{Standing}
use Rattle.game_corrections.specs.declared.standings.Standing.TheVariants as standing
use Rattle.game_corrections.specs.LastTotals.{last_total}

-- a total, or 0 if none is written
abbrev pub total_in : Option ℤ → ℤ
total_in None = pos 0
total_in (Some total) = total

-- who has the greater of two totals, and by how many points; or that they are the same
abbrev pub IsStanding : (first second : Option ℤ) → Standing → Type 0
IsStanding first second standing.Even = total_in first ≡ total_in second
IsStanding first second (standing.Ahead First by) = (total_in second +ℤ by ≡ total_in first) × (pos 0 <ℤ by)
IsStanding first second (standing.Ahead Second by) = (total_in first +ℤ by ≡ total_in second) × (pos 0 <ℤ by)

-- the same by the last totals of some events
abbrev pub IsStandingIn : List Event → Standing → Type 0
IsStandingIn events s = IsStanding (last_total First events) (last_total Second events) s
