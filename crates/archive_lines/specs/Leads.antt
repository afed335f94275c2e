-- Who is ahead by the last totals of a game.
use Rattle.std.specs.Prelude.{◌≡◌, ℤ, pos, ◌+ℤ◌, ◌<ℤ◌, Option, Some, None}
use Rattle.archive_lines.specs.declared.leads.Lead.{Lead}
use Rattle.archive_lines.specs.declared.leads.Lead.TheVariants as lead

-- a total, or 0 if there is none
abbrev pub total_in : Option ℤ → ℤ
total_in None = pos 0
total_in (Some total) = total

-- who has the greater of two totals, and by how many points; or that they are the same
abbrev pub IsLead : (first second : Option ℤ) → Lead → Type 0
IsLead first second lead.Even = total_in first ≡ total_in second
IsLead first second (lead.First by) = (total_in second +ℤ by ≡ total_in first) × (pos 0 <ℤ by)
IsLead first second (lead.Second by) = (total_in first +ℤ by ≡ total_in second) × (pos 0 <ℤ by)
