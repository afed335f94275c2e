-- The last totals that two sheets say.
use Rattle.std.specs.Prelude.{◌≡◌, ℤ, List, [], ◌∷◌, Option, Some, None, if◌then◌else◌}
use Rattle.gcg_read.specs.Players.{same_seat}
use Rattle.gcg_read.specs.declared.events.Event.{Event}
use Rattle.gcg_read.specs.declared.events.Seat.{Seat}
use Rattle.gcg_read.specs.declared.events.Seat.TheVariants as seat
use Rattle.gcg_drafts.specs.declared.missing.Missing.{Missing}
use Rattle.gcg_drafts.specs.declared.missing.Missing.TheVariants as missing
use Rattle.game_corrections.specs.declared.standings.Standing.{Standing}
use Rattle.game_corrections.specs.LastTotals.{last_total}
use Rattle.game_corrections.specs.Standings.{IsStanding, IsStandingIn}
use Rattle.compare_alignments.specs.declared.lacking.Lacks.{Lacks}
use Rattle.compare_alignments.specs.declared.pairs.Side.{Side}
use Rattle.compare_alignments.specs.Merging.{of_side}
use Rattle.compare_choices.specs.declared.sheets.Sheets.{Sheets}

-- ---- of a draft

-- the total of a line, if it is written
abbrev pub written_total : Missing → Event → Option ℤ
written_total missing.Nothing e = Some e.total
written_total missing.Total e = None
written_total missing.Both e = None

-- the total of a player's last line with one more line, if there is a line; and if it is written
abbrev pub with_line : (last : Option (Option ℤ)) → (player : Seat) → Missing → Event → Option (Option ℤ)
with_line last player m e = if same_seat e.player player then Some (written_total m e) else last

-- what the first line lacks: nothing, if it is not said; and what is said of the others
abbrev pub first_lack : List Missing → Missing
first_lack [] = missing.Nothing
first_lack (m ∷ lacks) = m

abbrev pub other_lacks : List Missing → List Missing
other_lacks [] = []
other_lacks (m ∷ lacks) = lacks

-- the same with more lines
abbrev pub last_with : (last : Option (Option ℤ)) → (player : Seat) → (lacks : List Missing) → List Event → Option (Option ℤ)
last_with last player lacks [] = last
last_with last player lacks (e ∷ events) = last_with (with_line last player (first_lack lacks) e) player (other_lacks lacks) events

-- The total of a player's last line, if there is a line; and if it is written.
abbrev pub last_known : (player : Seat) → (lacks : List Missing) → List Event → Option (Option ℤ)
last_known player lacks events = last_with None player lacks events

abbrev pub flattened : Option (Option ℤ) → Option ℤ
flattened None = None
flattened (Some total) = total

-- Who has more, by the totals of both last lines: nobody says, if one of them is not written. A player without a line has 0.
abbrev pub IsKnownStanding : (first second : Option (Option ℤ)) → Option Standing → Type 0
IsKnownStanding (Some None) second s = s ≡ None
IsKnownStanding None (Some None) s = s ≡ None
IsKnownStanding (Some (Some total)) (Some None) s = s ≡ None
IsKnownStanding first second None = ⊥
IsKnownStanding first second (Some s) = IsStanding (flattened first) (flattened second) s

-- ---- of one of two sheets

abbrev pub events_on : Sheets → Side → List Event
events_on s sheet = of_side sheet s.first.events s.second.events

abbrev pub lacks_on : Lacks → Side → List Missing
lacks_on l sheet = of_side sheet l.first.items l.second.items

abbrev pub total_by : Option Lacks → Sheets → Side → (player : Seat) → Option ℤ
total_by None s sheet player = last_total player (events_on s sheet)
total_by (Some l) s sheet player = flattened (last_known player (lacks_on l sheet) (events_on s sheet))

-- the total of a player's last line on a sheet, if it is written
abbrev pub total_on : Sheets → Side → (player : Seat) → Option ℤ
total_on s sheet player = total_by s.lacks s sheet player

-- who is ahead by a record, and by a draft
abbrev pub IsStandingBy : Option Lacks → Sheets → Side → Option Standing → Type 0
IsStandingBy None s sheet None = ⊥
IsStandingBy None s sheet (Some standing) = IsStandingIn (events_on s sheet) standing
IsStandingBy (Some l) s sheet standing =
    IsKnownStanding (last_known seat.First (lacks_on l sheet) (events_on s sheet)) (last_known seat.Second (lacks_on l sheet) (events_on s sheet)) standing

-- who is ahead by a sheet; nobody says, if a last total is not written on it
abbrev pub IsStandingOn : Sheets → Side → Option Standing → Type 0
IsStandingOn s sheet standing = IsStandingBy s.lacks s sheet standing
