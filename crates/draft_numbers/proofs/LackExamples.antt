-- What lines lack after a change, and how many numbers there are to go by, computed.
use Rattle.std.proofs.Common.{◌≡◌, List, [], ◌∷◌, refl}
use Rattle.gcg_read.specs.declared.events.Seat.TheVariants.{First}
use Rattle.gcg_drafts.specs.declared.missing.Missing.{Missing}
use Rattle.gcg_drafts.specs.declared.missing.Missing.TheVariants as missing
use Rattle.repair_changes.specs.Splices.{spliced}
use Rattle.repair_changes.specs.declared.slips.Change.{Change}
use Rattle.repair_changes.specs.declared.slips.Slip.{Slip}
use Rattle.repair_changes.specs.declared.slips.Slip.TheVariants as slip
use Rattle.repair_changes.specs.declared.slips.MissingLine.TheVariants as line
use Rattle.draft_numbers.specs.Counting.{numbers_to_go_by, count_written}
use Rattle.draft_numbers.specs.Lacks.{lacks_with}

-- three lines: the first lacks nothing, the second its total, the third both numbers
abbrev three : List Missing
three = missing.Nothing ∷ missing.Total ∷ missing.Both ∷ []

abbrev at_second : Slip → Change
at_second what = record { place = 1; slip = what }

-- of six numbers three are written
written : count_written three 3 ≡ 3
written = refl

omitted : lacks_with (at_second slip.Extra) three ≡ missing.Nothing ∷ missing.Both ∷ []
unfolding spliced
omitted = refl

-- of the four numbers of two lines two are written
fewer : numbers_to_go_by three (at_second slip.Extra) 3 ≡ 2
fewer = refl

interchanged : lacks_with (at_second slip.Swapped) three ≡ missing.Nothing ∷ missing.Both ∷ missing.Total ∷ []
unfolding spliced
interchanged = refl

-- nothing is written of a missing line
missing_line : lacks_with (at_second (slip.Missing (line.Pass First))) three ≡ missing.Nothing ∷ missing.Both ∷ missing.Total ∷ missing.Both ∷ []
unfolding spliced
missing_line = refl

as_many : numbers_to_go_by three (at_second (slip.Missing (line.Pass First))) 3 ≡ 3
as_many = refl

-- a record lacks nothing, and all its numbers are there to go by
whole : numbers_to_go_by [] (at_second slip.OtherPlayer) 3 ≡ 6
whole = refl
