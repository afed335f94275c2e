-- What two slips cost, and how many lines a first one leaves in its place.
use Rattle.std.proofs.Common.{◌≡◌, ◌+◌, refl}
use Rattle.gcg_read.specs.declared.events.Seat.TheVariants as seat
use Rattle.repair_changes.specs.Weights.{weight_of}
use Rattle.repair_changes.specs.declared.slips.MissingLine.TheVariants as line
use Rattle.repair_changes.specs.declared.slips.PositionSlip.TheVariants as position
use Rattle.repair_changes.specs.declared.slips.Slip.TheVariants as slip
use Rattle.repair_single.specs.Costs.{costs}
use Rattle.repair_changes.specs.Applied.{lines_there}

-- a play in the other direction and one that is a square off; all numbers are right with them
two_plays : weight_of (slip.Position position.OtherDirection) + costs 0 0 (slip.Position (position.OneOff 126)) ≡ 4
two_plays = refl

-- a line that is written twice and a missing pass; one number stays wrong with them
twice_and_pass : weight_of slip.Repeated + costs 1 0 (slip.Missing (line.Pass seat.First)) ≡ 8
twice_and_pass = refl

-- a missing pass is one line, a line or a pass that should not be there is no line, and two lines that change places are two
lines_of_slips : (lines_there (slip.Missing (line.Pass seat.First)) ≡ 1) × (lines_there slip.Extra ≡ 0) × (lines_there slip.ExtraPass ≡ 0) × (lines_there slip.Swapped ≡ 2) × (lines_there slip.OtherPlayer ≡ 1)
lines_of_slips = (refl, refl, refl, refl, refl)
