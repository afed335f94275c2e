-- What the lines of a draft lack after a change.
use Rattle.std.specs.Prelude.{List, [], ◌∷◌, reverse}
use Rattle.gcg_drafts.specs.declared.missing.Missing.{Missing}
use Rattle.gcg_drafts.specs.declared.missing.Missing.TheVariants as missing
use Rattle.repair_changes.specs.Applied.{wrong_events}
use Rattle.repair_changes.specs.Splices.{spliced}
use Rattle.repair_changes.specs.declared.slips.Change.{Change}
use Rattle.repair_changes.specs.declared.slips.Slip.{Slip}
use Rattle.repair_changes.specs.declared.slips.Slip.TheVariants as slip

-- What the lines lack that should be in place of those that a slip concerns. Nothing is written of a missing line.
abbrev pub right_lacks : Slip → List Missing → List Missing
right_lacks slip.Repeated there = []
right_lacks slip.ExtraPass there = []
right_lacks slip.Extra there = []
right_lacks slip.Swapped there = reverse there
right_lacks slip.SwappedOver there = reverse there
right_lacks (slip.Missing m) there = missing.Both ∷ []
right_lacks other there = there

-- Those before and after it lack what they lacked.
abbrev pub lacks_with : Change → List Missing → List Missing
lacks_with change lacks = spliced change.place (wrong_events change.slip) (right_lacks change.slip) lacks
