-- How a change is weighed.
use Rattle.std.specs.Prelude.{ℕ, List, map, Option, None}
use Rattle.gcg_read.specs.declared.events.Event.{Event}
use Rattle.game_corrections.specs.declared.wrong_numbers.WrongNumber.{WrongNumber}
use Rattle.game_walk.specs.Numbers.{numbers_in}
use Rattle.gcg_drafts.specs.declared.missing.Missing.{Missing}
use Rattle.draft_numbers.specs.Lacks.{lacks_with}
use Rattle.draft_numbers.specs.Numbers.{wrong_written}
use Rattle.repair_changes.specs.Applied.{applied}
use Rattle.repair_changes.specs.declared.slips.Change.{Change}
use Rattle.repair_single.specs.Remaining.{wrong_with}
use Rattle.repair_single.specs.declared.weighers.Weigher.{Weigher}
use Rattle.repair_single.specs.declared.weighers.Weigher.TheVariants as weigher

-- The numbers of a draft that stay wrong with a change. A number that is missing counts nowhere: it is neither right nor wrong. What a line lacks moves
-- with it.
abbrev pub written_with : (lacks : List Missing) → Change → (written right : List Event) → List WrongNumber
written_with lacks change written right = wrong_written (lacks_with change lacks) (applied change written) (map numbers_in right)

-- all numbers of a record count, and those of a draft that are written
abbrev pub wrong_by : Weigher → Change → (written right : List Event) → List WrongNumber
wrong_by weigher.Sheet change written right = wrong_with change written right
wrong_by (weigher.Draft lacks) change written right = written_with lacks.items change written right

-- Fewer numbers and words of the sheet than this stay wrong, if fewer of those that count do than `below`. Of a draft that is not known.
abbrev pub room_of : Weigher → (below : Option ℕ) → Option ℕ
room_of weigher.Sheet below = below
room_of (weigher.Draft lacks) below = None
