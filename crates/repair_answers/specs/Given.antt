-- The answer on an illegal record, given its first repairs.
use Rattle.std.specs.Prelude.{◌≡◌, ℕ, ◌+◌, ◌-◌, List, [], filter, length, Option}
use Rattle.ref_tiles.specs.declared.rulebook.Rules.{Rules}
use Rattle.gcg_read.specs.declared.events.Event.{Event}
use Rattle.game_walk.specs.declared.walking.Walk.{Walk}
use Rattle.repair_changes.specs.declared.slips.Change.{Change}
use Rattle.repair_single.specs.declared.found.Found.{Found}
use Rattle.repair_answers.specs.Alike.{is_like}
use Rattle.repair_answers.specs.Lines.{AreLines, before_numbers}
use Rattle.repair_answers.specs.Trades.{is_reported}
use Rattle.repair_answers.specs.Tried.{count_walked, count_untried}
use Rattle.repair_answers.specs.declared.numbers_alone.NumbersAlone.{NumbersAlone}
use Rattle.repair_answers.specs.declared.answers.Faulty.{Faulty}

-- The repairs that are listed of those that were found, their lines, and how many changes were tried; no pairs, and no slips of the whole sheet.
pub record IsFaultyWith (rules : Rules) (written : List Event) (walk : Walk) (alone : Option NumbersAlone) (plays : List Change) (found : Found) (most : ℕ) (f : Faulty) : Type 0 where
  pub numbers : f.alone ≡ alone
  pub tried_plays : f.plays.items ≡ plays
  pub reported : f.found.reported.items ≡ filter (is_reported alone) found.reported.items
  pub remaining : f.found.remaining.items ≡ found.remaining.items
  pub from : f.found.from ≡ found.from
  pub lines : AreLines is_like f.found.reported.items most f.lines.items
  pub before : f.before_numbers ≡ before_numbers alone f.found.reported.items f.lines.items
  pub pairs : f.pairs.reported.items ≡ []
  pub pair_lines : f.pair_lines.items ≡ []
  pub sheets : f.sheets.items ≡ []
  pub untried : f.untried ≡ count_untried rules written walk found.from
  pub changes : f.changes ≡ count_walked rules written walk + length plays
  pub tried : f.tried ≡ f.changes - f.untried
