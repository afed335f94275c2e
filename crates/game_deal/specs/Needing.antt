-- What contracts see of the needs of a record.
use Rattle.game_turns.specs.declared.passed.Passed.{Passed}
use Rattle.game_deal.specs.declared.needs.Needs.{Needs}
use Rattle.game_deal.specs.Stepping.{passed_in}

-- the record that passed
abbrev pub passed_of : Needs → Passed
passed_of needs = passed_in needs.steps
