-- What contracts see of the steps made from a record.
use Rattle.game_turns.specs.declared.passed.Passed.{Passed}
use Rattle.game_deal.specs.declared.steps.Steps.{Steps}

-- the record that passed
abbrev pub passed_in : Steps → Passed
passed_in steps = steps.passed.now
