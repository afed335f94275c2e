-- What contracts see of a record that was played through.
use Rattle.std.specs.Prelude.{ℕ, List}
use Rattle.ref_tiles.specs.declared.rulebook.Rules.{Rules}
use Rattle.gcg_read.specs.declared.records.Record.{Record}
use Rattle.game_turns.specs.declared.passed.Passed.{Passed}

abbrev pub rules_in : Passed → Rules
rules_in passed = passed.rules.now

abbrev pub record_in : Passed → Record
record_in passed = passed.record.now

-- the words of the list
abbrev pub list_in : Passed → List (List ℕ)
list_in passed = passed.list.now
