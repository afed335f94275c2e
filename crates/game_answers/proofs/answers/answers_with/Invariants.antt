use Rattle.std.proofs.Common.{◌≡◌, length}
use Rattle.game_turns.specs.Passing.{rules_in, record_in}
use Rattle.lex_check.specs.Pairs.{list_in}
use Rattle.game_known.specs.Besides.{IsBeside}
use Rattle.game_known.specs.Known.{AreKnown}
use Rattle.game_answers.specs.Answers.{AreAnswersTo}
use Rattle.game_answers.specs.Going.{HasTaken}
use Rattle.game_answers.proofs.answers.answers_with.Given as goal

abbrev pub invariant-loop-place : goal.invariant-loop-place
invariant-loop-place l =
    record {
      taken : HasTaken (rules_in l.passed) (record_in l.passed).events l.place l.machine;
      beside : IsBeside (rules_in l.passed) (list_in l.pair) l.beside;
      known : AreKnown (rules_in l.passed) (list_in l.pair) l.known;
      answers : AreAnswersTo (rules_in l.passed) (list_in l.pair) (record_in l.passed).events l.place l.answers.items;
      many : length l.answers.items ≡ l.place;
    }
