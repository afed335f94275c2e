use Rattle.std.proofs.Common.{rules}
use Rattle.game_turns.specs.Passing.{rules_in, record_in}
use Rattle.lex_check.specs.Pairs.{list_in}
use Rattle.game_answers.proofs.AnswerLaws.{none_taken, beside_too, no_answers}
use Rattle.game_answers.proofs.answers.answers_with.Goals as goal

pub loop-place-init : goal.loop-place-init
loop-place-init c =
    record {
      taken = none_taken _ _ _ _ c.rules.ensures c.new-machine.ensures.rules c.new-machine.ensures.state;
      beside = beside_too (rules_in c.args.passed.now) c.rules-2.result.now (list_in c.args.pair.now) c.new-beside.result c.rules-2.ensures c.new-beside.ensures;
      known = c.requires.known;
      answers = no_answers (rules_in c.args.passed.now) (list_in c.args.pair.now) (record_in c.args.passed.now).events c.new-answers.result.items (search rules);
      many = search rules;
    }
