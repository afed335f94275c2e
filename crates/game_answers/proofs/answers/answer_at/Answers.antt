use Rattle.std.proofs.lemmas.Int.{ints}
use Rattle.std.proofs.Common.{rules, w32, to_z-of_z, ◌∙◌}
use Rattle.game_turns.specs.Passing.{rules_in, record_in}
use Rattle.lex_check.specs.Pairs.{list_in}
use Rattle.game_answers.proofs.AnswerLaws.{answer_is}
use Rattle.game_answers.proofs.answers.answer_at.Goals as goal

pub returns-clause-answer : goal.returns-clause-answer
returns-clause-answer c =
    let passed = c.args.passed.now in
    let answer = c.in_ok-answer.ensures in
    answer_is (rules_in passed) (list_in c.args.pair.now) c.list.result.now c.record-game.result.now (record_in passed) c.as_slice-events.result.now c.args.place c.index-events-place.result
    c.args.machine.now c.take_event.new.machine _ c.best_at-best.result c.in_ok-answer.answer c.requires.taken.state
    c.take_event.ensures.state c.record-game.ensures.record c.as_slice-events.ensures c.list.ensures.list c.requires.place c.index-events-place.is (to_z-of_z {w = w32} (search (rules, ints)) ∙ c.given_at-gave.ensures)
    c.best_at-best.ensures.best answer.best answer.tiles answer.word answer.unlisted
