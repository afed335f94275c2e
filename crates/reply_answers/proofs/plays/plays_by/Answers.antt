use Rattle.std.proofs.Common.{refl, ap}
use Rattle.io_devices.specs.Devices.{Device}
use Rattle.lex_check.specs.Pairs.{list_in}
use Rattle.game_answers.specs.Tops.{AreTopPlaysOf}
use Rattle.reply_answers.proofs.Reading.{means_read, memory_alone}
use Rattle.reply_answers.proofs.plays.plays_by.Goals as goal

pub returns-clause-found : goal.returns-clause-found
returns-clause-found c =
    means_read _ _ c.args.game.now (AreTopPlaysOf c.args.question.now.number c.args.question.now.before c.args.rules.now (list_in c.args.pair.now) c.args.question.now.rack) c.top_plays.result
    c.new-input.ensures c.top_plays.ensures

pub returns-clause-memory : goal.returns-clause-memory
returns-clause-memory c = memory_alone _ _ _ c.top_plays.result (ap (λ (d : Device). d.failures) c.new-input.ensures) refl c.top_plays.ensures
