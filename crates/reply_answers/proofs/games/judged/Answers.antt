use Rattle.std.proofs.Common.{refl, ap}
use Rattle.io_devices.specs.Devices.{Device}
use Rattle.lex_check.specs.Pairs.{list_in}
use Rattle.game_answers.specs.Games.{IsJudgedGameOf}
use Rattle.reply_answers.proofs.Reading.{means_read, memory_alone}
use Rattle.reply_answers.proofs.games.judged.Goals as goal

pub returns-clause-judged : goal.returns-clause-judged
returns-clause-judged c =
    means_read _ _ c.args.game.now (IsJudgedGameOf c.args.best c.args.question c.args.rules.now (list_in c.args.pair.now)) c.judge_game_with.result
    c.new-input.ensures c.judge_game_with.ensures.read

pub returns-clause-memory : goal.returns-clause-memory
returns-clause-memory c = memory_alone _ _ _ c.judge_game_with.result (ap (λ (d : Device). d.failures) c.new-input.ensures) refl c.judge_game_with.ensures.read
