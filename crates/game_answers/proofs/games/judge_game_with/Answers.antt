use Rattle.gcg_read.specs.Records.{most_bytes}
use Rattle.lex_check.specs.Pairs.{list_in}
use Rattle.engine_stages.proofs.Readings.{taken}
use Rattle.game_answers.specs.Games.{IsJudgedGameOf}
use Rattle.game_answers.proofs.games.judge_game_with.Goals as goal

pub returns-clause-read : goal.returns-clause-read
returns-clause-read g c =
    taken most_bytes (g.G.Input.device c.args.game.now) (g.G.Input.device c.read_text.new.input) (IsJudgedGameOf c.args.best c.args.question c.args.rules.now (list_in c.args.pair.now)) c.in_ok-text.text.items
    c.deref.result.now c.in_ok-judged_from.field-0 c.in_ok-text.ensures.whole c.deref.ensures.value c.in_ok-judged_from.ensures.judged c.in_ok-text.ensures.worked c.in_ok-text.ensures.taken
