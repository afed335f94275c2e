use Rattle.gcg_read.specs.Records.{most_bytes}
use Rattle.lex_check.specs.Pairs.{list_in}
use Rattle.engine_stages.proofs.Readings.{taken}
use Rattle.game_answers.specs.Tops.{AreTopPlaysOf}
use Rattle.game_answers.proofs.tops.top_plays.Goals as goal

pub returns : goal.returns
returns g c =
    let q = c.args.question.now in
    taken most_bytes (g.G.Input.device c.args.game.now) (g.G.Input.device c.read_text.new.input) (AreTopPlaysOf q.number q.before c.args.rules.now (list_in c.args.pair.now) q.rack) c.in_ok-text.text.items
    c.deref.result.now c.in_ok-plays_from.field-0 c.in_ok-text.ensures.whole c.deref.ensures.value c.in_ok-plays_from.ensures c.in_ok-text.ensures.worked c.in_ok-text.ensures.taken
