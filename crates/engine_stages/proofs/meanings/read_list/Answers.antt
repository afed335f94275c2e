use Rattle.lex_list.specs.Lists.{most_list_bytes}
use Rattle.engine_stages.specs.Stages.{IsListOf}
use Rattle.engine_stages.proofs.Readings.{taken}
use Rattle.engine_stages.proofs.meanings.read_list.Goals as goal

pub returns : goal.returns
returns g c =
    taken most_list_bytes (g.W.Input.device c.args.words.now) (g.W.Input.device c.read_text.new.input) IsListOf c.in_ok-text.text.items c.deref.result.now c.in_ok-list_from.field-0
    c.in_ok-text.ensures.whole c.deref.ensures.value c.in_ok-list_from.ensures c.in_ok-text.ensures.worked c.in_ok-text.ensures.taken
