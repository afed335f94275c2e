use Rattle.ref_tiles.specs.RulesTexts.{most_text_bytes}
use Rattle.engine_stages.specs.Stages.{AreRulesOf}
use Rattle.engine_stages.proofs.Readings.{taken}
use Rattle.engine_stages.proofs.meanings.read_rules.Goals as goal

pub returns : goal.returns
returns g c =
    taken most_text_bytes (g.R.Input.device c.args.rules_text.now) (g.R.Input.device c.read_text.new.input) AreRulesOf c.in_ok-text.text.items c.deref.result.now c.in_ok-rules_from.field-0
    c.in_ok-text.ensures.whole c.deref.ensures.value c.in_ok-rules_from.ensures c.in_ok-text.ensures.worked c.in_ok-text.ensures.taken
