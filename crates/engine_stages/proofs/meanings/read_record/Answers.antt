use Rattle.gcg_read.specs.Records.{most_bytes}
use Rattle.engine_stages.specs.Stages.{IsRecordOf}
use Rattle.engine_stages.proofs.Readings.{taken}
use Rattle.engine_stages.proofs.meanings.read_record.Goals as goal

pub returns : goal.returns
returns g c =
    taken most_bytes (g.G.Input.device c.args.game.now) (g.G.Input.device c.read_text.new.input) IsRecordOf c.in_ok-text.text.items c.deref.result.now c.in_ok-record_from.field-0
    c.in_ok-text.ensures.whole c.deref.ensures.value c.in_ok-record_from.ensures c.in_ok-text.ensures.worked c.in_ok-text.ensures.taken
