use Rattle.engine.specs.Converting.{IsConvertedBy}
use Rattle.engine_stages.proofs.Stages.{file_last}
use Rattle.engine.proofs.converting.decide_conversion.Goals as goal

pub returns : goal.returns
returns g c =
    file_last (λ b. b.items) _ _ (IsConvertedBy c.args.format)
    c.in_ok-bytes.bytes c.deref.result.now c.in_ok-convert_bytes.field-0 c.in_ok-bytes.ensures c.deref.ensures.value c.in_ok-convert_bytes.ensures
