use Rattle.std.proofs.Common.{refl, ap}
use Rattle.io_devices.specs.Devices.{Device}
use Rattle.reply_answers.proofs.Reading.{text_alone}
use Rattle.reply_answers.proofs.tidying.bytes_read.Goals as goal

pub returns-clause-memory : goal.returns-clause-memory
returns-clause-memory c = text_alone _ _ c.read_text.result (ap (λ (d : Device). d.failures) c.new-input.ensures) refl c.read_text.ensures.stopped
