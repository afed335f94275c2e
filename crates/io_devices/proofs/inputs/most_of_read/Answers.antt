use Rattle.std.proofs.Common.{rules}
use Rattle.io_devices.proofs.inputs.most_of_read.Goals as goal

pub returns-clause-few : goal.returns-clause-few
returns-clause-few c = search rules
