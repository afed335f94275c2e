use Rattle.std.proofs.Common.{rules}
use Rattle.io_devices.proofs.from_write.FromWrite.count_stall.Goals as goal

pub returns-then-len-gt0-clause-counts : goal.returns-then-len-gt0-clause-counts
returns-then-len-gt0-clause-counts c = search rules
