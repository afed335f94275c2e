use Rattle.std.proofs.Common.{rules}
use Rattle.gcg_read.specs.Records.{entry_of}
use Rattle.gcg_read.proofs.reading.read_entry.Goals as goal

pub returns-in_default-seat_for : goal.returns-in_default-seat_for
unfolding entry_of
returns-in_default-seat_for c = search rules
