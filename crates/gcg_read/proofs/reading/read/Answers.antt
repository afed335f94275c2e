use Rattle.std.proofs.Common.{rules}
use Rattle.gcg_read.specs.Records.{record_of}
use Rattle.gcg_read.proofs.reading.read.Goals as goal

pub returns : goal.returns
unfolding record_of
returns c = search rules

pub returns-then-bytes-gt-MAX_BYTES : goal.returns-then-bytes-gt-MAX_BYTES
unfolding record_of
returns-then-bytes-gt-MAX_BYTES c = search rules
