-- The normal form of a record that was read, read again.
use Rattle.gcg_write.specs.Rounds.{IsReadAgain}
use Rattle.gcg_write.proofs.Readings.{record_read}
use Rattle.gcg_write.proofs.Records.{record_again}

pub read_again : IsReadAgain
read_again text r read first second short = record_again r (record_read text r read) first second short
