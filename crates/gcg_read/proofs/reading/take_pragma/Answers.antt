use Rattle.std.proofs.Common.{rules}
use Rattle.gcg_read.specs.Records.{players_with, with_pragma}
use Rattle.gcg_read.proofs.reading.take_pragma.Goals as goal

pub returns-then-eq : goal.returns-then-eq
unfolding with_pragma players_with
returns-then-eq c = search rules

pub returns : goal.returns
unfolding with_pragma players_with
returns c = search rules
