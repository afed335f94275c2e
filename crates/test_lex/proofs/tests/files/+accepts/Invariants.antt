use Rattle.std.proofs.Common.{length}
use Rattle.test_lex.proofs.tests.files.+accepts.Given as goal

-- the labels grow fewer
abbrev pub decreases-accepts : goal.decreases-accepts
decreases-accepts g l = length l.labels.now
