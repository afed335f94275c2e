use Rattle.std.proofs.Common.{rules}
use Rattle.deal_steps.proofs.fitting.fits_at.Goals as goal

pub returns-then-adds_up : goal.returns-then-adds_up
returns-then-adds_up c = search rules
