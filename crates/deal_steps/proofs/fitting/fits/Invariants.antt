use Rattle.std.proofs.Common.{◌↔◌}
use Rattle.deal_steps.specs.Fitting.{Fits}
use Rattle.deal_steps.proofs.FitLaws.{FitsFrom}
use Rattle.deal_steps.proofs.fitting.fits.Given as goal

abbrev pub invariant-loop-place : goal.invariant-loop-place
invariant-loop-place l = Fits l.fn.rules l.fn.steps l.fn.deal ↔ FitsFrom l.fn.rules l.fn.steps l.fn.deal l.place
