use Rattle.deal_steps.proofs.FitLaws.{length_of_fit}
use Rattle.deal_steps.proofs.fitting.fits.Goals as goal

pub returns-then-steps-deal : goal.returns-then-steps-deal
returns-then-steps-deal c = ((λ is. absurd cc), λ fits. absurd (c.if-steps-deal.true (length_of_fit c.args.rules.now c.args.steps.now c.args.deal.now fits)))
