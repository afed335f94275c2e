use Rattle.deal_completion.proofs.ReadySteps.{fits_within}
use Rattle.deal_completion.proofs.dealing.is_within.Goals as goal

pub returns : goal.returns
returns c = fits_within c.fits.result c.args.tiles.now c.args.others.now c.law_of_numbers.ensures.kinds c.fits.ensures
