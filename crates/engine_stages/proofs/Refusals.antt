-- Verdicts that an input is bad.
use Rattle.std.proofs.Common.{◌≡◌, true, refl}
use Rattle.engine_stages.specs.declared.input_faults.InputFault.{InputFault}
use Rattle.engine_stages.specs.declared.input_faults.InputFault.TheVariants as input
use Rattle.engine_stages.specs.InputFaults.{input_verdict, is_bad_input}

-- each fault of an input has such a verdict
pub each_is_bad : (fault : InputFault) → is_bad_input (input_verdict fault) ≡ true
each_is_bad (input.Words fault) = refl
each_is_bad (input.Lexicon fault) = refl
each_is_bad input.TooManyArcs = refl
each_is_bad (input.Rules fault) = refl
each_is_bad (input.Game fault) = refl
each_is_bad input.Rack = refl
each_is_bad input.Line = refl
