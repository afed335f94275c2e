-- Games without exchanges.
use Rattle.std.specs.Prelude.{◌≡◌, false, List, [], ◌∷◌}
use Rattle.deal_steps.specs.declared.steps.Step.{Step}
use Rattle.deal_steps.specs.Steps.{swaps}

-- no exchange of either kind
abbrev pub IsPlain : List Step → Type 0
IsPlain [] = Unit {0}
IsPlain (s ∷ steps) = (swaps s.act ≡ false) × IsPlain steps
