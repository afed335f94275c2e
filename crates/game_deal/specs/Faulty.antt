-- What a fault of the deals of a record says.
use Rattle.std.specs.Prelude.{◌≡◌, Option, Some, None, IfSome}
use Rattle.game_turns.specs.declared.passed.Passed.{Passed}
use Rattle.deal_steps.specs.declared.faults.DealBound.{DealBound}
use Rattle.deal_steps.specs.declared.faults.DealBound.TheVariants as bound
use Rattle.game_deal.specs.declared.faults.DealFault.{DealFault}
use Rattle.game_deal.specs.declared.faults.DealFault.TheVariants as fault
use Rattle.game_deal.specs.Bounded.{bound_in}

-- the bound that is exceeded; none if memory ran out
abbrev pub bound_reported : DealFault → Option DealBound
bound_reported (fault.RackTooBig line) = Some (bound.RackTooBig line)
bound_reported (fault.TilesShort line kind) = Some (bound.TilesShort line kind)
bound_reported fault.NoMemory = None

-- a fault of a record: the first bound that a line exceeds, or that memory ran out
abbrev pub IsFaultOf : Passed → DealFault → Type 0
IsFaultOf passed why = IfSome (bound_reported why) (λ bound. bound_in passed ≡ Some bound)
