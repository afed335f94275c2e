use Rattle.std.proofs.Common.{subst}
use Rattle.game_deal.specs.Racks.{AreTried}
use Rattle.game_case.proofs.FoundGames.{tried_dealt, tried_past, tried_open}
use Rattle.game_case.proofs.settling.try_passed.Goals as goal

pub returns-in-Dealt : goal.returns-in-Dealt
returns-in-Dealt c =
    λ list allowed. tried_dealt c.args.passed.now list c.complete.result allowed (subst (AreTried c.args.passed.now) c.in-Dealt.is c.in_ok-try_racks.ensures) c.complete.ensures

pub returns-in-PastBound : goal.returns-in-PastBound
returns-in-PastBound c =
    λ list allowed.
    tried_past c.law_of_bounds.ensures c.args.passed.now list c.in-PastBound.bound c.past_bound.result allowed (subst (AreTried c.args.passed.now) c.in-PastBound.is c.in_ok-try_racks.ensures)
    c.past_bound.ensures

pub returns-in-Open : goal.returns-in-Open
returns-in-Open c = λ list allowed. tried_open c.args.passed.now list allowed (subst (AreTried c.args.passed.now) c.in-Open.is c.in_ok-try_racks.ensures)
