use Rattle.std.proofs.Common.{subst}
use Rattle.game_deal.specs.Racks.{AreFound}
use Rattle.game_case.proofs.FoundGames.{found_dealt, found_past, found_out, found_open}
use Rattle.game_case.proofs.settling.settle_passed.Goals as goal

pub returns-in-Dealt : goal.returns-in-Dealt
returns-in-Dealt c =
    λ list allowed. found_dealt c.args.passed.now list c.complete.result allowed (subst (AreFound c.args.passed.now) c.in-Dealt.is c.in_ok-settle_racks.ensures) c.complete.ensures

pub returns-in-PastBound : goal.returns-in-PastBound
returns-in-PastBound c =
    λ list allowed.
    found_past c.law_of_bounds.ensures c.args.passed.now list c.in-PastBound.bound c.past_bound.result allowed
    (subst (AreFound c.args.passed.now) c.in-PastBound.is c.in_ok-settle_racks.ensures) c.past_bound.ensures

pub returns-in-NoDeal : goal.returns-in-NoDeal
returns-in-NoDeal c =
    λ list allowed.
    found_out c.args.passed.now list c.in-NoDeal.line c.in-NoDeal.earlier allowed (subst (AreFound c.args.passed.now) c.in-NoDeal.is c.in_ok-settle_racks.ensures)

pub returns-in-Unknown : goal.returns-in-Unknown
returns-in-Unknown c = λ list allowed. found_open c.args.passed.now list allowed (subst (AreFound c.args.passed.now) c.in-Unknown.is c.in_ok-settle_racks.ensures)
