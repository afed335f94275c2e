use Rattle.std.proofs.Common.{◌≡◌, ◌+◌, ◌-◌, ◌++◌, ◌∙◌, ◌<◌, List, [], sym, ap, subst, arith}
use Rattle.repair_single.specs.Weighers.{wrong_by}
use Rattle.repair_single.specs.Candidates.{AreBetween, AddsCandidates}
use Rattle.repair_single.specs.declared.candidate.Candidate.{Candidate}
use Rattle.repair_single.proofs.PlaceChanges.{between_none, between_more}
use Rattle.repair_single.proofs.candidates.candidates_before.Goals as goal

pub loop-following-init : goal.loop-following-init
loop-following-init c =
    let whole : c.args.end - 0 ≡ c.args.end = omega arith in
    record {
      so_far = subst (λ n. AreBetween (wrong_by c.args.weigher.now) c.args.rules.now c.args.list.now c.args.events.now c.args.plays.now c.args.below n c.args.end c.new-found.result.items) (sym whole)
          (subst (AreBetween (wrong_by c.args.weigher.now) c.args.rules.now c.args.list.now c.args.events.now c.args.plays.now c.args.below c.args.end c.args.end) (sym c.new-found.ensures.items)
          (between_none (wrong_by c.args.weigher.now) c.args.rules.now c.args.list.now c.args.events.now c.args.plays.now c.args.below c.args.end));
    }

pub loop-following-preserved : goal.loop-following-preserved
loop-following-preserved c =
    let weigh = wrong_by c.args.weigher.now in
    let rules = c.args.rules.now in
    let list = c.args.list.now in
    let events = c.args.events.now in
    let plays = c.args.plays.now in
    let below = c.args.below in
    let end = c.args.end in
    let place = end - (c.loop-following.following + 1) in
    let here = c.push_candidates.new.found.items in
    let inside : place < end = omega arith in
    let first : place + 1 ≡ end - c.loop-following.following = omega arith in
    let last : end - c.loop-following.following - 1 ≡ place = omega arith in
    let adds : AddsCandidates weigh rules list events plays below place [] here =
    subst (λ n. AddsCandidates weigh rules list events plays below n [] here) last
    (subst (λ (xs : List Candidate). AddsCandidates weigh rules list events plays below (end - c.loop-following.following - 1) xs here) c.new-here.ensures.items c.in_ok-push_candidates.ensures) in
    let old : AreBetween weigh rules list events plays below (place + 1) end c.loop-following.found.items =
    subst (λ n. AreBetween weigh rules list events plays below n end c.loop-following.found.items) (sym first) c.loop-following.invariant.so_far in
    record { so_far = between_more weigh rules list events plays below place end here c.loop-following.found.items _ inside adds old c.in_ok-append.ensures.items }
