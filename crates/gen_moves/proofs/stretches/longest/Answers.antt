use Rattle.std.proofs.Common.{rules, ◌≡◌, ◌+◌, ◌-◌, suc, sym, subst, arith}
use Rattle.gen_moves.specs.Bounds.{IsSum, IsSmallSum, place_in}
use Rattle.gen_moves.specs.Closing.{open_in}
use Rattle.gen_moves.proofs.Longest.{sum_more, small_more, sum_bound, reach_stop, reach_closed, sum_up}
use Rattle.gen_moves.proofs.stretches.longest.Goals as goal

pub bound-requires-clause-small : goal.bound-requires-clause-small
bound-requires-clause-small c = sum_up (c.loop-place.place - c.args.first) 15 c.loop-place.sum (omega arith) c.loop-place.invariant.small

pub returns-then-places-place : goal.returns-then-places-place
returns-then-places-place c =
    let places = place_in c.args.places.now in
    let n = c.loop-place.place - c.args.first in
    let at : c.loop-place.place ≡ c.args.first + n = omega arith in
    sum_bound c.args.bonus c.args.points c.args.ones places (open_in c.args.opens.now) c.args.first n c.loop-place.sum c.bound.result (omega arith) c.loop-place.invariant.sum c.requires.small c.bound.ensures
    (λ len inside few passable. reach_stop places c.args.first n c.loop-place.place c.loop-place.sum at c.loop-place.invariant.sum c.if-sum-eq7.true c.if-places-place.true len inside few)

pub with-sum-requires-clause-small : goal.with-sum-requires-clause-small
with-sum-requires-clause-small c = sum_up (c.loop-place.place - c.args.first) 14 c.loop-place.sum (omega arith) c.loop-place.invariant.small

pub with-sum-requires-clause-place : goal.with-sum-requires-clause-place
with-sum-requires-clause-place c = c.requires.small c.loop-place.place (omega arith)

pub loop-place-preserved : goal.loop-place-preserved
loop-place-preserved c =
    let places = place_in c.args.places.now in
    let n = c.loop-place.place - c.args.first in
    let at : c.loop-place.place ≡ c.args.first + n = omega arith in
    let next : c.loop-place.place + 1 - c.args.first ≡ suc n = omega arith in
    let more : c.loop-place.place + 1 - c.args.first ≡ n + 1 = omega arith in
    let e = c.with-sum.ensures in
    record {
      sum = subst (λ k. IsSum places c.args.first k c.with-sum.result) (sym next)
          (sum_more places c.args.first n c.loop-place.place c.loop-place.sum c.with-sum.result at c.loop-place.invariant.sum e.old e.word e.side e.free e.letters e.crosses e.letter_before e.letter e.cross_before e.cross);
      small = subst (λ k. IsSmallSum k c.with-sum.result) (sym more)
          (small_more n c.loop-place.sum c.with-sum.result (places c.loop-place.place) c.loop-place.invariant.small (c.requires.small c.loop-place.place (omega arith)) e.old e.word e.side e.free e.letters e.crosses e.letter_limit e.cross_limit);
    }

pub bound-requires-2-clause-small : goal.bound-requires-2-clause-small
bound-requires-2-clause-small c = sum_up (c.loop-place.place - c.args.first) 15 c.loop-place.sum (omega arith) c.loop-place.invariant.small

pub bound-requires-then-not-opens-place-clause-small : goal.bound-requires-then-not-opens-place-clause-small
bound-requires-then-not-opens-place-clause-small c = sum_up (c.loop-place.place - c.args.first) 15 c.loop-place.sum (omega arith) c.loop-place.invariant.small

pub returns-then-not-opens-place : goal.returns-then-not-opens-place
returns-then-not-opens-place c =
    let places = place_in c.args.places.now in
    let n = c.loop-place.place - c.args.first in
    let at : c.loop-place.place ≡ c.args.first + n = omega arith in
    sum_bound c.args.bonus c.args.points c.args.ones places (open_in c.args.opens.now) c.args.first n c.loop-place.sum c.bound-then-not-opens-place.result (omega arith) c.loop-place.invariant.sum
    c.requires.small c.bound-then-not-opens-place.ensures
    (λ len inside few. reach_closed (open_in c.args.opens.now) c.args.first n c.loop-place.place at (search rules) len)

pub returns : goal.returns
returns c =
    let places = place_in c.args.places.now in
    let n = c.loop-place.place - c.args.first in
    sum_bound c.args.bonus c.args.points c.args.ones places (open_in c.args.opens.now) c.args.first n c.loop-place.sum c.bound-2.result (omega arith) c.loop-place.invariant.sum c.requires.small c.bound-2.ensures
    (λ len inside few passable. omega arith)
