use Rattle.std.proofs.Common.{◌≡◌, ◌<◌, ◌+◌, ◌-◌, ℕ, length, drop, subst, arith}
use Rattle.std.proofs.lemmas.List.{get_or_read}
use Rattle.deal_cuts.specs.Flowing.{IsShown}
use Rattle.deal_cuts.proofs.Walking.{no_places, IsReached, reached_at_start, reached_more, none_where_too_many, shown_at_start, shown_more, over_at_end}
use Rattle.deal_cuts.proofs.ruling.shows_too_many.Goals as goal

pub loop-place-init : goal.loop-place-init
loop-place-init c =
    let steps = c.args.steps.now in
    let cut = c.args.cut.now in
    let s = c.index-steps-0.result in
    let here = c.index.result.now in
    let inside = c.at_least-inside.result in
    let there : 0 < length steps = omega arith in
    let there2 : 0 < length cut.places.items = omega arith in
    let is = get_or_read cut.places.items 0 here there2 c.index.ensures no_places in (
      reached_at_start cut.kinds c.args.rules.now inside steps cut.places.items s here there there2 c.index-steps-0.is is c.at_least-inside.ensures.inside,
      (λ is_cut. shown_at_start c.args.rules.now cut.kinds inside steps cut.places.items s here there there2 c.index-steps-0.is is c.at_least-inside.ensures.is is_cut),
      c.at_least-inside.ensures.small,
    )

pub loop-place-preserved : goal.loop-place-preserved
loop-place-preserved c =
    let steps = c.args.steps.now in
    let cut = c.args.cut.now in
    let i = c.loop-place.place in
    let s = c.index-steps-place.result in
    let next = c.index-steps-place-in-loop-place.result in
    let from = c.index-in-loop-place.result.now in
    let to = c.index-in-loop-place-2.result.now in
    let before = c.loop-place.inside in
    let after = c.carried-inside.result in
    let there : i + 1 < length steps = omega arith in
    let there2 : i + 1 < length cut.places.items = omega arith in
    let there3 : i < length cut.places.items = omega arith in
    let is = get_or_read cut.places.items i from there3 c.index-in-loop-place.ensures no_places in
    let is2 = get_or_read cut.places.items (i + 1) to there2 c.index-in-loop-place-2.ensures no_places in (
      reached_more cut.kinds c.args.rules.now before after steps cut.places.items i s next from to there there2 c.index-steps-place.is c.index-steps-place-in-loop-place.is is is2
          c.law_of_numbers.ensures.kinds c.carried-inside.ensures.carries c.loop-place.invariant.0,
      (λ is_cut. shown_more c.args.rules.now cut.kinds before after steps cut.places.items i s next from to there there2 c.index-steps-place.is c.index-steps-place-in-loop-place.is is is2
          c.carried-inside.ensures.is (c.loop-place.invariant.1 is_cut)),
      c.carried-inside.ensures.small,
    )

pub returns : goal.returns
returns c =
    let steps = c.args.steps.now in
    let cut = c.args.cut.now in
    let i = c.len-count.result - 1 in
    let s = c.index-steps-last.result in
    let here = c.index-2.result.now in
    let inside = c.loop-place.inside in
    let last : c.loop-place.place ≡ i = omega arith in
    let there : i < length steps = omega arith in
    let there2 : i < length cut.places.items = omega arith in
    let long : length steps ≡ i + 1 = omega arith in
    let long2 : length cut.places.items ≡ i + 1 = omega arith in
    let is = get_or_read cut.places.items i here there2 c.index-2.ensures no_places in
    record {
      none = λ yes_over.
          let reached = subst (λ (n : ℕ). IsReached cut.kinds c.args.rules.now inside steps cut.places.items n) last c.loop-place.invariant.0 in
          none_where_too_many cut.kinds c.args.rules.now inside steps cut.places.items i s here there there2 c.index-steps-last.is is (c.are_too_many.ensures.none yes_over) reached;
      found = λ is_cut.
          let shown = subst (λ (n : ℕ). IsShown cut.kinds c.args.rules.now inside (drop n steps) (drop n cut.places.items)) last (c.loop-place.invariant.1 is_cut) in
          let over = over_at_end c.args.rules.now cut.kinds inside steps cut.places.items i s here long long2 c.index-steps-last.is is shown in
          c.are_too_many.ensures.found over.0 over.1;
    }
