use Rattle.std.proofs.Common.{◌≡◌, ◌-◌, ◌∙◌, ap, length, arith}
use Rattle.compare_alignments.specs.Merging.{count_other_racks}
use Rattle.compare_alignments.specs.declared.pairs.Side.TheVariants.{First, Second}
use Rattle.compare_choices.specs.Choices.{wrong_on, cost_of}
use Rattle.compare_choices.proofs.costs.cost_of.Goals as goal

pub returns : goal.returns
unfolding cost_of
returns c =
    λ rules list is.
    let s = c.args.sheets.now in
    let right = c.args.corrected.now.right in
    let first : c.in_ok-first.first ≡ wrong_on s First c.args.choice right = c.in_ok-first.ensures.many ∙ ap (wrong_on s First c.args.choice) c.as_slice-right.ensures in
    let second : c.in_ok-second.second ≡ wrong_on s Second c.args.choice right = c.in_ok-second.ensures.many ∙ ap (wrong_on s Second c.args.choice) c.as_slice-right.ensures in
    let pairs = c.len.ensures in
    let events = c.len-2.ensures in
    let rest = c.saturating_sub-omitted.ensures in
    let remaining : c.saturating_sub-omitted.result ≡ length s.pairs.items - length right = omega (arith, pairs, events, rest) in
    let racks = c.count_other_racks-racks.ensures.many ∙ ap (count_other_racks c.args.choice) c.as_slice.ensures.value in
    let total = c.costs.ensures in
    omega (arith, total, first, second, is, remaining, racks)
