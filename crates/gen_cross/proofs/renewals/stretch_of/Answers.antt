use Rattle.std.proofs.Common.{◌∙◌, rules, arith}
use Rattle.gen_cross.proofs.PlayTiles.{some_tile, in_order, spans_at}
use Rattle.gen_cross.proofs.renewals.stretch_of.Goals as goal

pub bounds-tiles-0 : goal.bounds-tiles-0
bounds-tiles-0 c = some_tile c.args.dir c.args.tiles.now c.requires

pub bounds-tiles-0-2 : goal.bounds-tiles-0-2
bounds-tiles-0-2 c = some_tile c.args.dir c.args.tiles.now c.requires

pub overflow_sub-last : goal.overflow_sub-last
overflow_sub-last c = some_tile c.args.dir c.args.tiles.now c.requires

pub bounds-tiles-tiles : goal.bounds-tiles-tiles
bounds-tiles-tiles c = let some = some_tile c.args.dir c.args.tiles.now c.requires in omega arith

pub bounds-tiles-tiles-2 : goal.bounds-tiles-tiles-2
bounds-tiles-tiles-2 c = let some = some_tile c.args.dir c.args.tiles.now c.requires in omega arith

pub invariant_of-result : goal.invariant_of-result
invariant_of-result c =
    let low = in_order c.args.dir c.args.tiles.now c.index-tiles-0.result c.index-tiles-tiles.result c.requires in
    record { on_board = omega arith; order = omega arith; inside = omega arith }

pub returns-clause-some : goal.returns-clause-some
returns-clause-some c =
    let low = in_order c.args.dir c.args.tiles.now c.index-tiles-0.result c.index-tiles-tiles.result c.requires in
    omega arith

pub returns-clause-within : goal.returns-clause-within
returns-clause-within c =
    λ q has.
    let is = spans_at c.args.dir c.args.tiles.now c.index-tiles-0.result c.index-tiles-tiles.result c.requires q has in
    let low = is.1 in
    let high = is.2 in
    (is.0 ∙ search rules, omega arith, omega arith)
