use Rattle.std.proofs.Common.{inl, inr, arith, ltb-true}
use Rattle.gcg_read.specs.declared.events.Seat.TheVariants.{First, Second}
use Rattle.deal_cuts.specs.Flowing.{known_at}
use Rattle.deal_cuts.proofs.Counting.{over_is_too_many, beside_is, within_is}
use Rattle.deal_cuts.proofs.ruling.are_too_many.Goals as goal

pub returns-then-room-taken-clause-none : goal.returns-then-room-taken-clause-none
returns-then-room-taken-clause-none c is =
    let chosen = c.args.chosen.now in
    let places = c.args.places.now in
    let s = c.args.step.now in
    let one = beside_is chosen places.first (known_at First s) _ c.known_at.ensures c.split_by-first.ensures.beside c.where_so-4.ensures.is in
    let two = beside_is chosen places.second (known_at Second s) _ c.known_at-2.ensures c.split_by-second.ensures.beside c.where_so-5.ensures.is in
    let bag = c.where_so.ensures.is in
    let first = c.where_so-2.ensures.is in
    let second = c.where_so-3.ensures.is in
    let over = c.if-room-taken.true in
    over_is_too_many chosen places c.args.rules.now s c.args.inside c.split_by-all.ensures.kinds c.split_by-laid.ensures.kinds
    (inl (omega (arith, one, two, bag, first, second, over)))

pub returns-else-room-taken-clause-none : goal.returns-else-room-taken-clause-none
returns-else-room-taken-clause-none c is =
    let chosen = c.args.chosen.now in
    let places = c.args.places.now in
    let s = c.args.step.now in
    let one = within_is chosen _ (known_at First s) _ c.known_at.ensures c.split_by-first.ensures.within c.where_so-6.ensures.is in
    let two = within_is chosen _ (known_at Second s) _ c.known_at-2.ensures c.split_by-second.ensures.within c.where_so-7.ensures.is in
    let all = c.split_by-all.ensures.within in
    let laid = c.split_by-laid.ensures.within in
    let over = ltb-true _ _ is in
    over_is_too_many chosen places c.args.rules.now s c.args.inside c.split_by-all.ensures.kinds c.split_by-laid.ensures.kinds
    (inr (omega (arith, one, two, all, laid, over)))
