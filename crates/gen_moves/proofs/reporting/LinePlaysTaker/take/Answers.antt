use Rattle.std.proofs.lemmas.Int.{ints}
use Rattle.std.proofs.Common.{rules, ◌≡◌, ◌∙◌, sym, subst, Some, None, to_z, of_z, w32, to_z-of_z}
use Rattle.gen_moves.specs.LineTiles.{new_tile}
use Rattle.gen_moves.specs.Reporting.{IsFit, PlayIs}
use Rattle.gen_moves.specs.Bounds.{ReportsUnder, place_in}
use Rattle.gen_moves.specs.Tallies.{LiesOn, tally}
use Rattle.gen_moves.specs.Starts.{GoesAlong}
use Rattle.gen_moves.proofs.Offering.{passed_over}
use Rattle.gen_moves.proofs.Starting.{reported_along}
use Rattle.gen_moves.proofs.Taking.{report_none, took_one}
use Rattle.gen_moves.proofs.reporting.LinePlaysTaker.take.Goals as goal

pub returns-then-passes-clause-took : goal.returns-then-passes-clause-took
returns-then-passes-clause-took g c =
    let taker = c.args.self.now in
    let spot = taker.spot.now in
    let for = g.S.Sink.made_for c.args.sink.now in
    let known = c.requires.1.1 in
    let places = place_in taker.places.now in
    let is =
    subst (λ tiles. LiesOn places (new_tile tiles) known.first known.len → c.tally_of.result ≡ tally taker.rules.now places (new_tile tiles) known.first known.len) c.line_tiles-tiles.ensures
    (c.tally_of.ensures known.first known.len) known.lies in
    let under = subst (ReportsUnder taker.rules.now spot.board.now spot.dir spot.line c.args.fresh.now) (sym is) known.under in
    sym
    (passed_over taker.rules.now spot.board.now spot.dir spot.line c.args.fresh.now c.tally_of.result (GoesAlong for spot.dir) (g.S.Sink.add for) (g.S.Sink.items c.args.sink.now)
    (c.passes.ensures c.if-passes.true) (reported_along for taker.rules.now spot.board.now spot.dir spot.line c.args.fresh.now c.requires.0.0 c.requires.1.0) under)

pub play_of-requires : goal.play_of-requires
play_of-requires g c = subst (IsFit c.args.self.now.spot.now.board.now c.args.self.now.spot.now.dir c.args.self.now.spot.now.line) (sym c.line_tiles-tiles.ensures) c.requires.1.0

pub returns-in_default-clause-took : goal.returns-in_default-clause-took
returns-in_default-clause-took g c =
    let taker = c.args.self.now in
    let spot = taker.spot.now in
    report_none taker.rules.now spot.board.now spot.dir spot.line (g.S.Sink.add (g.S.Sink.made_for c.args.sink.now)) (g.S.Sink.items c.args.sink.now) c.args.fresh.now
    (subst (λ tiles. PlayIs spot.board.now spot.dir spot.line tiles None) c.line_tiles-tiles.ensures (subst (PlayIs spot.board.now spot.dir spot.line c.line_tiles-tiles.result) c.in_default.is c.play_of.ensures))

pub returns-clause-took : goal.returns-clause-took
returns-clause-took g c =
    let taker = c.args.self.now in
    let spot = taker.spot.now in
    let points : to_z w32 (of_z w32 c.score-points.result) ≡ c.score-points.result = to_z-of_z {w = w32} (search (rules, ints)) in
    took_one c.take.result taker.rules.now spot.board.now spot.dir spot.line (g.S.Sink.add (g.S.Sink.made_for c.args.sink.now)) (g.S.Sink.items c.args.sink.now) (g.S.Sink.items c.take.new.self) c.args.fresh.now c.in-Some.play (to_z w32 (of_z w32 c.score-points.result))
    (subst (λ tiles. PlayIs spot.board.now spot.dir spot.line tiles (Some c.in-Some.play)) c.line_tiles-tiles.ensures (subst (PlayIs spot.board.now spot.dir spot.line c.line_tiles-tiles.result) c.in-Some.is c.play_of.ensures)) (points ∙ c.score-points.ensures) c.take.ensures.taken c.take.ensures.refused
