use Rattle.std.proofs.Common.{rules, ◌<◌, List, length, get_or, subst, sym, arith, Option}
use Rattle.ref_tiles.specs.declared.tiles.Tile.{Tile}
use Rattle.ref_board.specs.declared.directions.Dir.TheVariants.{Across}
use Rattle.gen_line.specs.Walk.{anchor_moves}
use Rattle.gen_line.proofs.Sinks.{took-refused, all-for, front-for}
use Rattle.gen_sinks.specs.Sinks.{IsFor}
use Rattle.gen_moves.specs.declared.starts.Start.{Start}
use Rattle.gen_moves.specs.Reporting.{both_cells}
use Rattle.gen_moves.specs.Starts.{IsGood, given_from}
use Rattle.gen_moves.proofs.Starting.{left_out, starts_more, front_of_starts}
use Rattle.gen_moves.proofs.generating.Finder.from_starts.Goals as goal

-- a start that is skipped
pub loop-number-preserved-then-passes : goal.loop-number-preserved-then-passes
loop-number-preserved-then-passes g c =
    let rules_in = c.args.self.now.rules.now in
    let board = c.args.self.now.board.now in
    let path = g.L.PathLex.language c.args.self.now.lex.now in
    let cells = both_cells c.args.self.now.across.now c.args.self.now.down.now in
    let rack = c.args.self.now.rack.now in
    let sink = c.loop-number.sink in
    let some : Start = record { dir = Across; line = 0; place = 0; bound = 0 } in
    let start : Start = get_or c.args.starts.now c.loop-number.number some in
    let good : IsGood rules_in board path cells rack start = search rules in
    let is_for : IsFor (g.S.Sink.made_for sink) board = subst (λ (made : Option (List (Option Tile))). IsFor made board) (sym c.loop-number.invariant.made_for) c.requires.sink in
    let none =
    left_out (g.S.Sink.made_for sink) rules_in board start.dir start.line start.bound (anchor_moves path (cells start.dir start.line) rack start.place) (g.S.Sink.add (g.S.Sink.made_for sink)) (g.S.Sink.items sink)
    (c.passes.ensures c.if-passes.true) is_for good.fits good.under in
    record {
      made_for = c.loop-number.invariant.made_for;
      took = starts_more (g.S.Sink.add (g.S.Sink.made_for c.args.sink.now)) (given_from rules_in board path cells rack) c.args.starts.now c.loop-number.number some (g.S.Sink.items c.args.sink.now) _ _ (omega arith)
          c.loop-number.invariant.took
          (all-for g.S.Sink.add _ _ (g.S.Sink.items sink) (given_from rules_in board path cells rack start) _ c.loop-number.invariant.made_for none);
    }

pub returns-in_err-walk_start-clause-took : goal.returns-in_err-walk_start-clause-took
returns-in_err-walk_start-clause-took g c =
    let given = given_from c.args.self.now.rules.now c.args.self.now.board.now (g.L.PathLex.language c.args.self.now.lex.now) (both_cells c.args.self.now.across.now c.args.self.now.down.now) c.args.self.now.rack.now in
    let starts = c.args.starts.now in
    let number = c.loop-number.number in
    let some : Start = record { dir = Across; line = 0; place = 0; bound = 0 } in
    let below : number < length starts = omega arith in
    took-refused _ _ _ _ _ _ c.from_residual.ensures.1
    (front_of_starts (g.S.Sink.add (g.S.Sink.made_for c.args.sink.now)) given starts number some (g.S.Sink.items c.args.sink.now) (g.S.Sink.items c.loop-number.sink) (g.S.Sink.items c.walk_start.new.sink) below
    c.loop-number.invariant.took
    (front-for g.S.Sink.add _ _ _ _ _ c.loop-number.invariant.made_for c.in_err-walk_start.ensures.took))
