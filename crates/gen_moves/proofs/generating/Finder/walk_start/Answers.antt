use Rattle.std.proofs.Common.{◌≡◌, ℕ, ◌-◌, arith, sym, ap, ◌∙◌, subst, List, []}
use Rattle.std.specs.List.{flat_map}
use Rattle.lex_file.specs.Walking.{strings}
use Rattle.gen_line.specs.declared.cells.Cell.{Cell}
use Rattle.gen_line.specs.Walk.{Every, Took, add_all, anchor_moves}
use Rattle.gen_sinks.specs.Sinks.{IsFor}
use Rattle.gen_moves.specs.Reporting.{IsFitMove, both_cells, report}
use Rattle.gen_moves.specs.Findings.{reported}
use Rattle.gen_moves.specs.OldTiles.{IsSpelt}
use Rattle.gen_moves.proofs.After.{moves_from, no_moves}
use Rattle.gen_moves.proofs.Fitting.{every_with, took_reported}
use Rattle.gen_moves.specs.Bounds.{place_in}
use Rattle.gen_moves.specs.Tallies.{AreSmall, IsTallied}
use Rattle.gen_moves.proofs.Offering.{every-both}
use Rattle.gen_moves.proofs.generating.Finder.walk_start.Goals as goal

pub walk_anchor-requires-clause-can : goal.walk_anchor-requires-clause-can
walk_anchor-requires-clause-can g c =
    let s = c.args.start.now in
    let path = g.L.PathLex.language c.args.self.now.lex.now in
    let board = c.args.self.now.board.now in
    let moves = anchor_moves path (both_cells c.args.self.now.across.now c.args.self.now.down.now s.dir s.line) c.args.self.now.rack.now s.place in
    let places = place_in c.line_places-places.result in
    let fit = IsFitMove board s.dir s.line in
    let summed = IsTallied c.args.self.now.rules.now board s.dir s.line places in
    let asked = IsFor (g.S.Sink.made_for c.args.sink.now) board × AreSmall places in
    subst (λ (ys : List (List ℕ)). Every (λ y. asked × (fit y × summed y)) ys) (sym (moves_from path (strings (g.L.PathLex.tail c.args.self.now.lex.now) c.in-Some.at) c.cells-cells.result.now _ c.args.self.now.rack.now s.place (c.after_olds-last.result - 1)
    c.cells-cells.ensures c.requires.good.spelt c.requires.good.place c.in-Some.ensures.some (omega (arith, c.after_olds-last.ensures.place))))
    (every_with asked (λ y. fit y × summed y) moves (c.requires.sink, c.line_places-places.ensures.small)
    (every-both fit summed moves c.requires.good.fits (c.requires.good.tallied places (c.line_places-places.ensures.places c.requires.scores))))

pub returns-clause-took : goal.returns-clause-took
returns-clause-took g c =
    let s = c.args.start.now in
    let path = g.L.PathLex.language c.args.self.now.lex.now in
    let board = c.args.self.now.board.now in
    let moves = anchor_moves path (both_cells c.args.self.now.across.now c.args.self.now.down.now s.dir s.line) c.args.self.now.rack.now s.place in
    let add = g.S.Sink.add (g.S.Sink.made_for c.args.sink.now) in
    let old = g.S.Sink.items c.args.sink.now in
    let new = g.S.Sink.items c.walk_anchor.new.sink in
    took_reported c.args.self.now.rules.now board s.dir s.line add old moves new c.walk_anchor.result
    (subst (λ (ys : List (List ℕ)). Took (report c.args.self.now.rules.now board s.dir s.line add) old ys new c.walk_anchor.result)
    (moves_from path (strings (g.L.PathLex.tail c.args.self.now.lex.now) c.in-Some.at) c.cells-cells.result.now _ c.args.self.now.rack.now s.place (c.after_olds-last.result - 1)
    c.cells-cells.ensures c.requires.good.spelt c.requires.good.place c.in-Some.ensures.some (omega (arith, c.after_olds-last.ensures.place)))
    c.walk_anchor.ensures.took)

pub returns-in_default-clause-took : goal.returns-in_default-clause-took
returns-in_default-clause-took g c =
    let s = c.args.start.now in
    let path = g.L.PathLex.language c.args.self.now.lex.now in
    let board = c.args.self.now.board.now in
    let rack = c.args.self.now.rack.now in
    let line = c.cells-cells.result.now in
    let cells = both_cells c.args.self.now.across.now c.args.self.now.down.now s.dir s.line in
    let add = g.S.Sink.add (g.S.Sink.made_for c.args.sink.now) in
    let old = g.S.Sink.items c.args.sink.now in
    let none : anchor_moves path cells rack s.place ≡ [] =
    ap (λ (ds : List Cell). anchor_moves path ds rack s.place) (sym c.cells-cells.ensures)
    ∙ no_moves path line rack s.place (subst (IsSpelt path) (sym c.cells-cells.ensures) c.requires.good.spelt) c.requires.good.place c.in_default.ensures.none in
    ap (λ (ys : List (List ℕ)). add_all add old (flat_map (reported c.args.self.now.rules.now board s.dir s.line) ys)) (sym none)
