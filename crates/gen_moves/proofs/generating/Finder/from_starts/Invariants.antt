use Rattle.std.proofs.Common.{◌≡◌, take}
use Rattle.std.specs.List.{flat_map}
use Rattle.gen_line.specs.Walk.{add_all}
use Rattle.gen_moves.specs.Reporting.{both_cells}
use Rattle.gen_moves.specs.Starts.{given_from}
use Rattle.gen_moves.proofs.generating.Finder.from_starts.Given as goal

-- the plays of the starts passed
abbrev pub invariant-loop-number : goal.invariant-loop-number
invariant-loop-number g l = record {
  made_for : g.S.Sink.made_for l.sink ≡ g.S.Sink.made_for l.initial.sink;
  took : g.S.Sink.items l.sink ≡ add_all (g.S.Sink.add (g.S.Sink.made_for l.initial.sink)) (g.S.Sink.items l.initial.sink)
      (flat_map (given_from l.self.rules.now l.self.board.now (g.L.PathLex.language l.self.lex.now) (both_cells l.self.across.now l.self.down.now) l.self.rack.now) (take l.number l.starts));
}
