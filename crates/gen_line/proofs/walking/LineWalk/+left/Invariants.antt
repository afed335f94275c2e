use Rattle.std.proofs.Common.{◌≡◌, ◌≤◌, ◌+◌, ◌-◌, ◌*◌}
use Rattle.gen_line.specs.Model.{join_range}
use Rattle.lex_file.specs.Lexicons.{IsRemaining}
use Rattle.lex_file.specs.Walking.{strings}
use Rattle.gen_line.specs.Walk.{add_all, gives_one_left}
use Rattle.gen_line.proofs.walking.LineWalk.+left.Given as goal

abbrev pub decreases-left : goal.decreases-left
decreases-left g l = 4 * l.places

abbrev pub decreases-tries_left : goal.decreases-tries_left
decreases-tries_left g l = 4 * l.place + 3

abbrev pub decreases-letter_left : goal.decreases-letter_left
decreases-letter_left g l = 4 * l.place + 2

abbrev pub decreases-one_left : goal.decreases-one_left
decreases-one_left g l = 4 * l.place + 1

abbrev pub invariant-tries_left-loop-on : goal.invariant-tries_left-loop-on
invariant-tries_left-loop-on g l = record {
  low : 1 ≤ l.from;
  high : l.from ≤ 27;
  rest : IsRemaining (g.L.PathLex.is_rest l.self.lex.now) l.node l.from l.rest;
  made_for : g.T.Taker.made_for l.sink ≡ g.T.Taker.made_for l.initial.sink;
  took : g.T.Taker.items l.sink ≡ add_all (g.T.Taker.report l.self.taker.now (g.T.Taker.made_for l.initial.sink)) (g.T.Taker.items l.initial.sink)
      (join_range (gives_one_left (strings (g.L.PathLex.tail l.self.lex.now) l.fn.at) l.self.line.now l.self.last l.place l.free l.tiles) 1 (2 * (l.from - 1)));
}

abbrev pub decreases-tries_left-loop-on : goal.decreases-tries_left-loop-on
decreases-tries_left-loop-on g l = 27 - l.from
