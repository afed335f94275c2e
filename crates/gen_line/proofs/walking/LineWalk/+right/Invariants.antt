use Rattle.std.proofs.Common.{◌≡◌, ◌≤◌, ◌+◌, ◌-◌, ◌*◌}
use Rattle.gen_line.specs.Model.{join_range}
use Rattle.lex_file.specs.Lexicons.{IsRemaining}
use Rattle.lex_file.specs.Walking.{strings}
use Rattle.gen_line.specs.Walk.{add_all, gives_one_right}
use Rattle.gen_line.proofs.walking.LineWalk.+right.Given as goal

abbrev pub decreases-right : goal.decreases-right
decreases-right g l = 4 * (15 - l.place) + 3

abbrev pub decreases-tries_right : goal.decreases-tries_right
decreases-tries_right g l = 4 * (15 - l.place) + 2

abbrev pub decreases-letter_right : goal.decreases-letter_right
decreases-letter_right g l = 4 * (15 - l.place) + 1

abbrev pub decreases-one_right : goal.decreases-one_right
decreases-one_right g l = 4 * (15 - l.place)

abbrev pub invariant-tries_right-loop-on : goal.invariant-tries_right-loop-on
invariant-tries_right-loop-on g l = record {
  low : 1 ≤ l.from;
  high : l.from ≤ 27;
  rest : IsRemaining (g.L.PathLex.is_rest l.self.lex.now) l.node l.from l.rest;
  made_for : g.T.Taker.made_for l.sink ≡ g.T.Taker.made_for l.initial.sink;
  took : g.T.Taker.items l.sink ≡ add_all (g.T.Taker.report l.self.taker.now (g.T.Taker.made_for l.initial.sink)) (g.T.Taker.items l.initial.sink)
      (join_range (gives_one_right (strings (g.L.PathLex.tail l.self.lex.now) l.fn.at) l.self.line.now l.place l.free l.tiles) 1 (2 * (l.from - 1)));
}

abbrev pub decreases-tries_right-loop-on : goal.decreases-tries_right-loop-on
decreases-tries_right-loop-on g l = 27 - l.from
