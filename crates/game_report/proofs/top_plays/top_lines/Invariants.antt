use Rattle.std.proofs.Common.{◌≡◌, take, map}
use Rattle.std.specs.List.{flat_map}
use Rattle.gen_sinks.specs.Sinks.{seen_pair}
use Rattle.game_report.specs.TopPlays.{play_line}
use Rattle.game_report.proofs.top_plays.top_lines.Given as goal

abbrev pub invariant-loop-scored : goal.invariant-loop-scored
invariant-loop-scored l = l.text.items ≡ flat_map (play_line l.board) (map seen_pair (take l.scored-index l.plays))
