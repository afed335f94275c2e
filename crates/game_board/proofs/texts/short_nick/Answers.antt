use Rattle.std.proofs.Common.{sym, rules, arith}
use Rattle.std.proofs.lemmas.List.{length-take-le, take_all}
use Rattle.game_board.specs.Texts.{short_nick}
use Rattle.game_board.proofs.texts.short_nick.Goals as goal

pub slice_bounds-result-end : goal.slice_bounds-result-end
slice_bounds-result-end c = sym (length-take-le 60 c.args.nick.now (search (rules, arith)))

pub returns-else-nick-gt-NICK : goal.returns-else-nick-gt-NICK
unfolding short_nick
returns-else-nick-gt-NICK c = sym (take_all 60 c.args.nick.now (search (rules, arith)))
