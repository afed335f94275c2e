use Rattle.std.proofs.Common.{rules}
use Rattle.ref_play.specs.Texts.{is_open_ended}
use Rattle.ref_play.proofs.texts.is_open_ended.Goals as goal

pub returns-else-follows_tile : goal.returns-else-follows_tile
unfolding is_open_ended
returns-else-follows_tile c = search rules
