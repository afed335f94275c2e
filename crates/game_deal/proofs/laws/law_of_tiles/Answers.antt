use Rattle.game_deal.proofs.AllTiles.{allowed_tiles}
use Rattle.game_deal.proofs.laws.law_of_tiles.Goals as goal

pub returns : goal.returns
returns c = allowed_tiles
