use Rattle.game_known.proofs.TableLaws.{nothing_known}
use Rattle.game_known.proofs.known.KnownBests.new.Goals as goal

pub returns : goal.returns
returns c = λ by list. nothing_known by list _ c.loop.invariant
