use Rattle.std.proofs.Common.{◌∙◌}
use Rattle.gen_line.proofs.Walks.{may-here, may-nowhere}
use Rattle.gen_line.proofs.tiles.Tiles.allow.Goals as goal

pub returns-then-self-from-gt0 : goal.returns-then-self-from-gt0
returns-then-self-from-gt0 c = may-here _ _ _ _ _ (c.from.ensures ∙ c.kind.ensures) (c.from-then-self-from-gt0.ensures ∙ c.letter.ensures) c.if-self-from-gt0.true

pub returns-else-self-from-gt0 : goal.returns-else-self-from-gt0
returns-else-self-from-gt0 c = may-nowhere _ _ _ _ (c.from.ensures ∙ c.kind.ensures) c.if-self-from-gt0.false
