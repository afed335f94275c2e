use Rattle.std.proofs.Common.{rules}
use Rattle.std.proofs.lemmas.Bool.{both_ways}
use Rattle.ref_board.proofs.AnchorLaws.{anchor_reported}
use Rattle.ref_board.proofs.boards.Board.is_anchor.Goals as goal

pub returns-else-opens_at : goal.returns-else-opens_at
returns-else-opens_at c =
    anchor_reported c.args.self.now c.args.square c.touches.result (search rules) (search rules) (search rules) c.touches.ensures
    (λ h. both_ways c.opens_at.result c.if-opens_at.false (c.opens_at.ensures.1 h))
