use Rattle.std.proofs.Common.{◌+◌, ◌++◌, ap, ◌∙◌}
use Rattle.game_board.specs.Texts.{counted_kind, kinds_text}
use Rattle.game_board.proofs.Lines.{kinds_none, kinds_more, none_yet, longer}
use Rattle.game_board.proofs.texts.push_kinds.Goals as goal

pub loop-k-init : goal.loop-k-init
loop-k-init c = none_yet c.args.text.now.items (kinds_text c.args.rules.now c.args.board.now c.args.first 0) (kinds_none c.args.rules.now c.args.board.now c.args.first)

pub loop-k-preserved : goal.loop-k-preserved
loop-k-preserved c =
    longer _ _ _ _ _ _ (kinds_more c.args.rules.now c.args.board.now c.args.first c.loop-k.k) c.loop-k.invariant
    (c.in_ok-push_kind.ensures ∙ ap (λ off. c.loop-k.text.items ++ counted_kind (c.args.first + c.loop-k.k) off) c.off_board.ensures.number)
