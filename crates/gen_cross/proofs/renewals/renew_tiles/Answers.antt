use Rattle.std.proofs.Common.{arith, get_or}
use Rattle.gen_cross.specs.Values.{no_value}
use Rattle.gen_cross.proofs.PlayTiles.{first_renewed, next_renewed, all_renewed}
use Rattle.gen_cross.proofs.renewals.renew_tiles.Goals as goal

pub loop-placed-init : goal.loop-placed-init
loop-placed-init g c =
    λ words before stands differ right s below.
    first_renewed c.args.rules.now words c.args.dir before c.args.board.now c.args.tiles.now differ s c.law_of_squares.ensures below
    (get_or c.args.values.now s no_value) (right s below)

pub loop-placed-preserved : goal.loop-placed-preserved
loop-placed-preserved g c =
    λ words before stands differ right s below.
    next_renewed c.args.rules.now words c.args.dir before c.args.board.now c.args.tiles.now differ c.requires c.loop-placed.placed-index c.placed-item.result (omega arith) c.placed-item.is
    s below (get_or c.loop-placed.values s no_value) (get_or c.renew_beside.new.values s no_value)
    (λ b size agree is. c.renew_beside.ensures.near words b s stands size below agree is)
    (λ off. c.renew_beside.ensures.far s off)
    (c.loop-placed.invariant words before stands differ right s below)

pub returns : goal.returns
returns g c =
    λ words before stands differ right s below.
    all_renewed c.args.rules.now words c.args.dir before c.args.board.now c.args.tiles.now differ c.loop-placed.placed-index (omega arith)
    s (get_or c.loop-placed.values s no_value) (c.loop-placed.invariant words before stands differ right s below)
