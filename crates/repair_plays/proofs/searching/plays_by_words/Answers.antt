use Rattle.std.proofs.Common.{None}
use Rattle.repair_plays.proofs.Legal.{all_taken}
use Rattle.repair_plays.proofs.searching.plays_by_words.Goals as goal

pub returns : goal.returns
returns g c =
    let found = c.in_ok-generate.ensures.all in
    all_taken c.args.rules.now g.words c.args.board.now c.args.rack.now found.0 None _ _ found.1 c.new-all.ensures found.2
