use Rattle.std.proofs.Common.{◌≡◌, rules}
use Rattle.ref_play.specs.Notations.{text_on, notation_of}
use Rattle.ref_play.proofs.writing.notation.Goals as goal

pub returns : goal.returns
unfolding notation_of
returns c =
    let word : c.text_on.result.items ≡ text_on c.args.play.now.tiles.items c.run_written-run.result = search rules in
    rw c.run_written-run.ensures.run (cc)
