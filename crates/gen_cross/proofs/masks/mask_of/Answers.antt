use Rattle.gen_cross.proofs.MaskLaws.{mask_walked}
use Rattle.gen_cross.proofs.masks.mask_of.Goals as goal

pub returns : goal.returns
returns g c =
    λ words d stands is.
    mask_walked words (g.L.PathLex.language c.args.lex.now) stands d c.args.board.now c.args.square c.args.run.now is c.requires.run c.requires.long c.letters_between.result
    c.line-line.result c.place-place.result c.place-first.result c.line-line.ensures.line c.place-place.ensures.place c.place-first.ensures.place c.letters_between.ensures
