use Rattle.std.proofs.Common.{sym, ap, ◌∙◌}
use Rattle.std.specs.Prelude.{Some}
use Rattle.ref_play.specs.Texts.{tile_of}
use Rattle.ref_play.proofs.TextLemmas.{tile_of_blank}
use Rattle.ref_play.proofs.texts.tile_of.Goals as goal

pub returns-in-Blank : goal.returns-in-Blank
returns-in-Blank c =
    ap Some c.of_blank.ensures ∙ (sym (tile_of_blank c.args.cell c.in-Blank.letter (sym c.is_some.ensures ∙ c.if-is_some.false)) ∙ ap (λ s. tile_of c.args.cell s) (sym c.in-Blank.is))
