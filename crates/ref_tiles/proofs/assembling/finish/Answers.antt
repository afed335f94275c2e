use Rattle.std.proofs.Common.{refl, sym, ◌∙◌}
use Rattle.ref_tiles.proofs.PartLimits.{within}
use Rattle.ref_tiles.proofs.assembling.finish.Goals as goal

pub returns : goal.returns
returns c =
    within c.args.draft.now c.in-Some.parts c.in-Some-checked.rules (sym c.is_whole.ensures ∙ c.if-not-is_whole.false) c.in-Some.ensures.parts (c.in-Some-checked.ensures.limits.0 refl)
    c.in-Some-checked.ensures.parts
