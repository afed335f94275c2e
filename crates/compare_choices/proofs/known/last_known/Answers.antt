use Rattle.std.proofs.Common.{length, refl, ap, ◌∙◌}
use Rattle.std.proofs.lemmas.Option.{slice_get_read}
use Rattle.gcg_drafts.specs.declared.missing.Missing.{Missing}
use Rattle.compare_choices.specs.Known.{with_line}
use Rattle.compare_choices.proofs.LastLines.{one_more_line}
use Rattle.compare_choices.proofs.known.last_known.Goals as goal

pub loop-place-preserved : goal.loop-place-preserved
loop-place-preserved c =
    let e = c.index-events-place.result in
    let there = slice_get_read c.args.events.now (length c.args.events.now) c.loop-place.place e refl c.loop-place-test.true c.index-events-place.is in
    let noted = c.with_line-last.ensures ∙ ap (λ (m : Missing). with_line c.loop-place.last c.args.player m e) c.lack_at-missing.ensures in
    one_more_line c.loop-place.last c.with_line-last.result _ c.args.player c.loop-place.place c.args.lacks.now c.args.events.now e there noted c.loop-place.invariant
