use Rattle.std.proofs.Common.{◌≡◌, List, subst}
use Rattle.std.specs.Prelude.{IfOk}
use Rattle.gcg_read.specs.declared.events.Event.{Event}
use Rattle.compare_alignments.specs.declared.pairs.Pair.{Pair}
use Rattle.compare_alignments.specs.Merging.{merged}
use Rattle.compare_choices.specs.Choices.{choice_events}
use Rattle.compare_choices.proofs.sheets.Sheets.events.Goals as goal

pub returns : goal.returns
unfolding choice_events
returns c =
    let s = c.args.self.now in
    subst (λ (xs : List Event). IfOk c.merge.result (λ (events : List Event). events ≡ merged s.owner c.args.whose c.args.choice xs s.second.events s.pairs.items)) c.as_slice.ensures
    (subst (λ (xs : List Event). IfOk c.merge.result (λ (events : List Event). events ≡ merged s.owner c.args.whose c.args.choice c.as_slice.result.now xs s.pairs.items)) c.as_slice-2.ensures
    (subst (λ (xs : List Pair). IfOk c.merge.result (λ (events : List Event). events ≡ merged s.owner c.args.whose c.args.choice c.as_slice.result.now c.as_slice-2.result.now xs)) c.as_slice-3.ensures.value
    c.merge.ensures))
