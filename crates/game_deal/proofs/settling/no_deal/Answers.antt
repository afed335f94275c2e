use Rattle.std.proofs.Common.{ap, ◌∙◌}
use Rattle.std.specs.Prelude.{vec_len}
use Rattle.gcg_read.specs.declared.records.Record.{Record}
use Rattle.game_turns.specs.declared.passed.Passed.{Passed}
use Rattle.game_turns.specs.Passing.{record_in}
use Rattle.game_deal.specs.Needing.{passed_of}
use Rattle.game_deal.proofs.SettledRecords.{ends_on}
use Rattle.game_deal.proofs.settling.no_deal.Goals as goal

pub returns : goal.returns
returns c =
    let same = c.as_slice-events.ensures ∙ ap (λ (r : Record). r.events) c.record.ensures.record ∙ ap (λ (p : Passed). (record_in p).events) c.passed.ensures.passed in
    ends_on (passed_of c.args.needs.now) c.as_slice-events.result.now (vec_len c.args.cut.now.places) c.last_place-place.result c.args.earlier c.index-events-place.result c.requires.ends
    c.requires.known c.last_place-place.ensures same c.index-events-place.is
