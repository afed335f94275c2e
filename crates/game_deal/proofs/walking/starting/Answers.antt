use Rattle.std.proofs.Common.{ap, ◌∙◌}
use Rattle.game_turns.specs.Tallies.{tally}
use Rattle.std.specs.Prelude.{false, []}
use Rattle.game_turns.proofs.PlaceLaws.{start_tally}
use Rattle.game_deal.proofs.walking.starting.Goals as goal

pub returns : goal.returns
returns c =
    let passed = c.args.passed.now in
    record {
      rules = c.new.ensures.rules ∙ c.rules.ensures;
      state = c.new.ensures.state ∙ ap (λ rules. tally rules false []) c.rules.ensures ∙ start_tally passed.rules.now passed.record.now.events;
    }
