-- Whose turn it is, and whether there are any more.
use Rattle.std.specs.Prelude.{◌≡◌, ◌<◌, true, false, Some, None}
use Rattle.gcg_read.specs.Players.{same_seat, other_seat}
use Rattle.game_turns.specs.Seats.{side_of}
use Rattle.game_turns.specs.Tallies.{is_last_rack}
use Rattle.explain_facts.specs.declared.facts.turns.TurnFact.{TurnFact}
use Rattle.explain_facts.specs.declared.facts.turns.TurnFact.TheVariants as turn_fact
use Rattle.explain_facts.specs.Moments.{Moment}

-- what each fact about turns says is true at the moment
abbrev pub IsTurnTrue : Moment → TurnFact → Type 0
IsTurnTrue m (turn_fact.OthersTurn player other) = (player ≡ m.event.player) × (other ≡ other_seat player) × (m.before.mover ≡ Some other)
IsTurnTrue m (turn_fact.OthersLine player out) =
    (is_last_rack m.event.kind ≡ true) × (player ≡ m.event.player) × (m.before.out ≡ Some out) × (same_seat out player ≡ false)
IsTurnTrue m turn_fact.Complete = m.before.complete ≡ true
IsTurnTrue m (turn_fact.Out out holder) = (m.before.complete ≡ false) × (m.before.out ≡ Some out) × (holder ≡ other_seat out)
IsTurnTrue m (turn_fact.RackLost player holder) = (m.before.complete ≡ false) × ((side_of m.before.sides player).ended ≡ true) × (holder ≡ other_seat player)
IsTurnTrue m (turn_fact.NoRackDue limit turns) = (limit ≡ m.rules.zero_limit) × (turns ≡ m.before.zero_run) × (m.before.out ≡ None) × (turns < limit)
