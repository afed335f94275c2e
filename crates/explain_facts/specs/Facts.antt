-- What is true of an event in its place, and of the racks up to it, family by family.
use Rattle.std.specs.Prelude.{ℕ, List}
use Rattle.ref_tiles.specs.declared.rulebook.Rules.{Rules}
use Rattle.deal_steps.specs.declared.steps.Step.{Step}
use Rattle.explain_facts.specs.declared.facts.Fact.{Fact}
use Rattle.explain_facts.specs.declared.facts.Fact.TheVariants as fact
use Rattle.explain_facts.specs.Moments.{Moment}
use Rattle.explain_facts.specs.Turns.{IsTurnTrue}
use Rattle.explain_facts.specs.Orders.{IsOrderTrue}
use Rattle.explain_facts.specs.PlayFaults.{IsPlayTrue}
use Rattle.explain_facts.specs.Scores.{IsScoreTrue}
use Rattle.explain_facts.specs.Readings.{IsReadingTrue}
use Rattle.explain_facts.specs.Totals.{IsTotalTrue}
use Rattle.explain_facts.specs.Challenges.{IsChallengeTrue}
use Rattle.explain_facts.specs.Tiles.{IsTileTrue}
use Rattle.explain_facts.specs.Racks.{IsRackTrue}
use Rattle.explain_facts.specs.Deals.{IsDealTrue}

-- What is true of an event in its place. Facts about a record as a whole, about what the rules say of an event and about racks and deals are defined
-- elsewhere.
abbrev pub IsTrue : Moment → Fact → Type 0
IsTrue m (fact.Game said) = ⊥
IsTrue m (fact.Ruling said) = ⊥
IsTrue m (fact.Turn said) = IsTurnTrue m said
IsTrue m (fact.Order said) = IsOrderTrue m said
IsTrue m (fact.Play said) = IsPlayTrue m said
IsTrue m (fact.Score said) = IsScoreTrue m said
IsTrue m (fact.Reading said) = IsReadingTrue m said
IsTrue m (fact.Total said) = IsTotalTrue m said
IsTrue m (fact.Challenge said) = IsChallengeTrue m said
IsTrue m (fact.Tile said) = IsTileTrue m said
IsTrue m (fact.Rack said) = ⊥
IsTrue m (fact.Deal said) = ⊥

-- What is true of the racks up to the step at a place. All other facts are not about racks.
abbrev pub IsTrueOfRacks : Rules → List Step → (place : ℕ) → Fact → Type 0
IsTrueOfRacks rules steps place (fact.Rack said) = IsRackTrue rules steps place said
IsTrueOfRacks rules steps place (fact.Deal said) = IsDealTrue rules steps place said
IsTrueOfRacks rules steps place other = ⊥
