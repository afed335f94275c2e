-- What explains a record, or its event on a line.
use Rattle.std.specs.Prelude.{◌≡◌, ℕ, List, [], ◌∷◌, ◌++◌, Option, Some, None}
use Rattle.ref_tiles.specs.declared.rulebook.Rules.{Rules}
use Rattle.gcg_read.specs.declared.events.Event.{Event}
use Rattle.game_turns.specs.Places.{AreAllowed}
use Rattle.game_board.specs.Places.{place_of_line}
use Rattle.explain_answers.specs.Openings.{place_of_fault}
use Rattle.game_case.specs.declared.entries.Entry.{Entry}
use Rattle.game_case.specs.declared.findings.Finding.{Finding}
use Rattle.game_case.specs.declared.findings.Finding.TheVariants as finding
use Rattle.explain_facts.specs.declared.facts.Fact.{Fact}
use Rattle.explain_facts.specs.declared.facts.Fact.TheVariants as fact
use Rattle.explain_facts.specs.declared.facts.games.GameFact.TheVariants as game_fact
use Rattle.explain_facts.specs.Wholes.{AreNotes}
use Rattle.explain_answers.specs.declared.events.Explanation.{Explanation}
use Rattle.engine_stages.specs.declared.verdicts.GameFault.{GameFault}
use Rattle.explain_answers.specs.Events.{SayTheRacks, ExplainsEvent}

-- what is found of a record as a whole
abbrev pub whole_facts : Finding → List Fact
whole_facts finding.NoGame = fact.Game game_fact.NoEvent ∷ []
whole_facts (finding.Legal complete) = fact.Game game_fact.Legal ∷ []
whole_facts (finding.Illegal line why) = []
whole_facts finding.Unsettled = fact.Game game_fact.Unsettled ∷ []

-- after it, for a record whose events the rules allow: its plays that stand with words that are not in the list, its turns that show no rack or a part
-- of it, the last rack that it lacks, and whether the list may be another one
abbrev pub NotesAre : Rules → (list : List (List ℕ)) → List Event → Finding → (notes : List Fact) → Type 0
NotesAre rules list events finding.NoGame notes = notes ≡ []
NotesAre rules list events (finding.Legal complete) notes = AreAllowed rules list events → AreNotes rules list events notes
NotesAre rules list events (finding.Illegal line why) notes = notes ≡ []
NotesAre rules list events finding.Unsettled notes = AreAllowed rules list events → AreNotes rules list events notes

-- the same after other facts
pub record GoOnWithNotes (rules : Rules) (list : List (List ℕ)) (events : List Event) (old new : List Fact) : Type 0 where
  pub notes : List Fact
  pub following : new ≡ old ++ notes
  pub are : AreAllowed rules list events → AreNotes rules list events notes

-- what is said of a record as a whole
pub record AreWholeFacts (rules : Rules) (list : List (List ℕ)) (events : List Event) (found : Finding) (facts : List Fact) : Type 0 where
  pub notes : List Fact
  pub following : facts ≡ whole_facts found ++ notes
  pub reported : NotesAre rules list events found notes

-- what the facts about the event at a place have to say of the racks, if the fault that is found is on its line
abbrev pub SayTheFinding : Rules → (list : List (List ℕ)) → Entry → (place : ℕ) → Explanation → Type 0
SayTheFinding rules list entry place x =
    (line : ℕ) (why : GameFault) → entry.finding ≡ finding.Illegal line why → x.line ≡ Some line
    → SayTheRacks rules list entry.record.events place (Some why) x.facts.items

-- what explains the event at a place, or the record as a whole
abbrev pub ExplainsAt : Rules → (list : List (List ℕ)) → Entry → Option ℕ → Explanation → Type 0
ExplainsAt rules list entry None x = (x.line ≡ None) × AreWholeFacts rules list entry.record.events entry.finding x.facts.items × (x.picture ≡ None)
ExplainsAt rules list entry (Some place) x = ExplainsEvent rules list entry.record.events place x × SayTheFinding rules list entry place x

-- what is explained of an event on a line or after it; none if there is no event
abbrev pub IsExplanationAt : Rules → (list : List (List ℕ)) → Entry → (place : Option ℕ) → Option Explanation → Type 0
IsExplanationAt rules list entry place None = place ≡ None
IsExplanationAt rules list entry None (Some x) = ⊥
IsExplanationAt rules list entry (Some place) (Some x) = ExplainsAt rules list entry (Some place) x

-- What explains an entry: without a line the event that is not allowed, or the record as a whole; with one the first event on it or after it,
-- or that there is none.
abbrev pub IsExplanation : Rules → (list : List (List ℕ)) → Entry → (line : Option ℕ) → Option Explanation → Type 0
IsExplanation rules list entry None None = ⊥
IsExplanation rules list entry None (Some x) = ExplainsAt rules list entry (place_of_fault entry.record.events entry.finding) x
IsExplanation rules list entry (Some line) x = IsExplanationAt rules list entry (place_of_line entry.record.events line) x
