-- What explains an event of a record.
use Rattle.std.specs.List.{list_any}
use Rattle.std.specs.Prelude.{⊤, ◌≡◌, ◌⊎◌, ℕ, ◌+◌, ◌<◌, true, List, [], ◌∷◌, All, length, slice_get, Option, Some, None}
use Rattle.ref_tiles.specs.declared.tiles.Tile.{Tile}
use Rattle.ref_tiles.specs.declared.rulebook.Rules.{Rules}
use Rattle.gcg_read.specs.declared.events.Event.{Event}
use Rattle.gcg_read.specs.declared.events.EventKind.{EventKind}
use Rattle.gcg_read.specs.declared.events.EventKind.TheVariants as kind
use Rattle.game_turns.specs.declared.faults.RuleFault.{RuleFault}
use Rattle.game_turns.specs.Places.{AreAllowed, AreAllowedTo, IsRefusedBefore, fault_at}
use Rattle.game_turns.specs.Tallies.{is_play}
use Rattle.deal_steps.specs.declared.steps.Step.{Step}
use Rattle.deal_steps.specs.declared.faults.DealBound.{DealBound}
use Rattle.deal_steps.specs.declared.faults.DealBound.TheVariants as bound
use Rattle.engine_stages.specs.declared.verdicts.GameFault.{GameFault}
use Rattle.engine_stages.specs.declared.verdicts.GameFault.TheVariants as game
use Rattle.game_deal.specs.Recorded.{steps_of}
use Rattle.game_board.specs.Laying.{board_before, laying_fault}
use Rattle.ref_play.specs.declared.faults.PlayFault.{PlayFault}
use Rattle.explain_facts.specs.declared.facts.Fact.{Fact}
use Rattle.explain_facts.specs.declared.facts.Fact.TheVariants as fact
use Rattle.explain_facts.specs.declared.facts.rulings.RulingFact.{RulingFact}
use Rattle.explain_facts.specs.declared.facts.rulings.RulingFact.TheVariants as ruling_fact
use Rattle.explain_clues.specs.declared.plays.ScoredPlay.{ScoredPlay}
use Rattle.explain_facts.specs.Moments.{Moment, IsMomentAt}
use Rattle.explain_facts.specs.Facts.{IsTrue}
use Rattle.explain_facts.specs.FaultFacts.{begin_with, is_fact_of_bound, says_bound, IsFirstBoundAt}
use Rattle.explain_facts.specs.Facts.{IsTrueOfRacks}
use Rattle.explain_clues.specs.Plays.{IsScoredText}
use Rattle.explain_clues.specs.Boards.{shown_squares}
use Rattle.explain_answers.specs.declared.events.Explanation.{Explanation}
use Rattle.explain_answers.specs.declared.events.Picture.{Picture}
use Rattle.explain_answers.specs.declared.events.Picture.TheVariants as picture
use Rattle.explain_answers.specs.declared.events.Shown.{Shown}

-- ---- facts

-- what is true of the event at a place where the rules do not refuse it: that an earlier event is the first that they refuse, or that they allow it and
-- those before it
abbrev pub IsRulingTrue : Rules → (list : List (List ℕ)) → List Event → (place : ℕ) → RulingFact → Type 0
IsRulingTrue rules list events place (ruling_fact.NotJudged refused) = (why : RuleFault) × IsRefusedBefore rules list events place refused why
IsRulingTrue rules list events place ruling_fact.Allowed = AreAllowedTo rules list events (place + 1)

-- what is true of it besides why the rules refuse it: whether they allow it, or what is wrong with the racks
abbrev pub IsTrueBeside : Rules → (list : List (List ℕ)) → List Event → (place : ℕ) → Fact → Type 0
IsTrueBeside rules list events place (fact.Ruling said) = IsRulingTrue rules list events place said
IsTrueBeside rules list events place rest = IsTrueOfRacks rules (steps_of rules events) place rest

-- a fact is true of the event at a place of a record, counted from 0
abbrev pub IsTrueAt : Rules → (list : List (List ℕ)) → List Event → (place : ℕ) → Fact → Type 0
IsTrueAt rules list events place said = ((m : Moment) × IsMomentAt rules list events place m × IsTrue m said) ⊎ IsTrueBeside rules list events place said

-- What the facts about the event at a place have to say. If it is the first event that the rules refuse, they begin with the fact of the fault. If
-- the rules refuse an earlier one, they say that it was not judged, and nothing else. There is always one.
pub record SayTheRuling (rules : Rules) (list : List (List ℕ)) (events : List Event) (place : ℕ) (facts : List Fact) : Type 0 where
  pub refused : (why : RuleFault) → AreAllowedTo rules list events place → fault_at rules list events place ≡ Some why → begin_with why facts ≡ true
  pub following : (line : ℕ) (why : RuleFault) → IsRefusedBefore rules list events place line why → facts ≡ fact.Ruling (ruling_fact.NotJudged line) ∷ []
  pub some : 0 < length facts

-- the fact of the bound that a fault of the racks names is found, if that is the first bound that the steps exceed, and they do at the place
abbrev pub IsFoundFor : Rules → List Step → (place : ℕ) → GameFault → Option Fact → Type 0
IsFoundFor rules steps place (game.Rule why) said = ⊤
IsFoundFor rules steps place game.RackTooBig said =
    (line : ℕ) → IsFirstBoundAt rules steps place (bound.RackTooBig line) → says_bound (bound.RackTooBig line) said ≡ true
IsFoundFor rules steps place (game.TilesShort kind) said =
    (line : ℕ) → IsFirstBoundAt rules steps place (bound.TilesShort line kind) → says_bound (bound.TilesShort line kind) said ≡ true
IsFoundFor rules steps place (game.NoDeal earlier) said = ⊤

-- What the facts about the event at a place have to say of its racks: if the rules allow every event, and this is the first bound that the steps exceed, and
-- they do at the place, one of the facts says so.
abbrev pub SayTheBound : Rules → (list : List (List ℕ)) → List Event → (place : ℕ) → DealBound → List Fact → Type 0
SayTheBound rules list events place exceeded facts =
    AreAllowed rules list events → IsFirstBoundAt rules (steps_of rules events) place exceeded → list_any (is_fact_of_bound exceeded) facts ≡ true

-- the same for the fault of the racks that is to be explained
abbrev pub SayTheRacks : Rules → (list : List (List ℕ)) → List Event → (place : ℕ) → Option GameFault → List Fact → Type 0
SayTheRacks rules list events place None facts = ⊤
SayTheRacks rules list events place (Some (game.Rule why)) facts = ⊤
SayTheRacks rules list events place (Some game.RackTooBig) facts = (line : ℕ) → SayTheBound rules list events place (bound.RackTooBig line) facts
SayTheRacks rules list events place (Some (game.TilesShort kind)) facts = (line : ℕ) → SayTheBound rules list events place (bound.TilesShort line kind) facts
SayTheRacks rules list events place (Some (game.NoDeal earlier)) facts = ⊤

-- ---- what is shown

-- the words of a play on a board; other events have none
abbrev pub IsPlayShown : Rules → (list : List (List ℕ)) → (board : List (Option Tile)) → EventKind → Option ScoredPlay → Type 0
IsPlayShown rules list board (kind.Play at dir word) play = IsScoredText rules list board dir at word play
IsPlayShown rules list board rest play = play ≡ None

-- a board with the squares of the event's play marked, and the words of the play on it
pub record IsShown (rules : Rules) (list : List (List ℕ)) (board : List (Option Tile)) (what : EventKind) (shown : Shown) : Type 0 where
  pub squares : shown.squares.items ≡ shown_squares rules board what
  pub marked : shown.is_play ≡ is_play what
  pub play : IsPlayShown rules list board what shown.play

-- an event before a place whose play cannot be laid
pub record IsNotLaid (events : List Event) (place line : ℕ) : Type 0 where
  pub end : ℕ
  pub event : Event
  pub why : PlayFault
  pub before : end < place
  pub stands : slice_get events end ≡ Some event
  pub on_line : event.line ≡ line
  pub fails : laying_fault events end ≡ Some why

-- the board before the event at a place, or the line of an earlier play that cannot be laid
abbrev pub IsPicture : Rules → (list : List (List ℕ)) → List Event → (place : ℕ) → EventKind → Option Picture → Type 0
IsPicture rules list events place what None = ⊥
IsPicture rules list events place what (Some (picture.Shown shown)) = IsShown rules list (board_before events place) what shown
IsPicture rules list events place what (Some (picture.Unknown line)) = IsNotLaid events place line

-- ---- the explanation

-- what explains the event at a place
pub record ExplainsEvent (rules : Rules) (list : List (List ℕ)) (events : List Event) (place : ℕ) (x : Explanation) : Type 0 where
  pub event : Event
  pub stands : slice_get events place ≡ Some event
  pub on_line : x.line ≡ Some event.line
  pub facts : All (IsTrueAt rules list events place) x.facts.items
  pub ruling : SayTheRuling rules list events place x.facts.items
  pub shown : IsPicture rules list events place event.kind x.picture
