-- What is said about a record whose events the rules allow: which plays stand with words that are not in the list, which turns show no
-- rack or only a part of it, which last rack is missing, and whether the list may be another one.
use Rattle.std.specs.Prelude.{◌≡◌, ℕ, zero, suc, ◌+◌, ◌&&◌, nat_lt, nat_le, sum, Bool, true, false, List, [], ◌∷◌, ◌++◌, length, map, slice_get, Option, Some, None, is_none, if◌then◌else◌}
use Rattle.ref_tiles.specs.declared.rulebook.Rules.{Rules}
use Rattle.gcg_read.specs.declared.events.Seat.{Seat}
use Rattle.gcg_read.specs.declared.events.Seat.TheVariants.{First, Second}
use Rattle.gcg_read.specs.Players.{other_seat}
use Rattle.game_turns.specs.Seats.{side_of}
use Rattle.gcg_read.specs.declared.events.Event.{Event}
use Rattle.gcg_read.specs.declared.events.EventKind.{EventKind}
use Rattle.gcg_read.specs.declared.events.EventKind.TheVariants as kind
use Rattle.game_turns.specs.Tallies.{State, tally_at}
use Rattle.game_turns.specs.LatestEvents.{standing_words}
use Rattle.explain_facts.specs.declared.facts.Fact.{Fact}
use Rattle.explain_facts.specs.declared.facts.Fact.TheVariants as fact
use Rattle.explain_facts.specs.declared.facts.games.GameFact.TheVariants as game_fact
use Rattle.explain_facts.specs.declared.facts.turns.TurnFact.TheVariants as turn_fact
use Rattle.explain_facts.specs.declared.facts.games.UnlistedPlay.{UnlistedPlay}
use Rattle.explain_facts.specs.declared.facts.games.RackPart.{RackPart}
use Rattle.game_turns.specs.Unlisted.{letters_in, unlisted_of}

-- ---- plays that stand with words that are not in the list

-- what contracts see of such a play: its line, its player, and those of its words that are not in the list
pub record UnlistedValue : Type 0 where
  pub line : ℕ
  pub player : Seat
  pub words : List (List ℕ)

abbrev pub play_in : UnlistedPlay → UnlistedValue
play_in p = record { line = p.line; player = p.player; words = letters_in p.words.items }

abbrev pub play_with : Event → (words : List (List ℕ)) → List UnlistedValue
play_with e [] = []
play_with e (word ∷ words) = record { line = e.line; player = e.player; words = word ∷ words } ∷ []

-- an event, if it is a play that stands with such words, by the state after it
abbrev pub unlisted_play : (list : List (List ℕ)) → (following : State) → Option Event → List UnlistedValue
unlisted_play list following None = []
unlisted_play list following (Some e) = play_with e (unlisted_of list (standing_words following.latest))

-- those among the first `many` events of a record
abbrev pub unlisted_to : Rules → (list : List (List ℕ)) → List Event → (many : ℕ) → List UnlistedValue
unlisted_to rules list events zero = []
unlisted_to rules list events (suc many) = unlisted_to rules list events many ++ unlisted_play list (tally_at rules events (many + 1)) (slice_get events many)

-- the number of these words
abbrev pub words_in : List UnlistedValue → ℕ
words_in [] = 0
words_in (p ∷ plays) = length p.words + words_in plays

-- that the list may be another one
abbrev pub other_list : (so : Bool) → List Fact
other_list so = if so then fact.Game game_fact.OtherList ∷ [] else []

-- this is said if there are ten of them or more
abbrev pub list_facts : (many : ℕ) → List Fact
list_facts many = other_list (nat_le 10 many)

-- ---- turns without a rack, or with a part of it

-- whether the line of an event may show a rack: that of a play, of an exchange, or of a pass before a player is out
abbrev pub may_show : (out : Option Seat) → EventKind → Bool
may_show out (kind.Play at dir word) = true
may_show out kind.Pass = is_none out
may_show out (kind.Exchange tiles) = true
may_show out (kind.ExchangeUnknown n) = true
may_show out other = false

abbrev pub one_where : Bool → (line : ℕ) → List ℕ
one_where so line = if so then line ∷ [] else []

-- the line of an event that may show a rack, by the state before it, and the line of one that shows none
abbrev pub turn_line : (before : State) → Option Event → List ℕ
turn_line before None = []
turn_line before (Some e) = one_where (may_show before.out e.kind) e.line

abbrev pub hidden_line : (before : State) → Option Event → List ℕ
hidden_line before None = []
hidden_line before (Some e) = one_where (may_show before.out e.kind && is_none e.rack) e.line

-- the rack of an event that may show one, if it shows fewer tiles than its player has
abbrev pub part_by : (shows : Bool) → (has : ℕ) → Event → Option (List ℕ) → List RackPart
part_by shows has e None = []
part_by shows has e (Some tiles) =
    if shows && nat_lt (sum tiles) has then record { line = e.line; player = e.player; shown = sum tiles; has = has } ∷ [] else []

abbrev pub part_line : (before : State) → Option Event → List RackPart
part_line before None = []
part_line before (Some e) = part_by (may_show before.out e.kind) (side_of before.sides e.player).rack e e.rack

-- those among the first `many` events of a record
abbrev pub turns_to : Rules → List Event → (many : ℕ) → List ℕ
turns_to rules events zero = []
turns_to rules events (suc many) = turns_to rules events many ++ turn_line (tally_at rules events many) (slice_get events many)

abbrev pub hidden_to : Rules → List Event → (many : ℕ) → List ℕ
hidden_to rules events zero = []
hidden_to rules events (suc many) = hidden_to rules events many ++ hidden_line (tally_at rules events many) (slice_get events many)

abbrev pub parts_to : Rules → List Event → (many : ℕ) → List RackPart
parts_to rules events zero = []
parts_to rules events (suc many) = parts_to rules events many ++ part_line (tally_at rules events many) (slice_get events many)

-- ---- what a record lacks that ends too early

-- once a player is out, or has lost the points of a rack, the other player's last rack, until the game is complete
abbrev pub due_by : (complete : Bool) → (out : Option Seat) → (first second : Bool) → List Fact
due_by true out first second = []
due_by false (Some out) first second = fact.Turn (turn_fact.Out out (other_seat out)) ∷ []
due_by false None true second = fact.Turn (turn_fact.RackLost First Second) ∷ []
due_by false None false true = fact.Turn (turn_fact.RackLost Second First) ∷ []
due_by false None false false = []

abbrev pub due_facts : State → List Fact
due_facts s = due_by s.complete s.out s.sides.first.ended s.sides.second.ended

-- ---- each fact

-- all plays of a record that stand with words that are not in the list
abbrev pub ReportsUnlisted : Rules → (list : List (List ℕ)) → List Event → Fact → Type 0
ReportsUnlisted rules list events (fact.Game (game_fact.Unlisted plays)) = map play_in plays.items ≡ unlisted_to rules list events (length events)
ReportsUnlisted rules list events other = ⊥

-- all its turns that show no rack, all that show only a part of it, and the number of turns
abbrev pub ReportsHidden : Rules → List Event → Fact → Type 0
ReportsHidden rules events (fact.Game (game_fact.RacksHidden lines parts turns)) =
    (lines.items ≡ hidden_to rules events (length events)) × (parts.items ≡ parts_to rules events (length events))
    × (turns ≡ length (turns_to rules events (length events)))
ReportsHidden rules events other = ⊥

-- what is said about a record whose events the rules allow
pub record AreNotes (rules : Rules) (list : List (List ℕ)) (events : List Event) (notes : List Fact) : Type 0 where
  pub unlisted : Fact
  pub hidden : Fact
  pub all : notes ≡ unlisted ∷ (list_facts (words_in (unlisted_to rules list events (length events))) ++ hidden ∷ due_facts (tally_at rules events (length events)))
  pub plays : ReportsUnlisted rules list events unlisted
  pub racks : ReportsHidden rules events hidden

-- it is said after other facts
pub record AddsNotes (rules : Rules) (list : List (List ℕ)) (events : List Event) (old new : List Fact) : Type 0 where
  pub notes : List Fact
  pub following : new ≡ old ++ notes
  pub are : AreNotes rules list events notes
