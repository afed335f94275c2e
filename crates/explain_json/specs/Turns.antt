-- Facts about turns, the order of lines and whether the rules allow an event, as objects.
use Rattle.std.specs.Prelude.{ℕ, ℤ, List, [], ◌∷◌, codes}
use Rattle.json.specs.Json.{Json}
use Rattle.json_trees.specs.Values.{count, integer, object_of}
use Rattle.gcg_read.specs.declared.events.Seat.{Seat}
use Rattle.explain_facts.specs.declared.facts.turns.TurnFact.{TurnFact}
use Rattle.explain_facts.specs.declared.facts.turns.TurnFact.TheVariants as turn
use Rattle.explain_facts.specs.declared.facts.orders.OrderFact.{OrderFact}
use Rattle.explain_facts.specs.declared.facts.orders.OrderFact.TheVariants as order
use Rattle.explain_facts.specs.declared.facts.rulings.RulingFact.{RulingFact}
use Rattle.explain_facts.specs.declared.facts.rulings.RulingFact.TheVariants as ruling
use Rattle.json_base.specs.Words.{player_number}
use Rattle.explain_json.specs.Parts.{bare, named, numbers_value}

-- two players
abbrev pub players_object : (name : List ℕ) → (player other : Seat) → Json
players_object name player other = object_of (
    named name
    ∷ (codes "player", count (player_number player))
    ∷ (codes "other", count (player_number other))
    ∷ [])

-- how many turns there are, and after how many a last rack is due
abbrev pub none_due_object : (limit turns : ℕ) → Json
none_due_object limit turns = object_of (
    named (codes "NoRackDue")
    ∷ (codes "number", count turns)
    ∷ (codes "limit", count limit)
    ∷ [])

abbrev pub turn_object : TurnFact → Json
turn_object (turn.OthersTurn player other) = players_object (codes "OthersTurn") player other
turn_object (turn.OthersLine player out) = players_object (codes "OthersLine") player out
turn_object turn.Complete = bare (codes "Complete")
turn_object (turn.Out out holder) = players_object (codes "Out") out holder
turn_object (turn.RackLost player holder) = players_object (codes "RackLost") player holder
turn_object (turn.NoRackDue limit turns) = none_due_object limit turns

-- one line
abbrev pub line_object : (name : List ℕ) → (line : ℕ) → Json
line_object name line = object_of (named name ∷ (codes "line", count line) ∷ [])

-- a line and the next one
abbrev pub wrong_way_object : (line next : ℕ) → Json
wrong_way_object line next = object_of (named (codes "WrongWay") ∷ (codes "on_lines", numbers_value (line ∷ next ∷ [])) ∷ [])

-- whose line seems to be missing, what it scores, and the two lines between which it seems to be missing
abbrev pub missing_object : (player : Seat) → (score : ℤ) → (before after : ℕ) → Json
missing_object player score before after = object_of (
    named (codes "Missing")
    ∷ (codes "player", count (player_number player))
    ∷ (codes "score", integer score)
    ∷ (codes "on_lines", numbers_value (before ∷ after ∷ []))
    ∷ [])

-- one player
abbrev pub player_object : (name : List ℕ) → (player : Seat) → Json
player_object name player = object_of (named name ∷ (codes "player", count (player_number player)) ∷ [])

abbrev pub order_object : OrderFact → Json
order_object (order.StandsTwice line) = line_object (codes "StandsTwice") line
order_object (order.WrongWay line next) = wrong_way_object line next
order_object (order.Missing player score before after) = missing_object player score before after
order_object (order.AllowedFor other) = player_object (codes "AllowedFor") other

abbrev pub ruling_object : RulingFact → Json
ruling_object (ruling.NotJudged refused) = line_object (codes "NotJudged") refused
ruling_object ruling.Allowed = bare (codes "Allowed")
