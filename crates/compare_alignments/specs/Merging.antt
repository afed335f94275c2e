-- A record made from two sheets.
--
-- If the lines of a pair differ, they are an item, and a choice takes one of them, or leaves out a line that only one sheet has. If its lines
-- are of one player and state other racks, the racks are an item too, and a choice takes one of them. A choice is a number: the items are
-- numbered from 0, first the lines and then the racks, both in the order of the game. If the binary digit of an item's number is 1, the choice
-- takes the second sheet's line, or the rack that is not of the player's own sheet. Only the first 12 items are varied.
use Rattle.std.specs.Prelude.{ℕ, ◌+◌, ◌/◌, ◌%◌, ◌^◌, ◌==◌, ◌&&◌, nat_lt, min, not, Bool, true, false, List, [], ◌∷◌, ◌++◌, length, filter, slice_get, Option, Some, None, if◌then◌else◌}
use Rattle.std.specs.List.{range_with_len}
use Rattle.std.specs.Option.{option_or}
use Rattle.gcg_read.specs.Players.{same_seat, other_seat}
use Rattle.gcg_read.specs.declared.events.Event.{Event}
use Rattle.gcg_read.specs.declared.events.EventKind.{EventKind}
use Rattle.gcg_read.specs.declared.events.EventKind.TheVariants as kind
use Rattle.gcg_read.specs.declared.events.Seat.{Seat}
use Rattle.compare_alignments.specs.declared.pairs.Pair.{Pair}
use Rattle.compare_alignments.specs.declared.pairs.Side.{Side}
use Rattle.compare_alignments.specs.declared.pairs.Side.TheVariants as side
use Rattle.compare_alignments.specs.declared.merging.NumbersOf.{NumbersOf}
use Rattle.compare_alignments.specs.declared.merging.NumbersOf.TheVariants as numbers
use Rattle.compare_alignments.specs.Agreeing.{has_amount}

-- the same event with this rack
abbrev pub with_rack : Event → Option (List ℕ) → Event
with_rack e tiles = record e { rack = tiles }

-- the line at a place, if there is a place
abbrev pub line_at : List Event → Option ℕ → Option Event
line_at events None = None
line_at events (Some place) = slice_get events place

-- The first sheet belongs to `owner`, the second one to the other player.
abbrev pub own_side : (owner player : Seat) → Side
own_side owner player = if same_seat owner player then side.First else side.Second

-- the one of two things that belongs to a side
abbrev pub of_side : {X : Type 0} → Side → X → X → X
of_side side.First a b = a
of_side side.Second a b = b

-- The rack of an event taken from two lines: what the player's own sheet says, or if that says nothing, what the other one does; if
-- the lines are of different players, what the line that is taken says.
abbrev pub rack_of : (owner : Seat) → (a b e : Event) → Option (List ℕ)
rack_of owner a b e =
    if same_seat a.player b.player then of_side (own_side owner e.player) (option_or a.rack b.rack) (option_or b.rack a.rack) else e.rack

-- an event with the total of a line, and with its score unless that is an amount that no rule gives
abbrev pub with_numbers_of : Event → (line : Event) → Event
with_numbers_of e line = record e { score = if has_amount e.kind then e.score else line.score; total = line.total }

-- an event taken from two lines, with its own numbers or those of a sheet
abbrev pub numbered : NumbersOf → (a b e : Event) → Event
numbered numbers.Taken a b e = e
numbered (numbers.Sheet which) a b e = with_numbers_of e (of_side which a b)

-- the event taken from two lines
abbrev pub taken : (owner : Seat) → NumbersOf → Side → (a b : Event) → Event
taken owner whose which a b = with_rack (numbered whose a b (of_side which a b)) (rack_of owner a b (of_side which a b))

-- what is taken from a pair: an event of two lines; for a line without a partner, that line or nothing
abbrev pub events_of : (owner : Seat) → NumbersOf → Side → Option Event → Option Event → List Event
events_of owner whose which (Some a) (Some b) = taken owner whose which a b ∷ []
events_of owner whose which (Some a) None = of_side which (a ∷ []) []
events_of owner whose which None (Some b) = of_side which [] (b ∷ [])
events_of owner whose which None None = []

-- which line says more if both agree: the second, if only it has the tiles of an exchange
abbrev pub gives_tiles : Option Event → Bool
gives_tiles None = false
gives_tiles (Some e) = has_tiles e.kind where
  has_tiles : EventKind → Bool
  has_tiles (kind.Exchange tiles) = true
  has_tiles other = false

abbrev pub fuller_side : Option Event → Option Event → Side
fuller_side a b = if not (gives_tiles a) && gives_tiles b then side.Second else side.First

-- the digit of the item with a number is 1
abbrev pub is_chosen : (choice number : ℕ) → Bool
is_chosen choice number = nat_lt number 12 && choice / 2 ^ number % 2 == 1

-- the side that a choice takes for the item with a number
abbrev pub chosen_side : (choice number : ℕ) → Side
chosen_side choice number = if is_chosen choice number then side.Second else side.First

abbrev pub side_of : (choice number : ℕ) → Pair → Option Event → Option Event → Side
side_of choice number p a b = if p.agrees then fuller_side a b else chosen_side choice number

-- the number of the item after a pair
abbrev pub next_item : (number : ℕ) → Pair → ℕ
next_item number p = if p.agrees then number else number + 1

-- the number of the next racks after a pair
abbrev pub next_rack : (rack : ℕ) → Pair → ℕ
next_rack rack p = if p.other_racks then rack + 1 else rack

-- the player whose sheet the first one counts as for the rack of a pair: the other one, if the choice takes the rack that is not of the player's own
-- sheet
abbrev pub keeper : (owner : Seat) → (choice rack : ℕ) → Pair → Seat
keeper owner choice rack p = if p.other_racks && is_chosen choice rack then other_seat owner else owner

-- what is taken from a pair, if its lines and its racks have these numbers as items
abbrev pub taken_of : (owner : Seat) → NumbersOf → (choice number rack : ℕ) → (first second : List Event) → Pair → List Event
taken_of owner whose choice number rack first second p =
    events_of (keeper owner choice rack p) whose (side_of choice number p (line_at first p.first) (line_at second p.second)) (line_at first p.first) (line_at second p.second)

-- the events of some pairs, with their items numbered from here
unfoldable pub merged_from : (owner : Seat) → NumbersOf → (choice number rack : ℕ) → (first second : List Event) → List Pair → List Event
merged_from owner whose choice number rack first second [] = []
merged_from owner whose choice number rack first second (p ∷ pairs) =
    taken_of owner whose choice number rack first second p ++ merged_from owner whose choice (next_item number p) (next_rack rack p) first second pairs

-- the pairs that differ
abbrev pub items_of : List Pair → List Pair
items_of pairs = filter (λ (p : Pair). not p.agrees) pairs

-- the pairs with other racks
abbrev pub rack_items : List Pair → List Pair
rack_items pairs = filter (λ (p : Pair). p.other_racks) pairs

-- The record that a choice makes from two sheets.
abbrev pub merged : (owner : Seat) → NumbersOf → (choice : ℕ) → (first second : List Event) → List Pair → List Event
merged owner whose choice first second pairs = merged_from owner whose choice 0 (length (items_of pairs)) first second pairs

-- how many items are varied
abbrev pub count_varied : List Pair → ℕ
count_varied pairs = min 12 (length (items_of pairs) + length (rack_items pairs))

-- the number of choices: two for each item that is varied
abbrev pub count_choices : List Pair → ℕ
count_choices pairs = 2 ^ count_varied pairs

-- the number of the choices that take each rack from the player's own sheet: they come first
abbrev pub count_with_own_racks : List Pair → ℕ
count_with_own_racks pairs = 2 ^ min 12 (length (items_of pairs))

-- how many racks a choice takes that are not of the player's own sheet
abbrev pub count_other_racks : (choice : ℕ) → List Pair → ℕ
count_other_racks choice pairs = length (filter (is_chosen choice) (range_with_len (length (items_of pairs)) (length (rack_items pairs))))
