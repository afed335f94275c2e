-- Where the text of a play would have the written score.
use Rattle.std.specs.Prelude.{ℕ, zero, suc, ◌&&◌, Bool, true, List, [], ◌∷◌, ◌++◌, length, filter, is_none, Option}
use Rattle.std.specs.List.{list_all}
use Rattle.ref_tiles.specs.declared.tiles.Tile.{Tile}
use Rattle.ref_tiles.specs.declared.symbols.Symbol.{Symbol}
use Rattle.ref_tiles.specs.declared.rulebook.Rules.{Rules}
use Rattle.ref_play.specs.Texts.{placement_of}
use Rattle.ref_play.specs.Words.{words_formed}
use Rattle.lex_list.specs.Words.{is_listed}
use Rattle.gcg_read.specs.declared.events.Event.{Event}
use Rattle.gcg_read.specs.declared.events.EventKind.TheVariants as kind
use Rattle.game_turns.specs.Checks.{play_fault}
use Rattle.game_turns.specs.Places.{fault_at}
use Rattle.explain_clues.specs.declared.spots.Spot.{Spot}
use Rattle.explain_clues.specs.Spots.{scoring_spots}
use Rattle.explain_facts.specs.Moments.{Moment}

-- whether a text is a legal play at a spot, and each word that it forms is in the list
unfoldable pub is_listed_at : (board : List (Option Tile)) → (list : List (List ℕ)) → List Symbol → Spot → Bool
is_listed_at board list word spot =
    is_none (play_fault board spot.dir spot.at word) && list_all (is_listed list) (words_formed spot.dir board (placement_of board spot.dir spot.at word))

-- an event as a play of a text at a spot
abbrev pub event_at : Event → List Symbol → Spot → Event
event_at e word spot = record e { kind = kind.Play spot.at spot.dir word }

-- the record with the event as a play of a text at a spot
abbrev pub moved : Moment → List Symbol → Spot → List Event
moved m word spot = m.past ++ event_at m.event word spot ∷ m.later

-- whether the rules allow the first events of a record
abbrev pub allows_to : Rules → (list : List (List ℕ)) → List Event → (many : ℕ) → Bool
allows_to rules list events zero = true
allows_to rules list events (suc k) = is_none (fault_at rules list events k) && allows_to rules list events k

-- whether they allow every event of the record with the event as a play of a text at a spot
unfoldable pub stands_at : Moment → List Symbol → Spot → Bool
stands_at m word spot = allows_to m.rules m.list (moved m word spot) (length (moved m word spot))

-- the spots at which a text has the score that is written for the event, and stands with the rest of the record
unfoldable pub standing : Moment → List Symbol → List Spot
standing m word = filter (stands_at m word) (scoring_spots m.rules m.before.board word m.event.score)

-- the spots of the second list if it has any, otherwise those of the first
abbrev pub those_or : (all some : List Spot) → List Spot
those_or all [] = all
those_or all (spot ∷ spots) = spot ∷ spots

-- of these spots those at which each word is in the list, if there is one, otherwise all
unfoldable pub places : Moment → List Symbol → List Spot
places m word = those_or (standing m word) (filter (is_listed_at m.before.board m.list word) (standing m word))
