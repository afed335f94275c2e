-- Plays as objects.
use Rattle.std.specs.Prelude.{ℕ, List, [], ◌∷◌, codes, map}
use Rattle.json.specs.Json.{Json, null, string}
use Rattle.json_trees.specs.Values.{Field, array_of, integer, object_of, text}
use Rattle.ref_tiles.specs.declared.letters.Letter.{Letter}
use Rattle.ref_tiles.specs.declared.kinds.Kind.{Kind}
use Rattle.ref_tiles.specs.declared.kinds.Kind.TheVariants as kind
use Rattle.ref_tiles.specs.declared.symbols.Symbol.TheVariants as symbol
use Rattle.ref_tiles.specs.Symbols.{byte_of}
use Rattle.ref_play.specs.declared.placed.Placed.{Placed}
use Rattle.game_bests.specs.declared.bests.BestPlay.{BestPlay}
use Rattle.engine_stages.specs.declared.verdicts.Verdict.TheVariants as verdict
use Rattle.game_answers.specs.declared.plays.ScoredPlay.{ScoredPlay}
use Rattle.game_answers.specs.declared.tops.FoundPlays.{FoundPlays}
use Rattle.game_answers.specs.declared.tops.FoundPlays.TheVariants as found
use Rattle.game_answers.specs.Tops.{verdict_of}
use Rattle.json_base.specs.Words.{direction_word}
use Rattle.json_base.specs.Values.{place_value, symbols_value, tiles_value}
use Rattle.json_base.specs.Verdicts.{verdict_object}

-- a tile that is put down: a capital, or a small letter for a blank
abbrev pub shown_byte : Kind → Letter → ℕ
shown_byte (kind.Letter letter) shown = byte_of (symbol.Letter letter)
shown_byte kind.Blank shown = byte_of (symbol.Blank shown)

abbrev pub placed_byte : Placed → ℕ
placed_byte placed = shown_byte placed.tile.kind placed.tile.shown

-- the tiles that are put down, in the order of their squares
abbrev pub placed_value : List Placed → Json
placed_value tiles = text (map placed_byte tiles)

-- the best play of a turn, and how many points more it would have given
abbrev pub best_fields : BestPlay → List Field
best_fields best =
    (codes "place", place_value best.written.at best.written.dir)
    ∷ (codes "direction", string (direction_word best.written.dir))
    ∷ (codes "text", symbols_value best.written.word.items)
    ∷ (codes "score", integer best.score)
    ∷ (codes "more", integer best.more)
    ∷ []

abbrev pub best_object : BestPlay → Json
best_object best = object_of (best_fields best)

-- one of the best plays by a rack
abbrev pub play_fields : ScoredPlay → List Field
play_fields play =
    (codes "place", place_value play.written.at play.written.dir)
    ∷ (codes "direction", string (direction_word play.written.dir))
    ∷ (codes "text", symbols_value play.written.word.items)
    ∷ (codes "score", integer play.score)
    ∷ []

abbrev pub play_object : ScoredPlay → Json
play_object play = object_of (play_fields play)

-- the rack, and the best plays by it, the best first
abbrev pub plays_fields : (rack : List ℕ) → List ScoredPlay → List Field
plays_fields rack plays =
    (codes "verdict", string (codes "ok"))
    ∷ (codes "line", null)
    ∷ (codes "fault", null)
    ∷ (codes "rack", tiles_value rack)
    ∷ (codes "plays", array_of (map play_object plays))
    ∷ []

abbrev pub plays_object : (rack : List ℕ) → List ScoredPlay → Json
plays_object rack plays = object_of (plays_fields rack plays)

-- what is found for a question about the best plays: these, or the verdict that says why there are none
abbrev pub found_object : FoundPlays → Json
found_object (found.Plays rack plays) = plays_object rack plays.items
found_object (found.Refused line why) = verdict_object (verdict_of (found.Refused line why))
found_object found.NoRack = verdict_object verdict.BadRack
found_object found.NoLine = verdict_object verdict.BadLine
