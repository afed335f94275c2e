-- Facts about scores, totals and challenges, as objects.
use Rattle.std.specs.Prelude.{ℕ, ℤ, Bool, List, [], ◌∷◌, codes, map}
use Rattle.json.specs.Json.{Json, boolean, string}
use Rattle.json_trees.specs.Values.{array_of, count, integer, object_of}
use Rattle.explain_clues.specs.declared.spots.Spot.{Spot}
use Rattle.gcg_read.specs.declared.events.Seat.{Seat}
use Rattle.explain_facts.specs.declared.facts.scores.ScoreFact.{ScoreFact}
use Rattle.explain_facts.specs.declared.facts.scores.ScoreFact.TheVariants as score
use Rattle.explain_facts.specs.declared.facts.totals.TotalFact.{TotalFact}
use Rattle.explain_facts.specs.declared.facts.totals.TotalFact.TheVariants as total
use Rattle.explain_facts.specs.declared.facts.challenges.ChallengeFact.{ChallengeFact}
use Rattle.explain_facts.specs.declared.facts.challenges.ChallengeFact.TheVariants as challenge
use Rattle.game_turns.specs.declared.unlisted.SpelledWord.{SpelledWord}
use Rattle.json_base.specs.Values.{tiles_value}
use Rattle.json_base.specs.Words.{direction_word, player_number}
use Rattle.explain_json.specs.Parts.{bare, named, numbers_value, square_value, words_value}

-- the right score, and the one that is written
abbrev pub scores_object : (name : List ℕ) → (right written : ℤ) → Json
scores_object name right written = object_of (
    named name
    ∷ (codes "right", integer right)
    ∷ (codes "written", integer written)
    ∷ [])

-- whose tiles they are, the tiles, and whether their points are doubled
abbrev pub last_rack_object : Seat → (is_doubled : Bool) → (tiles : List ℕ) → (right written : ℤ) → Json
last_rack_object player is_doubled tiles right written = object_of (
    named (codes "LastRackScore")
    ∷ (codes "player", count (player_number player))
    ∷ (codes "rack", tiles_value tiles)
    ∷ (codes "right", integer right)
    ∷ (codes "written", integer written)
    ∷ (codes "doubled", boolean is_doubled)
    ∷ [])

-- a place where a play begins
abbrev pub spot_object : Spot → Json
spot_object spot = object_of ((codes "square", square_value spot.at) ∷ (codes "direction", string (direction_word spot.dir)) ∷ [])

-- where the same letters have the written score, and at how many more places
abbrev pub elsewhere_object : (written : ℤ) → List Spot → (others : ℕ) → Json
elsewhere_object written spots others = object_of (
    named (codes "ElsewhereScore")
    ∷ (codes "written", integer written)
    ∷ (codes "places", array_of (map spot_object spots))
    ∷ (codes "more_places", count others)
    ∷ [])

-- the right score, and the written total that is right with it
abbrev pub total_fits_object : (points all : ℤ) → Json
total_fits_object points all = object_of (
    named (codes "TotalFits")
    ∷ (codes "score", integer points)
    ∷ (codes "right", integer all)
    ∷ [])

abbrev pub score_object : ScoreFact → Json
score_object (score.Play right written) = scores_object (codes "PlayScore") right written
score_object (score.Pass right written) = scores_object (codes "PassScore") right written
score_object (score.Exchange right written) = scores_object (codes "ExchangeScore") right written
score_object (score.Withdrawal right written) = scores_object (codes "WithdrawalScore") right written
score_object (score.LastRack player is_doubled tiles right written) = last_rack_object player is_doubled tiles right written
score_object (score.Other right written) = scores_object (codes "OtherScore") right written
score_object (score.Elsewhere written spots others) = elsewhere_object written spots.items others
score_object (score.TotalFits points all) = total_fits_object points all

-- the sum that makes a total
abbrev pub sum_object : Seat → (had points right written : ℤ) → Json
sum_object player had points right written = object_of (
    named (codes "WrongTotal")
    ∷ (codes "player", count (player_number player))
    ∷ (codes "had", integer had)
    ∷ (codes "score", integer points)
    ∷ (codes "right", integer right)
    ∷ (codes "written", integer written)
    ∷ [])

-- the line that a total leaves out
abbrev pub leaves_out_object : (line : ℕ) → (points : ℤ) → Json
leaves_out_object line points = object_of (
    named (codes "LeavesOut")
    ∷ (codes "line", count line)
    ∷ (codes "score", integer points)
    ∷ [])

-- the points of a step of a penalty, and what is written
abbrev pub step_object : (step : ℕ) → (written : ℤ) → Json
step_object step written = object_of (
    named (codes "TimeStep")
    ∷ (codes "written", integer written)
    ∷ (codes "limit", count step)
    ∷ [])

-- the line of an earlier penalty
abbrev pub penalty_object : Seat → (line : ℕ) → Json
penalty_object player line = object_of (
    named (codes "SecondTime")
    ∷ (codes "line", count line)
    ∷ (codes "player", count (player_number player))
    ∷ [])

abbrev pub total_object : TotalFact → Json
total_object (total.Wrong player had points right written) = sum_object player had points right written
total_object total.LeavesOutOwn = bare (codes "LeavesOutOwn")
total_object (total.LeavesOut line points) = leaves_out_object line points
total_object (total.TimeStep step written) = step_object step written
total_object (total.SecondTime player line) = penalty_object player line

-- the line of a play, and its words
abbrev pub play_words_object : (name : List ℕ) → (line : ℕ) → List SpelledWord → Json
play_words_object name line words = object_of (
    named name
    ∷ (codes "line", count line)
    ∷ (codes "words", words_value words)
    ∷ [])

-- the line of the other player's play
abbrev pub others_object : (name : List ℕ) → (line : ℕ) → (player other : Seat) → Json
others_object name line player other = object_of (
    named name
    ∷ (codes "line", count line)
    ∷ (codes "player", count (player_number player))
    ∷ (codes "other", count (player_number other))
    ∷ [])

-- that there is no play before, and whether the event is the first
abbrev pub no_play_object : (name : List ℕ) → (is_first : Bool) → Json
no_play_object name is_first = object_of (named name ∷ (codes "first_event", boolean is_first) ∷ [])

-- the bonuses that are allowed
abbrev pub bonus_object : (unit listed : ℕ) → (amounts : List ℕ) → (written : ℤ) → Json
bonus_object unit listed amounts written = object_of (
    named (codes "Bonus")
    ∷ (codes "written", integer written)
    ∷ (codes "limit", count unit)
    ∷ (codes "listed", count listed)
    ∷ (codes "amounts", numbers_value amounts)
    ∷ [])

abbrev pub challenge_object : ChallengeFact → Json
challenge_object (challenge.PlayStands line words) = play_words_object (codes "PlayStands") line words.items
challenge_object (challenge.NoWordListed line words) = play_words_object (codes "NoWordListed") line words.items
challenge_object (challenge.OthersPlay line player other) = others_object (codes "OthersPlay") line player other
challenge_object (challenge.OthersBonus line player other) = others_object (codes "OthersBonus") line player other
challenge_object (challenge.NothingToTakeBack is_first) = no_play_object (codes "NothingToTakeBack") is_first
challenge_object (challenge.NothingToChallenge is_first) = no_play_object (codes "NothingToChallenge") is_first
challenge_object (challenge.Bonus unit listed amounts written) = bonus_object unit listed amounts.items written
