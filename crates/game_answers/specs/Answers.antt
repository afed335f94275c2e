-- What is answered for each event of a record in which the rules allow every event.
use Rattle.std.specs.Prelude.{◌≡◌, ℕ, ◌+◌, List, length, slice_get, option_map, Option, Some}
use Rattle.ref_tiles.specs.declared.rulebook.Rules.{Rules}
use Rattle.ref_play.specs.declared.placed.Placed.{Placed}
use Rattle.ref_play.specs.declared.plays.Play.{Play}
use Rattle.gcg_read.specs.declared.events.Event.{Event}
use Rattle.game_turns.specs.LatestEvents.{latest_tiles, standing_words}
use Rattle.game_turns.specs.Tallies.{tally_at}
use Rattle.game_answers.specs.declared.answers.EventAnswer.{EventAnswer}
use Rattle.game_bests.specs.Bests.{IsTurnBest}
use Rattle.sheet_scores.specs.Gains.{given_at}
use Rattle.game_answers.specs.Letters.{word_of}
use Rattle.game_turns.specs.Unlisted.{letters_in, unlisted_of}

-- the tiles of a play, if there is one
abbrev pub tiles_in : Option Play → Option (List Placed)
tiles_in play = option_map (λ (p : Play). p.tiles.items) play

-- An answer is that of the event at a place, counted from 0, if every event before it is allowed: its best play, by the state before it and by what
-- it gave; and by the state after it, the tiles that it put down or took back, the word that the squares of its text show, and the words of a play
-- that stands which are not in the list.
pub record IsAnswerAt (rules : Rules) (list : List (List ℕ)) (events : List Event) (place : ℕ) (a : EventAnswer) : Type 0 where
  pub event : Event
  pub stands : slice_get events place ≡ Some event
  pub best : IsTurnBest rules list (tally_at rules events place) event (given_at events place event) a.best
  pub tiles : tiles_in a.play ≡ latest_tiles (tally_at rules events (place + 1)).latest
  pub word : a.word.items ≡ word_of (tally_at rules events (place + 1)).board event.kind
  pub unlisted : letters_in a.unlisted.items ≡ unlisted_of list (standing_words (tally_at rules events (place + 1)).latest)

-- there is an answer for each of the first events, in their order
pub record AreAnswersTo (rules : Rules) (list : List (List ℕ)) (events : List Event) (many : ℕ) (answers : List EventAnswer) : Type 0 where
  pub as_many : length answers ≡ many
  pub each : (place : ℕ) (a : EventAnswer) → slice_get answers place ≡ Some a → IsAnswerAt rules list events place a
