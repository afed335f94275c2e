-- A record that is a game, as far as is known, once only its numbers are corrected.
use Rattle.std.specs.Prelude.{◌≡◌, ℕ, Bool, true, false, List, filter, map, Option, Some, None}
use Rattle.ref_tiles.specs.declared.rulebook.Rules.{Rules}
use Rattle.gcg_read.specs.declared.events.Event.{Event}
use Rattle.gcg_read.specs.declared.records.Record.{Record}
use Rattle.game_turns.specs.Unlisted.{letters_in}
use Rattle.game_walk.specs.declared.rows.Row.{Row}
use Rattle.game_walk.specs.Numbers.{numbers_in}
use Rattle.game_corrections.specs.declared.wrong_numbers.WrongNumber.{WrongNumber}
use Rattle.game_corrections.specs.Corrections.{AreRenumbered}
use Rattle.game_corrections.specs.WrongNumbers.{wrong_lines}
use Rattle.game_deal.specs.Verdicts.{IsGame, IsUnsettled}
use Rattle.repair_single.specs.Remaining.{is_on_line, unlisted_words, words_of_rows}
use Rattle.repair_single.specs.Trying.{IsWritable}
use Rattle.repair_single.specs.declared.remains.Remains.{Remains}
use Rattle.repair_answers.specs.declared.numbers_alone.NumbersAlone.{NumbersAlone}

-- some deal yields the racks of these events; or it is not known whether one does
abbrev pub IsKnown : (is_game : Bool) → Rules → (list : List (List ℕ)) → List Event → Type 0
IsKnown true rules list events = IsGame rules list events
IsKnown false rules list events = IsUnsettled rules list events

-- What is wrong with a record of which only the numbers are wrong: scores and totals, and words that are not in the list; its right numbers; and whether
-- it is known to be a game with them.
pub record AreNumbersAlone (rules : Rules) (list : List (List ℕ)) (written : List Event) (alone : NumbersAlone) : Type 0 where
  pub right : List Event
  pub correction : IsWritable rules list written right
  pub numbers : alone.right.items ≡ map numbers_in right
  pub game : IsKnown alone.is_game rules list right
  pub wrong : alone.remains.wrong.items ≡ wrong_lines None written right
  pub unlisted : letters_in alone.remains.unlisted.items ≡ unlisted_words rules list right

-- what is found of right events: whether they are known to be a game, or that they are none
abbrev pub IsFound : Rules → (list : List (List ℕ)) → List Event → Option Bool → Type 0
IsFound rules list events None = IsGame rules list events → ⊥
IsFound rules list events (Some is_game) = IsKnown is_game rules list events

-- What is wrong if only the numbers are; or more is wrong: no right numbers that a record can write make it a game.
abbrev pub IsUnchanged : Rules → (list : List (List ℕ)) → (written : List Event) → Option NumbersAlone → Type 0
IsUnchanged rules list written (Some alone) = AreNumbersAlone rules list written alone
IsUnchanged rules list written None = (right : List Event) → IsWritable rules list written right → IsGame rules list right → ⊥

-- what is left of an audit: the wrong numbers that are on a line, and the words of its rows that are not in the list
pub record AreRemaining (list : List (List ℕ)) (audited : List WrongNumber) (rows : List Row) (remains : Remains) : Type 0 where
  pub wrong : remains.wrong.items ≡ filter is_on_line audited
  pub unlisted : letters_in remains.unlisted.items ≡ words_of_rows list rows

-- a record of the same players, with the same events except for their numbers
pub record HasOtherNumbers (old new : Record) : Type 0 where
  pub players : new.players ≡ old.players
  pub events : AreRenumbered old.events new.events
