-- The words of a play, square by square, and what they add up to.
use Rattle.std.specs.Prelude.{◌≡◌, ℕ, pos, ◌+◌, ◌*◌, ◌==◌, Bool, List, [], ◌∷◌, length, map, sum_by, Option, Some, None, if◌then◌else◌}
use Rattle.std.specs.Option.{unwrap_or}
use Rattle.ref_tiles.specs.declared.tiles.Tile.{Tile}
use Rattle.ref_tiles.specs.declared.symbols.Symbol.{Symbol}
use Rattle.ref_tiles.specs.declared.rulebook.Rules.{Rules}
use Rattle.ref_tiles.specs.Rulebook.{letter_factor}
use Rattle.ref_board.specs.declared.directions.Dir.{Dir}
use Rattle.ref_play.specs.declared.placed.Placed.{Placed}
use Rattle.ref_play.specs.declared.runs.Run.{Run}
use Rattle.ref_play.specs.Placements.{with_tiles}
use Rattle.ref_play.specs.Formed.{runs_formed}
use Rattle.ref_play.specs.Scores.{words_factor, score_of}
use Rattle.ref_play.specs.Texts.{placement_of}
use Rattle.ref_play.specs.Words.{letters_of}
use Rattle.lex_list.specs.Words.{is_listed}
use Rattle.game_turns.specs.Checks.{play_fault}
use Rattle.explain_clues.specs.declared.words.WordSquare.{WordSquare}
use Rattle.explain_clues.specs.Words.{WordSum, squares_on, worth}
use Rattle.explain_clues.specs.declared.plays.PlayedSquare.{PlayedSquare}
use Rattle.explain_clues.specs.declared.plays.PlayedWord.{PlayedWord}
use Rattle.explain_clues.specs.declared.plays.ScoredPlay.{ScoredPlay}

-- a square of a word, and what it adds: its points, times the letter premium that counts
abbrev pub played_square : WordSquare → PlayedSquare
played_square s =
    record {
      square = s.square;
      cell = s.cell;
      is_new = s.is_new;
      points = s.points;
      premium = s.premium;
      factor = letter_factor s.premium;
      adds = s.points * letter_factor s.premium;
    }

-- what contracts see of a word: its letters and whether it is in the list, its squares and their sum, its factor and its score
pub record WordValue : Type 0 where
  pub letters : List ℕ
  pub is_listed : Bool
  pub squares : List PlayedSquare
  pub letters_sum : ℕ
  pub factor : ℕ
  pub score : ℕ

abbrev pub word_in : PlayedWord → WordValue
word_in w =
    record { letters = w.letters.items; is_listed = w.is_listed; squares = w.squares.items; letters_sum = w.letters_sum; factor = w.factor; score = w.score }

-- what some squares add together
abbrev pub added : List PlayedSquare → ℕ
added squares = sum_by (λ (s : PlayedSquare). s.adds) squares

-- The word of a run, by the rules, a word list and the board with the tiles of the play: its score is the sum of what its squares
-- add, times the product of the word premiums under its new tiles.
abbrev pub played_word : Rules → (list : List (List ℕ)) → (after : List (Option Tile)) → List Placed → Run → WordValue
played_word rules list after ps run =
    let squares = map played_square (squares_on rules after ps run) in
    record {
      letters = letters_of after run;
      is_listed = is_listed list (letters_of after run);
      squares = squares;
      letters_sum = added squares;
      factor = words_factor rules ps run;
      score = added squares * words_factor rules ps run;
    }

-- the same, given a word's sums and its letters
abbrev pub word_by : (list : List (List ℕ)) → WordSum → (letters : List ℕ) → WordValue
word_by list sums letters =
    record {
      letters = letters;
      is_listed = is_listed list letters;
      squares = map played_square sums.squares;
      letters_sum = sum_by worth sums.squares;
      factor = sums.factor;
      score = sums.score;
    }

abbrev pub words_by : (list : List (List ℕ)) → List WordSum → (letters : List (List ℕ)) → List WordValue
words_by list [] letters = []
words_by list (sums ∷ rest) [] = []
words_by list (sums ∷ rest) (word ∷ words) = word_by list sums word ∷ words_by list rest words

-- the bonus for a play of seven tiles
abbrev pub full_bonus : Rules → List Placed → Option ℕ
full_bonus rules ps = if length ps == 7 then Some rules.bonus else None

-- the score of all words of a play, plus the bonus
abbrev pub whole_score : ScoredPlay → ℕ
whole_score p = sum_by (λ (w : PlayedWord). w.score) p.words.items + unwrap_or p.bonus 0

-- The words of a play on a board, in order, and the bonus for seven tiles; together they add up to the score of the play.
pub record IsScoredPlay (rules : Rules) (list : List (List ℕ)) (board : List (Option Tile)) (d : Dir) (ps : List Placed) (p : ScoredPlay) : Type 0 where
  pub words : map word_in p.words.items ≡ map (played_word rules list (with_tiles board ps) ps) (runs_formed d (with_tiles board ps) ps)
  pub bonus : p.bonus ≡ full_bonus rules ps
  pub adds_up : p.score ≡ pos (whole_score p)
  pub right : p.score ≡ pos (score_of rules board ps)

-- the same for the play that a text names; none if it does not name a legal play
abbrev pub IsScoredText : Rules → (list : List (List ℕ)) → (board : List (Option Tile)) → Dir → (at : ℕ) → List Symbol → Option ScoredPlay → Type 0
IsScoredText rules list board d at word None = play_fault board d at word ≡ None → ⊥
IsScoredText rules list board d at word (Some p) = (play_fault board d at word ≡ None) × IsScoredPlay rules list board d (placement_of board d at word) p
