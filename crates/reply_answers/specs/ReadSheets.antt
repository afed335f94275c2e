-- What is found of a record, with its lines that are not read.
use Rattle.std.specs.Prelude.{◌≡◌, ℕ, Bool, List, Option}
use Rattle.ref_tiles.specs.declared.rulebook.Rules.{Rules}
use Rattle.game_answers.specs.Boards.{IsBoardOf}
use Rattle.game_answers.specs.Games.{IsJudgedGameOf}
use Rattle.gcg_unread.specs.Lines.{unread_of}
use Rattle.reply_answers.specs.Given.{read_of, judging_by}
use Rattle.reply_answers.specs.declared.read_sheets.JudgedSheet.{JudgedSheet}
use Rattle.reply_answers.specs.declared.read_sheets.ShownSheet.{ShownSheet}

-- the judged game of a text, with or without answers on its events, and the lines of the text that are not read
pub record IsJudgedSheet (best settle : Bool) (rules : Rules) (list : List (List ℕ)) (game : List ℕ) (sheet : JudgedSheet) : Type 0 where
  pub judged : IsJudgedGameOf best (judging_by settle) rules list (read_of game) sheet.found
  pub lines : sheet.unread.items ≡ unread_of game

-- the board of a game, before a line if one is named, with its lines that are not read
pub record IsShownSheet (rules : Rules) (line : Option ℕ) (game : List ℕ) (sheet : ShownSheet) : Type 0 where
  pub board : IsBoardOf rules line (read_of game) sheet.found
  pub lines : sheet.unread.items ≡ unread_of game
