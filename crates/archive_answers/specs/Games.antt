-- What is told of one game of an archive.
use Rattle.std.specs.Prelude.{◌≡◌, ℕ, false, List, is_some, Option, Some}
use Rattle.std.specs.Borrow.{Bor}
use Rattle.ref_tiles.specs.declared.rulebook.Rules.{Rules}
use Rattle.game_case.specs.declared.explains.Case.{Case}
use Rattle.game_case.specs.Explaining.{IsCaseOf}
use Rattle.repair_answers.specs.declared.likely.Likely.{Likely}
use Rattle.page_answers.specs.Pages.{IsLikelyAsked}
use Rattle.archive_lines.specs.declared.answers.Unread.{Unread}
use Rattle.archive_lines.specs.declared.fields.Fields.{Fields}
use Rattle.archive_lines.specs.declared.pages.PageField.{PageField}
use Rattle.archive_lines.specs.Said.{SaysUnread}
use Rattle.archive_answers.specs.declared.asked.Asked.{Asked}
use Rattle.archive_answers.specs.declared.games.ArchivedGame.{ArchivedGame}
use Rattle.archive_answers.specs.declared.sheets.GameSheet.TheVariants as kept
use Rattle.archive_answers.specs.Lines.{SaysRead, has_repair, SaysLikely, with_asked}
use Rattle.archive_answers.specs.Sheets.{IsSheetOf, page_before}
use Rattle.archive_answers.specs.Words.{AreWordsAsked, no_words}

-- What is told of the case of a text by the name of its game. The line says what was read, and on request what was found of its likely repair and whether
-- it has a page; the index shows words of it in addition; and the case is kept, on request with its likely repair and with what its page shows.
pub record ReportsCase (asked : Asked) (rules : Rules) (list : List (List ℕ)) (name : Bor (List ℕ)) (text : List ℕ) (case : Case) (game : ArchivedGame) : Type 0 where
  pub likely : Option Likely
  pub repair : IsLikelyAsked asked.likely rules list text case.read likely
  pub plain : Fields
  pub read : SaysRead name text case.read plain
  pub said : SaysLikely asked.likely (has_repair case.read likely) game.fields.likely
  pub line : game.fields ≡ with_asked plain (page_before (is_some asked.page) game.sheet) game.fields.likely
  pub more : AreWordsAsked (is_some asked.page) text case.read game.words
  pub sheet : IsSheetOf asked.likely asked.page rules list text case likely game.sheet

-- the same of the game of a text
pub record IsReportedGame (asked : Asked) (rules : Rules) (list : List (List ℕ)) (name : Bor (List ℕ)) (text : List ℕ) (game : ArchivedGame) : Type 0 where
  pub case : Case
  pub opened : IsCaseOf rules list text case
  pub reported : ReportsCase asked rules list name text case game

-- what is told of a file that could not be read
pub record IsUnreadGame (asked : Asked) (name : Bor (List ℕ)) (why : Unread) (game : ArchivedGame) : Type 0 where
  pub plain : Fields
  pub read : SaysUnread name why plain
  pub said : SaysLikely asked.likely false game.fields.likely
  pub line : game.fields ≡ with_asked plain (page_before (is_some asked.page) game.sheet) game.fields.likely
  pub more : game.words ≡ no_words
  pub sheet : game.sheet ≡ kept.Unread why

-- a game with what its line says of its page, once that is known
abbrev pub with_page : ArchivedGame → PageField → ArchivedGame
with_page game page = record {
  fields = with_asked game.fields (Some page) game.fields.likely;
  words = game.words;
  sheet = game.sheet;
}
