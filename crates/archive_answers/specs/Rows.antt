-- What the index of the pages shows of a game.
use Rattle.std.specs.Prelude.{◌≡◌, ℕ, ℤ, List, Option, Some, None, option_map}
use Rattle.std.specs.Borrow.{Bor}
use Rattle.std.specs.String.{string_bytes}
use Rattle.std.specs.Cow.{cow_str_bytes}
use Rattle.archive_lines.specs.declared.likely.LikelyFields.{LikelyFields}
use Rattle.archive_lines.specs.declared.pages.PageField.{PageField}
use Rattle.archive_lines.specs.declared.pages.PageField.TheVariants as field
use Rattle.archive_lines.specs.Leads.{IsLead}
use Rattle.archive_answers.specs.declared.games.ArchivedGame.{ArchivedGame}
use Rattle.archive_answers.specs.declared.rows.GameRow.{GameRow}
use Rattle.archive_answers.specs.declared.rows.RowPlayer.{RowPlayer}

-- a text that is shown, if there is one
abbrev pub shown : Option (Bor (List ℕ)) → Option (List ℕ)
shown text = option_map (λ t. t.now) text

-- the name of a page that is written
abbrev pub page_name : Option PageField → Option (List ℕ)
page_name (Some (field.Written name)) = Some (string_bytes name)
page_name other = None

-- the change of a likely repair, if there is one
abbrev pub change_of : Option LikelyFields → Option (List ℕ)
change_of (Some said) = option_map string_bytes said.change
change_of None = None

-- the full name of a player, or the nickname if there is none
abbrev pub name_of : (full nick : Option (List ℕ)) → Option (List ℕ)
name_of (Some full) nick = Some full
name_of None nick = nick

-- a player with this name or this nickname, and this last total
pub record IsPlayerOf (full nick : Option (List ℕ)) (total : Option ℤ) (player : RowPlayer) : Type 0 where
  pub name : shown player.name ≡ name_of full nick
  pub last : player.total ≡ total

-- What is shown of a game: the name of its file and of its page, what its line says of the verdict, of the players and of its likely repair, the words in
-- addition, and who is ahead by the last totals.
pub record IsRowOf (game : ArchivedGame) (row : GameRow) : Type 0 where
  pub file : row.game.now ≡ game.fields.name.now
  pub page : shown row.page ≡ page_name game.fields.page
  pub title : shown row.title ≡ option_map string_bytes game.words.title
  pub answer : row.answer ≡ game.fields.verdict
  pub line : row.line ≡ game.fields.line
  pub ending : row.ending ≡ game.fields.ending
  pub fault : shown row.fault ≡ option_map cow_str_bytes game.fields.fault
  pub first : IsPlayerOf (option_map string_bytes game.words.first) (option_map string_bytes game.fields.player1) game.fields.total1 row.first
  pub second : IsPlayerOf (option_map string_bytes game.words.second) (option_map string_bytes game.fields.player2) game.fields.total2 row.second
  pub lead : IsLead game.fields.total1 game.fields.total2 row.lead
  pub unlisted : row.unlisted ≡ game.fields.unlisted
  pub likely : shown row.likely ≡ change_of game.fields.likely
  pub seems : row.seems ≡ game.words.seems
