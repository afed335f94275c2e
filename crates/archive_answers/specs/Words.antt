-- What the index of the pages says of a game that its line does not say.
use Rattle.std.specs.Prelude.{◌≡◌, ℕ, Bool, true, false, List, codes, Option, Some, None, option_map, Result, Ok, Err}
use Rattle.std.specs.String.{string_bytes}
use Rattle.text_lines.specs.Lines.{lines_of}
use Rattle.gcg_read.specs.declared.faults.ReadFault.{ReadFault}
use Rattle.game_case.specs.declared.entries.Entry.{Entry}
use Rattle.game_case.specs.declared.findings.Finding.{Finding}
use Rattle.game_case.specs.declared.findings.Finding.TheVariants as finding
use Rattle.io_kinds.specs.declared.kinds.FileKind.{FileKind}
use Rattle.io_kinds.specs.Kinds.{kind_of}
use Rattle.gcg_about.specs.declared.encodings.Encoding.{Encoding}
use Rattle.gcg_about.specs.Encodings.{encoding_of}
use Rattle.gcg_about.specs.Texts.{text_by}
use Rattle.gcg_about.specs.Pragmas.{first_said}
use Rattle.archive_lines.specs.Players.{nick_of}
use Rattle.archive_answers.specs.declared.words.RowWords.{RowWords}

-- the full names of the players of a record, if there are any
abbrev pub first_name : Encoding → Result Entry ReadFault → Option (List ℕ)
first_name encoding (Ok entry) = nick_of encoding entry.record.players.first.full
first_name encoding (Err fault) = None

abbrev pub second_name : Encoding → Result Entry ReadFault → Option (List ℕ)
second_name encoding (Ok entry) = nick_of encoding entry.record.players.second.full
second_name encoding (Err fault) = None

-- the title of a record, if it says one
abbrev pub title_of : Encoding → (text : List ℕ) → Option (List ℕ)
title_of encoding text = option_map (text_by encoding) (first_said (codes "#title") (lines_of text))

-- what the file of a record without an event seems to be
abbrev pub seems_without : Finding → (text : List ℕ) → Option FileKind
seems_without finding.NoGame text = Some (kind_of text)
seems_without other text = None

abbrev pub seems_in : Result Entry ReadFault → (text : List ℕ) → Option FileKind
seems_in (Ok entry) text = seems_without entry.finding text
seems_in (Err fault) text = None

-- what the index says of what was read from a text: its title, the full names of its players, and what a file without a game seems to be
pub record AreWordsOf (text : List ℕ) (read : Result Entry ReadFault) (words : RowWords) : Type 0 where
  pub title : option_map string_bytes words.title ≡ title_of (encoding_of text) text
  pub first : option_map string_bytes words.first ≡ first_name (encoding_of text) read
  pub second : option_map string_bytes words.second ≡ second_name (encoding_of text) read
  pub seems : words.seems ≡ seems_in read text

abbrev pub no_words : RowWords
no_words = record { title = None; first = None; second = None; seems = None }

-- the same if pages are asked for
abbrev pub AreWordsAsked : (asked : Bool) → (text : List ℕ) → Result Entry ReadFault → RowWords → Type 0
AreWordsAsked true text read words = AreWordsOf text read words
AreWordsAsked false text read words = words ≡ no_words
