-- How a text falls into lines, a line into fields, and what comes before its colon.
use Rattle.std.specs.Prelude.{ℕ, Bool, ◌==◌, List, [], ◌∷◌, Option, Some, None, is_some, if◌then◌else◌}
use Rattle.std.specs.List.{position, before_first, after_first}
use Rattle.text_lines.specs.declared.fields.Field.{Field}
pub use Rattle.text_lines.specs.Lines.{without_mark, without_return, is_feed, lines_of, lines_after}
unfoldable pub use Rattle.text_lines.specs.Lines.{lines_in}
pub use Rattle.text_lines.specs.Fields.{is_blank, is_filled, fields_from}
unfoldable pub use Rattle.text_lines.specs.Fields.{fields_of}

abbrev pub is_colon : ℕ → Bool
is_colon byte = byte == 58

-- a nickname and the text after its colon
pub record Named : Type 0 where
  pub nick : List ℕ
  pub after : List ℕ

-- the nickname that is the only field before the colon
abbrev pub named_by : List (List ℕ) → List ℕ → Option Named
named_by [] after = None
named_by (nick ∷ []) after = Some (record { nick = nick; after = after })
named_by (nick ∷ field ∷ fields) after = None

-- the nickname before the first colon, and the text after that; none if there is no such nickname
unfoldable pub head_of : List ℕ → Option Named
head_of text = if is_some (position is_colon text) then named_by (fields_of (before_first is_colon text)) (after_first is_colon text) else None

-- ---- what the reader cuts off

-- the nickname, and what follows its colon
abbrev pub head_in : Option Field → Option Named
head_in None = None
head_in (Some head) = Some (record { nick = head.bytes.now; after = head.after.now })
