-- The line as an object.
use Rattle.std.specs.Prelude.{ℕ, List, [], ◌∷◌, ◌++◌, codes, Option, Some, None, option_map}
use Rattle.std.specs.String.{string_bytes}
use Rattle.std.specs.Cow.{cow_str_bytes}
use Rattle.json.specs.Json.{Json, null, string}
use Rattle.json_trees.specs.Values.{Field, count, field_if, integer, object_of, or_null}
use Rattle.archive_lines.specs.declared.answers.Ending.{Ending}
use Rattle.archive_lines.specs.declared.fields.Fields.{Fields}
use Rattle.archive_lines.specs.declared.likely.LikelyFields.{LikelyFields}
use Rattle.archive_lines.specs.declared.pages.PageField.{PageField}
use Rattle.archive_lines.specs.Answers.{answer_text, ending_text}
use Rattle.archive_lines.specs.Pages.{page_text}

-- a text, or null if there is none
abbrev pub text_value : Option (List ℕ) → Json
text_value text = or_null (option_map string text)

-- whether a legal game has ended; null if the game is not legal
abbrev pub ending_value : Option Ending → Json
ending_value None = null
ending_value (Some ending) = string (ending_text ending)

-- what each line says of its game
abbrev pub said_fields : Fields → List Field
said_fields f =
    (codes "name", string f.name.now)
    ∷ (codes "verdict", string (answer_text f.verdict))
    ∷ (codes "ending", ending_value f.ending)
    ∷ (codes "line", or_null (option_map count f.line))
    ∷ (codes "fault", text_value (option_map cow_str_bytes f.fault))
    ∷ (codes "events", or_null (option_map count f.events))
    ∷ (codes "player1", text_value (option_map string_bytes f.player1))
    ∷ (codes "total1", or_null (option_map integer f.total1))
    ∷ (codes "player2", text_value (option_map string_bytes f.player2))
    ∷ (codes "total2", or_null (option_map integer f.total2))
    ∷ (codes "unlisted", or_null (option_map count f.unlisted))
    ∷ []

-- the page: its name, why there is none, or null
abbrev pub page_value : PageField → Json
page_value page = text_value (page_text page)

-- the likely repair: the change, and how many numbers are right with it
abbrev pub likely_fields : LikelyFields → List Field
likely_fields likely =
    (codes "change", text_value (option_map string_bytes likely.change))
    ∷ (codes "numbers_right", text_value (option_map string_bytes likely.numbers_right))
    ∷ []

abbrev pub likely_object : LikelyFields → Json
likely_object likely = object_of (likely_fields likely)

-- after those the page, if pages are made, and the likely repair, if repairs are looked for
abbrev pub asked_fields : Fields → List Field
asked_fields f =
    (said_fields f ++ field_if (codes "page") (option_map page_value f.page)) ++ field_if (codes "likely") (option_map likely_object f.likely)

-- and then what only the object has: the name of the fault and the number that was expected; and how many lines are not read
abbrev pub line_fields : Fields → List Field
line_fields f =
    ((asked_fields f ++ (codes "fault_name", text_value (option_map cow_str_bytes f.fault_name)) ∷ [])
    ++ (codes "expected", or_null (option_map integer f.expected)) ∷ [])
    ++ (codes "unread_lines", or_null (option_map count f.unread_lines)) ∷ []

abbrev pub line_object : Fields → Json
line_object f = object_of (line_fields f)
