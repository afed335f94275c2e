-- What explains a record or one of its lines, as an object.
use Rattle.std.specs.Prelude.{ℕ, List, [], ◌∷◌, codes, Option, Some, None, option_map}
use Rattle.json.specs.Json.{Json, null, string}
use Rattle.json_trees.specs.Values.{Field, count, object_of, or_null, text}
use Rattle.engine_stages.specs.declared.verdicts.Verdict.{Verdict}
use Rattle.engine_stages.specs.declared.verdicts.Verdict.TheVariants as verdict
use Rattle.explain_answers.specs.declared.events.Shown.{Shown}
use Rattle.explain_answers.specs.declared.events.Picture.{Picture}
use Rattle.explain_answers.specs.declared.events.Picture.TheVariants as picture
use Rattle.explain_answers.specs.declared.events.Explanation.{Explanation}
use Rattle.gcg_unread.specs.declared.lines.UnreadLine.{UnreadLine}
use Rattle.json_base.specs.Values.{unread_value}
use Rattle.json_base.specs.Verdicts.{ending_value, fault_line_value, fault_value, verdict_object, verdict_word}
use Rattle.explain_json.specs.Facts.{facts_value}
use Rattle.explain_json.specs.Words.{board_object, scored_object}

-- of a play that is legal on the board: its words
abbrev pub play_value : Option Picture → Json
play_value None = null
play_value (Some (picture.Shown shown)) = or_null (option_map scored_object shown.play)
play_value (Some (picture.Unknown line)) = null

-- the board before the line
abbrev pub board_value : Option Picture → Json
board_value None = null
board_value (Some (picture.Shown shown)) = board_object shown.squares.items
board_value (Some (picture.Unknown line)) = null

-- if that board is not known, the line of the play that cannot be laid
abbrev pub unknown_value : Option Picture → Json
unknown_value None = null
unknown_value (Some (picture.Shown shown)) = null
unknown_value (Some (picture.Unknown line)) = count line

-- the verdict on the record, the line that is explained as it is in the file, the facts, the play, the board, the likely repair and the lines that are not
-- read
abbrev pub explained_fields : Verdict → (written : Option (List ℕ)) → Explanation → (likely : Json) → List UnreadLine → List Field
explained_fields v written reported likely unread =
    (codes "verdict", string (verdict_word v))
    ∷ (codes "line", fault_line_value v)
    ∷ (codes "fault", fault_value v)
    ∷ (codes "ending", ending_value v)
    ∷ (codes "explained", or_null (option_map count reported.line))
    ∷ (codes "text", or_null (option_map text written))
    ∷ (codes "facts", facts_value reported.facts.items)
    ∷ (codes "play", play_value reported.picture)
    ∷ (codes "board", board_value reported.picture)
    ∷ (codes "unknown_since", unknown_value reported.picture)
    ∷ (codes "likely", likely)
    ∷ (codes "unread_lines", unread_value unread)
    ∷ []

abbrev pub reported_object : Verdict → (written : Option (List ℕ)) → Explanation → (likely : Json) → List UnreadLine → Json
reported_object v written reported likely unread = object_of (explained_fields v written reported likely unread)

-- or no event is on the line or after it
abbrev pub explained_object : Verdict → (written : Option (List ℕ)) → Option Explanation → (likely : Json) → List UnreadLine → Json
explained_object v written None likely unread = verdict_object verdict.BadLine
explained_object v written (Some reported) likely unread = reported_object v written reported likely unread
