-- The fields of a line, and the line with tabs.
use Rattle.std.specs.Prelude.{ℕ, List, [], ◌∷◌, ◌++◌, codes, decimal, Option, Some, None, option_map}
use Rattle.std.specs.Fmt.{signed_decimal}
use Rattle.std.specs.String.{string_bytes}
use Rattle.std.specs.Cow.{cow_str_bytes}
use Rattle.archive_lines.specs.TabLines.{escaped, line_text}
use Rattle.archive_lines.specs.declared.fields.Fields.{Fields}
use Rattle.archive_lines.specs.declared.likely.LikelyFields.{LikelyFields}
use Rattle.archive_lines.specs.declared.pages.PageField.{PageField}
use Rattle.archive_lines.specs.Answers.{answer_text, ending_text}
use Rattle.archive_lines.specs.Pages.{page_text}

-- a hyphen stands for a missing field
abbrev pub shown : Option (List ℕ) → List ℕ
shown None = codes "-"
shown (Some text) = text

-- what the verdict is
abbrev pub verdict_reported : Fields → List (List ℕ)
verdict_reported f =
    answer_text f.verdict
    ∷ shown (option_map ending_text f.ending)
    ∷ shown (option_map decimal f.line)
    ∷ shown (option_map cow_str_bytes f.fault)
    ∷ []

-- what the record has
abbrev pub record_reported : Fields → List (List ℕ)
record_reported f =
    shown (option_map decimal f.events)
    ∷ shown (option_map string_bytes f.player1)
    ∷ shown (option_map signed_decimal f.total1)
    ∷ shown (option_map string_bytes f.player2)
    ∷ shown (option_map signed_decimal f.total2)
    ∷ shown (option_map decimal f.unlisted)
    ∷ []

-- the page, if pages are made
abbrev pub page_reported : Option PageField → List (List ℕ)
page_reported None = []
page_reported (Some page) = shown (page_text page) ∷ []

-- the likely repair, if repairs are looked for
abbrev pub likely_reported : Option LikelyFields → List (List ℕ)
likely_reported None = []
likely_reported (Some likely) = shown (option_map string_bytes likely.change) ∷ shown (option_map string_bytes likely.numbers_right) ∷ []

-- how many lines are not read
abbrev pub unread_reported : Option ℕ → List (List ℕ)
unread_reported unread = shown (option_map decimal unread) ∷ []

-- the fields after those that each line has: those that a line has only on request, and then how many lines are not read
abbrev pub rest_reported : Option PageField → Option LikelyFields → Option ℕ → List (List ℕ)
rest_reported page likely unread = page_reported page ++ (likely_reported likely ++ unread_reported unread)

-- the fields that a line says, in their order
abbrev pub reported : Fields → List (List ℕ)
reported f = f.name.now ∷ (verdict_reported f ++ (record_reported f ++ rest_reported f.page f.likely f.unread_lines))

-- the line itself
unfoldable pub tab_line : Fields → List ℕ
tab_line f = line_text (reported f)

-- fields after the first one, each after a tab (9)
abbrev pub following : List (List ℕ) → List ℕ
following [] = []
following (field ∷ fields) = 9 ∷ escaped field ++ following fields
