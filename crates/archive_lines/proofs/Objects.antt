-- A reader of JSON has the object of a line again: it nests less deeply than a reader allows.
use Rattle.std.proofs.Common.{◌≡◌, ◌≤◌, ℕ, ℤ, List, [], ◌∷◌, ◌++◌, Option, Some, None, option_map, refl, sym, subst, arith}
use Rattle.std.specs.Prelude.{⊤, codes}
use Rattle.std.specs.String.{string_bytes}
use Rattle.std.specs.Cow.{cow_str_bytes}
use Rattle.json.specs.Json.{Json, document, max_depth}
use Rattle.json.specs.Tree.{depth, members_depth}
use Rattle.json_trees.specs.Texts.{json_text}
use Rattle.json_trees.specs.Values.{Field, count, field_if, integer, members_of, object_of, or_null}
use Rattle.archive_lines.specs.declared.answers.Ending.{Ending}
use Rattle.archive_lines.specs.declared.fields.Fields.{Fields}
use Rattle.archive_lines.specs.declared.likely.LikelyFields.{LikelyFields}
use Rattle.archive_lines.specs.declared.pages.PageField.{PageField}
use Rattle.archive_lines.specs.Pages.{page_text}
use Rattle.archive_lines.specs.Objects.{asked_fields, ending_value, likely_object, line_fields, line_object, page_value, said_fields, text_value}

-- no value of these fields nests deeper than one level
abbrev AreShallow : List Field → Type 0
AreShallow [] = ⊤
AreShallow (field ∷ fields) = (depth field.1 ≤ 1) × AreShallow fields

both_shallow : (one two : List Field) → AreShallow one → AreShallow two → AreShallow (one ++ two)
both_shallow [] two first second = second
both_shallow (field ∷ one) two first second = (first.0, both_shallow one two first.1 second)

all_shallow : (fields : List Field) → AreShallow fields → members_depth (members_of fields) ≤ 1
all_shallow [] shallow = omega arith
all_shallow (field ∷ fields) shallow =
    let value : depth field.1 ≤ 1 = shallow.0 in
    let rest : members_depth (members_of fields) ≤ 1 = all_shallow fields shallow.1 in
    omega arith

object_shallow : (fields : List Field) → AreShallow fields → depth (object_of fields) ≤ max_depth
object_shallow fields shallow =
    let inside : members_depth (members_of fields) ≤ 1 = all_shallow fields shallow in
    omega arith

text_flat : (text : Option (List ℕ)) → depth (text_value text) ≡ 0
text_flat None = refl
text_flat (Some text) = refl

text_shallow : (text : Option (List ℕ)) → depth (text_value text) ≤ 1
text_shallow text = let flat : depth (text_value text) ≡ 0 = text_flat text in omega arith

count_shallow : (number : Option ℕ) → depth (or_null (option_map count number)) ≤ 1
count_shallow None = omega arith
count_shallow (Some number) = omega arith

integer_shallow : (number : Option ℤ) → depth (or_null (option_map integer number)) ≤ 1
integer_shallow None = omega arith
integer_shallow (Some number) = omega arith

ending_shallow : (ending : Option Ending) → depth (ending_value ending) ≤ 1
ending_shallow None = omega arith
ending_shallow (Some ending) = omega arith

page_shallow : (page : Option PageField) → AreShallow (field_if (codes "page") (option_map page_value page))
page_shallow None = tt
page_shallow (Some page) = (text_shallow (page_text page), tt)

likely_one : (likely : LikelyFields) → depth (likely_object likely) ≤ 1
likely_one likely =
    let change : depth (text_value (option_map string_bytes likely.change)) ≡ 0 = text_flat (option_map string_bytes likely.change) in
    let right : depth (text_value (option_map string_bytes likely.numbers_right)) ≡ 0 = text_flat (option_map string_bytes likely.numbers_right) in
    omega arith

likely_shallow : (likely : Option LikelyFields) → AreShallow (field_if (codes "likely") (option_map likely_object likely))
likely_shallow None = tt
likely_shallow (Some likely) = (likely_one likely, tt)

said_shallow : (f : Fields) → AreShallow (said_fields f)
said_shallow f = (
  omega arith,
  (
    omega arith,
    (
      ending_shallow f.ending,
      (
        count_shallow f.line,
        (
          text_shallow (option_map cow_str_bytes f.fault),
          (
            count_shallow f.events,
            (
              text_shallow (option_map string_bytes f.player1),
              (
                integer_shallow f.total1,
                (
                  text_shallow (option_map string_bytes f.player2),
                  (
                    integer_shallow f.total2,
                    (count_shallow f.unlisted, tt),
                  ),
                ),
              ),
            ),
          ),
        ),
      ),
    ),
  ),
)

asked_shallow : (f : Fields) → AreShallow (asked_fields f)
asked_shallow f =
    let page : List Field = field_if (codes "page") (option_map page_value f.page) in
    let likely : List Field = field_if (codes "likely") (option_map likely_object f.likely) in
    both_shallow (said_fields f ++ page) likely (both_shallow (said_fields f) page (said_shallow f) (page_shallow f.page)) (likely_shallow f.likely)

line_shallow : (f : Fields) → AreShallow (line_fields f)
line_shallow f =
    let name : List Field = (codes "fault_name", text_value (option_map cow_str_bytes f.fault_name)) ∷ [] in
    let expected : List Field = (codes "expected", or_null (option_map integer f.expected)) ∷ [] in
    let unread : List Field = (codes "unread_lines", or_null (option_map count f.unread_lines)) ∷ [] in
    let named : AreShallow (asked_fields f ++ name) = both_shallow (asked_fields f) name (asked_shallow f) (text_shallow (option_map cow_str_bytes f.fault_name), tt) in
    let wanted : AreShallow ((asked_fields f ++ name) ++ expected) = both_shallow (asked_fields f ++ name) expected named (integer_shallow f.expected, tt) in
    both_shallow ((asked_fields f ++ name) ++ expected) unread wanted (count_shallow f.unread_lines, tt)

pub read_again : (f : Fields) (value : Json) → value ≡ line_object f → (depth value ≤ max_depth → document (json_text value) ≡ Some value)
    → document (json_text (line_object f)) ≡ Some (line_object f)
read_again f value is back =
    let shallow : depth value ≤ max_depth = subst (λ (j : Json). depth j ≤ max_depth) (sym is) (object_shallow (line_fields f) (line_shallow f)) in
    subst (λ (j : Json). document (json_text j) ≡ Some j) is (back shallow)
