-- The rules of a text: what its lines state, or the first fault.
use Rattle.std.specs.Prelude.{◌≡◌, ◌⊎◌, ℕ, ◌/◌, ◌%◌, ◌<◌, ◌≤◌, ◌==◌, nat_lt, List, [], ◌∷◌, ◌++◌, length, map, slice_index_or, slice_set, Option, Some, None, is_some, Result, Ok, Err, if◌then◌else◌}
use Rattle.std.specs.List.{list_all, range_with_len}
use Rattle.std.specs.Option.{option_or, option_map, IsSomeAnd}
use Rattle.first_faults.specs.Checks.{passes, first_fault, or_fault}
use Rattle.first_faults.specs.FirstBad.{first_bad, IsFirstBad}
use Rattle.text_lines.specs.Lines.{lines_of}
use Rattle.ref_tiles.specs.declared.rules_faults.RulesWhy.{RulesWhy}
use Rattle.ref_tiles.specs.declared.rules_faults.RulesWhy.TheVariants as why
use Rattle.ref_tiles.specs.declared.rules_faults.RulesFault.{RulesFault}
use Rattle.ref_tiles.specs.declared.premiums.Premium.{Premium}
use Rattle.ref_tiles.specs.declared.premiums.Premium.TheVariants as premium
use Rattle.ref_tiles.specs.declared.rulebook.Rules.{Rules}
use Rattle.ref_tiles.specs.declared.parts.RuleParts.{RuleParts}
use Rattle.ref_tiles.specs.declared.statements.Statement.{Statement}
use Rattle.ref_tiles.specs.declared.statements.Entry.{Entry}
use Rattle.ref_tiles.specs.declared.statements.Entry.TheVariants as entry
use Rattle.ref_tiles.specs.RulesFaults.{at_line}
use Rattle.ref_tiles.specs.Statements.{row_item, statement_of}
use Rattle.ref_tiles.specs.Parts.{are_in_limits, parts_of}

-- the most bytes of a text: 64 KiB
abbrev pub most_text_bytes : ℕ
most_text_bytes = 65536

-- ---- what lines state

-- what a line states of an item
abbrev pub stated_by : ℕ → Result (Option Statement) RulesWhy → Option Entry
stated_by item (Ok (Some s)) = if s.item == item then Some s.entry else None
stated_by item (Ok None) = None
stated_by item (Err w) = None

-- what lines state of an item: what the first line about it says
unfoldable pub entry_in : List (List ℕ) → ℕ → Option Entry
entry_in [] item = None
entry_in (line ∷ lines) item = option_or (stated_by item (statement_of line)) (entry_in lines item)

-- what lines state of each of the 47 items: the tiles, the rows and the parameters
unfoldable pub entries_in : List (List ℕ) → List (Option Entry)
entries_in lines = map (entry_in lines) (range_with_len 0 47)

-- ---- the faults of lines

abbrev pub repeats : List (List ℕ) → Result (Option Statement) RulesWhy → Option RulesWhy
repeats before (Err w) = Some w
repeats before (Ok None) = None
repeats before (Ok (Some s)) = if is_some (entry_in before s.item) then Some why.Twice else None

-- What is wrong with a line after these lines: it states nothing that can be read, or it is about the item of an earlier
-- line.
unfoldable pub fault_after : List (List ℕ) → List ℕ → Option RulesWhy
fault_after before line = repeats before (statement_of line)

-- the first fault of further lines; the lines before them have none, and are numbered from 1
unfoldable pub first_bad_line : List (List ℕ) → List (List ℕ) → Option RulesFault
first_bad_line before lines = first_bad at_line fault_after before lines

-- ---- the rules that entries state

-- what entries state of an item
abbrev pub entry_at : List (Option Entry) → ℕ → Option Entry
entry_at entries item = slice_index_or entries item None

abbrev pub count_in : Option Entry → ℕ
count_in (Some (entry.Tile count points)) = count
count_in (Some (entry.Row premiums)) = 0
count_in (Some (entry.Number number)) = 0
count_in None = 0

abbrev pub points_in : Option Entry → ℕ
points_in (Some (entry.Tile count points)) = points
points_in (Some (entry.Row premiums)) = 0
points_in (Some (entry.Number number)) = 0
points_in None = 0

abbrev pub premium_in : Option Entry → ℕ → Premium
premium_in (Some (entry.Row premiums)) column = slice_index_or premiums column premium.Plain
premium_in (Some (entry.Tile count points)) column = premium.Plain
premium_in (Some (entry.Number number)) column = premium.Plain
premium_in None column = premium.Plain

abbrev pub number_in : Option Entry → ℕ
number_in (Some (entry.Number number)) = number
number_in (Some (entry.Tile count points)) = 0
number_in (Some (entry.Row premiums)) = 0
number_in None = 0

-- the tiles of each kind, the points of A to Z, and the premiums of the squares, row by row
unfoldable pub counts_with : List (Option Entry) → List ℕ
counts_with entries = map (λ kind. count_in (entry_at entries kind)) (range_with_len 0 27)

unfoldable pub points_with : List (Option Entry) → List ℕ
points_with entries = map (λ letter. points_in (entry_at entries letter)) (range_with_len 0 26)

unfoldable pub premiums_with : List (Option Entry) → List Premium
premiums_with entries = map (λ square. premium_in (entry_at entries (row_item (square / 15))) (square % 15)) (range_with_len 0 225)

abbrev pub parts_with : List (Option Entry) → RuleParts
parts_with entries =
    record {
      counts = counts_with entries;
      points = points_with entries;
      premiums = premiums_with entries;
      bonus = number_in (entry_at entries 42);
      exchange_min = number_in (entry_at entries 43);
      zero_limit = number_in (entry_at entries 44);
      challenge_unit = number_in (entry_at entries 45);
      time_step = number_in (entry_at entries 46);
    }

-- ---- the rules of a text

-- What is wrong with lines none of which has a fault: something is not stated, or what is stated is outside the limits of rules.
unfoldable pub whole_fault : List (Option Entry) → Option RulesWhy
whole_fault entries =
    first_fault (passes (list_all is_some entries) why.Missing ∷ passes (are_in_limits (parts_with entries)) why.Limits ∷ [])

-- the parts of the rules that lines state, or their first fault: that of the first line that has one, or else of the whole
unfoldable pub parts_in : List (List ℕ) → Result RuleParts RulesFault
parts_in lines =
    or_fault (option_or (first_bad_line [] lines) (option_map (at_line 0) (whole_fault (entries_in lines)))) (parts_with (entries_in lines))

-- the parts of the rules that a text states, or its first fault
unfoldable pub meaning_of : List ℕ → Result RuleParts RulesFault
meaning_of text = if nat_lt most_text_bytes (length text) then Err (at_line 0 why.TooLong) else parts_in (lines_of text)

-- The answer is rules with the parts that the text states, or its first fault.
abbrev pub Gives : Result Rules RulesFault → Result RuleParts RulesFault → Type 0
Gives (Ok rules) meaning = meaning ≡ Ok (parts_of rules)
Gives (Err fault) meaning = meaning ≡ Err fault

-- ---- the same in other words

-- A line is the first with a fault: the lines before it have none, and after them it has this one. Lines are numbered
-- from 1.
abbrev pub IsFirstFault : List (List ℕ) → RulesFault → Type 0
IsFirstFault lines fault = IsFirstBad at_line fault_after lines fault

-- no line has a fault, and this is wrong with the whole
pub record IsWholeFault (lines : List (List ℕ)) (fault : RulesFault) : Type 0 where
  pub lines_fine : first_bad_line [] lines ≡ None
  pub number : fault.line ≡ 0
  pub fails : whole_fault (entries_in lines) ≡ Some fault.why

-- the fault of a text: it is too long, or a line of it is the first with a fault, or the fault is one of the whole
abbrev pub IsFaultOf : List ℕ → RulesFault → Type 0
IsFaultOf text fault =
    ((most_text_bytes < length text) × (fault ≡ at_line 0 why.TooLong))
    ⊎ ((length text ≤ most_text_bytes) × (IsFirstFault (lines_of text) fault ⊎ IsWholeFault (lines_of text) fault))

-- one line states this of an item, and no other line is about it
pub record IsOnce (lines : List (List ℕ)) (item : ℕ) (stated : Entry) : Type 0 where
  pub before : List (List ℕ)
  pub line : List ℕ
  pub following : List (List ℕ)
  pub whole : before ++ line ∷ following ≡ lines
  pub states : stated_by item (statement_of line) ≡ Some stated
  pub earlier : entry_in before item ≡ None
  pub later : entry_in following item ≡ None

-- each of the 47 items has exactly one line, whose entry is the one that counts
abbrev pub AreOnce : List (List ℕ) → Type 0
AreOnce lines = (item : ℕ) → item < 47 → IsSomeAnd (entry_in lines item) (IsOnce lines item)

-- ---- what the reader answers

-- the entries with what one more line states, or its fault
abbrev pub more_by : List (Option Entry) → ℕ → Result (Option Statement) RulesWhy → Result (List (Option Entry)) RulesFault
more_by entries line (Err w) = Err (at_line line w)
more_by entries line (Ok None) = Ok entries
more_by entries line (Ok (Some s)) =
    if is_some (entry_at entries s.item) then Err (at_line line why.Twice) else Ok (slice_set entries s.item (Some s.entry))

-- `new` is what a line makes of the entries, unless it has a fault
abbrev pub Makes : List (Option Entry) → Result (Unit {0}) RulesFault → Result (List (Option Entry)) RulesFault → Type 0
Makes new (Ok _) meaning = meaning ≡ Ok new
Makes new (Err fault) meaning = meaning ≡ Err fault

-- what lines state of each item, or the fault of the first that has one
unfoldable pub drafted : List (List ℕ) → Result (List (Option Entry)) RulesFault
drafted lines = or_fault (first_bad_line [] lines) (entries_in lines)

-- the rules that entries state, or what is wrong with the whole
unfoldable pub ended : List (Option Entry) → Result RuleParts RulesFault
ended entries = or_fault (option_map (at_line 0) (whole_fault entries)) (parts_with entries)
