-- What is said of a line of a draft: nothing that rests on a number which is missing.
use Rattle.std.specs.Prelude.{◌≡◌, ◌&&◌, ◌||◌, not, ℕ, Bool, true, false, List, slice_get, Option, Some, None}
use Rattle.std.specs.List.{filter}
use Rattle.gcg_read.specs.declared.events.Event.{Event}
use Rattle.game_board.specs.Places.{place_of_line}
use Rattle.explain_facts.specs.declared.facts.Fact.{Fact}
use Rattle.explain_facts.specs.declared.facts.Fact.TheVariants as fact
use Rattle.explain_facts.specs.declared.facts.orders.OrderFact.{OrderFact}
use Rattle.explain_facts.specs.declared.facts.orders.OrderFact.TheVariants as order_fact
use Rattle.explain_facts.specs.declared.facts.readings.ReadingFact.{ReadingFact}
use Rattle.explain_facts.specs.declared.facts.readings.ReadingFact.TheVariants as reading_fact
use Rattle.explain_facts.specs.declared.facts.scores.ScoreFact.{ScoreFact}
use Rattle.explain_facts.specs.declared.facts.scores.ScoreFact.TheVariants as score_fact
use Rattle.explain_answers.specs.declared.events.Explanation.{Explanation}
use Rattle.gcg_drafts.specs.declared.missing.Missing.{Missing}
use Rattle.gcg_drafts.specs.declared.missing.Missing.TheVariants as missing
use Rattle.draft_answers.specs.Filling.{said}

-- whether a fact rests on the totals of lines: that a line seems to be missing before this one
abbrev pub reports_missing_line : OrderFact → Bool
reports_missing_line (order_fact.Missing player score before after) = true
reports_missing_line other = false

-- or on the total of its own line: that it is right with the right score
abbrev pub reports_total : ScoreFact → Bool
reports_total (score_fact.TotalFits score total) = true
reports_total other = false

-- or on the score of its own line: that another place gives it
abbrev pub reports_place : ScoreFact → Bool
reports_place (score_fact.Elsewhere written spots others) = true
reports_place other = false

-- or that another tile does
abbrev pub reports_tile : ReadingFact → Bool
reports_tile (reading_fact.AsBlank square letter read score) = true
reports_tile (reading_fact.NotOnRack kind played has rack) = false
reports_tile (reading_fact.Misread square letter read words score written) = true

-- by what its line lacks, and whether some line lacks a number
abbrev pub rests_on : (some_line : Bool) → Missing → Fact → Bool
rests_on some_line m (fact.Order f) = some_line && reports_missing_line f
rests_on some_line missing.Nothing (fact.Score f) = false
rests_on some_line missing.Total (fact.Score f) = reports_total f
rests_on some_line missing.Both (fact.Score f) = reports_total f || reports_place f
rests_on some_line missing.Both (fact.Reading f) = reports_tile f
rests_on some_line m other = false

abbrev pub is_reported : (some_line : Bool) → Missing → Fact → Bool
is_reported some_line m f = not (rests_on some_line m f)

-- what the event on a line lacks: nothing, if no line is explained
abbrev pub lack_at : List Missing → (place : Option ℕ) → Missing
lack_at lacks None = missing.Nothing
lack_at lacks (Some place) = said (slice_get lacks place)

abbrev pub lack_of : List Missing → List Event → (line : Option ℕ) → Missing
lack_of lacks events None = missing.Nothing
lack_of lacks events (Some line) = lack_at lacks (place_of_line events line)

-- the same explanation without the facts that rest on numbers which are missing
pub record IsWithout (some_line : Bool) (lacks : List Missing) (events : List Event) (found reported : Explanation) : Type 0 where
  pub line : reported.line ≡ found.line
  pub picture : reported.picture ≡ found.picture
  pub facts : reported.facts.items ≡ filter (is_reported some_line (lack_of lacks events found.line)) found.facts.items

abbrev pub IsExplanationWithout : (some_line : Bool) → List Missing → List Event → Option Explanation → Option Explanation → Type 0
IsExplanationWithout some_line lacks events None None = Unit {0}
IsExplanationWithout some_line lacks events (Some found) (Some reported) = IsWithout some_line lacks events found reported
IsExplanationWithout some_line lacks events found reported = ⊥
