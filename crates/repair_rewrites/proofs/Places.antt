-- What is at a place of a list.
use Rattle.std.proofs.Common.{◌≡◌, ◌<◌, ◌≤◌, ℕ, List, length, get_or, filter, slice_get, is_some, nat_lt, Option, Some, None, IfSome, option_copied, option_map, refl, sym, ap, ◌∙◌}
use Rattle.std.specs.Borrow.{Bor}
use Rattle.std.proofs.lemmas.Bool.{ltb-true, ltb-false}
use Rattle.std.proofs.lemmas.List.{length-map}
use Rattle.std.proofs.lemmas.Option.{slice_get_read, slice_get_past, slice_get-map}
use Rattle.gcg_read.specs.declared.events.Event.{Event}
use Rattle.text_lines.specs.Lines.{without_mark}
use Rattle.gcg_numbers.specs.Numbers.{is_event_line}
use Rattle.repair_rewrites.specs.EventLines.{texts, raw_lines, event_lines}

-- what a look-up in the events gives
pub copied_get : (events : List Event) (place : ℕ) (o : Option (Bor Event)) → is_some o ≡ nat_lt place (length events) → IfSome o (λ x. x.now ≡ get_or events place x.now)
    → option_copied o ≡ slice_get events place
copied_get events place None there item = sym (slice_get_past events place (ltb-false place (length events) (sym there)))
copied_get events place (Some x) there item = sym (slice_get_read events (length events) place x.now refl (ltb-true place (length events) (sym there)) item)

-- what a look-up in the lines gives
pub line_there : (lines : List (Bor (List ℕ))) (number : ℕ) (line : Bor (List ℕ)) → number < length lines → line ≡ get_or lines number line → Some line.now ≡ slice_get (texts lines) number
line_there lines number line within item =
    sym (slice_get-map (λ (l : Bor (List ℕ)). l.now) lines number ∙ ap (option_map (λ (l : Bor (List ℕ)). l.now)) (slice_get_read lines (length lines) number line refl within item))

pub past_all : (lines : List (Bor (List ℕ))) (number : ℕ) → length lines ≤ number → None ≡ slice_get (texts lines) number
past_all lines number past =
    sym (slice_get-map (λ (l : Bor (List ℕ)). l.now) lines number ∙ ap (option_map (λ (l : Bor (List ℕ)). l.now)) (slice_get_past lines number past))

-- there are as many texts as lines
pub as_many : (lines : List (Bor (List ℕ))) → length (texts lines) ≡ length lines
as_many lines = length-map lines (λ (l : Bor (List ℕ)). l.now)

pub count_remaining : (lines : List (Bor (List ℕ))) (text unmarked : List ℕ) → texts lines ≡ event_lines text → unmarked ≡ without_mark text
    → length (filter is_event_line (raw_lines unmarked)) ≡ length lines
count_remaining lines text unmarked e u = ap (λ (l : List ℕ). length (filter is_event_line (raw_lines l))) u ∙ ap length (sym e) ∙ as_many lines
