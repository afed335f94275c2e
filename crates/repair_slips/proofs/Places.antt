-- What is at a place, as the code reads it.
use Rattle.std.proofs.Common.{◌≡◌, ℕ, ◌+◌, ◌<◌, ◌≤◌, List, [], ◌++◌, length, get_or, slice_get, Option, Some, None, refl, sym, ap, ◌∙◌}
use Rattle.std.proofs.lemmas.Option.{slice_get-get_or, slice_get_read, slice_get_past}
use Rattle.std.proofs.lemmas.List.{append-nil}
use Rattle.ref_tiles.specs.declared.symbols.Symbol.{Symbol}
use Rattle.ref_tiles.specs.declared.rulebook.Rules.{Rules}
use Rattle.gcg_read.specs.declared.events.Event.{Event}
use Rattle.game_turns.specs.Tallies.{State}
use Rattle.repair_changes.specs.declared.slips.Slip.{Slip}
use Rattle.repair_slips.specs.Spellings.{symbol_slips, slips_of_symbol, slips_at_symbol, twisted_pair, twisted_two, twisted_at}
use Rattle.repair_slips.specs.Misreadings.{misread_symbol, misread_at}
use Rattle.repair_slips.specs.Lines.{event_slips}
use Rattle.repair_slips.specs.Changes.{slips_of_event}

pub of_symbol : (word : List Symbol) (place : ℕ) (d : Symbol) → place < length word → symbol_slips place (get_or word place d) ≡ slips_at_symbol word place
of_symbol word place d within = sym (ap (slips_of_symbol place) (slice_get-get_or word place d within))

pub of_misread : (rack : List ℕ) (word : List Symbol) (place : ℕ) (d : Symbol) → place < length word → misread_symbol rack place (Some (get_or word place d)) ≡ misread_at rack word place
of_misread rack word place d within = sym (ap (misread_symbol rack place) (slice_get-get_or word place d within))

pub of_two : (word : List Symbol) (place : ℕ) (d e : Symbol) → place < length word → place + 1 < length word
    → twisted_pair place (get_or word place d) (get_or word (place + 1) e) ≡ twisted_at word place
of_two word place d e first second =
    sym (ap (λ o. twisted_two place o (slice_get word (place + 1))) (slice_get-get_or word place d first) ∙ ap (twisted_two place (Some (get_or word place d))) (slice_get-get_or word (place + 1) e second))

none_after : (place : ℕ) (o : Option Symbol) → twisted_two place o None ≡ []
none_after place None = refl
none_after place (Some a) = refl

pub of_last : (slips : List Slip) (word : List Symbol) (place : ℕ) → length word ≤ place + 1 → slips ≡ slips ++ twisted_at word place
of_last slips word place past = sym (ap (λ (xs : List Slip). slips ++ xs) (ap (twisted_two place (slice_get word place)) (slice_get_past word (place + 1) past) ∙ none_after place (slice_get word place)) ∙ append-nil slips)

pub of_event : (rules : Rules) (s : State) (events : List Event) (place : ℕ) (e : Event) → place < length events → e ≡ get_or events place e
    → event_slips rules s events place e ≡ slips_of_event rules s events place (slice_get events place)
of_event rules s events place e within there = sym (ap (slips_of_event rules s events place) (slice_get_read events (length events) place e refl within there))

pub of_none : (slips : List Slip) (rules : Rules) (s : State) (events : List Event) (place : ℕ) → length events ≤ place → slips ≡ slips ++ slips_of_event rules s events place (slice_get events place)
of_none slips rules s events place past = sym (ap (λ (xs : List Slip). slips ++ xs) (ap (slips_of_event rules s events place) (slice_get_past events place past)) ∙ append-nil slips)
