-- What stays wrong, place by place.
use Rattle.std.proofs.Common.{◌≡◌, ℕ, ℤ, suc, ◌+◌, ◌<◌, true, false, List, ◌++◌, length, min, get_or, slice_get, Option, Some, None, refl, sym, ap, ◌∙◌, arith}
use Rattle.std.specs.Prelude.{Result, Ok, Err, OnOk}
use Rattle.std.specs.List.{flat_map, range_with_len}
use Rattle.std.specs.Result.{is_err}
use Rattle.std.proofs.lemmas.List.{append_assoc}
use Rattle.std.proofs.lemmas.Option.{slice_get_read}
use Rattle.ref_tiles.specs.declared.rulebook.Rules.{Rules}
use Rattle.gcg_read.specs.declared.events.Event.{Event}
use Rattle.game_turns.specs.declared.faults.RuleFault.{RuleFault}
use Rattle.game_turns.specs.declared.machine.Machine.{Machine}
use Rattle.game_turns.specs.Answers.{Reports}
use Rattle.game_turns.specs.Laws.{NextTallyIsAfter}
use Rattle.game_turns.specs.LatestEvents.{standing_words}
use Rattle.game_turns.specs.Machines.{rules_of, state_of}
use Rattle.game_turns.specs.Places.{fault_of_event, fault_at, AreAllowed}
use Rattle.game_turns.specs.Tallies.{State, tally_at}
use Rattle.game_corrections.specs.Corrections.{AreRenumbered}
use Rattle.game_corrections.specs.Mending.{after_event, state_after}
use Rattle.game_corrections.specs.WrongNumbers.{had_before, wrong_score, wrong_sum, wrong_of, wrong_at, wrong_lines}
use Rattle.game_corrections.specs.declared.wrong_numbers.WrongNumber.{WrongNumber}
use Rattle.game_corrections.proofs.Sheets.{some_event}
use Rattle.game_turns.specs.Unlisted.{unlisted_of}
use Rattle.repair_changes.specs.Applied.{applied}
use Rattle.repair_changes.specs.declared.slips.Change.{Change}
use Rattle.repair_single.specs.OnSheet.{on_sheet}
use Rattle.repair_single.specs.Remaining.{unlisted_at, unlisted_words, wrong_with}
use Rattle.repair_single.proofs.Leaving.{range_last}
use Rattle.repair_single.proofs.WrongSums.{sheet_with}

-- ---- numbers

pub both_wrong : (sheet right : List Event) (place : ℕ) (e r : Event) (items first last : List WrongNumber) (had : ℤ) → place < length sheet → place < length right
    → e ≡ get_or sheet place e → r ≡ get_or right place r → first ≡ items ++ wrong_score e r → had ≡ had_before sheet e.player place → last ≡ first ++ wrong_sum had e (Some r.total)
    → last ≡ items ++ wrong_at None sheet right place
both_wrong sheet right place e r items first last had in_sheet in_right of_e of_r made same added =
    let at : slice_get sheet place ≡ Some e = slice_get_read sheet (length sheet) place e refl in_sheet of_e in
    let there : slice_get right place ≡ Some r = slice_get_read right (length right) place r refl in_right of_r in
    let sum : List WrongNumber = wrong_sum (had_before sheet e.player place) e (Some r.total) in
    let here : wrong_at None sheet right place ≡ wrong_score e r ++ sum =
    ap (λ (o : Option Event). wrong_of None sheet place o (slice_get right place)) at ∙ ap (λ (o : Option Event). wrong_of None sheet place (Some e) o) there in
    added ∙ ap (λ (h : ℤ). first ++ wrong_sum h e (Some r.total)) same ∙ ap (λ (xs : List WrongNumber). xs ++ sum) made
    ∙ append_assoc items (wrong_score e r) sum ∙ ap (λ (xs : List WrongNumber). items ++ xs) (sym here)

-- the elements of a list of lists, with one more list
pub one_more : {X : Type 0} (f : ℕ → List X) (place : ℕ) (old new : List X) → old ≡ flat_map f (range_with_len 0 place) → new ≡ old ++ f place → new ≡ flat_map f (range_with_len 0 (place + 1))
one_more {X} f place old new so_far added =
    let step : place + 1 ≡ suc place = omega arith in
    let here : place ≡ 0 + place = omega arith in
    added ∙ ap (λ (xs : List X). xs ++ f place) so_far ∙ ap (λ k. flat_map f (range_with_len 0 place) ++ f k) here
    ∙ sym (range_last f 0 place) ∙ ap (λ k. flat_map f (range_with_len 0 k)) (sym step)

pub all_wrong : (sheet right : List Event) (place : ℕ) (items : List WrongNumber) → items ≡ flat_map (wrong_at None sheet right) (range_with_len 0 place) → place ≡ length sheet → length right ≡ length sheet
    → items ≡ wrong_lines None sheet right
unfolding wrong_lines
all_wrong sheet right place items so_far last long =
    let all : place ≡ min (length sheet) (length right) = omega (arith, last, long) in
    so_far ∙ ap (λ k. flat_map (wrong_at None sheet right) (range_with_len 0 k)) all

pub wrong_is : (change : Change) (written right shown given sheet other : List Event) (items : List WrongNumber) → shown ≡ right → given ≡ right → other ≡ sheet
    → sheet ≡ on_sheet change (applied change written) shown → items ≡ wrong_lines None other given → items ≡ wrong_with change written right
unfolding wrong_with
wrong_is change written right shown given sheet other items of_shown of_given of_other is made =
    made ∙ ap (λ (es : List Event). wrong_lines None es given) (of_other ∙ is ∙ ap (on_sheet change (applied change written)) of_shown)
    ∙ ap (λ (es : List Event). wrong_lines None (on_sheet change (applied change written) right) es) of_given

pub sheet_long : (change : Change) (written right shown given sheet other : List Event) → shown ≡ right → given ≡ right → other ≡ sheet → sheet ≡ on_sheet change (applied change written) shown
    → AreRenumbered (applied change written) right → length given ≡ length other
sheet_long change written right shown given sheet other of_shown of_given of_other is are =
    let own : List Event = applied change written in
    let but = sheet_with change written own right refl in
    let same : other ≡ on_sheet change own right = of_other ∙ is ∙ ap (on_sheet change own) of_shown in
    ap (λ (es : List Event). length es) of_given ∙ are.as_many ∙ sym but.as_many ∙ ap (λ (es : List Event). length es) (sym same)

-- ---- words

fault_here : (rules : Rules) (list : List (List ℕ)) (right : List Event) (place : ℕ) (machine : Machine) → rules_of machine ≡ rules → state_of machine ≡ tally_at rules right place
    → fault_of_event (rules_of machine) list (state_of machine) (slice_get right place) ≡ fault_at rules list right place
unfolding fault_at
fault_here rules list right place machine by state =
    ap (λ (r : Rules). fault_of_event r list (state_of machine) (slice_get right place)) by ∙ ap (λ (s : State). fault_of_event rules list s (slice_get right place)) state

pub never_refused : {A : Type 0} (rules : Rules) (list : List (List ℕ)) (right : List Event) (place : ℕ) (machine : Machine) (r : Result A RuleFault) → AreAllowed rules list right → place < length right
    → rules_of machine ≡ rules → state_of machine ≡ tally_at rules right place → Reports r (fault_of_event (rules_of machine) list (state_of machine) (slice_get right place)) → is_err r ≡ true → ⊥
never_refused rules list right place machine (Ok a) allowed within by state reported err = cc
never_refused rules list right place machine (Err why) allowed within by state reported err =
    let here = fault_here rules list right place machine by state in
    let none = allowed place within in
    let some : fault_of_event (rules_of machine) list (state_of machine) (slice_get right place) ≡ Some why = reported in
    let both = sym some ∙ here ∙ none in
    cc both

pub next_tally : NextTallyIsAfter → {A : Type 0} (rules : Rules) (list : List (List ℕ)) (right : List Event) (place : ℕ) (machine next : Machine) (r : Result A RuleFault) → AreAllowed rules list right
    → place < length right → rules_of machine ≡ rules → state_of machine ≡ tally_at rules right place
    → OnOk r (state_of next ≡ state_after (rules_of machine) (state_of machine) right place) → is_err r ≡ false → state_of next ≡ tally_at rules right (place + 1)
next_tally law rules list right place machine next (Ok a) allowed within by state new ok =
    let event = some_event right place within in
    new ∙ ap (λ (r : Rules). state_after r (state_of machine) right place) by ∙ ap (λ (s : State). state_after rules s right place) state
    ∙ ap (λ (o : Option Event). after_event rules (tally_at rules right place) o (slice_get right (place + 1))) event.stands
    ∙ law rules list right place event.event event.stands (λ k below. allowed k (omega (arith, below, within)))
next_tally law rules list right place machine next (Err why) allowed within by state new ok = cc

pub words_there : (rules : Rules) (list : List (List ℕ)) (right : List Event) (place : ℕ) (next : Machine) (words more : List (List ℕ)) → state_of next ≡ tally_at rules right (place + 1)
    → more ≡ unlisted_of list words → words ≡ standing_words (state_of next).latest → more ≡ unlisted_at rules list right place
words_there rules list right place next words more state made are =
    made ∙ ap (unlisted_of list) are ∙ ap (λ (s : State). unlisted_of list (standing_words s.latest)) state

pub all_words : (rules : Rules) (list : List (List ℕ)) (right : List Event) (place : ℕ) (words : List (List ℕ)) → words ≡ flat_map (unlisted_at rules list right) (range_with_len 0 place)
    → place ≡ length right → words ≡ unlisted_words rules list right
unfolding unlisted_words
all_words rules list right place words so_far last = so_far ∙ ap (λ k. flat_map (unlisted_at rules list right) (range_with_len 0 k)) last
