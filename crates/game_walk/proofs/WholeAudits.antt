-- The audit of a sheet by a walk over it.
use Rattle.std.proofs.Common.{◌≡◌, inl, inr, ℕ, List, [], ◌++◌, map, true, false, Option, Some, None, ap, ◌∙◌}
use Rattle.std.specs.Option.{is_some}
use Rattle.ref_tiles.specs.declared.rulebook.Rules.{Rules}
use Rattle.gcg_read.specs.declared.events.Event.{Event}
use Rattle.game_corrections.specs.declared.wrong_numbers.WrongNumber.{WrongNumber}
use Rattle.game_corrections.specs.Auditing.{IsAudited}
use Rattle.game_corrections.specs.WrongNumbers.{wrong_lines, all_wrong}
use Rattle.game_walk.specs.declared.numbers.Numbers.{Numbers}
use Rattle.game_walk.specs.declared.refusals.Stop.{Stop}
use Rattle.game_walk.specs.declared.walking.Walk.{Walk}
use Rattle.game_walk.specs.Numbers.{numbers_in, renumbered}
use Rattle.game_walk.specs.Refusals.{stop_line, EndsAt}
use Rattle.game_walk.specs.Walks.{IsWalk}
use Rattle.game_walk.proofs.Renumbering.{back_again}
use Rattle.game_walk.proofs.Steps.{walk_renumbered}

-- the events as they are written, from their numbers
pub written_again : (rules : Rules) (list : List (List ℕ)) (written right shown : List Event) (numbers given : List Numbers) (walk : Walk) → IsWalk rules list written right walk → shown ≡ right
    → given ≡ numbers → numbers ≡ map numbers_in written → renumbered shown given ≡ written
written_again rules list written right shown numbers given walk is shows gives of_written =
    ap (λ (es : List Event). renumbered es given) shows ∙ ap (renumbered right) (gives ∙ of_written) ∙ back_again written right (walk_renumbered rules list written right walk is)

pub lines_only : (stop shown_stop : Option ℕ) (written right shown again : List Event) (front wrong : List WrongNumber) → shown_stop ≡ stop → again ≡ written → shown ≡ right → front ≡ []
    → wrong ≡ front ++ wrong_lines shown_stop again shown → wrong ≡ wrong_lines stop written right
lines_only stop shown_stop written right shown again front wrong stops same shows none is =
    is ∙ ap (λ (xs : List WrongNumber). xs ++ wrong_lines shown_stop again shown) none ∙ ap (λ o. wrong_lines o again shown) stops ∙ ap (λ (es : List Event). wrong_lines stop es shown) same
    ∙ ap (wrong_lines stop written) shows

audited_to_stop : (rules : Rules) (list : List (List ℕ)) (written right : List Event) (wrong : List WrongNumber) (end : ℕ) (stopped : Option Stop) → EndsAt rules list written right end stopped
    → is_some stopped ≡ true → wrong ≡ wrong_lines (stop_line stopped) written right → IsAudited rules list written right wrong
audited_to_stop rules list written right wrong end None ends some all = cc
audited_to_stop rules list written right wrong end (Some stop) ends some all =
    inr (record { line = stop.refusal.line; why = stop.refusal.why; stops = ends.stops; none = ends.none; all = all })

audited_through : (rules : Rules) (list : List (List ℕ)) (written right : List Event) (wrong : List WrongNumber) (end : ℕ) (stopped : Option Stop) → EndsAt rules list written right end stopped
    → is_some stopped ≡ false → wrong ≡ all_wrong (wrong_lines (stop_line stopped) written right) written right → IsAudited rules list written right wrong
audited_through rules list written right wrong end None ends none all = inl (record { correction = ends.1; all = all })
audited_through rules list written right wrong end (Some stop) ends none all = cc

pub stopped_audit : (rules : Rules) (list : List (List ℕ)) (written right : List Event) (walk : Walk) (wrong : List WrongNumber) → IsWalk rules list written right walk → is_some walk.stopped ≡ true
    → wrong ≡ wrong_lines (stop_line walk.stopped) written right → IsAudited rules list written right wrong
stopped_audit rules list written right walk wrong is some all = audited_to_stop rules list written right wrong is.end walk.stopped is.ends some all

pub whole_audit : (rules : Rules) (list : List (List ℕ)) (written right shown : List Event) (walk : Walk) (lines wrong : List WrongNumber) → IsWalk rules list written right walk
    → is_some walk.stopped ≡ false → lines ≡ wrong_lines (stop_line walk.stopped) written right → shown ≡ right → wrong ≡ all_wrong lines written shown → IsAudited rules list written right wrong
whole_audit rules list written right shown walk lines wrong is none all shows more =
    audited_through rules list written right wrong is.end walk.stopped is.ends none
    (more ∙ ap (λ (xs : List WrongNumber). all_wrong xs written shown) all ∙ ap (λ (es : List Event). all_wrong (wrong_lines (stop_line walk.stopped) written right) written es) shows)
