-- The text of a repaired sheet, by the choice among its repairs.
use Rattle.std.proofs.Common.{◌≡◌, ℕ, true, List, [], Option, Some, None, Result, Ok, Err, IfOk, sym, ap, ◌∙◌, subst}
use Rattle.std.specs.Prelude.{MatchOption}
use Rattle.gcg_read.specs.declared.events.Event.{Event}
use Rattle.gcg_read.specs.declared.faults.ReadFault.{ReadFault}
use Rattle.gcg_read.specs.declared.players.Players.{Players}
use Rattle.gcg_read.specs.declared.records.Record.{Record}
use Rattle.gcg_read.specs.Players.{no_players}
use Rattle.gcg_read.specs.Records.{record_of}
use Rattle.gcg_numbers.specs.Numbers.{text_with}
use Rattle.game_walk.specs.Numbers.{renumbered}
use Rattle.repair_rewrites.specs.Reading.{IsKeptBySeat, IsNotKeptBySeat}
use Rattle.repair_answers.specs.declared.answers.Faulty.{Faulty}
use Rattle.repair_answers.specs.declared.bad_records.LineRepairs.{LineRepairs}
use Rattle.repair_answers.specs.declared.choices.Choice.{Choice}
use Rattle.repair_answers.specs.declared.numbers_alone.NumbersAlone.{NumbersAlone}
use Rattle.repair_answers.specs.Choices.{all_known, IsChoice}
use Rattle.repair_rewrites.specs.Kept.{IsRenumberedBy, IsNotRenumberedBy, IsTextBy, IsNoTextBy, IsChosenText, IsNoChosenText, IsLineText, IsNoLineText}

-- ---- with only its numbers corrected

abbrev game_or : Record → Result Record ReadFault → Record
game_or game (Ok other) = other
game_or game (Err fault) = game

abbrev IsBad : Result Record ReadFault → Type 0
IsBad (Ok game) = ⊥
IsBad (Err why) = Unit {0}

-- `events` are those of the record that was read with the right numbers
by_events : (text : List ℕ) (alone : NumbersAlone) (r : Record) (events : List Event) (made kept : List ℕ) → record_of text ≡ Ok r → events ≡ renumbered r.events alone.right.items
    → made ≡ text_with events text → IsKeptBySeat events made kept → IsRenumberedBy text alone kept
by_events text alone r events made kept is same whole keeps =
    let all : IsKeptBySeat (renumbered r.events alone.right.items) made kept = subst (λ (es : List Event). IsKeptBySeat es made kept) same keeps in
    record {
      read = r;
      is = is;
      kept = subst (λ (m : List ℕ). IsKeptBySeat (renumbered r.events alone.right.items) m kept) (whole ∙ ap (λ (es : List Event). text_with es text) same) all;
    }

not_by_events : (text : List ℕ) (alone : NumbersAlone) (r : Record) (events : List Event) (made : List ℕ) → record_of text ≡ Ok r → events ≡ renumbered r.events alone.right.items
    → made ≡ text_with events text → IsNotKeptBySeat events made → IsNotRenumberedBy text alone
not_by_events text alone r events made is same whole keeps =
    let all : IsNotKeptBySeat (renumbered r.events alone.right.items) made = subst (λ (es : List Event). IsNotKeptBySeat es made) same keeps in
    let here : IsNotKeptBySeat (renumbered r.events alone.right.items) (text_with (renumbered r.events alone.right.items) text) =
    subst (λ (m : List ℕ). IsNotKeptBySeat (renumbered r.events alone.right.items) m) (whole ∙ ap (λ (es : List Event). text_with es text) same) all in
    record {
      none = λ read of_read.
          subst (λ (g : Record). IsNotKeptBySeat (renumbered g.events alone.right.items) (text_with (renumbered g.events alone.right.items) text)) (ap (game_or r) (sym is ∙ of_read)) here;
    }

pub renumbered_text : {V E : Type 0} (items : V → List ℕ) (text : List ℕ) (alone : NumbersAlone) (found : Result Record ReadFault) (r : Record) (old events others : List Event) (made : List ℕ)
    (result : Result (Option V) E) → found ≡ record_of text → found ≡ Ok r → events ≡ renumbered r.events alone.right.items → old ≡ events → others ≡ events → made ≡ text_with old text
    → IfOk result (λ o. MatchOption o (IsNotKeptBySeat others made) (λ t. IsKeptBySeat others made (items t)))
    → IfOk result (λ o. MatchOption o (IsNotRenumberedBy text alone) (λ t. IsRenumberedBy text alone (items t)))
renumbered_text items text alone found r old events others made (Ok (Some kept)) of is same first second whole by =
    by_events text alone r events made (items kept) (sym of ∙ is) same (whole ∙ ap (λ (es : List Event). text_with es text) first) (subst (λ (es : List Event). IsKeptBySeat es made (items kept)) second by)
renumbered_text items text alone found r old events others made (Ok None) of is same first second whole by =
    not_by_events text alone r events made (sym of ∙ is) same (whole ∙ ap (λ (es : List Event). text_with es text) first) (subst (λ (es : List Event). IsNotKeptBySeat es made) second by)
renumbered_text items text alone found r old events others made (Err why) of is same first second whole by = tt

-- a text that is not a record has no numbers
pub not_renumbered : (text : List ℕ) (alone : NumbersAlone) (found : Result Record ReadFault) (fault : ReadFault) → found ≡ record_of text → found ≡ Err fault → IsNotRenumberedBy text alone
not_renumbered text alone found fault of is = record { none = λ read of_read. absurd (subst IsBad (sym is ∙ of ∙ of_read) tt) }

-- ---- by the choice among the repairs of a record

pub chosen_text : {V E : Type 0} (items : V → List ℕ) (text : List ℕ) (players : Players) (f : Faulty) (chosen : Choice) (result : Result (Option V) E)
    → IsChoice f.found.reported.items (all_known f.found.remaining.items f.found.from) f.pairs.reported.items f.sheets.items f.alone chosen
    → IfOk result (λ made. MatchOption made (IsNoTextBy text players f.alone chosen) (λ t. IsTextBy text players f.alone chosen (items t)))
    → IfOk result (λ made. MatchOption made (IsNoChosenText text players f) (λ t. IsChosenText text players f (items t)))
chosen_text items text players f chosen (Ok (Some made)) is by = record { chosen = chosen; is_choice = is; by_choice = by }
chosen_text items text players f chosen (Ok None) is by = record { chosen = chosen; is_choice = is; by_choice = by }
chosen_text items text players f chosen (Err why) is by = tt

-- ---- by the choice among the slips of a bad line

pub line_text : {V E : Type 0} (items : V → List ℕ) (text : List ℕ) (players : Players) (alone : Option NumbersAlone) (l : LineRepairs) (chosen : Choice) (result : Result (Option V) E)
    → IsChoice [] true [] l.found.items None chosen → players ≡ no_players → alone ≡ None
    → IfOk result (λ made. MatchOption made (IsNoTextBy text players alone chosen) (λ t. IsTextBy text players alone chosen (items t)))
    → IfOk result (λ made. MatchOption made (IsNoLineText text l) (λ t. IsLineText text l (items t)))
line_text items text players alone l chosen (Ok (Some made)) is unnamed no_numbers by =
    record {
      chosen = chosen;
      is_choice = is;
      by_choice = subst (λ (p : Players). IsTextBy text p None chosen (items made)) unnamed (subst (λ (a : Option NumbersAlone). IsTextBy text players a chosen (items made)) no_numbers by);
    }
line_text items text players alone l chosen (Ok None) is unnamed no_numbers by =
    record {
      chosen = chosen;
      is_choice = is;
      by_choice = subst (λ (p : Players). IsNoTextBy text p None chosen) unnamed (subst (λ (a : Option NumbersAlone). IsNoTextBy text players a chosen) no_numbers by);
    }
line_text items text players alone l chosen (Err why) is unnamed no_numbers by = tt
