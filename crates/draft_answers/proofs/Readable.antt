-- The sheet that a draft makes is a record.
use Rattle.std.proofs.Common.{◌≡◌, ◌≤◌, ℕ, Bool, true, false, List, length, Option, Ok, if◌then◌else◌, refl, sym, subst, ◌∙◌}
use Rattle.std.proofs.lemmas.Option.{same_Some}
use Rattle.ref_tiles.specs.declared.rulebook.Rules.{Rules}
use Rattle.gcg_read.specs.declared.events.Event.{Event}
use Rattle.gcg_read.specs.declared.records.Record.{Record}
use Rattle.gcg_read.specs.Records.{record_of, most_bytes}
use Rattle.gcg_write.specs.Rounds.{IsReadWithPoints}
use Rattle.gcg_numbers.specs.Laws.{IsReadWithNumbers}
use Rattle.gcg_numbers.specs.Numbers.{text_with}
use Rattle.game_corrections.specs.Corrections.{AreRenumbered, HavePoints}
use Rattle.game_walk.specs.declared.refusals.Refusal.{Refusal}
use Rattle.gcg_drafts.specs.declared.missing.Missing.{Missing}
use Rattle.gcg_drafts.specs.Texts.{completed_text}
use Rattle.draft_answers.specs.Filling.{filled_events, has_missing, sheet_of}
use Rattle.draft_answers.specs.Filled.{IsDrafted}
use Rattle.draft_answers.proofs.Fills.{others, are_between}
use Rattle.draft_answers.proofs.Rights.{are_renumbered}

-- a record that a sheet is: the events of a draft with other numbers
pub record IsSheet (drafted : Record) (right : List Event) (sheet : List ℕ) : Type 0 where
  pub events : List Event
  pub reads : record_of sheet ≡ Ok (record drafted { events = events })
  pub from : AreRenumbered drafted.events events
  pub to : AreRenumbered events right

own : (events : List Event) → AreRenumbered events events
own events =
    record {
      as_many = refl;
      each = λ place a b of_a of_b.
          let same : a ≡ b = same_Some a b (sym of_a ∙ of_b) in
          rw (sym same) (record { line = refl; player = refl; rack = refl; kind = refl; given = λ given. refl });
    }

pub points_in : (text : List ℕ) (r : Record) → IsReadWithPoints → record_of text ≡ Ok r → HavePoints r.events
points_in text r law means place e is = let both = law text r means place e is in record { score = both.0; total = both.1 }

sheet_by : (text : List ℕ) (lacks : List Missing) (drafted : Record) (right : List Event) (b : Bool) → IsReadWithNumbers → IsReadWithPoints → record_of (completed_text text) ≡ Ok drafted
    → AreRenumbered drafted.events right → HavePoints right
    → length (if b then text_with (filled_events lacks drafted.events right) (completed_text text) else completed_text text) ≤ most_bytes
    → IsSheet drafted right (if b then text_with (filled_events lacks drafted.events right) (completed_text text) else completed_text text)
sheet_by text lacks drafted right true numbers points means are right_points short =
    let b = are_between lacks drafted.events right are in
    let new = filled_events lacks drafted.events right in
    record {
      events = new;
      reads = numbers (completed_text text) drafted new means (others drafted.events new b.from (b.points (points_in (completed_text text) drafted points means) right_points)) short;
      from = b.from;
      to = b.to;
    }
sheet_by text lacks drafted right false numbers points means are right_points short =
    record { events = drafted.events; reads = means; from = own drafted.events; to = are }

pub is_sheet : (rules : Rules) (list : List (List ℕ)) (text : List ℕ) (lacks : List Missing) (stopped : Option Refusal) (sheet : List ℕ) (d : IsDrafted rules list text lacks stopped sheet)
    → IsReadWithNumbers → IsReadWithPoints → length sheet ≤ most_bytes → IsSheet d.drafted d.right sheet
unfolding sheet_of
is_sheet rules list text lacks stopped sheet d numbers points short =
    let is = sheet_by text lacks d.drafted d.right (has_missing lacks) numbers points d.means (are_renumbered rules list d.drafted.events d.right stopped d.righted)
    (d.points.points (points_in (completed_text text) d.drafted points d.means)) (subst (λ (l : List ℕ). length l ≤ most_bytes) d.is short) in
    subst (λ l. IsSheet d.drafted d.right l) (sym d.is) is
