-- The corrected record of an audit, written and read again.
use Rattle.std.proofs.Common.{◌≡◌, inl, inr, ℕ, suc, List, [], ◌∷◌, length, Ok, refl, ap, sym, ◌∙◌, subst, arith}
use Rattle.std.specs.Prelude.{◌≤◌}
use Rattle.ref_tiles.specs.declared.rulebook.Rules.{Rules}
use Rattle.gcg_read.specs.declared.events.Event.{Event}
use Rattle.gcg_read.specs.declared.records.Record.{Record}
use Rattle.gcg_read.specs.Records.{record_of, most_bytes}
use Rattle.gcg_numbers.specs.Laws.{IsOther, AreOther, IsReadWithNumbers}
use Rattle.gcg_numbers.specs.Numbers.{text_with}
use Rattle.game_corrections.specs.declared.wrong_numbers.WrongNumber.{WrongNumber}
use Rattle.game_corrections.specs.Corrections.{IsRenumbered, AreRenumbered, HasPoints, HavePoints}
use Rattle.game_corrections.specs.Auditing.{IsAudited}
use Rattle.game_corrections.proofs.Numbers.{same_event}
use Rattle.game_case.specs.declared.audits.Audit.{Audit}
use Rattle.sheet_audit.specs.Corrected.{IsReadBack}

-- the events of an audit are those that are written, with other numbers
renumbered : (rules : Rules) (list : List (List ℕ)) (written right : List Event) (wrong : List WrongNumber) → IsAudited rules list written right wrong → AreRenumbered written right
renumbered rules list written right wrong (inl whole) = whole.correction.renumbered
renumbered rules list written right wrong (inr part) = part.stops.before.renumbered

-- an event with other numbers that a record can write
other : (w r : Event) → IsRenumbered w r → HasPoints r → IsOther w r
other w r is points =
    record {
      same =
          same_event (record w { score = r.score; total = r.total }) r
          (record { line = is.line; player = is.player; rack = is.rack; kind = is.kind; given = λ given. refl }) refl refl;
      score = points.score;
      total = points.total;
    }

first_like : (w r : Event) (ws rs : List Event) → AreRenumbered (w ∷ ws) (r ∷ rs) → IsRenumbered w r
first_like w r ws rs are = are.each 0 w r refl refl

others_like : (w r : Event) (ws rs : List Event) → AreRenumbered (w ∷ ws) (r ∷ rs) → AreRenumbered ws rs
others_like w r ws rs are =
    let long = are.as_many in
    record { as_many = omega (arith, long); each = λ place a b of_a of_b. are.each (suc place) a b of_a of_b }

others : (written right : List Event) → AreRenumbered written right → HavePoints right → AreOther written right
others [] [] are points = tt
others [] (r ∷ rs) are points = let long = are.as_many in absurd (omega (arith, long))
others (w ∷ ws) [] are points = let long = are.as_many in absurd (omega (arith, long))
others (w ∷ ws) (r ∷ rs) are points =
    (other w r (first_like w r ws rs are) (points 0 r refl), others ws rs (others_like w r ws rs are) (λ place e is. points (suc place) e is))

-- a record with the events of another one and the same players is that one
same_record : (old new : Record) → new.players ≡ old.players → record old { events = new.events } ≡ new
same_record old new same = ap (λ players. record new { players = players }) (sym same)

pub read_back : (a : Audit) (bytes : List ℕ) → IsReadWithNumbers → bytes ≡ text_with a.entry.record.events a.text.items → IsReadBack a bytes
read_back a bytes law same rules list text is short =
    let like = renumbered rules list is.written.events a.entry.record.events a.wrong.items is.audit.audited in
    let here : bytes ≡ text_with a.entry.record.events text = same ∙ ap (text_with a.entry.record.events) is.kept in
    ap record_of here
    ∙ law text is.written a.entry.record.events is.means (others is.written.events a.entry.record.events like is.points)
    (subst (λ (b : List ℕ). length b ≤ most_bytes) here short)
    ∙ ap (λ (r : Record). Ok r) (same_record is.written a.entry.record is.audit.players)
