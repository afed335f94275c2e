use Rattle.std.proofs.Common.{◌≡◌, ◌==◌, true, false, List, [], ◌∷◌, ◌++◌, ◌∙◌, length, take, slice_get, Some, refl, sym, ap, subst}
use Rattle.std.specs.List.{count_by}
use Rattle.std.proofs.lemmas.Bool.{eq-eqb, ne_eqb}
use Rattle.std.proofs.lemmas.List.{append-nil}
use Rattle.std.proofs.lemmas.Option.{slice_get_read}
use Rattle.repair_answers.specs.BadRecords.{costs, lines_at}
use Rattle.repair_answers.specs.declared.bad_records.SameCost.{SameCost}
use Rattle.repair_answers.specs.declared.sheet_repair.SheetRepair.{SheetRepair}
use Rattle.repair_answers.proofs.LinesFound.{line_there, none_there}
use Rattle.repair_answers.proofs.bad_records.push_line_of_first.Goals as goal

pub returns-in_ok-push : goal.returns-in_ok-push
returns-in_ok-push c =
    let found = c.args.found.now in
    let number = c.args.number in
    let r = c.index-found-number.result in
    let at : slice_get found number ≡ Some r = slice_get_read found (length found) number r refl c.requires c.index-found-number.is in
    let is = c.index-found-number.is in
    let first : (count_by (costs r.cost) (take number found) == 0) ≡ true =
    subst (λ (x : SheetRepair). (count_by (costs x.cost) (take number found) == 0) ≡ true) (sym is) (ap (λ n. n == 0) (sym c.count_with.ensures) ∙ eq-eqb c.count_with.result 0 c.if-count_with-eq0.true) in
    let many : c.count_with-then-count_with-eq0.result ≡ count_by (costs r.cost) found =
    subst (λ (x : SheetRepair). c.count_with-then-count_with-eq0.result ≡ count_by (costs x.cost) found) (sym is) c.count_with-then-count_with-eq0.ensures in
    let line : lines_at found number ≡ record { first = number; many = c.count_with-then-count_with-eq0.result } ∷ [] =
    line_there found number r at first ∙ ap (λ n. record { first = number; many = n } ∷ []) (sym many) in
    c.in_ok-push.ensures.items ∙ ap (λ (ls : List SameCost). c.args.lines.now.items ++ ls) (sym line)

pub returns-else-count_with-eq0 : goal.returns-else-count_with-eq0
returns-else-count_with-eq0 c =
    let found = c.args.found.now in
    let number = c.args.number in
    let r = c.index-found-number.result in
    let at : slice_get found number ≡ Some r = slice_get_read found (length found) number r refl c.requires c.index-found-number.is in
    let later : (count_by (costs r.cost) (take number found) == 0) ≡ false =
    subst (λ (x : SheetRepair). (count_by (costs x.cost) (take number found) == 0) ≡ false) (sym c.index-found-number.is)
    (ap (λ n. n == 0) (sym c.count_with.ensures) ∙ ne_eqb c.count_with.result 0 c.if-count_with-eq0.false) in
    sym (append-nil c.args.lines.now.items) ∙ ap (λ (ls : List SameCost). c.args.lines.now.items ++ ls) (sym (none_there found number r at later))
