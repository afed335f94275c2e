use Rattle.std.proofs.Common.{◌≡◌, ℤ, List, ◌<◌, ◌∙◌, Some, None, length, slice_get, refl, sym, ap, subst, rules, w32, to_z, of_z, to_z-of_z}
use Rattle.std.proofs.lemmas.Bool.{ltb-true, ltb-false}
use Rattle.std.proofs.lemmas.Int.{ints}
use Rattle.std.proofs.lemmas.Option.{slice_get_read, slice_get_past}
use Rattle.gcg_read.specs.declared.events.Event.{Event}
use Rattle.game_corrections.specs.WrongNumbers.{had_before}
use Rattle.repair_single.specs.OnSheet.{total_after, line_on_sheet}
use Rattle.repair_single.proofs.SheetLines.{line_written, none_spliced}
use Rattle.repair_single.proofs.sheets.write_line.Goals as goal

pub returns-in_default : goal.returns-in_default
returns-in_default c =
    let sheet = c.args.sheet.now in
    let shown = c.as_slice-events.result.now in
    let place = c.args.place in
    let past : slice_get shown place ≡ None = slice_get_past shown place (ltb-false place (length shown) (sym c.in_default.ensures.lookup.0)) in
    sym (none_spliced (line_on_sheet sheet c.args.right.now place) sheet place (subst (λ (es : List Event). slice_get es place ≡ None) c.as_slice-events.ensures past))

pub returns : goal.returns
returns c =
    let sheet = c.args.sheet.now in
    let shown = c.as_slice-events.result.now in
    let place = c.args.place in
    let e = c.in-Some.line.now in
    let within : place < length shown = ltb-true place (length shown) (sym c.in-Some.ensures.lookup.0) in
    let there : slice_get shown place ≡ Some e = slice_get_read shown (length shown) place e refl within c.in-Some.ensures.lookup.1 in
    let at : slice_get sheet place ≡ Some e = subst (λ (es : List Event). slice_get es place ≡ Some e) c.as_slice-events.ensures there in
    let score = c.score_at-score.result in
    let had : to_z w32 (of_z w32 c.had_before.result) ≡ had_before sheet e.player place =
    to_z-of_z {w = w32} (search (rules, ints)) ∙ c.had_before.ensures.had ∙ ap (λ (es : List Event). had_before es e.player place) c.as_slice-events.ensures in
    line_written sheet c.args.right.now c.set_score.new.self c.set_total.new.self place e score c.total_after-total.result at c.score_at-score.ensures
    (c.total_after-total.ensures ∙ ap (λ (h : ℤ). total_after h score) had) c.set_score.ensures.there c.set_total.ensures.there
