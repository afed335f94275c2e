use Rattle.std.proofs.Common.{◌<◌, ◌≤◌, length, ap, ◌∙◌, arith}
use Rattle.gcg_read.specs.Records.{most_bytes}
use Rattle.lex_check.specs.Pairs.{list_in}
use Rattle.draft_answers.specs.Filling.{has_missing}
use Rattle.draft_answers.proofs.Sheets.{if_long, if_refused, if_answered}
use Rattle.draft_answers.proofs.filled.found_of.Goals as goal

pub returns-then-text-gt-MAX_BYTES : goal.returns-then-text-gt-MAX_BYTES
returns-then-text-gt-MAX_BYTES c =
    λ text drafted.
    let slice = c.as_slice-text.result.now in
    let more = c.if-text-gt-MAX_BYTES.true in
    let long : most_bytes < length slice = omega (arith, more) in
    if_long c.args.rules.now (list_in c.args.pair.now) text c.args.sheet.lacks.items c.args.sheet.stopped c.args.sheet.text.items slice c.too_long.result c.as_slice-text.ensures.value long c.too_long.ensures drafted

pub returns-in-Err : goal.returns-in-Err
returns-in-Err c =
    λ text drafted.
    let slice = c.as_slice-text.result.now in
    let few = c.if-text-gt-MAX_BYTES.false in
    let short : length slice ≤ most_bytes = omega (arith, few) in
    absurd
    (if_refused c.args.rules.now (list_in c.args.pair.now) text c.args.sheet.lacks.items c.args.sheet.stopped c.args.sheet.text.items slice c.in_ok-answer.field-0 c.in-Err.field-0
    c.law_of_numbers.ensures c.law_of_other_points.ensures.points c.as_slice-text.ensures.value short c.in-Err.is c.in_ok-answer.ensures drafted)

pub returns : goal.returns
returns c =
    λ text drafted.
    let slice = c.as_slice-text.result.now in
    let few = c.if-text-gt-MAX_BYTES.false in
    let short : length slice ≤ most_bytes = omega (arith, few) in
    if_answered c.args.rules.now (list_in c.args.pair.now) text _ c.args.sheet.text.items slice c.has_missing-lacking.result c.in_ok-answer.field-0 c.in-Ok.answer c.as_slice-text.ensures.value short
    c.in-Ok.is c.in_ok-answer.ensures (c.has_missing-lacking.ensures ∙ ap has_missing c.as_slice.ensures.value) c.in_ok-reported.ensures drafted
