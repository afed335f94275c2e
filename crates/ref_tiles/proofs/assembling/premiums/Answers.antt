use Rattle.std.proofs.Common.{◌<◌, ◌/◌, ◌%◌, ◌∙◌, ap, length, get_or, arith}
use Rattle.std.specs.Prelude.{slice_set}
use Rattle.std.proofs.lemmas.List.{length-set}
use Rattle.std.proofs.lemmas.List.Edits.{fill_by_more}
use Rattle.ref_tiles.specs.declared.premiums.Premium.TheVariants as premium
use Rattle.ref_tiles.specs.Statements.{row_item}
use Rattle.ref_tiles.specs.RulesTexts.{entry_at, premium_in}
use Rattle.ref_tiles.proofs.PartLimits.{premiums_filled}
use Rattle.ref_tiles.proofs.assembling.premiums.Goals as goal

pub loop-square-preserved : goal.loop-square-preserved
loop-square-preserved c =
    let draft = c.args.draft.now in
    let premiums = c.loop-square.premiums in
    let square = c.loop-square.square in
    let room : square < length premiums = omega (arith, c.loop-square.invariant.size, c.loop-square-test.true) in
    let here = c.premium_in.ensures ∙ ap (λ entry. premium_in entry (square % 15)) c.at.ensures in
    record {
      size = length-set premiums square c.premium_in.result ∙ c.loop-square.invariant.size;
      filled = λ k on. ap (λ p. get_or (slice_set premiums square p) k premium.Plain) here
          ∙ fill_by_more (λ k. premium_in (entry_at draft (row_item (k / 15))) (k % 15)) premiums square premium.Plain room c.loop-square.invariant.filled k on;
    }

pub returns : goal.returns
returns c =
    premiums_filled c.args.draft.now c.loop-square.premiums c.loop-square.invariant.size (λ k on. c.loop-square.invariant.filled k (omega (arith, c.loop-square-test.false)))
