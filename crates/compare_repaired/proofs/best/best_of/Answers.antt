use Rattle.std.proofs.Common.{◌≡◌, ◌<◌, Some, length, slice_get, refl, sym}
use Rattle.std.proofs.lemmas.Bool.{ltb-true}
use Rattle.std.proofs.lemmas.Option.{slice_get_read}
use Rattle.compare_repaired.specs.Repaired.{first_of}
use Rattle.compare_repaired.proofs.Least.{best_is}
use Rattle.compare_repaired.proofs.best.best_of.Goals as goal

pub returns : goal.returns
returns c =
    let tried = c.args.tried.now in
    let least = c.in-Some.least in
    let choice = c.in-Some-get.choice.now in
    let repair = c.in-Some-first_of.repair.now in
    let within : least.index < length tried = ltb-true least.index (length tried) (sym c.in-Some-get.ensures.lookup.0) in
    let at : slice_get tried least.index ≡ Some choice = slice_get_read tried (length tried) least.index choice refl within c.in-Some-get.ensures.lookup.1 in
    let first : first_of choice ≡ Some repair = cc (c.in-Some-first_of.ensures) in
    best_is c.args.rules.now tried least choice repair _ c.in-Some.ensures at first refl c.is_finished-complete.ensures c.is_ahead-ahead.ensures c.is_settled-settled.ensures
