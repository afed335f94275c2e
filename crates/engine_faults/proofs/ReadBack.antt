-- The names of faults are read again from their texts.
use Rattle.std.proofs.Common.{◌≡◌, ◌∙◌, ◌<◌, ℕ, true, List, get_or, slice_index_or, Option, Some, None, refl, sym, ap, subst}
use Rattle.std.specs.List.{position}
use Rattle.std.proofs.lemmas.List.Quantifiers.{position-Some}
use Rattle.std.proofs.lemmas.Option.{get_or_from_slice_get, slice_get-get_or}
use Rattle.std.proofs.lemmas.Slice.Eq.{bytes_eq-Decides}
use Rattle.ref_play.specs.declared.faults.PlayFault.{PlayFault}
use Rattle.ref_play.specs.declared.faults.PlayFault.TheVariants as play_fault
use Rattle.gcg_read.specs.declared.faults.Why.{Why}
use Rattle.gcg_read.specs.declared.faults.Why.TheVariants as why
use Rattle.engine_faults.specs.declared.names.FaultName.{FaultName}
use Rattle.engine_faults.specs.declared.names.FaultName.TheVariants as fault
use Rattle.engine_faults.specs.Names.{name_text, all_names, has_text, name_at, named, IsReadBack, HasThatText}

play_back : (reason : PlayFault) → named (name_text (fault.Play reason)) ≡ Some (fault.Play reason)
unfolding named
play_back play_fault.OffBoard = refl
play_back play_fault.Mismatch = refl
play_back play_fault.NoNewTile = refl
play_back play_fault.TooManyTiles = refl
play_back play_fault.NotWhole = refl
play_back play_fault.MissesCentre = refl
play_back play_fault.TooShort = refl
play_back play_fault.Apart = refl

record_back : (reason : Why) → named (name_text (fault.Record reason)) ≡ Some (fault.Record reason)
unfolding named
record_back why.TooLong = refl
record_back why.TooManyEvents = refl
record_back why.NoColon = refl
record_back why.ThirdPlayer = refl
record_back why.Fields = refl
record_back why.Rack = refl
record_back why.Position = refl
record_back why.Word = refl
record_back why.Number = refl
record_back why.Code = refl
record_back why.NoMemory = refl

pub read_back : IsReadBack
unfolding named
read_back (fault.Play reason) = play_back reason
read_back fault.NotYourTurn = refl
read_back fault.WrongScore = refl
read_back fault.WrongTotal = refl
read_back fault.NothingToWithdraw = refl
read_back fault.WithdrawnValid = refl
read_back fault.BonusOnPhony = refl
read_back fault.BadBonus = refl
read_back fault.ExchangeRefused = refl
read_back fault.ExchangeSize = refl
read_back fault.GameOver = refl
read_back fault.NotOver = refl
read_back fault.LastRackSize = refl
read_back fault.BadTime = refl
read_back fault.TooManyUsed = refl
read_back fault.RackTooBig = refl
read_back fault.TilesShort = refl
read_back fault.NoDeal = refl
read_back (fault.Record reason) = record_back reason

at_place : (text : List ℕ) (name : FaultName) (o : Option ℕ) → position (has_text text) all_names ≡ o → name_at o ≡ Some name → name_text name ≡ text
at_place text name None at is = cc
at_place text name (Some place) at is =
    let found = position-Some (has_text text) all_names place name at in
    let same = get_or_from_slice_get all_names place name name is in
    (bytes_eq-Decides (name_text name) text).0 (subst (λ (n : FaultName). has_text text n ≡ true) same found.1)

pub that_text : HasThatText
unfolding named
that_text text name is = at_place text name (position (has_text text) all_names) refl is

-- ---- the name at a place

pub name_there : (text : List ℕ) (place : ℕ) (other : FaultName) → position (has_text text) all_names ≡ Some place → place < 36 → Some (slice_index_or all_names place other) ≡ named text
unfolding named
name_there text place other at within = sym (ap name_at at ∙ slice_get-get_or all_names place other within)

pub no_name : (text : List ℕ) → None ≡ position (has_text text) all_names → None ≡ named text
unfolding named
no_name text at = ap name_at at
