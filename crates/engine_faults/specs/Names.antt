-- The names of faults.
use Rattle.std.specs.Prelude.{◌≡◌, ℕ, Bool, List, [], ◌∷◌, codes, slice_get, Option, Some, None}
use Rattle.std.specs.List.{position}
use Rattle.std.specs.Str.{bytes_eq}
use Rattle.ref_play.specs.declared.faults.PlayFault.TheVariants as play_fault
use Rattle.ref_play.specs.Faults as play
use Rattle.gcg_read.specs.declared.faults.Why.TheVariants as why
use Rattle.gcg_read.specs.Faults as read
use Rattle.engine_faults.specs.declared.names.FaultName.{FaultName}
use Rattle.engine_faults.specs.declared.names.FaultName.TheVariants as fault

-- the name as reports print it
abbrev pub name_text : FaultName → List ℕ
name_text (fault.Play reason) = play.name_of reason
name_text fault.NotYourTurn = codes "NotYourTurn"
name_text fault.WrongScore = codes "WrongScore"
name_text fault.WrongTotal = codes "WrongTotal"
name_text fault.NothingToWithdraw = codes "NothingToWithdraw"
name_text fault.WithdrawnValid = codes "WithdrawnValid"
name_text fault.BonusOnPhony = codes "BonusOnPhony"
name_text fault.BadBonus = codes "BadBonus"
name_text fault.ExchangeRefused = codes "ExchangeRefused"
name_text fault.ExchangeSize = codes "ExchangeSize"
name_text fault.GameOver = codes "GameOver"
name_text fault.NotOver = codes "NotOver"
name_text fault.LastRackSize = codes "LastRackSize"
name_text fault.BadTime = codes "BadTime"
name_text fault.TooManyUsed = codes "TooManyUsed"
name_text fault.RackTooBig = codes "RackTooBig"
name_text fault.TilesShort = codes "TilesShort"
name_text fault.NoDeal = codes "NoDeal"
name_text (fault.Record reason) = read.name_of reason

-- all names
abbrev pub all_names : List FaultName
all_names =
    fault.Play play_fault.OffBoard ∷ fault.Play play_fault.Mismatch ∷ fault.Play play_fault.NoNewTile ∷ fault.Play play_fault.TooManyTiles
    ∷ fault.Play play_fault.NotWhole ∷ fault.Play play_fault.MissesCentre ∷ fault.Play play_fault.TooShort ∷ fault.Play play_fault.Apart
    ∷ fault.NotYourTurn ∷ fault.WrongScore ∷ fault.WrongTotal ∷ fault.NothingToWithdraw ∷ fault.WithdrawnValid ∷ fault.BonusOnPhony ∷ fault.BadBonus
    ∷ fault.ExchangeRefused ∷ fault.ExchangeSize ∷ fault.GameOver ∷ fault.NotOver ∷ fault.LastRackSize ∷ fault.BadTime ∷ fault.TooManyUsed
    ∷ fault.RackTooBig ∷ fault.TilesShort ∷ fault.NoDeal ∷ fault.Record why.TooLong ∷ fault.Record why.TooManyEvents ∷ fault.Record why.NoColon
    ∷ fault.Record why.ThirdPlayer ∷ fault.Record why.Fields ∷ fault.Record why.Rack ∷ fault.Record why.Position ∷ fault.Record why.Word
    ∷ fault.Record why.Number ∷ fault.Record why.Code ∷ fault.Record why.NoMemory ∷ []

abbrev pub has_text : (text : List ℕ) → FaultName → Bool
has_text text name = bytes_eq (name_text name) text

-- the item at a place, if there is a place
abbrev pub name_at : Option ℕ → Option FaultName
name_at None = None
name_at (Some place) = slice_get all_names place

-- the name with a text, if there is one
unfoldable pub named : (text : List ℕ) → Option FaultName
named text = name_at (position (has_text text) all_names)

-- ---- laws

-- the text of each name is read as that name
abbrev pub IsReadBack : Type 0
IsReadBack = (name : FaultName) → named (name_text name) ≡ Some name

-- and what is read has the text
abbrev pub HasThatText : Type 0
HasThatText = (text : List ℕ) (name : FaultName) → named text ≡ Some name → name_text name ≡ text
