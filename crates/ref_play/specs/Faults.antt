-- The names of the faults of plays.
use Rattle.std.specs.Prelude.{ℕ, List, codes}
use Rattle.ref_play.specs.declared.faults.PlayFault.{PlayFault}
use Rattle.ref_play.specs.declared.faults.PlayFault.TheVariants as fault

-- the name of a fault, as reports print it
abbrev pub name_of : PlayFault → List ℕ
name_of fault.OffBoard = codes "OffBoard"
name_of fault.Mismatch = codes "Mismatch"
name_of fault.NoNewTile = codes "NoNewTile"
name_of fault.TooManyTiles = codes "TooManyTiles"
name_of fault.NotWhole = codes "NotWhole"
name_of fault.MissesCentre = codes "MissesCentre"
name_of fault.TooShort = codes "TooShort"
name_of fault.Apart = codes "Apart"
