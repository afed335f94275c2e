-- The names of the faults of a compiled lexicon.
use Rattle.std.specs.Prelude.{ℕ, List, codes}
use Rattle.lex_file.specs.declared.faults.FileFault.{FileFault}
use Rattle.lex_file.specs.declared.faults.FileFault.TheVariants as why

-- the name of a fault, as reports print it
abbrev pub name_of : FileFault → List ℕ
name_of why.Short = codes "Short"
name_of why.Magic = codes "Magic"
name_of why.Length = codes "Length"
name_of why.Root = codes "Root"
name_of why.Label = codes "Label"
name_of why.Order = codes "Order"
name_of why.Target = codes "Target"
name_of why.DeadArc = codes "DeadArc"
name_of why.OpenRun = codes "OpenRun"
name_of why.NoMark = codes "NoMark"
name_of why.Mask = codes "Mask"
name_of why.Accept = codes "Accept"
