-- Faults, their names, and how a reader answers them.
use Rattle.std.specs.Prelude.{◌≡◌, ◌⊎◌, ℕ, List, Result, Ok, Err, codes}
use Rattle.lex_list.specs.declared.faults.ListWhy.{ListWhy}
use Rattle.lex_list.specs.declared.faults.ListWhy.TheVariants as why
use Rattle.lex_list.specs.declared.faults.ListFault.{ListFault}

-- the name of a fault, as reports print it
abbrev pub name_of : ListWhy → List ℕ
name_of why.BadLetter = codes "BadLetter"
name_of why.BadLength = codes "BadLength"
name_of why.TooMany = codes "TooMany"
name_of why.TooLong = codes "TooLong"
name_of why.NoMemory = codes "NoMemory"

-- lack of memory is not on a line
abbrev pub no_memory : ListFault
no_memory = record { line = 0; why = why.NoMemory }

-- The answer is the meaning of the text, or its first fault, or lack of memory.
abbrev pub Gives : {A : Type 0} → Result A ListFault → Result A ListFault → Type 0
Gives (Ok x) meaning = meaning ≡ Ok x
Gives (Err fault) meaning = (fault ≡ no_memory) ⊎ (meaning ≡ Err fault)
