-- Faults, their names, and how readers answer them.
use Rattle.std.specs.Prelude.{◌≡◌, ◌⊎◌, ℕ, List, Result, Ok, Err, codes}
use Rattle.gcg_read.specs.declared.faults.Why.{Why}
use Rattle.gcg_read.specs.declared.faults.Why.TheVariants as why
use Rattle.gcg_read.specs.declared.faults.ReadFault.{ReadFault}

-- the name of a fault, as reports print it
abbrev pub name_of : Why → List ℕ
name_of why.TooLong = codes "TooLong"
name_of why.TooManyEvents = codes "TooManyEvents"
name_of why.NoColon = codes "NoColon"
name_of why.ThirdPlayer = codes "ThirdPlayer"
name_of why.Fields = codes "Fields"
name_of why.Rack = codes "Rack"
name_of why.Position = codes "Position"
name_of why.Word = codes "Word"
name_of why.Number = codes "Number"
name_of why.Code = codes "Code"
name_of why.NoMemory = codes "NoMemory"

-- lack of memory is not on a line
abbrev pub no_memory : ReadFault
no_memory = record { line = 0; why = why.NoMemory }

-- the steps of a reading in order, up to the first that fails
infixl 10 ◌>>=◌
abbrev pub ◌>>=◌ : {A B E : Type 0} → Result A E → (A → Result B E) → Result B E
(Ok x) >>= f = f x
(Err e) >>= f = Err e

-- the fault as one of this line
abbrev pub on_line : {A : Type 0} → ℕ → Result A Why → Result A ReadFault
on_line line (Ok x) = Ok x
on_line line (Err w) = Err (record { line = line; why = w })

-- The answer is the meaning of the text, or its first fault, or lack of memory.
abbrev pub Gives : {A : Type 0} → Result A ReadFault → Result A ReadFault → Type 0
Gives (Ok x) meaning = meaning ≡ Ok x
Gives (Err fault) meaning = (fault ≡ no_memory) ⊎ (meaning ≡ Err fault)

-- The same for a change: `new` is what the text makes of the value, unless the call fails.
abbrev pub Makes : {A : Type 0} → A → Result (Unit {0}) ReadFault → Result A ReadFault → Type 0
Makes new (Ok _) meaning = meaning ≡ Ok new
Makes new (Err fault) meaning = (fault ≡ no_memory) ⊎ (meaning ≡ Err fault)
