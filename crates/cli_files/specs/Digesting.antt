-- What a reader has given out.
use Rattle.std.specs.Prelude.{ℕ, List, Option, Some, None}
use Rattle.sha2.specs.Hashers.{Holds256}
use Rattle.sha2.specs.declared.Sha256.{Sha256}

-- these bytes were given out, one chunk after the other, as far as the digest knows, if there is one
abbrev pub HasHandedOut : Option Sha256 → List ℕ → Type 0
HasHandedOut None bytes = Unit {0}
HasHandedOut (Some hasher) bytes = Holds256 hasher bytes
