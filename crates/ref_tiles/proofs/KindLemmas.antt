-- Kinds of tiles and the bytes that write them.
use Rattle.std.proofs.Common.{◌≡◌, ℕ, ◌-◌, Some, IfSome, refl, arith}
use Rattle.std.proofs.lemmas.Bool.Decides.{nat_tests}
use Rattle.ref_tiles.specs.declared.kinds.Kind.{Kind}
use Rattle.ref_tiles.specs.declared.kinds.Kind.TheVariants as kind
use Rattle.ref_tiles.specs.Kinds.{kind_of, kind_byte}
use Rattle.ref_tiles.proofs.SymbolLemmas.{letter_from-letter, letter_at-place}

pub read_again : (k : Kind) → kind_of (kind_byte k) ≡ Some k
read_again kind.Blank = refl
read_again (kind.Letter l) =
    let in_range = l.in_range in
    grind (arith, nat_tests, letter_from-letter 65 l)

pub written_again : (byte : ℕ) → IfSome (kind_of byte) (λ k. kind_byte k ≡ byte)
written_again byte = grind (arith, nat_tests, letter_at-place (byte - 65))
