-- Symbols and the bytes that write them.
use Rattle.std.proofs.Common.{◌≡◌, ℕ, ◌+◌, ◌-◌, Bool, true, false, nat_lt, Some, IfSome, refl, arith}
use Rattle.std.proofs.lemmas.Bool.Decides.{nat_tests}
use Rattle.ref_tiles.specs.declared.letters.Letter.{Letter}
use Rattle.ref_tiles.specs.declared.symbols.Symbol.{Symbol}
use Rattle.ref_tiles.specs.declared.symbols.Symbol.TheVariants as symbol
use Rattle.ref_tiles.specs.Letters.{letter_at, letter_if, letter_from}
use Rattle.ref_tiles.specs.Symbols.{symbol_of, byte_of}
use Rattle.ref_tiles.proofs.LetterLemmas.{letter_at_letter}

sub_front : (m n : ℕ) → m + n - m ≡ n
sub_front m n = omega arith

-- the letter counted from any first byte
pub letter_from-letter : (first : ℕ) (l : Letter) → letter_from first (first + l.index) ≡ Some l
letter_from-letter first l = grind (arith, nat_tests, sub_front first l.index, letter_at_letter l)

pub read_again : (symbol : Symbol) → symbol_of (byte_of symbol) ≡ Some symbol
read_again symbol.Dot = refl
read_again (symbol.Letter l) =
    let in_range = l.in_range in
    grind (arith, nat_tests, letter_from-letter 65 l)
read_again (symbol.Blank l) =
    let in_range = l.in_range in
    grind (arith, nat_tests, letter_from-letter 97 l)

-- the place of the letter that is found
letter_if-place : (n : ℕ) (b : Bool) (e : nat_lt n 26 ≡ b) → IfSome (letter_if n b e) (λ l. l.index ≡ n)
letter_if-place n true e = refl
letter_if-place n false e = tt

pub letter_at-place : (n : ℕ) → IfSome (letter_at n) (λ l. l.index ≡ n)
unfolding letter_at
letter_at-place n = letter_if-place n (nat_lt n 26) refl

pub written_again : (byte : ℕ) → IfSome (symbol_of byte) (λ symbol. byte_of symbol ≡ byte)
written_again byte = grind (arith, nat_tests, letter_at-place (byte - 65), letter_at-place (byte - 97))
