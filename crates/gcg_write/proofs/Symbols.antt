-- Texts of plays as they are written, read again.
use Rattle.std.proofs.Common.{◌≡◌, ℕ, suc, ◌≤◌, true, not, ◌&&◌, List, [], ◌∷◌, length, nat_le, Option, Some, None, is_some, arith, sym, ap, refl, ◌∙◌}
use Rattle.std.specs.List.{list_all, cons_option}
use Rattle.std.proofs.lemmas.List.{length-map}
use Rattle.std.proofs.lemmas.Bool.Decides.{nat_tests}
use Rattle.ref_tiles.specs.declared.symbols.Symbol.{Symbol}
use Rattle.ref_tiles.specs.declared.symbols.Symbol.TheVariants as symbol
use Rattle.ref_tiles.specs.Symbols.{symbol_of, byte_of}
use Rattle.ref_tiles.proofs.SymbolLemmas.{read_again}
use Rattle.gcg_read.specs.Texts.{is_bracket, bare, is_symbol, symbols_of, is_text, text_of}
use Rattle.gcg_write.specs.Fields.{word_text}
use Rattle.gcg_write.proofs.Each.{Each}
use Rattle.gcg_write.proofs.Inversions.{both, le_from, chosen}
use Rattle.gcg_write.proofs.Digits.{le_true}

-- a letter of either case or a dot
abbrev pub IsGraphic : ℕ → Type 0
IsGraphic byte = (42 ≤ byte) × (byte ≤ 122)

symbol_graphic : (s : Symbol) → IsGraphic (byte_of s)
symbol_graphic symbol.Dot = (omega arith, omega arith)
symbol_graphic (symbol.Letter l) = let in_range = l.in_range in (omega arith, omega arith)
symbol_graphic (symbol.Blank l) = let in_range = l.in_range in (omega arith, omega arith)

pub word_graphic : (word : List Symbol) → Each IsGraphic (word_text word)
word_graphic [] = tt
word_graphic (s ∷ word) = (symbol_graphic s, word_graphic word)

no_bracket : (byte : ℕ) → IsGraphic byte → not (is_bracket byte) ≡ true
no_bracket byte h = grind (arith, nat_tests)

bare_again : (bytes : List ℕ) → Each IsGraphic bytes → bare bytes ≡ bytes
bare_again [] h = refl
bare_again (byte ∷ bytes) h = rw (no_bracket byte h.0, bare_again bytes h.1) refl

symbols_again : (word : List Symbol) → symbols_of (word_text word) ≡ word
symbols_again [] = refl
symbols_again (s ∷ word) = rw (read_again s, symbols_again word) refl

each_symbol : (word : List Symbol) → list_all is_symbol (word_text word) ≡ true
each_symbol [] = refl
each_symbol (s ∷ word) = rw (read_again s, each_symbol word) refl

pub word_again : (word : List Symbol) → 1 ≤ length word → length word ≤ 15 → text_of (word_text word) ≡ Some word
word_again word some few =
    rw (bare_again (word_text word) (word_graphic word), length-map word byte_of, le_true 1 (length word) some, le_true (length word) 15 few, each_symbol word)
    (ap Some (symbols_again word))

-- ---- what is read as a text

counted : (o : Option Symbol) (symbols : List Symbol) → is_some o ≡ true → length (cons_option o symbols) ≡ suc (length symbols)
counted None symbols e = absurd cc
counted (Some s) symbols e = refl

length-symbols : (bytes : List ℕ) → list_all is_symbol bytes ≡ true → length (symbols_of bytes) ≡ length bytes
length-symbols [] h = refl
length-symbols (byte ∷ bytes) h =
    let parts = both (is_symbol byte) (list_all is_symbol bytes) h in
    counted (symbol_of byte) (symbols_of bytes) parts.0 ∙ ap suc (length-symbols bytes parts.1)

pub text_read : (bytes : List ℕ) (word : List Symbol) → text_of bytes ≡ Some word → (1 ≤ length word) × (length word ≤ 15)
text_read bytes word e =
    let taken = chosen (is_text (bare bytes)) (symbols_of (bare bytes)) word e in
    let outer = both (nat_le 1 (length (bare bytes)) && nat_le (length (bare bytes)) 15) (list_all is_symbol (bare bytes)) taken.0 in
    let inner = both (nat_le 1 (length (bare bytes))) (nat_le (length (bare bytes)) 15) outer.0 in
    let size : length word ≡ length (bare bytes) = ap length (sym taken.1) ∙ length-symbols (bare bytes) outer.1 in
    let some = le_from 1 (length (bare bytes)) inner.0 in
    let few = le_from (length (bare bytes)) 15 inner.1 in
    (omega arith, omega arith)
