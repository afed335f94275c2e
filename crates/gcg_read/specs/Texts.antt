-- The text of a play, as the bytes of a record write it.
use Rattle.std.specs.Prelude.{ℕ, Bool, not, ◌&&◌, ◌||◌, ◌==◌, nat_le, List, length, Option, Some, None, is_some, if◌then◌else◌}
use Rattle.std.specs.List.{list_all, filter, filter_map}
use Rattle.ref_tiles.specs.declared.symbols.Symbol.{Symbol}
use Rattle.ref_tiles.specs.Symbols.{symbol_of}

-- '(' or ')'
abbrev pub is_bracket : ℕ → Bool
is_bracket byte = byte == 40 || byte == 41

-- the bytes without the brackets
abbrev pub bare : List ℕ → List ℕ
bare bytes = filter (λ byte. not (is_bracket byte)) bytes

-- a letter of either case or a dot
abbrev pub is_symbol : ℕ → Bool
is_symbol byte = is_some (symbol_of byte)

-- what letters and dots write
abbrev pub symbols_of : List ℕ → List Symbol
symbols_of bytes = filter_map symbol_of bytes

-- 1 to 15 letters and dots
abbrev pub is_text : List ℕ → Bool
is_text bytes = nat_le 1 (length bytes) && nat_le (length bytes) 15 && list_all is_symbol bytes

-- what 1 to 15 letters and dots write
abbrev pub bare_text_of : List ℕ → Option (List Symbol)
bare_text_of bytes = if is_text bytes then Some (symbols_of bytes) else None

-- every bracket is ignored, and 1 to 15 letters and dots remain
abbrev pub text_of : List ℕ → Option (List Symbol)
text_of bytes = bare_text_of (bare bytes)
