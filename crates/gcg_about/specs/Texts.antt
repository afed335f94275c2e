-- Bytes as text.
use Rattle.std.specs.Prelude.{ℕ, List}
use Rattle.std.specs.Char.{encode_utf8}
use Rattle.std.specs.List.{flat_map}
use Rattle.std.specs.Str.Lossy.{utf8_lossy}
use Rattle.gcg_about.specs.declared.encodings.Encoding.{Encoding}
use Rattle.gcg_about.specs.declared.encodings.Encoding.TheVariants.{Utf8, Latin1}

-- the UTF-8 of bytes: of those that are UTF-8 already, or of the characters with their numbers
abbrev pub text_by : Encoding → List ℕ → List ℕ
text_by Utf8 bytes = utf8_lossy bytes
text_by Latin1 bytes = flat_map encode_utf8 bytes
