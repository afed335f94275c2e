use Rattle.std.proofs.Common.{◌≡◌, take}
use Rattle.std.specs.Char.{encode_utf8}
use Rattle.std.specs.List.{flat_map}
use Rattle.std.specs.String.{string_bytes}
use Rattle.gcg_about.proofs.texts.latin_text.Given as goal

abbrev pub invariant-loop-byte : goal.invariant-loop-byte
invariant-loop-byte l = string_bytes l.text ≡ flat_map encode_utf8 (take l.byte-index l.bytes)
