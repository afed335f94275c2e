-- The premiums of squares, as bytes.
use Rattle.std.specs.Prelude.{ℕ, ◌==◌, Option, Some, None, if◌then◌else◌}
use Rattle.ref_tiles.specs.declared.premiums.Premium.{Premium}
use Rattle.ref_tiles.specs.declared.premiums.Premium.TheVariants as premium

-- '.' is a plain square, 'd' and 't' double and triple a letter, 'D' and 'T' a word
unfoldable pub premium_of : ℕ → Option Premium
premium_of byte =
    if byte == 46 then Some premium.Plain
    else (if byte == 100 then Some premium.DoubleLetter
    else (if byte == 116 then Some premium.TripleLetter
    else (if byte == 68 then Some premium.DoubleWord
    else (if byte == 84 then Some premium.TripleWord else None))))
