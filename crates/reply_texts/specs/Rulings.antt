-- What is written of the ruling on words.
use Rattle.std.specs.Prelude.{ℕ, Bool, true, false, List, codes, Option, Some, None}
use Rattle.reply_answers.specs.declared.words.Ruled.{Ruled}

-- that words are acceptable, or that they are not
unfoldable pub ruling_line : (acceptable : Bool) → List ℕ
ruling_line true = codes "acceptable\n"
ruling_line false = codes "not acceptable\n"

-- that a text is not a word
unfoldable pub bad_word_line : List ℕ
bad_word_line = codes "bad word\n"

-- the line about all words together
abbrev pub ruled_line : Option Ruled → List ℕ
ruled_line (Some ruled) = ruling_line ruled.ruling.acceptable
ruled_line None = bad_word_line
