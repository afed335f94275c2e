-- What a line says of a player.
use Rattle.std.specs.Prelude.{ℕ, List, [], ◌∷◌, Option, Some, None}
use Rattle.gcg_about.specs.declared.encodings.Encoding.{Encoding}
use Rattle.gcg_about.specs.Texts.{text_by}

-- the text of a nickname, if there is one
abbrev pub nick_of : Encoding → List ℕ → Option (List ℕ)
nick_of encoding [] = None
nick_of encoding (byte ∷ bytes) = Some (text_by encoding (byte ∷ bytes))
