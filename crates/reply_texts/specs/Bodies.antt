-- An answer to a program: what of it is an object, and what is a text.
use Rattle.std.specs.Prelude.{ℕ, List, Vec, Option, Some, None}
use Rattle.json.specs.Json.{Json}
use Rattle.json_trees.specs.Trees.{view}
use Rattle.reply_texts.specs.declared.bodies.Body.{Body}
use Rattle.reply_texts.specs.declared.bodies.Body.TheVariants as body

-- the bytes of a text, if there is one
abbrev pub bytes_of : {Z : Type 0} → Option (Vec ℕ Z) → Option (List ℕ)
bytes_of None = None
bytes_of (Some text) = Some text.items

abbrev pub object_in : Body → Option Json
object_in (body.Object tree) = Some (view tree)
object_in (body.Text text) = None
object_in (body.Both tree text) = Some (view tree)

abbrev pub text_in : Body → Option (List ℕ)
text_in (body.Object tree) = None
text_in (body.Text text) = Some text.items
text_in (body.Both tree text) = Some text.items
