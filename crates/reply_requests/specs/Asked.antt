-- Which objects are which requests.
use Rattle.std.specs.Prelude.{◌≡◌, ◌⊎◌, ◌||◌, is_some, ◌^◌, ◌-◌, ℕ, Bool, true, false, List, [], ◌∷◌, map, codes, Option, Some, None, unwrap_or}
use Rattle.std.specs.Borrow.{Bor}
use Rattle.std.specs.Option.{option_copied}
use Rattle.serde_json.specs.Data.{Data, null, boolean, number, string, array, object, Members, no_members, member}
use Rattle.serde_json.specs.Find.{as_str, as_number}
use Rattle.serde_json.specs.View.{items_of}
use Rattle.reply_requests.specs.declared.commands.Command.{Command}
use Rattle.reply_requests.specs.declared.commands.Command.TheVariants as command
use Rattle.reply_requests.specs.declared.requests.Request.{Request}
use Rattle.reply_requests.specs.declared.requests.Request.TheVariants as request
use Rattle.reply_requests.specs.Said.{value_at, text_said, flag_said, number_said}

-- the name of a command
abbrev pub name_of : Command → List ℕ
name_of command.Judge = codes "judge"
name_of command.Explain = codes "explain"
name_of command.Audit = codes "audit"
name_of command.Board = codes "board"
name_of command.Top = codes "top"
name_of command.Word = codes "word"
name_of command.Check = codes "check"
name_of command.Tidy = codes "tidy"
name_of command.Page = codes "page"
name_of command.Repair = codes "repair"
name_of command.Compare = codes "compare"
name_of command.Annotate = codes "annotate"
name_of command.Fill = codes "fill"
name_of command.Next = codes "next"

-- the text of a record, by its key
abbrev pub IsSheet : (key : List ℕ) → Data → (text : List ℕ) → Type 0
IsSheet key d text = text_said key d ≡ Some (Some text)

abbrev pub IsGame : Data → (text : List ℕ) → Type 0
IsGame d text = IsSheet (codes "game") d text

-- a line of a record: a number that fits in 32 bits
abbrev pub line_said : Data → Option (Option ℕ)
line_said d = number_said 0 (2 ^ 32 - 1) (codes "line") d

-- how many of something are asked for, at most a hundred, if that is said
abbrev pub number_asked : Data → Option (Option ℕ)
number_asked d = number_said 1 100 (codes "number") d

-- a flag, which is `otherwise` if it is not given
abbrev pub IsFlag : (key : List ℕ) → (otherwise : Bool) → Data → Bool → Type 0
IsFlag key otherwise d flag = (reported : Option Bool) × (flag_said key d ≡ Some reported) × (flag ≡ unwrap_or reported otherwise)

-- a list of texts
abbrev pub text_data : Bor (List ℕ) → Data
text_data text = string text.now

abbrev pub texts_data : List (Bor (List ℕ)) → Data
texts_data texts = array (items_of (map text_data texts))

-- the command that a request is for
abbrev pub command_of : Request → Command
command_of (request.Judge game settle best) = command.Judge
command_of (request.Explain game line likely lead draft) = command.Explain
command_of (request.Audit game corrected) = command.Audit
command_of (request.Board game line draft) = command.Board
command_of (request.Top game line rack plays) = command.Top
command_of (request.Word words) = command.Word
command_of request.Check = command.Check
command_of (request.Tidy game) = command.Tidy
command_of (request.Page game likely) = command.Page
command_of (request.Repair game many repaired draft) = command.Repair
command_of (request.Compare first second merged draft) = command.Compare
command_of (request.Annotate game many) = command.Annotate
command_of (request.Fill draft filled) = command.Fill
command_of (request.Next draft) = command.Next

-- the keys that a request for a command may have besides `id` and `do`
abbrev pub keys_of : Command → List (List ℕ)
keys_of command.Judge = codes "game" ∷ codes "settle" ∷ codes "best" ∷ []
keys_of command.Explain = codes "game" ∷ codes "line" ∷ codes "likely" ∷ codes "draft" ∷ []
keys_of command.Audit = codes "game" ∷ codes "corrected" ∷ []
keys_of command.Board = codes "game" ∷ codes "line" ∷ codes "draft" ∷ []
keys_of command.Top = codes "game" ∷ codes "line" ∷ codes "rack" ∷ codes "number" ∷ []
keys_of command.Word = codes "words" ∷ []
keys_of command.Check = []
keys_of command.Tidy = codes "game" ∷ []
keys_of command.Page = codes "game" ∷ codes "likely" ∷ []
keys_of command.Repair = codes "game" ∷ codes "number" ∷ codes "repaired" ∷ codes "draft" ∷ []
keys_of command.Compare = codes "first" ∷ codes "second" ∷ codes "merged" ∷ codes "draft" ∷ []
keys_of command.Annotate = codes "game" ∷ codes "number" ∷ []
keys_of command.Fill = codes "draft" ∷ codes "filled" ∷ []
keys_of command.Next = codes "draft" ∷ []

abbrev pub IsAmong : (keys : List (List ℕ)) → (key : List ℕ) → Type 0
IsAmong [] key = ⊥
IsAmong (one ∷ more) key = (one ≡ key) ⊎ IsAmong more key

-- the keys that it may have
abbrev pub MayHave : Command → (key : List ℕ) → Type 0
MayHave asked key = IsAmong (codes "id" ∷ codes "do" ∷ keys_of asked) key

-- the keys that an object has
abbrev pub members_keys : Members → List (List ℕ)
members_keys no_members = []
members_keys (member key d ms) = key ∷ members_keys ms

abbrev pub keys_in : Data → List (List ℕ)
keys_in null = []
keys_in (boolean b) = []
keys_in (number n) = []
keys_in (string s) = []
keys_in (array ds) = []
keys_in (object ms) = members_keys ms

-- Each key of the object is one that the command may have.
abbrev pub HasOnlyKeysOf : Command → Data → Type 0
HasOnlyKeysOf asked d = (key : List ℕ) → IsAmong (keys_in d) key → MayHave asked key

-- What an object says for a request, by the values of its keys.
abbrev pub Says : Data → Request → Type 0
Says d (request.Judge game settle best) = IsGame d game.now × IsFlag (codes "settle") false d settle × IsFlag (codes "best") true d best
-- A request in JSON never asks who is ahead: the command line does, for a text.
Says d (request.Explain game line likely lead draft) =
    IsGame d game.now × (line_said d ≡ Some line) × IsFlag (codes "likely") true d likely × IsFlag (codes "draft") false d draft × (lead ≡ false)
Says d (request.Audit game corrected) = IsGame d game.now × IsFlag (codes "corrected") false d corrected
Says d (request.Board game line draft) = IsGame d game.now × (line_said d ≡ Some line) × IsFlag (codes "draft") false d draft
Says d (request.Top game line rack plays) =
    IsGame d game.now × (line_said d ≡ Some line) × (text_said (codes "rack") d ≡ Some (option_copied rack)) × (number_asked d ≡ Some plays)
    × ((line ≡ None) → (rack ≡ None) → ⊥)
Says d (request.Word words) = (value_at (codes "words") d ≡ Some (texts_data words.items)) × ((words.items ≡ []) → ⊥)
Says d request.Check = Unit {0}
Says d (request.Tidy game) = IsGame d game.now
Says d (request.Page game likely) = IsGame d game.now × IsFlag (codes "likely") true d likely
Says d (request.Repair game many repaired draft) =
    IsGame d game.now × (number_asked d ≡ Some many) × IsFlag (codes "repaired") false d repaired × IsFlag (codes "draft") false d draft
Says d (request.Compare first second merged draft) =
    IsSheet (codes "first") d first.now × IsSheet (codes "second") d second.now × IsFlag (codes "merged") false d merged × IsFlag (codes "draft") false d draft
Says d (request.Annotate game many) = IsGame d game.now × (number_asked d ≡ Some many)
Says d (request.Fill draft filled) = IsSheet (codes "draft") d draft.now × IsFlag (codes "filled") false d filled
Says d (request.Next draft) = IsSheet (codes "draft") d draft.now

-- for this command, it says this
abbrev pub IsRequestFor : Command → Data → Request → Type 0
IsRequestFor asked d r = (command_of r ≡ asked) × Says d r

-- An object is this request: it names its command, it has no key that the command has not, and this is what it says.
pub record IsRequestIn (d : Data) (r : Request) : Type 0 where
  pub named : text_said (codes "do") d ≡ Some (Some (name_of (command_of r)))
  pub keys : HasOnlyKeysOf (command_of r) d
  pub says : Says d r

-- The id that an object has, if any: a text or a number.
abbrev pub is_id : Data → Bool
is_id d = is_some (as_str d) || is_some (as_number d)
