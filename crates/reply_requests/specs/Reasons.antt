-- Which refusals of an object are right.
use Rattle.std.specs.Prelude.{◌≡◌, ◌⊎◌, ◌^◌, ◌-◌, is_some, false, ℕ, List, [], map, codes, Some, None}
use Rattle.std.specs.Borrow.{Bor}
use Rattle.serde_json.specs.Data.{Data}
use Rattle.serde_json.specs.Find.{as_object}
use Rattle.reply_requests.specs.declared.commands.Command.{Command}
use Rattle.reply_requests.specs.declared.commands.Command.TheVariants as command
use Rattle.reply_requests.specs.declared.refusals.Refusal.{Refusal}
use Rattle.reply_requests.specs.declared.refusals.Refusal.TheVariants as refusal
use Rattle.reply_requests.specs.declared.requests.Request.{Request}
use Rattle.reply_requests.specs.Said.{value_at, text_said, flag_said, number_said}
use Rattle.reply_requests.specs.Asked.{name_of, is_id, IsAmong, IsRequestIn, MayHave, keys_in, text_data, texts_data}

-- no command has this name
abbrev pub IsNoName : List ℕ → Type 0
IsNoName name = (asked : Command) → name_of asked ≡ name → ⊥

-- items of a list that are not all texts
abbrev pub AreNoTexts : List Data → Type 0
AreNoTexts items = (texts : List (Bor (List ℕ))) → items ≡ map text_data texts → ⊥

-- The value of a key is there, and it is no text, no flag, no number between these two, no list of texts.
abbrev pub IsNoText : (key : List ℕ) → Data → Refusal → Type 0
IsNoText key d why = (name : Bor (List ℕ)) × (why ≡ refusal.NoText name) × (name.now ≡ key) × (text_said key d ≡ None)

abbrev pub IsNoFlag : (key : List ℕ) → Data → Refusal → Type 0
IsNoFlag key d why = (name : Bor (List ℕ)) × (why ≡ refusal.NoFlag name) × (name.now ≡ key) × (flag_said key d ≡ None)

abbrev pub IsNoNumber : (least most : ℕ) → (key : List ℕ) → Data → Refusal → Type 0
IsNoNumber least most key d why = (name : Bor (List ℕ)) × (why ≡ refusal.NoNumber name least most) × (name.now ≡ key) × (number_said least most key d ≡ None)

abbrev pub IsNoList : (key : List ℕ) → Data → Refusal → Type 0
IsNoList key d why = (name : Bor (List ℕ)) × (why ≡ refusal.NoTexts name) × (name.now ≡ key) × ((texts : List (Bor (List ℕ))) → value_at key d ≡ Some (texts_data texts) → ⊥)

-- What the command needs is missing: the text of a record, its words, or both a rack and a line.
abbrev pub LacksSheet : (key : List ℕ) → Command → Data → Refusal → Type 0
LacksSheet key asked d why = (name : Bor (List ℕ)) × (why ≡ refusal.Missing asked name) × (name.now ≡ key) × (text_said key d ≡ Some None)

abbrev pub LacksWords : Data → Refusal → Type 0
LacksWords d why =
    (name : Bor (List ℕ)) × (why ≡ refusal.Missing command.Word name) × (name.now ≡ codes "words")
    × ((value_at (codes "words") d ≡ None) ⊎ (value_at (codes "words") d ≡ Some (texts_data [])))

abbrev pub LacksRack : Data → Refusal → Type 0
LacksRack d why =
    (name : Bor (List ℕ)) × (why ≡ refusal.Missing command.Top name) × (name.now ≡ codes "rack or line")
    × (text_said (codes "rack") d ≡ Some None) × (value_at (codes "line") d ≡ None)

-- The text of a record, the line, or how many of something are asked for is not given as it has to be.
abbrev pub IsBadSheet : (key : List ℕ) → Command → Data → Refusal → Type 0
IsBadSheet key asked d why = IsNoText key d why ⊎ LacksSheet key asked d why

abbrev pub IsBadGame : Command → Data → Refusal → Type 0
IsBadGame asked d why = IsBadSheet (codes "game") asked d why

abbrev pub IsBadLine : Data → Refusal → Type 0
IsBadLine d why = IsNoNumber 0 (2 ^ 32 - 1) (codes "line") d why

abbrev pub IsBadNumber : Data → Refusal → Type 0
IsBadNumber d why = IsNoNumber 1 100 (codes "number") d why

-- A value that the command needs is not given as it has to be. Only where words are read may memory be refused.
abbrev pub IsBadFor : Command → Data → Refusal → Type 0
IsBadFor command.Judge d why = IsBadGame command.Judge d why ⊎ (IsNoFlag (codes "settle") d why ⊎ IsNoFlag (codes "best") d why)
IsBadFor command.Explain d why = IsBadGame command.Explain d why ⊎ (IsBadLine d why ⊎ (IsNoFlag (codes "likely") d why ⊎ IsNoFlag (codes "draft") d why))
IsBadFor command.Audit d why = IsBadGame command.Audit d why ⊎ IsNoFlag (codes "corrected") d why
IsBadFor command.Board d why = IsBadGame command.Board d why ⊎ (IsBadLine d why ⊎ IsNoFlag (codes "draft") d why)
IsBadFor command.Top d why =
    IsBadGame command.Top d why ⊎ (IsBadLine d why ⊎ (IsNoText (codes "rack") d why ⊎ (IsBadNumber d why ⊎ LacksRack d why)))
IsBadFor command.Word d why = IsNoList (codes "words") d why ⊎ (LacksWords d why ⊎ (why ≡ refusal.NoMemory))
IsBadFor command.Check d why = ⊥
IsBadFor command.Tidy d why = IsBadGame command.Tidy d why
IsBadFor command.Page d why = IsBadGame command.Page d why ⊎ IsNoFlag (codes "likely") d why
IsBadFor command.Repair d why = IsBadGame command.Repair d why ⊎ (IsBadNumber d why ⊎ (IsNoFlag (codes "repaired") d why ⊎ IsNoFlag (codes "draft") d why))
IsBadFor command.Compare d why =
    IsBadSheet (codes "first") command.Compare d why
    ⊎ (IsBadSheet (codes "second") command.Compare d why ⊎ (IsNoFlag (codes "merged") d why ⊎ IsNoFlag (codes "draft") d why))
IsBadFor command.Annotate d why = IsBadGame command.Annotate d why ⊎ IsBadNumber d why
IsBadFor command.Fill d why = IsBadSheet (codes "draft") command.Fill d why ⊎ IsNoFlag (codes "filled") d why
IsBadFor command.Next d why = IsBadSheet (codes "draft") command.Next d why

-- a key that a request for the command may not have
abbrev pub IsOtherKey : Command → Data → Refusal → Type 0
IsOtherKey asked d why = (key : Bor (List ℕ)) × (why ≡ refusal.NoSuchKey asked key) × IsAmong (keys_in d) key.now × (MayHave asked key.now → ⊥)

-- The object names no command.
abbrev pub NamesNone : Data → Refusal → Type 0
NamesNone d why =
    ((why ≡ refusal.NoObject) × (is_some (as_object d) ≡ false))
    ⊎ (((why ≡ refusal.NoCommand) × (value_at (codes "do") d ≡ None))
    ⊎ ((why ≡ refusal.NoName) × (text_said (codes "do") d ≡ None)))

abbrev pub NamesNoCommand : Data → Refusal → Type 0
NamesNoCommand d why = (name : Bor (List ℕ)) × (why ≡ refusal.NoSuchCommand name) × (text_said (codes "do") d ≡ Some (Some name.now)) × IsNoName name.now

-- The object is refused for this reason: it names no command, or it has a key that its command has not, or a value is not given as it has to be.
abbrev pub IsReason : Data → Refusal → Type 0
IsReason d why =
    NamesNone d why
    ⊎ (NamesNoCommand d why
    ⊎ ((asked : Command) × (text_said (codes "do") d ≡ Some (Some (name_of asked))) × (IsOtherKey asked d why ⊎ IsBadFor asked d why)))

-- If the object is a request, then memory was refused.
abbrev pub IsRefusedForMemoryAlone : Data → Refusal → Type 0
IsRefusedForMemoryAlone d why = (r : Request) → IsRequestIn d r → why ≡ refusal.NoMemory

-- An id is refused if it is neither a text nor a number.
abbrev pub IsReasonOfId : Data → Refusal → Type 0
IsReasonOfId d why = (why ≡ refusal.NoId) × ((v : Data) × (value_at (codes "id") d ≡ Some v) × (is_id v ≡ false))
