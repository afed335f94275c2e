-- An object that is refused for a reason is no request, unless memory was refused.
use Rattle.std.proofs.Common.{◌≡◌, inl, inr, ◌==◌, if◌then◌else◌, is_some, true, false, ℕ, Bool, List, [], ◌∷◌, codes, Option, Some, None, Result, Ok, Err, IfErr, option_and_then, unwrap_or, map, ◌^◌, ◌-◌, refl, sym, ap, ◌∙◌, subst}
use Rattle.std.specs.Borrow.{Bor}
use Rattle.std.specs.Option.{option_copied}
use Rattle.serde_json.specs.Data.{Data, null, boolean, number, string, array, object, Items, no_items, item}
use Rattle.serde_json.specs.Find.{as_str, as_array, as_object}
use Rattle.serde_json.specs.View.{items_of}
use Rattle.reply_requests.specs.declared.commands.Command.{Command}
use Rattle.reply_requests.specs.declared.commands.Command.TheVariants as command
use Rattle.reply_requests.specs.declared.refusals.Refusal.{Refusal}
use Rattle.reply_requests.specs.declared.refusals.Refusal.TheVariants as refusal
use Rattle.reply_requests.specs.declared.requests.Request.{Request}
use Rattle.reply_requests.specs.declared.requests.Request.TheVariants as request
use Rattle.reply_requests.specs.Said.{value_at, text_said, flag_said, number_said, said, number_in}
use Rattle.reply_requests.specs.Asked.{name_of, command_of, text_data, texts_data, IsGame, IsSheet, IsFlag, IsRequestIn, MayHave, Says, line_said}
use Rattle.reply_requests.specs.Reasons.{IsNoText, IsNoFlag, IsNoNumber, IsBadSheet, IsBadFor, LacksWords, LacksRack, NamesNone, IsReason, IsRefusedForMemoryAlone}

-- the command of a name, by its first two letters
abbrev by_letters : (x y : ℕ) → Command
by_letters x y =
    if x == 106 then command.Judge else
    if x == 101 then command.Explain else
    if x == 97 then (if y == 117 then command.Audit else command.Annotate) else
    if x == 98 then command.Board else
    if x == 119 then command.Word else
    if x == 112 then command.Page else
    if x == 114 then command.Repair else
    if x == 99 then (if y == 104 then command.Check else command.Compare) else
    if x == 102 then command.Fill else
    if x == 110 then command.Next else
    if y == 111 then command.Top else command.Tidy

abbrev by_name : List ℕ → Command
by_name (x ∷ y ∷ rest) = by_letters x y
by_name other = command.Judge

by_its_name : (asked : Command) → by_name (name_of asked) ≡ asked
by_its_name command.Judge = refl
by_its_name command.Explain = refl
by_its_name command.Audit = refl
by_its_name command.Board = refl
by_its_name command.Top = refl
by_its_name command.Word = refl
by_its_name command.Check = refl
by_its_name command.Tidy = refl
by_its_name command.Page = refl
by_its_name command.Repair = refl
by_its_name command.Compare = refl
by_its_name command.Annotate = refl
by_its_name command.Fill = refl
by_its_name command.Next = refl

same_command : (one other : Command) → name_of one ≡ name_of other → one ≡ other
same_command one other is = sym (by_its_name one) ∙ ap by_name is ∙ by_its_name other

same_some : {A : Type 0} (x y : A) → Some x ≡ Some y → x ≡ y
same_some x y is = ap (λ o. unwrap_or o x) is

some_is_not_none : {A : Type 0} (x : A) → Some x ≡ None → ⊥
some_is_not_none x is = cc

-- what is said is not refused
not_both : {A : Type 0} (o : Option A) (x : A) → o ≡ Some x → o ≡ None → ⊥
not_both o x is none = some_is_not_none x (sym is ∙ none)

said_is_some : {A : Type 0} (o : Option (Option A)) (x : A) → o ≡ Some (Some x) → o ≡ Some None → ⊥
said_is_some o x is none = some_is_not_none x (ap (option_and_then (λ y. y)) (sym is ∙ none))

no_text : (key : List ℕ) (d : Data) (why : Refusal) (text : Option (List ℕ)) → text_said key d ≡ Some text → IsNoText key d why → ⊥
no_text key d why text is (name, reported, named, none) = not_both (text_said key d) text is none

no_flag : (key : List ℕ) (otherwise flag : Bool) (d : Data) (why : Refusal) → IsFlag key otherwise d flag → IsNoFlag key d why → ⊥
no_flag key otherwise flag d why (reported, is, same) (name, reason, named, none) = not_both (flag_said key d) reported is none

no_number : (least most : ℕ) (key : List ℕ) (d : Data) (why : Refusal) (n : Option ℕ) → number_said least most key d ≡ Some n → IsNoNumber least most key d why → ⊥
no_number least most key d why n is (name, reported, named, none) = not_both (number_said least most key d) n is none

no_sheet : (key : List ℕ) (asked : Command) (d : Data) (why : Refusal) (sheet : List ℕ) → IsSheet key d sheet → IsBadSheet key asked d why → ⊥
no_sheet key asked d why sheet is (inl bad) = no_text key d why (Some sheet) is bad
no_sheet key asked d why sheet is (inr (name, reported, named, none)) = said_is_some (text_said key d) sheet is none

no_game : (asked : Command) (d : Data) (why : Refusal) (game : List ℕ) → IsGame d game → IsBadSheet (codes "game") asked d why → ⊥
no_game asked d why game is bad = no_sheet (codes "game") asked d why game is bad

more_is_not_none : (d : Data) (ds : Items) → Some (item d ds) ≡ Some no_items → ⊥
more_is_not_none d ds is = cc

no_item : (texts : List (Bor (List ℕ))) → texts_data texts ≡ texts_data [] → texts ≡ []
no_item [] is = refl
no_item (text ∷ texts) is = absurd (more_is_not_none (string text.now) (items_of (map text_data texts)) (ap as_array is))

no_words : (d : Data) (why : Refusal) (texts : List (Bor (List ℕ))) → value_at (codes "words") d ≡ Some (texts_data texts) → ((texts ≡ []) → ⊥) → LacksWords d why → ⊥
no_words d why texts is some (name, reported, named, inl none) = not_both (value_at (codes "words") d) (texts_data texts) is none
no_words d why texts is some (name, reported, named, inr none) = some (no_item texts (same_some (texts_data texts) (texts_data []) (sym is ∙ none)))

not_copied : (rack : Option (Bor (List ℕ))) → Some (option_copied rack) ≡ Some None → rack ≡ None
not_copied None is = refl
not_copied (Some rack) is = absurd (some_is_not_none rack.now (ap (option_and_then (λ y. y)) is))

no_line : (line : Option ℕ) → Some None ≡ Some line → line ≡ None
no_line None is = refl
no_line (Some line) is = absurd (some_is_not_none line (ap (option_and_then (λ y. y)) (sym is)))

no_rack : (d : Data) (why : Refusal) (line : Option ℕ) (rack : Option (Bor (List ℕ))) → line_said d ≡ Some line → text_said (codes "rack") d ≡ Some (option_copied rack)
    → ((line ≡ None) → (rack ≡ None) → ⊥) → LacksRack d why → ⊥
no_rack d why line rack lines racks some (name, reported, named, none, unnamed) =
    some (no_line line (sym (ap (said (number_in 0 (2 ^ 32 - 1))) unnamed) ∙ lines)) (not_copied rack (sym racks ∙ none))

-- What a request says is not given as it must not be.
says_well : (d : Data) (why : Refusal) (r : Request) → Says d r → IsBadFor (command_of r) d why → why ≡ refusal.NoMemory
says_well d why (request.Judge game settle best) says (inl bad) = absurd (no_game command.Judge d why game.now says.0 bad)
says_well d why (request.Judge game settle best) says (inr (inl bad)) = absurd (no_flag (codes "settle") false settle d why says.1 bad)
says_well d why (request.Judge game settle best) says (inr (inr bad)) = absurd (no_flag (codes "best") true best d why says.2 bad)
says_well d why (request.Explain game line likely lead draft) says (inl bad) = absurd (no_game command.Explain d why game.now says.0 bad)
says_well d why (request.Explain game line likely lead draft) says (inr (inl bad)) = absurd (no_number 0 (2 ^ 32 - 1) (codes "line") d why line says.1 bad)
says_well d why (request.Explain game line likely lead draft) says (inr (inr (inl bad))) = absurd (no_flag (codes "likely") true likely d why says.2 bad)
says_well d why (request.Explain game line likely lead draft) says (inr (inr (inr bad))) = absurd (no_flag (codes "draft") false draft d why says.3 bad)
says_well d why (request.Audit game corrected) says (inl bad) = absurd (no_game command.Audit d why game.now says.0 bad)
says_well d why (request.Audit game corrected) says (inr bad) = absurd (no_flag (codes "corrected") false corrected d why says.1 bad)
says_well d why (request.Board game line draft) says (inl bad) = absurd (no_game command.Board d why game.now says.0 bad)
says_well d why (request.Board game line draft) says (inr (inl bad)) = absurd (no_number 0 (2 ^ 32 - 1) (codes "line") d why line says.1 bad)
says_well d why (request.Board game line draft) says (inr (inr bad)) = absurd (no_flag (codes "draft") false draft d why says.2 bad)
says_well d why (request.Top game line rack plays) says (inl bad) = absurd (no_game command.Top d why game.now says.0 bad)
says_well d why (request.Top game line rack plays) says (inr (inl bad)) = absurd (no_number 0 (2 ^ 32 - 1) (codes "line") d why line says.1 bad)
says_well d why (request.Top game line rack plays) says (inr (inr (inl bad))) = absurd (no_text (codes "rack") d why (option_copied rack) says.2 bad)
says_well d why (request.Top game line rack plays) says (inr (inr (inr (inl bad)))) = absurd (no_number 1 100 (codes "number") d why plays says.3 bad)
says_well d why (request.Top game line rack plays) says (inr (inr (inr (inr bad)))) = absurd (no_rack d why line rack says.1 says.2 says.4 bad)
says_well d why (request.Word words) says (inl (name, reported, named, none)) = absurd (none words.items says.0)
says_well d why (request.Word words) says (inr (inl bad)) = absurd (no_words d why words.items says.0 says.1 bad)
says_well d why (request.Word words) says (inr (inr is)) = is
says_well d why request.Check says bad = absurd bad
says_well d why (request.Tidy game) says bad = absurd (no_game command.Tidy d why game.now says bad)
says_well d why (request.Page game likely) says (inl bad) = absurd (no_game command.Page d why game.now says.0 bad)
says_well d why (request.Page game likely) says (inr bad) = absurd (no_flag (codes "likely") true likely d why says.1 bad)
says_well d why (request.Repair game many repaired draft) says (inl bad) = absurd (no_game command.Repair d why game.now says.0 bad)
says_well d why (request.Repair game many repaired draft) says (inr (inl bad)) = absurd (no_number 1 100 (codes "number") d why many says.1 bad)
says_well d why (request.Repair game many repaired draft) says (inr (inr (inl bad))) = absurd (no_flag (codes "repaired") false repaired d why says.2 bad)
says_well d why (request.Repair game many repaired draft) says (inr (inr (inr bad))) = absurd (no_flag (codes "draft") false draft d why says.3 bad)
says_well d why (request.Compare first second merged draft) says (inl bad) = absurd (no_sheet (codes "first") command.Compare d why first.now says.0 bad)
says_well d why (request.Compare first second merged draft) says (inr (inl bad)) = absurd (no_sheet (codes "second") command.Compare d why second.now says.1 bad)
says_well d why (request.Compare first second merged draft) says (inr (inr (inl bad))) = absurd (no_flag (codes "merged") false merged d why says.2 bad)
says_well d why (request.Compare first second merged draft) says (inr (inr (inr bad))) = absurd (no_flag (codes "draft") false draft d why says.3 bad)
says_well d why (request.Annotate game many) says (inl bad) = absurd (no_game command.Annotate d why game.now says.0 bad)
says_well d why (request.Annotate game many) says (inr bad) = absurd (no_number 1 100 (codes "number") d why many says.1 bad)
says_well d why (request.Fill draft filled) says (inl bad) = absurd (no_sheet (codes "draft") command.Fill d why draft.now says.0 bad)
says_well d why (request.Fill draft filled) says (inr bad) = absurd (no_flag (codes "filled") false filled d why says.1 bad)
says_well d why (request.Next draft) says bad = absurd (no_sheet (codes "draft") command.Next d why draft.now says bad)

is_object : (d : Data) (name : List ℕ) → text_said (codes "do") d ≡ Some (Some name) → is_some (as_object d) ≡ false → ⊥
is_object null name is none = said_is_some (Some (Some name)) name refl (sym is)
is_object (boolean b) name is none = said_is_some (Some (Some name)) name refl (sym is)
is_object (number n) name is none = said_is_some (Some (Some name)) name refl (sym is)
is_object (string s) name is none = said_is_some (Some (Some name)) name refl (sym is)
is_object (array ds) name is none = said_is_some (Some (Some name)) name refl (sym is)
is_object (object ms) name is none = cc

names_one : (d : Data) (why : Refusal) (name : List ℕ) → text_said (codes "do") d ≡ Some (Some name) → NamesNone d why → ⊥
names_one d why name is (inl (reported, none)) = is_object d name is none
names_one d why name is (inr (inl (reported, none))) = said_is_some (text_said (codes "do") d) name is (ap (said as_str) none)
names_one d why name is (inr (inr (reported, none))) = not_both (text_said (codes "do") d) (Some name) is none

same_name : (d : Data) (one other : List ℕ) → text_said (codes "do") d ≡ Some (Some one) → text_said (codes "do") d ≡ Some (Some other) → one ≡ other
same_name d one other is also = same_some one other (same_some (Some one) (Some other) (sym is ∙ also))

is_memory : (d : Data) (why : Refusal) (r : Request) → IsRequestIn d r → IsReason d why → why ≡ refusal.NoMemory
is_memory d why r is (inl none) = absurd (names_one d why (name_of (command_of r)) is.named none)
is_memory d why r is (inr (inl (name, reported, named, none))) = absurd (none (command_of r) (same_name d (name_of (command_of r)) name.now is.named named))
is_memory d why r is (inr (inr (asked, named, inl (key, reported, has, other)))) =
    let same = same_command (command_of r) asked (same_name d (name_of (command_of r)) (name_of asked) is.named named)
    in absurd (other (subst (λ c. MayHave c key.now) same (is.keys key.now has)))
is_memory d why r is (inr (inr (asked, named, inr bad))) =
    let same = same_command (command_of r) asked (same_name d (name_of (command_of r)) (name_of asked) is.named named)
    in says_well d why r is.says (subst (λ c. IsBadFor c d why) (sym same) bad)

-- a request is refused only if memory was
pub only_memory : (d : Data) (result : Result Request Refusal) → IfErr result (IsReason d) → IfErr result (IsRefusedForMemoryAlone d)
only_memory d (Ok r) reason = tt
only_memory d (Err why) reason = λ r is. is_memory d why r is reason
