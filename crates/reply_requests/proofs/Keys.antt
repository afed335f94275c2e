-- The keys of an object.
use Rattle.std.proofs.Common.{◌≡◌, inl, inr, ℕ, List, [], ◌∷◌, map, String, Global, Option, Some, None, refl, sym, ap, ◌∙◌, subst}
use Rattle.std.specs.String.{string_bytes}
use Rattle.std.specs.Map.{keys_of}
use Rattle.serde_json.specs.Data.{Data, null, boolean, number, string, array, object, Members}
use Rattle.serde_json.specs.Find.{as_object}
use Rattle.serde_json.specs.View.{members_view}
use Rattle.serde_json.specs.declared.value.Value.{Value}
use Rattle.reply_requests.specs.declared.commands.Command.{Command}
use Rattle.reply_requests.specs.Asked.{IsAmong, MayHave, members_keys, keys_in, HasOnlyKeysOf}

abbrev keys_at : Option Members → List (List ℕ)
keys_at None = []
keys_at (Some ms) = members_keys ms

are_at : (d : Data) → keys_in d ≡ keys_at (as_object d)
are_at null = refl
are_at (boolean b) = refl
are_at (number n) = refl
are_at (string s) = refl
are_at (array ds) = refl
are_at (object ms) = refl

are_keys : (entries : List (String Global × Value)) → members_keys (members_view entries) ≡ map string_bytes (keys_of entries)
are_keys [] = refl
are_keys (entry ∷ entries) = ap (λ keys. string_bytes entry.0 ∷ keys) (are_keys entries)

-- the keys of an object are those of its map
pub are_keys_in : (d : Data) (entries : List (String Global × Value)) → Some (members_view entries) ≡ as_object d → map string_bytes (keys_of entries) ≡ keys_in d
are_keys_in d entries is = sym (are_keys entries) ∙ ap keys_at is ∙ sym (are_at d)

-- what is no object has no key
pub no_keys : (asked : Command) (d : Data) → None ≡ as_object d → HasOnlyKeysOf asked d
no_keys asked d is = λ key has. absurd (subst (λ keys. IsAmong keys key) (are_at d ∙ ap keys_at (sym is)) has)

-- Of the keys of an object these are left: they are keys of it, and if the command may have each of them, it may have each key of the object.
abbrev pub AreRemaining : Command → Data → List (String Global) → Type 0
AreRemaining asked d remaining =
    ((key : List ℕ) → IsAmong (map string_bytes remaining) key → IsAmong (keys_in d) key)
    × (((key : List ℕ) → IsAmong (map string_bytes remaining) key → MayHave asked key) → HasOnlyKeysOf asked d)

pub all_remaining : (asked : Command) (d : Data) (entries : List (String Global × Value)) (remaining : List (String Global)) → Some (members_view entries) ≡ as_object d
    → remaining ≡ keys_of entries → AreRemaining asked d remaining
all_remaining asked d entries remaining is all =
    let same = ap (map string_bytes) all ∙ are_keys_in d entries is
    in (
      (λ key has. subst (λ keys. IsAmong keys key) same has),
      (λ may key has. may key (subst (λ keys. IsAmong keys key) (sym same) has)),
    )

pub first_is_key : (asked : Command) (d : Data) (remaining more : List (String Global)) (key : String Global) → remaining ≡ key ∷ more → AreRemaining asked d remaining
    → IsAmong (keys_in d) (string_bytes key)
first_is_key asked d remaining more key is are = are.0 (string_bytes key) (subst (λ keys. IsAmong (map string_bytes keys) (string_bytes key)) (sym is) (inl refl))

or_first : {A : List ℕ → Type 0} (key : List ℕ) (more : List (List ℕ)) → A key → ((other : List ℕ) → IsAmong more other → A other)
    → (other : List ℕ) → IsAmong (key ∷ more) other → A other
or_first {A = A} key more first others other (inl is) = subst A is first
or_first {A = A} key more first others other (inr has) = others other has

pub fewer_remaining : (asked : Command) (d : Data) (remaining more : List (String Global)) (key : String Global) → remaining ≡ key ∷ more → AreRemaining asked d remaining
    → MayHave asked (string_bytes key) → AreRemaining asked d more
fewer_remaining asked d remaining more key is are may =
    let were = subst (AreRemaining asked d) is are
    in (
      (λ other has. were.0 other (inr has)),
      (λ others. were.1 (or_first {A = MayHave asked} (string_bytes key) (map string_bytes more) may others)),
    )

pub none_remaining : (asked : Command) (d : Data) (remaining : List (String Global)) → remaining ≡ [] → AreRemaining asked d remaining → HasOnlyKeysOf asked d
none_remaining asked d remaining is are = (subst (AreRemaining asked d) is are).1 (λ key has. absurd has)
