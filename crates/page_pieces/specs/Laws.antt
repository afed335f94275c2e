-- What a reader of a page makes of a text in it.
use Rattle.std.specs.Prelude.{◌≡◌, ℕ, zero, suc, Bool, true, not, ◌==◌, ◌&&◌, ◌||◌, List, [], ◌∷◌, codes, if◌then◌else◌}
use Rattle.std.specs.List.{list_all, starts_with}
use Rattle.page_pieces.specs.Escaping.{html_text}

-- < (60), > (62), " (34) and ' (39), by which a text or an attribute ends, or a tag begins
abbrev pub is_mark : ℕ → Bool
is_mark byte = byte == 60 || byte == 62 || byte == 34 || byte == 39

abbrev pub begins : (name text : List ℕ) → Bool
begins name text = starts_with ◌==◌ text name

-- one of the five names, without the ampersand
abbrev pub begins_name : List ℕ → Bool
begins_name text = begins (codes "amp;") text || begins (codes "lt;") text || begins (codes "gt;") text || begins (codes "quot;") text || begins (codes "#39;") text

-- each & (38) is followed by the rest of a name
abbrev pub has_names : List ℕ → Bool
has_names [] = true
has_names (byte ∷ text) = (not (byte == 38) || begins_name text) && has_names text

-- a text with the sign in place of each name; the first bytes, as many as `following` says, are those of a name that was taken
unfoldable pub undone_after : (following : ℕ) → List ℕ → List ℕ
undone_after following [] = []
undone_after (suc following) (byte ∷ text) = undone_after following text
undone_after zero (byte ∷ text) =
    if byte == 38 && begins (codes "amp;") text then 38 ∷ undone_after 4 text
    else if byte == 38 && begins (codes "lt;") text then 60 ∷ undone_after 3 text
    else if byte == 38 && begins (codes "gt;") text then 62 ∷ undone_after 3 text
    else if byte == 38 && begins (codes "quot;") text then 34 ∷ undone_after 5 text
    else if byte == 38 && begins (codes "#39;") text then 39 ∷ undone_after 4 text
    else byte ∷ undone_after 0 text

abbrev pub undone : List ℕ → List ℕ
undone text = undone_after 0 text

-- a text in a page ends nothing and begins no tag
abbrev pub HasNoMark : Type 0
HasNoMark = (text : List ℕ) → list_all (λ byte. not (is_mark byte)) (html_text text) ≡ true

-- each & in it begins a name
abbrev pub HasOnlyNames : Type 0
HasOnlyNames = (text : List ℕ) → has_names (html_text text) ≡ true

-- the reader has the text again
abbrev pub IsUndone : Type 0
IsUndone = (text : List ℕ) → undone (html_text text) ≡ text
