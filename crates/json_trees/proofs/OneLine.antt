-- The text of tokens has no control character, so it is one line.
use Rattle.std.proofs.Common.{◌≡◌, ℕ, ℤ, pos, negsuc, zero, suc, ◌+◌, ◌/◌, ◌%◌, Bool, true, false, cond, not, ◌==◌, ◌&&◌, nat_lt, if◌then◌else◌, List, [], ◌∷◌, ◌++◌, map, decimal, string_bytes, refl, sym, ap, subst, arith}
use Rattle.std.specs.Prelude.{⊤}
use Rattle.std.proofs.lemmas.Bool.Decides.{nat_tests}
use Rattle.std.proofs.lemmas.List.Folds.{list_all-append}
use Rattle.std.specs.Borrow.{Bor}
use Rattle.std.specs.Char.{digit_char}
use Rattle.std.specs.Fmt.{digits, digits_onto, digit_glyph, signed_decimal}
use Rattle.std.specs.List.{list_all}
use Rattle.json.specs.Json.{Json}
use Rattle.json.specs.Print.{begins, ends, escape, escape_byte, print_from, quoted, separator, token_text}
use Rattle.json.specs.Token.{Token}
use Rattle.json.specs.Tree.{json_tokens, items_tokens, members_tokens}
use Rattle.json_trees.specs.declared.trees.Tree.{Tree}
use Rattle.json_trees.specs.declared.trees.Tree.TheFolds.{fold-roll-Tree, ind-Tree, map-Tree}
use Rattle.json_trees.specs.declared.trees.Tree.TheOpen.{Tree-F}
use Rattle.json_trees.specs.Trees.{field_of, view, view_step}
use Rattle.json_trees.specs.Values.{items_of, members_of}
use Rattle.json_trees.specs.Laws.{is_shown, IsOneLine}

abbrev shown : List ℕ → Type 0
shown text = list_all is_shown text ≡ true

shown_more : (byte : ℕ) (rest : List ℕ) → is_shown byte ≡ true → shown rest → shown (byte ∷ rest)
shown_more byte rest h k = rw (h, k) refl

shown_both : (front rest : List ℕ) → shown front → shown rest → shown (front ++ rest)
shown_both front rest h k = rw (list_all-append is_shown front rest, h, k) refl

shown_either : (b : Bool) (one other : List ℕ) → shown one → shown other → shown (if b then one else other)
shown_either true one other h k = h
shown_either false one other h k = k

-- ---- numbers

digit_by : (d : ℕ) (b : Bool) → nat_lt d 10 ≡ b → is_shown (if b then 48 + d else 87 + d) ≡ true
digit_by d true e = grind (arith, nat_tests)
digit_by d false e = grind (arith, nat_tests)

digit_shown : (d : ℕ) → is_shown (digit_char d) ≡ true
digit_shown d = digit_by d _ refl

glyph_shown : (d : ℕ) → is_shown (digit_glyph false d) ≡ true
glyph_shown d = digit_by d _ refl

digits_shown : (k base n : ℕ) (after : List ℕ) → shown after → shown (digits_onto k base false n after)
digits_shown zero base n after h = h
digits_shown (suc k) base n after h =
    let here = shown_more (digit_glyph false (n % base)) after (glyph_shown (n % base)) h in
    shown_either (n / base == 0) _ _ here (digits_shown k base (n / base) _ here)

pub decimal_shown : (n : ℕ) → shown (decimal n)
unfolding digits
decimal_shown n = digits_shown 64 10 n [] refl

pub signed_shown : (n : ℤ) → shown (signed_decimal n)
signed_shown (pos n) = decimal_shown n
signed_shown (negsuc n) = shown_more 45 (decimal (suc n)) refl (decimal_shown (suc n))

-- ---- texts

escape_by : (x : ℕ) (quote backslash back tab line form return low : Bool)
    → (x == 34) ≡ quote → (x == 92) ≡ backslash → (x == 8) ≡ back → (x == 12) ≡ form → (x == 10) ≡ line → (x == 13) ≡ return → (x == 9) ≡ tab → nat_lt x 32 ≡ low
    → shown (escape_byte x)
unfolding escape_byte
escape_by x true backslash back tab line form return low a b c d e f g h = let same : x ≡ 34 = grind (arith, nat_tests) in rw same refl
escape_by x false true back tab line form return low a b c d e f g h = let same : x ≡ 92 = grind (arith, nat_tests) in rw same refl
escape_by x false false true tab line form return low a b c d e f g h = let same : x ≡ 8 = grind (arith, nat_tests) in rw same refl
escape_by x false false false true line form return low a b c d e f g h = let same : x ≡ 9 = grind (arith, nat_tests) in rw same refl
escape_by x false false false false true form return low a b c d e f g h = let same : x ≡ 10 = grind (arith, nat_tests) in rw same refl
escape_by x false false false false false true return low a b c d e f g h = let same : x ≡ 12 = grind (arith, nat_tests) in rw same refl
escape_by x false false false false false false true low a b c d e f g h = let same : x ≡ 13 = grind (arith, nat_tests) in rw same refl
escape_by x false false false false false false false true a b c d e f g h = rw (a, b, c, d, e, f, g, h, digit_shown (x / 16), digit_shown (x % 16)) refl
escape_by x false false false false false false false false a b c d e f g h = rw (a, b, c, d, e, f, g, h) (shown_more x [] (ap not h) refl)

byte_shown : (x : ℕ) → shown (escape_byte x)
byte_shown x = escape_by x _ _ _ _ _ _ _ _ refl refl refl refl refl refl refl refl

escape_shown : (text : List ℕ) → shown (escape text)
escape_shown [] = refl
escape_shown (x ∷ text) = shown_both (escape_byte x) (escape text) (byte_shown x) (escape_shown text)

pub quoted_shown : (text : List ℕ) → shown (quoted text)
quoted_shown text = shown_more 34 (escape text ++ 34 ∷ []) refl (shown_both (escape text) (34 ∷ []) (escape_shown text) refl)

-- ---- tokens

abbrev pub AreShown : List Token → Type 0
AreShown [] = ⊤
AreShown (t ∷ ts) = shown (token_text t) × AreShown ts

pub are_shown_both : (front rest : List Token) → AreShown front → AreShown rest → AreShown (front ++ rest)
are_shown_both [] rest h k = k
are_shown_both (t ∷ front) rest h k = (h.0, are_shown_both front rest h.1 k)

pub key_shown : (key : List ℕ) → shown (token_text (Token.key key))
key_shown key = shown_both (quoted key) (58 ∷ []) (quoted_shown key) refl

comma_shown : (b : Bool) → shown (cond b (44 ∷ []) [])
comma_shown true = refl
comma_shown false = refl

pub print_shown : (after_value : Bool) (ts : List Token) → AreShown ts → shown (print_from after_value ts)
unfolding print_from
print_shown after_value [] h = refl
print_shown after_value (t ∷ ts) h =
    shown_both (separator after_value t) _ (comma_shown (after_value && begins t)) (shown_both (token_text t) _ h.0 (print_shown (ends t) ts h.1))

-- ---- trees

abbrev IsShown : Tree → Type 0
IsShown tree = AreShown (json_tokens (view tree))

values_shown : (values : List ((tree : Tree) × IsShown tree)) → AreShown (items_tokens (items_of (map view (map (λ value. value.0) values))))
values_shown [] = (refl, tt)
values_shown (value ∷ values) = are_shown_both (json_tokens (view value.0)) _ value.1 (values_shown values)

abbrev tree_of : Bor (List ℕ) × ((tree : Tree) × IsShown tree) → Bor (List ℕ) × Tree
tree_of field = (field.0, field.1.0)

abbrev value_of : Bor (List ℕ) × Tree → Bor (List ℕ) × Json
value_of field = (field.0, view field.1)

fields_shown : (fields : List (Bor (List ℕ) × ((tree : Tree) × IsShown tree))) → AreShown (members_tokens (members_of (map field_of (map value_of (map tree_of fields)))))
fields_shown [] = (refl, tt)
fields_shown (field ∷ fields) = (key_shown field.0.now, are_shown_both (json_tokens (view field.1.0)) _ field.1.1 (fields_shown fields))

-- one level, with each tree inside already shown
layer_shown : (layer : Tree-F ((tree : Tree) × IsShown tree))
    → AreShown (json_tokens (view_step (map-Tree Tree Json view (map-Tree ((tree : Tree) × IsShown tree) Tree (λ inside. inside.0) layer))))
layer_shown Tree-F.Null = (refl, tt)
layer_shown (Tree-F.Bool true) = (refl, tt)
layer_shown (Tree-F.Bool false) = (refl, tt)
layer_shown (Tree-F.Count n) = (decimal_shown n, tt)
layer_shown (Tree-F.Integer n) = (signed_shown n, tt)
layer_shown (Tree-F.Wide n) = (decimal_shown n, tt)
layer_shown (Tree-F.Name name) = (quoted_shown name.now, tt)
layer_shown (Tree-F.Text text) = (quoted_shown (string_bytes text), tt)
layer_shown (Tree-F.Array values) = (refl, values_shown values.items)
layer_shown (Tree-F.Object fields) = (refl, fields_shown fields.items)

tree_shown : (tree : Tree) → IsShown tree
tree_shown = ind-Tree IsShown (λ x y is.
    subst (λ value. AreShown (json_tokens value)) (sym (fold-roll-Tree Json view_step x))
    (subst (λ layer. AreShown (json_tokens (view_step (map-Tree Tree Json view layer)))) is (layer_shown y)))

pub one_line : IsOneLine
one_line tree = print_shown false (json_tokens (view tree)) (tree_shown tree)
