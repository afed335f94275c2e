-- Lists that are not of texts.
use Rattle.std.proofs.Common.{◌≡◌, ◌⊎◌, inl, inr, ℕ, List, [], ◌∷◌, map, slice_get, Option, Some, None, option_map, option_and_then, refl, sym, ap, ◌∙◌}
use Rattle.std.proofs.lemmas.Option.{slice_get-map}
use Rattle.std.specs.Borrow.{Bor}
use Rattle.serde_json.specs.Data.{Data, Items, no_items, item}
use Rattle.serde_json.specs.Find.{as_str, as_array}
use Rattle.serde_json.specs.View.{items_of}
use Rattle.reply_requests.specs.declared.refusals.Refusal.{Refusal}
use Rattle.reply_requests.specs.declared.refusals.Refusal.TheVariants as refusal
use Rattle.reply_requests.specs.Said.{value_at}
use Rattle.reply_requests.specs.Asked.{text_data}
use Rattle.reply_requests.specs.Reasons.{AreNoTexts, IsNoList}

some_is_not_none : {A : Type 0} (x : A) → Some x ≡ None → ⊥
some_is_not_none x is = cc

not_one : (text : Option (Bor (List ℕ))) (d : Data) → None ≡ as_str d → option_map text_data text ≡ Some d → ⊥
not_one None d other is = some_is_not_none d (sym is)
not_one (Some text) d other is = some_is_not_none text.now (ap (option_and_then as_str) is ∙ sym other)

-- one of these is no text, so they are not texts
pub not_texts : {A : Type 0} (view : A → Data) (values : List A) (place : ℕ) (v : A) → slice_get values place ≡ Some v → None ≡ as_str (view v) → AreNoTexts (map view values)
not_texts view values place v found other texts are =
    not_one (slice_get texts place) (view v) other
    (sym (slice_get-map text_data texts place) ∙ sym (ap (λ l. slice_get l place) are) ∙ slice_get-map view values place ∙ ap (option_map view) found)

abbrev list_of : Items → List Data
list_of no_items = []
list_of (item d ds) = d ∷ list_of ds

back : (l : List Data) → list_of (items_of l) ≡ l
back [] = refl
back (d ∷ ds) = ap (λ l. d ∷ l) (back ds)

abbrev items_in : Option Items → List Data
items_in None = []
items_in (Some items) = list_of items

same_items : (l k : List Data) → Some (items_of l) ≡ Some (items_of k) → l ≡ k
same_items l k same = sym (back l) ∙ ap items_in same ∙ back k

-- what keeps the items of a value from being texts keeps the value of that key from being a list of texts
pub no_texts : (name : Bor (List ℕ)) (key : List ℕ) (reported d : Data) (items : List Data) (why : Refusal) → name.now ≡ key → Some d ≡ value_at key reported → Some (items_of items) ≡ as_array d
    → (why ≡ refusal.NoMemory) ⊎ ((why ≡ refusal.NoTexts name) × AreNoTexts items) → (why ≡ refusal.NoMemory) ⊎ IsNoList key reported why
no_texts name key reported d items why named found same (inl is) = inl is
no_texts name key reported d items why named found same (inr (is, none)) =
    inr (name, is, named, (λ texts said. none texts (same_items items (map text_data texts) (same ∙ ap (option_and_then as_array) (found ∙ said)))))
