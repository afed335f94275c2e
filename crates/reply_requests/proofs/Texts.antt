-- Lists of texts.
use Rattle.std.proofs.Common.{◌≡◌, ℕ, List, map, Some, sym, ap, ◌∙◌}
use Rattle.std.specs.Borrow.{Bor}
use Rattle.serde_json.specs.Data.{Data, null, boolean, number, string, array, object, Items}
use Rattle.serde_json.specs.Find.{as_str, as_array}
use Rattle.serde_json.specs.View.{items_of}
use Rattle.reply_requests.specs.Said.{value_at}
use Rattle.reply_requests.specs.Asked.{text_data, texts_data}

-- a value that is read as a text is that text
pub is_text : (d : Data) (text : List ℕ) → Some text ≡ as_str d → d ≡ string text
is_text null text is = cc
is_text (boolean b) text is = cc
is_text (number n) text is = cc
is_text (string s) text is = cc
is_text (array ds) text is = cc
is_text (object ms) text is = cc

is_array : (d : Data) (is : Items) → Some is ≡ as_array d → d ≡ array is
is_array null is same = cc
is_array (boolean b) is same = cc
is_array (number n) is same = cc
is_array (string s) is same = cc
is_array (array ds) is same = cc
is_array (object ms) is same = cc

-- the value of a key whose items are texts
pub are_said : (key : List ℕ) (reported d : Data) (items : List Data) (texts : List (Bor (List ℕ))) → Some d ≡ value_at key reported → Some (items_of items) ≡ as_array d
    → items ≡ map text_data texts → value_at key reported ≡ Some (texts_data texts)
are_said key reported d items texts found same are = sym found ∙ ap Some (is_array d (items_of items) same ∙ ap (λ ds. array (items_of ds)) are)
