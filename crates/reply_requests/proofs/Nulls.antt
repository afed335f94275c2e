-- Values that are null, and others.
use Rattle.std.proofs.Common.{◌≡◌, ℕ, true, false, List, Some, None, is_some, refl, sym, ap, ◌∙◌}
use Rattle.serde_json.specs.Data.{Data, null, boolean, number, string, array, object}
use Rattle.serde_json.specs.Find.{get, as_null}
use Rattle.reply_requests.specs.Said.{unless_null, value_at}

null_is_none : (d : Data) → is_some (as_null d) ≡ true → unless_null (Some d) ≡ None
null_is_none null is = refl
null_is_none (boolean b) is = cc
null_is_none (number n) is = cc
null_is_none (string s) is = cc
null_is_none (array ds) is = cc
null_is_none (object ms) is = cc

other_stays : (d : Data) → is_some (as_null d) ≡ false → unless_null (Some d) ≡ Some d
other_stays null is = cc
other_stays (boolean b) is = refl
other_stays (number n) is = refl
other_stays (string s) is = refl
other_stays (array ds) is = refl
other_stays (object ms) is = refl

-- the value of a key that is not there, that is null, and another one
pub absent : (key : List ℕ) (reported : Data) → None ≡ get key reported → None ≡ value_at key reported
absent key reported found = ap unless_null found

pub is_null : (key : List ℕ) (reported d : Data) → Some d ≡ get key reported → is_some (as_null d) ≡ true → None ≡ value_at key reported
is_null key reported d found is = sym (null_is_none d is) ∙ ap unless_null found

pub is_there : (key : List ℕ) (reported d : Data) → Some d ≡ get key reported → is_some (as_null d) ≡ false → Some d ≡ value_at key reported
is_there key reported d found is = sym (other_stays d is) ∙ ap unless_null found
