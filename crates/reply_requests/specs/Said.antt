-- The members of a JSON object, by their keys.
use Rattle.std.specs.Prelude.{ℕ, ◌&&◌, nat_le, if◌then◌else◌, Bool, List, Option, Some, None, option_map, option_and_then}
use Rattle.serde_json.specs.Data.{Data, null, boolean, number, string, array, object}
use Rattle.serde_json.specs.Find.{get, as_str, as_bool, as_number, as_u64}

-- null counts as missing
abbrev pub unless_null : Option Data → Option Data
unless_null None = None
unless_null (Some null) = None
unless_null (Some (boolean b)) = Some (boolean b)
unless_null (Some (number n)) = Some (number n)
unless_null (Some (string s)) = Some (string s)
unless_null (Some (array ds)) = Some (array ds)
unless_null (Some (object ms)) = Some (object ms)

-- the value of a key
abbrev pub value_at : (key : List ℕ) → Data → Option Data
value_at key d = unless_null (get key d)

-- What may be left out: nothing if it is; otherwise what it is read as, or that it cannot be read so.
abbrev pub said : {A : Type 0} → (read : Data → Option A) → Option Data → Option (Option A)
said read None = Some None
said read (Some d) = option_map Some (read d)

-- a text, true or false
abbrev pub text_said : (key : List ℕ) → Data → Option (Option (List ℕ))
text_said key d = said as_str (value_at key d)

abbrev pub flag_said : (key : List ℕ) → Data → Option (Option Bool)
flag_said key d = said as_bool (value_at key d)

-- a number between these two
abbrev pub within : (least most n : ℕ) → Option ℕ
within least most n = if nat_le least n && nat_le n most then Some n else None

abbrev pub number_in : (least most : ℕ) → Data → Option ℕ
number_in least most d = option_and_then (within least most) (option_and_then as_u64 (as_number d))

abbrev pub number_said : (least most : ℕ) → (key : List ℕ) → Data → Option (Option ℕ)
number_said least most key d = said (number_in least most) (value_at key d)
