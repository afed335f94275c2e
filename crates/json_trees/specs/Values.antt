-- The JSON values that answers are made of.
use Rattle.std.specs.Prelude.{ℕ, ℤ, List, [], ◌∷◌, decimal, Option, Some, None}
use Rattle.std.specs.Fmt.{signed_decimal}
use Rattle.std.specs.Str.Lossy.{utf8_lossy}
use Rattle.json.specs.Json.{Json, null, number, string, array, object, Items, no_items, item, Members, no_members, member}

-- a number that counts something, in decimal
abbrev pub count : ℕ → Json
count n = number (decimal n)

-- a number that may be below zero, in decimal
abbrev pub integer : ℤ → Json
integer n = number (signed_decimal n)

-- bytes as text, with U+FFFD for what is not UTF-8
abbrev pub text : List ℕ → Json
text bytes = string (utf8_lossy bytes)

-- a value, or null if there is none
abbrev pub or_null : Option Json → Json
or_null None = null
or_null (Some value) = value

abbrev pub items_of : List Json → Items
items_of [] = no_items
items_of (value ∷ values) = item value (items_of values)

-- the array of these values, in this order
abbrev pub array_of : List Json → Json
array_of values = array (items_of values)

-- a field of an object: its key and its value
abbrev pub Field : Type 0
Field = List ℕ × Json

abbrev pub members_of : List Field → Members
members_of [] = no_members
members_of (field ∷ fields) = member field.0 field.1 (members_of fields)

-- the object of these fields, in this order
abbrev pub object_of : List Field → Json
object_of fields = object (members_of fields)

-- a field that is left out if it has no value
abbrev pub field_if : (key : List ℕ) → Option Json → List Field
field_if key None = []
field_if key (Some value) = (key, value) ∷ []
