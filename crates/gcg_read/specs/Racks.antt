-- Racks, as the bytes of a record write them.
use Rattle.std.specs.Prelude.{ℕ, Bool, ◌&&◌, nat_le, List, length, Option, Some, None, is_some, if◌then◌else◌}
use Rattle.std.specs.List.{list_all, filter_map}
use Rattle.ref_tiles.specs.Counting.{counted}
pub use Rattle.ref_tiles.specs.Kinds.{kind_of}

-- A to Z or '?'
abbrev pub is_tile : ℕ → Bool
is_tile byte = is_some (kind_of byte)

-- 1 to 7 tiles
abbrev pub is_rack : List ℕ → Bool
is_rack bytes = nat_le 1 (length bytes) && nat_le (length bytes) 7 && list_all is_tile bytes

-- the tiles of a rack: the number of each kind
abbrev pub rack_of : List ℕ → Option (List ℕ)
rack_of bytes = if is_rack bytes then Some (counted (filter_map kind_of bytes)) else None
