-- The limits of the rules' parameters.
use Rattle.std.specs.Prelude.{ℕ, Bool, List, sum, nat_le, ◌&&◌}
use Rattle.std.specs.List.{list_all}

-- the most tiles of a tile set
unfoldable pub most_tiles : ℕ
most_tiles = 200

-- at least two full racks
abbrev pub is_tile_set : List ℕ → Bool
is_tile_set counts = nat_le 14 (sum counts) && nat_le (sum counts) most_tiles

abbrev pub are_points : List ℕ → Bool
are_points points = list_all (λ p. nat_le p 99) points

abbrev pub is_bonus : ℕ → Bool
is_bonus n = nat_le n 999

abbrev pub is_parameter : ℕ → Bool
is_parameter n = nat_le 1 n && nat_le n 99
