-- One tile fewer, or one more.
use Rattle.std.specs.Prelude.{ℕ, ◌+◌, ◌-◌, nat_lt, List, if◌then◌else◌}
use Rattle.ref_tiles.specs.declared.kinds.Kind.{Kind}
use Rattle.ref_tiles.specs.Counting.{count_of, with_count}

-- one fewer tile of a kind, if there is one
abbrev pub one_less : List ℕ → Kind → List ℕ
one_less counts k = if nat_lt 0 (count_of counts k) then with_count counts k (count_of counts k - 1) else counts

-- one more tile of a kind, if there is room for it
abbrev pub one_more : List ℕ → Kind → List ℕ
one_more counts k = if nat_lt (count_of counts k) 255 then with_count counts k (count_of counts k + 1) else counts
