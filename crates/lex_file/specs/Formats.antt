-- What the formats of compiled lexicons fix: the header, the first bytes, the most arcs.
use Rattle.std.specs.Prelude.{ℕ, ◌+◌, ◌*◌, List, codes}

-- the bytes of the header
abbrev pub header_bytes : ℕ
header_bytes = 16

-- the first bytes of a GAD1 file
abbrev pub gad1_magic : List ℕ
gad1_magic = codes "GAD1"

-- the first bytes of a GAD2 file
abbrev pub gad2_magic : List ℕ
gad2_magic = codes "GAD2"

-- the greatest label, that of Z
abbrev pub greatest_label : ℕ
greatest_label = 26

-- the most arcs of a GAD1 file
abbrev pub most_arcs : ℕ
most_arcs = 33554431

-- the most words of a GAD2 file after its header
abbrev pub most_body_words : ℕ
most_body_words = 67108863

-- the most bytes of a file: the header and the most words after it, four bytes each
abbrev pub most_file_bytes : ℕ
most_file_bytes = header_bytes + 4 * most_body_words
