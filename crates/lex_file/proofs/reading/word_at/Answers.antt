use Rattle.std.proofs.Common.{ℕ, ap, ◌∙◌, ◌*◌, ◌-◌, length, arith, drop, length-drop, length-take, take_all}
use Rattle.byteorder.specs.Endian.{little_number}
use Rattle.lex_file.proofs.Runs.{inside, word}
use Rattle.lex_file.proofs.reading.word_at.Goals as goal

pub overflow_mul-place : goal.overflow_mul-place
overflow_mul-place c = let room = inside c.args.bytes.now c.args.place c.requires in omega arith

pub slice_bounds-read_u32-count : goal.slice_bounds-read_u32-count
slice_bounds-read_u32-count c = let room = inside c.args.bytes.now c.args.place c.requires in omega (arith, length-drop {A = ℕ}, length-take {A = ℕ})

pub slice_bounds-read_u32-start : goal.slice_bounds-read_u32-start
slice_bounds-read_u32-start c = let room = inside c.args.bytes.now c.args.place c.requires in omega arith

pub read_u32-requires : goal.read_u32-requires
read_u32-requires c = let room = inside c.args.bytes.now c.args.place c.requires in omega (arith, length-drop {A = ℕ}, length-take {A = ℕ})

pub returns : goal.returns
returns c =
    let room = inside c.args.bytes.now c.args.place c.requires in
    let whole = take_all (length c.args.bytes.now - 4 * c.args.place) (drop (4 * c.args.place) c.args.bytes.now) (omega (arith, length-drop {A = ℕ})) in
    c.read_u32.ensures ∙ ap (little_number 4) whole ∙ word c.args.bytes.now c.args.place c.requires

pub prove-unreachable-requires : goal.prove-unreachable-requires
prove-unreachable-requires c = let room = inside c.args.bytes.now c.args.place c.requires in omega arith
