use Rattle.std.proofs.Common.{arith, sym, ◌∙◌}
use Rattle.lex_file.specs.FileWords.{body_of}
use Rattle.lex_file.specs.Files.{bytes_of, number_of}
use Rattle.lex_file.specs.Shapes.{file_node}
use Rattle.lex_build.proofs.NewArcs.{known_arc, rising_next, renamed_few, renamed_all, taken_more}
use Rattle.lex_build.proofs.converting.Conversion.new_arcs.Goals as goal

pub renumbered-requires : goal.renumbered-requires
renumbered-requires c =
    let known =
    known_arc c.args.self.now.format (bytes_of c.args.file.now) (body_of c.args.self.now.bytes.items) c.args.self.now.numbers.items (number_of c.args.node) c.loop-arc.from c.in-Some.arc
    c.args.file.now.shape c.requires (sym c.in-Some.ensures)
    in
    known.numbered

pub push-requires : goal.push-requires
push-requires c =
    let known =
    known_arc c.args.self.now.format (bytes_of c.args.file.now) (body_of c.args.self.now.bytes.items) c.args.self.now.numbers.items (number_of c.args.node) c.loop-arc.from c.in-Some.arc
    c.args.file.now.shape c.requires (sym c.in-Some.ensures)
    in
    let rising = rising_next c.args.self.now.format (bytes_of c.args.file.now) (body_of c.args.self.now.bytes.items) c.args.self.now.numbers.items (number_of c.args.node) c.args.file.now.shape c.requires in
    let few = renamed_few _ c.loop-arc.from (file_node (bytes_of c.args.file.now) (number_of c.args.node)) c.loop-arc.arcs.items rising c.loop-arc.invariant.taken in
    (omega arith, omega (arith, known.reached, known.label, few))

pub overflow_add-from : goal.overflow_add-from
overflow_add-from c =
    let known =
    known_arc c.args.self.now.format (bytes_of c.args.file.now) (body_of c.args.self.now.bytes.items) c.args.self.now.numbers.items (number_of c.args.node) c.loop-arc.from c.in-Some.arc
    c.args.file.now.shape c.requires (sym c.in-Some.ensures)
    in
    omega (arith, known.label)

pub loop-arc-smaller : goal.loop-arc-smaller
loop-arc-smaller c =
    let known =
    known_arc c.args.self.now.format (bytes_of c.args.file.now) (body_of c.args.self.now.bytes.items) c.args.self.now.numbers.items (number_of c.args.node) c.loop-arc.from c.in-Some.arc
    c.args.file.now.shape c.requires (sym c.in-Some.ensures)
    in
    omega (arith, known.reached, known.label)

pub loop-arc-preserved : goal.loop-arc-preserved
loop-arc-preserved c =
    let known =
    known_arc c.args.self.now.format (bytes_of c.args.file.now) (body_of c.args.self.now.bytes.items) c.args.self.now.numbers.items (number_of c.args.node) c.loop-arc.from c.in-Some.arc
    c.args.file.now.shape c.requires (sym c.in-Some.ensures)
    in
    record {
      taken = taken_more c.args.self.now.format (bytes_of c.args.file.now) (body_of c.args.self.now.bytes.items) c.args.self.now.numbers.items (number_of c.args.node) c.loop-arc.from
          c.in-Some.arc c.loop-arc.arcs.items c.push.new.self.items c.renumbered.result c.args.file.now.shape c.requires (sym c.in-Some.ensures)
          c.loop-arc.invariant.taken c.renumbered.ensures c.push.ensures.items;
      low = omega (arith, known.label);
    }

pub returns : goal.returns
returns c =
    renamed_all _ c.loop-arc.from (file_node (bytes_of c.args.file.now) (number_of c.args.node)) c.loop-arc.arcs.items
    (sym c.arc_from.ensures ∙ c.in_default.is) c.loop-arc.invariant.taken
