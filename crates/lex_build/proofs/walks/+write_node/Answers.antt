use Rattle.std.proofs.Common.{sym, ◌∙◌, arith}
use Rattle.lex_file.specs.FileWords.{body_of}
use Rattle.lex_build.specs.Bodies.{IsKept}
use Rattle.lex_build.proofs.Gathering.{IsBranch, branch_ends, branch_goes, branch_fails, gathered_none, gathered_more, written_none, written_by, branch_label, none_of_test, some_of_test}
use Rattle.std.proofs.lemmas.Bool.{false≢true}
use Rattle.lex_build.proofs.walks.+write_node.Goals as goal
use Rattle.lex_build.proofs.walks.+write_node.Goals.{in-Some-next+in-Ok, in-None}

pub loop-label-init : goal.loop-label-init
loop-label-init g t c = record {
  kept = c.requires.kept;
  gathered = gathered_none (body_of c.args.writer.now.bytes.items) (g.L.PathLex.tail c.args.lexicon.now c.args.node) c.new-arcs.result.items c.new-arcs.ensures.items;
  low = omega arith;
}

pub returns-in-Err-clause-written : goal.returns-in-Err-clause-written
returns-in-Err-clause-written g t c =
    let lexicon = c.args.lexicon.now in
    let following = rw c.in-Some-next.is at c.in-Some.ensures.next in
    branch_fails (g.L.PathLex.is_node lexicon) (g.L.PathLex.tail lexicon) (g.L.PathLex.height lexicon) c.args.node c.in-Some.field-0.label c.in-Some-next.next following
    (g.met.L.PathLex.nonempty lexicon c.in-Some-next.next following.node) (body_of c.args.writer.now.bytes.items) (body_of c.loop-label.writer.bytes.items) c.loop-label.from
    c.loop-label.arcs.items c.in-Err.why c.in-Some.ensures.reached c.loop-label.invariant.gathered c.in-Err.ensures.written

pub loop-label-preserved : goal.loop-label-preserved
loop-label-preserved g t c =
    let lexicon = c.args.lexicon.now in
    let label = c.in-Some.field-0.label in
    let step = c.in-Some.field-0.step in
    let tail = g.L.PathLex.tail lexicon c.args.node in
    let low =
    branch_label (g.L.PathLex.is_node lexicon) (g.L.PathLex.tail lexicon) (g.L.PathLex.height lexicon) c.args.node label step.accepts step.next
    (λ string. g.met.L.PathLex.labels lexicon c.args.node string c.requires.node) c.in-Some.ensures.accepts c.in-Some.ensures.alive c.in-Some.ensures.next
    in
    let branch : IsBranch (body_of c.loop-label.writer.bytes.items) (body_of c.match-step.writer.bytes.items) tail label c.match-step.target =
    elim c.match-step.branch [
      | in-Some-next+in-Ok w ↦
          let following = rw w.in-Some-next.is at c.in-Some.ensures.next in
          rw (w.writer-is, w.target-is)
          (branch_goes (g.L.PathLex.is_node lexicon) (g.L.PathLex.tail lexicon) (g.L.PathLex.height lexicon) c.args.node label w.in-Some-next.next following
          (g.met.L.PathLex.nonempty lexicon w.in-Some-next.next following.node) (body_of c.loop-label.writer.bytes.items) (body_of w.write_node.new.writer.bytes.items) _ w.in-Ok.ensures.written)
      | in-None w ↦
          let none = rw w.in-None.is at c.in-Some.ensures.next in
          let alive = rw w.in-None.is at c.in-Some.ensures.alive in
          rw (w.writer-is, w.target-is)
          (branch_ends (body_of c.loop-label.writer.bytes.items) tail label step.accepts c.in-Some.ensures.accepts (λ e. false≢true (alive e)) none)
    ]
    in
    let kept : IsKept c.match-step.writer.bytes.items c.match-step.writer.nodes.entries =
    elim c.match-step.branch [
      | in-Some-next+in-Ok w ↦ rw w.writer-is w.in-Ok.ensures.kept
      | in-None w ↦ rw w.writer-is c.loop-label.invariant.kept
    ]
    in
    record {
      kept = kept;
      gathered = gathered_more (body_of c.args.writer.now.bytes.items) (body_of c.loop-label.writer.bytes.items) (body_of c.match-step.writer.bytes.items) tail c.loop-label.from
          c.loop-label.arcs.items label step.accepts c.match-step.target c.arc_word.result c.loop-label.invariant.gathered c.loop-label.invariant.kept.body
          c.in-Some.ensures.reached (omega (arith, low)) c.in-Some.ensures.passed c.in-Some.ensures.accepts branch
          (record { label_is = c.arc_word.ensures.label; accepts_is = c.arc_word.ensures.accepts; target_is = c.arc_word.ensures.target; unmarked = c.arc_word.ensures.unmarked })
          c.push.new.self.items c.in-Ok-push.ensures.ok;
      low = omega (arith, low);
    }

pub returns-then-is_empty-clause-written : goal.returns-then-is_empty-clause-written
returns-then-is_empty-clause-written g t c =
    written_none (body_of c.args.writer.now.bytes.items) (body_of c.loop-label.writer.bytes.items) (g.L.PathLex.tail c.args.lexicon.now c.args.node) c.loop-label.from c.loop-label.arcs.items
    c.loop-label.invariant.gathered (g.met.L.PathLex.nonempty c.args.lexicon.now c.args.node c.requires.node) c.in_default.ensures.none
    (none_of_test c.loop-label.arcs.items (sym c.is_empty.ensures ∙ c.if-is_empty.true))

pub returns-clause-written : goal.returns-clause-written
returns-clause-written g t c =
    written_by (body_of c.args.writer.now.bytes.items) (body_of c.loop-label.writer.bytes.items) (body_of c.place_node.new.self.bytes.items)
    (g.L.PathLex.tail c.args.lexicon.now c.args.node) c.loop-label.from c.loop-label.arcs.items
    c.loop-label.invariant.gathered (g.met.L.PathLex.nonempty c.args.lexicon.now c.args.node c.requires.node) c.in_default.ensures.none
    c.loop-label.invariant.kept.body (some_of_test c.loop-label.arcs.items (sym c.is_empty.ensures ∙ c.if-is_empty.false))
    c.place_node.result c.place_node.ensures.placed c.place_node.ensures.fault
