use Rattle.lex_build.proofs.Bytes.{run_appended}
use Rattle.lex_build.proofs.writing.push_arcs.Goals as goal

pub returns : goal.returns
returns c =
    run_appended c.args.bytes.now.items c.push_words.new.bytes.items c.push_word.new.bytes.items c.args.arcs.now c.in-Some.inner.now c.in-Some.last.now
    c.last_arc_word.result c.in-Some.ensures.cases c.in_ok-push_words.ensures c.in_ok-push_word.ensures c.last_arc_word.ensures
