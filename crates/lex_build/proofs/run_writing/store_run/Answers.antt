use Rattle.lex_file.specs.FileWords.{body_of}
use Rattle.lex_build.proofs.ArcStoring.{front_fits, last_fits, last_unmarked, has_stored_run}
use Rattle.lex_build.proofs.run_writing.store_run.Goals as goal

pub push_open_words-requires : goal.push_open_words-requires
push_open_words-requires c =
    let front =
    front_fits (body_of c.args.bytes.now.items) c.args.arcs.now c.in-Some.inner.now c.in-Some.last.now c.requires.sound c.requires.arcs c.in-Some.ensures.cases in
    record { whole = c.requires.whole; labels = front.0; targets = front.1 }

pub open_word-requires : goal.open_word-requires
open_word-requires c =
    let one =
    last_fits (body_of c.args.bytes.now.items) c.args.arcs.now c.in-Some.inner.now c.in-Some.last.now c.requires.sound c.requires.arcs c.in-Some.ensures.cases in
    record { label = one.0; target = one.1 }

pub last_arc_word-requires : goal.last_arc_word-requires
last_arc_word-requires c =
    last_unmarked (body_of c.args.bytes.now.items) c.args.arcs.now c.in-Some.inner.now c.in-Some.last.now c.requires.sound c.requires.arcs c.in-Some.ensures.cases
    c.open_word.result c.open_word.ensures

pub returns : goal.returns
returns c =
    has_stored_run c.args.bytes.now.items c.push_open_words.new.bytes.items c.push_word.new.bytes.items c.args.arcs.now c.in-Some.inner.now c.in-Some.last.now
    c.open_word.result c.last_arc_word.result c.requires.sound c.requires.arcs c.requires.room c.in-Some.ensures.cases c.in_ok-push_open_words.ensures
    c.open_word.ensures c.last_arc_word.ensures c.in_ok-push_word.ensures
