use Rattle.std.proofs.Common.{rules}
use Rattle.ref_play.specs.Words.{items_of}
use Rattle.game_turns.specs.Machines.{state_of}
use Rattle.game_turns.specs.Passing.{rules_in, record_in}
use Rattle.lex_check.specs.Pairs.{list_in}
use Rattle.game_report.proofs.ReportLines.{line_is}
use Rattle.game_report.proofs.event_lines.push_event_line.Goals as goal

pub returns-clause-line : goal.returns-clause-line
returns-clause-line c =
    let passed = c.args.passed.now in
    line_is (rules_in passed) (list_in c.args.pair.now) c.record-game.result.now (record_in passed) c.args.place (state_of c.args.machine.now) c.as_slice.result.now c.index-as_slice-place.result c.as_bytes.result.now
    c.args.text.now.items c.push_heading.new.text.items c.event_text.new.out.items c.push_best.new.text.items c.push_unlisted.new.text.items c.push.new.self.items
    (items_of c.standing_words.result.now) (search rules) c.requires.stand.state c.requires.place (search rules) c.index-as_slice-place.is (search rules) (c.in_ok-push_heading.ensures) (c.in_ok-event_text.ensures.written) (c.in_ok-push_best.ensures.best) (search rules) (search rules) (c.in_ok-push.ensures.items)
