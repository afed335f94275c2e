use Rattle.archive_lines.specs.Tabs.{verdict_reported, record_reported, rest_reported, tab_line}
use Rattle.archive_lines.proofs.Joined.{line_is}
use Rattle.archive_lines.proofs.tabs.push_tab_line.Goals as goal

pub returns : goal.returns
unfolding tab_line
returns c =
    let f = c.args.fields.now in
    rw (
      c.in_ok-push.ensures.items,
      c.in_ok-push_rest.ensures,
      c.in_ok-push_record.ensures,
      c.in_ok-push_verdict.ensures,
      c.in_ok-push_escaped.ensures,
      c.as_bytes.ensures.value,
    )
    (line_is c.args.line.now.items f.name.now (verdict_reported f) (record_reported f) (rest_reported f.page f.likely f.unread_lines))
