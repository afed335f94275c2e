use Rattle.std.proofs.Common.{rules, ◌≡◌, length, sym, subst, arith}
use Rattle.lex_check.specs.Pairs.{list_in}
use Rattle.sheet_scores.specs.Rows.{AreSheetRows}
use Rattle.sheet_scores.proofs.SheetRows.{no_rows, rows_more}
use Rattle.sheet_scores.proofs.rows.rows_of.Goals as goal

pub loop-place-init : goal.loop-place-init
loop-place-init c =
    let rules = c.args.rules.now in
    let list = list_in c.args.pair.now in
    let written = c.args.events.now in
    record {
      beside = c.new-beside.ensures;
      known = c.in_ok-known.ensures rules list;
      rows = λ right is. subst (AreSheetRows rules list written right 0) (sym c.new-rows.ensures.items) (no_rows rules list written right);
    }

pub loop-place-preserved : goal.loop-place-preserved
loop-place-preserved c =
    record {
      beside = c.in_ok-row.ensures.beside;
      known = c.in_ok-row.ensures.known;
      rows = λ right is.
          rows_more c.args.rules.now (list_in c.args.pair.now) c.args.events.now right c.loop-place.place c.loop-place.rows.items c.push.new.self.items c.in_ok-row.row (c.loop-place.invariant.rows right is)
          (c.in_ok-row.ensures.row right is) (search rules);
    }

pub returns : goal.returns
returns c =
    λ right is.
    let last : c.loop-place.place ≡ length c.args.events.now = omega (arith, c.loop-place-test.false, c.loop-place.auto.place-end) in
    subst (λ n. AreSheetRows c.args.rules.now (list_in c.args.pair.now) c.args.events.now right n c.loop-place.rows.items) last (c.loop-place.invariant.rows right is)
