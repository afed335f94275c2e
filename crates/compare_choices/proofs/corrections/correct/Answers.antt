use Rattle.std.proofs.Common.{◌≡◌, length, subst, sym, arith}
use Rattle.game_corrections.specs.Corrections.{HavePoints}
use Rattle.game_walk.specs.Rows.{HaveRows}
use Rattle.compare_choices.proofs.Corrected.{stops_where, right_where, rows_where}
use Rattle.compare_choices.proofs.corrections.correct.Goals as goal

pub returns-in-Some : goal.returns-in-Some
returns-in-Some c =
    let ok = c.in_ok-walk.walk.rows.ok in
    let len = c.len.ensures in
    let many : c.len.result ≡ length c.in_ok-walk.walk.rows.items = omega (arith, len, ok) in
    stops_where c.args.rules.now c.args.list.now c.args.events c.walk_and_correct.new.events c.in_ok-walk.walk c.in-Some.stop c.len.result c.in_ok-walk.ensures.walk c.in-Some.is many

pub returns-in-None : goal.returns-in-None
returns-in-None c =
    let rules = c.args.rules.now in
    let list = c.args.list.now in
    let right = c.walk_and_correct.new.events in
    let walk = c.in_ok-walk.walk in
    record {
      is = right_where rules list c.args.events right walk c.in_ok-walk.ensures.walk c.in-None.is (subst HavePoints c.as_slice.ensures c.law_of_points.ensures);
      unlisted = c.unlisted_plays-unlisted.ensures rules list right
          (subst (HaveRows rules list right) (sym c.as_slice-in-None.ensures.value) (rows_where rules list c.args.events right walk c.in_ok-walk.ensures.walk c.in-None.is));
    }
