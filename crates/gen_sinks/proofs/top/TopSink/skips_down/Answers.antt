use Rattle.std.proofs.Common.{rules, ◌≡◌, ℤ, length, subst, to_z, of_z, w32, to_z-of_z}
use Rattle.gen_sinks.specs.Skips.{AllBeforeDown}
use Rattle.gen_sinks.proofs.Skipping.{still_kept_down}
use Rattle.gen_sinks.proofs.top.TopSink.skips_down.Goals as goal

pub returns-then-is_full : goal.returns-then-is_full
returns-then-is_full g c before given down low =
    let full : length c.args.self.now.kept.items ≡ g.row.N = search rules in
    still_kept_down g.row.N c.args.self.now.board c.args.self.now.kept.items c.args.bound given full
    (subst (λ (b : ℤ). AllBeforeDown c.args.self.now.board b c.args.self.now.kept.items) (to_z-of_z c.ranges.bound) (subst (AllBeforeDown c.args.self.now.board (to_z w32 (of_z w32 c.args.bound))) c.deref.ensures.0 (c.all_before_down.ensures before))) down low
