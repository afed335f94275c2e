use Rattle.std.proofs.Common.{rules, ◌≡◌, ℤ, length, subst, to_z, of_z, w32, to_z-of_z}
use Rattle.gen_sinks.specs.Skips.{AllAbove}
use Rattle.gen_sinks.proofs.Skipping.{still_kept}
use Rattle.gen_sinks.proofs.top.TopSink.skips.Goals as goal

pub returns-then-is_full : goal.returns-then-is_full
returns-then-is_full g c above given low =
    let full : length c.args.self.now.kept.items ≡ g.row.N = search rules in
    still_kept g.row.N c.args.self.now.board c.args.self.now.kept.items c.args.bound given full
    (subst (λ (b : ℤ). AllAbove b c.args.self.now.kept.items) (to_z-of_z c.ranges.bound) (subst (AllAbove (to_z w32 (of_z w32 c.args.bound))) c.deref.ensures.0 (c.all_above.ensures above))) low
