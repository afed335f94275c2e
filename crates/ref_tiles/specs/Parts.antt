-- The parts of the rules, and which of them make rules.
use Rattle.std.specs.Prelude.{Bool, ◌&&◌}
use Rattle.ref_tiles.specs.declared.rulebook.Rules.{Rules}
use Rattle.ref_tiles.specs.declared.parts.RuleParts.{RuleParts}
use Rattle.ref_tiles.specs.Limits.{is_tile_set, are_points, is_bonus, is_parameter}

-- every part is within its limits
abbrev pub are_in_limits : RuleParts → Bool
are_in_limits parts =
    is_tile_set parts.counts && are_points parts.points && is_bonus parts.bonus && is_parameter parts.exchange_min
    && is_parameter parts.zero_limit && is_parameter parts.challenge_unit && is_parameter parts.time_step

-- the parts of rules
abbrev pub parts_of : Rules → RuleParts
parts_of rules =
    record {
      counts = rules.counts;
      points = rules.points;
      premiums = rules.premiums;
      bonus = rules.bonus;
      exchange_min = rules.exchange_min;
      zero_limit = rules.zero_limit;
      challenge_unit = rules.challenge_unit;
      time_step = rules.time_step;
    }
