-- A list of values of which some may be missing, one further.
use Rattle.std.proofs.lemmas.List.Elements.{filter_map-append}

pub ruleset kept = (filter_map-append)
