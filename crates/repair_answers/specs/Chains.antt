-- Several changes that repair a record.
use Rattle.std.specs.Prelude.{◌≡◌, ◌⊎◌, ℕ, List, Option, None, Result, Ok, Err, IfSome}
use Rattle.ref_tiles.specs.declared.rulebook.Rules.{Rules}
use Rattle.gcg_read.specs.declared.faults.ReadFault.{ReadFault}
use Rattle.game_case.specs.declared.entries.Entry.{Entry}
use Rattle.repair_pairs.specs.Chains.{IsChain}
use Rattle.repair_pairs.specs.declared.chains.Chain.{Chain}

-- the chain that was found, or none
abbrev pub IsChosen : (found reported : Option Chain) → Type 0
IsChosen found reported = (reported ≡ found) ⊎ (reported ≡ None)

-- A chain that is reported repairs the record.
abbrev pub IsChainOf : Result Entry ReadFault → Rules → (list : List (List ℕ)) → Option Chain → Type 0
IsChainOf (Err fault) rules list reported = reported ≡ None
IsChainOf (Ok entry) rules list reported = IfSome reported (IsChain rules list entry.record.events 7)
