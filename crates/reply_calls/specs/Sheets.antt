-- The sheets that a call reads.
use Rattle.std.specs.Prelude.{List, [], ◌∷◌}
use Rattle.io_devices.specs.Devices.{Device, HasRoom}
use Rattle.engine_stages.specs.Sources.{Source, game_source, no_device}

-- Sheets as inputs, in the order in which they are read, by their devices before and after the call.
abbrev pub sheet_sources : (olds news : List Device) → List Source
sheet_sources [] news = []
sheet_sources (old ∷ olds) [] = game_source old no_device ∷ sheet_sources olds []
sheet_sources (old ∷ olds) (new ∷ news) = game_source old new ∷ sheet_sources olds news

-- there is room to count what each of them gives
abbrev pub HaveRoom : List Device → Type 0
HaveRoom [] = Unit {0}
HaveRoom (device ∷ devices) = HasRoom device × HaveRoom devices
