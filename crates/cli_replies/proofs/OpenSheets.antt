-- The open sheets of a command.
use Rattle.std.proofs.Common.{List, [], ◌∷◌, ◌++◌, map}
use Rattle.io_devices.specs.Devices.{Device, HasRoom}
use Rattle.reply_calls.specs.Sheets.{HaveRoom}

-- there is room for one more
pub one_more : {G : Type 0} (device : G → Device) (sheets : List G) (sheet : G) → HaveRoom (map device sheets) → HasRoom (device sheet) → HaveRoom (map device (sheets ++ sheet ∷ []))
one_more device [] sheet rooms room = (room, tt)
one_more device (one ∷ more) sheet rooms room = (rooms.0, one_more device more sheet rooms.1 room)
