-- The byte of each command (FORMAT 3.4). Assumes nothing: these are definitions.
use Rattle.std.specs.Prelude.{ℕ}
use Rattle.control.specs.declared.CommandKind.{CommandKind}

abbrev pub byte_of : CommandKind → ℕ
byte_of CommandKind.ForcedStart = 0
byte_of CommandKind.Start = 1
byte_of CommandKind.Stop = 2
byte_of CommandKind.Selectors = 3
byte_of CommandKind.Alphas = 4
byte_of CommandKind.Area = 5
byte_of CommandKind.Offsets = 6
byte_of CommandKind.Colours = 7
