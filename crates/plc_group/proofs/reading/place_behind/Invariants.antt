use Rattle.std.proofs.Common.{◌≡◌, ◌≤◌, ◌+◌, take}
use Rattle.plc_group.specs.Lines.{column_behind, line_behind}
use Rattle.plc_group.proofs.reading.place_behind.Given as goal

abbrev pub invariant-loop-byte : goal.invariant-loop-byte
invariant-loop-byte l =
    (l.line ≡ line_behind (take l.byte-index l.before)) × (l.column ≡ column_behind (take l.byte-index l.before))
    × (l.line ≤ 1 + l.byte-index) × (l.column ≤ 1 + l.byte-index)
