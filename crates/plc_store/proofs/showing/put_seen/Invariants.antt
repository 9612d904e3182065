use Rattle.std.proofs.Common.{◌≡◌, ◌++◌, drop, string_bytes}
use Rattle.std.specs.List.{enumerate_from, flat_map}
use Rattle.plc_store.specs.Showing.{seen_line, seen_lines}
use Rattle.plc_store.proofs.showing.put_seen.Given as goal

abbrev pub invariant-loop-machine : goal.invariant-loop-machine
invariant-loop-machine l = string_bytes l.lines ++ flat_map seen_line (enumerate_from l.machine (drop l.machine l.seen)) ≡ string_bytes l.fn.lines ++ seen_lines l.seen
