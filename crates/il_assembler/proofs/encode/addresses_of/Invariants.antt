use Rattle.std.proofs.Common.{◌≡◌, ◌+◌, ◌*◌, ◌≤◌, ◌++◌, drop}
use Rattle.il_model.specs.Marks.{words_in}
use Rattle.il_assembler.specs.Walk.{addresses_from}
use Rattle.il_assembler.proofs.encode.addresses_of.Given as goal

abbrev pub invariant-loop-line : goal.invariant-loop-line
invariant-loop-line l = record {
  few : l.at ≤ 9 * l.line-index;
  count : l.at + words_in (drop l.line-index l.code) ≡ words_in l.code;
  addresses : l.found.items ++ addresses_from l.at (drop l.line-index l.code) ≡ addresses_from 0 l.code;
}
