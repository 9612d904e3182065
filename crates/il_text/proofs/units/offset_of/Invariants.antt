use Rattle.std.proofs.Common.{◌≡◌, ◌<◌, ℕ, take}
use Rattle.il_reader.specs.Texts.{place_behind}
use Rattle.il_text.proofs.units.offset_of.Given as goal

-- it isn't the place behind fewer bytes
abbrev pub invariant-loop-i : goal.invariant-loop-i
invariant-loop-i l = record {
  here : l.here ≡ place_behind (take l.i l.text);
  before : (k : ℕ) → k < l.i → l.place ≡ place_behind (take k l.text) → ⊥;
}
