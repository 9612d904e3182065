-- A fault of a text is one of input.
use Rattle.std.proofs.Common.{◌≡◌, inl, inr, ℕ, List, [], ◌∷◌, ◌++◌, ap}
use Rattle.il_units.specs.Units.{UnitText}
use Rattle.il_units.specs.Flats.{FlatUnit}
use Rattle.il_units.specs.Expansion.{flat_of}
use Rattle.il_text.specs.declared.fault.Fault.{Fault}
use Rattle.il_text.specs.Meaning.{IsExpansionFault, HasUnitFault, IsTextFault}
use Rattle.il_text.specs.Telling.{status_of}

of_expansion : (text : List ℕ) (u : FlatUnit) (told : Fault) → IsExpansionFault text u told → status_of told ≡ 1
of_expansion text u told (inl read) = ap status_of read.is
of_expansion text u told (inr (inl declared)) = ap status_of declared.is
of_expansion text u told (inr (inr typed)) = ap status_of typed.told_is

of_units : (text : List ℕ) (us : List UnitText) (above : List FlatUnit) (told : Fault) → HasUnitFault text above us told → status_of told ≡ 1
of_units text [] above told fault = absurd fault
of_units text (u ∷ us) above told (inl (inl misuse)) = ap status_of misuse.is
of_units text (u ∷ us) above told (inl (inr expansion)) = of_expansion text (flat_of text above u) told expansion.1
of_units text (u ∷ us) above told (inr later) = of_units text us (above ++ flat_of text above u ∷ []) told later.1

pub of_text : (text : List ℕ) (told : Fault) → IsTextFault text told → status_of told ≡ 1
of_text text told (inl (inl read)) = ap status_of read.is
of_text text told (inl (inr (inl declared))) = ap status_of declared.is
of_text text told (inl (inr (inr (inl read)))) = ap status_of read.is
of_text text told (inl (inr (inr (inr units)))) = of_units text units.us [] told units.fault
of_text text told (inr typed) = ap status_of typed.untyped.is
