use Rattle.std.proofs.Common.{◌≡◌, refl, ℕ, zero, suc}
use Rattle.std.specs.Prelude.{Some, IfSome, slice_get, nat_lt}
use Rattle.il_model.specs.declared.kind.BlockKind.{BlockKind}
use Rattle.il_model.specs.declared.kind.BlockKind.TheVariants as kinds
use Rattle.il_model.specs.Kinds.{kind_code, kind_name, kind_of_code, kind_of_name, kind_fields, is_input, input_count}

-- no two kinds have one code, or one name
pub kind_of_code-kind_code : (kind : BlockKind) → kind_of_code (kind_code kind) ≡ Some kind
kind_of_code-kind_code kinds.Sr = refl
kind_of_code-kind_code kinds.Rs = refl
kind_of_code-kind_code kinds.RTrig = refl
kind_of_code-kind_code kinds.FTrig = refl
kind_of_code-kind_code kinds.Ctu = refl
kind_of_code-kind_code kinds.Ctd = refl
kind_of_code-kind_code kinds.Ctud = refl
kind_of_code-kind_code kinds.Tp = refl
kind_of_code-kind_code kinds.Ton = refl
kind_of_code-kind_code kinds.Tof = refl

pub kind_of_name-kind_name : (kind : BlockKind) → kind_of_name (kind_name kind) ≡ Some kind
kind_of_name-kind_name kinds.Sr = refl
kind_of_name-kind_name kinds.Rs = refl
kind_of_name-kind_name kinds.RTrig = refl
kind_of_name-kind_name kinds.FTrig = refl
kind_of_name-kind_name kinds.Ctu = refl
kind_of_name-kind_name kinds.Ctd = refl
kind_of_name-kind_name kinds.Ctud = refl
kind_of_name-kind_name kinds.Tp = refl
kind_of_name-kind_name kinds.Ton = refl
kind_of_name-kind_name kinds.Tof = refl

-- the fields below the number of inputs are inputs, the others are outputs
pub inputs_first : (kind : BlockKind) (n : ℕ) → IfSome (slice_get (kind_fields kind) n) (λ field. is_input field ≡ nat_lt n (input_count kind))
inputs_first kinds.Sr zero = refl
inputs_first kinds.Sr (suc zero) = refl
inputs_first kinds.Sr (suc (suc zero)) = refl
inputs_first kinds.Sr (suc (suc (suc n))) = tt
inputs_first kinds.Rs zero = refl
inputs_first kinds.Rs (suc zero) = refl
inputs_first kinds.Rs (suc (suc zero)) = refl
inputs_first kinds.Rs (suc (suc (suc n))) = tt
inputs_first kinds.RTrig zero = refl
inputs_first kinds.RTrig (suc zero) = refl
inputs_first kinds.RTrig (suc (suc n)) = tt
inputs_first kinds.FTrig zero = refl
inputs_first kinds.FTrig (suc zero) = refl
inputs_first kinds.FTrig (suc (suc n)) = tt
inputs_first kinds.Ctu zero = refl
inputs_first kinds.Ctu (suc zero) = refl
inputs_first kinds.Ctu (suc (suc zero)) = refl
inputs_first kinds.Ctu (suc (suc (suc zero))) = refl
inputs_first kinds.Ctu (suc (suc (suc (suc zero)))) = refl
inputs_first kinds.Ctu (suc (suc (suc (suc (suc n))))) = tt
inputs_first kinds.Ctd zero = refl
inputs_first kinds.Ctd (suc zero) = refl
inputs_first kinds.Ctd (suc (suc zero)) = refl
inputs_first kinds.Ctd (suc (suc (suc zero))) = refl
inputs_first kinds.Ctd (suc (suc (suc (suc zero)))) = refl
inputs_first kinds.Ctd (suc (suc (suc (suc (suc n))))) = tt
inputs_first kinds.Ctud zero = refl
inputs_first kinds.Ctud (suc zero) = refl
inputs_first kinds.Ctud (suc (suc zero)) = refl
inputs_first kinds.Ctud (suc (suc (suc zero))) = refl
inputs_first kinds.Ctud (suc (suc (suc (suc zero)))) = refl
inputs_first kinds.Ctud (suc (suc (suc (suc (suc zero))))) = refl
inputs_first kinds.Ctud (suc (suc (suc (suc (suc (suc zero)))))) = refl
inputs_first kinds.Ctud (suc (suc (suc (suc (suc (suc (suc zero))))))) = refl
inputs_first kinds.Ctud (suc (suc (suc (suc (suc (suc (suc (suc n)))))))) = tt
inputs_first kinds.Tp zero = refl
inputs_first kinds.Tp (suc zero) = refl
inputs_first kinds.Tp (suc (suc zero)) = refl
inputs_first kinds.Tp (suc (suc (suc zero))) = refl
inputs_first kinds.Tp (suc (suc (suc (suc n)))) = tt
inputs_first kinds.Ton zero = refl
inputs_first kinds.Ton (suc zero) = refl
inputs_first kinds.Ton (suc (suc zero)) = refl
inputs_first kinds.Ton (suc (suc (suc zero))) = refl
inputs_first kinds.Ton (suc (suc (suc (suc n)))) = tt
inputs_first kinds.Tof zero = refl
inputs_first kinds.Tof (suc zero) = refl
inputs_first kinds.Tof (suc (suc zero)) = refl
inputs_first kinds.Tof (suc (suc (suc zero))) = refl
inputs_first kinds.Tof (suc (suc (suc (suc n)))) = tt
