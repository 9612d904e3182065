-- The kinds of standard function blocks and their fields (IEC 61131-3:2003, 2.5.2.3).
-- Codes and the numbers of fields are this project's own.
use Rattle.std.specs.Prelude.{ℕ, Bool, true, false, not, List, [], ◌∷◌, Option, nat_eq, find, position, count_by, codes}
use Rattle.std.specs.Str.{bytes_eq}
use Rattle.il_values.specs.declared.value.Ty.{Ty}
use Rattle.il_values.specs.declared.value.Ty.TheVariants as types
use Rattle.il_model.specs.declared.kind.BlockKind.{BlockKind}
use Rattle.il_model.specs.declared.kind.BlockKind.TheVariants as kinds
use Rattle.il_model.specs.declared.kind.Field.{Field}
use Rattle.il_model.specs.declared.kind.Field.TheVariants as fields

-- every kind, in the order of the codes
abbrev pub block_kinds : List BlockKind
block_kinds = kinds.Sr ∷ kinds.Rs ∷ kinds.RTrig ∷ kinds.FTrig ∷ kinds.Ctu ∷ kinds.Ctd ∷ kinds.Ctud ∷ kinds.Tp
    ∷ kinds.Ton ∷ kinds.Tof ∷ []

abbrev pub kind_code : BlockKind → ℕ
kind_code kinds.Sr = 1
kind_code kinds.Rs = 2
kind_code kinds.RTrig = 3
kind_code kinds.FTrig = 4
kind_code kinds.Ctu = 5
kind_code kinds.Ctd = 6
kind_code kinds.Ctud = 7
kind_code kinds.Tp = 8
kind_code kinds.Ton = 9
kind_code kinds.Tof = 10

-- the kind with that code
abbrev pub kind_of_code : ℕ → Option BlockKind
kind_of_code code = find (λ kind. nat_eq (kind_code kind) code) block_kinds

abbrev pub kind_name : BlockKind → List ℕ
kind_name kinds.Sr = codes "SR"
kind_name kinds.Rs = codes "RS"
kind_name kinds.RTrig = codes "R_TRIG"
kind_name kinds.FTrig = codes "F_TRIG"
kind_name kinds.Ctu = codes "CTU"
kind_name kinds.Ctd = codes "CTD"
kind_name kinds.Ctud = codes "CTUD"
kind_name kinds.Tp = codes "TP"
kind_name kinds.Ton = codes "TON"
kind_name kinds.Tof = codes "TOF"

-- the kind with that name
abbrev pub kind_of_name : List ℕ → Option BlockKind
kind_of_name name = find (λ kind. bytes_eq (kind_name kind) name) block_kinds

-- the fields of a kind by their numbers from 0: its inputs in order, then its outputs
abbrev pub kind_fields : BlockKind → List Field
kind_fields kinds.Sr = fields.S1 ∷ fields.R ∷ fields.Q1 ∷ []
kind_fields kinds.Rs = fields.S ∷ fields.R1 ∷ fields.Q1 ∷ []
kind_fields kinds.RTrig = fields.Clk ∷ fields.Q ∷ []
kind_fields kinds.FTrig = fields.Clk ∷ fields.Q ∷ []
kind_fields kinds.Ctu = fields.Cu ∷ fields.R ∷ fields.Pv ∷ fields.Q ∷ fields.Cv ∷ []
kind_fields kinds.Ctd = fields.Cd ∷ fields.Ld ∷ fields.Pv ∷ fields.Q ∷ fields.Cv ∷ []
kind_fields kinds.Ctud = fields.Cu ∷ fields.Cd ∷ fields.R ∷ fields.Ld ∷ fields.Pv ∷ fields.Qu ∷ fields.Qd
    ∷ fields.Cv ∷ []
kind_fields kinds.Tp = fields.In ∷ fields.Pt ∷ fields.Q ∷ fields.Et ∷ []
kind_fields kinds.Ton = fields.In ∷ fields.Pt ∷ fields.Q ∷ fields.Et ∷ []
kind_fields kinds.Tof = fields.In ∷ fields.Pt ∷ fields.Q ∷ fields.Et ∷ []

-- every field
abbrev pub all_fields : List Field
all_fields =
    fields.S1 ∷ fields.S ∷ fields.R1 ∷ fields.R ∷ fields.Clk ∷ fields.Cu ∷ fields.Cd ∷ fields.Ld ∷ fields.Pv ∷ fields.In
    ∷ fields.Pt ∷
    fields.Q1 ∷ fields.Q ∷ fields.Qu ∷ fields.Qd ∷ fields.Cv ∷ fields.Et ∷ []

abbrev pub field_name : Field → List ℕ
field_name fields.S1 = codes "S1"
field_name fields.S = codes "S"
field_name fields.R1 = codes "R1"
field_name fields.R = codes "R"
field_name fields.Clk = codes "CLK"
field_name fields.Cu = codes "CU"
field_name fields.Cd = codes "CD"
field_name fields.Ld = codes "LD"
field_name fields.Pv = codes "PV"
field_name fields.In = codes "IN"
field_name fields.Pt = codes "PT"
field_name fields.Q1 = codes "Q1"
field_name fields.Q = codes "Q"
field_name fields.Qu = codes "QU"
field_name fields.Qd = codes "QD"
field_name fields.Cv = codes "CV"
field_name fields.Et = codes "ET"

-- counts are INT, times are TIME, all else is BOOL
abbrev pub field_type : Field → Ty
field_type fields.Pv = types.Int
field_type fields.Cv = types.Int
field_type fields.Pt = types.Time
field_type fields.Et = types.Time
field_type _ = types.Bool

abbrev pub is_output : Field → Bool
is_output fields.Q1 = true
is_output fields.Q = true
is_output fields.Qu = true
is_output fields.Qd = true
is_output fields.Cv = true
is_output fields.Et = true
is_output _ = false

abbrev pub is_input : Field → Bool
is_input field = not (is_output field)

-- the field with that name, whatever the kind: it has one type and one direction in all of them
abbrev pub any_field : List ℕ → Option Field
any_field name = find (λ field. bytes_eq (field_name field) name) all_fields

-- the number of the field with that name
abbrev pub field_number : BlockKind → List ℕ → Option ℕ
field_number kind name = position (λ field. bytes_eq (field_name field) name) (kind_fields kind)

abbrev pub input_count : BlockKind → ℕ
input_count kind = count_by is_input (kind_fields kind)
