-- The faults of a call's arguments, from left to right.
use Rattle.std.proofs.Common.{◌≡◌, ℕ, ◌+◌, ◌<◌, ◌≤◌, Bool, true, false, cond, List, [], ◌∷◌, ◌++◌, length, take, drop, Option, Some, None, refl, sym, ap, ◌∙◌, arith, get_or}
use Rattle.std.specs.Prelude.{map, nat_lt, ◌||◌, ℤ}
use Rattle.std.specs.List.{list_any}
use Rattle.std.proofs.lemmas.Bool.{ltb-true, ltb-false, le-ltb}
use Rattle.std.proofs.lemmas.List.{take_more, drop_more, map-append}
use Rattle.il_values.specs.declared.value.Ty.{Ty}
use Rattle.il_values.specs.declared.value.Value.{Value}
use Rattle.il_model.specs.declared.kind.BlockKind.{BlockKind}
use Rattle.il_model.specs.declared.kind.Field.{Field}
use Rattle.il_model.specs.declared.program.Argument.{Argument}
use Rattle.il_model.specs.declared.program.Operand.{Operand}
use Rattle.il_model.specs.declared.program.Operand.TheVariants as operands
use Rattle.il_model.specs.declared.program.Side.{Side}
use Rattle.il_model.specs.declared.program.Side.TheVariants as sides
use Rattle.il_model.specs.declared.typing.TypeFault.{TypeFault}
use Rattle.il_model.specs.declared.typing.TypeFault.TheVariants.{TypeMismatch, NoCurrentResult, UnknownLabel, DuplicateLabel, Unbalanced, TooDeep, NotWritable, BadField}
use Rattle.il_model.specs.declared.typing.OperandKind.{OperandKind}
use Rattle.il_model.specs.declared.typing.OperandKind.TheVariants as kinds
use Rattle.il_model.specs.Program.{Program}
use Rattle.il_model.specs.Words.{same_name}
use Rattle.il_model.specs.Kinds.{field_type, any_field}
use Rattle.il_values.specs.Values.{typed_value}
use Rattle.il_model.specs.Row.{same_type}
use Rattle.il_model.specs.Constants.{operand_literal}
use Rattle.il_model.specs.Typing.{kind_field}
use Rattle.il_model.specs.Checking.{fault_rank, tried_first, first_fault, operand_kind, passing_fault, goes_so, field_fault, argument_fault, arguments_fault}
use Rattle.il_model.specs.Settled.{settled_as, settled_passing, settled_argument, as_settled}
use Rattle.il_model.proofs.TypedLines.{is_among}

-- ---- of three faults the one that is tried first

tried_by : (f g h : TypeFault) (p q r : Bool) → nat_lt (fault_rank g) (fault_rank f) ≡ p → nat_lt (fault_rank h) (fault_rank g) ≡ q → nat_lt (fault_rank h) (fault_rank f) ≡ r
    → tried_first (cond p g f) h ≡ tried_first f (cond q h g)
tried_by f g h true true true gf hg hf = ap (λ (b : Bool). cond b h g) hg ∙ sym (ap (λ (b : Bool). cond b h f) hf)
tried_by f g h true true false gf hg hf =
    let a = ltb-true (fault_rank g) (fault_rank f) gf in
    let b = ltb-true (fault_rank h) (fault_rank g) hg in
    let c = ltb-false (fault_rank h) (fault_rank f) hf in
    absurd (omega (arith, a, b, c))
tried_by f g h true false r gf hg hf = ap (λ (b : Bool). cond b h g) hg ∙ sym (ap (λ (b : Bool). cond b g f) gf)
tried_by f g h false true r gf hg hf = refl
tried_by f g h false false true gf hg hf =
    let a = ltb-false (fault_rank g) (fault_rank f) gf in
    let b = ltb-false (fault_rank h) (fault_rank g) hg in
    let c = ltb-true (fault_rank h) (fault_rank f) hf in
    absurd (omega (arith, a, b, c))
tried_by f g h false false false gf hg hf = ap (λ (b : Bool). cond b h f) hf ∙ sym (ap (λ (b : Bool). cond b g f) gf)

tried_in_turn : (f g h : TypeFault) → tried_first (tried_first f g) h ≡ tried_first f (tried_first g h)
tried_in_turn f g h = tried_by f g h (nat_lt (fault_rank g) (fault_rank f)) (nat_lt (fault_rank h) (fault_rank g)) (nat_lt (fault_rank h) (fault_rank f)) refl refl refl

first_in_turn : (o p q : Option TypeFault) → first_fault (first_fault o p) q ≡ first_fault o (first_fault p q)
first_in_turn None p q = refl
first_in_turn (Some f) None q = refl
first_in_turn (Some f) (Some g) None = refl
first_in_turn (Some f) (Some g) (Some h) = ap (λ (x : TypeFault). Some x) (tried_in_turn f g h)

-- ---- no fault of an argument is tried before a bad field

abbrev pub IsLate : Option TypeFault → Type 0
IsLate None = Unit {0}
IsLate (Some f) = fault_rank BadField ≤ fault_rank f

unless_late : (b : Bool) → IsLate (cond b None (Some TypeMismatch))
unless_late true = tt
unless_late false = omega arith

passing_late : (side : Side) (t : Ty) (kind : OperandKind) → IsLate (passing_fault side t kind)
passing_late sides.Input t kinds.Absent = omega arith
passing_late sides.Input t (kinds.Typed u w) = unless_late (same_type t u)
passing_late sides.Input t kinds.Misfit = omega arith
passing_late sides.Input t kinds.Target = omega arith
passing_late sides.Input t kinds.NoTarget = omega arith
passing_late sides.Input t kinds.Instance = omega arith
passing_late sides.Input t kinds.NoField = omega arith
passing_late sides.Output t kinds.Absent = omega arith
passing_late sides.Output t (kinds.Typed u true) = unless_late (same_type t u)
passing_late sides.Output t (kinds.Typed u false) = omega arith
passing_late sides.Output t kinds.Misfit = omega arith
passing_late sides.Output t kinds.Target = omega arith
passing_late sides.Output t kinds.NoTarget = omega arith
passing_late sides.Output t kinds.Instance = omega arith
passing_late sides.Output t kinds.NoField = omega arith

chosen_late : (b : Bool) (o p : Option TypeFault) → IsLate o → IsLate p → IsLate (cond b o p)
chosen_late true o p a b = a
chosen_late false o p a b = b

bad_late : IsLate (Some BadField)
bad_late = omega arith

field_late : (Q : Program) (a : Argument) (o : Option Field) → IsLate (field_fault Q a o)
field_late Q a None = bad_late
field_late Q a (Some field) = chosen_late (goes_so a.side field) (passing_fault a.side (field_type field) (operand_kind Q a.operand)) (Some BadField) (passing_late a.side (field_type field) (operand_kind Q a.operand)) bad_late

pub argument_late : (Q : Program) (kind : Option BlockKind) (seen : List Argument) (a : Argument) → IsLate (argument_fault Q kind seen a)
argument_late Q None seen a = bad_late
argument_late Q (Some k) seen a = chosen_late (is_among seen a) (Some BadField) (field_fault Q a (kind_field k a.field)) bad_late (field_late Q a (kind_field k a.field))

tried_late : (b : Bool) (f g : TypeFault) → IsLate (Some f) → IsLate (Some g) → IsLate (Some (cond b g f))
tried_late true f g a b = b
tried_late false f g a b = a

pub first_late : (o p : Option TypeFault) → IsLate o → IsLate p → IsLate (first_fault o p)
first_late None p a b = b
first_late (Some f) None a b = a
first_late (Some f) (Some g) a b = tried_late (nat_lt (fault_rank g) (fault_rank f)) f g a b

arguments_late : (Q : Program) (kind : Option BlockKind) (seen args : List Argument) → IsLate (arguments_fault Q kind seen args)
arguments_late Q kind seen [] = tt
arguments_late Q kind seen (a ∷ args) = first_late (argument_fault Q kind seen a) (arguments_fault Q kind (seen ++ a ∷ []) args) (argument_late Q kind seen a) (arguments_late Q kind (seen ++ a ∷ []) args)

bad_before : (o : Option TypeFault) → IsLate o → first_fault (Some BadField) o ≡ Some BadField
bad_before None late = refl
bad_before (Some f) late = ap (λ (b : Bool). Some (cond b f BadField)) (le-ltb (fault_rank f) (fault_rank BadField) late)

bad_behind : (o : Option TypeFault) → IsLate o → first_fault o (Some BadField) ≡ Some BadField
bad_behind None late = refl
bad_behind (Some DuplicateLabel) late = absurd (omega (arith, late))
bad_behind (Some Unbalanced) late = absurd (omega (arith, late))
bad_behind (Some TooDeep) late = absurd (omega (arith, late))
bad_behind (Some UnknownLabel) late = absurd (omega (arith, late))
bad_behind (Some BadField) late = refl
bad_behind (Some NotWritable) late = refl
bad_behind (Some NoCurrentResult) late = refl
bad_behind (Some TypeMismatch) late = refl

-- ---- settled arguments

-- the literal that a bare number is, or else the number
pub literal_by : (z : ℤ) (o : Option Value) → operand_literal (settled_as z o) ≡ None → settled_as z o ≡ operands.Bare z
literal_by z (Some v) e = absurd cc
literal_by z None e = refl

passing_none : (side : Side) (field : Option Field) (o : Operand) → operand_literal (settled_passing side field o) ≡ None → settled_passing side field o ≡ o
passing_none sides.Output field o e = refl
passing_none sides.Input None o e = refl
passing_none sides.Input (Some field) operands.Absent e = refl
passing_none sides.Input (Some field) (operands.Literal v) e = refl
passing_none sides.Input (Some field) (operands.Bare z) e = literal_by z (typed_value (field_type field) z) e
passing_none sides.Input (Some field) (operands.Variable name) e = refl
passing_none sides.Input (Some field) (operands.Direct loc) e = refl
passing_none sides.Input (Some field) (operands.Label name) e = refl
passing_none sides.Input (Some field) (operands.Field name other) e = refl
passing_none sides.Input (Some field) (operands.Instance name) e = refl

-- an argument's operand that is no literal once it is settled is as it was
pub settled_argument_none : (a : Argument) → operand_literal (settled_argument a).operand ≡ None → (settled_argument a).operand ≡ a.operand
settled_argument_none a e = passing_none a.side (any_field a.field) a.operand e

pub none_settled : (args : List Argument) → map (as_settled false) args ≡ args
none_settled [] = refl
none_settled (a ∷ args) = ap (λ (rest : List Argument). a ∷ rest) (none_settled args)

pub all_settled : (args : List Argument) → map (as_settled true) args ≡ map settled_argument args
all_settled [] = refl
all_settled (a ∷ args) = ap (λ (rest : List Argument). settled_argument a ∷ rest) (all_settled args)

pub same_field : (s : Bool) (a : Argument) → (as_settled s a).field ≡ a.field
same_field true a = refl
same_field false a = refl

pub same_side : (s : Bool) (a : Argument) → (as_settled s a).side ≡ a.side
same_side true a = refl
same_side false a = refl

pub among_same : (seen : List Argument) (s : Bool) (a : Argument) → is_among seen (as_settled s a) ≡ is_among seen a
among_same seen s a = ap (λ (name : List ℕ). list_any (λ (b : Argument). same_name b.field name) seen) (same_field s a)

among_settled : (s : Bool) (seen : List Argument) (a : Argument) → is_among (map (as_settled s) seen) a ≡ is_among seen a
among_settled s [] a = refl
among_settled s (b ∷ seen) a =
    ap (λ (name : List ℕ). same_name name a.field || is_among (map (as_settled s) seen) a) (same_field s b)
    ∙ ap (λ (c : Bool). same_name b.field a.field || c) (among_settled s seen a)

-- settling those before an argument doesn't change its fault
seen_settled : (Q : Program) (kind : Option BlockKind) (s : Bool) (seen : List Argument) (a : Argument) → argument_fault Q kind (map (as_settled s) seen) a ≡ argument_fault Q kind seen a
seen_settled Q None s seen a = refl
seen_settled Q (Some k) s seen a = ap (λ (b : Bool). cond b (Some BadField) (field_fault Q a (kind_field k a.field))) (among_settled s seen a)

pub is_seen : (Q : Program) (kind : Option BlockKind) (k : BlockKind) (seen : List Argument) (s : Bool) (a : Argument) → kind ≡ Some k → is_among seen a ≡ true → argument_fault Q kind seen (as_settled s a) ≡ Some BadField
is_seen Q kind k seen s a is among =
    ap (λ (o : Option BlockKind). argument_fault Q o seen (as_settled s a)) is
    ∙ ap (λ (b : Bool). cond b (Some BadField) (field_fault Q (as_settled s a) (kind_field k (as_settled s a).field))) (among_same seen s a ∙ among)

pub is_new : (Q : Program) (kind : Option BlockKind) (k : BlockKind) (seen : List Argument) (s : Bool) (a : Argument) → kind ≡ Some k → is_among seen a ≡ false → argument_fault Q kind seen (as_settled s a) ≡ field_fault Q (as_settled s a) (kind_field k a.field)
is_new Q kind k seen s a is among =
    ap (λ (o : Option BlockKind). argument_fault Q o seen (as_settled s a)) is
    ∙ ap (λ (b : Bool). cond b (Some BadField) (field_fault Q (as_settled s a) (kind_field k (as_settled s a).field))) (among_same seen s a ∙ among)
    ∙ ap (λ (name : List ℕ). field_fault Q (as_settled s a) (kind_field k name)) (same_field s a)

-- ---- going over the arguments

-- the fault of those from a place on
abbrev pub fault_from : Program → Option BlockKind → Bool → List Argument → ℕ → Option TypeFault
fault_from Q kind s args i = arguments_fault Q kind (map (as_settled s) (take i args)) (map (as_settled s) (drop i args))

fault_here : (Q : Program) (kind : Option BlockKind) (s : Bool) (args : List Argument) (i : ℕ) (a : Argument) → i < length args → a ≡ get_or args i a
    → fault_from Q kind s args i ≡ first_fault (argument_fault Q kind (take i args) (as_settled s a)) (fault_from Q kind s args (i + 1))
fault_here Q kind s args i a lt is =
    let here : drop i args ≡ a ∷ drop (i + 1) args = drop_more args i a lt ∙ ap (λ (b : Argument). b ∷ drop (i + 1) args) (sym is) in
    let seen : map (as_settled s) (take (i + 1) args) ≡ map (as_settled s) (take i args) ++ as_settled s a ∷ [] =
    ap (map (as_settled s)) (take_more args i a lt ∙ ap (λ (b : Argument). take i args ++ b ∷ []) (sym is)) ∙ map-append (as_settled s) (take i args) (a ∷ []) in
    ap (λ (rest : List Argument). arguments_fault Q kind (map (as_settled s) (take i args)) (map (as_settled s) rest)) here
    ∙ ap (λ (before : List Argument). first_fault (argument_fault Q kind (map (as_settled s) (take i args)) (as_settled s a)) (arguments_fault Q kind before (map (as_settled s) (drop (i + 1) args)))) (sym seen)
    ∙ ap (λ (o : Option TypeFault). first_fault o (fault_from Q kind s args (i + 1))) (seen_settled Q kind s (take i args) (as_settled s a))

pub one_more : (Q : Program) (kind : Option BlockKind) (s : Bool) (args : List Argument) (i : ℕ) (a : Argument) (found fault total : Option TypeFault) → i < length args → a ≡ get_or args i a → fault ≡ argument_fault Q kind (take i args) (as_settled s a)
    → first_fault found (fault_from Q kind s args i) ≡ total → first_fault (first_fault found fault) (fault_from Q kind s args (i + 1)) ≡ total
one_more Q kind s args i a found fault total lt is here before =
    first_in_turn found fault (fault_from Q kind s args (i + 1))
    ∙ ap (λ (o : Option TypeFault). first_fault found (first_fault o (fault_from Q kind s args (i + 1)))) here
    ∙ ap (first_fault found) (sym (fault_here Q kind s args i a lt is))
    ∙ before

-- nothing behind a bad field counts
pub ends_bad : (Q : Program) (kind : Option BlockKind) (s : Bool) (args : List Argument) (i : ℕ) (a : Argument) (found total : Option TypeFault) → i < length args → a ≡ get_or args i a → argument_fault Q kind (take i args) (as_settled s a) ≡ Some BadField
    → IsLate found → first_fault found (fault_from Q kind s args i) ≡ total → Some BadField ≡ total
ends_bad Q kind s args i a found total lt is bad late before =
    let rest = fault_from Q kind s args (i + 1) in
    sym (bad_behind found late)
    ∙ ap (first_fault found) (sym (bad_before rest (arguments_late Q kind (map (as_settled s) (take (i + 1) args)) (map (as_settled s) (drop (i + 1) args)))))
    ∙ ap (λ (o : Option TypeFault). first_fault found (first_fault o rest)) (sym bad)
    ∙ ap (first_fault found) (sym (fault_here Q kind s args i a lt is))
    ∙ before
