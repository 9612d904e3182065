-- A program is typed exactly where the check finds no fault, and arrives with the types that the check keeps.
use Rattle.std.proofs.Common.{◌≡◌, ℕ, zero, suc, ◌+◌, ◌≤◌, Bool, true, false, cond, List, [], ◌∷◌, ◌++◌, length, Option, Some, None, Result, Ok, Err, refl, sym, ap, subst, ◌∙◌, arith}
use Rattle.std.specs.Prelude.{map, slice_get, nat_lt, nat_eq, is_some, is_none, drop, not, ◌&&◌, ◌||◌}
use Rattle.std.specs.List.{AllByRecursion}
use Rattle.std.specs.Option.{option_map, option_and_then}
use Rattle.std.proofs.lemmas.Bool.{ltb-true, ltb-false, lt-ltb, eqb-true, eq-eqb, and_from, or_parts, or_from, cond-true, cond-false, false_from_ne_true}
use Rattle.std.proofs.lemmas.List.{nil_from_length}
use Rattle.std.proofs.lemmas.List.Folds.{list_any-append}
use Rattle.std.proofs.lemmas.Slice.Eq.{bytes_eq-Decides}
use Rattle.il_model.specs.declared.limits.TheConstants.{MOST_OPEN_PARENTHESES}
use Rattle.il_values.specs.declared.value.Ty.{Ty}
use Rattle.il_values.specs.declared.value.Ty.TheVariants as types
use Rattle.il_values.specs.declared.op.Op.{Op}
use Rattle.il_values.specs.declared.op.Op.TheVariants as ops
use Rattle.il_values.specs.declared.op.Modifier.{Modifier}
use Rattle.il_model.specs.declared.program.Place.{Place}
use Rattle.il_model.specs.declared.program.Operand.{Operand}
use Rattle.il_model.specs.declared.program.Operand.TheVariants as operands
use Rattle.il_model.specs.declared.program.Argument.{Argument}
use Rattle.il_model.specs.declared.program.Side.{Side}
use Rattle.il_model.specs.declared.program.Side.TheVariants as sides
use Rattle.il_model.specs.declared.program.Instr.{Instr}
use Rattle.il_model.specs.declared.kind.BlockKind.{BlockKind}
use Rattle.il_model.specs.declared.kind.Field.{Field}
use Rattle.il_model.specs.declared.fetched.Source.{Source}
use Rattle.il_model.specs.declared.fetched.Source.TheVariants as sources
use Rattle.il_model.specs.declared.typing.TypeFault.{TypeFault}
use Rattle.il_model.specs.declared.typing.TypeFault.TheVariants.{TypeMismatch, Unbalanced, DuplicateLabel, BadField, TooDeep}
use Rattle.il_model.specs.declared.typing.OperandKind.{OperandKind}
use Rattle.il_model.specs.declared.typing.OperandKind.TheVariants as kinds
use Rattle.il_model.specs.declared.typing.Held.{Held}
use Rattle.il_model.specs.declared.typing.Effect.{Effect}
use Rattle.il_model.specs.declared.typing.Effect.TheVariants.{Sets, Opens, Closes}
use Rattle.il_model.specs.Program.{Program}
use Rattle.il_values.specs.Values.{ty_of}
use Rattle.il_model.specs.Kinds.{kind_fields, field_type, is_input}
use Rattle.il_model.specs.Words.{same_name, AreDistinct}
use Rattle.il_values.specs.Operators.{joined_type}
use Rattle.il_model.specs.Resolved.{source_of, target_of, place_of, field_of, instance_number, is_labelled, called_kind}
use Rattle.il_values.specs.Values.{is_bit_string}
use Rattle.il_model.specs.Row.{row, same_type, is_bool, negatable, load_row, store_row, set_row, truth_row, not_row, leave_row, jump_row, call_row, close_row, closes_to, convert_row, open_row, opened_row, opens_with, combine_row, sets_to, outside, function_row}
use Rattle.il_model.specs.Typing as Typing
use Rattle.il_values.specs.declared.function.Function.{Function}
use Rattle.il_model.specs.Typing.{Shape, place_type, is_writable, source_type, HasType, MayStore, Leaves, Converts, Applies, Begins, Operates, Takes, Passes, kind_field, IsPassed, ArePassed, MayStand, Leads, shape_on_arrival, Arrives, IsTyped}
use Rattle.il_model.specs.Checking.{◌>>=◌, source_kind, typed_kind, operand_kind, missing_kind, top_of, source_row, unless_same, passing_fault, goes_so, field_fault, first_fault, argument_fault, arguments_fault, with_fault, line_row, label_at, label_row, shape_after, after_line, after_at, shape_at, typing_end, HasNoTypeFault}
use Rattle.il_model.proofs.RowTypes.{guarded, typed_kind_is, load_typed, same_type_is, store_typed, set_typed, truth_typed_row, combine_typed, no_close, opened_typed, closes_typed, convert_typed, call_typed, function_typed, not_typed_row}
use Rattle.il_model.proofs.TypedLines.{bind_ok, ok_is, get_line, numbered_ok, no_depth, outside_ok, sourced, fault_none, first_none, IsArgumentOf, argument_typed, arguments_typed, no_arguments, is_among}
use Rattle.il_model.proofs.Loop.{goes_at}

-- ---- operands

some_is : {X : Type 0} (x y : X) → Some x ≡ Some y → x ≡ y
some_is x y e = cc

kind_type : (Q : Program) (src : Source) (t : Ty) (w : Bool) → source_kind Q src ≡ kinds.Typed t w → source_type Q src ≡ Some t
kind_type Q sources.Absent t w e = absurd cc
kind_type Q (sources.Constant v) t w e = let is : ty_of v ≡ t = cc in ap (λ (u : Ty). Some u) is
kind_type Q (sources.Of p) t w e = typed_kind_is (place_type Q p) (is_writable Q p) t w e
kind_type Q (sources.Target n) t w e = absurd cc
kind_type Q (sources.Instance i) t w e = absurd cc

has_type : (Q : Program) (x : Operand) (src : Source) (t : Ty) (w : Bool) → source_of Q x ≡ Some src → source_kind Q src ≡ kinds.Typed t w → HasType Q x t
has_type Q x src t w s e = ap (option_and_then (source_type Q)) s ∙ kind_type Q src t w e

by_place : (o : Option Ty) (w : Bool) (t : Ty) → o ≡ Some t → typed_kind o w ≡ kinds.Typed t w
by_place o w t e = ap (λ (u : Option Ty). typed_kind u w) e

type_kind : (Q : Program) (src : Source) (t : Ty) → source_type Q src ≡ Some t → (w : Bool) × (source_kind Q src ≡ kinds.Typed t w)
type_kind Q sources.Absent t e = absurd cc
type_kind Q (sources.Constant v) t e = (false, ap (λ (u : Ty). kinds.Typed u false) (some_is (ty_of v) t e))
type_kind Q (sources.Of p) t e = (is_writable Q p, by_place (place_type Q p) (is_writable Q p) t e)
type_kind Q (sources.Target n) t e = absurd cc
type_kind Q (sources.Instance i) t e = absurd cc

typed_so : (Q : Program) (x : Operand) (src : Source) (t : Ty) → source_of Q x ≡ Some src → HasType Q x t → (w : Bool) × (source_kind Q src ≡ kinds.Typed t w)
typed_so Q x src t s has = type_kind Q src t (sym (ap (option_and_then (source_type Q)) s) ∙ has)

place_by : (o : Option Ty) (w : Bool) (t : Ty) → typed_kind o w ≡ kinds.Typed t true → (o ≡ Some t) × (w ≡ true)
place_by (Some u) w t e = let is : u ≡ t = cc in (ap (λ (x : Ty). Some x) is, cc)
place_by None w t e = absurd cc

may_store : (Q : Program) (x : Operand) (src : Source) (t : Ty) → source_of Q x ≡ Some src → source_kind Q src ≡ kinds.Typed t true → MayStore Q x t
may_store Q x sources.Absent t s e = absurd cc
may_store Q x (sources.Constant v) t s e = absurd cc
may_store Q x (sources.Of p) t s e = let b = place_by (place_type Q p) (is_writable Q p) t e in (p, s, b.0, b.1)
may_store Q x (sources.Target n) t s e = absurd cc
may_store Q x (sources.Instance i) t s e = absurd cc

store_kind : (Q : Program) (x : Operand) (src : Source) (t : Ty) → source_of Q x ≡ Some src → MayStore Q x t → source_kind Q src ≡ kinds.Typed t true
store_kind Q x src t s may =
    let is : src ≡ sources.Of may.0 = some_is src (sources.Of may.0) (sym s ∙ may.1) in
    ap (source_kind Q) is ∙ by_place (place_type Q may.0) (is_writable Q may.0) t may.2 ∙ ap (kinds.Typed t) may.3

no_absent_place : (o : Option Place) → option_map sources.Of o ≡ Some sources.Absent → ⊥
no_absent_place (Some p) e = cc
no_absent_place None e = cc

no_absent_target : (o : Option ℕ) → option_map sources.Target o ≡ Some sources.Absent → ⊥
no_absent_target (Some p) e = cc
no_absent_target None e = cc

no_absent_instance : (o : Option ℕ) → option_map sources.Instance o ≡ Some sources.Absent → ⊥
no_absent_instance (Some p) e = cc
no_absent_instance None e = cc

absent_is : (Q : Program) (x : Operand) → source_of Q x ≡ Some sources.Absent → x ≡ operands.Absent
absent_is Q operands.Absent e = refl
absent_is Q (operands.Literal v) e = absurd cc
absent_is Q (operands.Bare z) e = absurd cc
absent_is Q (operands.Variable name) e = absurd (no_absent_place (place_of Q name) e)
absent_is Q (operands.Direct loc) e = absurd cc
absent_is Q (operands.Label name) e = absurd (no_absent_target (target_of Q name) e)
absent_is Q (operands.Field name field) e = absurd (no_absent_place (field_of Q name field) e)
absent_is Q (operands.Instance name) e = absurd (no_absent_instance (instance_number Q name) e)

-- a source of that kind
kind_absent : (Q : Program) (src : Source) → source_kind Q src ≡ kinds.Absent → src ≡ sources.Absent
kind_absent Q sources.Absent e = refl
kind_absent Q (sources.Constant v) e = absurd cc
kind_absent Q (sources.Of p) e = absurd (by_type (place_type Q p) e)
  where
    by_type : (o : Option Ty) → typed_kind o (is_writable Q p) ≡ kinds.Absent → ⊥
    by_type (Some t) e = cc
    by_type None e = cc
kind_absent Q (sources.Target n) e = absurd cc
kind_absent Q (sources.Instance i) e = absurd cc

kind_target : (Q : Program) (src : Source) → source_kind Q src ≡ kinds.Target → (n : ℕ) × (src ≡ sources.Target n)
kind_target Q sources.Absent e = absurd cc
kind_target Q (sources.Constant v) e = absurd cc
kind_target Q (sources.Of p) e = absurd (by_type (place_type Q p) e)
  where
    by_type : (o : Option Ty) → typed_kind o (is_writable Q p) ≡ kinds.Target → ⊥
    by_type (Some t) e = cc
    by_type None e = cc
kind_target Q (sources.Target n) e = (n, refl)
kind_target Q (sources.Instance i) e = absurd cc

kind_instance : (Q : Program) (src : Source) → source_kind Q src ≡ kinds.Instance → (i : ℕ) × (src ≡ sources.Instance i)
kind_instance Q sources.Absent e = absurd cc
kind_instance Q (sources.Constant v) e = absurd cc
kind_instance Q (sources.Of p) e = absurd (by_type (place_type Q p) e)
  where
    by_type : (o : Option Ty) → typed_kind o (is_writable Q p) ≡ kinds.Instance → ⊥
    by_type (Some t) e = cc
    by_type None e = cc
kind_instance Q (sources.Target n) e = absurd cc
kind_instance Q (sources.Instance i) e = (i, refl)

-- ---- letters

allows_n : (n : Bool) (t : Ty) → negatable n t ≡ true → n ≡ true → is_bit_string t ≡ true
allows_n true t h e = h
allows_n false t h e = absurd cc

is_negatable : (n : Bool) (t : Ty) → (n ≡ true → is_bit_string t ≡ true) → negatable n t ≡ true
is_negatable false t allows = refl
is_negatable true t allows = allows refl

same_self : (t : Ty) → same_type t t ≡ true
same_self types.Bool = refl
same_self types.Int = refl
same_self types.Dint = refl
same_self types.Lint = refl
same_self types.Time = refl
same_self types.Real = refl
same_self types.Word = refl
same_self types.Dword = refl

-- ---- from a row that has an effect

-- what a row's effect leaves, it takes to
abbrev TakesIt : Program → Op → Modifier → Operand → Shape → Effect → Type 0
TakesIt Q op m x sh e = Takes Q op m x sh (shape_after sh e)

load_takes : (Q : Program) (m : Modifier) (x : Operand) (src : Source) (sh : Shape) (e : Effect) → source_of Q x ≡ Some src → load_row m.negated (source_kind Q src) ≡ Ok e → TakesIt Q ops.Ld m x sh e
load_takes Q m x src sh e s h =
    let r = load_typed m.negated (source_kind Q src) e h in
    subst (TakesIt Q ops.Ld m x sh) r.4 (r.0, has_type Q x src r.0 r.1 s r.2, allows_n m.negated r.0 r.3, refl)

store_takes : (Q : Program) (m : Modifier) (x : Operand) (src : Source) (sh : Shape) (e : Effect) → source_of Q x ≡ Some src → store_row sh.cr m.negated (source_kind Q src) ≡ Ok e → TakesIt Q ops.St m x sh e
store_takes Q m x src sh e s h =
    let r = store_typed sh.cr m.negated (source_kind Q src) e h in
    subst (TakesIt Q ops.St m x sh) r.4 (r.0, r.1, may_store Q x src r.0 s r.2, allows_n m.negated r.0 r.3, refl)

-- S and R
abbrev SetsIt : Program → Operand → Shape → Effect → Type 0
SetsIt Q x sh e = (sh.cr ≡ Some types.Bool) × MayStore Q x types.Bool × (shape_after sh e ≡ sh)

set_takes : (Q : Program) (x : Operand) (src : Source) (sh : Shape) (e : Effect) → source_of Q x ≡ Some src → set_row sh.cr (source_kind Q src) ≡ Ok e → SetsIt Q x sh e
set_takes Q x src sh e s h =
    let r = set_typed sh.cr (source_kind Q src) e h in
    subst (SetsIt Q x sh) r.2 (r.0, may_store Q x src types.Bool s r.1, refl)

not_takes : (Q : Program) (m : Modifier) (x : Operand) (sh : Shape) (e : Effect) → not_row sh.cr ≡ Ok e → TakesIt Q ops.Not m x sh e
not_takes Q m x sh e h = let r = not_typed_row sh.cr e h in subst (TakesIt Q ops.Not m x sh) r.3 (r.0, r.1, r.2, refl)

abbrev LeavesBy : Bool → Shape → Effect → Type 0
LeavesBy c sh e = (sh.kept ≡ []) × (c ≡ true → sh.cr ≡ Some types.Bool) × (shape_after sh e ≡ record sh { cr = cond c sh.cr None })

leaves_by : (c : Bool) (sh : Shape) (e : Effect) → sh.kept ≡ [] → leave_row sh.cr c ≡ Ok e → LeavesBy c sh e
leaves_by true sh e out h = let r = truth_typed_row sh.cr e h in subst (LeavesBy true sh) r.1 (out, (λ _. r.0), refl)
leaves_by false sh e out h = let is : Sets None ≡ e = cc in subst (LeavesBy false sh) is (out, (λ f. absurd cc), refl)

jump_leaves : (cr : Option Ty) (c : Bool) (kind : OperandKind) (e : Effect) → jump_row cr c kind ≡ Ok e → (kind ≡ kinds.Target) × (leave_row cr c ≡ Ok e)
jump_leaves cr c kinds.Target e h = (refl, h)
jump_leaves cr c kinds.Absent e h = absurd cc
jump_leaves cr c (kinds.Typed t w) e h = absurd cc
jump_leaves cr c kinds.Misfit e h = absurd cc
jump_leaves cr c kinds.NoTarget e h = absurd cc
jump_leaves cr c kinds.Instance e h = absurd cc
jump_leaves cr c kinds.NoField e h = absurd cc

nothing_kept : (sh : Shape) (r : Result Effect TypeFault) (e : Effect) → outside (length sh.kept) r ≡ Ok e → (sh.kept ≡ []) × (r ≡ Ok e)
nothing_kept sh r e h = let o = outside_ok (length sh.kept) r e h in (nil_from_length sh.kept o.0, o.1)

jump_takes : (Q : Program) (m : Modifier) (x : Operand) (src : Source) (sh : Shape) (e : Effect) → source_of Q x ≡ Some src → outside (length sh.kept) (jump_row sh.cr m.conditional (source_kind Q src)) ≡ Ok e → TakesIt Q ops.Jmp m x sh e
jump_takes Q m x src sh e s h =
    let o = nothing_kept sh (jump_row sh.cr m.conditional (source_kind Q src)) e h in
    let j = jump_leaves sh.cr m.conditional (source_kind Q src) e o.1 in
    let t = kind_target Q src j.0 in
    (t.0, s ∙ ap (λ (y : Source). Some y) t.1, leaves_by m.conditional sh e o.0 j.1)

return_takes : (Q : Program) (m : Modifier) (x : Operand) (sh : Shape) (e : Effect) → outside (length sh.kept) (leave_row sh.cr m.conditional) ≡ Ok e → TakesIt Q ops.Ret m x sh e
return_takes Q m x sh e h =
    let o = nothing_kept sh (leave_row sh.cr m.conditional) e h in
    leaves_by m.conditional sh e o.0 o.1

call_takes : (Q : Program) (m : Modifier) (x : Operand) (src : Source) (sh : Shape) (e : Effect) → source_of Q x ≡ Some src → outside (length sh.kept) (call_row sh.cr m.conditional (source_kind Q src)) ≡ Ok e → TakesIt Q ops.Cal m x sh e
call_takes Q m x src sh e s h =
    let o = nothing_kept sh (call_row sh.cr m.conditional (source_kind Q src)) e h in
    let r = call_typed sh.cr m.conditional (source_kind Q src) e o.1 in
    let i = kind_instance Q src r.0 in
    subst (TakesIt Q ops.Cal m x sh) r.1 (i.0, s ∙ ap (λ (y : Source). Some y) i.1, o.0, r.2, refl)

abbrev ClosesIt : Shape → Effect → Type 0
ClosesIt sh e = Typing.Closes sh (shape_after sh e)

close_by : (cr : Option Ty) (kept : List Held) (e : Effect) → close_row cr (top_of kept) ≡ Ok e → ClosesIt (record { cr = cr; kept = kept }) e
close_by cr [] e h = absurd (no_close cr e h)
close_by None (held ∷ rest) e h = absurd cc
close_by (Some c) (held ∷ rest) e h =
    let g = guarded (negatable held.negated c) (closes_to (joined_type held.op held.ty c)) TypeMismatch e h in
    let r = closes_typed (joined_type held.op held.ty c) e g.1 in
    subst (ClosesIt (record { cr = Some c; kept = held ∷ rest })) r.2 (held, rest, c, r.0, refl, refl, allows_n held.negated c g.0, r.1, refl)

convert_takes : (from to : Ty) (sh : Shape) (e : Effect) → convert_row sh.cr from to ≡ Ok e → Converts from to sh (shape_after sh e)
convert_takes from to sh e h = let r = convert_typed sh.cr from to e h in subst (λ (e : Effect). Converts from to sh (shape_after sh e)) r.1 (r.0, refl)

function_takes : (f : Function) (sh : Shape) (e : Effect) → function_row sh.cr f ≡ Ok e → Applies f sh (shape_after sh e)
function_takes f sh e h = let r = function_typed sh.cr f e h in subst (λ (e : Effect). Applies f sh (shape_after sh e)) r.4 (r.0, r.1, r.2, r.3, refl)

abbrev OperatesIt : Bool → Program → Op → Modifier → Operand → Shape → Effect → Type 0
OperatesIt b Q op m x sh e = Operates b Q op m x sh (shape_after sh e)

combine_takes : (Q : Program) (op : Op) (m : Modifier) (x : Operand) (src : Source) (sh : Shape) (e : Effect) → source_of Q x ≡ Some src → combine_row sh.cr op m.negated (source_kind Q src) ≡ Ok e → OperatesIt false Q op m x sh e
combine_takes Q op m x src sh e s h =
    let r = combine_typed sh.cr op m.negated (source_kind Q src) e h in
    subst (OperatesIt false Q op m x sh) r.8 (r.0, r.1, r.3, r.4, has_type Q x src r.1 r.2 s r.5, allows_n m.negated r.1 r.6, r.7, refl)

opens_begins : (Q : Program) (x : Operand) (src : Source) (held : Held) (kind : OperandKind) (e : Effect) → source_of Q x ≡ Some src → source_kind Q src ≡ kind → opens_with held kind ≡ Ok e → (t : Option Ty) × Begins Q x t × (Opens held t ≡ e)
opens_begins Q x src held kinds.Absent e s is h = (None, absent_is Q x (s ∙ ap (λ (y : Source). Some y) (kind_absent Q src is)), cc)
opens_begins Q x src held (kinds.Typed t w) e s is h = (Some t, has_type Q x src t w s is, cc)
opens_begins Q x src held kinds.Misfit e s is h = absurd cc
opens_begins Q x src held kinds.Target e s is h = absurd cc
opens_begins Q x src held kinds.NoTarget e s is h = absurd cc
opens_begins Q x src held kinds.Instance e s is h = absurd cc
opens_begins Q x src held kinds.NoField e s is h = absurd cc

row_there : (o : Option Ty) (r : Result Effect TypeFault) (e : Effect) → cond (is_none o) (Err TypeMismatch) r ≡ Ok e → is_some o ≡ true
row_there (Some t) r e h = refl
row_there None r e h = absurd cc

opened_row_there : (c : Ty) (op : Op) (n : Bool) (kind : OperandKind) (e : Effect) → opened_row (Some c) op n kind ≡ Ok e → is_some (joined_type op c c) ≡ true
opened_row_there c op n kinds.NoField e h = absurd cc
opened_row_there c op n kinds.Absent e h = row_there (joined_type op c c) (opens_with (record { op = op; negated = n; ty = c }) kinds.Absent) e h
opened_row_there c op n (kinds.Typed t w) e h = row_there (joined_type op c c) (opens_with (record { op = op; negated = n; ty = c }) (kinds.Typed t w)) e h
opened_row_there c op n kinds.Misfit e h = row_there (joined_type op c c) (opens_with (record { op = op; negated = n; ty = c }) kinds.Misfit) e h
opened_row_there c op n kinds.Target e h = row_there (joined_type op c c) (opens_with (record { op = op; negated = n; ty = c }) kinds.Target) e h
opened_row_there c op n kinds.NoTarget e h = row_there (joined_type op c c) (opens_with (record { op = op; negated = n; ty = c }) kinds.NoTarget) e h
opened_row_there c op n kinds.Instance e h = row_there (joined_type op c c) (opens_with (record { op = op; negated = n; ty = c }) kinds.Instance) e h

open_takes : (Q : Program) (op : Op) (m : Modifier) (x : Operand) (src : Source) (sh : Shape) (e : Effect) → source_of Q x ≡ Some src → open_row sh.cr (length sh.kept) op m.negated (source_kind Q src) ≡ Ok e → OperatesIt true Q op m x sh e
open_takes Q op m x src sh e s h =
    let g = guarded (nat_lt (length sh.kept) MOST_OPEN_PARENTHESES) (opened_row sh.cr op m.negated (source_kind Q src)) TooDeep e h in
    let r = opened_typed sh.cr op m.negated (source_kind Q src) e g.1 in
    let there = opened_row_there r.0 op m.negated (source_kind Q src) e (sym (ap (λ (o : Option Ty). opened_row o op m.negated (source_kind Q src)) r.1) ∙ g.1) in
    let o = opens_begins Q x src (record { op = op; negated = m.negated; ty = r.0 }) (source_kind Q src) e s refl r.2 in
    subst (OperatesIt true Q op m x sh) o.2 (r.0, o.0, r.1, o.1, there, ltb-true (length sh.kept) MOST_OPEN_PARENTHESES g.0, refl)

operate_takes : (b : Bool) (Q : Program) (op : Op) (m : Modifier) (x : Operand) (src : Source) (sh : Shape) (e : Effect) → source_of Q x ≡ Some src → cond b (open_row sh.cr (length sh.kept) op m.negated (source_kind Q src)) (combine_row sh.cr op m.negated (source_kind Q src)) ≡ Ok e → OperatesIt b Q op m x sh e
operate_takes true Q op m x src sh e s h = open_takes Q op m x src sh e s h
operate_takes false Q op m x src sh e s h = combine_takes Q op m x src sh e s h

row_takes : (Q : Program) (op : Op) (m : Modifier) (x : Operand) (src : Source) (sh : Shape) (e : Effect) → source_of Q x ≡ Some src → row sh.cr (top_of sh.kept) (length sh.kept) op m (source_kind Q src) ≡ Ok e → TakesIt Q op m x sh e
row_takes Q ops.Empty m x src sh e s h = let is : Sets sh.cr ≡ e = cc in subst (TakesIt Q ops.Empty m x sh) is refl
row_takes Q ops.Ld m x src sh e s h = load_takes Q m x src sh e s h
row_takes Q ops.St m x src sh e s h = store_takes Q m x src sh e s h
row_takes Q ops.S m x src sh e s h = set_takes Q x src sh e s h
row_takes Q ops.R m x src sh e s h = set_takes Q x src sh e s h
row_takes Q ops.Not m x src sh e s h = not_takes Q m x sh e h
row_takes Q ops.Jmp m x src sh e s h = jump_takes Q m x src sh e s h
row_takes Q ops.Cal m x src sh e s h = call_takes Q m x src sh e s h
row_takes Q ops.Ret m x src sh e s h = return_takes Q m x sh e h
row_takes Q ops.Close m x src sh e s h = close_by sh.cr sh.kept e h
row_takes Q ops.IntToDint m x src sh e s h = convert_takes types.Int types.Dint sh e h
row_takes Q ops.DintToInt m x src sh e s h = convert_takes types.Dint types.Int sh e h
row_takes Q ops.DintToLint m x src sh e s h = convert_takes types.Dint types.Lint sh e h
row_takes Q ops.LintToDint m x src sh e s h = convert_takes types.Lint types.Dint sh e h
row_takes Q (ops.Apply f) m x src sh e s h = function_takes f sh e h
row_takes Q op m x src sh e s h = operate_takes m.opens Q op m x src sh e s h

-- ---- to a row that has an effect

-- a row has an effect that leaves this
abbrev LeadsTo : Result Effect TypeFault → Shape → Shape → Type 0
LeadsTo r before after = (e : Effect) × (r ≡ Ok e) × (shape_after before e ≡ after)

with_cr : (before after : Shape) (t : Option Ty) → before.cr ≡ t → after ≡ before → shape_after before (Sets t) ≡ after
with_cr before after t cr is = ap (λ (o : Option Ty). record before { cr = o }) (sym cr) ∙ sym is

to_load : (Q : Program) (m : Modifier) (x : Operand) (src : Source) (before after : Shape) → source_of Q x ≡ Some src → Takes Q ops.Ld m x before after → LeadsTo (load_row m.negated (source_kind Q src)) before after
to_load Q m x src before after s takes =
    let k = typed_so Q x src takes.0 s takes.1 in
    let yes = cond-true (negatable m.negated takes.0) (Ok (Sets (Some takes.0))) (Err TypeMismatch) (is_negatable m.negated takes.0 takes.2) in
    (Sets (Some takes.0), ap (load_row m.negated) k.1 ∙ yes, sym takes.3)

to_store : (Q : Program) (m : Modifier) (x : Operand) (src : Source) (before after : Shape) → source_of Q x ≡ Some src → Takes Q ops.St m x before after → LeadsTo (store_row before.cr m.negated (source_kind Q src)) before after
to_store Q m x src before after s takes =
    let t = takes.0 in
    let k = store_kind Q x src t s takes.2 in
    let yes = cond-true (same_type t t && negatable m.negated t) (Ok (Sets (Some t))) (Err TypeMismatch) (and_from (same_type t t) (negatable m.negated t) (same_self t) (is_negatable m.negated t takes.3)) in
    (Sets (Some t), ap (λ (o : Option Ty). store_row o m.negated (source_kind Q src)) takes.1 ∙ ap (store_row (Some t) m.negated) k ∙ yes, with_cr before after (Some t) takes.1 takes.4)

to_set : (Q : Program) (x : Operand) (src : Source) (before after : Shape) → source_of Q x ≡ Some src → before.cr ≡ Some types.Bool → MayStore Q x types.Bool → after ≡ before → LeadsTo (set_row before.cr (source_kind Q src)) before after
to_set Q x src before after s cr may is =
    (Sets (Some types.Bool), ap (λ (o : Option Ty). set_row o (source_kind Q src)) cr ∙ ap (set_row (Some types.Bool)) (store_kind Q x src types.Bool s may), with_cr before after (Some types.Bool) cr is)

to_not : (before after : Shape) (t : Ty) → before.cr ≡ Some t → is_bit_string t ≡ true → after ≡ before → LeadsTo (not_row before.cr) before after
to_not before after t cr bits is =
    let yes = cond-true (is_bit_string t) (Ok (Sets (Some t))) (Err TypeMismatch) bits in
    (Sets (Some t), ap not_row cr ∙ yes, with_cr before after (Some t) cr is)

to_truth : (before after : Shape) → before.cr ≡ Some types.Bool → after ≡ before → LeadsTo (truth_row before.cr) before after
to_truth before after cr is = (Sets (Some types.Bool), ap truth_row cr, with_cr before after (Some types.Bool) cr is)

to_leave : (c : Bool) (before after : Shape) → (c ≡ true → before.cr ≡ Some types.Bool) → after ≡ record before { cr = cond c before.cr None } → LeadsTo (leave_row before.cr c) before after
to_leave true before after allows is = to_truth before after (allows refl) is
to_leave false before after allows is = (Sets None, refl, sym is)

to_outside : (r : Result Effect TypeFault) (before after : Shape) → before.kept ≡ [] → LeadsTo r before after → LeadsTo (outside (length before.kept) r) before after
to_outside r before after kept to = (to.0, ap (λ (ks : List Held). outside (length ks) r) kept ∙ to.1, to.2)

to_jump : (Q : Program) (m : Modifier) (x : Operand) (src : Source) (before after : Shape) → source_of Q x ≡ Some src → Takes Q ops.Jmp m x before after → LeadsTo (outside (length before.kept) (jump_row before.cr m.conditional (source_kind Q src))) before after
to_jump Q m x src before after s takes =
    let is : src ≡ sources.Target takes.0 = some_is src (sources.Target takes.0) (sym s ∙ takes.1) in
    let leave = to_leave m.conditional before after takes.2.1 takes.2.2 in
    to_outside (jump_row before.cr m.conditional (source_kind Q src)) before after takes.2.0
    (leave.0, ap (λ (y : Source). jump_row before.cr m.conditional (source_kind Q y)) is ∙ leave.1, leave.2)

to_return : (m : Modifier) (before after : Shape) → Leaves m before after → LeadsTo (outside (length before.kept) (leave_row before.cr m.conditional)) before after
to_return m before after leaves = to_outside (leave_row before.cr m.conditional) before after leaves.0 (to_leave m.conditional before after leaves.1 leaves.2)

to_called : (c : Bool) (before after : Shape) → (c ≡ true → before.cr ≡ Some types.Bool) → after ≡ before → LeadsTo (call_row before.cr c kinds.Instance) before after
to_called true before after allows is = to_truth before after (allows refl) is
to_called false before after allows is = (Sets before.cr, refl, sym is)

to_call : (Q : Program) (m : Modifier) (x : Operand) (src : Source) (before after : Shape) → source_of Q x ≡ Some src → Takes Q ops.Cal m x before after → LeadsTo (outside (length before.kept) (call_row before.cr m.conditional (source_kind Q src))) before after
to_call Q m x src before after s takes =
    let is : src ≡ sources.Instance takes.0 = some_is src (sources.Instance takes.0) (sym s ∙ takes.1) in
    let called = to_called m.conditional before after takes.3 takes.4 in
    to_outside (call_row before.cr m.conditional (source_kind Q src)) before after takes.2
    (called.0, ap (λ (y : Source). call_row before.cr m.conditional (source_kind Q y)) is ∙ called.1, called.2)

to_close : (before after : Shape) → Typing.Closes before after → LeadsTo (close_row before.cr (top_of before.kept)) before after
to_close before after c =
    let held = c.0 in
    let yes = cond-true (negatable held.negated c.2) (closes_to (joined_type held.op held.ty c.2)) (Err TypeMismatch) (is_negatable held.negated c.2 c.6) in (
      Closes c.3,
      ap (λ (o : Option Ty). close_row o (top_of before.kept)) c.5 ∙ ap (λ (ks : List Held). close_row (Some c.2) (top_of ks)) c.4 ∙ yes ∙ ap closes_to c.7,
      ap (λ (ks : List Held). let sh : Shape = record { cr = Some c.3; kept = drop 1 ks } in sh) c.4 ∙ sym c.8,
    )

to_convert : (from to : Ty) (before after : Shape) → Converts from to before after → LeadsTo (convert_row before.cr from to) before after
to_convert from to before after c =
    let yes = cond-true (same_type from from) (Ok (Sets (Some to))) (Err TypeMismatch) (same_self from) in
    (Sets (Some to), ap (λ (o : Option Ty). convert_row o from to) c.0 ∙ yes, sym c.1)

to_combine : (Q : Program) (op : Op) (m : Modifier) (x : Operand) (src : Source) (before after : Shape) → source_of Q x ≡ Some src → Operates false Q op m x before after → LeadsTo (combine_row before.cr op m.negated (source_kind Q src)) before after
to_combine Q op m x src before after s o =
    let k = typed_so Q x src o.1 s o.4 in
    let yes = cond-true (negatable m.negated o.1) (sets_to (joined_type op o.0 o.1)) (Err TypeMismatch) (is_negatable m.negated o.1 o.5) in
    (Sets (Some o.2), ap (λ (c : Option Ty). combine_row c op m.negated (source_kind Q src)) o.3 ∙ ap (combine_row (Some o.0) op m.negated) k.1 ∙ yes ∙ ap sets_to o.6, sym o.7)

some_not_none : {X : Type 0} (o : Option X) → is_some o ≡ true → is_none o ≡ false
some_not_none (Some x) e = refl
some_not_none None e = absurd cc

-- the kind of the operand behind an opening parenthesis
begins_kind : (Q : Program) (x : Operand) (src : Source) (held : Held) (t : Option Ty) → source_of Q x ≡ Some src → Begins Q x t → (kind : OperandKind) × (source_kind Q src ≡ kind) × ((c : Ty) → c ≡ held.ty → is_none (joined_type held.op c c) ≡ false → opened_row (Some c) held.op held.negated kind ≡ Ok (Opens (record held { ty = c }) t))
begins_kind Q x src held None s begins =
    let is : src ≡ sources.Absent = some_is src sources.Absent (sym s ∙ ap (source_of Q) begins) in
    (kinds.Absent, ap (source_kind Q) is, λ c same there. cond-false (is_none (joined_type held.op c c)) (Err TypeMismatch) (opens_with (record held { ty = c }) kinds.Absent) there)
begins_kind Q x src held (Some t) s begins =
    let k = typed_so Q x src t s begins in
    (kinds.Typed t k.0, k.1, λ c same there. cond-false (is_none (joined_type held.op c c)) (Err TypeMismatch) (opens_with (record held { ty = c }) (kinds.Typed t k.0)) there)

to_open : (Q : Program) (op : Op) (m : Modifier) (x : Operand) (src : Source) (before after : Shape) → source_of Q x ≡ Some src → Operates true Q op m x before after → LeadsTo (open_row before.cr (length before.kept) op m.negated (source_kind Q src)) before after
to_open Q op m x src before after s o =
    let held : Held = record { op = op; negated = m.negated; ty = o.0 } in
    let room = cond-true (nat_lt (length before.kept) MOST_OPEN_PARENTHESES) (opened_row before.cr op m.negated (source_kind Q src)) (Err TooDeep) (lt-ltb (length before.kept) MOST_OPEN_PARENTHESES o.5) in
    let k = begins_kind Q x src held o.1 s o.3 in (
      Opens held o.1,
      room ∙ ap (λ (c : Option Ty). opened_row c op m.negated (source_kind Q src)) o.2 ∙ ap (opened_row (Some o.0) op m.negated) k.1 ∙ k.2 o.0 refl (some_not_none (joined_type op o.0 o.0) o.4),
      sym o.6,
    )

to_operate : (b : Bool) (Q : Program) (op : Op) (m : Modifier) (x : Operand) (src : Source) (before after : Shape) → source_of Q x ≡ Some src → Operates b Q op m x before after → LeadsTo (cond b (open_row before.cr (length before.kept) op m.negated (source_kind Q src)) (combine_row before.cr op m.negated (source_kind Q src))) before after
to_operate true Q op m x src before after s o = to_open Q op m x src before after s o
to_operate false Q op m x src before after s o = to_combine Q op m x src before after s o

to_function : (f : Function) (before after : Shape) → Applies f before after → LeadsTo (function_row before.cr f) before after
to_function f before after a = (Sets (Some a.1), ap (λ (o : Option Ty). function_row o f) a.2 ∙ ap sets_to a.3, sym a.4)

to_row : (Q : Program) (op : Op) (m : Modifier) (x : Operand) (src : Source) (before after : Shape) → source_of Q x ≡ Some src → Takes Q op m x before after → LeadsTo (row before.cr (top_of before.kept) (length before.kept) op m (source_kind Q src)) before after
to_row Q ops.Empty m x src before after s t = (Sets before.cr, refl, sym t)
to_row Q ops.Ld m x src before after s t = to_load Q m x src before after s t
to_row Q ops.St m x src before after s t = to_store Q m x src before after s t
to_row Q ops.S m x src before after s t = to_set Q x src before after s t.0 t.1 t.2
to_row Q ops.R m x src before after s t = to_set Q x src before after s t.0 t.1 t.2
to_row Q ops.Not m x src before after s t = to_not before after t.0 t.1 t.2 t.3
to_row Q ops.Jmp m x src before after s t = to_jump Q m x src before after s t
to_row Q ops.Cal m x src before after s t = to_call Q m x src before after s t
to_row Q ops.Ret m x src before after s t = to_return m before after t
to_row Q ops.Close m x src before after s t = to_close before after t
to_row Q ops.IntToDint m x src before after s t = to_convert types.Int types.Dint before after t
to_row Q ops.DintToInt m x src before after s t = to_convert types.Dint types.Int before after t
to_row Q ops.DintToLint m x src before after s t = to_convert types.Dint types.Lint before after t
to_row Q ops.LintToDint m x src before after s t = to_convert types.Lint types.Dint before after t
to_row Q (ops.Apply f) m x src before after s t = to_function f before after t
to_row Q op m x src before after s t = to_operate m.opens Q op m x src before after s t

-- ---- the arguments of a call

unless_is : (t u : Ty) → unless_same t u ≡ None → t ≡ u
unless_is t u e = by_same (same_type t u) refl e
  where
    by_same : (b : Bool) → same_type t u ≡ b → (let o : Option TypeFault = cond b None (Some TypeMismatch) in o ≡ None) → t ≡ u
    by_same true is h = same_type_is t u is
    by_same false is h = absurd cc

into_input : (t : Ty) (kind : OperandKind) → passing_fault sides.Input t kind ≡ None → (w : Bool) × (kind ≡ kinds.Typed t w)
into_input t (kinds.Typed u w) e = (w, ap (λ (x : Ty). kinds.Typed x w) (sym (unless_is t u e)))
into_input t kinds.Absent e = absurd cc
into_input t kinds.Misfit e = absurd cc
into_input t kinds.Target e = absurd cc
into_input t kinds.NoTarget e = absurd cc
into_input t kinds.Instance e = absurd cc
into_input t kinds.NoField e = absurd cc

out_of_output : (t : Ty) (kind : OperandKind) → passing_fault sides.Output t kind ≡ None → kind ≡ kinds.Typed t true
out_of_output t (kinds.Typed u true) e = ap (λ (x : Ty). kinds.Typed x true) (sym (unless_is t u e))
out_of_output t (kinds.Typed u false) e = absurd cc
out_of_output t kinds.Absent e = absurd cc
out_of_output t kinds.Misfit e = absurd cc
out_of_output t kinds.Target e = absurd cc
out_of_output t kinds.NoTarget e = absurd cc
out_of_output t kinds.Instance e = absurd cc
out_of_output t kinds.NoField e = absurd cc

not_input : (b : Bool) → not b ≡ true → b ≡ false
not_input true e = absurd cc
not_input false e = refl

passes_by : (Q : Program) (side : Side) (field : Field) (x : Operand) (src : Source) → goes_so side field ≡ true → source_of Q x ≡ Some src → passing_fault side (field_type field) (source_kind Q src) ≡ None → Passes Q side field x
passes_by Q sides.Input field x src goes s h = let k = into_input (field_type field) (source_kind Q src) h in (goes, has_type Q x src (field_type field) k.0 s k.1)
passes_by Q sides.Output field x src goes s h = (not_input (is_input field) goes, may_store Q x src (field_type field) s (out_of_output (field_type field) (source_kind Q src) h))

is_passed : (Q : Program) (k : BlockKind) (a : Argument) → IsArgumentOf Q k a → IsPassed Q k a
is_passed Q k a is =
    (is.field, ap (option_and_then (slice_get (kind_fields k))) is.numbered ∙ is.there, passes_by Q a.side is.field a.operand is.source is.goes is.sourced is.passes)

all_passed : (Q : Program) (k : BlockKind) (args : List Argument) → AllByRecursion (IsArgumentOf Q k) args → AllByRecursion (IsPassed Q k) args
all_passed Q k [] all = tt
all_passed Q k (a ∷ args) all = (is_passed Q k a all.0, all_passed Q k args all.1)

abbrev kind_by : Program → Operand → Option Source → OperandKind
kind_by Q x o = elim o [ Some src ↦ source_kind Q src | None ↦ missing_kind x ]

value_kind : (Q : Program) (x : Operand) (o : Option Source) (t : Ty) → option_and_then (source_type Q) o ≡ Some t → (w : Bool) × (kind_by Q x o ≡ kinds.Typed t w)
value_kind Q x (Some src) t e = type_kind Q src t e
value_kind Q x None t e = absurd cc

same_here : (t : Ty) → unless_same t t ≡ None
same_here t = ap (λ (b : Bool). let o : Option TypeFault = cond b None (Some TypeMismatch) in o) (same_self t)

no_passing_fault : (Q : Program) (side : Side) (field : Field) (x : Operand) → Passes Q side field x → (goes_so side field ≡ true) × (passing_fault side (field_type field) (operand_kind Q x) ≡ None)
no_passing_fault Q sides.Input field x p =
    let k = value_kind Q x (source_of Q x) (field_type field) p.1 in
    (p.0, ap (passing_fault sides.Input (field_type field)) k.1 ∙ same_here (field_type field))
no_passing_fault Q sides.Output field x p =
    let place = sources.Of p.1.0 in
    let kind : operand_kind Q x ≡ kinds.Typed (field_type field) true = ap (kind_by Q x) p.1.1 ∙ store_kind Q x place (field_type field) p.1.1 p.1 in
    (ap not p.0, ap (passing_fault sides.Output (field_type field)) kind ∙ same_here (field_type field))

no_field_fault : (Q : Program) (k : BlockKind) (a : Argument) → IsPassed Q k a → field_fault Q a (kind_field k a.field) ≡ None
no_field_fault Q k a is =
    let p = no_passing_fault Q a.side is.0 a.operand is.2 in
    ap (field_fault Q a) is.1 ∙ cond-true (goes_so a.side is.0) (passing_fault a.side (field_type is.0) (operand_kind Q a.operand)) (Some BadField) p.0 ∙ p.1

-- ---- no field twice

abbrev AreNew : List Argument → List Argument → Type 0
AreNew seen args = AllByRecursion (λ (a : Argument). is_among seen a ≡ false) args

among_more : (seen : List Argument) (a b : Argument) → is_among (seen ++ a ∷ []) b ≡ (is_among seen b || is_among (a ∷ []) b)
among_more seen a b = list_any-append (λ (c : Argument). same_name c.field b.field) seen (a ∷ [])

new_before : (seen : List Argument) (a : Argument) (args : List Argument) → AreNew (seen ++ a ∷ []) args → AreNew seen args
new_before seen a [] new = tt
new_before seen a (b ∷ args) new = ((or_parts (is_among seen b) (is_among (a ∷ []) b) (sym (among_more seen a b) ∙ new.0)).0, new_before seen a args new.1)

are_new : (Q : Program) (k : BlockKind) (seen args : List Argument) → arguments_fault Q (Some k) seen args ≡ None → AreNew seen args
are_new Q k seen [] h = tt
are_new Q k seen (a ∷ args) h =
    let f = first_none (argument_fault Q (Some k) seen a) (arguments_fault Q (Some k) (seen ++ a ∷ []) args) h in
    ((argument_typed Q (Some k) seen a f.0).2, new_before seen a args (are_new Q k (seen ++ a ∷ []) args f.1))

same_among : (a b : Argument) → a.field ≡ b.field → is_among (a ∷ []) b ≡ true
same_among a b e = ap (λ (x : Bool). x || false) ((bytes_eq-Decides a.field b.field).1 e)

true_not_false : (b : Bool) → b ≡ true → b ≡ false → ⊥
true_not_false b e h = cc

others : (seen : List Argument) (a : Argument) (args : List Argument) → AreNew (seen ++ a ∷ []) args → AllByRecursion (λ (name : List ℕ). a.field ≡ name → ⊥) (map (λ (b : Argument). b.field) args)
others seen a [] new = tt
others seen a (b ∷ args) new =
    let no = (or_parts (is_among seen b) (is_among (a ∷ []) b) (sym (among_more seen a b) ∙ new.0)).1 in
    ((λ e. true_not_false (is_among (a ∷ []) b) (same_among a b e) no), others seen a args new.1)

are_distinct : (Q : Program) (k : BlockKind) (seen args : List Argument) → arguments_fault Q (Some k) seen args ≡ None → AreDistinct (map (λ (a : Argument). a.field) args)
are_distinct Q k seen [] h = tt
are_distinct Q k seen (a ∷ args) h =
    let f = first_none (argument_fault Q (Some k) seen a) (arguments_fault Q (Some k) (seen ++ a ∷ []) args) h in
    (others seen a args (are_new Q k (seen ++ a ∷ []) args f.1), are_distinct Q k (seen ++ a ∷ []) args f.1)

new_after : (seen : List Argument) (a : Argument) (args : List Argument) → AreNew seen args → AllByRecursion (λ (name : List ℕ). a.field ≡ name → ⊥) (map (λ (b : Argument). b.field) args) → AreNew (seen ++ a ∷ []) args
new_after seen a [] new other = tt
new_after seen a (b ∷ args) new other =
    let no : same_name a.field b.field ≡ false = false_from_ne_true (same_name a.field b.field) (λ e. other.0 ((bytes_eq-Decides a.field b.field).0 e)) in
    (among_more seen a b ∙ or_from (is_among seen b) (is_among (a ∷ []) b) new.0 (ap (λ (x : Bool). x || false) no), new_after seen a args new.1 other.1)

no_argument_faults : (Q : Program) (k : BlockKind) (seen args : List Argument) → AllByRecursion (IsPassed Q k) args → AreDistinct (map (λ (a : Argument). a.field) args) → AreNew seen args → arguments_fault Q (Some k) seen args ≡ None
no_argument_faults Q k seen [] all distinct new = refl
no_argument_faults Q k seen (a ∷ args) all distinct new =
    let one : argument_fault Q (Some k) seen a ≡ None = cond-false (is_among seen a) (Some BadField) (field_fault Q a (kind_field k a.field)) new.0 ∙ no_field_fault Q k a all.0 in
    let more = no_argument_faults Q k (seen ++ a ∷ []) args all.1 distinct.1 (new_after seen a args new.1 distinct.0) in
    ap (λ (o : Option TypeFault). first_fault o (arguments_fault Q (Some k) (seen ++ a ∷ []) args)) one ∙ more

all_new : (args : List Argument) → AreNew [] args
all_new [] = tt
all_new (a ∷ args) = (refl, all_new args)

are_passed : (Q : Program) (kind : Option BlockKind) (args : List Argument) → arguments_fault Q kind [] args ≡ None → ArePassed Q kind args
are_passed Q None args h = no_arguments Q [] args h
are_passed Q (Some k) args h = (all_passed Q k args (arguments_typed Q k [] args h), are_distinct Q k [] args h)

passed_well : (Q : Program) (kind : Option BlockKind) (args : List Argument) → ArePassed Q kind args → arguments_fault Q kind [] args ≡ None
passed_well Q None args are = ap (arguments_fault Q None []) are
passed_well Q (Some k) args are = no_argument_faults Q k [] args are.0 are.1 (all_new args)

-- ---- labels

first_one : (b : Bool) (first n depth : ℕ) → nat_eq first n ≡ b → (let r : Result (Unit {0}) TypeFault = cond b (cond (nat_lt 0 depth) (Err Unbalanced) (Ok tt)) (Err DuplicateLabel) in r ≡ Ok tt) → first ≡ n
first_one true first n depth e h = eqb-true first n e
first_one false first n depth e h = absurd cc

-- a label that may stand is found where it stands
pub first_by : (t : Option ℕ) (n depth : ℕ) → label_at t n depth ≡ Ok tt → t ≡ Some n
first_by None n depth h = absurd cc
first_by (Some first) n depth h = ap (λ (k : ℕ). Some k) (first_one (nat_eq first n) first n depth refl h)

may_stand : (Q : Program) (n : ℕ) (sh : Shape) (label : Option (List ℕ)) → label_row Q n (length sh.kept) label ≡ Ok tt → MayStand Q n sh label
may_stand Q n sh None h = tt
may_stand Q n sh (Some name) h = (first_by (target_of Q name) n (length sh.kept) h, nil_from_length sh.kept (no_depth (target_of Q name) n (length sh.kept) h))

stands_well : (Q : Program) (n : ℕ) (sh : Shape) (label : Option (List ℕ)) → MayStand Q n sh label → label_row Q n (length sh.kept) label ≡ Ok tt
stands_well Q n sh None may = refl
stands_well Q n sh (Some name) may =
    ap (λ (o : Option ℕ). label_at o n (length sh.kept)) may.0
    ∙ ap (λ (ks : List Held). label_at (Some n) n (length ks)) may.1
    ∙ cond-true (nat_eq n n) (Ok tt) (Err DuplicateLabel) (eq-eqb n n refl)

-- ---- one instruction

led_to : (Q : Program) (n : ℕ) (sh sh' : Shape) (line : Instr) → after_line Q n sh line ≡ Ok sh' → (after : Shape) × Leads Q n line sh after × (sh' ≡ shape_on_arrival Q (n + 1) after)
led_to Q n sh sh' line h =
    let label = bind_ok (label_row Q n (length sh.kept) line.label) (λ _. line_row Q sh line >>= λ e. Ok (shape_on_arrival Q (n + 1) (shape_after sh e))) sh' h in
    let row = bind_ok (line_row Q sh line) (λ e. Ok (shape_on_arrival Q (n + 1) (shape_after sh e))) sh' label.2 in
    let f = fault_none (source_row Q sh.cr (top_of sh.kept) (length sh.kept) line (source_of Q line.operand)) (arguments_fault Q (called_kind Q line.operand) [] line.arguments) row.0 row.1 in
    let src = sourced Q sh.cr (top_of sh.kept) (length sh.kept) line (source_of Q line.operand) row.0 f.0 in (
      shape_after sh row.0,
      record {
        label = may_stand Q n sh line.label label.1;
        named = ap is_some src.1;
        types = row_takes Q line.op line.modifier line.operand src.0 sh row.0 src.1 src.2;
        arguments = are_passed Q (called_kind Q line.operand) line.arguments f.1;
      },
      sym (ok_is (shape_on_arrival Q (n + 1) (shape_after sh row.0)) sh' row.2),
    )

source_there : (o : Option Source) → is_some o ≡ true → (src : Source) × (o ≡ Some src)
source_there (Some src) e = (src, refl)
source_there None e = absurd cc

goes_well : (Q : Program) (n : ℕ) (line : Instr) (sh after : Shape) → Leads Q n line sh after → after_line Q n sh line ≡ Ok (shape_on_arrival Q (n + 1) after)
goes_well Q n line sh after leads =
    let src = source_there (source_of Q line.operand) leads.named in
    let to = to_row Q line.op line.modifier line.operand src.0 sh after src.1 leads.types in
    let effect : line_row Q sh line ≡ Ok to.0 =
    ap (with_fault (source_row Q sh.cr (top_of sh.kept) (length sh.kept) line (source_of Q line.operand))) (passed_well Q (called_kind Q line.operand) line.arguments leads.arguments)
    ∙ ap (source_row Q sh.cr (top_of sh.kept) (length sh.kept) line) src.1 ∙ to.1 in
    ap (λ (r : Result (Unit {0}) TypeFault). r >>= λ _. line_row Q sh line >>= λ e. Ok (shape_on_arrival Q (n + 1) (shape_after sh e))) (stands_well Q n sh line.label leads.label)
    ∙ ap (λ (r : Result Effect TypeFault). r >>= λ e. Ok (shape_on_arrival Q (n + 1) (shape_after sh e))) effect
    ∙ ap (λ (s : Shape). let r : Result Shape TypeFault = Ok (shape_on_arrival Q (n + 1) s) in r) to.2

-- ---- a whole program

abbrev nothing : Shape
nothing = record { cr = None; kept = [] }

begin : (b : Bool) → (let r : Result Shape (TypeFault × ℕ) = Ok (cond b nothing nothing) in r) ≡ Ok nothing
begin true = refl
begin false = refl

-- the types that the check comes to an instruction with are those that the program arrives there with
pub arrives : (Q : Program) (n : ℕ) (sh : Shape) → n ≤ length Q.code → shape_at Q n ≡ Ok sh → Arrives Q n sh
arrives Q zero sh le h = ok_is sh nothing (sym h ∙ begin (is_labelled Q 0))
arrives Q (suc n) sh le h =
    let b = bind_ok (shape_at Q n) (λ sh. after_at Q n sh (slice_get Q.code n)) sh h in
    let line = get_line Q.code n (omega arith) in
    let one = numbered_ok n (after_line Q n b.0 line.0) sh (sym (ap (after_at Q n b.0) line.1) ∙ b.2) in
    let led = led_to Q n b.0 sh line.0 one in
    let is : n + 1 ≡ suc n = omega arith in
    (line.0, b.0, led.0, line.1, arrives Q n b.0 (omega arith) b.1, led.1, led.2 ∙ ap (λ (k : ℕ). shape_on_arrival Q k led.0) is)

pub arrived : (Q : Program) (n : ℕ) (sh : Shape) → Arrives Q n sh → shape_at Q n ≡ Ok sh
arrived Q zero sh a = begin (is_labelled Q 0) ∙ ap (λ (s : Shape). let r : Result Shape (TypeFault × ℕ) = Ok s in r) (sym a)
arrived Q (suc n) sh a =
    let is : suc n ≡ n + 1 = omega arith in
    let to : shape_on_arrival Q (n + 1) a.2 ≡ sh = ap (λ (k : ℕ). shape_on_arrival Q k a.2) (sym is) ∙ sym a.6 in
    ap (shape_at Q) is
    ∙ goes_at Q n a.1 (shape_on_arrival Q (n + 1) a.2) a.0 (arrived Q n a.1 a.4) a.3 (goes_well Q n a.0 a.1 a.2 a.5)
    ∙ ap (λ (s : Shape). let r : Result Shape (TypeFault × ℕ) = Ok s in r) to

ends_so : (b : Bool) (sh : Shape) (m : ℕ) → nat_lt 0 (length sh.kept) ≡ b → (let r : Result (Unit {0}) (TypeFault × ℕ) = cond b (Err (Unbalanced, m)) (Ok tt) in r ≡ Ok tt) → sh.kept ≡ []
ends_so true sh m e h = absurd cc
ends_so false sh m e h = nil_from_length sh.kept (let le : length sh.kept ≤ 0 = ltb-false 0 (length sh.kept) e in omega arith)

-- a program in which the check finds no fault is typed
pub is_typed : (Q : Program) → HasNoTypeFault Q → IsTyped Q
is_typed Q h =
    let b = bind_ok (shape_at Q (length Q.code)) (typing_end Q) tt h in
    (b.0, arrives Q (length Q.code) b.0 (omega arith) b.1, ends_so (nat_lt 0 (length b.0.kept)) b.0 (length Q.code) refl b.2)

-- in a typed program the check finds no fault
pub faultless : (Q : Program) → IsTyped Q → HasNoTypeFault Q
faultless Q typed =
    ap (λ (r : Result Shape (TypeFault × ℕ)). r >>= typing_end Q) (arrived Q (length Q.code) typed.0 typed.1)
    ∙ ap (λ (ks : List Held). let r : Result (Unit {0}) (TypeFault × ℕ) = cond (nat_lt 0 (length ks)) (Err (Unbalanced, length Q.code)) (Ok tt) in r) typed.2
