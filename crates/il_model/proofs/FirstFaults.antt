-- The fault that is told of an instruction is the first of those that apply.
use Rattle.std.proofs.Common.{◌≡◌, ℕ, ◌+◌, ◌<◌, ◌≤◌, Bool, true, false, cond, not, ◌⊎◌, List, [], ◌∷◌, ◌++◌, length, Option, Some, None, Result, Ok, Err, refl, sym, ap, subst, ◌∙◌, arith, inl, inr}
use Rattle.std.specs.Prelude.{nat_lt, nat_eq, ◌&&◌, ◌||◌, is_some, is_none, slice_get}
use Rattle.std.specs.List.{list_any, list_all}
use Rattle.std.specs.Option.{option_and_then}
use Rattle.std.proofs.lemmas.Bool.{ltb-true, lt-ltb, le-ltb}
use Rattle.std.proofs.lemmas.List.Folds.{list_any-append}
use Rattle.il_values.specs.declared.value.Ty.{Ty}
use Rattle.il_values.specs.declared.value.Ty.TheVariants as types
use Rattle.il_values.specs.declared.op.Op.{Op}
use Rattle.il_values.specs.declared.op.Op.TheVariants as ops
use Rattle.il_values.specs.declared.op.Modifier.{Modifier}
use Rattle.il_model.specs.declared.kind.BlockKind.{BlockKind}
use Rattle.il_model.specs.declared.kind.Field.{Field}
use Rattle.il_model.specs.declared.program.Argument.{Argument}
use Rattle.il_model.specs.declared.program.Instr.{Instr}
use Rattle.il_model.specs.declared.program.Side.{Side}
use Rattle.il_model.specs.declared.program.Side.TheVariants as sides
use Rattle.il_model.specs.declared.fetched.Source.{Source}
use Rattle.il_model.specs.declared.typing.TypeFault.{TypeFault}
use Rattle.il_model.specs.declared.typing.TypeFault.TheVariants.{TypeMismatch, NoCurrentResult, UnknownLabel, DuplicateLabel, Unbalanced, TooDeep, NotWritable, BadField}
use Rattle.il_model.specs.declared.typing.OperandKind.{OperandKind}
use Rattle.il_model.specs.declared.typing.OperandKind.TheVariants as kinds
use Rattle.il_model.specs.declared.typing.Held.{Held}
use Rattle.il_model.specs.declared.typing.Effect.{Effect}
use Rattle.il_model.specs.declared.typing.Effect.TheVariants.{Sets}
use Rattle.il_model.specs.Program.{Program}
use Rattle.il_model.specs.Words.{same_name}
use Rattle.il_model.specs.Kinds.{field_type}
use Rattle.il_values.specs.Operators.{joined_type}
use Rattle.il_model.specs.Codes.{is_jump, is_call}
use Rattle.il_model.specs.Resolved.{source_of, target_of, called_kind}
use Rattle.il_values.specs.Values.{is_bit_string}
use Rattle.il_model.specs.Row.{row, same_type, is_bool, negatable, load_row, store_row, set_row, not_row, truth_row, leave_row, jump_row, call_row, close_row, closes_to, convert_row, opened_row, opens_with, combine_row, sets_to, function_row}
use Rattle.il_values.specs.declared.function.Function.{Function}
use Rattle.il_values.specs.Functions.{function_type}
use Rattle.il_model.specs.Typing.{Shape, kind_field, shape_on_arrival}
use Rattle.il_model.specs.Checking.{◌>>=◌, top_of, source_kind, missing_kind, operand_kind, source_row, without_effect, fault_rank, first_fault, passing_fault, goes_so, field_fault, argument_fault, arguments_fault, with_fault, line_row_of, line_row, label_at, label_row, shape_after, after_line}
use Rattle.il_model.specs.InstructionFaults.{leaves, is_closing, writes, combines, has_operand, needs_result, is_target, is_instance, is_no_field, may_be_written, result_is, both_are, joins, begins_inside, takes, if_goes_so, argument_field, is_field_bad, is_output_side, is_unwritable, is_of_field, is_mismatched, has_twins, is_doubled, applies, IsFirst, TellsFirst}
use Rattle.il_model.proofs.RowTypes.{and_yes}
use Rattle.il_model.proofs.TypedLines.{is_among}

-- ---- of a list of faults the first that applies

abbrev pub faults : List TypeFault
faults = DuplicateLabel ∷ Unbalanced ∷ TooDeep ∷ UnknownLabel ∷ BadField ∷ NotWritable ∷ NoCurrentResult ∷ TypeMismatch ∷ []

abbrev pub first_in : (TypeFault → Bool) → List TypeFault → Option TypeFault
first_in has [] = None
first_in has (f ∷ fs) = cond (has f) (Some f) (first_in has fs)

abbrev pub first_found : (TypeFault → Bool) → Option TypeFault
first_found has = first_in has faults

abbrev pub fault_of : {X : Type 0} → Result X TypeFault → Option TypeFault
fault_of (Ok x) = None
fault_of (Err f) = Some f

same_in : (p q : TypeFault → Bool) → ((f : TypeFault) → p f ≡ q f) → (fs : List TypeFault) → first_in p fs ≡ first_in q fs
same_in p q e [] = refl
same_in p q e (f ∷ fs) = ap (λ (b : Bool). cond b (Some f) (first_in p fs)) (e f) ∙ ap (λ (o : Option TypeFault). cond (q f) (Some f) o) (same_in p q e fs)

abbrev is_before : TypeFault → TypeFault → Bool
is_before f g = nat_lt (fault_rank f) (fault_rank g) && not (nat_lt (fault_rank g) (fault_rank f))

abbrev is_rising : List TypeFault → Bool
is_rising [] = true
is_rising (f ∷ fs) = list_all (is_before f) fs && is_rising fs

not_yes : (b : Bool) → not b ≡ true → b ≡ false
not_yes true e = absurd cc
not_yes false e = refl

stays_by : (b : Bool) (f g : TypeFault) (o : Option TypeFault) → nat_lt (fault_rank g) (fault_rank f) ≡ false → first_fault (Some f) o ≡ Some f → first_fault (Some f) (cond b (Some g) o) ≡ Some f
stays_by true f g o e r = ap (λ (b : Bool). Some (cond b g f)) e
stays_by false f g o e r = r

stays : (f : TypeFault) (q : TypeFault → Bool) (fs : List TypeFault) → list_all (is_before f) fs ≡ true → first_fault (Some f) (first_in q fs) ≡ Some f
stays f q [] h = refl
stays f q (g ∷ fs) h =
    let a = and_yes (is_before f g) (list_all (is_before f) fs) h in
    let b = and_yes (nat_lt (fault_rank f) (fault_rank g)) (not (nat_lt (fault_rank g) (fault_rank f))) a.0 in
    stays_by (q g) f g (first_in q fs) (not_yes (nat_lt (fault_rank g) (fault_rank f)) b.1) (stays f q fs a.1)

falls_by : (b : Bool) (f g : TypeFault) (o : Option TypeFault) → nat_lt (fault_rank f) (fault_rank g) ≡ true → first_fault o (Some f) ≡ Some f → first_fault (cond b (Some g) o) (Some f) ≡ Some f
falls_by true f g o e r = ap (λ (b : Bool). Some (cond b f g)) e
falls_by false f g o e r = r

falls : (f : TypeFault) (p : TypeFault → Bool) (fs : List TypeFault) → list_all (is_before f) fs ≡ true → first_fault (first_in p fs) (Some f) ≡ Some f
falls f p [] h = refl
falls f p (g ∷ fs) h =
    let a = and_yes (is_before f g) (list_all (is_before f) fs) h in
    let b = and_yes (nat_lt (fault_rank f) (fault_rank g)) (not (nat_lt (fault_rank g) (fault_rank f))) a.0 in
    falls_by (p g) f g (first_in p fs) b.0 (falls f p fs a.1)

one_fault : (b : Bool) (f : TypeFault) → let o : Option TypeFault = Some (cond b f f) in Some f ≡ o
one_fault true f = refl
one_fault false f = refl

either_by : (a b : Bool) (f : TypeFault) (o x y : Option TypeFault) → o ≡ first_fault x y → first_fault (Some f) y ≡ Some f → first_fault x (Some f) ≡ Some f
    → cond (a || b) (Some f) o ≡ first_fault (cond a (Some f) x) (cond b (Some f) y)
either_by true true f o x y same left right = one_fault (nat_lt (fault_rank f) (fault_rank f)) f
either_by true false f o x y same left right = sym left
either_by false true f o x y same left right = sym right
either_by false false f o x y same left right = same

either_in : (p q : TypeFault → Bool) (fs : List TypeFault) → is_rising fs ≡ true → first_in (λ f. p f || q f) fs ≡ first_fault (first_in p fs) (first_in q fs)
either_in p q [] h = refl
either_in p q (f ∷ fs) h =
    let a = and_yes (list_all (is_before f) fs) (is_rising fs) h in
    either_by (p f) (q f) f (first_in (λ f. p f || q f) fs) (first_in p fs) (first_in q fs) (either_in p q fs a.1) (stays f q fs a.0) (falls f p fs a.0)

pub first_either : (p q : TypeFault → Bool) → first_found (λ f. p f || q f) ≡ first_fault (first_found p) (first_found q)
first_either p q = either_in p q faults refl

-- ---- the first of those that apply is the one of least rank

abbrev IsIn : TypeFault → List TypeFault → Type 0
IsIn g [] = ⊥
IsIn g (f ∷ fs) = (f ≡ g) ⊎ IsIn g fs

every : (f : TypeFault) → IsIn f faults
every DuplicateLabel = inl refl
every Unbalanced = inr (inl refl)
every TooDeep = inr (inr (inl refl))
every UnknownLabel = inr (inr (inr (inl refl)))
every BadField = inr (inr (inr (inr (inl refl))))
every NotWritable = inr (inr (inr (inr (inr (inl refl)))))
every NoCurrentResult = inr (inr (inr (inr (inr (inr (inl refl))))))
every TypeMismatch = inr (inr (inr (inr (inr (inr (inr (inl refl)))))))

some_is : (f g : TypeFault) → Some f ≡ Some g → f ≡ g
some_is f g e = cc

there_by : (b : Bool) (p : TypeFault → Bool) (f g : TypeFault) (o : Option TypeFault) → p f ≡ b → (o ≡ Some g → p g ≡ true) → cond b (Some f) o ≡ Some g → p g ≡ true
there_by true p f g o is rest e = ap p (sym (some_is f g e)) ∙ is
there_by false p f g o is rest e = rest e

there_in : (p : TypeFault → Bool) (fs : List TypeFault) (g : TypeFault) → first_in p fs ≡ Some g → p g ≡ true
there_in p [] g e = absurd cc
there_in p (f ∷ fs) g e = there_by (p f) p f g (first_in p fs) refl (there_in p fs g) e

behind : (f : TypeFault) (fs : List TypeFault) → list_all (is_before f) fs ≡ true → (g : TypeFault) → IsIn g fs → fault_rank f ≤ fault_rank g
behind f [] h g is = absurd is
behind f (x ∷ fs) h g (inl is) =
    let a = and_yes (is_before f x) (list_all (is_before f) fs) h in
    let b = and_yes (nat_lt (fault_rank f) (fault_rank x)) (not (nat_lt (fault_rank x) (fault_rank f))) a.0 in
    let lt : fault_rank f < fault_rank x = ltb-true (fault_rank f) (fault_rank x) b.0 in
    let le : fault_rank f ≤ fault_rank x = omega (arith, lt) in
    subst (λ (y : TypeFault). fault_rank f ≤ fault_rank y) is le
behind f (x ∷ fs) h g (inr is) = behind f fs (and_yes (is_before f x) (list_all (is_before f) fs) h).1 g is

at_most_itself : (f : TypeFault) → fault_rank f ≤ fault_rank f
at_most_itself f = omega arith

least_by : (b : Bool) (p : TypeFault → Bool) (x : TypeFault) (fs : List TypeFault) (f g : TypeFault) → p x ≡ b → list_all (is_before x) fs ≡ true → (first_in p fs ≡ Some f → IsIn g fs → fault_rank f ≤ fault_rank g)
    → cond b (Some x) (first_in p fs) ≡ Some f → (x ≡ g) ⊎ IsIn g fs → p g ≡ true → fault_rank f ≤ fault_rank g
least_by true p x fs f g is before rest e (inl at) h = subst (λ (y : TypeFault). fault_rank y ≤ fault_rank g) (some_is x f e) (subst (λ (y : TypeFault). fault_rank x ≤ fault_rank y) at (at_most_itself x))
least_by true p x fs f g is before rest e (inr at) h = subst (λ (y : TypeFault). fault_rank y ≤ fault_rank g) (some_is x f e) (behind x fs before g at)
least_by false p x fs f g is before rest e (inl at) h = absurd (let no : true ≡ false = sym h ∙ ap p (sym at) ∙ is in cc)
least_by false p x fs f g is before rest e (inr at) h = rest e at

least_in : (p : TypeFault → Bool) (fs : List TypeFault) → is_rising fs ≡ true → (f g : TypeFault) → first_in p fs ≡ Some f → IsIn g fs → p g ≡ true → fault_rank f ≤ fault_rank g
least_in p [] h f g e at is = absurd at
least_in p (x ∷ fs) h f g e at is =
    let a = and_yes (list_all (is_before x) fs) (is_rising fs) h in
    least_by (p x) p x fs f g refl a.0 (λ e at. least_in p fs a.1 f g e at is) e at is

none_by : (b : Bool) (p : TypeFault → Bool) (x : TypeFault) (fs : List TypeFault) (g : TypeFault) → p x ≡ b → (first_in p fs ≡ None → IsIn g fs → p g ≡ false) → cond b (Some x) (first_in p fs) ≡ None → (x ≡ g) ⊎ IsIn g fs → p g ≡ false
none_by true p x fs g is rest e at = absurd cc
none_by false p x fs g is rest e (inl at) = ap p (sym at) ∙ is
none_by false p x fs g is rest e (inr at) = rest e at

none_in : (p : TypeFault → Bool) (fs : List TypeFault) (g : TypeFault) → first_in p fs ≡ None → IsIn g fs → p g ≡ false
none_in p [] g e at = absurd at
none_in p (x ∷ fs) g e at = none_by (p x) p x fs g refl (none_in p fs g) e at

pub first_is : (has : TypeFault → Bool) (f : TypeFault) → first_found has ≡ Some f → IsFirst has f
first_is has f e = record { there = there_in has faults f e; least = λ g is. least_in has faults refl f g e (every g) is }

ranked : (f : TypeFault) → slice_get faults (fault_rank f) ≡ Some f
ranked DuplicateLabel = refl
ranked Unbalanced = refl
ranked TooDeep = refl
ranked UnknownLabel = refl
ranked BadField = refl
ranked NotWritable = refl
ranked NoCurrentResult = refl
ranked TypeMismatch = refl

one_first : (has : TypeFault → Bool) (f g : TypeFault) → IsFirst has f → IsFirst has g → f ≡ g
one_first has f g a b =
    let here : fault_rank f ≤ fault_rank g = a.least g b.there in
    let back : fault_rank g ≤ fault_rank f = b.least f a.there in
    let same : fault_rank f ≡ fault_rank g = omega (arith, here, back) in
    some_is f g (sym (ranked f) ∙ ap (slice_get faults) same ∙ ranked g)

yes_no : (b : Bool) → b ≡ true → b ≡ false → ⊥
yes_no true a b = cc
yes_no false a b = cc

only_by : {X : Type 0} (has : TypeFault → Bool) (r : Result X TypeFault) → fault_of r ≡ first_found has → (f : TypeFault) → IsFirst has f → r ≡ Err f
only_by has (Ok x) e f is = absurd (yes_no (has f) is.there (none_in has faults f (sym e) (every f)))
only_by has (Err g) e f is = ap (λ (h : TypeFault). Err h) (one_first has g f (first_is has g (sym e)) is)

none_told : {X : Type 0} (has : TypeFault → Bool) (r : Result X TypeFault) → fault_of r ≡ first_found has → ((f : TypeFault) → has f ≡ false) → (x : X) × (r ≡ Ok x)
none_told has (Ok x) e free = (x, refl)
none_told has (Err f) e free = absurd (yes_no (has f) (there_in has faults f (sym e)) (free f))

pub tells : {X : Type 0} (has : TypeFault → Bool) (r : Result X TypeFault) → fault_of r ≡ first_found has → TellsFirst has r
tells has r e = record {
  told = λ f is. first_is has f (sym e ∙ ap fault_of is);
  only = only_by has r e;
  passes = λ x is f. none_in has faults f (sym e ∙ ap fault_of is) (every f);
  none = none_told has r e;
}

-- ---- the rows of the operators

-- those of an operator and its operand, where a parenthesis is open and there is room for one more
abbrev row_has : Bool → Bool → Option Ty → Option Held → Op → Modifier → OperandKind → TypeFault → Bool
row_has within room cr held op m kind DuplicateLabel = false
row_has within room cr held op m kind Unbalanced = (leaves op && within) || (is_closing op && is_none held)
row_has within room cr held op m kind TooDeep = combines op && (m.opens && not room)
row_has within room cr held op m kind UnknownLabel = is_jump op && not (is_target kind)
row_has within room cr held op m kind BadField = (has_operand op && is_no_field kind) || (is_call op && not (is_instance kind))
row_has within room cr held op m kind NotWritable = writes op && not (may_be_written kind)
row_has within room cr held op m kind NoCurrentResult = needs_result op m.conditional && is_none cr
row_has within room cr held op m kind TypeMismatch = not (takes cr held op m kind)

-- a test that is asked for, and TypeMismatch where it fails
unless : (b : Bool) (e : Effect) → fault_of (cond b (Ok e) (Err TypeMismatch)) ≡ cond (not b) (Some TypeMismatch) None
unless true e = refl
unless false e = refl

abbrev letters : Bool → Bool → Bool → Modifier
letters n c b = record { negated = n; conditional = c; opens = b }

load_told : (within room : Bool) (cr : Option Ty) (held : Option Held) (n c b : Bool) (kind : OperandKind) → fault_of (load_row n kind) ≡ first_found (row_has within room cr held ops.Ld (letters n c b) kind)
load_told within room cr held n c b (kinds.Typed t w) = unless (negatable n t) (Sets (Some t))
load_told within room cr held n c b _ = refl

store_told : (within room : Bool) (cr : Option Ty) (held : Option Held) (n c b : Bool) (kind : OperandKind) → fault_of (store_row cr n kind) ≡ first_found (row_has within room cr held ops.St (letters n c b) kind)
store_told within room None held n c b (kinds.Typed t true) = refl
store_told within room (Some x) held n c b (kinds.Typed t true) = unless (same_type x t && negatable n t) (Sets (Some x))
store_told within room None held n c b (kinds.Typed t false) = refl
store_told within room (Some x) held n c b (kinds.Typed t false) = refl
store_told within room None held n c b _ = refl
store_told within room (Some x) held n c b _ = refl

set_told : (within room : Bool) (cr : Option Ty) (held : Option Held) (n c b : Bool) (kind : OperandKind) → fault_of (set_row cr kind) ≡ first_found (row_has within room cr held ops.S (letters n c b) kind)
set_told within room None held n c b (kinds.Typed t true) = refl
set_told within room (Some x) held n c b (kinds.Typed t true) = unless (is_bool t && is_bool x) (Sets (Some x))
set_told within room None held n c b (kinds.Typed t false) = refl
set_told within room (Some x) held n c b (kinds.Typed t false) = refl
set_told within room None held n c b _ = refl
set_told within room (Some x) held n c b _ = refl

not_told : (within room : Bool) (cr : Option Ty) (held : Option Held) (n c b : Bool) (kind : OperandKind) → fault_of (not_row cr) ≡ first_found (row_has within room cr held ops.Not (letters n c b) kind)
not_told within room None held n c b kind = refl
not_told within room (Some x) held n c b kind = unless (is_bit_string x) (Sets (Some x))

jump_told : (within room : Bool) (cr : Option Ty) (held : Option Held) (n c b : Bool) (kind : OperandKind) → fault_of (cond within (Err Unbalanced) (jump_row cr c kind)) ≡ first_found (row_has within room cr held ops.Jmp (letters n c b) kind)
jump_told true room cr held n c b kind = refl
jump_told false room None held n true b kinds.Target = refl
jump_told false room (Some x) held n true b kinds.Target = unless (is_bool x) (Sets (Some x))
jump_told false room cr held n false b kinds.Target = refl
jump_told false room cr held n c b _ = refl

call_told : (within room : Bool) (cr : Option Ty) (held : Option Held) (n c b : Bool) (kind : OperandKind) → fault_of (cond within (Err Unbalanced) (call_row cr c kind)) ≡ first_found (row_has within room cr held ops.Cal (letters n c b) kind)
call_told true room cr held n c b kind = refl
call_told false room None held n true b kinds.Instance = refl
call_told false room (Some x) held n true b kinds.Instance = unless (is_bool x) (Sets (Some x))
call_told false room cr held n false b kinds.Instance = refl
call_told false room cr held n c b _ = refl

return_told : (within room : Bool) (cr : Option Ty) (held : Option Held) (n c b : Bool) (kind : OperandKind) → fault_of (cond within (Err Unbalanced) (leave_row cr c)) ≡ first_found (row_has within room cr held ops.Ret (letters n c b) kind)
return_told true room cr held n c b kind = refl
return_told false room None held n true b kind = refl
return_told false room (Some x) held n true b kind = unless (is_bool x) (Sets (Some x))
return_told false room cr held n false b kind = refl

closes_told : (a : Bool) (o : Option Ty) → fault_of (cond a (closes_to o) (Err TypeMismatch)) ≡ cond (not (a && is_some o)) (Some TypeMismatch) None
closes_told true (Some t) = refl
closes_told true None = refl
closes_told false o = refl

close_told : (within room : Bool) (cr : Option Ty) (held : Option Held) (n c b : Bool) (kind : OperandKind) → fault_of (close_row cr held) ≡ first_found (row_has within room cr held ops.Close (letters n c b) kind)
close_told within room cr None n c b kind = refl
close_told within room None (Some held) n c b kind = refl
close_told within room (Some x) (Some held) n c b kind = closes_told (negatable held.negated x) (joined_type held.op held.ty x)

to_dint_told : (within room : Bool) (cr : Option Ty) (held : Option Held) (n c b : Bool) (kind : OperandKind) → fault_of (convert_row cr types.Int types.Dint) ≡ first_found (row_has within room cr held ops.IntToDint (letters n c b) kind)
to_dint_told within room None held n c b kind = refl
to_dint_told within room (Some x) held n c b kind = unless (same_type x types.Int) (Sets (Some types.Dint))

to_int_told : (within room : Bool) (cr : Option Ty) (held : Option Held) (n c b : Bool) (kind : OperandKind) → fault_of (convert_row cr types.Dint types.Int) ≡ first_found (row_has within room cr held ops.DintToInt (letters n c b) kind)
to_int_told within room None held n c b kind = refl
to_int_told within room (Some x) held n c b kind = unless (same_type x types.Dint) (Sets (Some types.Int))

to_lint_told : (within room : Bool) (cr : Option Ty) (held : Option Held) (n c b : Bool) (kind : OperandKind) → fault_of (convert_row cr types.Dint types.Lint) ≡ first_found (row_has within room cr held ops.DintToLint (letters n c b) kind)
to_lint_told within room None held n c b kind = refl
to_lint_told within room (Some x) held n c b kind = unless (same_type x types.Dint) (Sets (Some types.Lint))

from_lint_told : (within room : Bool) (cr : Option Ty) (held : Option Held) (n c b : Bool) (kind : OperandKind) → fault_of (convert_row cr types.Lint types.Dint) ≡ first_found (row_has within room cr held ops.LintToDint (letters n c b) kind)
from_lint_told within room None held n c b kind = refl
from_lint_told within room (Some x) held n c b kind = unless (same_type x types.Lint) (Sets (Some types.Dint))

-- the operators on the current result and an operand have one row each way
abbrev operand_has : Bool → Option Ty → Op → Modifier → OperandKind → TypeFault → Bool
operand_has room cr op m kind TooDeep = m.opens && not room
operand_has room cr op m kind BadField = is_no_field kind || false
operand_has room cr op m kind NoCurrentResult = is_none cr
operand_has room cr op m kind TypeMismatch =
    not (cond m.opens (result_is (λ c. joins op c c) cr && begins_inside kind) (both_are (λ c t. negatable m.negated t && joins op c t) cr kind))
operand_has room cr op m kind f = false

opened_told : (o : Option Ty) (held : Held) (kind : OperandKind) → fault_of (cond (is_none o) (Err TypeMismatch) (opens_with held kind)) ≡ cond (not (is_some o && begins_inside kind)) (Some TypeMismatch) None
opened_told None held kind = refl
opened_told (Some t) held kinds.Absent = refl
opened_told (Some t) held (kinds.Typed u w) = refl
opened_told (Some t) held _ = refl

sets_told : (a : Bool) (o : Option Ty) → fault_of (cond a (sets_to o) (Err TypeMismatch)) ≡ cond (not (a && is_some o)) (Some TypeMismatch) None
sets_told true (Some t) = refl
sets_told true None = refl
sets_told false o = refl

function_told : (within room : Bool) (cr : Option Ty) (held : Option Held) (f : Function) (n c b : Bool) (kind : OperandKind) → fault_of (function_row cr f) ≡ first_found (row_has within room cr held (ops.Apply f) (letters n c b) kind)
function_told within room None held f n c b kind = refl
function_told within room (Some x) held f n c b kind = sets_told true (function_type f x)

operand_told : (room : Bool) (cr : Option Ty) (op : Op) (n c b : Bool) (kind : OperandKind)
    → fault_of (cond b (cond room (opened_row cr op n kind) (Err TooDeep)) (combine_row cr op n kind)) ≡ first_found (operand_has room cr op (letters n c b) kind)
operand_told false cr op n c true kind = refl
operand_told true cr op n c true kinds.NoField = refl
operand_told true None op n c true _ = refl
operand_told true (Some x) op n c true kinds.Absent = opened_told (joined_type op x x) (record { op = op; negated = n; ty = x }) kinds.Absent
operand_told true (Some x) op n c true (kinds.Typed t w) = opened_told (joined_type op x x) (record { op = op; negated = n; ty = x }) (kinds.Typed t w)
operand_told true (Some x) op n c true kinds.Misfit = opened_told (joined_type op x x) (record { op = op; negated = n; ty = x }) kinds.Misfit
operand_told true (Some x) op n c true kinds.Target = opened_told (joined_type op x x) (record { op = op; negated = n; ty = x }) kinds.Target
operand_told true (Some x) op n c true kinds.NoTarget = opened_told (joined_type op x x) (record { op = op; negated = n; ty = x }) kinds.NoTarget
operand_told true (Some x) op n c true kinds.Instance = opened_told (joined_type op x x) (record { op = op; negated = n; ty = x }) kinds.Instance
operand_told room cr op n c false kinds.NoField = refl
operand_told room None op n c false _ = refl
operand_told room (Some x) op n c false (kinds.Typed t w) = sets_told (negatable n t) (joined_type op x t)
operand_told room (Some x) op n c false _ = refl

row_told : (cr : Option Ty) (held : Option Held) (depth : ℕ) (op : Op) (n c b : Bool) (kind : OperandKind)
    → fault_of (row cr held depth op (letters n c b) kind) ≡ first_found (row_has (nat_lt 0 depth) (nat_lt depth 16) cr held op (letters n c b) kind)
row_told cr held depth ops.Empty n c b kind = refl
row_told cr held depth ops.Ld n c b kind = load_told (nat_lt 0 depth) (nat_lt depth 16) cr held n c b kind
row_told cr held depth ops.St n c b kind = store_told (nat_lt 0 depth) (nat_lt depth 16) cr held n c b kind
row_told cr held depth ops.S n c b kind = set_told (nat_lt 0 depth) (nat_lt depth 16) cr held n c b kind
row_told cr held depth ops.R n c b kind = set_told (nat_lt 0 depth) (nat_lt depth 16) cr held n c b kind
row_told cr held depth ops.Not n c b kind = not_told (nat_lt 0 depth) (nat_lt depth 16) cr held n c b kind
row_told cr held depth ops.Jmp n c b kind = jump_told (nat_lt 0 depth) (nat_lt depth 16) cr held n c b kind
row_told cr held depth ops.Cal n c b kind = call_told (nat_lt 0 depth) (nat_lt depth 16) cr held n c b kind
row_told cr held depth ops.Ret n c b kind = return_told (nat_lt 0 depth) (nat_lt depth 16) cr held n c b kind
row_told cr held depth ops.Close n c b kind = close_told (nat_lt 0 depth) (nat_lt depth 16) cr held n c b kind
row_told cr held depth ops.IntToDint n c b kind = to_dint_told (nat_lt 0 depth) (nat_lt depth 16) cr held n c b kind
row_told cr held depth ops.DintToInt n c b kind = to_int_told (nat_lt 0 depth) (nat_lt depth 16) cr held n c b kind
row_told cr held depth ops.DintToLint n c b kind = to_lint_told (nat_lt 0 depth) (nat_lt depth 16) cr held n c b kind
row_told cr held depth ops.LintToDint n c b kind = from_lint_told (nat_lt 0 depth) (nat_lt depth 16) cr held n c b kind
row_told cr held depth (ops.Apply f) n c b kind = function_told (nat_lt 0 depth) (nat_lt depth 16) cr held f n c b kind
row_told cr held depth op n c b kind = operand_told (nat_lt depth 16) cr op n c b kind

-- ---- an operand that stands for nothing

abbrev lacks : Bool → TypeFault → Bool
lacks b TypeMismatch = b
lacks b f = false

no_more : (o : Option TypeFault) → o ≡ first_fault o None
no_more None = refl
no_more (Some f) = refl

mismatch_last : (f : TypeFault) → let o : Option TypeFault = Some f in o ≡ first_fault (Some f) (Some TypeMismatch)
mismatch_last DuplicateLabel = refl
mismatch_last Unbalanced = refl
mismatch_last TooDeep = refl
mismatch_last UnknownLabel = refl
mismatch_last BadField = refl
mismatch_last NotWritable = refl
mismatch_last NoCurrentResult = refl
mismatch_last TypeMismatch = refl

refused_told : (r : Result Effect TypeFault) → fault_of (without_effect r) ≡ first_fault (fault_of r) (Some TypeMismatch)
refused_told (Ok e) = refl
refused_told (Err f) = mismatch_last f

abbrev kind_from : Program → Option Source → OperandKind → OperandKind
kind_from Q o missing = elim o [ Some src ↦ source_kind Q src | None ↦ missing ]

source_told : (Q : Program) (cr : Option Ty) (held : Option Held) (depth : ℕ) (line : Instr) (o : Option Source)
    → fault_of (source_row Q cr held depth line o) ≡ first_fault (fault_of (row cr held depth line.op line.modifier (kind_from Q o (missing_kind line.operand)))) (first_found (lacks (is_none o)))
source_told Q cr held depth line (Some src) = no_more (fault_of (row cr held depth line.op line.modifier (source_kind Q src)))
source_told Q cr held depth line None = refused_told (row cr held depth line.op line.modifier (missing_kind line.operand))

-- ---- the arguments of a call

-- those of one argument: whether its field was given before, which field it is, its side and what its operand is
abbrev passing_has : Bool → Option Field → Side → OperandKind → TypeFault → Bool
passing_has given field side kind BadField = (is_none field || is_no_field kind) || given
passing_has given field side kind NotWritable = is_output_side side && not (may_be_written kind)
passing_has given field side kind TypeMismatch = not (is_of_field field kind)
passing_has given field side kind f = false

same_told : (b : Bool) → let o : Option TypeFault = cond b None (Some TypeMismatch) in o ≡ cond (not b) (Some TypeMismatch) None
same_told true = refl
same_told false = refl

passing_told : (side : Side) (field : Field) (kind : OperandKind) → passing_fault side (field_type field) kind ≡ first_found (passing_has false (Some field) side kind)
passing_told sides.Input field kinds.NoField = refl
passing_told sides.Output field kinds.NoField = refl
passing_told sides.Input field (kinds.Typed u w) = same_told (same_type (field_type field) u)
passing_told sides.Input field _ = refl
passing_told sides.Output field (kinds.Typed u true) = same_told (same_type (field_type field) u)
passing_told sides.Output field (kinds.Typed u false) = refl
passing_told sides.Output field _ = refl

goes_told : (b : Bool) (side : Side) (field : Field) (kind : OperandKind) → cond b (passing_fault side (field_type field) kind) (Some BadField) ≡ first_found (passing_has false (cond b (Some field) None) side kind)
goes_told true side field kind = passing_told side field kind
goes_told false side field kind = refl

or_given : (b : Bool) (f : TypeFault) (o : Option TypeFault) → Some f ≡ cond (b || true) (Some f) o
or_given true f o = refl
or_given false f o = refl

field_told : (Q : Program) (given : Bool) (a : Argument) (o : Option Field)
    → cond given (Some BadField) (field_fault Q a o) ≡ first_found (passing_has given (option_and_then (if_goes_so a.side) o) a.side (operand_kind Q a.operand))
field_told Q true a o =
    let field = option_and_then (if_goes_so a.side) o in
    or_given (is_none field || is_no_field (operand_kind Q a.operand)) BadField
    (first_in (passing_has true field a.side (operand_kind Q a.operand)) (NotWritable ∷ NoCurrentResult ∷ TypeMismatch ∷ []))
field_told Q false a None = refl
field_told Q false a (Some field) = goes_told (goes_so a.side field) a.side field (operand_kind Q a.operand)

argument_told : (Q : Program) (kind : Option BlockKind) (seen : List Argument) (a : Argument) → argument_fault Q kind seen a ≡ first_found (passing_has (is_among seen a) (argument_field kind a) a.side (operand_kind Q a.operand))
argument_told Q None seen a = refl
argument_told Q (Some k) seen a = field_told Q (is_among seen a) a (kind_field k a.field)

-- a field that is given again, behind those
abbrev given_again : List Argument → List Argument → Bool
given_again seen [] = false
given_again seen (a ∷ more) = is_among seen a || given_again (seen ++ a ∷ []) more

abbrev arguments_have : Program → Option BlockKind → Bool → List Argument → TypeFault → Bool
arguments_have Q kind again args BadField = list_any (is_field_bad Q kind) args || again
arguments_have Q kind again args NotWritable = list_any (is_unwritable Q) args
arguments_have Q kind again args TypeMismatch = list_any (is_mismatched Q kind) args
arguments_have Q kind again args f = false

swapped : (a b c d : Bool) → ((a || b) || (c || d)) ≡ ((a || c) || (b || d))
swapped true b c d = refl
swapped false true true d = refl
swapped false true false d = refl
swapped false false c d = refl

one_more : (Q : Program) (kind : Option BlockKind) (given again : Bool) (a : Argument) (more : List Argument) (f : TypeFault)
    → (passing_has given (argument_field kind a) a.side (operand_kind Q a.operand) f || arguments_have Q kind again more f) ≡ arguments_have Q kind (given || again) (a ∷ more) f
one_more Q kind given again a more BadField = swapped (is_field_bad Q kind a) given (list_any (is_field_bad Q kind) more) again
one_more Q kind given again a more NotWritable = refl
one_more Q kind given again a more TypeMismatch = refl
one_more Q kind given again a more _ = refl

arguments_told : (Q : Program) (kind : Option BlockKind) (seen args : List Argument) → arguments_fault Q kind seen args ≡ first_found (arguments_have Q kind (given_again seen args) args)
arguments_told Q kind seen [] = refl
arguments_told Q kind seen (a ∷ more) =
    let here = passing_has (is_among seen a) (argument_field kind a) a.side (operand_kind Q a.operand) in
    let rest = arguments_have Q kind (given_again (seen ++ a ∷ []) more) more in
    ap (λ (o : Option TypeFault). first_fault o (arguments_fault Q kind (seen ++ a ∷ []) more)) (argument_told Q kind seen a)
    ∙ ap (first_fault (first_found here)) (arguments_told Q kind (seen ++ a ∷ []) more)
    ∙ sym (first_either here rest)
    ∙ same_in (λ f. here f || rest f) (arguments_have Q kind (given_again seen (a ∷ more)) (a ∷ more)) (one_more Q kind (is_among seen a) (given_again (seen ++ a ∷ []) more) a more) faults

-- that is one field twice
or_none : (b : Bool) → (b || false) ≡ b
or_none true = refl
or_none false = refl

among_more : (seen : List Argument) (a : Argument) (more : List Argument) → list_any (is_among (seen ++ a ∷ [])) more ≡ (list_any (is_among seen) more || list_any (λ (b : Argument). same_name a.field b.field) more)
among_more seen a [] = refl
among_more seen a (b ∷ more) =
    ap (λ (x : Bool). x || list_any (is_among (seen ++ a ∷ [])) more) (list_any-append (λ (c : Argument). same_name c.field b.field) seen (a ∷ []) ∙ ap (λ (x : Bool). is_among seen b || x) (or_none (same_name a.field b.field)))
    ∙ ap (λ (x : Bool). (is_among seen b || same_name a.field b.field) || x) (among_more seen a more)
    ∙ swapped (is_among seen b) (same_name a.field b.field) (list_any (is_among seen) more) (list_any (λ (b : Argument). same_name a.field b.field) more)

or_in_turn : (a b c d : Bool) → (a || ((b || c) || d)) ≡ ((a || b) || (c || d))
or_in_turn true b c d = refl
or_in_turn false true c d = refl
or_in_turn false false c d = refl

given_twice : (seen args : List Argument) → given_again seen args ≡ (list_any (is_among seen) args || has_twins args)
given_twice seen [] = refl
given_twice seen (a ∷ more) =
    ap (λ (x : Bool). is_among seen a || x) (given_twice (seen ++ a ∷ []) more ∙ ap (λ (x : Bool). x || has_twins more) (among_more seen a more))
    ∙ or_in_turn (is_among seen a) (list_any (is_among seen) more) (list_any (λ (b : Argument). same_name a.field b.field) more) (has_twins more)

none_among : (args : List Argument) → list_any (is_among []) args ≡ false
none_among [] = refl
none_among (a ∷ args) = none_among args

twins : (args : List Argument) → given_again [] args ≡ has_twins args
twins args = given_twice [] args ∙ ap (λ (x : Bool). x || has_twins args) (none_among args)

-- ---- labels

abbrev label_has : Program → ℕ → Bool → Option (List ℕ) → TypeFault → Bool
label_has Q n within label DuplicateLabel = is_doubled Q n label
label_has Q n within label Unbalanced = is_some label && within
label_has Q n within label f = false

label_by : (first within : Bool) → let r : Result (Unit {0}) TypeFault = cond first (cond within (Err Unbalanced) (Ok tt)) (Err DuplicateLabel) in fault_of r ≡ cond (not first) (Some DuplicateLabel) (cond within (Some Unbalanced) None)
label_by true true = refl
label_by true false = refl
label_by false within = refl

label_at_told : (o : Option ℕ) (n depth : ℕ) → fault_of (label_at o n depth) ≡ cond (elim o [ Some first ↦ not (nat_eq first n) | None ↦ true ]) (Some DuplicateLabel) (cond (nat_lt 0 depth) (Some Unbalanced) None)
label_at_told None n depth = refl
label_at_told (Some first) n depth = label_by (nat_eq first n) (nat_lt 0 depth)

label_told : (Q : Program) (n depth : ℕ) (label : Option (List ℕ)) → fault_of (label_row Q n depth label) ≡ first_found (label_has Q n (nat_lt 0 depth) label)
label_told Q n depth None = refl
label_told Q n depth (Some name) = label_at_told (target_of Q name) n depth

-- ---- an instruction

with_told : (r : Result Effect TypeFault) (o : Option TypeFault) → fault_of (with_fault r o) ≡ first_fault (fault_of r) o
with_told (Ok e) None = refl
with_told (Err f) None = refl
with_told (Ok e) (Some f) = refl
with_told (Err g) (Some f) = refl

abbrev line_has : Program → Option Ty → Option Held → ℕ → Instr → TypeFault → Bool
line_has Q cr held depth line f =
    (row_has (nat_lt 0 depth) (nat_lt depth 16) cr held line.op line.modifier (operand_kind Q line.operand) f || lacks (is_none (source_of Q line.operand)) f)
    || arguments_have Q (called_kind Q line.operand) (has_twins line.arguments) line.arguments f

line_told : (Q : Program) (cr : Option Ty) (held : Option Held) (depth : ℕ) (line : Instr) → fault_of (line_row_of Q cr held depth line) ≡ first_found (line_has Q cr held depth line)
line_told Q cr held depth line =
    let kind = operand_kind Q line.operand in
    let by_row = row_has (nat_lt 0 depth) (nat_lt depth 16) cr held line.op line.modifier kind in
    let by_none = lacks (is_none (source_of Q line.operand)) in
    let called = called_kind Q line.operand in
    let by_arguments = arguments_have Q called (has_twins line.arguments) line.arguments in
    with_told (source_row Q cr held depth line (source_of Q line.operand)) (arguments_fault Q called [] line.arguments)
    ∙ ap (λ (o : Option TypeFault). first_fault o (arguments_fault Q called [] line.arguments)) (source_told Q cr held depth line (source_of Q line.operand)
    ∙ ap (λ (o : Option TypeFault). first_fault o (first_found by_none)) (row_told cr held depth line.op line.modifier.negated line.modifier.conditional line.modifier.opens kind)
    ∙ sym (first_either by_row by_none))
    ∙ ap (first_fault (first_found (λ f. by_row f || by_none f))) (arguments_told Q called [] line.arguments ∙ ap (λ (b : Bool). first_found (arguments_have Q called b line.arguments)) (twins line.arguments))
    ∙ sym (first_either (λ f. by_row f || by_none f) by_arguments)

-- only a label is told before all else
abbrev IsOfLabel : TypeFault → Type 0
IsOfLabel DuplicateLabel = Unit {0}
IsOfLabel Unbalanced = Unit {0}
IsOfLabel f = ⊥

of_label_by : (doubled within : Bool) (f : TypeFault) → cond doubled (Some DuplicateLabel) (cond within (Some Unbalanced) None) ≡ Some f → IsOfLabel f
of_label_by true within f e = subst IsOfLabel (some_is DuplicateLabel f e) tt
of_label_by false true f e = subst IsOfLabel (some_is Unbalanced f e) tt
of_label_by false false f e = absurd cc

of_label : (Q : Program) (n depth : ℕ) (label : Option (List ℕ)) (f : TypeFault) → label_row Q n depth label ≡ Err f → IsOfLabel f
of_label Q n depth label f e = of_label_by (is_doubled Q n label) (is_some label && nat_lt 0 depth) f (sym (label_told Q n depth label) ∙ ap fault_of e)

label_first : (f g : TypeFault) → IsOfLabel f → (g ≡ DuplicateLabel → ⊥) → nat_lt (fault_rank g) (fault_rank f) ≡ false
label_first DuplicateLabel g is other = le-ltb (fault_rank g) 0 (omega arith)
label_first Unbalanced DuplicateLabel is other = absurd (other refl)
label_first Unbalanced Unbalanced is other = refl
label_first Unbalanced TooDeep is other = refl
label_first Unbalanced UnknownLabel is other = refl
label_first Unbalanced BadField is other = refl
label_first Unbalanced NotWritable is other = refl
label_first Unbalanced NoCurrentResult is other = refl
label_first Unbalanced TypeMismatch is other = refl
label_first _ g is other = absurd is

then_told : {A : Type 0} (a : Result A TypeFault) (r : Result Effect TypeFault) (k : Effect → Shape) → ((f g : TypeFault) → a ≡ Err f → r ≡ Err g → nat_lt (fault_rank g) (fault_rank f) ≡ false)
    → fault_of (a >>= λ _. r >>= λ e. Ok (k e)) ≡ first_fault (fault_of a) (fault_of r)
then_told (Ok x) (Ok e) k h = refl
then_told (Ok x) (Err g) k h = refl
then_told (Err f) (Ok e) k h = refl
then_told (Err f) (Err g) k h = sym (ap (λ (b : Bool). Some (cond b g f)) (h f g refl refl))

-- no other fault is that of a doubled label
line_other : (Q : Program) (cr : Option Ty) (held : Option Held) (depth : ℕ) (line : Instr) (g : TypeFault) → line_row_of Q cr held depth line ≡ Err g → g ≡ DuplicateLabel → ⊥
line_other Q cr held depth line g e is =
    yes_no (line_has Q cr held depth line DuplicateLabel) (ap (line_has Q cr held depth line) (sym is) ∙ there_in (line_has Q cr held depth line) faults g (sym (line_told Q cr held depth line) ∙ ap fault_of e)) refl

open_or_not : (kept : List Held) → is_none (top_of kept) ≡ not (nat_lt 0 (length kept))
open_or_not [] = refl
open_or_not (held ∷ kept) = ap not (sym (lt-ltb 0 (length (held ∷ kept)) (omega arith)))

unbalanced_same : (label within leave close : Bool) → ((label && within) || ((((leave && within) || (close && not within)) || false) || false)) ≡ cond within (label || leave) close
unbalanced_same true true leave close = refl
unbalanced_same true false true true = refl
unbalanced_same true false true false = refl
unbalanced_same true false false true = refl
unbalanced_same true false false false = refl
unbalanced_same false true true close = refl
unbalanced_same false true false true = refl
unbalanced_same false true false false = refl
unbalanced_same false false true true = refl
unbalanced_same false false true false = refl
unbalanced_same false false false true = refl
unbalanced_same false false false false = refl

alone : (b : Bool) → ((b || false) || false) ≡ b
alone true = refl
alone false = refl

middle : (a b : Bool) → ((a || false) || b) ≡ (a || b)
middle true b = refl
middle false b = refl

same_applies : (Q : Program) (n : ℕ) (sh : Shape) (line : Instr) (f : TypeFault)
    → (label_has Q n (nat_lt 0 (length sh.kept)) line.label f || line_has Q sh.cr (top_of sh.kept) (length sh.kept) line f) ≡ applies Q n sh line f
same_applies Q n sh line DuplicateLabel = or_none (is_doubled Q n line.label)
same_applies Q n sh line Unbalanced =
    let within = nat_lt 0 (length sh.kept) in
    ap (λ (b : Bool). (is_some line.label && within) || ((((leaves line.op && within) || (is_closing line.op && b)) || false) || false)) (open_or_not sh.kept)
    ∙ unbalanced_same (is_some line.label) within (leaves line.op) (is_closing line.op)
same_applies Q n sh line TooDeep = alone (combines line.op && (line.modifier.opens && not (nat_lt (length sh.kept) 16)))
same_applies Q n sh line UnknownLabel = alone (is_jump line.op && not (is_target (operand_kind Q line.operand)))
same_applies Q n sh line BadField =
    middle ((has_operand line.op && is_no_field (operand_kind Q line.operand)) || (is_call line.op && not (is_instance (operand_kind Q line.operand))))
    (list_any (is_field_bad Q (called_kind Q line.operand)) line.arguments || has_twins line.arguments)
same_applies Q n sh line NotWritable = middle (writes line.op && not (may_be_written (operand_kind Q line.operand))) (list_any (is_unwritable Q) line.arguments)
same_applies Q n sh line NoCurrentResult = alone (needs_result line.op line.modifier.conditional && is_none sh.cr)
same_applies Q n sh line TypeMismatch = refl

after_told : (Q : Program) (n : ℕ) (sh : Shape) (line : Instr) → fault_of (after_line Q n sh line) ≡ first_found (applies Q n sh line)
after_told Q n sh line =
    let depth = length sh.kept in
    let by_label = label_has Q n (nat_lt 0 depth) line.label in
    let by_line = line_has Q sh.cr (top_of sh.kept) depth line in
    then_told (label_row Q n depth line.label) (line_row Q sh line) (λ e. shape_on_arrival Q (n + 1) (shape_after sh e))
    (λ f g a b. label_first f g (of_label Q n depth line.label f a) (line_other Q sh.cr (top_of sh.kept) depth line g b))
    ∙ ap (λ (o : Option TypeFault). first_fault o (fault_of (line_row Q sh line))) (label_told Q n depth line.label)
    ∙ ap (first_fault (first_found by_label)) (line_told Q sh.cr (top_of sh.kept) depth line)
    ∙ sym (first_either by_label by_line)
    ∙ same_in (λ f. by_label f || by_line f) (applies Q n sh line) (same_applies Q n sh line) faults

pub tells_the_first : (Q : Program) (n : ℕ) (sh : Shape) (line : Instr) → TellsFirst (applies Q n sh line) (after_line Q n sh line)
tells_the_first Q n sh line = tells (applies Q n sh line) (after_line Q n sh line) (after_told Q n sh line)
