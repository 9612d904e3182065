-- A program and its typed program.
use Rattle.std.proofs.Common.{◌≡◌, ℕ, zero, suc, ◌+◌, ◌-◌, ◌<◌, ◌≤◌, Bool, true, false, cond, List, [], ◌∷◌, length, Option, Some, None, Result, Ok, Err, refl, sym, ap, ◌∙◌, subst, arith}
use Rattle.std.specs.Prelude.{map, slice_get, nat_lt, ℤ, pos, negsuc, is_some, not, ◌^◌, ◌++◌, ◌||◌}
use Rattle.std.specs.List.{position, prefix_len, list_any, AllByRecursion}
use Rattle.std.proofs.lemmas.List.{length-map}
use Rattle.std.specs.Option.{option_map, option_and_then}
use Rattle.std.proofs.lemmas.Bool.{ltb-true, ltb-false, lt-ltb, le-ltb}
use Rattle.std.proofs.lemmas.Option.{slice_get_within, slice_get_past}
use Rattle.il_values.specs.declared.value.Ty.{Ty}
use Rattle.il_values.specs.declared.value.Ty.TheVariants as types
use Rattle.il_values.specs.declared.value.Value.{Value}
use Rattle.il_values.specs.declared.value.Value.TheVariants as values
use Rattle.il_values.specs.declared.op.Op.{Op}
use Rattle.il_values.specs.declared.op.Modifier.{Modifier}
use Rattle.il_model.specs.declared.program.Variable.{Variable}
use Rattle.il_model.specs.declared.program.Instance.{Instance}
use Rattle.il_model.specs.declared.program.Operand.{Operand}
use Rattle.il_model.specs.declared.program.Operand.TheVariants as operands
use Rattle.il_model.specs.declared.program.Argument.{Argument}
use Rattle.il_model.specs.declared.program.Side.{Side}
use Rattle.il_model.specs.declared.program.Side.TheVariants as sides
use Rattle.il_model.specs.declared.program.Instr.{Instr}
use Rattle.il_model.specs.declared.kind.BlockKind.{BlockKind}
use Rattle.il_model.specs.declared.kind.Field.{Field}
use Rattle.il_model.specs.declared.fetched.Source.{Source}
use Rattle.il_model.specs.declared.fetched.Source.TheVariants as sources
use Rattle.il_model.specs.declared.typing.TypeFault.{TypeFault}
use Rattle.il_model.specs.declared.typing.OperandKind.{OperandKind}
use Rattle.il_model.specs.declared.typing.OperandKind.TheVariants as kinds
use Rattle.il_model.specs.declared.typing.Held.{Held}
use Rattle.il_model.specs.declared.typing.Effect.{Effect}
use Rattle.il_model.specs.Program.{Program}
use Rattle.il_values.specs.Values.{ty_of, number_of, typed_value, bare_value, truth_made, is_within}
use Rattle.il_model.specs.Resolved.{has_label, target_of, source_of, place_of, instance_in, instance_number, field_in, field_of, called_kind, bears_label, is_labelled}
use Rattle.il_model.specs.Kinds.{any_field, field_type}
use Rattle.il_model.specs.Constants.{operand_literal}
use Rattle.il_model.specs.Row.{row}
use Rattle.il_values.proofs.RealValues.{real_is, bare_made}
use Rattle.il_values.proofs.BitValues.{bits_are}
use Rattle.il_model.proofs.RowTypes.{some_yes}
use Rattle.il_model.proofs.TypedLines.{bind_ok, ok_before, typed_line, sourced, fault_none, IsArgumentOf, arguments_typed, no_arguments, is_among}
use Rattle.il_model.proofs.ArgumentFaults.{literal_by}
use Rattle.il_model.proofs.Loop.{goes_at, fails_at}
use Rattle.il_model.proofs.Judged.{arrives, arrived, is_typed, faultless}
use Rattle.il_model.specs.Typing.{Shape, kind_field}
use Rattle.il_model.specs.Checking.{◌>>=◌, source_kind, missing_kind, operand_kind, source_row, goes_so, passing_fault, first_fault, field_fault, argument_fault, arguments_fault, with_fault, line_row, label_at, label_row, shape_after, after_line, after_at, with_number, shape_at, typing_end, judgement_of, top_of, HasNoTypeFault}
use Rattle.il_model.specs.Settled.{wanted_type, settled_number, settled_as, settled_operand, settled_passing, settled_argument, settled_line, settled_nth, settled_on_arrival, settled_before, settled_text, if_typed, typed_program_of, is_bare, has_bare, HasNoBare, Settles, AreSettled, SettlesLine, IsSettling, IsTypedProgramOf}

-- ---- programs with the same declarations and labels

abbrev pub labels_of : List Instr → List (Option (List ℕ))
labels_of code = map (λ (line : Instr). line.label) code

pub record Alike (P Q : Program) : Type 0 where
  pub variables : Q.variables ≡ P.variables
  pub instances : Q.instances ≡ P.instances
  pub labels : labels_of Q.code ≡ labels_of P.code

firsts_alike : (name : List ℕ) (xs ys : List Instr) → labels_of xs ≡ labels_of ys → prefix_len (λ (x : Instr). not (has_label name x)) xs ≡ prefix_len (λ (x : Instr). not (has_label name x)) ys
firsts_alike name [] [] e = refl
firsts_alike name [] (y ∷ ys) e = absurd cc
firsts_alike name (x ∷ xs) [] e = absurd cc
firsts_alike name (x ∷ xs) (y ∷ ys) e =
    let head : x.label ≡ y.label = cc in
    let tail : prefix_len (λ (x : Instr). not (has_label name x)) xs ≡ prefix_len (λ (x : Instr). not (has_label name x)) ys = firsts_alike name xs ys (cc) in
    ap (λ (o : Option (List ℕ)). cond (not (has_label name (record x { label = o }))) (1 + prefix_len (λ (x : Instr). not (has_label name x)) xs) 0) head
    ∙ ap (λ (k : ℕ). cond (not (has_label name y)) (1 + k) 0) tail

lengths_alike : (xs ys : List Instr) → labels_of xs ≡ labels_of ys → length xs ≡ length ys
lengths_alike xs ys e = sym (length-map xs (λ (line : Instr). line.label)) ∙ ap length e ∙ length-map ys (λ (line : Instr). line.label)

targets_alike : (name : List ℕ) (xs ys : List Instr) → labels_of xs ≡ labels_of ys → position (has_label name) xs ≡ position (has_label name) ys
targets_alike name xs ys e = ap (λ (k : ℕ). cond (nat_lt k (length xs)) (Some k) None) (firsts_alike name xs ys e) ∙ ap (λ (n : ℕ). cond (nat_lt (prefix_len (λ (x : Instr). not (has_label name x)) ys) n) (Some (prefix_len (λ (x : Instr). not (has_label name x)) ys)) None) (lengths_alike xs ys e)

pub target_alike : (P Q : Program) (name : List ℕ) → Alike P Q → target_of Q name ≡ target_of P name
target_alike P Q name e = targets_alike name Q.code P.code e.labels

labels_at : (n : ℕ) (xs ys : List Instr) → labels_of xs ≡ labels_of ys → bears_label (slice_get xs n) ≡ bears_label (slice_get ys n)
labels_at n [] [] e = refl
labels_at n [] (y ∷ ys) e = absurd cc
labels_at n (x ∷ xs) [] e = absurd cc
labels_at zero (x ∷ xs) (y ∷ ys) e = let head : x.label ≡ y.label = cc in ap is_some head
labels_at (suc n) (x ∷ xs) (y ∷ ys) e = labels_at n xs ys (cc)

labelled_alike : (P Q : Program) (n : ℕ) → Alike P Q → is_labelled Q n ≡ is_labelled P n
labelled_alike P Q n e = labels_at n Q.code P.code e.labels

abbrev declaring : List Variable → List Instance → Program
declaring vs xs = record { variables = vs; instances = xs; code = [] }

place_alike : (P Q : Program) (name : List ℕ) → Alike P Q → place_of Q name ≡ place_of P name
place_alike P Q name e = ap (λ (vs : List Variable). place_of (declaring vs []) name) e.variables

field_alike : (P Q : Program) (name field : List ℕ) → Alike P Q → field_of Q name field ≡ field_of P name field
field_alike P Q name field e = ap (λ (xs : List Instance). field_in xs name field) e.instances

instance_alike : (P Q : Program) (name : List ℕ) → Alike P Q → instance_number Q name ≡ instance_number P name
instance_alike P Q name e = ap (λ (xs : List Instance). instance_in xs name) e.instances

source_alike : (P Q : Program) (operand : Operand) → Alike P Q → source_of Q operand ≡ source_of P operand
source_alike P Q operands.Absent e = refl
source_alike P Q (operands.Literal v) e = refl
source_alike P Q (operands.Bare z) e = refl
source_alike P Q (operands.Variable name) e = ap (option_map sources.Of) (place_alike P Q name e)
source_alike P Q (operands.Direct loc) e = refl
source_alike P Q (operands.Label name) e = ap (option_map sources.Target) (target_alike P Q name e)
source_alike P Q (operands.Field name field) e = ap (option_map sources.Of) (field_alike P Q name field e)
source_alike P Q (operands.Instance name) e = ap (option_map sources.Instance) (instance_alike P Q name e)

called_alike : (P Q : Program) (operand : Operand) → Alike P Q → called_kind Q operand ≡ called_kind P operand
called_alike P Q operand e = ap (λ (xs : List Instance). called_kind (declaring [] xs) operand) e.instances

kind_alike : (P Q : Program) (src : Source) → Alike P Q → source_kind Q src ≡ source_kind P src
kind_alike P Q src e =
    ap (λ (vs : List Variable). source_kind (declaring vs Q.instances) src) e.variables
    ∙ ap (λ (xs : List Instance). source_kind (declaring P.variables xs) src) e.instances

source_row_alike : (P Q : Program) (cr : Option Ty) (top : Option Held) (depth : ℕ) (line : Instr) (o : Option Source) → Alike P Q → source_row Q cr top depth line o ≡ source_row P cr top depth line o
source_row_alike P Q cr top depth line (Some src) e = ap (row cr top depth line.op line.modifier) (kind_alike P Q src e)
source_row_alike P Q cr top depth line None e = refl

abbrev kind_by : Program → Operand → Option Source → OperandKind
kind_by Q operand o = elim o [ Some src ↦ source_kind Q src | None ↦ missing_kind operand ]

kind_by_alike : (P Q : Program) (operand : Operand) (o : Option Source) → Alike P Q → kind_by Q operand o ≡ kind_by P operand o
kind_by_alike P Q operand (Some src) e = kind_alike P Q src e
kind_by_alike P Q operand None e = refl

operand_kind_alike : (P Q : Program) (operand : Operand) → Alike P Q → operand_kind Q operand ≡ operand_kind P operand
operand_kind_alike P Q operand e = ap (kind_by Q operand) (source_alike P Q operand e) ∙ kind_by_alike P Q operand (source_of P operand) e

field_fault_alike : (P Q : Program) (a : Argument) (field : Option Field) → Alike P Q → field_fault Q a field ≡ field_fault P a field
field_fault_alike P Q a None e = refl
field_fault_alike P Q a (Some field) e = ap (λ (kind : OperandKind). cond (goes_so a.side field) (passing_fault a.side (field_type field) kind) (Some TypeFault.BadField)) (operand_kind_alike P Q a.operand e)

argument_alike : (P Q : Program) (kind : Option BlockKind) (seen : List Argument) (a : Argument) → Alike P Q → argument_fault Q kind seen a ≡ argument_fault P kind seen a
argument_alike P Q None seen a e = refl
argument_alike P Q (Some k) seen a e = ap (cond (is_among seen a) (Some TypeFault.BadField)) (field_fault_alike P Q a (kind_field k a.field) e)

arguments_alike : (P Q : Program) (kind : Option BlockKind) (seen args : List Argument) → Alike P Q → arguments_fault Q kind seen args ≡ arguments_fault P kind seen args
arguments_alike P Q kind seen [] e = refl
arguments_alike P Q kind seen (a ∷ args) e =
    ap (λ (o : Option TypeFault). first_fault o (arguments_fault Q kind (seen ++ a ∷ []) args)) (argument_alike P Q kind seen a e)
    ∙ ap (first_fault (argument_fault P kind seen a)) (arguments_alike P Q kind (seen ++ a ∷ []) args e)

line_row_alike : (P Q : Program) (sh : Shape) (line : Instr) → Alike P Q → line_row Q sh line ≡ line_row P sh line
line_row_alike P Q sh line e =
    let top = top_of sh.kept in
    let depth = length sh.kept in
    ap (λ (o : Option Source). with_fault (source_row Q sh.cr top depth line o) (arguments_fault Q (called_kind Q line.operand) [] line.arguments)) (source_alike P Q line.operand e)
    ∙ ap (λ (r : Result Effect TypeFault). with_fault r (arguments_fault Q (called_kind Q line.operand) [] line.arguments)) (source_row_alike P Q sh.cr top depth line (source_of P line.operand) e)
    ∙ ap (λ (kind : Option BlockKind). with_fault (source_row P sh.cr top depth line (source_of P line.operand)) (arguments_fault Q kind [] line.arguments)) (called_alike P Q line.operand e)
    ∙ ap (with_fault (source_row P sh.cr top depth line (source_of P line.operand))) (arguments_alike P Q (called_kind P line.operand) [] line.arguments e)

label_row_alike : (P Q : Program) (n depth : ℕ) (label : Option (List ℕ)) → Alike P Q → label_row Q n depth label ≡ label_row P n depth label
label_row_alike P Q n depth None e = refl
label_row_alike P Q n depth (Some name) e = ap (λ (o : Option ℕ). label_at o n depth) (target_alike P Q name e)

abbrev after_rows : Shape → Result (Unit {0}) TypeFault → Result Effect TypeFault → Bool → Result Shape TypeFault
after_rows sh a b here = a >>= λ _. b >>= λ e. Ok (cond here (record (shape_after sh e) { cr = None }) (shape_after sh e))

pub after_alike : (P Q : Program) (n : ℕ) (sh : Shape) (line : Instr) → Alike P Q → after_line Q n sh line ≡ after_line P n sh line
after_alike P Q n sh line e =
    ap (λ (a : Result (Unit {0}) TypeFault). after_rows sh a (line_row Q sh line) (is_labelled Q (n + 1))) (label_row_alike P Q n (length sh.kept) line.label e)
    ∙ ap (λ (b : Result Effect TypeFault). after_rows sh (label_row P n (length sh.kept) line.label) b (is_labelled Q (n + 1))) (line_row_alike P Q sh line e)
    ∙ ap (after_rows sh (label_row P n (length sh.kept) line.label) (line_row P sh line)) (labelled_alike P Q (n + 1) e)

after_at_alike : (P Q : Program) (n : ℕ) (sh : Shape) (o : Option Instr) → Alike P Q → after_at Q n sh o ≡ after_at P n sh o
after_at_alike P Q n sh (Some line) e = ap (with_number n) (after_alike P Q n sh line e)
after_at_alike P Q n sh None e = refl

turn_alike : (P Q : Program) (n : ℕ) (r : Result Shape (TypeFault × ℕ)) (a b : Option Instr) → a ≡ b → Alike P Q → (r >>= λ sh. after_at Q n sh a) ≡ (r >>= λ sh. after_at P n sh b)
turn_alike P Q n (Ok sh) a b is e = ap (after_at Q n sh) is ∙ after_at_alike P Q n sh b e
turn_alike P Q n (Err f) a b is e = refl

-- where the instructions before a position are the same, so are the types on arrival
shapes_alike : (P Q : Program) (n : ℕ) → Alike P Q → ((k : ℕ) → k < n → slice_get Q.code k ≡ slice_get P.code k) → shape_at Q n ≡ shape_at P n
shapes_alike P Q zero e same = ap (λ (b : Bool). let r : Result Shape (TypeFault × ℕ) = Ok (cond b (record { cr = None; kept = [] }) (record { cr = None; kept = [] })) in r) (labelled_alike P Q 0 e)
shapes_alike P Q (suc n) e same =
    ap (λ (r : Result Shape (TypeFault × ℕ)). r >>= λ sh. after_at Q n sh (slice_get Q.code n)) (shapes_alike P Q n e (λ k lt. same k (omega arith)))
    ∙ turn_alike P Q n (shape_at P n) (slice_get Q.code n) (slice_get P.code n) (same n (omega arith)) e

-- ---- settling one instruction changes no other, and no label

nth_labels : (cr : Option Ty) (n : ℕ) (code : List Instr) → labels_of (settled_nth cr n code) ≡ labels_of code
nth_labels cr n [] = refl
nth_labels cr zero (line ∷ code) = refl
nth_labels cr (suc n) (line ∷ code) = ap (λ (ls : List (Option (List ℕ))). line.label ∷ ls) (nth_labels cr n code)

nth_other : (cr : Option Ty) (n k : ℕ) (code : List Instr) → (k ≡ n → ⊥) → slice_get (settled_nth cr n code) k ≡ slice_get code k
nth_other cr n k [] ne = refl
nth_other cr zero zero (line ∷ code) ne = absurd (ne refl)
nth_other cr zero (suc k) (line ∷ code) ne = refl
nth_other cr (suc n) zero (line ∷ code) ne = refl
nth_other cr (suc n) (suc k) (line ∷ code) ne = nth_other cr n k code (λ e. ne (ap suc e))

nth_own : (cr : Option Ty) (n : ℕ) (code : List Instr) → slice_get (settled_nth cr n code) n ≡ option_map (settled_line cr) (slice_get code n)
nth_own cr n [] = refl
nth_own cr zero (line ∷ code) = refl
nth_own cr (suc n) (line ∷ code) = nth_own cr n code

arrival_other : (Q : Program) (n k : ℕ) (r : Result Shape (TypeFault × ℕ)) → (k ≡ n → ⊥) → slice_get (settled_on_arrival Q n r).code k ≡ slice_get Q.code k
arrival_other Q n k (Ok sh) ne = nth_other sh.cr n k Q.code ne
arrival_other Q n k (Err f) ne = refl

arrival_alike : (P Q : Program) (n : ℕ) (r : Result Shape (TypeFault × ℕ)) → Alike P Q → Alike P (settled_on_arrival Q n r)
arrival_alike P Q n (Ok sh) e = record { variables = e.variables; instances = e.instances; labels = nth_labels sh.cr n Q.code ∙ e.labels }
arrival_alike P Q n (Err f) e = e

-- ---- a program settled before a position

before_alike : (P : Program) (n : ℕ) → Alike P (settled_before P n)
before_alike P zero = record { variables = refl; instances = refl; labels = refl }
before_alike P (suc n) = arrival_alike P (settled_before P n) n (shape_at (settled_before P n) n) (before_alike P n)

before_past : (P : Program) (n k : ℕ) → n ≤ k → slice_get (settled_before P n).code k ≡ slice_get P.code k
before_past P zero k le = refl
before_past P (suc n) k le = arrival_other (settled_before P n) n k (shape_at (settled_before P n) n) (λ e. absurd (omega (arith, e))) ∙ before_past P n k (omega arith)

before_kept : (P : Program) (d n k : ℕ) → k < n → slice_get (settled_before P (d + n)).code k ≡ slice_get (settled_before P n).code k
before_kept P zero n k lt = let is : 0 + n ≡ n = omega arith in ap (λ (m : ℕ). slice_get (settled_before P m).code k) is
before_kept P (suc d) n k lt =
    let is : suc d + n ≡ suc (d + n) = omega arith in
    ap (λ (m : ℕ). slice_get (settled_before P m).code k) is
    ∙ arrival_other (settled_before P (d + n)) (d + n) k (shape_at (settled_before P (d + n)) (d + n)) (λ e. absurd (omega (arith, e)))
    ∙ before_kept P d n k lt

text_kept : (P : Program) (n k : ℕ) → n ≤ length P.code → k < n → slice_get (settled_text P).code k ≡ slice_get (settled_before P n).code k
text_kept P n k le lt =
    let is : length P.code ≡ (length P.code - n) + n = omega arith in
    ap (λ (m : ℕ). slice_get (settled_before P m).code k) is ∙ before_kept P (length P.code - n) n k lt

pub text_alike : (P : Program) → Alike P (settled_text P)
text_alike P = before_alike P (length P.code)

pub text_count : (P : Program) → length (settled_text P).code ≡ length P.code
text_count P = lengths_alike (settled_text P).code P.code (text_alike P).labels

-- the types on arrival at a position hang on what stands before it
text_shape : (P : Program) (n : ℕ) → n ≤ length P.code → shape_at (settled_text P) n ≡ shape_at (settled_before P n) n
text_shape P n le =
    let a = text_alike P in
    let b = before_alike P n in
    shapes_alike (settled_before P n) (settled_text P) n (record { variables = a.variables ∙ sym b.variables; instances = a.instances ∙ sym b.instances; labels = a.labels ∙ sym b.labels }) (λ k lt. text_kept P n k le lt)

arrival_own : (Q : Program) (n : ℕ) (r : Result Shape (TypeFault × ℕ)) (sh : Shape) → r ≡ Ok sh → slice_get (settled_on_arrival Q n r).code n ≡ option_map (settled_line sh.cr) (slice_get Q.code n)
arrival_own Q n (Ok s) sh e = let is : s ≡ sh = cc in nth_own s.cr n Q.code ∙ ap (λ (x : Shape). option_map (settled_line x.cr) (slice_get Q.code n)) is
arrival_own Q n (Err f) sh e = absurd cc

text_within : (P : Program) (n : ℕ) (sh : Shape) → n < length P.code → shape_at (settled_text P) n ≡ Ok sh → slice_get (settled_text P).code n ≡ option_map (settled_line sh.cr) (slice_get P.code n)
text_within P n sh lt at =
    text_kept P (suc n) n (omega arith) (omega arith)
    ∙ arrival_own (settled_before P n) n (shape_at (settled_before P n) n) sh (sym (text_shape P n (omega arith)) ∙ at)
    ∙ ap (option_map (settled_line sh.cr)) (before_past P n n (omega arith))

pub text_arrival : (P : Program) (n : ℕ) (sh : Shape) → shape_at (settled_text P) n ≡ Ok sh → slice_get (settled_text P).code n ≡ option_map (settled_line sh.cr) (slice_get P.code n)
text_arrival P n sh at =
    elim (nat_lt n (length P.code)) as (λ v. nat_lt n (length P.code) ≡ v → slice_get (settled_text P).code n ≡ option_map (settled_line sh.cr) (slice_get P.code n)) [
      | true ↦ λ h. text_within P n sh (ltb-true n (length P.code) h) at
      | false ↦ λ h.
          let le : length P.code ≤ n = ltb-false n (length P.code) h in
          slice_get_past (settled_text P).code n (omega (arith, text_count P)) ∙ sym (ap (option_map (settled_line sh.cr)) (slice_get_past P.code n le))
    ] refl

-- ---- the literal that a settled operand is

-- an operand that is no literal then was none before, and is as it was
pub settled_none : (cr : Option Ty) (op : Op) (m : Modifier) (o : Operand) → operand_literal (settled_operand cr op m o) ≡ None → settled_operand cr op m o ≡ o
settled_none cr op m operands.Absent e = refl
settled_none cr op m (operands.Literal v) e = refl
settled_none cr op m (operands.Bare z) e = literal_by z (settled_number cr op m.opens z) e
settled_none cr op m (operands.Variable name) e = refl
settled_none cr op m (operands.Direct loc) e = refl
settled_none cr op m (operands.Label name) e = refl
settled_none cr op m (operands.Field name field) e = refl
settled_none cr op m (operands.Instance name) e = refl

pub literal_is : (o : Operand) (v : Value) → operand_literal o ≡ Some v → o ≡ operands.Literal v
literal_is operands.Absent v e = absurd cc
literal_is (operands.Literal w) v e = let is : w ≡ v = cc in ap operands.Literal is
literal_is (operands.Bare z) v e = absurd cc
literal_is (operands.Variable name) v e = absurd cc
literal_is (operands.Direct loc) v e = absurd cc
literal_is (operands.Label name) v e = absurd cc
literal_is (operands.Field name field) v e = absurd cc
literal_is (operands.Instance name) v e = absurd cc

called_by : (Q : Program) (z : ℤ) (o : Option Value) → called_kind Q (settled_as z o) ≡ None
called_by Q z (Some v) = refl
called_by Q z None = refl

-- a settled operand calls what it called before
pub called_settled : (Q : Program) (cr : Option Ty) (op : Op) (m : Modifier) (o : Operand) → called_kind Q (settled_operand cr op m o) ≡ called_kind Q o
called_settled Q cr op m operands.Absent = refl
called_settled Q cr op m (operands.Literal v) = refl
called_settled Q cr op m (operands.Bare z) = called_by Q z (settled_number cr op m.opens z)
called_settled Q cr op m (operands.Variable name) = refl
called_settled Q cr op m (operands.Direct loc) = refl
called_settled Q cr op m (operands.Label name) = refl
called_settled Q cr op m (operands.Field name field) = refl
called_settled Q cr op m (operands.Instance name) = refl

-- the row of an instruction with another operand, whatever its arguments
abbrev operand_row : Program → Option Ty → Option Held → ℕ → Instr → Operand → Result Effect TypeFault
operand_row Q cr top depth line o = source_row Q cr top depth (record line { operand = o }) (source_of Q o)

pub literal_row : (Q : Program) (cr : Option Ty) (top : Option Held) (depth : ℕ) (line : Instr) (v : Value) → operand_literal (settled_operand cr line.op line.modifier line.operand) ≡ Some v
    → source_row Q cr top depth (settled_line cr line) (source_of Q (settled_line cr line).operand) ≡ row cr top depth line.op line.modifier (kinds.Typed (ty_of v) false)
literal_row Q cr top depth line v e = ap (operand_row Q cr top depth line) (literal_is (settled_operand cr line.op line.modifier line.operand) v e)

pub other_row : (Q : Program) (cr : Option Ty) (top : Option Held) (depth : ℕ) (line : Instr) → operand_literal (settled_operand cr line.op line.modifier line.operand) ≡ None
    → source_row Q cr top depth (settled_line cr line) (source_of Q (settled_line cr line).operand) ≡ source_row Q cr top depth line (source_of Q line.operand)
other_row Q cr top depth line e = ap (operand_row Q cr top depth line) (settled_none cr line.op line.modifier line.operand e)

-- ---- going over the instructions

-- the typed program's instruction
pub here_settled : (P : Program) (n : ℕ) (sh : Shape) (line : Instr) → shape_at (settled_text P) n ≡ Ok sh → slice_get P.code n ≡ Some line → slice_get (settled_text P).code n ≡ Some (settled_line sh.cr line)
here_settled P n sh line at here = text_arrival P n sh at ∙ ap (option_map (settled_line sh.cr)) here

pub goes_settled : (P : Program) (n : ℕ) (sh sh' : Shape) (line : Instr) → shape_at (settled_text P) n ≡ Ok sh → slice_get P.code n ≡ Some line → after_line P n sh (settled_line sh.cr line) ≡ Ok sh' → shape_at (settled_text P) (n + 1) ≡ Ok sh'
goes_settled P n sh sh' line at here h =
    goes_at (settled_text P) n sh sh' (settled_line sh.cr line) at (here_settled P n sh line at here) (after_alike P (settled_text P) n sh (settled_line sh.cr line) (text_alike P) ∙ h)

pub fails_settled : (P : Program) (n : ℕ) (sh : Shape) (line : Instr) (fault : TypeFault) → n < length P.code → shape_at (settled_text P) n ≡ Ok sh → slice_get P.code n ≡ Some line → after_line P n sh (settled_line sh.cr line) ≡ Err fault → typed_program_of P ≡ Err (fault, n)
fails_settled P n sh line fault lt at here h =
    let one = fails_at (settled_text P) n sh (settled_line sh.cr line) fault (omega (arith, text_count P)) at (here_settled P n sh line at here) (after_alike P (settled_text P) n sh (settled_line sh.cr line) (text_alike P) ∙ h) in
    ap (λ (r : Result (Unit {0}) (TypeFault × ℕ)). r >>= λ _. Ok (settled_text P)) (sym one)

ends_judged : (P : Program) (sh : Shape) → shape_at (settled_text P) (length P.code) ≡ Ok sh → judgement_of (settled_text P) ≡ typing_end (settled_text P) sh
ends_judged P sh at = ap (λ (k : ℕ). shape_at (settled_text P) k >>= typing_end (settled_text P)) (text_count P) ∙ ap (λ (r : Result Shape (TypeFault × ℕ)). r >>= typing_end (settled_text P)) at

pub stays_open : (P : Program) (sh : Shape) → shape_at (settled_text P) (length P.code) ≡ Ok sh → 0 < length sh.kept → typed_program_of P ≡ Err (TypeFault.Unbalanced, length P.code)
stays_open P sh at lt =
    let open_end : typing_end (settled_text P) sh ≡ Err (TypeFault.Unbalanced, length (settled_text P).code) = ap (λ (b : Bool). let r : Result (Unit {0}) (TypeFault × ℕ) = cond b (Err (TypeFault.Unbalanced, length (settled_text P).code)) (Ok tt) in r) (lt-ltb 0 (length sh.kept) lt) in
    ap (λ (r : Result (Unit {0}) (TypeFault × ℕ)). r >>= λ _. Ok (settled_text P)) (ends_judged P sh at ∙ open_end)
    ∙ ap (λ (k : ℕ). let r : Result Program (TypeFault × ℕ) = Err (TypeFault.Unbalanced, k) in r) (text_count P)

pub ends_settled : (P : Program) (sh : Shape) → shape_at (settled_text P) (length P.code) ≡ Ok sh → length sh.kept ≤ 0 → typed_program_of P ≡ Ok (settled_text P)
ends_settled P sh at le =
    let closed_end : typing_end (settled_text P) sh ≡ Ok tt = ap (λ (b : Bool). let r : Result (Unit {0}) (TypeFault × ℕ) = cond b (Err (TypeFault.Unbalanced, length (settled_text P).code)) (Ok tt) in r) (le-ltb 0 (length sh.kept) le) in
    ap (λ (r : Result (Unit {0}) (TypeFault × ℕ)). r >>= λ _. Ok (settled_text P)) (ends_judged P sh at ∙ closed_end)

-- ---- what holds of a typed program

truth_by : (a b : Bool) (n : ℕ) (v : Value) → nat_lt n 1 ≡ a → nat_lt n 2 ≡ b → cond a (Some (values.Bool false)) (cond b (Some (values.Bool true)) None) ≡ Some v → number_of v ≡ pos n
truth_by true b n v e f h = let is : values.Bool false ≡ v = cc in let lt : n < 1 = ltb-true n 1 e in let z : 0 ≡ n = omega arith in sym (ap number_of is) ∙ ap pos z
truth_by false true n v e f h = let is : values.Bool true ≡ v = cc in let lt : n < 2 = ltb-true n 2 f in let le : 1 ≤ n = ltb-false n 1 e in let z : 1 ≡ n = omega arith in sym (ap number_of is) ∙ ap pos z
truth_by false false n v e f h = absurd cc

truth_number_is : (z : ℤ) (v : Value) → truth_made z ≡ Some v → number_of v ≡ z
truth_number_is (pos n) v e = truth_by (nat_lt n 1) (nat_lt n 2) n v refl refl e
truth_number_is (negsuc n) v e = absurd cc

pub made_number : (t : Ty) (z : ℤ) (v : Value) → typed_value t z ≡ Some v → number_of v ≡ z
made_number types.Bool z v e = truth_number_is z v e
made_number types.Int z v e = sym (ap number_of (some_yes (is_within (2 ^ 15) z) (values.Int z) v e).1)
made_number types.Dint z v e = sym (ap number_of (some_yes (is_within (2 ^ 31) z) (values.Dint z) v e).1)
made_number types.Lint z v e = sym (ap number_of (some_yes (is_within (2 ^ 63) z) (values.Lint z) v e).1)
made_number types.Time z v e = sym (ap number_of (some_yes (is_within (2 ^ 31) z) (values.Time z) v e).1)
made_number types.Real z v e = let m = real_is z v e in sym (ap number_of m.1) ∙ m.2
made_number types.Word z v e = let m = bits_are (2 ^ 16) values.Word z v e in sym (ap number_of m.is) ∙ m.number
made_number types.Dword z v e = let m = bits_are (2 ^ 32) values.Dword z v e in sym (ap number_of m.is) ∙ m.number

wanted_number : (w : Option Ty) (z : ℤ) (v : Value) → option_and_then (λ (t : Ty). bare_value t z) w ≡ Some v → number_of v ≡ z
wanted_number (Some t) z v e = made_number t z v (bare_made t z v e)
wanted_number None z v e = absurd cc

settles_by : (z : ℤ) (x : Option Value) → ((v : Value) → x ≡ Some v → number_of v ≡ z) → is_bare (settled_as z x) ≡ false → Settles (operands.Bare z) (settled_as z x)
settles_by z (Some v) is e = (v, refl, is v refl)
settles_by z None is e = absurd cc

settles : (cr : Option Ty) (op : Op) (m : Modifier) (o : Operand) → is_bare (settled_operand cr op m o) ≡ false → Settles o (settled_operand cr op m o)
settles cr op m operands.Absent e = refl
settles cr op m (operands.Literal v) e = refl
settles cr op m (operands.Bare z) e = settles_by z (settled_number cr op m.opens z) (λ v is. wanted_number (wanted_type cr op m.opens z) z v is) e
settles cr op m (operands.Variable name) e = refl
settles cr op m (operands.Direct loc) e = refl
settles cr op m (operands.Label name) e = refl
settles cr op m (operands.Field name field) e = refl
settles cr op m (operands.Instance name) e = refl

sourced_plain : (Q : Program) (o : Operand) (src : Source) → source_of Q o ≡ Some src → is_bare o ≡ false
sourced_plain Q operands.Absent src e = refl
sourced_plain Q (operands.Literal v) src e = refl
sourced_plain Q (operands.Bare z) src e = absurd cc
sourced_plain Q (operands.Variable name) src e = refl
sourced_plain Q (operands.Direct loc) src e = refl
sourced_plain Q (operands.Label name) src e = refl
sourced_plain Q (operands.Field name field) src e = refl
sourced_plain Q (operands.Instance name) src e = refl

or_no : (a b : Bool) → (a || b) ≡ false → (a ≡ false) × (b ≡ false)
or_no true b e = absurd cc
or_no false b e = (refl, e)

no_or : (a b : Bool) → a ≡ false → b ≡ false → (a || b) ≡ false
no_or true b e f = absurd cc
no_or false b e f = f

abbrev have_bare : List Argument → Bool
have_bare args = list_any (λ (a : Argument). is_bare a.operand) args

called_plain : (Q : Program) (k : BlockKind) (args : List Argument) → AllByRecursion (IsArgumentOf Q k) args → have_bare args ≡ false
called_plain Q k [] all = refl
called_plain Q k (a ∷ args) all = no_or (is_bare a.operand) (have_bare args) (sourced_plain Q a.operand all.0.source all.0.sourced) (called_plain Q k args all.1)

arguments_plain : (Q : Program) (kind : Option BlockKind) (args : List Argument) → arguments_fault Q kind [] args ≡ None → have_bare args ≡ false
arguments_plain Q None args e = ap have_bare (no_arguments Q [] args e)
arguments_plain Q (Some k) args e = called_plain Q k args (arguments_typed Q k [] args e)

settles_itself : (o : Operand) → is_bare o ≡ false → Settles o o
settles_itself operands.Absent e = refl
settles_itself (operands.Literal v) e = refl
settles_itself (operands.Bare z) e = absurd cc
settles_itself (operands.Variable name) e = refl
settles_itself (operands.Direct loc) e = refl
settles_itself (operands.Label name) e = refl
settles_itself (operands.Field name field) e = refl
settles_itself (operands.Instance name) e = refl

settles_passing : (side : Side) (field : Option Field) (o : Operand) → is_bare (settled_passing side field o) ≡ false → Settles o (settled_passing side field o)
settles_passing sides.Output field o e = settles_itself o e
settles_passing sides.Input None o e = settles_itself o e
settles_passing sides.Input (Some field) operands.Absent e = refl
settles_passing sides.Input (Some field) (operands.Literal v) e = refl
settles_passing sides.Input (Some field) (operands.Bare z) e = settles_by z (typed_value (field_type field) z) (λ v is. made_number (field_type field) z v is) e
settles_passing sides.Input (Some field) (operands.Variable name) e = refl
settles_passing sides.Input (Some field) (operands.Direct loc) e = refl
settles_passing sides.Input (Some field) (operands.Label name) e = refl
settles_passing sides.Input (Some field) (operands.Field name other) e = refl
settles_passing sides.Input (Some field) (operands.Instance name) e = refl

are_settled : (args : List Argument) → have_bare (map settled_argument args) ≡ false → AreSettled args (map settled_argument args)
are_settled [] e = tt
are_settled (a ∷ args) e =
    let both = or_no (is_bare (settled_argument a).operand) (have_bare (map settled_argument args)) e in
    (refl, refl, settles_passing a.side (any_field a.field) a.operand both.0, are_settled args both.1)

settles_line : (cr : Option Ty) (line : Instr) → has_bare (settled_line cr line) ≡ false → SettlesLine line (settled_line cr line)
settles_line cr line e =
    let both = or_no (is_bare (settled_line cr line).operand) (have_bare (settled_line cr line).arguments) e in
    record { label = refl; op = refl; modifier = refl; operand = settles cr line.op line.modifier line.operand both.0; arguments = are_settled line.arguments both.1 }

shape_within : (Q : Program) → HasNoTypeFault Q → (n : ℕ) → n ≤ length Q.code → (sh : Shape) × (shape_at Q n ≡ Ok sh)
shape_within Q typed n le = let all = bind_ok (shape_at Q (length Q.code)) (typing_end Q) tt typed in ok_before Q (length Q.code) all.0 all.1 n le

-- a typed program has no bare number
pub typed_plain : (Q : Program) → HasNoTypeFault Q → HasNoBare Q
typed_plain Q typed n line here =
    let lt = slice_get_within Q.code n line here in
    let at = shape_within Q typed n (omega arith) in
    let is = typed_line Q typed n at.0 line lt at.1 here in
    let row = fault_none (source_row Q at.0.cr (top_of at.0.kept) (length at.0.kept) line (source_of Q line.operand)) (arguments_fault Q (called_kind Q line.operand) [] line.arguments) is.effect is.row in
    let src = sourced Q at.0.cr (top_of at.0.kept) (length at.0.kept) line (source_of Q line.operand) is.effect row.0 in
    no_or (is_bare line.operand) (have_bare line.arguments) (sourced_plain Q line.operand src.0 src.1) (arguments_plain Q (called_kind Q line.operand) line.arguments row.1)

-- a typed program is that of which it is the typed program, but for bare numbers
pub is_settling : (P Q : Program) → IsTypedProgramOf P Q → IsSettling P Q
is_settling P Q is = record { variables = is.variables; instances = is.instances; count = is.count; lines = each }
  where
    each : (n : ℕ) (line : Instr) → slice_get P.code n ≡ Some line → (q : Instr) × SettlesLine line q × (slice_get Q.code n ≡ Some q)
    each n line here =
        let fine = faultless Q is.typed in
        let le : n ≤ length Q.code = omega (arith, slice_get_within P.code n line here, is.count) in
        let at = shape_within Q fine n le in
        let there : slice_get Q.code n ≡ Some (settled_line at.0.cr line) = is.placed n at.0 (arrives Q n at.0 le at.1) ∙ ap (option_map (settled_line at.0.cr)) here in
        (settled_line at.0.cr line, settles_line at.0.cr line (typed_plain Q fine n (settled_line at.0.cr line) there), there)

text_typed : (P : Program) → HasNoTypeFault (settled_text P) → IsTypedProgramOf P (settled_text P)
text_typed P typed = record {
  typed = is_typed (settled_text P) typed;
  variables = (text_alike P).variables;
  instances = (text_alike P).instances;
  count = text_count P;
  placed = λ n sh at. text_arrival P n sh (arrived (settled_text P) n sh at);
}

text_is : (P Q : Program) → (let r : Result Program (TypeFault × ℕ) = Ok P in r) ≡ Ok Q → P ≡ Q
text_is P Q e = cc

-- the typed program of a program is typed, and otherwise the same
pub typed_program : (P Q : Program) → typed_program_of P ≡ Ok Q → IsTypedProgramOf P Q
typed_program P Q e =
    let all = bind_ok (judgement_of (settled_text P)) (λ _. Ok (settled_text P)) Q e in
    let is : settled_text P ≡ Q = text_is (settled_text P) Q all.2 in
    subst (IsTypedProgramOf P) is (text_typed P all.1)

-- ---- there is no other typed program

-- each instruction of the second is that of the first but for a number that has its type
abbrev pub AreLines : List Instr → List Instr → Type 0
AreLines ps qs = (n : ℕ) (p : Instr) → slice_get ps n ≡ Some p → (q : Instr) × SettlesLine p q × (slice_get qs n ≡ Some q)

pub some_is : (p q : Instr) → Some p ≡ Some q → p ≡ q
some_is p q e = cc

same_labels : (ps qs : List Instr) → length qs ≡ length ps → AreLines ps qs → labels_of qs ≡ labels_of ps
same_labels [] [] len are = refl
same_labels [] (q ∷ qs) len are = absurd (omega (arith, len))
same_labels (p ∷ ps) [] len are = absurd (omega (arith, len))
same_labels (p ∷ ps) (q ∷ qs) len are =
    let here = are zero p refl in
    ap (λ (x : Instr). x.label ∷ labels_of qs) (some_is q here.0 here.2)
    ∙ ap (λ (label : Option (List ℕ)). label ∷ labels_of qs) here.1.label
    ∙ ap (λ (ls : List (Option (List ℕ))). p.label ∷ ls) (same_labels ps qs (omega (arith, len)) (λ n x e. are (suc n) x e))

pub settling_alike : (P Q : Program) → IsSettling P Q → Alike P Q
settling_alike P Q is = record { variables = is.variables; instances = is.instances; labels = same_labels P.code Q.code is.count is.lines }

same_list : (xs ys : List Instr) → length xs ≡ length ys → ((k : ℕ) → k < length xs → slice_get xs k ≡ slice_get ys k) → xs ≡ ys
same_list [] [] len same = refl
same_list [] (y ∷ ys) len same = absurd (omega (arith, len))
same_list (x ∷ xs) [] len same = absurd (omega (arith, len))
same_list (x ∷ xs) (y ∷ ys) len same =
    ap (λ (z : Instr). z ∷ xs) (some_is x y (same zero (omega arith)))
    ∙ ap (λ (zs : List Instr). y ∷ zs) (same_list xs ys (omega (arith, len)) (λ k lt. same (suc k) (omega arith)))

text_like : (P Q : Program) → IsTypedProgramOf P Q → Alike (settled_text P) Q
text_like P Q is =
    let a = settling_alike P Q (is_settling P Q is) in
    let b = text_alike P in
    record { variables = a.variables ∙ sym b.variables; instances = a.instances ∙ sym b.instances; labels = a.labels ∙ sym b.labels }

lines_same : (P Q : Program) → IsTypedProgramOf P Q → (n : ℕ) → n ≤ length P.code → (k : ℕ) → k < n → slice_get Q.code k ≡ slice_get (settled_text P).code k
lines_same P Q is zero le k lt = absurd (omega arith)
lines_same P Q is (suc n) le k lt =
    elim (nat_lt k n) as (λ v. nat_lt k n ≡ v → slice_get Q.code k ≡ slice_get (settled_text P).code k) [
      | true ↦ λ h. lines_same P Q is n (omega arith) k (ltb-true k n h)
      | false ↦ λ h.
          let past : n ≤ k = ltb-false k n h in
          let here : n ≡ k = omega arith in
          let le : n ≤ length Q.code = omega (arith, is.count) in
          let at = shape_within Q (faultless Q is.typed) n le in
          let shapes = shapes_alike (settled_text P) Q n (text_like P Q is) (λ j below. lines_same P Q is n (omega arith) j below) in
          ap (λ (j : ℕ). slice_get Q.code j) (sym here) ∙ is.placed n at.0 (arrives Q n at.0 le at.1) ∙ sym (text_arrival P n at.0 (sym shapes ∙ at.1)) ∙ ap (λ (j : ℕ). slice_get (settled_text P).code j) here
    ] refl

text_same : (P Q : Program) → IsTypedProgramOf P Q → Q ≡ settled_text P
text_same P Q is =
    let codes : Q.code ≡ (settled_text P).code = same_list Q.code (settled_text P).code (is.count ∙ sym (text_count P)) (λ k lt. lines_same P Q is (length P.code) (omega arith) k (omega (arith, is.count))) in
    let like = text_like P Q is in
    ap (λ (vs : List Variable). let R : Program = record { variables = vs; instances = Q.instances; code = Q.code } in R) like.variables
    ∙ ap (λ (xs : List Instance). let R : Program = record { variables = (settled_text P).variables; instances = xs; code = Q.code } in R) like.instances
    ∙ ap (λ (code : List Instr). let R : Program = record { variables = (settled_text P).variables; instances = (settled_text P).instances; code = code } in R) codes

-- a typed program of a program is the one that settling gives
pub typed_only : (P Q : Program) → IsTypedProgramOf P Q → typed_program_of P ≡ Ok Q
typed_only P Q is =
    let same = text_same P Q is in
    ap (λ (r : Result (Unit {0}) (TypeFault × ℕ)). r >>= λ _. Ok (settled_text P)) (ap judgement_of (sym same) ∙ faultless Q is.typed)
    ∙ ap (λ (R : Program). let r : Result Program (TypeFault × ℕ) = Ok R in r) (sym same)

-- ---- a program without bare numbers

operand_plain : (cr : Option Ty) (op : Op) (m : Modifier) (o : Operand) → is_bare o ≡ false → settled_operand cr op m o ≡ o
operand_plain cr op m operands.Absent e = refl
operand_plain cr op m (operands.Literal v) e = refl
operand_plain cr op m (operands.Bare z) e = absurd cc
operand_plain cr op m (operands.Variable name) e = refl
operand_plain cr op m (operands.Direct loc) e = refl
operand_plain cr op m (operands.Label name) e = refl
operand_plain cr op m (operands.Field name field) e = refl
operand_plain cr op m (operands.Instance name) e = refl

passing_plain : (side : Side) (field : Option Field) (o : Operand) → is_bare o ≡ false → settled_passing side field o ≡ o
passing_plain sides.Output field o e = refl
passing_plain sides.Input None o e = refl
passing_plain sides.Input (Some field) operands.Absent e = refl
passing_plain sides.Input (Some field) (operands.Literal v) e = refl
passing_plain sides.Input (Some field) (operands.Bare z) e = absurd cc
passing_plain sides.Input (Some field) (operands.Variable name) e = refl
passing_plain sides.Input (Some field) (operands.Direct loc) e = refl
passing_plain sides.Input (Some field) (operands.Label name) e = refl
passing_plain sides.Input (Some field) (operands.Field name other) e = refl
passing_plain sides.Input (Some field) (operands.Instance name) e = refl

stay_plain : (args : List Argument) → have_bare args ≡ false → map settled_argument args ≡ args
stay_plain [] e = refl
stay_plain (a ∷ args) e =
    let both = or_no (is_bare a.operand) (have_bare args) e in
    ap (λ (o : Operand). record a { operand = o } ∷ map settled_argument args) (passing_plain a.side (any_field a.field) a.operand both.0)
    ∙ ap (λ (rest : List Argument). a ∷ rest) (stay_plain args both.1)

line_plain : (cr : Option Ty) (line : Instr) → has_bare line ≡ false → settled_line cr line ≡ line
line_plain cr line e =
    let both = or_no (is_bare line.operand) (have_bare line.arguments) e in
    ap (λ (o : Operand). record line { operand = o; arguments = map settled_argument line.arguments }) (operand_plain cr line.op line.modifier line.operand both.0)
    ∙ ap (λ (args : List Argument). record line { arguments = args }) (stay_plain line.arguments both.1)

nth_plain : (cr : Option Ty) (n : ℕ) (code : List Instr) → ((line : Instr) → slice_get code n ≡ Some line → has_bare line ≡ false) → settled_nth cr n code ≡ code
nth_plain cr n [] plain = refl
nth_plain cr zero (line ∷ code) plain = ap (λ (l : Instr). l ∷ code) (line_plain cr line (plain line refl))
nth_plain cr (suc n) (line ∷ code) plain = ap (λ (ls : List Instr). line ∷ ls) (nth_plain cr n code plain)

arrival_plain : (P : Program) (n : ℕ) (r : Result Shape (TypeFault × ℕ)) → HasNoBare P → settled_on_arrival P n r ≡ P
arrival_plain P n (Ok sh) plain = ap (λ (code : List Instr). record P { code = code }) (nth_plain sh.cr n P.code (plain n))
arrival_plain P n (Err f) plain = refl

before_plain : (P : Program) (n : ℕ) → HasNoBare P → settled_before P n ≡ P
before_plain P zero plain = refl
before_plain P (suc n) plain = ap (λ (Q : Program). settled_on_arrival Q n (shape_at Q n)) (before_plain P n plain) ∙ arrival_plain P n (shape_at P n) plain

-- a program without bare numbers is its own typed program exactly where it is typed, with the same fault otherwise
pub settled_plain : (P : Program) → HasNoBare P → typed_program_of P ≡ if_typed P
settled_plain P plain = ap if_typed (before_plain P (length P.code) plain)
