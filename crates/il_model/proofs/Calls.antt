-- What is known of the operands of a typed program: each stands for something, and there are few arguments and literals.
use Rattle.std.proofs.Common.{◌≡◌, ℕ, zero, suc, ◌+◌, ◌*◌, ◌<◌, ◌≤◌, Bool, true, false, cond, List, [], ◌∷◌, ◌++◌, length, Option, Some, None, refl, sym, ap, subst, ◌∙◌, arith}
use Rattle.std.specs.Prelude.{map, slice_get, is_some, not, ◌&&◌, ◌||◌}
use Rattle.std.specs.List.{list_any, AllByRecursion}
use Rattle.std.proofs.lemmas.Bool.{or_right}
use Rattle.std.proofs.lemmas.Option.{slice_get_within}
use Rattle.std.proofs.lemmas.List.{length-map}
use Rattle.std.proofs.lemmas.List.Folds.{list_any-append}
use Rattle.std.proofs.lemmas.Slice.Eq.{bytes_eq-Decides}
use Rattle.il_values.specs.declared.value.Ty.{Ty}
use Rattle.il_values.specs.declared.value.Value.{Value}
use Rattle.il_model.specs.declared.kind.BlockKind.{BlockKind}
use Rattle.il_model.specs.declared.kind.BlockKind.TheVariants as kinds
use Rattle.il_model.specs.declared.kind.Field.{Field}
use Rattle.il_model.specs.declared.program.Argument.{Argument}
use Rattle.il_model.specs.declared.program.Side.{Side}
use Rattle.il_model.specs.declared.program.Side.TheVariants as sides
use Rattle.il_model.specs.declared.program.Operand.{Operand}
use Rattle.il_model.specs.declared.program.Operand.TheVariants as operands
use Rattle.il_model.specs.declared.program.Instr.{Instr}
use Rattle.il_model.specs.declared.fetched.Source.{Source}
use Rattle.il_model.specs.declared.fetched.Source.TheVariants as sources
use Rattle.il_model.specs.Words.{same_name}
use Rattle.il_model.specs.Kinds.{kind_fields, field_name, field_number, field_type, is_input}
use Rattle.il_model.specs.Program.{Program}
use Rattle.il_model.specs.Resolved.{source_of, called_kind}
use Rattle.il_model.specs.Checking.{shape_at, typing_end, top_of, source_row, source_kind, passing_fault, goes_so, argument_fault, arguments_fault, HasNoTypeFault}
use Rattle.il_model.specs.Marks.{word_count, words_in}
use Rattle.il_model.specs.Constants.{operand_literal, operands_in, operands_of}
use Rattle.il_model.proofs.Declared.{fields_few, field_so}
use Rattle.il_model.proofs.TypedLines.{bind_ok, ok_before, typed_line, sourced, fault_none, is_among, IsArgumentOf, argument_typed, no_arguments, first_none}

-- an instruction whose operand stands for something, and whose arguments have no fault
pub record IsTypedLine (Q : Program) (line : Instr) : Type 0 where
  pub source : Source
  pub sourced : source_of Q line.operand ≡ Some source
  pub arguments : arguments_fault Q (called_kind Q line.operand) [] line.arguments ≡ None

typed_so : (Q : Program) → HasNoTypeFault Q → (n : ℕ) (line : Instr) → slice_get Q.code n ≡ Some line → IsTypedLine Q line
typed_so Q typed n line here =
    let lt : n < length Q.code = slice_get_within Q.code n line here in
    let all = bind_ok (shape_at Q (length Q.code)) (typing_end Q) tt typed in
    let sh = ok_before Q (length Q.code) all.0 all.1 n (omega arith) in
    let l = typed_line Q typed n sh.0 line lt sh.1 here in
    let f = fault_none (source_row Q sh.0.cr (top_of sh.0.kept) (length sh.0.kept) line (source_of Q line.operand)) (arguments_fault Q (called_kind Q line.operand) [] line.arguments) l.effect l.row in
    let src = sourced Q sh.0.cr (top_of sh.0.kept) (length sh.0.kept) line (source_of Q line.operand) l.effect f.0 in
    record { source = src.0; sourced = src.1; arguments = f.1 }

pub all_of : (P : Instr → Type 0) (code : List Instr) → ((n : ℕ) (line : Instr) → slice_get code n ≡ Some line → P line) → AllByRecursion P code
all_of P [] each = tt
all_of P (line ∷ code) each = (each 0 line refl, all_of P code (λ n l e. each (suc n) l e))

-- the instructions of a typed program
pub typed_lines : (Q : Program) → HasNoTypeFault Q → AllByRecursion (IsTypedLine Q) Q.code
typed_lines Q typed = all_of (IsTypedLine Q) Q.code (typed_so Q typed)

-- ---- how many fields no argument names yet

abbrev is_named : List Argument → Field → Bool
is_named seen field = list_any (λ (b : Argument). same_name b.field (field_name field)) seen

abbrev free : (Field → Bool) → List Argument → List Field → ℕ
free q seen [] = 0
free q seen (field ∷ fields) = cond (q field && not (is_named seen field)) 1 0 + free q seen fields

less_by : (q b c : Bool) → cond (q && not (b || c)) 1 0 ≤ cond (q && not b) 1 0
less_by true true c = omega arith
less_by true false true = omega arith
less_by true false false = omega arith
less_by false b c = omega arith

named_more : (seen : List Argument) (a : Argument) (field : Field) → is_named (seen ++ a ∷ []) field ≡ (is_named seen field || is_named (a ∷ []) field)
named_more seen a field = list_any-append (λ (b : Argument). same_name b.field (field_name field)) seen (a ∷ [])

one_less : (q : Field → Bool) (seen : List Argument) (a : Argument) (field : Field) → cond (q field && not (is_named (seen ++ a ∷ []) field)) 1 0 ≤ cond (q field && not (is_named seen field)) 1 0
one_less q seen a field = rw (named_more seen a field) (less_by (q field) (is_named seen field) (is_named (a ∷ []) field))

free_less : (q : Field → Bool) (seen : List Argument) (a : Argument) (fields : List Field) → free q (seen ++ a ∷ []) fields ≤ free q seen fields
free_less q seen a [] = omega arith
free_less q seen a (field ∷ fields) =
    let one = one_less q seen a field in
    let more = free_less q seen a fields in
    omega arith

fewer_by : (q b c : Bool) → q ≡ true → b ≡ false → c ≡ true → suc (cond (q && not c) 1 0) ≤ cond (q && not b) 1 0
fewer_by true false true e h f = omega arith
fewer_by false b c e h f = absurd cc
fewer_by true true c e h f = absurd cc
fewer_by true false false e h f = absurd cc

-- one more argument names one field more
free_fewer : (q : Field → Bool) (seen : List Argument) (a : Argument) (fields : List Field) (n : ℕ) (field : Field)
    → slice_get fields n ≡ Some field → q field ≡ true → is_named seen field ≡ false → is_named (seen ++ a ∷ []) field ≡ true → suc (free q (seen ++ a ∷ []) fields) ≤ free q seen fields
free_fewer q seen a [] n field here passes new named = absurd cc
free_fewer q seen a (f ∷ fields) zero field here passes new named =
    let is : f ≡ field = cc in
    let less = free_less q seen a fields in
    let one : suc (cond (q f && not (is_named (seen ++ a ∷ []) f)) 1 0) ≤ cond (q f && not (is_named seen f)) 1 0 =
    fewer_by (q f) (is_named seen f) (is_named (seen ++ a ∷ []) f) (ap q is ∙ passes) (ap (is_named seen) is ∙ new) (ap (is_named (seen ++ a ∷ [])) is ∙ named) in
    omega arith
free_fewer q seen a (f ∷ fields) (suc n) field here passes new named =
    let one = one_less q seen a f in
    let more = free_fewer q seen a fields n field here passes new named in
    omega arith

-- a field is numbered by its name
pub field_named_so : (kind : BlockKind) (name : List ℕ) (n : ℕ) (field : Field) → field_number kind name ≡ Some n → slice_get (kind_fields kind) n ≡ Some field → field_name field ≡ name
field_named_so kind name n field numbered there =
    let f = field_so kind name n numbered in
    let is : field ≡ f.field = (let e = sym there ∙ f.there in cc) in
    ap field_name is ∙ f.named

-- ---- arguments that pass a test are no more than the fields that do

abbrev count : (Argument → Bool) → List Argument → ℕ
count p [] = 0
count p (a ∷ args) = cond (p a) 1 0 + count p args

argument_so : (Q : Program) (k : BlockKind) (seen : List Argument) (a : Argument) → argument_fault Q (Some k) seen a ≡ None → (is_among seen a ≡ false) × IsArgumentOf Q k a
argument_so Q k seen a h =
    let t = argument_typed Q (Some k) seen a h in
    let is : k ≡ t.0 = (let e = t.1 in cc) in
    (t.2, subst (λ (x : BlockKind). IsArgumentOf Q x a) (sym is) t.3)

counted_by : (b : Bool) (Q : Program) (k : BlockKind) (q : Field → Bool) (seen : List Argument) (a : Argument) (c : ℕ) → (is_among seen a ≡ false) → (is : IsArgumentOf Q k a) → (b ≡ true → q is.field ≡ true)
    → c ≤ free q (seen ++ a ∷ []) (kind_fields k) → cond b 1 0 + c ≤ free q seen (kind_fields k)
counted_by true Q k q seen a c new is passes le =
    let name : field_name is.field ≡ a.field = field_named_so k a.field is.number is.field is.numbered is.there in
    let free-now : is_named seen is.field ≡ false = ap (λ (x : List ℕ). list_any (λ (b : Argument). same_name b.field x) seen) name ∙ new in
    let own : same_name a.field (field_name is.field) ≡ true = (bytes_eq-Decides a.field (field_name is.field)).1 (sym name) in
    let one : is_named (a ∷ []) is.field ≡ true = rw own refl in
    let taken : is_named (seen ++ a ∷ []) is.field ≡ true = named_more seen a is.field ∙ or_right (is_named seen is.field) (is_named (a ∷ []) is.field) one in
    let fewer = free_fewer q seen a (kind_fields k) is.number is.field is.there (passes refl) free-now taken in
    omega arith
counted_by false Q k q seen a c new is passes le = let less = free_less q seen a (kind_fields k) in omega arith

counted : (Q : Program) (k : BlockKind) (p : Argument → Bool) (q : Field → Bool) → ((a : Argument) (is : IsArgumentOf Q k a) → p a ≡ true → q is.field ≡ true)
    → (seen args : List Argument) → arguments_fault Q (Some k) seen args ≡ None → count p args ≤ free q seen (kind_fields k)
counted Q k p q passes seen [] h = omega arith
counted Q k p q passes seen (a ∷ args) h =
    let f = first_none (argument_fault Q (Some k) seen a) (arguments_fault Q (Some k) (seen ++ a ∷ []) args) h in
    let t = argument_so Q k seen a f.0 in
    counted_by (p a) Q k q seen a (count p args) t.0 t.1 (passes a t.1) (counted Q k p q passes (seen ++ a ∷ []) args f.1)

abbrev any : Field → Bool
any field = true

free_any : (fields : List Field) → free any [] fields ≤ length fields
free_any [] = omega arith
free_any (field ∷ fields) = let more = free_any fields in omega arith

inputs_few : (k : BlockKind) → free is_input [] (kind_fields k) ≤ 5
inputs_few kinds.Sr = omega arith
inputs_few kinds.Rs = omega arith
inputs_few kinds.RTrig = omega arith
inputs_few kinds.FTrig = omega arith
inputs_few kinds.Ctu = omega arith
inputs_few kinds.Ctd = omega arith
inputs_few kinds.Ctud = omega arith
inputs_few kinds.Tp = omega arith
inputs_few kinds.Ton = omega arith
inputs_few kinds.Tof = omega arith

-- ---- literals

-- how many operands are literals
abbrev pub literal_count : List Operand → ℕ
literal_count [] = 0
literal_count (o ∷ os) = cond (is_some (operand_literal o)) 1 0 + literal_count os

literal_count-append : (xs ys : List Operand) → literal_count (xs ++ ys) ≡ literal_count xs + literal_count ys
literal_count-append [] ys = omega arith
literal_count-append (o ∷ xs) ys = let more = literal_count-append xs ys in omega arith

abbrev is_literal : Argument → Bool
is_literal a = is_some (operand_literal a.operand)

input_by : (Q : Program) (v : Value) (side : Side) (t : Ty) (field : Field) → goes_so side field ≡ true → passing_fault side t (source_kind Q (sources.Constant v)) ≡ None → is_input field ≡ true
input_by Q v sides.Input t field goes passes = goes
input_by Q v sides.Output t field goes passes = absurd cc

input_of : (Q : Program) (o : Operand) (side : Side) (t : Ty) (field : Field) (src : Source) → is_some (operand_literal o) ≡ true → source_of Q o ≡ Some src → goes_so side field ≡ true → passing_fault side t (source_kind Q src) ≡ None → is_input field ≡ true
input_of Q operands.Absent side t field src e s goes passes = absurd cc
input_of Q (operands.Literal v) side t field src e s goes passes =
    let is : src ≡ sources.Constant v = cc in
    input_by Q v side t field goes (ap (λ (x : Source). passing_fault side t (source_kind Q x)) (sym is) ∙ passes)
input_of Q (operands.Bare z) side t field src e s goes passes = absurd cc
input_of Q (operands.Variable name) side t field src e s goes passes = absurd cc
input_of Q (operands.Direct loc) side t field src e s goes passes = absurd cc
input_of Q (operands.Label name) side t field src e s goes passes = absurd cc
input_of Q (operands.Field name x) side t field src e s goes passes = absurd cc
input_of Q (operands.Instance name) side t field src e s goes passes = absurd cc

-- a literal goes into an input
literal_input : (Q : Program) (k : BlockKind) (a : Argument) (is : IsArgumentOf Q k a) → is_literal a ≡ true → is_input is.field ≡ true
literal_input Q k a is e = input_of Q a.operand a.side (field_type is.field) is.field is.source e is.sourced is.goes is.passes

count_all : (args : List Argument) → count (λ a. true) args ≡ length args
count_all [] = refl
count_all (a ∷ args) = let more = count_all args in omega arith

count_literals : (args : List Argument) → literal_count (map (λ (a : Argument). a.operand) args) ≡ count is_literal args
count_literals [] = refl
count_literals (a ∷ args) = ap (λ (n : ℕ). cond (is_literal a) 1 0 + n) (count_literals args)

-- ---- one instruction

record IsShort (line : Instr) : Type 0 where
  words : word_count line ≤ 9
  literals : literal_count (operands_in line) ≤ 5

no_literal : (Q : Program) (o : Operand) (k : BlockKind) → called_kind Q o ≡ Some k → operand_literal o ≡ None
no_literal Q operands.Absent k e = refl
no_literal Q (operands.Literal v) k e = absurd cc
no_literal Q (operands.Bare z) k e = refl
no_literal Q (operands.Variable name) k e = refl
no_literal Q (operands.Direct loc) k e = refl
no_literal Q (operands.Label name) k e = refl
no_literal Q (operands.Field name field) k e = refl
no_literal Q (operands.Instance name) k e = refl

one_at_most : (b : Bool) → cond b 1 0 ≤ 1
one_at_most true = omega arith
one_at_most false = omega arith

none_at_all : (o : Option Value) → o ≡ None → cond (is_some o) 1 0 ≤ 0
none_at_all None e = omega arith
none_at_all (Some v) e = absurd cc

short_by : (kind : Option BlockKind) (Q : Program) (line : Instr) → called_kind Q line.operand ≡ kind → arguments_fault Q kind [] line.arguments ≡ None → IsShort line
short_by None Q line e h =
    let none : line.arguments ≡ [] = no_arguments Q [] line.arguments h in
    let one = one_at_most (is_some (operand_literal line.operand)) in
    let rest : literal_count (map (λ (a : Argument). a.operand) line.arguments) ≡ 0 = rw none refl in
    record { words = omega (arith, ap length none); literals = omega (arith, rest) }
short_by (Some k) Q line e h =
    let all : count (λ a. true) line.arguments ≤ free any [] (kind_fields k) = counted Q k (λ a. true) any (λ a is t. refl) [] line.arguments h in
    let literals : count is_literal line.arguments ≤ free is_input [] (kind_fields k) = counted Q k is_literal is_input (literal_input Q k) [] line.arguments h in
    let none = none_at_all (operand_literal line.operand) (no_literal Q line.operand k e) in
    record { words = omega (arith, all, count_all line.arguments, free_any (kind_fields k), fields_few k); literals = omega (arith, literals, count_literals line.arguments, inputs_few k, none) }

short_line : (Q : Program) (line : Instr) → IsTypedLine Q line → IsShort line
short_line Q line is = short_by (called_kind Q line.operand) Q line refl is.arguments

-- ---- a whole program

-- a word for each instruction, and one for each of at most eight arguments
pub words_few : (Q : Program) (code : List Instr) → AllByRecursion (IsTypedLine Q) code → words_in code ≤ 9 * length code
words_few Q [] are = omega arith
words_few Q (line ∷ code) are =
    let one = (short_line Q line are.0).words in
    let more = words_few Q code are.1 in
    omega arith

-- at most one literal for each of at most five inputs
pub literals_few : (Q : Program) (code : List Instr) → AllByRecursion (IsTypedLine Q) code → literal_count (operands_of code) ≤ 5 * length code
literals_few Q [] are = omega arith
literals_few Q (line ∷ code) are =
    let one = (short_line Q line are.0).literals in
    let more = literals_few Q code are.1 in
    omega (arith, literal_count-append (operands_in line) (operands_of code))

literals_within : (os : List Operand) → literal_count os ≤ length os
literals_within [] = omega arith
literals_within (o ∷ os) =
    let one = one_at_most (is_some (operand_literal o)) in
    let more = literals_within os in
    omega arith

-- each word has one at most
pub literals_in_words : (code : List Instr) → literal_count (operands_of code) ≤ words_in code
literals_in_words [] = omega arith
literals_in_words (line ∷ code) =
    let one = literals_within (operands_in line) in
    let more = literals_in_words code in
    omega (arith, one, more, literal_count-append (operands_in line) (operands_of code), length-map line.arguments (λ (a : Argument). a.operand))
