-- The listing's names, literals, locations and operators are resolved to the program's own.
use Rattle.std.proofs.Common.{◌≡◌, ℕ, suc, ◌+◌, ◌≤◌, Bool, true, false, cond, ltb, eqb, List, [], ◌∷◌, ◌++◌, length, Option, Some, None, Result, Ok, Err, refl, sym, ap, ◌∙◌, arith, ◌||◌, not, append_assoc}
use Rattle.std.specs.Prelude.{nat_eq}
use Rattle.std.specs.List.{AllByRecursion, flat_map}
use Rattle.std.proofs.lemmas.List.{length-append, append-nil}
use Rattle.std.proofs.lemmas.Bool.{le-ltb, eqb-true}
use Rattle.il_model.specs.Dialects.{newest}
use Rattle.il_model.specs.declared.dialect.Dialect.{Dialect}
use Rattle.il_model.specs.declared.dialect.Dialect.TheVariants as dialects
use Rattle.il_values.specs.declared.op.Op.{Op}
use Rattle.il_values.specs.declared.op.Op.TheVariants as ops
use Rattle.il_values.specs.declared.op.Modifier.{Modifier}
use Rattle.il_model.specs.declared.program.Argument.{Argument}
use Rattle.il_model.specs.declared.program.Operand.{Operand}
use Rattle.il_model.specs.declared.program.Operand.TheVariants as operands
use Rattle.il_model.specs.declared.program.Instr.{Instr}
use Rattle.il_model.specs.Program.{Declarations}
use Rattle.il_model.specs.Words.{under}
use Rattle.il_model.specs.Limits.{most_instructions, is_crowded}
use Rattle.il_model.specs.Marks.{word_count, words_in}
use Rattle.il_model.proofs.Marks.{words_in-append}
use Rattle.il_model.proofs.Sizes.{crowded_less}
use Rattle.il_model.specs.Codes.{usage_of, allowed_by, formed_by, is_call, is_empty}
use Rattle.il_reader.specs.declared.lexeme.Sign.TheVariants as signs
use Rattle.il_reader.specs.Grammar.{Field, BehindText}
use Rattle.il_declarations.specs.declared.fault.FaultAt.{FaultAt}
use Rattle.il_declarations.specs.declared.fault.DeclKind.TheVariants as kinds
use Rattle.il_declarations.specs.Resolution.{opens, plain, are_too_many}
use Rattle.il_declarations.specs.Declaring.{operation_words}
use Rattle.il_declarations.proofs.Fits.{instruction_words}
use Rattle.il_declarations.specs.Walk.{each, operand_of, behind_of, behind_arguments, argument_of, pushed_argument, instruction_of, room, label_of, instruct_labelled, instruct_plain, instruct}
use Rattle.il_lister.specs.Listing.{next_argument_text, operation_text, line_text}
use Rattle.laws_listing.proofs.Fronts.{both_true}
use Rattle.laws_listing.proofs.LiteralTexts.{literal_again}
use Rattle.laws_listing.proofs.LocationTexts.{location_again}
use Rattle.il_model.proofs.WrittenLocations.{named_seen}
use Rattle.laws_listing.proofs.OperatorTexts.{letters}
use Rattle.laws_listing.proofs.NameRuns.{part_says, no_dots, split_under}
use Rattle.laws_listing.proofs.NameTexts.{IsFreeName, capital, capital_word, under_free}
use Rattle.laws_listing.proofs.Listable.{IsValueOperand, IsListedOperand, IsListedArgument, IsListedLabel, IsListedLine}
use Rattle.laws_listing.proofs.Written.{token_at, is_long_field, dot_by, under_short, written_field, written_operand, written_argument, written_all, written_value, written_absent, written_behind, written_operation, unless_empty, colon_text, labelled_line, written_lines}

-- ---- operands

-- the field of an instance in three tokens
apart_back : (dialect : Dialect) (ds : Declarations) (name field behind rest : List ℕ) → IsValueOperand dialect ds (operands.Field name field) → operand_of dialect ds (Field (token_at signs.Name name behind) (token_at signs.Name field rest)) ≡ Ok (operands.Field name field)
apart_back dialect ds name field behind rest is = rw (capital dialect name is.0.name, capital_word field is.1.name, is.2) refl

field_back : (dialect : Dialect) (ds : Declarations) (long : Bool) (name field rest : List ℕ) → is_long_field name field ≡ long → IsValueOperand dialect ds (operands.Field name field) → operand_of dialect ds (written_field dialect long name field rest) ≡ Ok (operands.Field name field)
field_back dialects.Plain ds long name field rest e is = apart_back dialects.Plain ds name field (dot_by long ++ (field ++ rest)) rest is
field_back dialects.Extended ds true name field rest e is = apart_back dialects.Extended ds name field (dot_by true ++ (field ++ rest)) rest is
field_back dialects.Extended ds false name field rest e is =
    let whole = under_free name field is.0 is.1.name (under_short name field e) in
    let plain = no_dots field (part_says field is.1.name.part).bytes in
    rw (capital dialects.Extended (under name field) whole.name, is.3, split_under name field plain, is.2) refl

value_back : (dialect : Dialect) (ds : Declarations) (o : Operand) (rest : List ℕ) → IsValueOperand dialect ds o → operand_of dialect ds (written_operand dialect o rest) ≡ Ok o
value_back dialect ds operands.Absent rest is = absurd is
value_back dialect ds (operands.Literal v) rest is = rw (literal_again dialect v is) refl
value_back dialect ds (operands.Bare z) rest is = absurd is
value_back dialect ds (operands.Variable name) rest is = rw (capital dialect name is.0.name, is.1) refl
value_back dialect ds (operands.Direct loc) rest is = rw (location_again dialect loc is.0 is.2, named_seen loc is.1) refl
value_back dialect ds (operands.Label name) rest is = absurd is
value_back dialect ds (operands.Field name field) rest is = field_back dialect ds (is_long_field name field) name field rest refl is
value_back dialect ds (operands.Instance name) rest is = absurd is

given_back : (dialect : Dialect) (ds : Declarations) (b : Bool) (o : Operand) (rest : List ℕ) → IsValueOperand dialect ds o → behind_of dialect ds (written_value b (written_operand dialect o rest)) ≡ Ok o
given_back dialect ds true o rest is = value_back dialect ds o rest is
given_back dialect ds false o rest is = value_back dialect ds o rest is

absent_back : (dialect : Dialect) (ds : Declarations) (b : Bool) → behind_of dialect ds (written_absent b) ≡ Ok operands.Absent
absent_back dialect ds true = refl
absent_back dialect ds false = refl

behind_back : (dialect : Dialect) (ds : Declarations) (b : Bool) (o : Operand) (args : List Argument) (rest : List ℕ) → IsListedOperand dialect ds o → behind_of dialect ds (written_behind dialect b o args rest) ≡ Ok o
behind_back dialect ds b operands.Absent args rest is = absent_back dialect ds b
behind_back dialect ds b (operands.Literal v) args rest is = given_back dialect ds b (operands.Literal v) rest is
behind_back dialect ds b (operands.Bare z) args rest is = absurd is
behind_back dialect ds b (operands.Variable name) args rest is = given_back dialect ds b (operands.Variable name) rest is
behind_back dialect ds b (operands.Direct loc) args rest is = given_back dialect ds b (operands.Direct loc) rest is
behind_back dialect ds b (operands.Label name) args rest is = rw (capital dialect name is.name) refl
behind_back dialect ds b (operands.Field name field) args rest is = given_back dialect ds b (operands.Field name field) rest is
behind_back dialect ds b (operands.Instance name) args rest is = rw (capital dialect name is.0.name, is.1) refl

-- ---- arguments

argument_back : (dialect : Dialect) (ds : Declarations) (a : Argument) (rest : List ℕ) → IsListedArgument dialect ds a → argument_of dialect ds (written_argument dialect a rest) ≡ Ok a
unfolding argument_of
argument_back dialect ds a rest is = rw (value_back dialect ds a.operand rest is.operand, capital_word a.field is.field.name) refl

all_back : (dialect : Dialect) (ds : Declarations) (seen args : List Argument) (rest : List ℕ) → AllByRecursion (IsListedArgument dialect ds) args → each (pushed_argument dialect ds) seen (written_all dialect args rest) ≡ Ok (seen ++ args)
unfolding each
all_back dialect ds seen [] rest all = rw (append-nil seen) refl
all_back dialect ds seen (a ∷ args) rest all =
    rw (argument_back dialect ds a (flat_map next_argument_text args ++ rest) all.0) (all_back dialect ds (seen ++ a ∷ []) args rest all.1 ∙ rw (append_assoc seen (a ∷ []) args) refl)

call_back : (dialect : Dialect) (ds : Declarations) (name : List ℕ) (args : List Argument) (rest : List ℕ) → AllByRecursion (IsListedArgument dialect ds) args → behind_arguments dialect ds (written_behind dialect false (operands.Instance name) args rest) ≡ Ok args
unfolding each
call_back dialect ds name [] rest all = refl
call_back dialect ds name (a ∷ args) rest all = all_back dialect ds [] (a ∷ args) (41 ∷ rest) all

-- what is no call has no arguments
no_call_back : (dialect : Dialect) (ds : Declarations) (b : Bool) (o : Operand) (rest : List ℕ) → behind_arguments dialect ds (written_value b (written_operand dialect o rest)) ≡ Ok []
no_call_back dialect ds true o rest = refl
no_call_back dialect ds false o rest = refl

absent_no_call : (dialect : Dialect) (ds : Declarations) (b : Bool) → behind_arguments dialect ds (written_absent b) ≡ Ok []
absent_no_call dialect ds true = refl
absent_no_call dialect ds false = refl

pub no_args : (args : List Argument) → eqb (length args) 0 ≡ true → args ≡ []
no_args [] e = refl
no_args (a ∷ args) e = let z = eqb-true (length (a ∷ args)) 0 e in absurd (omega (arith, z))

abbrev pub is_instance : Operand → Bool
is_instance (operands.Instance name) = true
is_instance o = false

-- what names no instance is no call
not_call : (op : Op) (m : Modifier) (o : Operand) → is_instance o ≡ false → formed_by (usage_of op) m o ≡ true → is_call op ≡ false
not_call ops.Cal m operands.Absent i f = absurd cc
not_call ops.Cal m (operands.Literal v) i f = absurd cc
not_call ops.Cal m (operands.Bare z) i f = absurd cc
not_call ops.Cal m (operands.Variable name) i f = absurd cc
not_call ops.Cal m (operands.Direct loc) i f = absurd cc
not_call ops.Cal m (operands.Label name) i f = absurd cc
not_call ops.Cal m (operands.Field name field) i f = absurd cc
not_call ops.Cal m (operands.Instance name) i f = absurd cc
not_call op m o i f = refl

pub lone_args : (dialect : Dialect) (ds : Declarations) (line : Instr) → IsListedLine dialect ds line → is_instance line.operand ≡ false → line.arguments ≡ []
lone_args dialect ds line is lone = no_args line.arguments (rw (not_call line.op line.modifier line.operand lone is.form) at is.called)

none_back : (dialect : Dialect) (ds : Declarations) (x : BehindText) (args : List Argument) → args ≡ [] → behind_arguments dialect ds x ≡ Ok [] → behind_arguments dialect ds x ≡ Ok args
none_back dialect ds x args e h = h ∙ ap (λ (xs : List Argument). let r : Result (List Argument) FaultAt = Ok xs in r) (sym e)

given_args : (dialect : Dialect) (ds : Declarations) (b : Bool) (o : Operand) (args : List Argument) (rest : List ℕ) → (is_instance o ≡ false → args ≡ []) → AllByRecursion (IsListedArgument dialect ds) args → behind_arguments dialect ds (written_behind dialect b o args rest) ≡ Ok args
given_args dialect ds b operands.Absent args rest lone all = none_back dialect ds (written_absent b) args (lone refl) (absent_no_call dialect ds b)
given_args dialect ds b (operands.Literal v) args rest lone all = none_back dialect ds (written_value b (written_operand dialect (operands.Literal v) rest)) args (lone refl) (no_call_back dialect ds b (operands.Literal v) rest)
given_args dialect ds b (operands.Bare z) args rest lone all = none_back dialect ds (written_value b (written_operand dialect (operands.Bare z) rest)) args (lone refl) (no_call_back dialect ds b (operands.Bare z) rest)
given_args dialect ds b (operands.Variable name) args rest lone all = none_back dialect ds (written_value b (written_operand dialect (operands.Variable name) rest)) args (lone refl) (no_call_back dialect ds b (operands.Variable name) rest)
given_args dialect ds b (operands.Direct loc) args rest lone all = none_back dialect ds (written_value b (written_operand dialect (operands.Direct loc) rest)) args (lone refl) (no_call_back dialect ds b (operands.Direct loc) rest)
given_args dialect ds b (operands.Label name) args rest lone all = none_back dialect ds (written_behind dialect b (operands.Label name) args rest) args (lone refl) refl
given_args dialect ds b (operands.Field name field) args rest lone all = none_back dialect ds (written_value b (written_operand dialect (operands.Field name field) rest)) args (lone refl) (no_call_back dialect ds b (operands.Field name field) rest)
given_args dialect ds b (operands.Instance name) args rest lone all = call_back dialect ds name args rest all

-- ---- operators

pub label_closed : (op : Op) (n c b : Bool) (name : List ℕ) → formed_by (usage_of op) (letters n c b) (operands.Label name) ≡ true → allowed_by (usage_of op) (letters n c b) ≡ true → b ≡ false
label_closed op n c false name f a = refl
label_closed ops.Jmp n c true name f a = let h = (both_true (c || not n) false a).1 in absurd cc
label_closed op n c true name f a = absurd cc

pub instance_closed : (op : Op) (n c b : Bool) (name : List ℕ) → formed_by (usage_of op) (letters n c b) (operands.Instance name) ≡ true → allowed_by (usage_of op) (letters n c b) ≡ true → b ≡ false
instance_closed op n c false name f a = refl
instance_closed ops.Cal n c true name f a = let h = (both_true (c || not n) false a).1 in absurd cc
instance_closed op n c true name f a = absurd cc

value_opens : (dialect : Dialect) (b : Bool) (o : Operand) (rest : List ℕ) → opens (written_value b (written_operand dialect o rest)) ≡ b
value_opens dialect true o rest = refl
value_opens dialect false o rest = refl

absent_opens : (b : Bool) → opens (written_absent b) ≡ b
absent_opens true = refl
absent_opens false = refl

opens_back : (dialect : Dialect) (op : Op) (m : Modifier) (o : Operand) (args : List Argument) (rest : List ℕ) → formed_by (usage_of op) m o ≡ true → allowed_by (usage_of op) m ≡ true → opens (written_behind dialect m.opens o args rest) ≡ m.opens
opens_back dialect op m operands.Absent args rest f a = absent_opens m.opens
opens_back dialect op m (operands.Literal v) args rest f a = value_opens dialect m.opens (operands.Literal v) rest
opens_back dialect op m (operands.Bare z) args rest f a = value_opens dialect m.opens (operands.Bare z) rest
opens_back dialect op m (operands.Variable name) args rest f a = value_opens dialect m.opens (operands.Variable name) rest
opens_back dialect op m (operands.Direct loc) args rest f a = value_opens dialect m.opens (operands.Direct loc) rest
opens_back dialect op m (operands.Label name) args rest f a = sym (label_closed op m.negated m.conditional m.opens name f a)
opens_back dialect op m (operands.Field name field) args rest f a = value_opens dialect m.opens (operands.Field name field) rest
opens_back dialect op m (operands.Instance name) args rest f a = sym (instance_closed op m.negated m.conditional m.opens name f a)

-- ---- lines

instruction_back : (dialect : Dialect) (ds : Declarations) (label : Option (List ℕ)) (line : Instr) (rest : List ℕ) → IsListedLine dialect ds line → instruction_of dialect ds label (Some (written_operation dialect line rest)) ≡ Ok (record line { label = label })
unfolding instruction_of
instruction_back dialect ds label line rest is =
    rw (
      behind_back dialect ds line.modifier.opens line.operand line.arguments rest is.operand,
      given_args dialect ds line.modifier.opens line.operand line.arguments rest (lone_args dialect ds line is) is.arguments,
      opens_back dialect line.op line.modifier line.operand line.arguments rest is.form is.letters,
    ) refl

abbrev pub instr : Option (List ℕ) → Op → Modifier → Operand → List Argument → Instr
instr label op m o args = record { label = label; op = op; modifier = m; operand = o; arguments = args }

pub empty_line : (label : Option (List ℕ)) (op : Op) (n c b : Bool) (o : Operand) (args : List Argument) → is_empty op ≡ true → allowed_by (usage_of op) (letters n c b) ≡ true → formed_by (usage_of op) (letters n c b) o ≡ true
    → (is_call op || nat_eq (length args) 0) ≡ true → instr label ops.Empty plain operands.Absent [] ≡ instr label op (letters n c b) o args
empty_line label ops.Empty false false false operands.Absent args w a f k = ap (λ (xs : List Argument). instr label ops.Empty plain operands.Absent xs) (sym (no_args args k))
empty_line label ops.Empty n c b o args w a f k = absurd cc
empty_line label op n c b o args w a f k = absurd cc

passes : (b : Bool) (f : FaultAt) → b ≡ false → (let r : Result (Unit {0}) FaultAt = cond b (Err f) (Ok tt) in r ≡ Ok tt)
passes true f e = absurd cc
passes false f e = refl

neither : (a b : Bool) → a ≡ false → b ≡ false → (a || b) ≡ false
neither true b e f = absurd cc
neither false b e f = f

-- there is room for a line
abbrev HasRoom : Dialect → List Instr → Instr → Type 0
HasRoom dialect code line = (words left : ℕ) → word_count line ≡ words → room dialect code words left ≡ Ok tt

room_back : (dialect : Dialect) (code : List Instr) (line : Instr) → suc (length code) ≤ most_instructions (newest dialect) → is_crowded (suc (length code)) (words_in code + word_count line) ≡ false → HasRoom dialect code line
room_back dialect code line le fits = λ words left is.
    let n : ℕ = suc (length code) in
    passes (are_too_many dialect n (words_in code + words)) (record { kind = kinds.TooMany; left = left })
    (neither (ltb (most_instructions (newest dialect)) n) (is_crowded n (words_in code + words)) (le-ltb (most_instructions (newest dialect)) n le) (ap (λ (k : ℕ). is_crowded n (words_in code + k)) (sym is) ∙ fits))

label_back : (dialect : Dialect) (name rest : List ℕ) → IsFreeName dialect name → label_of (token_at signs.Name name rest) ≡ Ok name
label_back dialect name rest is = rw (capital dialect name is.name, is.free) refl

abbrev pushed : List Instr → Instr → Result (List Instr) FaultAt
pushed code line = Ok (code ++ line ∷ [])

optional_back : (dialect : Dialect) (ds : Declarations) (name : List ℕ) (line : Instr) (rest : List ℕ) (b : Bool) → is_empty line.op ≡ b → IsListedLine dialect ds line → instruction_of dialect ds (Some name) (unless_empty b (written_operation dialect line rest)) ≡ Ok (record line { label = Some name })
unfolding instruction_of
optional_back dialect ds name line rest true e is =
    ap (λ (l : Instr). let r : Result Instr FaultAt = Ok l in r) (empty_line (Some name) line.op line.modifier.negated line.modifier.conditional line.modifier.opens line.operand line.arguments e is.letters is.form is.called)
optional_back dialect ds name line rest false e is = instruction_back dialect ds (Some name) line rest is

line_by : (dialect : Dialect) (ds : Declarations) (code : List Instr) (label : Option (List ℕ)) (line : Instr) (rest : List ℕ) → line.label ≡ label → IsListedLabel dialect label → IsListedLine dialect ds line → HasRoom dialect code line
    → instruct dialect ds code (labelled_line dialect label line rest) ≡ pushed code line
unfolding instruct_plain instruct_labelled
line_by dialect ds code None line rest e free is room =
    let o = written_operation dialect line rest in
    let back = instruction_back dialect ds None line rest is in
    rw (room (operation_words (Some o)) o.operator.left (instruction_words dialect ds None (Some o) (record line { label = None }) back), back) (ap (λ (l : Option (List ℕ)). pushed code (record line { label = l })) (sym e))
line_by dialect ds code (Some name) line rest e free is room =
    let behind = colon_text (is_empty line.op) ++ (operation_text line ++ rest) in
    let o = unless_empty (is_empty line.op) (written_operation dialect line rest) in
    let back = optional_back dialect ds name line rest (is_empty line.op) refl is in
    rw (label_back dialect name behind free, room (operation_words o) (token_at signs.Name name behind).left (instruction_words dialect ds (Some name) o (record line { label = Some name }) back), back) (ap (λ (l : Option (List ℕ)). pushed code (record line { label = l })) (sym e))

pub lines_back : (dialect : Dialect) (ds : Declarations) (seen code : List Instr) → AllByRecursion (IsListedLine dialect ds) code → length seen + length code ≤ most_instructions (newest dialect) → is_crowded (length seen + length code) (words_in seen + words_in code) ≡ false
    → each (instruct dialect ds) seen (written_lines dialect code) ≡ Ok (seen ++ code)
unfolding each
lines_back dialect ds seen [] all few fits = rw (append-nil seen) refl
lines_back dialect ds seen (line ∷ code) all few fits =
    let n : ℕ = length seen + length (line ∷ code) in
    let words : ℕ = words_in seen + words_in (line ∷ code) in
    let next : List Instr = seen ++ line ∷ [] in
    let count : n ≡ length next + length code = omega (arith, length-append seen (line ∷ [])) in
    let sum : words ≡ words_in next + words_in code = omega (arith, words_in-append seen (line ∷ [])) in
    let here = crowded_less n (suc (length seen)) words (words_in seen + word_count line) (omega arith) (omega arith) fits in
    let rest : is_crowded (length next + length code) (words_in next + words_in code) ≡ false = ap (λ (k : ℕ). is_crowded k (words_in next + words_in code)) (sym count) ∙ ap (is_crowded n) (sym sum) ∙ fits in
    rw (line_by dialect ds seen line.label line (10 ∷ flat_map line_text code) refl all.0.label all.0 (room_back dialect seen line (omega (arith, few)) here))
    (lines_back dialect ds next code all.1 (omega (arith, few, count)) rest ∙ rw (append_assoc seen (line ∷ []) code) refl)
