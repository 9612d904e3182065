-- The walk over instruction lines ends at the first of their faults, and else has their instructions; and so the walk over a text.
use Rattle.std.proofs.Common.{◌≡◌, ℕ, suc, ◌+◌, Bool, true, false, cond, List, [], ◌∷◌, ◌++◌, length, Option, Some, None, Ok, Err, refl, sym, ap, subst, ◌∙◌, not, ◌||◌, arith}
use Rattle.std.specs.Prelude.{is_none}
use Rattle.std.specs.List.{flat_map, AllZip}
use Rattle.std.specs.Option.{option_map}
use Rattle.il_model.specs.declared.dialect.Dialect.{Dialect}
use Rattle.il_model.specs.Dialects.{literal_in, location_in}
use Rattle.il_model.specs.declared.literal.Literal.{Literal}
use Rattle.il_model.specs.declared.literal.Literal.TheVariants.{Bare, Typed}
use Rattle.il_values.specs.declared.op.Op.TheVariants as ops
use Rattle.il_model.specs.declared.program.Loc.{Loc}
use Rattle.il_model.specs.declared.program.Operand.{Operand}
use Rattle.il_model.specs.declared.program.Operand.TheVariants as operands
use Rattle.il_model.specs.declared.program.Argument.{Argument}
use Rattle.il_model.specs.declared.program.Instr.{Instr}
use Rattle.il_model.specs.Program.{Program, Declarations}
use Rattle.il_model.specs.Words.{is_reserved, split_last}
use Rattle.il_reader.specs.Tokens.{Token}
use Rattle.il_reader.specs.Grammar.{OperandText, Constant, Direct, Named, Field, BehindText, Nothing, Given, Target, Opened, Called, ArgumentText, arguments_of, OperationText, LineText, Labelled, Plain, ProgramText}
use Rattle.il_declarations.specs.declared.fault.DeclKind.{DeclKind}
use Rattle.il_declarations.specs.declared.fault.DeclKind.TheVariants as kinds
use Rattle.il_declarations.specs.declared.fault.FaultAt.{FaultAt}
use Rattle.il_model.specs.Marks.{word_count, words_in}
use Rattle.il_declarations.specs.Resolution.{capitals, opens, with_opening, plain, are_too_many}
use Rattle.il_declarations.specs.Walk.{◌>>=◌, each, refused, nothing, has_instance, declare_block, direct, constant, field_named, operand_of, behind_of, argument_of, pushed_argument, behind_arguments, instruction_of, room, label_of, instruct_labelled, instruct_plain, instruct, program_at}
use Rattle.il_declarations.specs.Declaring.{DeclaredName, names_of, value_operand, field_or, operand_in, operand_behind, arguments_behind, operation_words, line_words, text_words, IsArgumentOf, IsOperationOf, IsBehindLabel, IsInstructionOf, IsProgramOf}
use Rattle.il_declarations.specs.TextFaults.{names_field}
use Rattle.il_declarations.proofs.FaultList.{when, beside, operand_faults, behind_faults, operation_faults, line_faults, faults_of}
use Rattle.il_declarations.proofs.Agreeing.{Agrees, done, ok_is, then_agrees, made_agrees, last_agrees, each_agrees, each_kept, bind_ok, each_by_itself}
use Rattle.il_declarations.proofs.Names.{made, name_known, instance_known}
use Rattle.il_declarations.proofs.DeclarationFaults.{blocks_agree, blocks_kept}

-- ---- operands

asked : {A : Type 0} (b : Bool) (kind : DeclKind) (left : ℕ) (x : A) → Agrees (cond b (done x) (Err (record { kind = kind; left = left }))) (when (not b) kind left)
asked true kind left x = refl
asked false kind left x = ([], refl)

-- a test that has to pass
asked_agrees : {A : Type 0} (b c : Bool) → b ≡ c → (kind : DeclKind) (left : ℕ) (x : A) → Agrees (cond b (done x) (Err (record { kind = kind; left = left }))) (when (not c) kind left)
asked_agrees b c same kind left x = subst (λ (a : Bool). Agrees (cond b (done x) (Err (record { kind = kind; left = left }))) (when (not a) kind left)) same (asked b kind left x)

asked_gives : {A : Type 0} (b : Bool) (f : FaultAt) (x y : A) → cond b (done x) (Err f) ≡ Ok y → x ≡ y
asked_gives true f x y e = ok_is x y e
asked_gives false f x y e = absurd cc

-- a name that is no variable's is a field's, or unknown
field_agrees : (dialect : Dialect) (names : List DeclaredName) (t : Token) (o : Option (List ℕ × List ℕ)) → Agrees (field_named (made dialect names) t o) (when (not (names_field dialect names o)) kinds.UnknownName t.left)
field_agrees dialect names t None = ([], refl)
field_agrees dialect names t (Some (x, field)) = asked_agrees _ _ (instance_known dialect names x) kinds.UnknownName t.left (operands.Field x field)

named_agrees : (dialect : Dialect) (names : List DeclaredName) (t : Token) (a b : Bool) → a ≡ b → (o : Option (List ℕ × List ℕ))
    → Agrees (cond a (done (operands.Variable (capitals t.text))) (field_named (made dialect names) t o)) (when (not (b || names_field dialect names o)) kinds.UnknownName t.left)
named_agrees dialect names t true true e o = refl
named_agrees dialect names t false false e o = field_agrees dialect names t o
named_agrees dialect names t true false e o = absurd cc
named_agrees dialect names t false true e o = absurd cc

operand_agrees : (dialect : Dialect) → (names : List DeclaredName) (x : OperandText) → Agrees (operand_of dialect (made dialect names) x) (operand_faults dialect names x)
operand_agrees dialect names (Constant t) = by_literal (literal_in dialect t.text)
  where
    by_literal : (o : Option Literal) → Agrees (constant t o) (when (is_none o) kinds.UnknownName t.left)
    by_literal None = ([], refl)
    by_literal (Some (Bare z)) = refl
    by_literal (Some (Typed v)) = refl
operand_agrees dialect names (Direct t) = by_location (location_in dialect t.text)
  where
    by_location : (o : Option Loc) → Agrees (direct t o) (when (is_none o) kinds.BadLocation t.left)
    by_location None = ([], refl)
    by_location (Some loc) = refl
operand_agrees dialect names (Named t) = named_agrees dialect names t _ _ (name_known dialect names (capitals t.text)) (split_last (capitals t.text))
operand_agrees dialect names (Field t f) = asked_agrees _ _ (instance_known dialect names (capitals t.text)) kinds.UnknownName t.left (operands.Field (capitals t.text) (capitals f.text))

abbrev some : Operand → Option Operand
some x = Some x

field_gives : (a b : Bool) (f : FaultAt) (x y other : Operand) → a ≡ b → cond a (done x) (Err f) ≡ Ok y → cond b x other ≡ y
field_gives true true f x y other e h = ok_is x y h
field_gives true false f x y other e h = absurd cc
field_gives false b f x y other e h = absurd cc

split_gives : (dialect : Dialect) (names : List DeclaredName) (t : Token) (y : Operand) (o : Option (List ℕ × List ℕ)) → field_named (made dialect names) t o ≡ Ok y → field_or dialect names (capitals t.text) o ≡ y
split_gives dialect names t y None h = absurd cc
split_gives dialect names t y (Some (x, field)) h = field_gives _ _ _ (operands.Field x field) y (operands.Variable (capitals t.text)) (instance_known dialect names x) h

named_gives : (dialect : Dialect) (names : List DeclaredName) (t : Token) (y : Operand) (a b : Bool) → a ≡ b → (o : Option (List ℕ × List ℕ))
    → cond a (done (operands.Variable (capitals t.text))) (field_named (made dialect names) t o) ≡ Ok y → cond b (operands.Variable (capitals t.text)) (field_or dialect names (capitals t.text) o) ≡ y
named_gives dialect names t y true true e o h = ok_is (operands.Variable (capitals t.text)) y h
named_gives dialect names t y false false e o h = split_gives dialect names t y o h
named_gives dialect names t y true false e o h = absurd cc
named_gives dialect names t y false true e o h = absurd cc

operand_gives : (dialect : Dialect) → (names : List DeclaredName) (x : OperandText) (y : Operand) → operand_of dialect (made dialect names) x ≡ Ok y → operand_in dialect names x ≡ Some y
operand_gives dialect names (Constant t) y e = by_literal (literal_in dialect t.text) e
  where
    by_literal : (o : Option Literal) → constant t o ≡ Ok y → option_map value_operand o ≡ Some y
    by_literal None h = absurd cc
    by_literal (Some (Bare z)) h = ap some (ok_is (operands.Bare z) y h)
    by_literal (Some (Typed v)) h = ap some (ok_is (operands.Literal v) y h)
operand_gives dialect names (Direct t) y e = by_location (location_in dialect t.text) e
  where
    by_location : (o : Option Loc) → direct t o ≡ Ok y → option_map (λ loc. operands.Direct loc) o ≡ Some y
    by_location None h = absurd cc
    by_location (Some loc) h = ap some (ok_is (operands.Direct loc) y h)
operand_gives dialect names (Named t) y e = ap some (named_gives dialect names t y _ _ (name_known dialect names (capitals t.text)) (split_last (capitals t.text)) e)
operand_gives dialect names (Field t f) y e = ap some (asked_gives (has_instance (made dialect names) (capitals t.text)) _ _ y e)

behind_agrees : (dialect : Dialect) → (names : List DeclaredName) (b : BehindText) → Agrees (behind_of dialect (made dialect names) b) (behind_faults dialect names b)
behind_agrees dialect names Nothing = refl
behind_agrees dialect names (Given x) = operand_agrees dialect names x
behind_agrees dialect names (Target t) = refl
behind_agrees dialect names (Opened None) = refl
behind_agrees dialect names (Opened (Some x)) = operand_agrees dialect names x
behind_agrees dialect names (Called c) = asked_agrees _ _ (instance_known dialect names (capitals c.instance.text)) kinds.UnknownName c.instance.left (operands.Instance (capitals c.instance.text))

behind_gives : (dialect : Dialect) → (names : List DeclaredName) (b : BehindText) (y : Operand) → behind_of dialect (made dialect names) b ≡ Ok y → operand_behind dialect names b ≡ Some y
behind_gives dialect names Nothing y e = ap some (ok_is operands.Absent y e)
behind_gives dialect names (Given x) y e = operand_gives dialect names x y e
behind_gives dialect names (Target t) y e = ap some (ok_is (operands.Label (capitals t.text)) y e)
behind_gives dialect names (Opened None) y e = ap some (ok_is operands.Absent y e)
behind_gives dialect names (Opened (Some x)) y e = operand_gives dialect names x y e
behind_gives dialect names (Called c) y e = ap some (asked_gives (has_instance (made dialect names) (capitals c.instance.text)) _ _ y e)

-- ---- arguments

zip_push : {X Y : Type 0} (R : X → Y → Type 0) (xs : List X) (ys : List Y) (x : X) (y : Y) → AllZip R xs ys → R x y → AllZip R (xs ++ x ∷ []) (ys ++ y ∷ [])
zip_push R [] [] x y all here = (here, tt)
zip_push R [] (z ∷ ys) x y all here = absurd all
zip_push R (z ∷ xs) [] x y all here = absurd all
zip_push R (z ∷ xs) (w ∷ ys) x y all here = (all.0, zip_push R xs ys x y all.1 here)

zip_length : {X Y : Type 0} (R : X → Y → Type 0) (xs : List X) (ys : List Y) → AllZip R xs ys → length ys ≡ length xs
zip_length R [] [] all = refl
zip_length R [] (z ∷ ys) all = absurd all
zip_length R (z ∷ xs) [] all = absurd all
zip_length R (z ∷ xs) (w ∷ ys) all = ap suc (zip_length R xs ys all.1)

abbrev Anything : List ArgumentText → List Argument → Type 0
Anything before found = Unit {0}

argument_agrees : (dialect : Dialect) → (names : List DeclaredName) (a : ArgumentText) (found : List Argument) → Agrees (pushed_argument dialect (made dialect names) found a) (operand_faults dialect names a.operand)
unfolding argument_of
argument_agrees dialect names a found =
    made_agrees (argument_of dialect (made dialect names) a) (λ x. found ++ x ∷ []) (operand_faults dialect names a.operand)
    (made_agrees (operand_of dialect (made dialect names) a.operand) (λ x. record { field = capitals a.field.text; side = a.side; operand = x }) (operand_faults dialect names a.operand) (operand_agrees dialect names a.operand))

arguments_agree : (dialect : Dialect) → (names : List DeclaredName) (b : BehindText) → Agrees (behind_arguments dialect (made dialect names) b) (flat_map (λ a. operand_faults dialect names a.operand) (arguments_behind b))
arguments_agree dialect names Nothing = refl
arguments_agree dialect names (Given x) = refl
arguments_agree dialect names (Target t) = refl
arguments_agree dialect names (Opened o) = refl
arguments_agree dialect names (Called c) =
    subst (λ (fs : List FaultAt). Agrees (each (pushed_argument dialect (made dialect names)) [] (arguments_of c)) fs) (each_by_itself (λ a. operand_faults dialect names a.operand) [] (arguments_of c))
    (each_agrees Anything (pushed_argument dialect (made dialect names)) (λ b a. operand_faults dialect names a.operand) (λ b a found any. argument_agrees dialect names a found) (λ b a found more any e. tt) [] (arguments_of c) [] tt)

argument_gives : (dialect : Dialect) → (names : List DeclaredName) (a : ArgumentText) (x : Argument) → argument_of dialect (made dialect names) a ≡ Ok x → IsArgumentOf dialect names a x
unfolding argument_of
argument_gives dialect names a x e =
    let m = bind_ok (operand_of dialect (made dialect names) a.operand) (λ y. Ok (record { field = capitals a.field.text; side = a.side; operand = y })) x e in
    subst (IsArgumentOf dialect names a) (ok_is (record { field = capitals a.field.text; side = a.side; operand = m.0 }) x m.2) (record { field = refl; side = refl; operand = operand_gives dialect names a.operand m.0 m.1 })

argument_kept : (dialect : Dialect) → (names : List DeclaredName) (before : List ArgumentText) (a : ArgumentText) (found more : List Argument) → AllZip (IsArgumentOf dialect names) before found → pushed_argument dialect (made dialect names) found a ≡ Ok more → AllZip (IsArgumentOf dialect names) (before ++ a ∷ []) more
argument_kept dialect names before a found more all e =
    let m = bind_ok (argument_of dialect (made dialect names) a) (λ x. Ok (found ++ x ∷ [])) more e in
    subst (λ (xs : List Argument). AllZip (IsArgumentOf dialect names) (before ++ a ∷ []) xs) (ok_is (found ++ m.0 ∷ []) more m.2) (zip_push (IsArgumentOf dialect names) before found a m.0 all (argument_gives dialect names a m.0 m.1))

abbrev no_arguments : List Argument
no_arguments = []

arguments_given : (dialect : Dialect) → (names : List DeclaredName) (b : BehindText) (xs : List Argument) → behind_arguments dialect (made dialect names) b ≡ Ok xs → AllZip (IsArgumentOf dialect names) (arguments_behind b) xs
arguments_given dialect names Nothing xs e = subst (λ (ys : List Argument). AllZip (IsArgumentOf dialect names) [] ys) (ok_is no_arguments xs e) tt
arguments_given dialect names (Given x) xs e = subst (λ (ys : List Argument). AllZip (IsArgumentOf dialect names) [] ys) (ok_is no_arguments xs e) tt
arguments_given dialect names (Target t) xs e = subst (λ (ys : List Argument). AllZip (IsArgumentOf dialect names) [] ys) (ok_is no_arguments xs e) tt
arguments_given dialect names (Opened o) xs e = subst (λ (ys : List Argument). AllZip (IsArgumentOf dialect names) [] ys) (ok_is no_arguments xs e) tt
arguments_given dialect names (Called c) xs e = each_kept (λ before found. AllZip (IsArgumentOf dialect names) before found) (pushed_argument dialect (made dialect names)) (argument_kept dialect names) [] (arguments_of c) [] xs tt e

-- ---- lines

abbrev instruction : Option (List ℕ) → OperationText → Operand → List Argument → Instr
instruction label o x arguments = record { label = label; op = o.operator.mnemonic.op; modifier = with_opening (opens o.behind) o.operator.mnemonic.modifier; operand = x; arguments = arguments }

instruction_agrees : (dialect : Dialect) → (names : List DeclaredName) (label : Option (List ℕ)) (o : Option OperationText) → Agrees (instruction_of dialect (made dialect names) label o) (operation_faults dialect names o)
unfolding instruction_of
instruction_agrees dialect names label None = refl
instruction_agrees dialect names label (Some o) =
    then_agrees (behind_of dialect (made dialect names) o.behind) (λ x. behind_arguments dialect (made dialect names) o.behind >>= λ arguments. Ok (instruction label o x arguments)) _ _ (behind_agrees dialect names o.behind)
    (λ x e. made_agrees (behind_arguments dialect (made dialect names) o.behind) (λ arguments. instruction label o x arguments) _ (arguments_agree dialect names o.behind))

record IsGiven (dialect : Dialect) (names : List DeclaredName) (name : Option (List ℕ)) (o : Option OperationText) (x : Instr) : Type 0 where
  label : x.label ≡ name
  is : IsBehindLabel dialect names o x

instruction_gives : (dialect : Dialect) → (names : List DeclaredName) (label : Option (List ℕ)) (o : Option OperationText) (x : Instr) → instruction_of dialect (made dialect names) label o ≡ Ok x → IsGiven dialect names label o x
unfolding instruction_of
instruction_gives dialect names label None x e =
    subst (IsGiven dialect names label None) (ok_is (record { label = label; op = ops.Empty; modifier = plain; operand = operands.Absent; arguments = [] }) x e) (record { label = refl; is = record { op = refl; modifier = refl; operand = refl; arguments = refl } })
instruction_gives dialect names label (Some o) x e =
    let a = bind_ok (behind_of dialect (made dialect names) o.behind) (λ y. behind_arguments dialect (made dialect names) o.behind >>= λ arguments. Ok (instruction label o y arguments)) x e in
    let b = bind_ok (behind_arguments dialect (made dialect names) o.behind) (λ arguments. Ok (instruction label o a.0 arguments)) x a.2 in
    subst (IsGiven dialect names label (Some o)) (ok_is (instruction label o a.0 b.0) x b.2)
    (record { label = refl; is = record { op = refl; modifier = refl; operand = behind_gives dialect names o.behind a.0 a.1; arguments = arguments_given dialect names o.behind b.0 b.1 } })

-- ---- the words of a line

operation_long : (dialect : Dialect) (names : List DeclaredName) (o : OperationText) (x : Instr) → IsOperationOf dialect names o x → word_count x ≡ operation_words (Some o)
operation_long dialect names o x is = ap (λ (n : ℕ). 1 + n) (zip_length (IsArgumentOf dialect names) (arguments_behind o.behind) x.arguments is.arguments)

behind_long : (dialect : Dialect) (names : List DeclaredName) (o : Option OperationText) (x : Instr) → IsBehindLabel dialect names o x → word_count x ≡ operation_words o
behind_long dialect names None x is = ap (λ (args : List Argument). 1 + length args) is.arguments
behind_long dialect names (Some o) x is = operation_long dialect names o x is

line_long : (dialect : Dialect) (names : List DeclaredName) (l : LineText) (x : Instr) → IsInstructionOf dialect names l x → word_count x ≡ line_words l
line_long dialect names (Labelled t o) x is = behind_long dialect names o x is.1
line_long dialect names (Plain o) x is = operation_long dialect names o x is.1

lines_long : (dialect : Dialect) (names : List DeclaredName) (ls : List LineText) (code : List Instr) → AllZip (IsInstructionOf dialect names) ls code → words_in code ≡ text_words ls
lines_long dialect names [] [] all = refl
lines_long dialect names [] (x ∷ code) all = absurd all
lines_long dialect names (l ∷ ls) [] all = absurd all
lines_long dialect names (l ∷ ls) (x ∷ code) all =
    let one = line_long dialect names l x all.0 in
    let more = lines_long dialect names ls code all.1 in
    omega (arith, one, more)

room_agrees : (dialect : Dialect) (names : List DeclaredName) → (before : List LineText) (code : List Instr) (words left : ℕ) → AllZip (IsInstructionOf dialect names) before code
    → Agrees (room dialect code words left) (when (are_too_many dialect (suc (length before)) (text_words before + words)) kinds.TooMany left)
room_agrees dialect names before code words left all =
    let count = zip_length (IsInstructionOf dialect names) before code all in
    let sum = lines_long dialect names before code all in
    last_agrees _ _ (ap (λ (n : ℕ). are_too_many dialect (suc n) (words_in code + words)) count ∙ ap (λ (n : ℕ). are_too_many dialect (suc (length before)) (n + words)) sum) kinds.TooMany left tt

label_agrees : (t : Token) → Agrees (label_of t) (when (is_reserved (capitals t.text)) kinds.ReservedName t.left)
label_agrees t = last_agrees (is_reserved (capitals t.text)) _ refl kinds.ReservedName t.left (capitals t.text)

label_gives : (t : Token) (name : List ℕ) → label_of t ≡ Ok name → capitals t.text ≡ name
label_gives t name e = chosen (is_reserved (capitals t.text)) e
  where
    chosen : (b : Bool) → cond b (refused kinds.ReservedName t) (Ok (capitals t.text)) ≡ Ok name → capitals t.text ≡ name
    chosen true h = absurd cc
    chosen false h = ok_is (capitals t.text) name h

labelled_agrees : (dialect : Dialect) → (names : List DeclaredName) (before : List LineText) (code : List Instr) (t : Token) (o : Option OperationText) → AllZip (IsInstructionOf dialect names) before code → Agrees (instruct_labelled dialect (made dialect names) code t o) (line_faults dialect names before (Labelled t o))
unfolding instruct_labelled
labelled_agrees dialect names before code t o all =
    then_agrees (label_of t) (λ label. room dialect code (operation_words o) t.left >>= λ here. instruction_of dialect (made dialect names) (Some label) o >>= λ line. Ok (code ++ line ∷ [])) _ _ (label_agrees t)
    (λ label e. then_agrees (room dialect code (operation_words o) t.left) (λ here. instruction_of dialect (made dialect names) (Some label) o >>= λ line. Ok (code ++ line ∷ [])) _ _ (room_agrees dialect names before code (operation_words o) t.left all)
    (λ here f. made_agrees (instruction_of dialect (made dialect names) (Some label) o) (λ line. code ++ line ∷ []) _ (instruction_agrees dialect names (Some label) o)))

plain_agrees : (dialect : Dialect) → (names : List DeclaredName) (before : List LineText) (code : List Instr) (o : OperationText) → AllZip (IsInstructionOf dialect names) before code → Agrees (instruct_plain dialect (made dialect names) code o) (line_faults dialect names before (Plain o))
unfolding instruct_plain
plain_agrees dialect names before code o all =
    then_agrees (room dialect code (operation_words (Some o)) o.operator.left) (λ here. instruction_of dialect (made dialect names) None (Some o) >>= λ line. Ok (code ++ line ∷ [])) _ _ (room_agrees dialect names before code (operation_words (Some o)) o.operator.left all)
    (λ here f. made_agrees (instruction_of dialect (made dialect names) None (Some o)) (λ line. code ++ line ∷ []) _ (instruction_agrees dialect names None (Some o)))

line_agrees : (dialect : Dialect) → (names : List DeclaredName) (before : List LineText) (l : LineText) (code : List Instr) → AllZip (IsInstructionOf dialect names) before code → Agrees (instruct dialect (made dialect names) code l) (line_faults dialect names before l)
line_agrees dialect names before (Labelled t o) code all = labelled_agrees dialect names before code t o all
line_agrees dialect names before (Plain o) code all = plain_agrees dialect names before code o all

labelled_kept : (dialect : Dialect) → (names : List DeclaredName) (before : List LineText) (code more : List Instr) (t : Token) (o : Option OperationText) → AllZip (IsInstructionOf dialect names) before code → instruct_labelled dialect (made dialect names) code t o ≡ Ok more → AllZip (IsInstructionOf dialect names) (before ++ Labelled t o ∷ []) more
unfolding instruct_labelled
labelled_kept dialect names before code more t o all e =
    let a = bind_ok (label_of t) (λ label. room dialect code (operation_words o) t.left >>= λ here. instruction_of dialect (made dialect names) (Some label) o >>= λ line. Ok (code ++ line ∷ [])) more e in
    let b = bind_ok (room dialect code (operation_words o) t.left) (λ here. instruction_of dialect (made dialect names) (Some a.0) o >>= λ line. Ok (code ++ line ∷ [])) more a.2 in
    let c = bind_ok (instruction_of dialect (made dialect names) (Some a.0) o) (λ line. Ok (code ++ line ∷ [])) more b.2 in
    let g = instruction_gives dialect names (Some a.0) o c.0 c.1 in
    subst (λ (xs : List Instr). AllZip (IsInstructionOf dialect names) (before ++ Labelled t o ∷ []) xs) (ok_is (code ++ c.0 ∷ []) more c.2)
    (zip_push (IsInstructionOf dialect names) before code (Labelled t o) c.0 all (g.label ∙ ap (λ (name : List ℕ). Some name) (sym (label_gives t a.0 a.1)), g.is))

plain_kept : (dialect : Dialect) → (names : List DeclaredName) (before : List LineText) (code more : List Instr) (o : OperationText) → AllZip (IsInstructionOf dialect names) before code → instruct_plain dialect (made dialect names) code o ≡ Ok more → AllZip (IsInstructionOf dialect names) (before ++ Plain o ∷ []) more
unfolding instruct_plain
plain_kept dialect names before code more o all e =
    let b = bind_ok (room dialect code (operation_words (Some o)) o.operator.left) (λ here. instruction_of dialect (made dialect names) None (Some o) >>= λ line. Ok (code ++ line ∷ [])) more e in
    let c = bind_ok (instruction_of dialect (made dialect names) None (Some o)) (λ line. Ok (code ++ line ∷ [])) more b.2 in
    let g = instruction_gives dialect names None (Some o) c.0 c.1 in
    subst (λ (xs : List Instr). AllZip (IsInstructionOf dialect names) (before ++ Plain o ∷ []) xs) (ok_is (code ++ c.0 ∷ []) more c.2) (zip_push (IsInstructionOf dialect names) before code (Plain o) c.0 all (g.label, g.is))

line_kept : (dialect : Dialect) → (names : List DeclaredName) (before : List LineText) (l : LineText) (code more : List Instr) → AllZip (IsInstructionOf dialect names) before code → instruct dialect (made dialect names) code l ≡ Ok more → AllZip (IsInstructionOf dialect names) (before ++ l ∷ []) more
line_kept dialect names before (Labelled t o) code more all e = labelled_kept dialect names before code more t o all e
line_kept dialect names before (Plain o) code more all e = plain_kept dialect names before code more o all e

lines_agree : (dialect : Dialect) → (names : List DeclaredName) (ls : List LineText) → Agrees (each (instruct dialect (made dialect names)) [] ls) (beside (line_faults dialect names) [] ls)
lines_agree dialect names ls = each_agrees (λ before code. AllZip (IsInstructionOf dialect names) before code) (instruct dialect (made dialect names)) (line_faults dialect names) (line_agrees dialect names) (line_kept dialect names) [] ls [] tt

lines_kept : (dialect : Dialect) → (names : List DeclaredName) (ls : List LineText) (code : List Instr) → each (instruct dialect (made dialect names)) [] ls ≡ Ok code → AllZip (IsInstructionOf dialect names) ls code
lines_kept dialect names ls code e = each_kept (λ before found. AllZip (IsInstructionOf dialect names) before found) (instruct dialect (made dialect names)) (line_kept dialect names) [] ls [] code tt e

-- ---- a text

abbrev made_of : Declarations → List Instr → Program
made_of known code = record { variables = known.variables; instances = known.instances; code = code }

-- the walk ends at the first fault, and not where there is none
pub program_agrees : (dialect : Dialect) → (p : ProgramText) → Agrees (program_at dialect p) (faults_of dialect p)
unfolding program_at
program_agrees dialect p =
    then_agrees (each (declare_block dialect) nothing p.blocks) (λ known. each (instruct dialect known) [] p.lines >>= λ code. Ok (made_of known code)) _ _ (blocks_agree dialect p)
    (λ known e. made_agrees (each (instruct dialect known) [] p.lines) (made_of known) (beside (line_faults dialect (names_of p)) [] p.lines)
    (subst (λ (y : Declarations). Agrees (each (instruct dialect y) [] p.lines) (beside (line_faults dialect (names_of p)) [] p.lines)) (sym (blocks_kept dialect p known e).keeps) (lines_agree dialect (names_of p) p.lines)))

-- what the walk finds is the program of the text
pub program_kept : (dialect : Dialect) → (p : ProgramText) (P : Program) → program_at dialect p ≡ Ok P → IsProgramOf dialect p P
unfolding program_at
program_kept dialect p P e =
    let a = bind_ok (each (declare_block dialect) nothing p.blocks) (λ known. each (instruct dialect known) [] p.lines >>= λ code. Ok (made_of known code)) P e in
    let b = bind_ok (each (instruct dialect a.0) [] p.lines) (λ code. Ok (made_of a.0 code)) P a.2 in
    let kept = blocks_kept dialect p a.0 a.1 in
    subst (IsProgramOf dialect p) (ok_is (made_of a.0 b.0) P b.2)
    (record {
      variables = ap (λ (known : Declarations). known.variables) kept.keeps ∙ kept.starts;
      instances = ap (λ (known : Declarations). known.instances) kept.keeps;
      code = lines_kept dialect (names_of p) p.lines b.0 (subst (λ (y : Declarations). each (instruct dialect y) [] p.lines ≡ Ok b.0) kept.keeps b.1);
    })
