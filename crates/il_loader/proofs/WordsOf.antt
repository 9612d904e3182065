-- The words of a program: they stand for its instructions, and are read.
use Rattle.std.proofs.Common.{◌≡◌, ℕ, suc, ◌+◌, ◌<◌, Bool, true, false, List, [], ◌∷◌, ◌++◌, length, map, Option, Some, None, refl, sym, ap, subst, ◌∙◌, append_assoc, arith}
use Rattle.std.specs.Prelude.{nat_eq, ◌||◌}
use Rattle.std.specs.List.{flat_map, position, AllByRecursion}
use Rattle.std.specs.Option.{option_map, option_and_then}
use Rattle.std.proofs.lemmas.Bool.{eqb-true}
use Rattle.std.proofs.lemmas.Grind.{flat_map-append}
use Rattle.std.proofs.lemmas.List.{length-append, length-map}
use Rattle.il_values.specs.declared.value.Value.{Value}
use Rattle.il_model.specs.declared.kind.BlockKind.{BlockKind}
use Rattle.il_model.specs.declared.program.Argument.{Argument}
use Rattle.il_model.specs.declared.program.Instr.{Instr}
use Rattle.il_model.specs.Kinds.{field_number}
use Rattle.il_model.specs.Program.{Program, declared_by}
use Rattle.il_model.specs.Resolved.{called_kind}
use Rattle.il_model.specs.Marks.{marks_from, word_count, words_in}
use Rattle.il_model.specs.Constants.{constants_of}
use Rattle.il_model.specs.Image.{operand_code, field_number_code, word_bytes, argument_bytes, instruction_bytes}
use Rattle.il_model.specs.Codes.{argument_name, is_call}
use Rattle.il_model.specs.Fits.{IsPassing, IsWord, AreItems}
use Rattle.il_model.proofs.Marks.{AreLabelled}
use Rattle.il_model.proofs.Positions.{position_later}
use Rattle.il_loader.specs.declared.word.Word.{Word}
use Rattle.il_loader.specs.declared.word.Content.TheVariants as contents
use Rattle.il_loader.specs.Tables.{front_arguments, lines_of}
use Rattle.il_loader.specs.Judging.{stray_from}
use Rattle.il_loader.proofs.Records.{IsNext, IsArgumentRead, read_word_bytes}
use Rattle.il_loader.proofs.Groups.{more_seen}
use Rattle.il_loader.proofs.Used.{IsCoded}
use Rattle.il_loader.proofs.WordsRead.{silent}

abbrev number_for : Option BlockKind → Argument → ℕ
number_for kind a = field_number_code (option_and_then (λ k. field_number k a.field) kind)

abbrev word_for : Program → List Value → Option BlockKind → Argument → Word
word_for Q cs kind a = record { content = contents.Argument a.side (number_for kind a) a.operand; code = operand_code Q cs a.operand }

abbrev argument_words : Program → List Value → Option BlockKind → List Argument → List Word
argument_words Q cs kind args = map (word_for Q cs kind) args

abbrev first_word : Program → List Value → Instr → Word
first_word Q cs line = record { content = contents.Instruction (record line { arguments = [] }); code = operand_code Q cs line.operand }

-- an instruction's word, and those of its arguments
abbrev pub words_of : Program → List Value → List Instr → List Word
words_of Q cs [] = []
words_of Q cs (line ∷ code) = first_word Q cs line ∷ (argument_words Q cs (called_kind Q line.operand) line.arguments ++ words_of Q cs code)

abbrev AreInstructions : Program → List Instr → List Instr → Type 0
AreInstructions Q was code = AreItems (λ seen. IsWord Q) was code

-- ---- they stand for its instructions

front_none : (Q : Program) (cs : List Value) (kind : Option BlockKind) (code : List Instr) → front_arguments kind (words_of Q cs code) ≡ []
front_none Q cs kind [] = refl
front_none Q cs kind (line ∷ code) = refl

number_again : (kind : Option BlockKind) (a : Argument) (n : ℕ) → option_and_then (λ k. field_number k a.field) kind ≡ Some n → number_for kind a ≡ n
number_again kind a n e = ap field_number_code e

argument_again : (Q : Program) (kind : Option BlockKind) (a : Argument) → IsPassing Q kind a → record { field = argument_name kind (number_for kind a); side = a.side; operand = a.operand } ≡ a
argument_again Q kind a is = ap (λ (name : List ℕ). (let r : Argument = record { field = name; side = a.side; operand = a.operand } in r)) (ap (argument_name kind) (number_again kind a is.number is.field) ∙ is.name)

front_again : (Q : Program) (cs : List Value) (kind : Option BlockKind) (args : List Argument) (rest : List Word) → AllByRecursion (IsPassing Q kind) args → front_arguments kind rest ≡ [] → front_arguments kind (argument_words Q cs kind args ++ rest) ≡ args
front_again Q cs kind [] rest are none = none
front_again Q cs kind (a ∷ args) rest are none = ap (λ (b : Argument). b ∷ front_arguments kind (argument_words Q cs kind args ++ rest)) (argument_again Q kind a are.0) ∙ ap (λ (more : List Argument). a ∷ more) (front_again Q cs kind args rest are.1 none)

lines_behind : (Q : Program) (cs : List Value) (kind : Option BlockKind) (args : List Argument) (rest : List Word) → lines_of Q.instances (argument_words Q cs kind args ++ rest) ≡ lines_of Q.instances rest
lines_behind Q cs kind [] rest = refl
lines_behind Q cs kind (a ∷ args) rest = lines_behind Q cs kind args rest

pub lines_again : (Q : Program) (cs : List Value) (was code : List Instr) → AreInstructions Q was code → lines_of Q.instances (words_of Q cs code) ≡ code
lines_again Q cs was [] are = refl
lines_again Q cs was (line ∷ code) are =
    let kind = called_kind Q line.operand in
    let rest = words_of Q cs code in
    ap (λ (args : List Argument). record line { arguments = args } ∷ lines_of Q.instances (argument_words Q cs kind line.arguments ++ rest)) (front_again Q cs kind line.arguments rest are.0.arguments (front_none Q cs kind code))
    ∙ ap (λ (lines : List Instr). line ∷ lines) (lines_behind Q cs kind line.arguments rest ∙ lines_again Q cs (was ++ line ∷ []) code are.1)

pub words_long : (Q : Program) (cs : List Value) (code : List Instr) → length (words_of Q cs code) ≡ words_in code
words_long Q cs [] = refl
words_long Q cs (line ∷ code) =
    let args = argument_words Q cs (called_kind Q line.operand) line.arguments in
    omega (arith, length-append args (words_of Q cs code), length-map line.arguments (word_for Q cs (called_kind Q line.operand)), words_long Q cs code)

-- ---- they are spelled as it is

arguments_bytes : (Q : Program) (cs : List Value) (kind : Option BlockKind) (args : List Argument) → flat_map read_word_bytes (argument_words Q cs kind args) ≡ flat_map (argument_bytes Q cs kind) args
arguments_bytes Q cs kind [] = refl
arguments_bytes Q cs kind (a ∷ args) = ap (λ (b : List ℕ). argument_bytes Q cs kind a ++ b) (arguments_bytes Q cs kind args)

pub bytes_again : (Q : Program) (cs : List Value) (code : List Instr) → flat_map read_word_bytes (words_of Q cs code) ≡ flat_map (instruction_bytes Q cs) code
bytes_again Q cs [] = refl
bytes_again Q cs (line ∷ code) =
    let kind = called_kind Q line.operand in
    let args = argument_words Q cs kind line.arguments in
    let rest = words_of Q cs code in
    ap (λ (b : List ℕ). word_bytes Q cs line ++ b) (flat_map-append read_word_bytes args rest ∙ ap (λ (b : List ℕ). b ++ flat_map read_word_bytes rest) (arguments_bytes Q cs kind line.arguments) ∙ ap (λ (b : List ℕ). flat_map (argument_bytes Q cs kind) line.arguments ++ b) (bytes_again Q cs code))
    ∙ sym (append_assoc (word_bytes Q cs line) (flat_map (argument_bytes Q cs kind) line.arguments) (flat_map (instruction_bytes Q cs) code))

-- ---- they use its constants

arguments_coded : (Q : Program) (cs : List Value) (kind : Option BlockKind) (args : List Argument) (rest : List Word) → AllByRecursion (IsCoded Q cs) rest → AllByRecursion (IsCoded Q cs) (argument_words Q cs kind args ++ rest)
arguments_coded Q cs kind [] rest are = are
arguments_coded Q cs kind (a ∷ args) rest are = (refl, arguments_coded Q cs kind args rest are)

pub words_coded : (Q : Program) (cs : List Value) (code : List Instr) → AllByRecursion (IsCoded Q cs) (words_of Q cs code)
words_coded Q cs [] = tt
words_coded Q cs (line ∷ code) = (refl, arguments_coded Q cs (called_kind Q line.operand) line.arguments (words_of Q cs code) (words_coded Q cs code))

-- ---- they are read

record IsBehind (Q : Program) (n : ℕ) (rest : List Word) : Type 0 where
  read : (seen : List Word) → length seen ≡ n → AreItems (IsNext (declared_by Q) (marks_from 0 Q.code) (constants_of Q)) seen rest

argument_read : (Q : Program) (kind : Option BlockKind) (a : Argument) → IsPassing Q kind a → IsArgumentRead (declared_by Q) (constants_of Q) (number_for kind a) a.operand (operand_code Q (constants_of Q) a.operand)
argument_read Q kind a is = record { number_read = subst (λ (n : ℕ). n < 8) (sym (number_again kind a is.number is.field)) is.small; operand_read = is.operand_read; operand_small = is.operand_small }

arguments_read : (Q : Program) (kind : Option BlockKind) (args : List Argument) (rest seen : List Word) → AllByRecursion (IsPassing Q kind) args → IsBehind Q (length seen + length args) rest
    → AreItems (IsNext (declared_by Q) (marks_from 0 Q.code) (constants_of Q)) seen (argument_words Q (constants_of Q) kind args ++ rest)
arguments_read Q kind [] rest seen are behind = behind.read seen (omega arith)
arguments_read Q kind (a ∷ args) rest seen are behind =
    let w = word_for Q (constants_of Q) kind a in
    let next : IsBehind Q (length (seen ++ w ∷ []) + length args) rest = record { read = λ s long. behind.read s (omega (arith, long, more_seen seen w)) } in
    (argument_read Q kind a are.0, arguments_read Q kind args rest (seen ++ w ∷ []) are.1 next)

pub words_again : (Q : Program) (was : List Instr) (seen : List Word) (code : List Instr) → AreInstructions Q was code → AreLabelled (marks_from 0 Q.code) (length seen) code → AreItems (IsNext (declared_by Q) (marks_from 0 Q.code) (constants_of Q)) seen (words_of Q (constants_of Q) code)
words_again Q was seen [] are labels = tt
words_again Q was seen (line ∷ code) are labels =
    let cs = constants_of Q in
    let w = first_word Q cs line in
    let behind : IsBehind Q (length (seen ++ w ∷ []) + length line.arguments) (words_of Q cs code) = record {
      read = λ s long. words_again Q (was ++ line ∷ []) s code are.1 (subst (λ (n : ℕ). AreLabelled (marks_from 0 Q.code) n code) (let z : length seen + word_count line ≡ length s = omega (arith, long, more_seen seen w) in z) labels.1);
    } in
    (record { label = labels.0; bare = refl; coded = are.0.coded }, arguments_read Q (called_kind Q line.operand) line.arguments (words_of Q cs code) (seen ++ w ∷ []) are.0.arguments behind)

-- ---- no argument is stray, and none says nothing

arguments_follow : (Q : Program) (cs : List Value) (kind : Option BlockKind) (args : List Argument) (rest : List Word) (may : Bool) → (may || nat_eq (length args) 0) ≡ true → ((may : Bool) → stray_from may rest ≡ None) → stray_from may (argument_words Q cs kind args ++ rest) ≡ None
arguments_follow Q cs kind [] rest may called none = none may
arguments_follow Q cs kind (a ∷ args) rest true called none = ap (option_map suc) (arguments_follow Q cs kind args rest true refl none)
arguments_follow Q cs kind (a ∷ args) rest false called none = absurd (let is : length (a ∷ args) ≡ 0 = eqb-true (length (a ∷ args)) 0 called in omega (arith, is))

pub none_stray : (Q : Program) (cs : List Value) (was code : List Instr) (may : Bool) → AreInstructions Q was code → stray_from may (words_of Q cs code) ≡ None
none_stray Q cs was [] may are = refl
none_stray Q cs was (line ∷ code) may are = ap (option_map suc) (arguments_follow Q cs (called_kind Q line.operand) line.arguments (words_of Q cs code) (is_call line.op) are.0.called (λ b. none_stray Q cs (was ++ line ∷ []) code b are.1))

arguments_loud : (Q : Program) (cs : List Value) (kind : Option BlockKind) (args : List Argument) (rest : List Word) → position silent rest ≡ None → position silent (argument_words Q cs kind args ++ rest) ≡ None
arguments_loud Q cs kind [] rest none = none
arguments_loud Q cs kind (a ∷ args) rest none = position_later silent (word_for Q cs kind a) (argument_words Q cs kind args ++ rest) refl ∙ ap (option_map suc) (arguments_loud Q cs kind args rest none)

pub none_silent : (Q : Program) (cs : List Value) (was code : List Instr) → AreInstructions Q was code → position silent (words_of Q cs code) ≡ None
none_silent Q cs was [] are = refl
none_silent Q cs was (line ∷ code) are =
    let rest = argument_words Q cs (called_kind Q line.operand) line.arguments ++ words_of Q cs code in
    position_later silent (first_word Q cs line) rest are.0.labelled ∙ ap (option_map suc) (arguments_loud Q cs (called_kind Q line.operand) line.arguments (words_of Q cs code) (none_silent Q cs (was ++ line ∷ []) code are.1))
