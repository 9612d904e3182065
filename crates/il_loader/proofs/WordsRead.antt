-- The instructions of words that were read have those words as their spelling.
use Rattle.std.proofs.Common.{◌≡◌, ℕ, suc, Bool, true, false, cond, List, [], ◌∷◌, ◌++◌, length, Option, Some, None, refl, sym, ap, subst, ◌∙◌, append_assoc}
use Rattle.std.specs.Prelude.{nat_eq, not, ◌&&◌, ◌||◌}
use Rattle.std.specs.List.{flat_map, position, AllByRecursion}
use Rattle.std.specs.Option.{option_map}
use Rattle.il_model.specs.declared.kind.BlockKind.{BlockKind}
use Rattle.il_model.specs.declared.program.Argument.{Argument}
use Rattle.il_model.specs.declared.program.Instr.{Instr}
use Rattle.il_model.specs.Program.{Program, declared_by}
use Rattle.il_model.specs.Resolved.{called_kind}
use Rattle.il_model.specs.Marks.{marks_from}
use Rattle.il_model.specs.Constants.{constants_of}
use Rattle.il_model.specs.Image.{modifier_code, operand_code, coded_word, word_bytes, argument_bytes, instruction_bytes}
use Rattle.il_values.specs.OpCodes.{op_code}
use Rattle.il_model.specs.Codes.{is_call, is_pointless}
use Rattle.il_model.specs.Fits.{IsPassing, IsCoded, IsWord, AreItems}
use Rattle.il_model.proofs.Positions.{position_first, position_later}
use Rattle.il_model.proofs.Calls.{IsTypedLine}
use Rattle.il_loader.specs.declared.word.Word.{Word}
use Rattle.il_loader.specs.declared.word.Content.{Content}
use Rattle.il_loader.specs.declared.word.Content.TheVariants as contents
use Rattle.il_loader.specs.Tables.{is_argument, with_argument, front_arguments, with_line, lines_of}
use Rattle.il_loader.specs.Judging.{says_nothing, takes_argument, stray_from}
use Rattle.il_loader.proofs.Records.{IsRead, content_bytes, read_word_bytes}
use Rattle.il_loader.proofs.Groups.{none_front}
use Rattle.il_loader.proofs.Words.{AreKnown, code_again}
use Rattle.il_loader.proofs.Used.{IsReadSomewhere}
use Rattle.il_loader.proofs.Passing.{passed_in, passing_is, AreTyped, are_typed}

-- instructions, and in front of them arguments of a call to a block of that kind, with these bytes
record AreSpelled (Q : Program) (kind : Option BlockKind) (args : List Argument) (code : List Instr) (bytes : List ℕ) : Type 0 where
  passing : AllByRecursion (IsPassing Q kind) args
  words : (seen : List Instr) → AreItems (λ seen. IsWord Q) seen code
  same : flat_map (argument_bytes Q (constants_of Q) kind) args ++ flat_map (instruction_bytes Q (constants_of Q)) code ≡ bytes

abbrev IsSpelled : Program → Option BlockKind → List Word → Type 0
IsSpelled Q kind ws = AreSpelled Q kind (front_arguments kind ws) (lines_of Q.instances ws) (flat_map read_word_bytes ws)

some_not : (o : Option ℕ) → option_map suc o ≡ None → o ≡ None
some_not None e = refl
some_not (Some k) e = absurd cc

may_by : (b : Bool) (o : Option ℕ) → cond b (Some 0) (option_map suc o) ≡ None → o ≡ None
may_by true o e = absurd cc
may_by false o e = some_not o e

called_by : (kind : Option BlockKind) (b : Bool) (ws : List Word) → stray_from b ws ≡ None → (b || nat_eq (length (front_arguments kind ws)) 0) ≡ true
called_by kind true ws e = refl
called_by kind false ws e = ap (λ (args : List Argument). nat_eq (length args) 0) (none_front kind ws e).1

instruction_spelled : (Q : Program) (n code : ℕ) (line : Instr) (ws : List Word) (kind : Option BlockKind) → AreKnown Q (marks_from 0 Q.code) (constants_of Q) → IsRead (declared_by Q) (marks_from 0 Q.code) (constants_of Q) n code (contents.Instruction line)
    → IsTypedLine Q (record line { arguments = front_arguments (called_kind Q line.operand) ws }) → stray_from (is_call line.op) ws ≡ None → is_pointless line ≡ false → IsSpelled Q (called_kind Q line.operand) ws
    → AreSpelled Q kind [] (record line { arguments = front_arguments (called_kind Q line.operand) ws } ∷ lines_of Q.instances ws) (content_bytes code (contents.Instruction line) ++ flat_map read_word_bytes ws)
instruction_spelled Q n code line ws kind known read typed stray pointed more =
    let ms = marks_from 0 Q.code in
    let cs = constants_of Q in
    let k = called_kind Q line.operand in
    let args = front_arguments k ws in
    let code-is : operand_code Q cs line.operand ≡ code = code_again Q ms cs line.op line.modifier code line.operand typed.source known typed.sourced read.coded.operand_read in
    let one : IsWord Q (record line { arguments = args }) = record {
      coded = subst (λ (c : ℕ). IsCoded (declared_by Q) ms cs line.op line.modifier line.operand c) (sym code-is) read.coded;
      labelled = pointed;
      arguments = more.passing;
      called = called_by k (is_call line.op) ws stray;
    } in
    record {
      passing = tt;
      words = λ seen. (one, more.words (seen ++ record line { arguments = args } ∷ []));
      same = append_assoc (word_bytes Q cs line) (flat_map (argument_bytes Q cs k) args) (flat_map (instruction_bytes Q cs) (lines_of Q.instances ws))
          ∙ ap (λ (b : List ℕ). word_bytes Q cs line ++ b) more.same
          ∙ ap (λ (c : ℕ). coded_word (op_code line.op) (modifier_code line.modifier) c ++ flat_map read_word_bytes ws) code-is;
    }

argument_spelled : (Q : Program) (n code : ℕ) (c : Content) (ws : List Word) (k : BlockKind) (one : Argument) → IsPassing Q (Some k) one → argument_bytes Q (constants_of Q) (Some k) one ≡ content_bytes code c → IsSpelled Q (Some k) ws
    → AreSpelled Q (Some k) (one ∷ front_arguments (Some k) ws) (lines_of Q.instances ws) (content_bytes code c ++ flat_map read_word_bytes ws)
argument_spelled Q n code c ws k one passing same more =
    let cs = constants_of Q in
    record {
      passing = (passing, more.passing);
      words = more.words;
      same = append_assoc (argument_bytes Q cs (Some k) one) (flat_map (argument_bytes Q cs (Some k)) (front_arguments (Some k) ws)) (flat_map (instruction_bytes Q cs) (lines_of Q.instances ws))
          ∙ ap (λ (b : List ℕ). argument_bytes Q cs (Some k) one ++ b) more.same
          ∙ ap (λ (b : List ℕ). b ++ flat_map read_word_bytes ws) same;
    }

-- what is known of words behind which the others stand
abbrev Rest : Program → List Word → Type 0
Rest Q ws = (kind : Option BlockKind) (may : Bool) → AllByRecursion (IsTypedLine Q) (lines_of Q.instances ws) → AreTyped Q kind (front_arguments kind ws) → stray_from may ws ≡ None → IsSpelled Q kind ws

word_spelled : (Q : Program) (n code : ℕ) (c : Content) (ws : List Word) (kind : Option BlockKind) (may : Bool) → AreKnown Q (marks_from 0 Q.code) (constants_of Q) → IsRead (declared_by Q) (marks_from 0 Q.code) (constants_of Q) n code c
    → AllByRecursion (IsTypedLine Q) (with_line Q.instances c ws (lines_of Q.instances ws)) → AreTyped Q kind (with_argument kind c (front_arguments kind ws))
    → cond (is_argument c && not may) (Some 0) (option_map suc (stray_from (takes_argument c) ws)) ≡ None → says_nothing c ≡ false → Rest Q ws
    → AreSpelled Q kind (with_argument kind c (front_arguments kind ws)) (with_line Q.instances c ws (lines_of Q.instances ws)) (content_bytes code c ++ flat_map read_word_bytes ws)
word_spelled Q n code (contents.Instruction line) ws kind may known read typed passed stray pointed rest =
    let k = called_kind Q line.operand in
    let behind : stray_from (is_call line.op) ws ≡ None = some_not (stray_from (is_call line.op) ws) stray in
    instruction_spelled Q n code line ws kind known read typed.0 behind pointed (rest k (is_call line.op) typed.1 (are_typed Q k (front_arguments k ws) typed.0.arguments) behind)
word_spelled Q n code (contents.Argument side number operand) ws None may known read typed passed stray pointed rest = absurd cc
word_spelled Q n code (contents.Argument side number operand) ws (Some k) may known read typed passed stray pointed rest =
    let behind : stray_from true ws ≡ None = may_by (not may) (stray_from true ws) stray in
    let p = passing_is Q k side number operand code known read passed.0 in
    argument_spelled Q n code (contents.Argument side number operand) ws k (passed_in (Some k) side number operand) p.0 p.1 (rest (Some k) true typed passed.1 behind)

no_first : (o : Option ℕ) → o ≡ Some 0 → o ≡ None → ⊥
no_first o e h = cc

silent_by : {X : Type 0} (p : X → Bool) (b : Bool) (x : X) (xs : List X) → p x ≡ b → position p (x ∷ xs) ≡ None → (p x ≡ false) × (position p xs ≡ None)
silent_by p true x xs e h = absurd (no_first (position p (x ∷ xs)) (position_first p x xs e) h)
silent_by p false x xs e h = (e, some_not (position p xs) (sym (position_later p x xs e) ∙ h))

abbrev pub silent : Word → Bool
silent w = says_nothing w.content

words_spelled : (Q : Program) (ws : List Word) → AreKnown Q (marks_from 0 Q.code) (constants_of Q) → AllByRecursion (IsReadSomewhere (declared_by Q) (marks_from 0 Q.code) (constants_of Q)) ws → position silent ws ≡ None → Rest Q ws
words_spelled Q [] known read pointed kind may typed passed stray = record { passing = tt; words = λ seen. tt; same = refl }
words_spelled Q (w ∷ ws) known read pointed kind may typed passed stray =
    let p = silent_by silent (silent w) w ws refl pointed in
    word_spelled Q read.0.number w.code w.content ws kind may known read.0.read typed passed stray p.0 (words_spelled Q ws known read.1 p.1)

-- the words of a typed program that were read
pub record AreWords (Q : Program) (ws : List Word) : Type 0 where
  pub words : AreItems (λ seen. IsWord Q) [] (lines_of Q.instances ws)
  pub same : flat_map read_word_bytes ws ≡ flat_map (instruction_bytes Q (constants_of Q)) (lines_of Q.instances ws)

pub are_words : (Q : Program) (ws : List Word) → AreKnown Q (marks_from 0 Q.code) (constants_of Q) → AllByRecursion (IsReadSomewhere (declared_by Q) (marks_from 0 Q.code) (constants_of Q)) ws
    → AllByRecursion (IsTypedLine Q) (lines_of Q.instances ws) → position silent ws ≡ None → stray_from false ws ≡ None → AreWords Q ws
are_words Q ws known read typed pointed stray =
    let front = (none_front None ws stray).1 in
    let s = words_spelled Q ws known read pointed None false typed front stray in
    record { words = s.words []; same = sym s.same ∙ ap (λ (args : List Argument). flat_map (argument_bytes Q (constants_of Q) None) args ++ flat_map (instruction_bytes Q (constants_of Q)) (lines_of Q.instances ws)) front }
