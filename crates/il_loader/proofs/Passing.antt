-- The arguments of calls, read from words and spelled in words.
use Rattle.std.proofs.Common.{◌≡◌, ℕ, ◌<◌, ◌^◌, List, [], Option, Some, None, refl, sym, ap, subst, ◌∙◌}
use Rattle.std.specs.Prelude.{slice_get}
use Rattle.std.specs.List.{AllByRecursion}
use Rattle.std.specs.Option.{option_map}
use Rattle.il_model.specs.declared.kind.BlockKind.{BlockKind}
use Rattle.il_model.specs.declared.kind.Field.{Field}
use Rattle.il_model.specs.declared.program.Side.{Side}
use Rattle.il_model.specs.declared.program.Operand.{Operand}
use Rattle.il_model.specs.declared.program.Argument.{Argument}
use Rattle.il_model.specs.Kinds.{kind_fields, field_number}
use Rattle.il_model.specs.Program.{Program, declared_by}
use Rattle.il_model.specs.Checking.{arguments_fault}
use Rattle.il_model.specs.Marks.{marks_from}
use Rattle.il_model.specs.Constants.{constants_of}
use Rattle.il_model.specs.Image.{operand_code, side_code, field_number_code, coded_word, argument_bytes}
use Rattle.il_model.specs.Codes.{argument_name, argument_operand}
use Rattle.il_model.specs.Fits.{IsPassing}
use Rattle.il_model.proofs.TypedLines.{IsArgumentOf, arguments_typed, no_arguments}
use Rattle.il_loader.specs.declared.word.Content.TheVariants as contents
use Rattle.il_loader.proofs.Records.{IsArgumentRead, content_bytes}
use Rattle.il_loader.proofs.Words.{AreKnown, numbered_again, argument_again}

own_by : (n m : ℕ) (f : Option Field) → option_map (λ (f : Field). n) f ≡ Some m → option_map (λ (f : Field). n) f ≡ Some n
own_by n m None e = absurd cc
own_by n m (Some f) e = refl

-- the number that the name of a number's field has is that number
own_number : (kind : BlockKind) (n m : ℕ) → field_number kind (argument_name (Some kind) n) ≡ Some m → field_number kind (argument_name (Some kind) n) ≡ Some n
own_number kind n m e = numbered_again kind n ∙ own_by n m (slice_get (kind_fields kind) n) (sym (numbered_again kind n) ∙ e)

-- the argument of a word, in a call to a block of that kind
abbrev pub passed_in : Option BlockKind → Side → ℕ → Operand → Argument
passed_in kind side number operand = record { field = argument_name kind number; side = side; operand = operand }

-- an argument that was read, and has no fault, is spelled as it was read
pub passing_is : (Q : Program) (k : BlockKind) (side : Side) (number : ℕ) (operand : Operand) (code : ℕ) → AreKnown Q (marks_from 0 Q.code) (constants_of Q) → IsArgumentRead (declared_by Q) (constants_of Q) number operand code → IsArgumentOf Q k (passed_in (Some k) side number operand)
    → IsPassing Q (Some k) (passed_in (Some k) side number operand) × (argument_bytes Q (constants_of Q) (Some k) (passed_in (Some k) side number operand) ≡ content_bytes code (contents.Argument side number operand))
passing_is Q k side number operand code known read is =
    let cs = constants_of Q in
    let numbered = own_number k number is.number is.numbered in
    let code-is : operand_code Q cs operand ≡ code = argument_again Q (marks_from 0 Q.code) cs code operand known read.operand_read in (
      record {
        number = number;
        field = numbered;
        name = refl;
        small = read.number_read;
        operand_read = subst (λ (n : ℕ). argument_operand (declared_by Q) cs n ≡ Some operand) (sym code-is) read.operand_read;
        operand_small = subst (λ (n : ℕ). n < 2 ^ 16) (sym code-is) read.operand_small;
      },
      ap (λ (o : Option ℕ). coded_word (side_code side) (field_number_code o) (operand_code Q cs operand)) numbered ∙ ap (coded_word (side_code side) number) code-is,
    )

-- arguments without a fault: in a call to a block each has a field, else there are none
abbrev pub AreTyped : Program → Option BlockKind → List Argument → Type 0
AreTyped Q None args = args ≡ []
AreTyped Q (Some k) args = AllByRecursion (IsArgumentOf Q k) args

pub are_typed : (Q : Program) (kind : Option BlockKind) (args : List Argument) → arguments_fault Q kind [] args ≡ None → AreTyped Q kind args
are_typed Q None args e = no_arguments Q [] args e
are_typed Q (Some k) args e = arguments_typed Q k [] args e
