-- A program of lawful parts has an image once its bare numbers have types.
use Rattle.std.proofs.Common.{◌≡◌, ℕ, zero, suc, ◌<◌, Bool, true, false, cond, ltb, List, [], ◌∷◌, length, Option, Some, None, Ok, refl, sym, ap, subst, ◌∙◌, arith}
use Rattle.std.specs.Prelude.{ℤ, pos, negsuc, map, slice_get, ◌||◌}
use Rattle.std.specs.Option.{option_map, option_and_then}
use Rattle.std.specs.List.{list_any, AllByRecursion}
use Rattle.std.proofs.lemmas.Option.{slice_get_within}
use Rattle.std.proofs.lemmas.List.{length-map}
use Rattle.il_values.specs.declared.value.Ty.{Ty}
use Rattle.il_values.specs.declared.value.Ty.TheVariants as types
use Rattle.il_values.specs.declared.value.Value.{Value}
use Rattle.il_values.specs.declared.value.Value.TheVariants as values
use Rattle.il_values.specs.declared.op.Op.{Op}
use Rattle.il_values.specs.declared.op.Modifier.{Modifier}
use Rattle.il_model.specs.declared.codes.OperandForm.{OperandForm}
use Rattle.il_model.specs.declared.codes.OperandForm.TheVariants as forms
use Rattle.il_model.specs.declared.codes.Usage.{Usage}
use Rattle.il_model.specs.declared.kind.Field.{Field}
use Rattle.il_model.specs.declared.program.Variable.{Variable}
use Rattle.il_model.specs.declared.program.Argument.{Argument}
use Rattle.il_model.specs.declared.program.Side.{Side}
use Rattle.il_model.specs.declared.program.Side.TheVariants as sides
use Rattle.il_model.specs.declared.program.Operand.{Operand}
use Rattle.il_model.specs.declared.program.Operand.TheVariants as operands
use Rattle.il_model.specs.declared.program.Instr.{Instr}
use Rattle.il_model.specs.Program.{Program, Declarations, declared_by}
use Rattle.il_values.specs.Values.{ty_of, number_of, is_within, typed_value, bare_value}
use Rattle.il_model.specs.Kinds.{any_field, field_type}
use Rattle.il_model.specs.Typing.{Shape}
use Rattle.il_model.specs.Marks.{word_count, words_in}
use Rattle.il_model.specs.Checking.{shape_at, typing_end, HasNoTypeFault}
use Rattle.il_model.specs.Codes.{usage_of, has_form, formed_by}
use Rattle.il_model.specs.Fits.{IsVariable, IsInstance, AreItems, IsImage}
use Rattle.il_model.specs.Lawful.{IsOperand, IsPassed, IsLawful, AreLawful}
use Rattle.il_model.specs.Declarable.{as_value, IsArgument, IsInstruction, IsDeclared}
use Rattle.il_model.specs.Declarable as declarable
use Rattle.il_model.specs.Settled.{wanted_type, settled_number, settled_as, settled_operand, settled_passing, settled_argument, settled_line, typed_program_of, is_bare, has_bare, IsTypedProgramOf}
use Rattle.il_model.proofs.TypedLines.{bind_ok, ok_before}
use Rattle.il_model.proofs.Judged.{arrives, faultless}
use Rattle.il_values.proofs.RealValues.{real_is, real_again, bare_made}
use Rattle.il_values.proofs.BitValues.{bits_are, bits_again}
use Rattle.il_model.proofs.Lawful.{lawful_image}
use Rattle.il_model.proofs.SettledPrograms.{typed_plain, typed_program}

-- ---- one operand

keeps : (b : Bool) (x v : Value) → cond b (Some x) None ≡ Some v → (b ≡ true) × (x ≡ v)
keeps true x v e = (refl, cc)
keeps false x v e = absurd cc

truth_again : (a b : Bool) (v : Value) → cond a (Some (values.Bool false)) (cond b (Some (values.Bool true)) None) ≡ Some v → typed_value (ty_of v) (number_of v) ≡ Some v
truth_again true b v e = let is : values.Bool false ≡ v = cc in subst (λ (w : Value). typed_value (ty_of w) (number_of w) ≡ Some w) is refl
truth_again false true v e = let is : values.Bool true ≡ v = cc in subst (λ (w : Value). typed_value (ty_of w) (number_of w) ≡ Some w) is refl
truth_again false false v e = absurd cc

-- a value that was made is made again of its own type and number
made_again : (t : Ty) (z : ℤ) (v : Value) → typed_value t z ≡ Some v → typed_value (ty_of v) (number_of v) ≡ Some v
made_again types.Bool (pos n) v e = truth_again (ltb n 1) (ltb n 2) v e
made_again types.Bool (negsuc n) v e = absurd cc
made_again types.Int z v e = let k = keeps (is_within 32768 z) (values.Int z) v e in subst (λ (w : Value). typed_value (ty_of w) (number_of w) ≡ Some w) k.1 (rw k.0 refl)
made_again types.Dint z v e = let k = keeps (is_within 2147483648 z) (values.Dint z) v e in subst (λ (w : Value). typed_value (ty_of w) (number_of w) ≡ Some w) k.1 (rw k.0 refl)
made_again types.Lint z v e = let k = keeps (is_within 9223372036854775808 z) (values.Lint z) v e in subst (λ (w : Value). typed_value (ty_of w) (number_of w) ≡ Some w) k.1 (rw k.0 refl)
made_again types.Time z v e = let k = keeps (is_within 2147483648 z) (values.Time z) v e in subst (λ (w : Value). typed_value (ty_of w) (number_of w) ≡ Some w) k.1 (rw k.0 refl)
made_again types.Real z v e = let m = real_is z v e in subst (λ (w : Value). typed_value (ty_of w) (number_of w) ≡ Some w) m.1 (real_again m.0)
made_again types.Word z v e = let m = bits_are 65536 values.Word z v e in subst (λ (w : Value). typed_value (ty_of w) (number_of w) ≡ Some w) m.is (bits_again 65536 values.Word m.pattern m.small)
made_again types.Dword z v e = let m = bits_are 4294967296 values.Dword z v e in subst (λ (w : Value). typed_value (ty_of w) (number_of w) ≡ Some w) m.is (bits_again 4294967296 values.Dword m.pattern m.small)

by_type : (wanted : Option Ty) (z : ℤ) (v : Value) → option_and_then (λ t. bare_value t z) wanted ≡ Some v → typed_value (ty_of v) (number_of v) ≡ Some v
by_type None z v e = absurd cc
by_type (Some t) z v e = made_again t z v (bare_made t z v e)

bare_operand : (ds : Declarations) (z : ℤ) (o : Option Value) → ((v : Value) → o ≡ Some v → typed_value (ty_of v) (number_of v) ≡ Some v) → is_bare (settled_as z o) ≡ false → IsOperand ds (settled_as z o)
bare_operand ds z (Some v) fits e = fits v refl
bare_operand ds z None fits e = absurd cc

-- an operand that is no bare number
plain_operand : (ds : Declarations) (o : Operand) → declarable.IsOperand ds o → is_bare o ≡ false → IsOperand ds o
plain_operand ds operands.Absent is e = tt
plain_operand ds (operands.Literal v) is e = is
plain_operand ds (operands.Bare z) is e = absurd cc
plain_operand ds (operands.Variable name) is e = is
plain_operand ds (operands.Direct loc) is e = is
plain_operand ds (operands.Label name) is e = tt
plain_operand ds (operands.Field name field) is e = is
plain_operand ds (operands.Instance name) is e = is

operand_fits : (ds : Declarations) (cr : Option Ty) (op : Op) (m : Modifier) (o : Operand) → declarable.IsOperand ds o → is_bare (settled_operand cr op m o) ≡ false → IsOperand ds (settled_operand cr op m o)
operand_fits ds cr op m operands.Absent is e = tt
operand_fits ds cr op m (operands.Literal v) is e = is
operand_fits ds cr op m (operands.Bare z) is e = bare_operand ds z (settled_number cr op m.opens z) (λ v h. by_type (wanted_type cr op m.opens z) z v h) e
operand_fits ds cr op m (operands.Variable name) is e = is
operand_fits ds cr op m (operands.Direct loc) is e = is
operand_fits ds cr op m (operands.Label name) is e = tt
operand_fits ds cr op m (operands.Field name field) is e = is
operand_fits ds cr op m (operands.Instance name) is e = is

-- ---- its form

form_of_literal : (f : OperandForm) (opens : Bool) (v w : Value) → has_form f opens (operands.Literal v) ≡ true → has_form f opens (operands.Literal w) ≡ true
form_of_literal forms.Absent opens v w e = absurd cc
form_of_literal forms.Value opens v w e = refl
form_of_literal forms.Label opens v w e = absurd cc
form_of_literal forms.Instance opens v w e = absurd cc

formed_of_literal : (usage : Usage) (m : Modifier) (v w : Value) → formed_by usage m (operands.Literal v) ≡ true → formed_by usage m (operands.Literal w) ≡ true
formed_of_literal usage m v w e = form_of_literal usage.form m.opens v w e

bare_formed : (usage : Usage) (m : Modifier) (z : ℤ) (o : Option Value) → formed_by usage m (as_value (operands.Bare z)) ≡ true → is_bare (settled_as z o) ≡ false → formed_by usage m (settled_as z o) ≡ true
bare_formed usage m z (Some v) formed e = formed_of_literal usage m (values.Dint z) v formed
bare_formed usage m z None formed e = absurd cc

formed_fits : (usage : Usage) (cr : Option Ty) (op : Op) (m : Modifier) (o : Operand) → formed_by usage m (as_value o) ≡ true → is_bare (settled_operand cr op m o) ≡ false → formed_by usage m (settled_operand cr op m o) ≡ true
formed_fits usage cr op m operands.Absent is e = is
formed_fits usage cr op m (operands.Literal v) is e = is
formed_fits usage cr op m (operands.Bare z) is e = bare_formed usage m z (settled_number cr op m.opens z) is e
formed_fits usage cr op m (operands.Variable name) is e = is
formed_fits usage cr op m (operands.Direct loc) is e = is
formed_fits usage cr op m (operands.Label name) is e = is
formed_fits usage cr op m (operands.Field name field) is e = is
formed_fits usage cr op m (operands.Instance name) is e = is

-- ---- arguments

bare_form : (z : ℤ) (o : Option Value) → is_bare (settled_as z o) ≡ false → has_form forms.Value false (settled_as z o) ≡ true
bare_form z (Some v) e = refl
bare_form z None e = absurd cc

plain_form : (o : Operand) → has_form forms.Value false (as_value o) ≡ true → is_bare o ≡ false → has_form forms.Value false o ≡ true
plain_form operands.Absent is e = is
plain_form (operands.Literal v) is e = is
plain_form (operands.Bare z) is e = absurd cc
plain_form (operands.Variable name) is e = is
plain_form (operands.Direct loc) is e = is
plain_form (operands.Label name) is e = is
plain_form (operands.Field name field) is e = is
plain_form (operands.Instance name) is e = is

-- an operand that may be passed
record IsPassable (ds : Declarations) (o : Operand) : Type 0 where
  form : has_form forms.Value false o ≡ true
  operand : IsOperand ds o

plain_passes : (ds : Declarations) (o : Operand) → declarable.IsOperand ds o → has_form forms.Value false (as_value o) ≡ true → is_bare o ≡ false → IsPassable ds o
plain_passes ds o is formed e = record { form = plain_form o formed e; operand = plain_operand ds o is e }

passes : (ds : Declarations) (side : Side) (field : Option Field) (o : Operand) → declarable.IsOperand ds o → has_form forms.Value false (as_value o) ≡ true → is_bare (settled_passing side field o) ≡ false
    → IsPassable ds (settled_passing side field o)
passes ds sides.Input (Some field) (operands.Bare z) is formed e =
    record { form = bare_form z (typed_value (field_type field) z) e; operand = bare_operand ds z (typed_value (field_type field) z) (λ v h. made_again (field_type field) z v h) e }
passes ds sides.Input (Some field) operands.Absent is formed e = plain_passes ds operands.Absent is formed e
passes ds sides.Input (Some field) (operands.Literal v) is formed e = plain_passes ds (operands.Literal v) is formed e
passes ds sides.Input (Some field) (operands.Variable name) is formed e = plain_passes ds (operands.Variable name) is formed e
passes ds sides.Input (Some field) (operands.Direct loc) is formed e = plain_passes ds (operands.Direct loc) is formed e
passes ds sides.Input (Some field) (operands.Label name) is formed e = plain_passes ds (operands.Label name) is formed e
passes ds sides.Input (Some field) (operands.Field name x) is formed e = plain_passes ds (operands.Field name x) is formed e
passes ds sides.Input (Some field) (operands.Instance name) is formed e = plain_passes ds (operands.Instance name) is formed e
passes ds sides.Input None o is formed e = plain_passes ds o is formed e
passes ds sides.Output field o is formed e = plain_passes ds o is formed e

argument_fits : (ds : Declarations) (a : Argument) → IsArgument ds a → is_bare (settled_argument a).operand ≡ false → IsPassed ds (settled_argument a)
argument_fits ds a is e =
    let p = passes ds a.side (any_field a.field) a.operand is.operand is.formed e in
    record { form = p.form; operand = p.operand }

neither : (a b : Bool) → (a || b) ≡ false → (a ≡ false) × (b ≡ false)
neither true b e = absurd cc
neither false b e = (refl, e)

abbrev has_bare_operand : Argument → Bool
has_bare_operand a = is_bare a.operand

arguments_fit : (ds : Declarations) (args : List Argument) → AllByRecursion (IsArgument ds) args → list_any has_bare_operand (map settled_argument args) ≡ false → AllByRecursion (IsPassed ds) (map settled_argument args)
arguments_fit ds [] are e = tt
arguments_fit ds (a ∷ args) are e =
    let n = neither (has_bare_operand (settled_argument a)) (list_any has_bare_operand (map settled_argument args)) e in
    (argument_fits ds a are.0 n.0, arguments_fit ds args are.1 n.1)

-- ---- one instruction

line_fits : (ds : Declarations) (cr : Option Ty) (line : Instr) → IsInstruction ds line → has_bare (settled_line cr line) ≡ false → IsLawful ds (settled_line cr line)
line_fits ds cr line is e =
    let n = neither (is_bare (settled_operand cr line.op line.modifier line.operand)) (list_any has_bare_operand (map settled_argument line.arguments)) e in
    record {
      letters = is.letters;
      form = formed_fits (usage_of line.op) cr line.op line.modifier line.operand is.formed n.0;
      operand = operand_fits ds cr line.op line.modifier line.operand is.operand n.0;
      arguments = arguments_fit ds line.arguments is.arguments n.1;
      label = is.label;
      labelled = is.placed;
    }

-- ---- all instructions

nth_is : (P : Instr → Type 0) (code : List Instr) → AllByRecursion P code → (n : ℕ) (line : Instr) → slice_get code n ≡ Some line → P line
nth_is P [] are n line e = absurd cc
nth_is P (x ∷ xs) are zero line e = let is : x ≡ line = cc in subst P is are.0
nth_is P (x ∷ xs) are (suc n) line e = nth_is P xs are.1 n line e

all_lawful : (ds : Declarations) (code : List Instr) → ((n : ℕ) (line : Instr) → slice_get code n ≡ Some line → IsLawful ds line) → AreLawful ds code
all_lawful ds [] each = tt
all_lawful ds (x ∷ xs) each = (each 0 x refl, all_lawful ds xs (λ n line e. each (suc n) line e))

mapped_some : (f : Instr → Instr) (o : Option Instr) (line : Instr) → option_map f o ≡ Some line → (p : Instr) × (o ≡ Some p) × (f p ≡ line)
mapped_some f None line e = absurd cc
mapped_some f (Some p) line e = (p, refl, cc)

typed_shape : (Q : Program) → HasNoTypeFault Q → (sh : Shape) × (shape_at Q (length Q.code) ≡ Ok sh)
typed_shape Q typed = let b = bind_ok (shape_at Q (length Q.code)) (typing_end Q) tt typed in (b.0, b.1)

settled_lines : (P Q : Program) → IsDeclared P → IsTypedProgramOf P Q → (n : ℕ) (line : Instr) → slice_get Q.code n ≡ Some line → IsLawful (declared_by P) line
settled_lines P Q is t n line e =
    let lt : n < length Q.code = slice_get_within Q.code n line e in
    let whole = typed_shape Q (faultless Q t.typed) in
    let sh = ok_before Q (length Q.code) whole.0 whole.1 n (omega arith) in
    let at = arrives Q n sh.0 (omega arith) sh.1 in
    let m = mapped_some (settled_line sh.0.cr) (slice_get P.code n) line (sym (t.placed n sh.0 at) ∙ e) in
    let one = nth_is (IsInstruction (declared_by P)) P.code is.lines n m.0 m.1 in
    let bare : has_bare (settled_line sh.0.cr m.0) ≡ false = ap has_bare m.2 ∙ typed_plain Q (faultless Q t.typed) n line e in
    subst (IsLawful (declared_by P)) m.2 (line_fits (declared_by P) sh.0.cr m.0 one bare)

same_declared : (P Q : Program) → Q.variables ≡ P.variables → Q.instances ≡ P.instances → declared_by P ≡ declared_by Q
same_declared P Q vs xs = cc

same_words : (ps qs : List Instr) → length qs ≡ length ps → ((n : ℕ) (q : Instr) → slice_get qs n ≡ Some q → (p : Instr) × (slice_get ps n ≡ Some p) × (word_count q ≡ word_count p)) → words_in qs ≡ words_in ps
same_words [] [] e each = refl
same_words [] (q ∷ qs) e each = absurd cc
same_words (p ∷ ps) [] e each = absurd cc
same_words (p ∷ ps) (q ∷ qs) e each =
    let one = each 0 q refl in
    let here = one.1 in
    let is : p ≡ one.0 = cc in
    let more = same_words ps qs (omega (arith, e)) (λ n r h. each (suc n) r h) in
    omega (arith, more, one.2, ap word_count is)

-- as many words, since a bare number and its literal are one
settled_words : (P Q : Program) → IsTypedProgramOf P Q → words_in Q.code ≡ words_in P.code
settled_words P Q t = same_words P.code Q.code t.count (λ n line e.
    let lt : n < length Q.code = slice_get_within Q.code n line e in
    let whole = typed_shape Q (faultless Q t.typed) in
    let sh = ok_before Q (length Q.code) whole.0 whole.1 n (omega arith) in
    let at = arrives Q n sh.0 (omega arith) sh.1 in
    let m = mapped_some (settled_line sh.0.cr) (slice_get P.code n) line (sym (t.placed n sh.0 at) ∙ e) in
    let settled : settled_line sh.0.cr m.0 ≡ line = m.2 in
    (m.0, m.1, omega (arith, ap word_count settled, length-map m.0.arguments settled_argument)))

declared_fits : (P Q : Program) → IsDeclared P → IsTypedProgramOf P Q → IsImage Q
declared_fits P Q is t =
    let vs : Q.variables ≡ P.variables = t.variables in
    let xs : Q.instances ≡ P.instances = t.instances in
    let lines : AreLawful (declared_by P) Q.code = all_lawful (declared_by P) Q.code (settled_lines P Q is t) in
    let instances : AreItems (IsInstance Q.variables) [] P.instances = subst (λ (seen : List Variable). AreItems (IsInstance seen) [] P.instances) (sym vs) is.instances in
    let words : words_in Q.code ≡ words_in P.code = settled_words P Q t in
    lawful_image Q
    (subst (AreItems IsVariable []) (sym vs) is.variables)
    (subst (AreItems (IsInstance Q.variables) []) (sym xs) instances)
    (record { variables = rw vs is.variables_few; instances = rw xs is.instances_few; code = rw t.count is.lines_few; words = rw (t.count, words) is.uncrowded })
    (subst (λ (ds : Declarations). AreLawful ds Q.code) (same_declared P Q vs xs) lines)
    t.typed

-- a declared program has an image once its bare numbers have types
pub declared_image : (P Q : Program) → IsDeclared P → typed_program_of P ≡ Ok Q → IsImage Q
declared_image P Q is e = declared_fits P Q is (typed_program P Q e)
