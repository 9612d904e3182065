-- Each instruction of a typed program says the line that it was read from.
use Rattle.std.proofs.Common.{◌≡◌, ℕ, Bool, true, false, List, [], ◌∷◌, map, Option, Some, None, refl, sym, ap, ◌∙◌, subst, inl, inr}
use Rattle.std.specs.Prelude.{◌⊎◌, option_map, option_and_then, if◌then◌else◌}
use Rattle.std.specs.List.{AllZip}
use Rattle.il_values.specs.declared.op.Op.{Op}
use Rattle.il_values.specs.declared.op.Op.TheVariants as ops
use Rattle.il_values.specs.declared.op.Modifier.{Modifier}
use Rattle.il_model.specs.declared.dialect.Dialect.TheVariants as dialects
use Rattle.il_model.specs.declared.words.Mnemonic.{Mnemonic}
use Rattle.il_model.specs.declared.program.Argument.{Argument}
use Rattle.il_model.specs.declared.program.Operand.{Operand}
use Rattle.il_model.specs.declared.program.Operand.TheVariants as operands
use Rattle.il_model.specs.declared.program.Instr.{Instr}
use Rattle.il_model.specs.declared.fetched.Source.TheVariants as sources
use Rattle.il_model.specs.Program.{Program}
use Rattle.il_model.specs.Resolved.{target_of}
use Rattle.il_model.specs.Settled.{settled_line, settled_operand, settled_argument}
use Rattle.il_model.specs.Typing.{Shape, Arrives, Leads, Takes}
use Rattle.il_reader.specs.declared.operations.Form.TheVariants as forms
use Rattle.il_reader.specs.Tokens.{Token}
use Rattle.il_reader.specs.Grammar.{BehindText, Nothing, Given, Target, Opened, Called, OperationText, LineText, Labelled, Plain, form_of}
use Rattle.il_declarations.specs.Resolution.{capitals, opens, with_opening}
use Rattle.il_declarations.specs.Declaring.{DeclaredName, operand_behind, arguments_behind, IsArgumentOf, IsOperationOf, IsEmpty, IsInstructionOf}
use Rattle.il_units.specs.declared.word.Sort.{Sort}
use Rattle.il_units.specs.declared.word.Sort.TheVariants as sorts
use Rattle.il_units.specs.declared.word.Word.{Word}
use Rattle.il_units.specs.declared.word.Line.{Line}
use Rattle.laws_calls.specs.Lines as lines
use Rattle.laws_calls.specs.Lines.{Control, Jump, Return, Performs, control_of, control_by, behind_operator, is_label, letters_of}
use Rattle.laws_calls.specs.Controller.{IsPerformed, SaysWords, SaysLine, label_text}
use Rattle.laws_reading.specs.Lines.{word_token, unplaced, unplaced_behind, unplaced_operation, unplaced_line, behind_of, operation_of, line_of}
use Rattle.laws_meaning.specs.Instructions.{instruction_of, read_by}
use Rattle.laws_meaning.proofs.Controls.{IsSaid, AreSaid, IsCapital, IsToldBySorts}
use Rattle.laws_meaning.proofs.Operations.{instruction_same, instruction_is, Parts, parts_of, opens_not, letters_kept}

some_is : {A : Type 0} (x y : A) → Some x ≡ Some y → x ≡ y
some_is x y e = cc

-- ---- what a line that was read is

-- a label alone, or an operation that the words say
pub record ReadLine (names : List DeclaredName) (o : Option Word) (ws : List Word) (p : Instr) : Type 0 where
  pub label : p.label ≡ label_text o
  pub words : ((ws ≡ []) × IsEmpty p) ⊎ ((x : OperationText) × (operation_of (map word_token ws) ≡ Some (unplaced_operation x)) × IsOperationOf dialects.Extended names x p)

plain_by : (names : List DeclaredName) (ws : List Word) (x : OperationText) (p : Instr) (r : Option OperationText) → operation_of (map word_token ws) ≡ r → IsInstructionOf dialects.Extended names (Plain x) p
    → Some (Plain (unplaced_operation x)) ≡ option_map Plain r → ReadLine names None ws p
plain_by names ws x p None is i e = absurd cc
plain_by names ws x p (Some y) is i e =
    let line : Plain (unplaced_operation x) ≡ Plain y = some_is (Plain (unplaced_operation x)) (Plain y) e in
    let same : unplaced_operation x ≡ y = cc in
    record { label = i.0; words = inr (x, is ∙ ap (λ (z : OperationText). Some z) (sym same), i.1) }

not_plain : (t : Token) (o : Option OperationText) (r : Option OperationText) → Some (Labelled t o) ≡ option_map Plain r → ⊥
not_plain t o None e = absurd cc
not_plain t o (Some y) e = let line : Labelled t o ≡ Plain y = some_is (Labelled t o) (Plain y) e in absurd cc

labelled_is : (t : Token) (o : Option OperationText) (u : Token) (q : Option OperationText) → Labelled t o ≡ Labelled u q → (t ≡ u) × (o ≡ q)
labelled_is t o u q e = (cc, cc)

label_is : (w : Word) (t : Token) (p : Instr) → unplaced t ≡ word_token w → capitals w.text ≡ w.text → p.label ≡ Some (capitals t.text) → p.label ≡ label_text (Some w)
label_is w t p e capital is = is ∙ ap (λ (u : Token). Some (capitals u.text)) e ∙ ap (λ (x : List ℕ). Some x) capital

labelled_by : (names : List DeclaredName) (w v : Word) (ws : List Word) (t : Token) (o : Option OperationText) (p : Instr) (r : Option OperationText) → operation_of (map word_token (v ∷ ws)) ≡ r → capitals w.text ≡ w.text
    → IsInstructionOf dialects.Extended names (Labelled t o) p → Some (unplaced_line (Labelled t o)) ≡ option_map (λ (y : OperationText). Labelled (word_token w) (Some y)) r → ReadLine names (Some w) (v ∷ ws) p
labelled_by names w v ws t o p None is capital i e = absurd cc
labelled_by names w v ws t None p (Some y) is capital i e =
    let line : Labelled (unplaced t) None ≡ Labelled (word_token w) (Some y) = some_is (Labelled (unplaced t) None) (Labelled (word_token w) (Some y)) e in
    let parts = labelled_is (unplaced t) None (word_token w) (Some y) line in
    let clash : None ≡ Some y = parts.1 in absurd cc
labelled_by names w v ws t (Some x) p (Some y) is capital i e =
    let line : Labelled (unplaced t) (Some (unplaced_operation x)) ≡ Labelled (word_token w) (Some y) = some_is (Labelled (unplaced t) (Some (unplaced_operation x))) (Labelled (word_token w) (Some y)) e in
    let parts = labelled_is (unplaced t) (Some (unplaced_operation x)) (word_token w) (Some y) line in
    record { label = label_is w t p parts.0 capital i.0; words = inr (x, is ∙ sym parts.1, i.1) }

alone_is : (names : List DeclaredName) (w : Word) (t : Token) (o : Option OperationText) (p : Instr) → capitals w.text ≡ w.text → IsInstructionOf dialects.Extended names (Labelled t o) p
    → Some (unplaced_line (Labelled t o)) ≡ Some (Labelled (word_token w) None) → ReadLine names (Some w) [] p
alone_is names w t None p capital i e =
    let parts = labelled_is (unplaced t) None (word_token w) None (some_is (Labelled (unplaced t) None) (Labelled (word_token w) None) e) in
    record { label = label_is w t p parts.0 capital i.0; words = inl (refl, i.1) }
alone_is names w t (Some x) p capital i e =
    let parts = labelled_is (unplaced t) (Some (unplaced_operation x)) (word_token w) None (some_is (Labelled (unplaced t) (Some (unplaced_operation x))) (Labelled (word_token w) None) e) in
    let clash : Some (unplaced_operation x) ≡ None = parts.1 in absurd cc

not_labelled : (x : OperationText) (u : Token) (r : Option OperationText) → Some (Plain x) ≡ option_map (λ (y : OperationText). Labelled u (Some y)) r → ⊥
not_labelled x u None e = absurd cc
not_labelled x u (Some y) e = let line : Plain x ≡ Labelled u (Some y) = some_is (Plain x) (Labelled u (Some y)) e in absurd cc

not_alone : (x : OperationText) (u : Token) → Some (Plain x) ≡ Some (Labelled u None) → ⊥
not_alone x u e = let line : Plain x ≡ Labelled u None = some_is (Plain x) (Labelled u None) e in absurd cc

pub line_is : (names : List DeclaredName) (o : Option Word) (ws : List Word) (x : LineText) (p : Instr) → IsCapital o → IsInstructionOf dialects.Extended names x p → Some (unplaced_line x) ≡ line_of (option_map word_token o) (map word_token ws) → ReadLine names o ws p
line_is names None ws (Plain x) p capital i e = plain_by names ws x p (operation_of (map word_token ws)) refl i e
line_is names None ws (Labelled t o) p capital i e = absurd (not_plain (unplaced t) (option_map unplaced_operation o) (operation_of (map word_token ws)) e)
line_is names (Some w) [] (Labelled t o) p capital i e = alone_is names w t o p capital i e
line_is names (Some w) [] (Plain x) p capital i e = absurd (not_alone (unplaced_operation x) (word_token w) e)
line_is names (Some w) (v ∷ ws) (Labelled t o) p capital i e = labelled_by names w v ws t o p (operation_of (map word_token (v ∷ ws))) refl capital i e
line_is names (Some w) (v ∷ ws) (Plain x) p capital i e = absurd (not_labelled (unplaced_operation x) (word_token w) (operation_of (map word_token (v ∷ ws))) e)

-- ---- the instruction of the typed program

-- at a position: the instruction that was read, that of the typed program, and how it's typed there
pub record Stands (P Q : Program) (k : ℕ) (p q : Instr) : Type 0 where
  pub settled : (shape : Shape) → Arrives Q k shape → q ≡ settled_line shape.cr p
  pub before : Shape
  pub after : Shape
  pub arrives : Arrives Q k before
  pub leads : Leads Q k q before after

module _ (names : List DeclaredName) (P Q : Program) (k : ℕ) (p q : Instr) (at : Stands P Q k p q) where
  here : q ≡ settled_line at.before.cr p
  here = at.settled at.before at.arrives

  abbrev Says : List Word → Control → Type 0
  Says ws c = SaysWords (read_by names) Q k ws c q

  operand_at : (x : Operand) → p.operand ≡ x → settled_operand at.before.cr p.op p.modifier x ≡ x → q.operand ≡ x
  operand_at x e same = ap (λ (i : Instr). i.operand) here ∙ ap (settled_operand at.before.cr p.op p.modifier) e ∙ same

  no_arguments : p.arguments ≡ [] → q.arguments ≡ []
  no_arguments e = ap (λ (i : Instr). i.arguments) here ∙ ap (map settled_argument) e

  empty_says : IsEmpty p → Says [] lines.Nothing
  empty_says is = (ap (λ (i : Instr). i.op) here ∙ is.op, operand_at operands.Absent is.operand refl, no_arguments is.arguments)

  none_given : (xs : List Argument) → AllZip (IsArgumentOf dialects.Extended names) [] xs → xs ≡ []
  none_given [] all = refl
  none_given (x ∷ xs) all = absurd all

  performs_says : (ws : List Word) (x : OperationText) → operation_of (map word_token ws) ≡ Some (unplaced_operation x) → IsOperationOf dialects.Extended names x p → IsPerformed x.operator.mnemonic.op → Says ws Performs
  performs_says ws x e is performed =
      let op : q.op ≡ x.operator.mnemonic.op = ap (λ (i : Instr). i.op) here ∙ is.op in (
        subst IsPerformed (sym op) performed,
        λ (shape : Shape) (arrives : Arrives Q k shape).
            ap (λ (o : Option OperationText). option_map (settled_line shape.cr) (option_and_then (instruction_of names) o)) e
            ∙ ap (option_map (settled_line shape.cr)) (instruction_same names x ∙ instruction_is names x p is)
            ∙ ap (λ (i : Instr). Some (record i { label = None })) (sym (at.settled shape arrives)),
      )

  -- a return
  returns_behind : (ts : List Token) (b : BehindText) → behind_of forms.Nothing ts ≡ Some b → b ≡ Nothing
  returns_behind [] b e = sym (some_is Nothing b e)
  returns_behind (t ∷ ts) b e = absurd cc

  nothing_is : (b : BehindText) → unplaced_behind b ≡ Nothing → b ≡ Nothing
  nothing_is Nothing e = refl
  nothing_is (Given x) e = absurd cc
  nothing_is (Target t) e = absurd cc
  nothing_is (Opened o) e = absurd cc
  nothing_is (Called c) e = absurd cc

  returns_says : (w : Word) (ws : List Word) (m : Modifier) (x : OperationText) → Parts (word_token w) (map word_token ws) x → IsOperationOf dialects.Extended names x p → IsSaid (Return m) x.operator.mnemonic → x.operator.mnemonic.modifier.opens ≡ false
      → Says (w ∷ ws) (Return m)
  returns_says w ws m x parts is told none =
      let op : q.op ≡ ops.Ret = ap (λ (i : Instr). i.op) here ∙ is.op ∙ told.0 in
      let b : behind_of forms.Nothing (map word_token ws) ≡ Some (unplaced_behind x.behind) = sym (ap (λ (o : Op). behind_of (form_of o) (map word_token ws)) (ap (λ (y : Mnemonic). y.op) parts.mnemonic ∙ told.0)) ∙ parts.behind in
      let behind : x.behind ≡ Nothing = nothing_is x.behind (returns_behind (map word_token ws) (unplaced_behind x.behind) b) in
      let modifier : q.modifier ≡ m = ap (λ (i : Instr). i.modifier) here ∙ is.modifier ∙ ap (λ (y : BehindText). with_opening (opens y) x.operator.mnemonic.modifier) behind ∙ letters_kept x.operator.mnemonic.modifier none ∙ told.1 in
      let absent : p.operand ≡ operands.Absent = sym (some_is operands.Absent p.operand (sym (ap (operand_behind dialects.Extended names) behind) ∙ is.operand)) in
      (op, modifier, operand_at operands.Absent absent refl, no_arguments (none_given p.arguments (subst (λ (y : BehindText). AllZip (IsArgumentOf dialects.Extended names) (arguments_behind y) p.arguments) behind is.arguments)))

  -- a jump
  target_is : (x : Word) (b : BehindText) → Some (Target (word_token x)) ≡ Some (unplaced_behind b) → (t : Token) × (b ≡ Target t) × (t.text ≡ x.text)
  target_is x Nothing e = absurd cc
  target_is x (Given y) e = absurd cc
  target_is x (Target t) e =
      let same : Target (word_token x) ≡ Target (unplaced t) = some_is (Target (word_token x)) (Target (unplaced t)) e in
      let u : word_token x ≡ unplaced t = cc in
      (t, refl, ap (λ (y : Token). y.text) (sym u))
  target_is x (Opened o) e = absurd cc
  target_is x (Called c) e = absurd cc

  there : (name : List ℕ) (r : Option ℕ) (n : ℕ) → target_of Q name ≡ r → option_map sources.Target r ≡ Some (sources.Target n) → (m : ℕ) × (target_of Q name ≡ Some m)
  there name None n is e = absurd cc
  there name (Some m) n is e = (m, is)

  jump_target : (name : List ℕ) → q.op ≡ ops.Jmp → q.operand ≡ operands.Label name → (n : ℕ) × (target_of Q name ≡ Some n)
  jump_target name op x =
      let takes : Takes Q ops.Jmp q.modifier (operands.Label name) at.before at.after = subst (λ (o : Operand). Takes Q ops.Jmp q.modifier o at.before at.after) x (subst (λ (o : Op). Takes Q o q.modifier q.operand at.before at.after) op at.leads.types) in
      there name (target_of Q name) takes.0 refl takes.1

  jumps_says : (w x : Word) (m : Modifier) (o : OperationText) → Parts (word_token w) (word_token x ∷ []) o → IsOperationOf dialects.Extended names o p → IsSaid (Jump m x.text) o.operator.mnemonic → o.operator.mnemonic.modifier.opens ≡ false
      → Says (w ∷ x ∷ []) (Jump m x.text)
  jumps_says w x m o parts is told none =
      let op : q.op ≡ ops.Jmp = ap (λ (i : Instr). i.op) here ∙ is.op ∙ told.0 in
      let b : Some (Target (word_token x)) ≡ Some (unplaced_behind o.behind) = sym (ap (λ (y : Op). behind_of (form_of y) (word_token x ∷ [])) (ap (λ (y : Mnemonic). y.op) parts.mnemonic ∙ told.0)) ∙ parts.behind in
      let t = target_is x o.behind b in
      let modifier : q.modifier ≡ m = ap (λ (i : Instr). i.modifier) here ∙ is.modifier ∙ ap (λ (y : BehindText). with_opening (opens y) o.operator.mnemonic.modifier) t.1 ∙ letters_kept o.operator.mnemonic.modifier none ∙ told.1 in
      let label : p.operand ≡ operands.Label x.text = sym (some_is (operands.Label x.text) p.operand (sym (ap (operand_behind dialects.Extended names) t.1 ∙ ap (λ (y : List ℕ). Some (operands.Label (capitals y))) t.2 ∙ ap (λ (y : List ℕ). Some (operands.Label y)) told.2) ∙ is.operand)) in
      let operand : q.operand ≡ operands.Label x.text = operand_at (operands.Label x.text) label refl in
      (op, modifier, operand, no_arguments (none_given p.arguments (subst (λ (y : BehindText). AllZip (IsArgumentOf dialects.Extended names) (arguments_behind y) p.arguments) t.1 is.arguments)), jump_target x.text op operand)

  -- by the sorts of the words
  label_says : (w x : Word) (o : OperationText) (b : Bool) → Parts (word_token w) (word_token x ∷ []) o → operation_of (map word_token (w ∷ x ∷ [])) ≡ Some (unplaced_operation o) → IsOperationOf dialects.Extended names o p
      → o.operator.mnemonic.modifier.opens ≡ false → IsSaid (if b then Jump (letters_of w.text) x.text else Performs) o.operator.mnemonic → Says (w ∷ x ∷ []) (if b then Jump (letters_of w.text) x.text else Performs)
  label_says w x o true parts e is none told = jumps_says w x (letters_of w.text) o parts is told none
  label_says w x o false parts e is none told = performs_says (w ∷ x ∷ []) o e is told

  behind_says : (w : Word) (ws : List Word) (o : OperationText) → Parts (word_token w) (map word_token ws) o → operation_of (map word_token (w ∷ ws)) ≡ Some (unplaced_operation o) → IsOperationOf dialects.Extended names o p
      → o.operator.mnemonic.modifier.opens ≡ false → IsSaid (behind_operator w.text ws) o.operator.mnemonic → Says (w ∷ ws) (behind_operator w.text ws)
  behind_says w [] o parts e is none told = performs_says (w ∷ []) o e is told
  behind_says w (x ∷ []) o parts e is none told = label_says w x o (is_label x.sort) parts e is none told
  behind_says w (x ∷ y ∷ ws) o parts e is none told = performs_says (w ∷ x ∷ y ∷ ws) o e is told

  sort_says : (s : Sort) (w : Word) (ws : List Word) (o : OperationText) → Parts (word_token w) (map word_token ws) o → operation_of (map word_token (w ∷ ws)) ≡ Some (unplaced_operation o) → IsOperationOf dialects.Extended names o p
      → o.operator.mnemonic.modifier.opens ≡ false → IsSaid (control_by s w.text ws) o.operator.mnemonic → Says (w ∷ ws) (control_by s w.text ws)
  sort_says (sorts.Return m) w ws o parts e is none told = returns_says w ws m o parts is told none
  sort_says sorts.Said w ws o parts e is none told = behind_says w ws o parts e is none told
  sort_says sorts.Own w ws o parts e is none told = behind_says w ws o parts e is none told
  sort_says sorts.Shared w ws o parts e is none told = behind_says w ws o parts e is none told
  sort_says sorts.Label w ws o parts e is none told = behind_says w ws o parts e is none told
  sort_says sorts.InOut w ws o parts e is none told = behind_says w ws o parts e is none told

  words_say : (ws : List Word) → ((ws ≡ []) × IsEmpty p) ⊎ ((x : OperationText) × (operation_of (map word_token ws) ≡ Some (unplaced_operation x)) × IsOperationOf dialects.Extended names x p) → AreSaid ws → Says ws (control_of ws)
  words_say [] (inl is) told = empty_says is.1
  words_say [] (inr is) told = absurd (no_operation is.0 is.1)
    where
      no_operation : (x : OperationText) → None ≡ Some (unplaced_operation x) → ⊥
      no_operation x e = absurd cc
  words_say (w ∷ ws) (inl is) told = absurd (no_list w ws is.0)
    where
      no_list : (v : Word) (vs : List Word) → v ∷ vs ≡ [] → ⊥
      no_list v vs e = absurd cc
  words_say (w ∷ ws) (inr is) told =
      let parts = parts_of (word_token w) (map word_token ws) is.0 is.1 in
      let none = ap (λ (y : Mnemonic). y.modifier.opens) (sym parts.mnemonic) ∙ opens_not (word_token w) parts.operator parts.is in
      sort_says w.sort w ws is.0 parts is.1 is.2 none (subst (λ (y : Mnemonic). IsSaid (control_of (w ∷ ws)) y) parts.mnemonic (told parts.operator parts.is))

  pub line_says : (l : Line) → ReadLine names l.label l.words p → IsToldBySorts l → SaysLine (read_by names) Q k l q
  line_says l read told = record {
    label = ap (λ (i : Instr). i.label) here ∙ read.label;
    words = words_say l.words read.words told.words;
  }
