-- What a text of units says is made of its tokens.
use Rattle.std.proofs.Common.{◌≡◌, Bool, true, false, not, cond, List, [], ◌∷◌, ◌++◌, Option, Some, None, refl, sym, subst, append_assoc, append-nil, codes}
use Rattle.std.specs.Prelude.{is_none}
use Rattle.std.specs.List.{AllByRecursion, flat_map}
use Rattle.il_model.specs.Dialects.{operator_in}
use Rattle.std.proofs.lemmas.Bool.{and_parts}
use Rattle.std.proofs.lemmas.List.Concat.{flat_map-cons}
use Rattle.il_model.specs.declared.dialect.Dialect.TheVariants as dialects
use Rattle.il_reader.specs.declared.lexeme.Sign.TheVariants as signs
use Rattle.il_reader.specs.Tokens.{Token}
use Rattle.il_reader.specs.Front.{is_sign, skip_breaks, at_end}
use Rattle.il_reader.specs.Grammar.{OperandText, Constant, Direct, Named, Field, ArgumentText, CallText, arguments_of, written_arguments, is_truth, BehindText, Nothing, Given, Target, Opened, Called, OperationText, NamesText, Located, More, DeclarationText, is_constant, is_variable, is_line_stop, ends_arguments, ends_names, ends_block, begins_program}
use Rattle.il_reader.specs.Spelling.{Part, breaks, one, this, operator, ahead, Spell, word, sign, going, listed, operator_before, spelled_operand, spelled_inner_operand, spelled_argument, spelled_next, spelled_inside, spelled_arguments, spelled_behind, spelled_operation, spelled_name, spelled_names, spelled_initial, spelled_declaration, spelled_qualifier, spelled_side}
use Rattle.il_units.specs.declared.contents.UnitKind.{UnitKind}
use Rattle.il_units.specs.declared.contents.UnitKind.TheVariants as units
use Rattle.il_units.specs.Units.{SectionText, StepText, Operation, Function, LineText, UnitText}
use Rattle.il_units.specs.Spelling.{is_function, ends_others, spelled_other, spelled_others, spelled_step, spelled_optional_step, spelled_content, spelled_line, spelled_kind, ends_sections, spelled_section, ends_unit, end_word, spelled_result, spelled_unit, spelled_units}

-- ---- parts

module _ (K : Token → Type 0) where
  abbrev pub Good : Part → Type 0
  Good (this p x) = (p x ≡ true) × K x
  Good (operator f x) = (t : Token) × (f t ≡ Some x) × K t
  Good (one p) = (t : Token) × (p t ≡ true)
  Good (ahead p) = (ts : List Token) × (p ts ≡ true)
  Good breaks = Unit {0}

  abbrev pub AreGood : List Part → Type 0
  AreGood ps = AllByRecursion Good ps

  skip_good : (ts : List Token) → AllByRecursion K ts → AllByRecursion K (skip_breaks ts)
  unfolding skip_breaks
  skip_good [] all = tt
  skip_good (t ∷ ts) all = chosen (is_sign signs.Break t) (skip_good ts all.1)
    where
      chosen : (b : Bool) → AllByRecursion K (skip_breaks ts) → AllByRecursion K (cond b (skip_breaks ts) (t ∷ ts))
      chosen true h = h
      chosen false h = all

  pub parts_good : (ps : List Part) (ts rest : List Token) → AllByRecursion K ts → Spell ps ts rest → AreGood ps
  parts_good [] ts rest all h = tt
  parts_good (breaks ∷ ps) ts rest all h = (tt, parts_good ps (skip_breaks ts) rest (skip_good ts all) h)
  parts_good (ahead p ∷ ps) ts rest all h = ((ts, h.0), parts_good ps ts rest all h.1)
  parts_good (one p ∷ ps) [] rest all h = absurd h
  parts_good (one p ∷ ps) (t ∷ ts) rest all h = ((t, h.0), parts_good ps ts rest all.1 h.1)
  parts_good (operator f x ∷ ps) [] rest all h = absurd h
  parts_good (operator f x ∷ ps) (t ∷ ts) rest all h = ((t, h.0, all.0), parts_good ps ts rest all.1 h.1)
  parts_good (this p x ∷ ps) [] rest all h = absurd h
  parts_good (this p x ∷ ps) (t ∷ ts) rest all h =
      let P : Token → Type 0 = λ u. (p u ≡ true) × K u in
      (subst P h.0.1 (h.0.0, all.0), parts_good ps ts rest all.1 h.1)

  left_good : (ps qs : List Part) → AreGood (ps ++ qs) → AreGood ps
  left_good [] qs all = tt
  left_good (p ∷ ps) qs all = (all.0, left_good ps qs all.1)

  right_good : (ps qs : List Part) → AreGood (ps ++ qs) → AreGood qs
  right_good [] qs all = all
  right_good (p ∷ ps) qs all = right_good ps qs all.1

  each_good : {X : Type 0} (F : X → Type 0) (s : X → List Part) (qs : List Part) → ((x : X) → AreGood (s x) → F x) → (xs : List X) → AreGood (flat_map s xs ++ qs) → AllByRecursion F xs
  each_good F s qs good [] all = tt
  each_good F s qs good (x ∷ xs) all =
      let P : List Part → Type 0 = λ ps. AreGood ps in
      let e : flat_map s (x ∷ xs) ++ qs ≡ s x ++ (flat_map s xs ++ qs) = rw (flat_map-cons, append_assoc) refl in
      let split = subst P e all in
      (good x (left_good (s x) (flat_map s xs ++ qs) split), each_good F s qs good xs (right_good (s x) (flat_map s xs ++ qs) split))

  -- ---- what is said

  abbrev pub IsName : Token → Type 0
  IsName t = (is_sign signs.Name t ≡ true) × K t

  abbrev pub OperandIs : OperandText → Type 0
  OperandIs (Constant t) = (is_constant t ≡ true) × K t
  OperandIs (Direct t) = (is_sign signs.Address t ≡ true) × K t
  OperandIs (Named t) = IsName t
  OperandIs (Field t f) = IsName t × IsName f

  pub record ArgumentIs (a : ArgumentText) : Type 0 where
    pub field : IsName a.field
    pub operand : OperandIs a.operand

  pub record CallIs (c : CallText) : Type 0 where
    pub instance : IsName c.instance
    pub arguments : AllByRecursion ArgumentIs (arguments_of c)

  abbrev pub BehindIs : BehindText → Type 0
  BehindIs Nothing = Unit {0}
  BehindIs (Given x) = OperandIs x
  BehindIs (Target t) = IsName t
  BehindIs (Opened None) = Unit {0}
  BehindIs (Opened (Some x)) = OperandIs x
  BehindIs (Called c) = CallIs c

  pub record OperationIs (o : OperationText) : Type 0 where
    pub token : Token
    pub known : K token
    pub is : operator_before dialects.Extended o.behind token ≡ Some o.operator
    pub behind : BehindIs o.behind

  abbrev pub StepIs : StepText → Type 0
  StepIs (Operation o) = OperationIs o
  StepIs (Function t xs) = IsName t × AllByRecursion OperandIs xs

  abbrev pub LabelIs : Option Token → Type 0
  LabelIs None = Unit {0}
  LabelIs (Some t) = IsName t

  abbrev pub MayStepIs : Option StepText → Type 0
  MayStepIs None = Unit {0}
  MayStepIs (Some s) = StepIs s

  -- a line has a label, or a step, or both
  abbrev pub IsSome : Option Token → Option StepText → Type 0
  IsSome None None = ⊥
  IsSome label step = Unit {0}

  pub record LineIs (l : LineText) : Type 0 where
    pub label : LabelIs l.label
    pub step : MayStepIs l.step
    pub some : IsSome l.label l.step

  abbrev pub NamesAre : NamesText → Type 0
  NamesAre (Located t) = (is_sign signs.Address t ≡ true) × K t
  NamesAre (More ts) = AllByRecursion IsName ts

  abbrev pub InitialIs : Option Token → Type 0
  InitialIs None = Unit {0}
  InitialIs (Some t) = (is_constant t ≡ true) × K t

  pub record DeclarationIs (d : DeclarationText) : Type 0 where
    pub name : IsName d.name
    pub names : NamesAre d.names
    pub ty : IsName d.ty
    pub initial : InitialIs d.initial

  pub record SectionIs (s : SectionText) : Type 0 where
    pub declarations : AllByRecursion DeclarationIs s.declarations

  pub record UnitIs (u : UnitText) : Type 0 where
    pub name : IsName u.name
    pub result : LabelIs u.result
    pub sections : AllByRecursion SectionIs u.sections
    pub lines : AllByRecursion LineIs u.lines

  variable_name : (t : Token) → (is_variable t ≡ true) × K t → IsName t
  variable_name t h = ((and_parts (is_sign signs.Name t) (not (is_truth t)) h.0).0, h.1)

  operand_good : (x : OperandText) (qs : List Part) → AreGood (spelled_operand x ++ qs) → OperandIs x
  operand_good (Constant t) qs all = all.0
  operand_good (Direct t) qs all = all.0
  operand_good (Named t) qs all = variable_name t all.0
  operand_good (Field t f) qs all = (variable_name t all.0, all.1.1.0)

  inner_good : (x : OperandText) → AreGood (spelled_inner_operand x) → OperandIs x
  inner_good (Constant t) all = all.0
  inner_good (Direct t) all = all.0
  inner_good (Named t) all = variable_name t all.0
  inner_good (Field t f) all = (variable_name t all.0, all.1.1.1.1.0)

  argument_good : (a : ArgumentText) → AreGood (spelled_argument a) → ArgumentIs a
  argument_good a all = record { field = all.1.0; operand = inner_good a.operand (right_good (spelled_side a.side) (breaks ∷ spelled_inner_operand a.operand) all.1.1.1).1 }

  inside_good : (xs : List ArgumentText) (qs : List Part) → AreGood (spelled_inside xs ++ qs) → AllByRecursion ArgumentIs xs
  inside_good [] qs all = tt
  inside_good (a ∷ more) qs all =
      let inside = left_good (spelled_inside (a ∷ more)) qs all in (
        argument_good a (left_good (spelled_argument a) (flat_map spelled_next more ++ ahead ends_arguments ∷ []) inside),
        each_good ArgumentIs spelled_next (ahead ends_arguments ∷ []) (λ x h. argument_good x h.1.1) more (right_good (spelled_argument a) (flat_map spelled_next more ++ ahead ends_arguments ∷ []) inside),
      )

  arguments_good : (o : Option (List ArgumentText)) (qs : List Part) → AreGood (spelled_arguments o ++ qs) → AllByRecursion ArgumentIs (written_arguments o)
  arguments_good None qs all = tt
  arguments_good (Some xs) qs all = inside_good xs (breaks ∷ sign signs.Close ∷ []) (left_good (spelled_inside xs ++ breaks ∷ sign signs.Close ∷ []) qs all.1)

  behind_good : (b : BehindText) (qs : List Part) → AreGood (spelled_behind b ++ qs) → BehindIs b
  behind_good Nothing qs all = tt
  behind_good (Given x) qs all = operand_good x qs all
  behind_good (Target t) qs all = all.0
  behind_good (Opened None) qs all = tt
  behind_good (Opened (Some x)) qs all = operand_good x qs all.1
  behind_good (Called c) qs all = record { instance = all.0; arguments = arguments_good c.written qs all.1 }

  operation_good : (o : OperationText) (qs : List Part) → AreGood (spelled_operation dialects.Extended o ++ qs) → OperationIs o
  operation_good o qs all = record { token = all.0.0; known = all.0.2; is = all.0.1; behind = behind_good o.behind qs all.1 }

  others_good : (xs : List OperandText) (qs : List Part) → AreGood (spelled_others xs ++ qs) → AllByRecursion OperandIs xs
  others_good [] qs all = tt
  others_good (x ∷ xs) qs all =
      let here = left_good (spelled_others (x ∷ xs)) qs all in (
        operand_good x (flat_map spelled_other xs ++ ahead ends_others ∷ []) here,
        each_good OperandIs spelled_other (ahead ends_others ∷ []) (λ y h. operand_good y [] (subst AreGood (sym (append-nil (spelled_operand y))) h.1)) xs (right_good (spelled_operand x) (flat_map spelled_other xs ++ ahead ends_others ∷ []) here),
      )

  function_name : (t : Token) → (is_function dialects.Extended t ≡ true) × K t → IsName t
  function_name t h = ((and_parts (is_sign signs.Name t) (is_none (operator_in dialects.Extended t.text)) h.0).0, h.1)

  step_good : (s : StepText) (qs : List Part) → AreGood (spelled_step dialects.Extended s ++ qs) → StepIs s
  step_good (Operation o) qs all = operation_good o qs all.1
  step_good (Function t xs) qs all = (function_name t all.0, others_good xs qs all.1)

  may_step_good : (s : Option StepText) (qs : List Part) → AreGood (spelled_optional_step dialects.Extended s ++ qs) → MayStepIs s
  may_step_good None qs all = tt
  may_step_good (Some s) qs all = step_good s qs all

  line_by : (label : Option Token) (step : Option StepText) (qs : List Part) → AreGood (spelled_content dialects.Extended label step ++ qs) → LabelIs label × MayStepIs step × IsSome label step
  line_by None None qs all = let e : false ≡ true = all.0.1 in absurd cc
  line_by None (Some s) qs all = (tt, step_good s qs all.1, tt)
  line_by (Some t) None qs all = (all.0, tt, tt)
  line_by (Some t) (Some s) qs all = (all.0, may_step_good (Some s) qs all.1.1, tt)

  line_good : (stops : List Token → Bool) (l : LineText) → AreGood (going stops (spelled_line dialects.Extended) l) → LineIs l
  line_good stops l all = let h = line_by l.label l.step (ahead is_line_stop ∷ []) all.1.1 in record { label = h.0; step = h.1; some = h.2 }

  names_good : (x : NamesText) (qs : List Part) → AreGood (spelled_names x ++ qs) → NamesAre x
  names_good (Located t) qs all = all.1.1.0
  names_good (More ts) qs all = each_good IsName spelled_name (ahead ends_names ∷ []) (λ t h. h.1.1.1.0) ts (left_good (flat_map spelled_name ts ++ ahead ends_names ∷ []) qs all.1)

  initial_good : (o : Option Token) (qs : List Part) → AreGood (spelled_initial o ++ qs) → InitialIs o
  initial_good None qs all = tt
  initial_good (Some t) qs all = all.1.1.0

  declaration_good : (d : DeclarationText) → AreGood (going ends_block spelled_declaration d) → DeclarationIs d
  declaration_good d all =
      let names = all.1.1.1.1 in
      let tail = breaks ∷ sign signs.Colon ∷ breaks ∷ this (is_sign signs.Name) d.ty ∷ breaks ∷ (spelled_initial d.initial ++ breaks ∷ sign signs.Semicolon ∷ []) in
      let behind = right_good (spelled_names d.names) tail names in
      record { name = all.1.1.0; names = names_good d.names tail names; ty = behind.1.1.1.0; initial = initial_good d.initial (breaks ∷ sign signs.Semicolon ∷ []) behind.1.1.1.1.1 }

  section_good : (s : SectionText) → AreGood (going ends_sections (spelled_section dialects.Extended) s) → SectionIs s
  section_good s all =
      let end = breaks ∷ word (codes "END_VAR") ∷ [] in
      let behind = right_good (spelled_kind s.kind) (breaks ∷ (spelled_qualifier dialects.Extended s.qualifier ++ (listed ends_block spelled_declaration s.declarations ++ end))) all.1.1 in
      let list = right_good (spelled_qualifier dialects.Extended s.qualifier) (listed ends_block spelled_declaration s.declarations ++ end) behind.1 in
      record { declarations = each_good DeclarationIs (going ends_block spelled_declaration) (ahead ends_block ∷ []) declaration_good s.declarations (left_good (listed ends_block spelled_declaration s.declarations) end list) }

  result_good : (kind : UnitKind) (o : Option Token) (qs : List Part) → AreGood (spelled_result kind o ++ qs) → LabelIs o
  result_good kind None qs all = tt
  result_good units.Function (Some t) qs all = all.1.1.1.0
  result_good units.FunctionBlock (Some t) qs all = let e : false ≡ true = all.0.1 in absurd cc
  result_good units.Program (Some t) qs all = let e : false ≡ true = all.0.1 in absurd cc

  unit_good : (u : UnitText) (qs : List Part) → AreGood (spelled_unit dialects.Extended u ++ qs) → UnitIs u
  unit_good u qs all =
      let here = left_good (spelled_unit dialects.Extended u) qs all in
      let end = breaks ∷ word (end_word u.kind) ∷ [] in
      let lines = listed (ends_unit u.kind) (spelled_line dialects.Extended) u.lines ++ end in
      let sections = listed ends_sections (spelled_section dialects.Extended) u.sections ++ lines in
      let result = here.1.1.1 in
      let behind = right_good (spelled_result u.kind u.result) sections result in
      record {
        name = here.1.1.0;
        result = result_good u.kind u.result sections result;
        sections = each_good SectionIs (going ends_sections (spelled_section dialects.Extended)) (ahead ends_sections ∷ []) section_good u.sections (left_good (listed ends_sections (spelled_section dialects.Extended) u.sections) lines behind);
        lines = each_good LineIs (going (ends_unit u.kind) (spelled_line dialects.Extended)) (ahead (ends_unit u.kind) ∷ []) (line_good (ends_unit u.kind)) u.lines
            (left_good (listed (ends_unit u.kind) (spelled_line dialects.Extended) u.lines) end (right_good (listed ends_sections (spelled_section dialects.Extended) u.sections) lines behind));
      }

  going_good : (u : UnitText) → AreGood (going begins_program (spelled_unit dialects.Extended) u) → UnitIs u
  going_good u all = unit_good u [] (subst AreGood (sym (append-nil (spelled_unit dialects.Extended u))) all.1)

  and_last : (us : List UnitText) (u : UnitText) → AllByRecursion UnitIs us → UnitIs u → AllByRecursion UnitIs (us ++ u ∷ [])
  and_last [] u all is = (is, tt)
  and_last (v ∷ us) u all is = (all.0, and_last us u all.1 is)

  pub units_good : (above : List UnitText) (program : UnitText) (ts rest : List Token) → AllByRecursion K ts → Spell (spelled_units dialects.Extended above program) ts rest → AllByRecursion UnitIs (above ++ program ∷ [])
  units_good above program ts rest all h =
      let good = parts_good (spelled_units dialects.Extended above program) ts rest all h in
      let tail = spelled_unit dialects.Extended program ++ breaks ∷ ahead at_end ∷ [] in
      and_last above program
      (each_good UnitIs (going begins_program (spelled_unit dialects.Extended)) (ahead begins_program ∷ []) going_good above (left_good (listed begins_program (spelled_unit dialects.Extended) above) tail good))
      (unit_good program (breaks ∷ ahead at_end ∷ []) (right_good (listed begins_program (spelled_unit dialects.Extended) above) tail good))
