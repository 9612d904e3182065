-- What the walk answers is the program that a text declares, where it has no fault, and else the first of its faults.
use Rattle.std.proofs.Common.{◌≡◌, inl, inr, ℕ, zero, suc, arith, List, [], ◌∷◌, Option, Some, None, Result, Ok, Err, refl, sym, ap, subst, ◌∙◌}
use Rattle.std.specs.List.{AllZip}
use Rattle.il_model.specs.declared.dialect.Dialect.{Dialect}
use Rattle.il_reader.specs.Grammar.{dialect_of}
use Rattle.il_values.specs.declared.op.Op.{Op}
use Rattle.il_values.specs.declared.op.Modifier.{Modifier}
use Rattle.il_model.specs.declared.program.Side.{Side}
use Rattle.il_model.specs.declared.program.Variable.{Variable}
use Rattle.il_model.specs.declared.program.Instance.{Instance}
use Rattle.il_model.specs.declared.program.Operand.{Operand}
use Rattle.il_model.specs.declared.program.Argument.{Argument}
use Rattle.il_model.specs.declared.program.Instr.{Instr}
use Rattle.il_model.specs.Program.{Program}
use Rattle.il_reader.specs.Grammar.{ArgumentText, OperationText, LineText, Labelled, Plain, ProgramText}
use Rattle.il_reader.specs.Texts.{place_at, SourceText, IsSource}
use Rattle.std.specs.Prelude.{IfOk}
use Rattle.il_reader.specs.declared.place.Place.{Place}
use Rattle.il_declarations.specs.FirstFault.{kind_number, HasNoFault, IsNoLater, IsFirstFault, IsRefused, IsGiven}
use Rattle.il_declarations.specs.FirstFault.{TellsFirst, IsTold}
use Rattle.il_declarations.specs.declared.fault.DeclKind.{DeclKind}
use Rattle.il_declarations.specs.declared.fault.DeclKind.TheVariants as kinds
use Rattle.il_declarations.specs.declared.fault.FaultAt.{FaultAt}
use Rattle.il_declarations.specs.declared.fault.Fault.{Fault}
use Rattle.il_declarations.specs.declared.fault.DeclError.{DeclError}
use Rattle.il_declarations.specs.declared.fault.DeclError.TheVariants as errors
use Rattle.il_declarations.specs.Resolution.{Answers}
use Rattle.il_declarations.specs.Walk.{program_at, told, resolution_of}
use Rattle.il_declarations.specs.Declaring.{DeclaredName, names_of, arguments_behind, IsArgumentOf, IsOperationOf, IsBehindLabel, IsInstructionOf, IsProgramOf}
use Rattle.il_declarations.proofs.FaultList.{faults_of, Among}
use Rattle.il_declarations.proofs.FaultRules.{had, listed}
use Rattle.il_declarations.specs.TextFaults.{HasFault}
use Rattle.il_declarations.proofs.Agreeing.{Agrees}
use Rattle.il_declarations.proofs.InstructionFaults.{program_agrees, program_kept}
use Rattle.il_declarations.proofs.Ordered.{InOrder, text_ordered, first_told}

-- ---- what a text declares is one program

abbrev some : Operand → Option Operand
some x = Some x

operand_is : (x y : Operand) → some x ≡ some y → x ≡ y
operand_is x y e = cc

abbrev argument : List ℕ → Side → Operand → Argument
argument field side operand = record { field = field; side = side; operand = operand }

one_argument : (dialect : Dialect) (names : List DeclaredName) → (a : ArgumentText) (x y : Argument) → IsArgumentOf dialect names a x → IsArgumentOf dialect names a y → x ≡ y
one_argument dialect names a x y h k =
    ap (λ (f : List ℕ). argument f x.side x.operand) (h.field ∙ sym k.field)
    ∙ ap (λ (s : Side). argument y.field s x.operand) (h.side ∙ sym k.side)
    ∙ ap (λ (o : Operand). argument y.field y.side o) (operand_is x.operand y.operand (sym h.operand ∙ k.operand))

one_list : {X Y : Type 0} (R : X → Y → Type 0) → ((x : X) (y z : Y) → R x y → R x z → y ≡ z) → (xs : List X) (ys zs : List Y) → AllZip R xs ys → AllZip R xs zs → ys ≡ zs
one_list R one [] [] [] h k = refl
one_list R one [] [] (z ∷ zs) h k = absurd k
one_list R one [] (y ∷ ys) zs h k = absurd h
one_list R one (x ∷ xs) [] zs h k = absurd h
one_list R one (x ∷ xs) (y ∷ ys) [] h k = absurd k
one_list R one (x ∷ xs) (y ∷ ys) (z ∷ zs) h k =
    ap (λ (w : _). w ∷ ys) (one x y z h.0 k.0) ∙ ap (λ (ws : List _). z ∷ ws) (one_list R one xs ys zs h.1 k.1)

abbrev instr : Option (List ℕ) → Op → Modifier → Operand → List Argument → Instr
instr label op modifier operand arguments = record { label = label; op = op; modifier = modifier; operand = operand; arguments = arguments }

same_instr : (x y : Instr) → x.label ≡ y.label → x.op ≡ y.op → x.modifier ≡ y.modifier → x.operand ≡ y.operand → x.arguments ≡ y.arguments → x ≡ y
same_instr x y l o m p a =
    ap (λ (w : Option (List ℕ)). instr w x.op x.modifier x.operand x.arguments) l
    ∙ ap (λ (w : Op). instr y.label w x.modifier x.operand x.arguments) o
    ∙ ap (λ (w : Modifier). instr y.label y.op w x.operand x.arguments) m
    ∙ ap (λ (w : Operand). instr y.label y.op y.modifier w x.arguments) p
    ∙ ap (λ (w : List Argument). instr y.label y.op y.modifier y.operand w) a

one_operation : (dialect : Dialect) (names : List DeclaredName) → (o : OperationText) (x y : Instr) → x.label ≡ y.label → IsOperationOf dialect names o x → IsOperationOf dialect names o y → x ≡ y
one_operation dialect names o x y l h k =
    same_instr x y l (h.op ∙ sym k.op) (h.modifier ∙ sym k.modifier) (operand_is x.operand y.operand (sym h.operand ∙ k.operand)) (one_list (IsArgumentOf dialect names) (one_argument dialect names) (arguments_behind o.behind) x.arguments y.arguments h.arguments k.arguments)

one_behind : (dialect : Dialect) (names : List DeclaredName) → (o : Option OperationText) (x y : Instr) → x.label ≡ y.label → IsBehindLabel dialect names o x → IsBehindLabel dialect names o y → x ≡ y
one_behind dialect names None x y l h k = same_instr x y l (h.op ∙ sym k.op) (h.modifier ∙ sym k.modifier) (h.operand ∙ sym k.operand) (h.arguments ∙ sym k.arguments)
one_behind dialect names (Some o) x y l h k = one_operation dialect names o x y l h k

one_instruction : (dialect : Dialect) (names : List DeclaredName) → (l : LineText) (x y : Instr) → IsInstructionOf dialect names l x → IsInstructionOf dialect names l y → x ≡ y
one_instruction dialect names (Labelled t o) x y h k = one_behind dialect names o x y (h.0 ∙ sym k.0) h.1 k.1
one_instruction dialect names (Plain o) x y h k = one_operation dialect names o x y (h.0 ∙ sym k.0) h.1 k.1

abbrev text : List Variable → List Instance → List Instr → Program
text vs xs code = record { variables = vs; instances = xs; code = code }

pub one_program : (dialect : Dialect) → (p : ProgramText) (P Q : Program) → IsProgramOf dialect p P → IsProgramOf dialect p Q → P ≡ Q
one_program dialect p P Q h k =
    ap (λ (vs : List Variable). text vs P.instances P.code) (h.variables ∙ sym k.variables)
    ∙ ap (λ (xs : List Instance). text Q.variables xs P.code) (h.instances ∙ sym k.instances)
    ∙ ap (λ (code : List Instr). text Q.variables Q.instances code) (one_list (IsInstructionOf dialect (names_of p)) (one_instruction dialect (names_of p)) p.lines P.code Q.code h.code k.code)

-- ---- faults

no_fault : (dialect : Dialect) → (p : ProgramText) → faults_of dialect p ≡ [] → HasNoFault dialect p
no_fault dialect p none f has = subst (λ (fs : List FaultAt). Among f fs) none (listed dialect p f has)

leads : (dialect : Dialect) → (p : ProgramText) (f : FaultAt) (rest : List FaultAt) → faults_of dialect p ≡ f ∷ rest → HasFault dialect p f
leads dialect p f rest e = had dialect p f (subst (λ (fs : List FaultAt). Among f fs) (sym e) (inl refl))

first_fault : (dialect : Dialect) → (p : ProgramText) (f : FaultAt) (rest : List FaultAt) → InOrder (faults_of dialect p) → faults_of dialect p ≡ f ∷ rest → IsFirstFault dialect p f
first_fault dialect p f rest order e = record {
  has = leads dialect p f rest e;
  first = λ g has. first_told f rest (subst InOrder e order) g (subst (λ (fs : List FaultAt). Among g fs) e (listed dialect p g has));
}

ok_agrees : (dialect : Dialect) → (p : ProgramText) (P : Program) → program_at dialect p ≡ Ok P → faults_of dialect p ≡ []
ok_agrees dialect p P e = subst (λ (r : Result Program FaultAt). Agrees r (faults_of dialect p)) e (program_agrees dialect p)

err_agrees : (dialect : Dialect) → (p : ProgramText) (f : FaultAt) → program_at dialect p ≡ Err f → (rest : List FaultAt) × (faults_of dialect p ≡ f ∷ rest)
err_agrees dialect p f e = subst (λ (r : Result Program FaultAt). Agrees r (faults_of dialect p)) e (program_agrees dialect p)

-- ---- the walk

abbrev good : Program → Result Program Fault
good P = Ok P

abbrev bad : Fault → Result Program Fault
bad F = Err F

good_is : (P Q : Program) → good P ≡ good Q → P ≡ Q
good_is P Q e = cc

bad_is : (F G : Fault) → bad F ≡ bad G → F ≡ G
bad_is F G e = cc

was_ok : (bytes : List ℕ) (r : Result Program FaultAt) (P : Program) → told bytes r ≡ Ok P → r ≡ Ok P
was_ok bytes (Ok Q) P e = ap (λ (x : Program). Ok x) (good_is Q P e)
was_ok bytes (Err f) P e = absurd cc

pub found : (s : SourceText) (P : Program) → resolution_of s ≡ Ok P → IsProgramOf (dialect_of s.text) s.says P × HasNoFault (dialect_of s.text) s.says
found s P e =
    let was = was_ok s.text (program_at (dialect_of s.text) s.says) P e in
    (program_kept (dialect_of s.text) s.says P was, no_fault (dialect_of s.text) s.says (ok_agrees (dialect_of s.text) s.says P was))

pub refused : (s : SourceText) (F : Fault) → IsSource s → resolution_of s ≡ Err F → IsRefused s F
refused s F is e = by_walk (program_at (dialect_of s.text) s.says) refl e
  where
    by_walk : (r : Result Program FaultAt) → program_at (dialect_of s.text) s.says ≡ r → told s.text r ≡ Err F → IsRefused s F
    by_walk (Ok Q) w h = absurd cc
    by_walk (Err f) w h =
        let rest = err_agrees (dialect_of s.text) s.says f w in
        let told-is = bad_is (record { kind = f.kind; place = place_at s.text f.left }) F h in
        subst (IsRefused s) told-is (record { fault = f; first = first_fault (dialect_of s.text) s.says f rest.0 (text_ordered (dialect_of s.text) s.text s.says is.said) rest.1; kind = refl; place = refl })

pub only : (s : SourceText) (P : Program) → IsProgramOf (dialect_of s.text) s.says P → HasNoFault (dialect_of s.text) s.says → resolution_of s ≡ Ok P
only s P is none = by_walk (program_at (dialect_of s.text) s.says) refl
  where
    by_walk : (r : Result Program FaultAt) → program_at (dialect_of s.text) s.says ≡ r → told s.text r ≡ Ok P
    by_walk (Ok Q) w = ap good (one_program (dialect_of s.text) s.says Q P (program_kept (dialect_of s.text) s.says Q w) is)
    by_walk (Err f) w = let rest = err_agrees (dialect_of s.text) s.says f w in absurd (none f (leads (dialect_of s.text) s.says f rest.0 rest.1))

-- ---- one first fault

abbrev kind_of : ℕ → DeclKind
kind_of (suc (suc zero)) = kinds.UnknownType
kind_of (suc (suc (suc zero))) = kinds.UnknownName
kind_of (suc (suc (suc (suc zero)))) = kinds.BadLocation
kind_of (suc (suc (suc (suc (suc zero))))) = kinds.Overlap
kind_of (suc (suc (suc (suc (suc (suc zero)))))) = kinds.BadInitial
kind_of (suc (suc (suc (suc (suc (suc (suc zero))))))) = kinds.ReservedName
kind_of (suc (suc (suc (suc (suc (suc (suc (suc zero)))))))) = kinds.TooMany
kind_of n = kinds.Duplicate

kind_again : (k : DeclKind) → kind_of (kind_number k) ≡ k
kind_again kinds.Duplicate = refl
kind_again kinds.UnknownType = refl
kind_again kinds.UnknownName = refl
kind_again kinds.BadLocation = refl
kind_again kinds.Overlap = refl
kind_again kinds.BadInitial = refl
kind_again kinds.ReservedName = refl
kind_again kinds.TooMany = refl

record IsSame (f g : FaultAt) : Type 0 where
  kind : f.kind ≡ g.kind
  left : f.left ≡ g.left

both_told : (f g : FaultAt) → IsNoLater f g → IsNoLater g f → IsSame f g
both_told f g (inl a) (inl b) = absurd (omega (arith, a, b))
both_told f g (inl a) (inr b) = absurd (omega (arith, a, b.0))
both_told f g (inr a) (inl b) = absurd (omega (arith, a.0, b))
both_told f g (inr a) (inr b) = record { kind = sym (kind_again f.kind) ∙ ap kind_of (omega (arith, a.1, b.1)) ∙ kind_again g.kind; left = a.0 }

abbrev placed : List ℕ → DeclKind → ℕ → Fault
placed bytes kind left = record { kind = kind; place = place_at bytes left }

abbrev fault : DeclKind → Place → Fault
fault kind place = record { kind = kind; place = place }

pub one_refused : (s : SourceText) (F G : Fault) → IsRefused s F → IsRefused s G → F ≡ G
one_refused s F G a b =
    let same = both_told a.fault b.fault (a.first.first b.fault b.first.has) (b.first.first a.fault a.first.has) in
    ap (λ (k : DeclKind). fault k F.place) (a.kind ∙ same.kind ∙ sym b.kind) ∙ ap (λ (l : Place). fault G.kind l) (a.place ∙ ap (place_at s.text) same.left ∙ sym b.place)

pub told_only : (s : SourceText) (F : Fault) → IsSource s → IsRefused s F → resolution_of s ≡ Err F
told_only s F is first = by_walk (program_at (dialect_of s.text) s.says) refl
  where
    by_walk : (r : Result Program FaultAt) → program_at (dialect_of s.text) s.says ≡ r → told s.text r ≡ Err F
    by_walk (Ok Q) w = absurd (no_fault (dialect_of s.text) s.says (ok_agrees (dialect_of s.text) s.says Q w) first.fault first.first.has)
    by_walk (Err f) w = ap bad (one_refused s (placed s.text f.kind f.left) F (refused s (placed s.text f.kind f.left) is (ap (told s.text) w)) first)

-- ---- the call

pub ok_clause : (s : SourceText) (r : Result Program DeclError) → Answers (λ p. p) r (resolution_of s) → IfOk r (λ P. IsProgramOf (dialect_of s.text) s.says P × HasNoFault (dialect_of s.text) s.says)
ok_clause s (Ok P) h = found s P h
ok_clause s (Err e) h = tt

pub err_clause : (s : SourceText) (r : Result Program DeclError) → IsSource s → Answers (λ p. p) r (resolution_of s) → TellsFirst s r
err_clause s (Ok P) is h = tt
err_clause s (Err errors.Memory) is h = tt
err_clause s (Err (errors.Fault F)) is h = refused s F is h

pub ok_only : (s : SourceText) (r : Result Program DeclError) → Answers (λ p. p) r (resolution_of s) → IsGiven s r
ok_only s r answers = λ P is none. subst (λ (given : Result Program Fault). Answers (λ p. p) r given) (only s P is none) answers

pub err_only : (s : SourceText) (r : Result Program DeclError) → IsSource s → Answers (λ p. p) r (resolution_of s) → IsTold s r
err_only s r is answers = λ F first. subst (λ (given : Result Program Fault). Answers (λ p. p) r given) (told_only s F is first) answers
