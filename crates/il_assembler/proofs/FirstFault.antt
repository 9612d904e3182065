-- A program has one typed program, or one first fault, and the walk ends at that.
use Rattle.std.proofs.Common.{◌≡◌, ◌⊎◌, inl, inr, ℕ, zero, suc, ◌+◌, ◌<◌, ◌≤◌, Bool, true, false, cond, List, [], ◌∷◌, length, Option, Some, None, Result, Ok, Err, refl, sym, ap, subst, ◌∙◌, arith, ltb-true, ltb-false}
use Rattle.std.specs.Prelude.{slice_get, IfOk}
use Rattle.std.proofs.lemmas.Option.{slice_get_within, slice_get_past}
use Rattle.il_model.specs.declared.program.Instr.{Instr}
use Rattle.il_model.specs.declared.typing.TypeFault.{TypeFault}
use Rattle.il_model.specs.declared.typing.TypeFault.TheVariants.{Unbalanced}
use Rattle.il_model.specs.Program.{Program}
use Rattle.il_model.specs.Typing.{Shape}
use Rattle.il_model.specs.Checking.{shape_at, after_line}
use Rattle.il_model.specs.Resolved.{is_labelled}
use Rattle.il_model.specs.Settled.{settled_line, settled_text, typed_program_of, IsTypedProgramOf}
use Rattle.il_model.specs.InstructionFaults.{is_open}
use Rattle.il_model.specs.Image.{spelling}
use Rattle.il_model.specs.Declarable.{IsDeclared}
use Rattle.il_model.proofs.FirstFaults.{tells_the_first}
use Rattle.il_model.proofs.SettledPrograms.{goes_settled, fails_settled, stays_open, ends_settled, typed_program, typed_only}
use Rattle.il_model.proofs.Declaring.{declared_image}
use Rattle.il_assembler.specs.declared.fault.AsmError.{AsmError}
use Rattle.il_assembler.specs.declared.fault.AsmError.TheVariants as errors
use Rattle.il_assembler.specs.Assembled.{Arrives, begins, passes, IsFaultHere, IsFirstFault, IsSpelled, IsGiven}
use Rattle.il_assembler.specs.Assembled.{TellsFirst, IsTold, IsImageBytes}
use Rattle.il_assembler.specs.Walk.{GivesImage}

abbrev typed : Program → Result Program (TypeFault × ℕ)
typed Q = Ok Q

abbrev untyped : TypeFault × ℕ → Result Program (TypeFault × ℕ)
untyped f = Err f

same_typed : (P Q : Program) → typed P ≡ typed Q → P ≡ Q
same_typed P Q e = cc

same_untyped : (f g : TypeFault × ℕ) → untyped f ≡ untyped g → f ≡ g
same_untyped f g e = cc

differ : (Q : Program) (f : TypeFault × ℕ) → typed Q ≡ untyped f → ⊥
differ Q f e = cc

there : (code : List Instr) (n : ℕ) → n < length code → (line : Instr) × (slice_get code n ≡ Some line)
there [] n lt = absurd (omega arith)
there (x ∷ xs) zero lt = (x, refl)
there (x ∷ xs) (suc n) lt = there xs n (omega arith)

past : (code : List Instr) (n : ℕ) → slice_get code n ≡ None → length code ≤ n
past [] n e = omega arith
past (x ∷ xs) zero e = absurd cc
past (x ∷ xs) (suc n) e = let le = past xs n e in omega (arith, le)

-- ---- the types on arrival are those of the settled text

begin : (P : Program) → shape_at (settled_text P) 0 ≡ Ok (record { cr = None; kept = [] })
begin P = by_label (is_labelled (settled_text P) 0)
  where
    nothing : Shape
    nothing = record { cr = None; kept = [] }

    by_label : (b : Bool) → (let r : Result Shape (TypeFault × ℕ) = Ok (cond b nothing nothing) in r) ≡ Ok nothing
    by_label true = refl
    by_label false = refl

arrives_settled : (P : Program) (n : ℕ) (types : Shape) → Arrives P n types → shape_at (settled_text P) n ≡ Ok types
arrives_settled P n types begins = begin P
arrives_settled P n types (passes m before next line a here e) =
    let is : suc m ≡ m + 1 = omega arith in
    ap (shape_at (settled_text P)) is ∙ goes_settled P m before next line (arrives_settled P m before a) here e

arrives_within : (P : Program) (n : ℕ) (types : Shape) → Arrives P n types → n ≤ length P.code
arrives_within P n types begins = omega arith
arrives_within P n types (passes m before next line a here e) = slice_get_within P.code m line here

-- ---- the first fault is that of the walk

open_at : (types : Shape) → is_open types ≡ true → 0 < length types.kept
open_at types e = ltb-true 0 (length types.kept) e

told_here : (P : Program) (n : ℕ) (f : TypeFault) (types : Shape) → Arrives P n types → (o : Option Instr) → slice_get P.code n ≡ o → IsFaultHere P n types o f → typed_program_of P ≡ Err (f, n)
told_here P n f types a (Some line) here first =
    fails_settled P n types line f (slice_get_within P.code n line here) (arrives_settled P n types a) here ((tells_the_first P n types (settled_line types.cr line)).only f first)
told_here P n f types a None here end =
    let is : length P.code ≡ n = omega (arith, past P.code n here, arrives_within P n types a) in
    let at : shape_at (settled_text P) (length P.code) ≡ Ok types = ap (shape_at (settled_text P)) is ∙ arrives_settled P n types a in
    stays_open P types at (open_at types end.0)
    ∙ ap (λ (k : ℕ). untyped (Unbalanced, k)) is
    ∙ ap (λ (g : TypeFault). untyped (g, n)) (sym end.1)

pub first_told : (P : Program) (n : ℕ) (f : TypeFault) → IsFirstFault P n f → typed_program_of P ≡ Err (f, n)
first_told P n f is = told_here P n f is.types is.arrives (slice_get P.code n) refl is.here

-- ---- a typed program or a first fault

abbrev HasFault : Program → Type 0
HasFault P = (n : ℕ) × (f : TypeFault) × IsFirstFault P n f

abbrev Comes : Program → ℕ → Type 0
Comes P n = ((types : Shape) × Arrives P n types) ⊎ HasFault P

goes_past : (P : Program) (n : ℕ) (types : Shape) (line : Instr) → Arrives P n types → slice_get P.code n ≡ Some line → (r : Result Shape TypeFault) → after_line P n types (settled_line types.cr line) ≡ r → Comes P (suc n)
goes_past P n types line a here (Ok next) e = inl (next, passes n types next line a here e)
goes_past P n types line a here (Err f) e =
    let first = (tells_the_first P n types (settled_line types.cr line)).told f e in
    inr (n, f, record { types = types; arrives = a; here = subst (λ (o : Option Instr). IsFaultHere P n types o f) (sym here) first })

walk : (P : Program) (n : ℕ) → n ≤ length P.code → Comes P n
walk P zero le = inl (record { cr = None; kept = [] }, begins)
walk P (suc n) le = by_before (walk P n (omega arith))
  where
    by_before : Comes P n → Comes P (suc n)
    by_before (inr fault) = inr fault
    by_before (inl at) =
        let here = there P.code n (omega arith) in
        goes_past P n at.0 here.0 at.1 here.1 (after_line P n at.0 (settled_line at.0.cr here.0)) refl

pub one_of_both : (P : Program) → ((Q : Program) × IsTypedProgramOf P Q) ⊎ HasFault P
one_of_both P = by_end (walk P (length P.code) (omega arith))
  where
    by_open : (types : Shape) → Arrives P (length P.code) types → (b : Bool) → is_open types ≡ b → ((Q : Program) × IsTypedProgramOf P Q) ⊎ HasFault P
    by_open types a true e =
        let none : slice_get P.code (length P.code) ≡ None = slice_get_past P.code (length P.code) (omega arith) in
        let end : IsFaultHere P (length P.code) types None Unbalanced = (e, refl) in
        inr (length P.code, Unbalanced, record { types = types; arrives = a; here = subst (λ (o : Option Instr). IsFaultHere P (length P.code) types o Unbalanced) (sym none) end })
    by_open types a false e =
        inl (settled_text P, typed_program P (settled_text P) (ends_settled P types (arrives_settled P (length P.code) types a) (ltb-false 0 (length types.kept) e)))

    by_end : Comes P (length P.code) → ((Q : Program) × IsTypedProgramOf P Q) ⊎ HasFault P
    by_end (inr fault) = inr fault
    by_end (inl at) = by_open at.0 at.1 (is_open at.0) refl

pub never_both : (P Q : Program) (n : ℕ) (f : TypeFault) → IsTypedProgramOf P Q → IsFirstFault P n f → ⊥
never_both P Q n f is fault = differ Q (f, n) (sym (typed_only P Q is) ∙ first_told P n f fault)

pub one_typed : (P Q R : Program) → IsTypedProgramOf P Q → IsTypedProgramOf P R → Q ≡ R
one_typed P Q R a b = same_typed Q R (sym (typed_only P Q a) ∙ typed_only P R b)

abbrev told_at : TypeFault → ℕ → TypeFault × ℕ
told_at f n = (f, n)

same_pair : (P : Program) (m n : ℕ) (f g : TypeFault) → IsFirstFault P m f → IsFirstFault P n g → told_at f m ≡ told_at g n
same_pair P m n f g a b = same_untyped (told_at f m) (told_at g n) (sym (first_told P m f a) ∙ first_told P n g b)

pub one_fault : (P : Program) (m n : ℕ) (f g : TypeFault) → IsFirstFault P m f → IsFirstFault P n g → (m ≡ n) × (f ≡ g)
one_fault P m n f g a b =
    let same = same_pair P m n f g a b in
    (ap (λ (x : TypeFault × ℕ). x.1) same, ap (λ (x : TypeFault × ℕ). x.0) same)

told_first : (P : Program) (f : TypeFault) (n : ℕ) → typed_program_of P ≡ Err (f, n) → IsFirstFault P n f
told_first P f n e = by_one (one_of_both P)
  where
    by_one : ((Q : Program) × IsTypedProgramOf P Q) ⊎ HasFault P → IsFirstFault P n f
    by_one (inl is) = absurd (differ is.0 (f, n) (sym (typed_only P is.0 is.1) ∙ e))
    by_one (inr fault) =
        let same : told_at fault.1 fault.0 ≡ told_at f n = same_untyped (told_at fault.1 fault.0) (told_at f n) (sym (first_told P fault.0 fault.1 fault.2) ∙ e) in
        subst (λ (x : TypeFault × ℕ). IsFirstFault P x.1 x.0) same fault.2

-- ---- what a call answered

module _ {X : Type 0} (view : X → List ℕ) where
  pub found : (P : Program) (r : Result X AsmError) → GivesImage P view r → IfOk r (λ x. IsSpelled P (view x))
  found P (Ok x) given = (given.0, typed_program P given.0 given.1, given.2)
  found P (Err e) given = tt

  pub image : (P : Program) → IsDeclared P → (r : Result X AsmError) → GivesImage P view r → IfOk r (λ x. IsImageBytes (view x))
  image P declared (Ok x) given = (given.0, declared_image P given.0 declared given.1, given.2)
  image P declared (Err e) given = tt

  pub tells_first : (P : Program) (r : Result X AsmError) → GivesImage P view r → TellsFirst P r
  tells_first P (Ok x) given = tt
  tells_first P (Err errors.Memory) given = tt
  tells_first P (Err (errors.Fault f n)) given = told_first P f n given

  pub is_given : (P : Program) (r : Result X AsmError) → GivesImage P view r → IsGiven P view r
  is_given P (Ok x) given Q is = ap (λ (R : Program). let r : Result (List ℕ) (TypeFault × ℕ) = Ok (spelling R) in r) (one_typed P Q given.0 is (typed_program P given.0 given.1)) ∙ ap (λ (bytes : List ℕ). let r : Result (List ℕ) (TypeFault × ℕ) = Ok bytes in r) (sym given.2)
  is_given P (Err errors.Memory) given Q is = tt
  is_given P (Err (errors.Fault f n)) given Q is = absurd (differ Q (f, n) (sym (typed_only P Q is) ∙ given))

  pub told : (P : Program) (r : Result X AsmError) → GivesImage P view r → IsTold P view r
  told P (Ok x) given n f is = absurd (differ given.0 (f, n) (sym given.1 ∙ first_told P n f is))
  told P (Err errors.Memory) given n f is = tt
  told P (Err (errors.Fault g m)) given n f is = ap (λ (x : TypeFault × ℕ). let r : Result (List ℕ) (TypeFault × ℕ) = Err x in r) (same_untyped (f, n) (g, m) (sym (first_told P n f is) ∙ given))
