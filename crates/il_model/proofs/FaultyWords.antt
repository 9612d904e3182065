-- Where the first fault of an instruction stands, from left to right.
use Rattle.std.proofs.Common.{◌≡◌, ℕ, zero, suc, ◌+◌, ◌<◌, ◌≤◌, Bool, true, false, cond, List, [], ◌∷◌, ◌++◌, length, take, drop, Option, Some, None, Ok, Err, Result, refl, sym, ap, ◌∙◌, arith, get_or}
use Rattle.std.specs.Prelude.{is_some, is_err, IfErr, OnOk, slice_get}
use Rattle.std.proofs.lemmas.List.{take_more, drop_more, drop_all}
use Rattle.std.proofs.lemmas.Option.{slice_get_past}
use Rattle.il_model.specs.declared.kind.BlockKind.{BlockKind}
use Rattle.il_model.specs.declared.program.Argument.{Argument}
use Rattle.il_model.specs.declared.program.Instr.{Instr}
use Rattle.il_model.specs.declared.typing.TypeFault.{TypeFault}
use Rattle.il_model.specs.Program.{Program}
use Rattle.il_model.specs.Typing.{Shape}
use Rattle.il_model.specs.Checking.{shape_at, after_line, argument_fault}
use Rattle.il_model.proofs.Loop.{err_here, err_after}
use Rattle.il_model.specs.Faulty.{faulty_argument, faulty_in, faulty_at, faulty_by, faulty_word}

-- how many arguments there are from a place on before the first that has a fault
abbrev pub faulty_from : Program → Option BlockKind → List Argument → ℕ → ℕ
faulty_from Q kind args i = faulty_argument Q kind (take i args) (drop i args)

faulty_here : (Q : Program) (kind : Option BlockKind) (args : List Argument) (i : ℕ) (a : Argument) → i < length args → a ≡ get_or args i a
    → faulty_from Q kind args i ≡ cond (is_some (argument_fault Q kind (take i args) a)) zero (suc (faulty_from Q kind args (i + 1)))
faulty_here Q kind args i a lt is =
    let here : drop i args ≡ a ∷ drop (i + 1) args = drop_more args i a lt ∙ ap (λ (b : Argument). b ∷ drop (i + 1) args) (sym is) in
    let seen : take (i + 1) args ≡ take i args ++ a ∷ [] = take_more args i a lt ∙ ap (λ (b : Argument). take i args ++ b ∷ []) (sym is) in
    ap (faulty_argument Q kind (take i args)) here
    ∙ ap (λ (before : List Argument). cond (is_some (argument_fault Q kind (take i args) a)) zero (suc (faulty_argument Q kind before (drop (i + 1) args)))) (sym seen)

pub has_fault : (Q : Program) (kind : Option BlockKind) (args : List Argument) (i : ℕ) (a : Argument) (total : ℕ) → i < length args → a ≡ get_or args i a → is_some (argument_fault Q kind (take i args) a) ≡ true
    → i + faulty_from Q kind args i ≡ total → i ≡ total
has_fault Q kind args i a total lt is fault before =
    let none : faulty_from Q kind args i ≡ 0 = faulty_here Q kind args i a lt is ∙ ap (λ (b : Bool). cond b zero (suc (faulty_from Q kind args (i + 1)))) fault in
    omega (arith, none, before)

pub has_none : (Q : Program) (kind : Option BlockKind) (args : List Argument) (i : ℕ) (a : Argument) (total : ℕ) → i < length args → a ≡ get_or args i a → is_some (argument_fault Q kind (take i args) a) ≡ false
    → i + faulty_from Q kind args i ≡ total → i + 1 + faulty_from Q kind args (i + 1) ≡ total
has_none Q kind args i a total lt is fault before =
    let one : faulty_from Q kind args i ≡ suc (faulty_from Q kind args (i + 1)) = faulty_here Q kind args i a lt is ∙ ap (λ (b : Bool). cond b zero (suc (faulty_from Q kind args (i + 1)))) fault in
    omega (arith, one, before)

faulty_end : (Q : Program) (kind : Option BlockKind) (args : List Argument) (i : ℕ) → length args ≤ i → faulty_from Q kind args i ≡ 0
faulty_end Q kind args i le = ap (faulty_argument Q kind (take i args)) (drop_all i args le)

pub all_gone : (Q : Program) (kind : Option BlockKind) (args : List Argument) (total i : ℕ) → i ≡ length args → i + faulty_from Q kind args i ≡ total → length args ≡ total
all_gone Q kind args total i is before = omega (arith, faulty_end Q kind args i (omega arith), is, before)

-- ---- arriving at an instruction

pub is_arrived : (Q : Program) (n k : ℕ) (sh : Shape) (line : Instr) → k ≡ n → shape_at Q k ≡ Ok sh → slice_get Q.code k ≡ Some line → faulty_in Q n sh line ≡ faulty_word Q n
is_arrived Q n k sh line is at here = ap (λ (m : ℕ). faulty_in Q m sh line) (sym is) ∙ sym (ap (faulty_by Q k) at ∙ ap (λ (o : Option Instr). faulty_at Q k o sh) here) ∙ ap (faulty_word Q) is

pub that_fails : {X : Type 0} (r : Result X TypeFault) (P : TypeFault → Type 0) → is_err r ≡ true → IfErr r P → (fault : TypeFault) × P fault
that_fails (Ok x) P e h = absurd cc
that_fails (Err fault) P e h = (fault, h)

pub that_goes : {X : Type 0} (r : Result X TypeFault) (P : Type 0) → is_err r ≡ false → OnOk r P → P
that_goes (Ok x) P e h = h
that_goes (Err fault) P e h = absurd cc

-- behind a fault no instruction is arrived at
pub is_before : (Q : Program) (k n : ℕ) (sh : Shape) (line : Instr) (fault : TypeFault) → k < n → shape_at Q k ≡ Ok sh → slice_get Q.code k ≡ Some line → after_line Q k sh line ≡ Err fault → 0 ≡ faulty_word Q n
is_before Q k n sh line fault lt at here h = sym (ap (faulty_by Q n) (err_after Q n (suc k) (fault, k) (err_here Q k sh line fault at here h) (omega arith)))

behind_code : (Q : Program) (n : ℕ) (r : Result Shape (TypeFault × ℕ)) → slice_get Q.code n ≡ None → 0 ≡ faulty_by Q n r
behind_code Q n (Ok sh) e = sym (ap (λ (o : Option Instr). faulty_at Q n o sh) e)
behind_code Q n (Err f) e = refl

pub is_behind : (Q : Program) (n : ℕ) → length Q.code ≤ n → 0 ≡ faulty_word Q n
is_behind Q n le = behind_code Q n (shape_at Q n) (slice_get_past Q.code n le)
