-- Declarations in sections, written one after the other.
use Rattle.std.proofs.Common.{◌≡◌, ◌+◌, ◌<◌, ℕ, suc, Bool, List, [], ◌∷◌, ◌++◌, take, drop, length, get_or, Result, Ok, Err, IsErr, refl, sym, ap, ◌∙◌, add-one, append-nil, append_assoc, drop-cons}
use Rattle.std.specs.Prelude.{codes}
use Rattle.std.specs.List.{flat_map}
use Rattle.std.proofs.lemmas.List.{take-append-drop}
use Rattle.std.proofs.Math.Seq.{take-suc}
use Rattle.io_model.specs.declared.counted.CountedWrite.{Ghosts as CountedWriter}
use Rattle.il_model.specs.declared.program.Variable.{Variable}
use Rattle.il_model.specs.declared.program.Instance.{Instance}
use Rattle.il_model.specs.declared.program.Instr.{Instr}
use Rattle.il_model.specs.Program.{Program}
use Rattle.il_model.specs.Image.{version_of}
use Rattle.il_lister.specs.declared.fault.ListFault.{ListFault}
use Rattle.il_lister.specs.Writing.{Writes}
use Rattle.il_lister.specs.Listing.{line_text, turn_text, variable_text, instance_text, variables_text, instances_text, last_retained, first_retained, first_name, opening, listing}
use Rattle.il_lister.proofs.Parts.{equally, stop, then}

-- each item's text, by whether the one before it has the flag
abbrev pub runs : {X : Type 0} → (X → Bool) → (Bool → X → List ℕ) → Bool → List X → List ℕ
runs flag text before [] = []
runs flag text before (x ∷ xs) = text before x ++ runs flag text (flag x) xs

abbrev pub last_flag : {X : Type 0} → (X → Bool) → Bool → List X → Bool
last_flag flag before [] = before
last_flag flag before (x ∷ xs) = last_flag flag (flag x) xs

runs_append : {X : Type 0} (flag : X → Bool) (text : Bool → X → List ℕ) (before : Bool) (xs ys : List X) → runs flag text before (xs ++ ys) ≡ runs flag text before xs ++ runs flag text (last_flag flag before xs) ys
runs_append flag text before [] ys = refl
runs_append flag text before (x ∷ xs) ys =
    ap (λ (l : List ℕ). text before x ++ l) (runs_append flag text (flag x) xs ys)
    ∙ sym (append_assoc (text before x) (runs flag text (flag x) xs) (runs flag text (last_flag flag (flag x) xs) ys))

last_append : {X : Type 0} (flag : X → Bool) (before : Bool) (xs : List X) (x : X) → last_flag flag before (xs ++ x ∷ []) ≡ flag x
last_append flag before [] x = refl
last_append flag before (y ∷ xs) x = last_append flag (flag y) xs x

front : {X : Type 0} (xs : List X) (i : ℕ) (x : X) → i < length xs → x ≡ get_or xs i x → take (i + 1) xs ≡ take i xs ++ x ∷ []
front {X = X} xs i x lt is = rw add-one (take-suc xs i x lt ∙ ap (λ (y : X). take i xs ++ y ∷ []) (sym is))

runs_at : {X : Type 0} (flag : X → Bool) (text : Bool → X → List ℕ) (before : Bool) (xs : List X) (i : ℕ) (x : X) → i < length xs → x ≡ get_or xs i x
    → runs flag text before (take (i + 1) xs) ≡ runs flag text before (take i xs) ++ text (last_flag flag before (take i xs)) x
runs_at flag text before xs i x lt is =
    ap (runs flag text before) (front xs i x lt is)
    ∙ runs_append flag text before (take i xs) (x ∷ [])
    ∙ ap (λ (l : List ℕ). runs flag text before (take i xs) ++ l) (append-nil (text (last_flag flag before (take i xs)) x))

runs_around : {X : Type 0} (flag : X → Bool) (text : Bool → X → List ℕ) (before : Bool) (xs : List X) (i : ℕ) (x : X) → i < length xs → x ≡ get_or xs i x
    → runs flag text before xs ≡ runs flag text before (take i xs) ++ (text (last_flag flag before (take i xs)) x ++ runs flag text (flag x) (drop (i + 1) xs))
runs_around {X = X} flag text before xs i x lt is =
    let rest : drop i xs ≡ x ∷ drop (i + 1) xs = rw add-one (drop-cons xs i x lt ∙ ap (λ (y : X). y ∷ drop (suc i) xs) (sym is)) in
    ap (runs flag text before) (sym (take-append-drop i xs) ∙ ap (λ (l : List X). take i xs ++ l) rest)
    ∙ runs_append flag text before (take i xs) (x ∷ drop (i + 1) xs)

pub last_at : {X : Type 0} (flag : X → Bool) (before : Bool) (xs : List X) (i : ℕ) (x : X) → i < length xs → x ≡ get_or xs i x → last_flag flag before (take (i + 1) xs) ≡ flag x
last_at flag before xs i x lt is = ap (last_flag flag before) (front xs i x lt is) ∙ last_append flag before (take i xs) x

-- one item more
pub more_run : {W X : Type 0} {w : CountedWriter W} {s t u : W} {y : Unit {0}} (flag : X → Bool) (text : Bool → X → List ℕ) (before : Bool) (xs : List X) (i : ℕ) (x : X) → i < length xs → x ≡ get_or xs i x
    → Writes w (runs flag text before (take i xs)) s t (Ok tt) → Writes w (text (last_flag flag before (take i xs)) x) t u (Ok y) → Writes w (runs flag text before (take (i + 1) xs)) s u (Ok tt)
more_run flag text before xs i x lt is h k = equally (sym (runs_at flag text before xs i x lt is)) (then h k)

-- an item that doesn't go out whole
pub breaks_run : {W X : Type 0} {w : CountedWriter W} {s t u : W} {e : ListFault} {r : Result (Unit {0}) ListFault} (flag : X → Bool) (text : Bool → X → List ℕ) (before : Bool) (xs : List X) (i : ℕ) (x : X) → i < length xs → x ≡ get_or xs i x
    → Writes w (runs flag text before (take i xs)) s t (Ok tt) → IsErr r → Writes w (text (last_flag flag before (take i xs)) x) t u (Err e) → Writes w (runs flag text before xs) s u r
breaks_run flag text before xs i x lt is h was k = equally (sym (runs_around flag text before xs i x lt is)) (then h (stop _ was k))

-- one that stops in its first part
pub cut : {W : Type 0} {w : CountedWriter W} {a : List ℕ} (b : List ℕ) {s t : W} {e : ListFault} → Writes w a s t (Err e) → Writes w (a ++ b) s t (Err e)
cut b {e = e} h = stop b {r = Err e} refl h

-- ---- variables and instances are such items

abbrev pub variable_run : Bool → Variable → List ℕ
variable_run before v = turn_text before v.retained v.name ++ variable_text v

abbrev pub instance_run : Bool → Instance → List ℕ
instance_run before x = turn_text before x.retained x.name ++ instance_text x

pub variables_are : (before : Bool) (vs : List Variable) → variables_text before vs ≡ runs (λ (v : Variable). v.retained) variable_run before vs
variables_are before [] = refl
variables_are before (v ∷ vs) =
    sym (append_assoc (turn_text before v.retained v.name) (variable_text v) (variables_text v.retained vs))
    ∙ ap (λ (l : List ℕ). variable_run before v ++ l) (variables_are v.retained vs)

pub instances_are : (before : Bool) (xs : List Instance) → instances_text before xs ≡ runs (λ (x : Instance). x.retained) instance_run before xs
instances_are before [] = refl
instances_are before (x ∷ xs) =
    sym (append_assoc (turn_text before x.retained x.name) (instance_text x) (instances_text x.retained xs))
    ∙ ap (λ (l : List ℕ). instance_run before x ++ l) (instances_are x.retained xs)

pub last_is : (before : Bool) (vs : List Variable) → last_retained before vs ≡ last_flag (λ (v : Variable). v.retained) before vs
last_is before [] = refl
last_is before (v ∷ vs) = last_is v.retained vs

-- ---- the whole, by what was found of the program

abbrev parts : Program → List Variable → List Instance → List Instr → Bool → List ℕ → Bool → List ℕ
parts Q vs xs code first name last = opening (version_of Q) first name ++ (variables_text first vs ++ (instances_text last xs ++ (codes "END_VAR\n" ++ flat_map line_text code)))

pub whole : (Q : Program) (vs : List Variable) (xs : List Instance) (code : List Instr) (first : Bool) (name : List ℕ) (last : Bool) → vs ≡ Q.variables → xs ≡ Q.instances → code ≡ Q.code → first ≡ first_retained vs xs → name ≡ first_name vs xs → last ≡ last_retained first vs
    → opening (version_of Q) first name ++ (variables_text first vs ++ (instances_text last xs ++ (codes "END_VAR\n" ++ flat_map line_text code))) ≡ listing Q
whole Q vs xs code first name last v x c f n l =
    ap (parts Q vs xs code first name) l
    ∙ ap (λ (w : List ℕ). parts Q vs xs code first w (last_retained first vs)) n
    ∙ ap (λ (b : Bool). parts Q vs xs code b (first_name vs xs) (last_retained b vs)) f
    ∙ ap (λ (us : List Variable). let b = first_retained us xs in parts Q us xs code b (first_name us xs) (last_retained b us)) v
    ∙ ap (λ (ys : List Instance). let b = first_retained Q.variables ys in parts Q Q.variables ys code b (first_name Q.variables ys) (last_retained b Q.variables)) x
    ∙ ap (λ (lines : List Instr). let b = first_retained Q.variables Q.instances in parts Q Q.variables Q.instances lines b (first_name Q.variables Q.instances) (last_retained b Q.variables)) c
