-- A snapshot fits a program where the state that it has suits the program.
use Rattle.std.proofs.Common.{◌≡◌, cond, ℕ, zero, suc, ◌+◌, ◌≤◌, Bool, true, false, List, [], ◌∷◌, length, map, reverse, Option, Some, None, Result, Ok, Err, refl, sym, ap, subst, ◌∙◌, arith}
use Rattle.std.specs.Prelude.{◌&&◌, nat_eq, slice_get, drop}
use Rattle.std.specs.Option.{option_map}
use Rattle.std.specs.List.{AllByRecursion}
use Rattle.std.proofs.lemmas.Bool.{eqb-true, eq-eqb}
use Rattle.il_values.specs.declared.value.Ty.{Ty}
use Rattle.il_values.specs.declared.value.Ty.TheVariants as types
use Rattle.il_values.specs.declared.value.Value.{Value}
use Rattle.il_model.specs.declared.kind.BlockKind.{BlockKind}
use Rattle.il_model.specs.declared.kind.BlockKind.TheVariants as kinds
use Rattle.il_values.specs.declared.op.Op.{Op}
use Rattle.il_model.specs.declared.program.Instance.{Instance}
use Rattle.il_model.specs.declared.program.Instr.{Instr}
use Rattle.il_model.specs.declared.typing.Held.{Held}
use Rattle.il_model.specs.declared.typing.Effect.{Effect}
use Rattle.il_model.specs.declared.typing.Effect.TheVariants.{Sets, Opens, Closes}
use Rattle.il_model.specs.declared.typing.TypeFault.{TypeFault}
use Rattle.il_model.specs.Snapshots.{SavedBlock, SavedController}
use Rattle.il_values.specs.Values.{ty_of}
use Rattle.il_model.specs.Row.{same_type, HasRoom}
use Rattle.il_model.specs.Kinds.{kind_code, kind_of_code}
use Rattle.il_values.specs.OpCodes.{op_code}
use Rattle.il_values.specs.OpCodes.{op_of}
use Rattle.il_model.specs.Program.{Program}
use Rattle.il_model.specs.Resolved.{is_labelled}
use Rattle.il_model.specs.Typing.{Shape, shape_on_arrival}
use Rattle.il_model.specs.Checking.{shape_at, after_at, after_line, label_row, line_row, shape_after, ◌>>=◌, top_of}
use Rattle.il_model.proofs.Lawful.{listed}
use Rattle.il_model.proofs.RowTypes.{and_yes, same_type_is}
use Rattle.il_model.proofs.BlockKinds.{kind_of_code-kind_code}
use Rattle.il_model.proofs.TypedLines.{bind_ok, numbered_ok}
use Rattle.il_model.proofs.Room.{line_room}
use Rattle.ctl_model.specs.State.{BlockInstance}
use Rattle.ctl_model.specs.Suits.{held_of, input_types, IsInstanceOf, AreInstances}
use Rattle.il_values.specs.Operators.{same_truth}
use Rattle.ctl_model.specs.Snapshots.{saved_instance, are_types, fits_instance, fit_instances, same_optional, same_held, all_held, fits_types}

pub and_both : (a b : Bool) → a ≡ true → b ≡ true → (a && b) ≡ true
and_both true b e f = f
and_both false b e f = absurd cc

pub same_type_self : (t : Ty) → same_type t t ≡ true
same_type_self types.Bool = refl
same_type_self types.Int = refl
same_type_self types.Dint = refl
same_type_self types.Time = refl
same_type_self types.Lint = refl
same_type_self types.Real = refl
same_type_self types.Word = refl
same_type_self types.Dword = refl

-- ---- values

pub types_of : (vs : List Value) (ts : List Ty) → are_types vs ts ≡ true → map ty_of vs ≡ ts
types_of [] [] h = refl
types_of [] (t ∷ ts) h = absurd cc
types_of (v ∷ vs) [] h = absurd cc
types_of (v ∷ vs) (t ∷ ts) h =
    let b = and_yes (same_type (ty_of v) t) (are_types vs ts) h in
    let e = same_type_is (ty_of v) t b.0 in
    let f = types_of vs ts b.1 in
    ap (λ (u : Ty). u ∷ map ty_of vs) e ∙ ap (λ us. t ∷ us) f

pub of_types : (vs : List Value) → are_types vs (map ty_of vs) ≡ true
of_types [] = refl
of_types (v ∷ vs) = and_both (same_type (ty_of v) (ty_of v)) (are_types vs (map ty_of vs)) (same_type_self (ty_of v)) (of_types vs)

-- ---- instances

pub kind_same : (a b : BlockKind) → nat_eq (kind_code a) (kind_code b) ≡ true → a ≡ b
kind_same a b h =
    let e : kind_code a ≡ kind_code b = eqb-true (kind_code a) (kind_code b) h in
    let f : Some a ≡ Some b = sym (kind_of_code-kind_code a) ∙ ap kind_of_code e ∙ kind_of_code-kind_code b in
    cc

pub instance_of : (d : Instance) (x : BlockInstance) → fits_instance d (saved_instance x) ≡ true → IsInstanceOf d.kind x
instance_of d x h =
    let b = and_yes _ (are_types x.inputs (input_types d.kind)) h in
    record { block = kind_same _ d.kind b.0; inputs = types_of x.inputs (input_types d.kind) b.1 }

pub instances_of : (ds : List Instance) (xs : List BlockInstance) → fit_instances ds (map saved_instance xs) ≡ true → AreInstances ds xs
instances_of [] [] h = tt
instances_of [] (x ∷ xs) h = absurd cc
instances_of (d ∷ ds) [] h = absurd cc
instances_of (d ∷ ds) (x ∷ xs) h =
    let b = and_yes (fits_instance d (saved_instance x)) (fit_instances ds (map saved_instance xs)) h in
    (instance_of d x b.0, instances_of ds xs b.1)

instance_fits : (d : Instance) (x : BlockInstance) → IsInstanceOf d.kind x → fits_instance d (saved_instance x) ≡ true
instance_fits d x is =
    and_both _ (are_types x.inputs (input_types d.kind))
    (ap (λ (k : BlockKind). nat_eq (kind_code k) (kind_code d.kind)) is.block ∙ eq-eqb (kind_code d.kind) (kind_code d.kind) refl)
    (ap (are_types x.inputs) (sym is.inputs) ∙ of_types x.inputs)

pub instances_fit : (ds : List Instance) (xs : List BlockInstance) → AreInstances ds xs → fit_instances ds (map saved_instance xs) ≡ true
instances_fit [] [] h = refl
instances_fit [] (x ∷ xs) h = absurd h
instances_fit (d ∷ ds) [] h = absurd h
instances_fit (d ∷ ds) (x ∷ xs) h = and_both (fits_instance d (saved_instance x)) (fit_instances ds (map saved_instance xs)) (instance_fits d x h.0) (instances_fit ds xs h.1)

few_types : (kind : BlockKind) → length (input_types kind) ≤ 8
few_types kinds.Sr = omega arith
few_types kinds.Rs = omega arith
few_types kinds.RTrig = omega arith
few_types kinds.FTrig = omega arith
few_types kinds.Ctu = omega arith
few_types kinds.Ctd = omega arith
few_types kinds.Ctud = omega arith
few_types kinds.Tp = omega arith
few_types kinds.Ton = omega arith
few_types kinds.Tof = omega arith

map_length : (vs : List Value) → length (map ty_of vs) ≡ length vs
map_length [] = refl
map_length (v ∷ vs) = ap suc (map_length vs)

few_inputs : (d : Instance) (x : SavedBlock) → fits_instance d x ≡ true → length x.inputs ≤ 8
few_inputs d x h =
    let b = and_yes _ (are_types x.inputs (input_types d.kind)) h in
    let e = ap length (types_of x.inputs (input_types d.kind) b.1) in
    let few = few_types d.kind in
    let same = map_length x.inputs in
    omega (arith, e, few, same)

-- each instance that fits has at most 8 inputs
pub all_few : (ds : List Instance) (xs : List SavedBlock) → fit_instances ds xs ≡ true → AllByRecursion (λ (x : SavedBlock). length x.inputs ≤ 8) xs
all_few [] [] h = tt
all_few [] (x ∷ xs) h = absurd cc
all_few (d ∷ ds) [] h = absurd cc
all_few (d ∷ ds) (x ∷ xs) h =
    let b = and_yes (fits_instance d x) (fit_instances ds xs) h in
    (few_inputs d x b.0, all_few ds xs b.1)

-- ---- the types on arrival

pub optional_of : (a b : Option Ty) → same_optional a b ≡ true → a ≡ b
optional_of None None h = refl
optional_of None (Some b) h = absurd cc
optional_of (Some a) None h = absurd cc
optional_of (Some a) (Some b) h = ap (λ (t : Ty). Some t) (same_type_is a b h)

pub optional_self : (a : Option Ty) → same_optional a a ≡ true
optional_self None = refl
optional_self (Some a) = same_type_self a

op_same : (a b : Op) → nat_eq (op_code a) (op_code b) ≡ true → a ≡ b
op_same a b h =
    let e : op_code a ≡ op_code b = eqb-true (op_code a) (op_code b) h in
    let f : Some a ≡ Some b = sym (listed a) ∙ ap op_of e ∙ listed b in
    cc

truth_of : (a b : Bool) → same_truth a b ≡ true → a ≡ b
truth_of true true h = refl
truth_of true false h = absurd cc
truth_of false true h = absurd cc
truth_of false false h = refl

truth_self : (a : Bool) → same_truth a a ≡ true
truth_self true = refl
truth_self false = refl

held_is : (a b : Held) → same_held a b ≡ true → a ≡ b
held_is a b h =
    let x = and_yes (nat_eq (op_code a.op) (op_code b.op)) (same_truth a.negated b.negated && same_type a.ty b.ty) h in
    let y = and_yes (same_truth a.negated b.negated) (same_type a.ty b.ty) x.1 in
    let e = op_same a.op b.op x.0 in
    let f = truth_of a.negated b.negated y.0 in
    let g = same_type_is a.ty b.ty y.1 in
    ap (λ (o : Op). let h : Held = record { op = o; negated = a.negated; ty = a.ty } in h) e
    ∙ ap (λ (n : Bool). let h : Held = record { op = b.op; negated = n; ty = a.ty } in h) f
    ∙ ap (λ (t : Ty). let h : Held = record { op = b.op; negated = b.negated; ty = t } in h) g

held_self : (a : Held) → same_held a a ≡ true
held_self a = and_both (nat_eq (op_code a.op) (op_code a.op)) _ (eq-eqb (op_code a.op) (op_code a.op) refl) (and_both (same_truth a.negated a.negated) (same_type a.ty a.ty) (truth_self a.negated) (same_type_self a.ty))

pub all_held_is : (xs ys : List Held) → all_held xs ys ≡ true → xs ≡ ys
all_held_is [] [] h = refl
all_held_is [] (y ∷ ys) h = absurd cc
all_held_is (x ∷ xs) [] h = absurd cc
all_held_is (x ∷ xs) (y ∷ ys) h =
    let b = and_yes (same_held x y) (all_held xs ys) h in
    ap (λ (z : Held). z ∷ xs) (held_is x y b.0) ∙ ap (λ zs. y ∷ zs) (all_held_is xs ys b.1)

pub all_held_self : (xs : List Held) → all_held xs xs ≡ true
all_held_self [] = refl
all_held_self (x ∷ xs) = and_both (same_held x x) (all_held xs xs) (held_self x) (all_held_self xs)

-- what fits the types at a position
pub record IsTypedSo (Q : Program) (s : SavedController) : Type 0 where
  pub shape : Shape
  pub types : shape_at Q s.position ≡ Ok shape
  pub cr : option_map ty_of s.cr ≡ shape.cr
  pub kept : map held_of (reverse s.deferred) ≡ shape.kept

typed_by : (Q : Program) (s : SavedController) (r : Result Shape (TypeFault × ℕ)) → shape_at Q s.position ≡ r → fits_types s r ≡ true → IsTypedSo Q s
typed_by Q s (Err f) e h = absurd cc
typed_by Q s (Ok sh) e h =
    let b = and_yes (same_optional (option_map ty_of s.cr) sh.cr) (all_held (map held_of (reverse s.deferred)) sh.kept) h in
    record { shape = sh; types = e; cr = optional_of _ _ b.0; kept = all_held_is _ _ b.1 }

pub typed_so : (Q : Program) (s : SavedController) → fits_types s (shape_at Q s.position) ≡ true → IsTypedSo Q s
typed_so Q s h = typed_by Q s (shape_at Q s.position) refl h

pub types_fit : (Q : Program) (s : SavedController) → IsTypedSo Q s → fits_types s (shape_at Q s.position) ≡ true
types_fit Q s is =
    ap (fits_types s) is.types
    ∙ and_both (same_optional (option_map ty_of s.cr) is.shape.cr) (all_held (map held_of (reverse s.deferred)) is.shape.kept)
    (ap (λ o. same_optional o is.shape.cr) is.cr ∙ optional_self is.shape.cr)
    (ap (λ hs. all_held hs is.shape.kept) is.kept ∙ all_held_self is.shape.kept)

-- ---- at most 16 operators are deferred

ok_same : {E : Type 0} (x y : Shape) → (let r : Result Shape E = Ok x in r) ≡ Ok y → x ≡ y
ok_same x y e = cc

arrived_few : (b : Bool) (sh : Shape) → length sh.kept ≤ 16 → length (cond b (record sh { cr = None }) sh).kept ≤ 16
arrived_few true sh le = le
arrived_few false sh le = le

drop_few : (hs : List Held) → length hs ≤ 16 → length (drop 1 hs) ≤ 16
drop_few [] le = le
drop_few (h ∷ hs) le = omega (arith, le)

applied_few : (sh : Shape) (e : Effect) → length sh.kept ≤ 16 → HasRoom (length sh.kept) e → length (shape_after sh e).kept ≤ 16
applied_few sh (Sets cr) le room = le
applied_few sh (Opens held cr) le room = omega (arith, room)
applied_few sh (Closes t) le room = drop_few sh.kept le

line_few : (Q : Program) (n : ℕ) (sh after : Shape) (line : Instr) → length sh.kept ≤ 16 → after_line Q n sh line ≡ Ok after → length after.kept ≤ 16
line_few Q n sh after line le h =
    let label = bind_ok (label_row Q n (length sh.kept) line.label) (λ _. line_row Q sh line >>= λ e. Ok (shape_on_arrival Q (n + 1) (shape_after sh e))) after h in
    let row = bind_ok (line_row Q sh line) (λ e. Ok (shape_on_arrival Q (n + 1) (shape_after sh e))) after label.2 in
    let room = line_room Q sh.cr (top_of sh.kept) (length sh.kept) line row.0 row.1 in
    let is : shape_on_arrival Q (n + 1) (shape_after sh row.0) ≡ after = ok_same _ after row.2 in
    subst (λ (s : Shape). length s.kept ≤ 16) is (arrived_few (is_labelled Q (n + 1)) (shape_after sh row.0) (applied_few sh row.0 le room))

at_few : (Q : Program) (n : ℕ) (sh after : Shape) (o : Option Instr) → length sh.kept ≤ 16 → after_at Q n sh o ≡ Ok after → length after.kept ≤ 16
at_few Q n sh after (Some line) le h = line_few Q n sh after line le (numbered_ok n (after_line Q n sh line) after h)
at_few Q n sh after None le h = subst (λ (s : Shape). length s.kept ≤ 16) (ok_same sh after h) le

pub few_deferred : (Q : Program) (n : ℕ) (sh : Shape) → shape_at Q n ≡ Ok sh → length sh.kept ≤ 16
few_deferred Q zero sh h = subst (λ (s : Shape). length s.kept ≤ 16) (ok_same _ sh h) (arrived_few (is_labelled Q 0) (record { cr = None; kept = [] }) (omega arith))
few_deferred Q (suc n) sh h =
    let b = bind_ok (shape_at Q n) (λ sh. after_at Q n sh (slice_get Q.code n)) sh h in
    at_few Q n b.0 sh (slice_get Q.code n) (few_deferred Q n b.0 b.1) b.2
