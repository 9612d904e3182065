-- A warm start, item by item: those before a place have begun, the others are as they were.
use Rattle.std.proofs.Common.{◌≡◌, ℕ, zero, suc, ◌+◌, ◌<◌, true, false, List, [], ◌∷◌, length, get_or, None, refl, sym, ap, ◌∙◌, arith}
use Rattle.std.specs.Prelude.{slice_set}
use Rattle.std.proofs.lemmas.List.{get_or_default}
use Rattle.il_values.specs.declared.value.Value.{Value}
use Rattle.il_model.specs.declared.cells.Cells.{Cells}
use Rattle.il_model.specs.declared.program.Area.{Area}
use Rattle.il_model.specs.declared.program.Variable.{Variable}
use Rattle.il_model.specs.declared.program.Instance.{Instance}
use Rattle.il_model.specs.Program.{Program}
use Rattle.ctl_model.specs.State.{State, BlockInstance, cold_instance}
use Rattle.ctl_model.specs.Warm.{warm_value, warm_values, warm_instance, warm_instances, warm_cells, warm}

abbrev pub begun : {D X : Type 0} → (D → X → X) → ℕ → List D → List X → List X
begun start zero ds xs = xs
begun start (suc i) [] xs = xs
begun start (suc i) (d ∷ ds) [] = []
begun start (suc i) (d ∷ ds) (x ∷ xs) = start d x ∷ begun start i ds xs

pub begun_length : {D X : Type 0} (start : D → X → X) (i : ℕ) (ds : List D) (xs : List X) → length (begun start i ds xs) ≡ length xs
begun_length start zero ds xs = refl
begun_length start (suc i) [] xs = refl
begun_length start (suc i) (d ∷ ds) [] = refl
begun_length start (suc i) (d ∷ ds) (x ∷ xs) = ap suc (begun_length start i ds xs)

-- an item that stays as it was
stays : {D X : Type 0} (start : D → X → X) (i : ℕ) (ds : List D) (xs : List X) (d : D) → i < length ds → ((x : X) → start (get_or ds i d) x ≡ x) → begun start (suc i) ds xs ≡ begun start i ds xs
stays start i [] xs d lt same = absurd (omega (arith, lt))
stays start zero (e ∷ ds) [] d lt same = refl
stays start zero (e ∷ ds) (x ∷ xs) d lt same = ap (λ y. y ∷ xs) (same x)
stays start (suc i) (e ∷ ds) [] d lt same = refl
stays start (suc i) (e ∷ ds) (x ∷ xs) d lt same = ap (λ ys. start e x ∷ ys) (stays start i ds xs d (omega (arith, lt)) same)

-- an item that begins again
begins : {D X : Type 0} (start : D → X → X) (i : ℕ) (ds : List D) (xs : List X) (d : D) (y : X) → i < length ds → ((x : X) → start (get_or ds i d) x ≡ y) → begun start (suc i) ds xs ≡ slice_set (begun start i ds xs) i y
begins start i [] xs d y lt new = absurd (omega (arith, lt))
begins start zero (e ∷ ds) [] d y lt new = refl
begins start zero (e ∷ ds) (x ∷ xs) d y lt new = ap (λ z. z ∷ xs) (new x)
begins start (suc i) (e ∷ ds) [] d y lt new = refl
begins start (suc i) (e ∷ ds) (x ∷ xs) d y lt new = ap (λ ys. start e x ∷ ys) (begins start i ds xs d y (omega (arith, lt)) new)

-- the next item
begins_next : {D X : Type 0} (start : D → X → X) (i : ℕ) (ds : List D) (xs : List X) (d : D) (x : X) → i < length ds → length xs ≡ length ds
    → begun start (suc i) ds xs ≡ slice_set (begun start i ds xs) i (start (get_or ds i d) (get_or (begun start i ds xs) i x))
begins_next start i [] xs d x lt long = absurd (omega (arith, lt))
begins_next start i (e ∷ ds) [] d x lt long = absurd (omega (arith, long))
begins_next start zero (e ∷ ds) (y ∷ xs) d x lt long = refl
begins_next start (suc i) (e ∷ ds) (y ∷ xs) d x lt long = ap (λ ys. start e y ∷ ys) (begins_next start i ds xs d x (omega (arith, lt)) (omega (arith, long)))

-- ---- values

-- a variable's value behind a warm start, written in the place of the one that it had
pub value_step : (i : ℕ) (vs : List Variable) (old own : List Value) (v : Variable) (x w : Value) → i < length vs → length old ≡ length vs → own ≡ begun warm_value i vs old → v ≡ get_or vs i v → x ≡ get_or own i x → w ≡ warm_value v x
    → slice_set own i w ≡ begun warm_value (i + 1) vs old
value_step i vs old own v x w lt long done at had is =
    let next : i + 1 ≡ suc i = omega arith in
    let here : w ≡ warm_value (get_or vs i v) (get_or (begun warm_value i vs old) i x) =
    is ∙ ap (λ (u : Variable). warm_value u x) at ∙ ap (warm_value (get_or vs i v)) (had ∙ ap (λ (ys : List Value). get_or ys i x) done) in
    ap (λ (ys : List Value). slice_set ys i w) done ∙ ap (slice_set (begun warm_value i vs old) i) here ∙ rw next (sym (begins_next warm_value i vs old v x lt long))

pub values_warm : (vs : List Variable) (own : List Value) → length own ≡ length vs → begun warm_value (length vs) vs own ≡ warm_values vs own
values_warm [] [] long = refl
values_warm [] (x ∷ own) long = absurd (omega (arith, long))
values_warm (v ∷ vs) [] long = refl
values_warm (v ∷ vs) (x ∷ own) long = ap (λ xs. warm_value v x ∷ xs) (values_warm vs own (omega (arith, long)))

-- ---- instances

pub instance_stays : (i : ℕ) (ds : List Instance) (xs : List BlockInstance) (d : Instance) → i < length ds → (get_or ds i d).retained ≡ true → begun warm_instance (i + 1) ds xs ≡ begun warm_instance i ds xs
instance_stays i ds xs d lt kept =
    let next : i + 1 ≡ suc i = omega arith in
    rw next (stays warm_instance i ds xs d lt (λ x. rw kept refl))

pub instance_begins : (i : ℕ) (ds : List Instance) (xs : List BlockInstance) (d e : Instance) (new : BlockInstance) → i < length ds → (get_or ds i d).retained ≡ false → new ≡ cold_instance (get_or ds i e)
    → begun warm_instance (i + 1) ds xs ≡ slice_set (begun warm_instance i ds xs) i new
instance_begins i ds xs d e new lt kept is =
    let same : new ≡ cold_instance (get_or ds i d) = is ∙ ap cold_instance (get_or_default ds i e d lt) in
    let next : i + 1 ≡ suc i = omega arith in
    rw (next, same) (begins warm_instance i ds xs d (cold_instance (get_or ds i d)) lt (λ x. rw kept refl))

pub instances_warm : (ds : List Instance) (xs : List BlockInstance) → length xs ≡ length ds → begun warm_instance (length ds) ds xs ≡ warm_instances ds xs
instances_warm [] [] long = refl
instances_warm [] (x ∷ xs) long = absurd (omega (arith, long))
instances_warm (d ∷ ds) [] long = refl
instances_warm (d ∷ ds) (x ∷ xs) long = ap (λ ys. warm_instance d x ∷ ys) (instances_warm ds xs (omega (arith, long)))

-- ---- the state behind a warm start

-- seen again by its parts
pub is_warm : (Q : Program) (s old : State) (vs : List Variable) (ds : List Instance) (own : List Value) (xs : List BlockInstance) (input output memory : Cells) → old ≡ s
    → vs ≡ Q.variables → ds ≡ Q.instances → own ≡ warm_values vs old.own → xs ≡ warm_instances ds old.instances → input ≡ warm_cells Area.Input old.input vs → output ≡ warm_cells Area.Output old.output vs → memory ≡ warm_cells Area.Memory old.memory vs
    → (let t : State = record { own = own; instances = xs; input = input; output = output; memory = memory; cr = None; kept = []; position = 0 } in t) ≡ warm Q s
is_warm Q s old vs ds own xs input output memory same a b c d e f g = (rw (c, d, e, f, g, a, b) refl) ∙ ap (warm Q) same
