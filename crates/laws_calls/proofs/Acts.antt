-- What an instruction does, wherever it stands.
use Rattle.std.proofs.Common.{◌≡◌, ℕ, ◌+◌, Bool, true, false, List, [], ◌∷◌, length, Option, Some, None, Result, Ok, Err, refl, sym, ap, ◌∙◌, subst}
use Rattle.std.specs.Prelude.{slice_get, slice_set, nat_lt, if◌then◌else◌}
use Rattle.std.specs.Option.{option_map, option_and_then}
use Rattle.il_values.specs.declared.value.Value.{Value}
use Rattle.il_values.specs.declared.value.Value.TheVariants as values
use Rattle.il_values.specs.declared.value.Stop.{Stop}
use Rattle.il_values.specs.declared.op.Op.{Op}
use Rattle.il_values.specs.declared.op.Op.TheVariants as ops
use Rattle.il_values.specs.declared.op.Modifier.{Modifier}
use Rattle.il_model.specs.declared.program.Place.{Place}
use Rattle.il_model.specs.declared.program.Place.TheVariants.{Own, At, Field}
use Rattle.il_model.specs.declared.program.Area.{Area}
use Rattle.il_model.specs.declared.program.Area.TheVariants as areas
use Rattle.il_model.specs.declared.cells.Cells.{Cells}
use Rattle.il_model.specs.declared.program.Side.{Side}
use Rattle.il_model.specs.declared.program.Side.TheVariants as sides
use Rattle.il_model.specs.declared.fetched.Source.{Source}
use Rattle.il_model.specs.declared.fetched.Source.TheVariants as sources
use Rattle.il_model.specs.declared.fetched.Passed.{Passed}
use Rattle.il_model.specs.declared.fetched.Deferred.{Deferred}
use Rattle.il_model.specs.declared.limits.TheConstants.{MOST_OPEN_PARENTHESES}
use Rattle.il_model.specs.Locations.{area_of}
use Rattle.il_model.specs.Program.{Program}
use Rattle.il_model.specs.Resolved.{is_labelled}
use Rattle.il_values.specs.Operators.{operation_result}
use Rattle.il_values.specs.Functions.{function_result}
use Rattle.ctl_model.specs.State.{State, BlockInstance, cells_of, with_cells, value_in, with_value_in, with_input, with_instance, value_at, with_value_at}
use Rattle.ctl_model.specs.Step as steps
use Rattle.ctl_model.specs.Step.{Outcome, with_value, truth_in, negated_by, goes_on, source_value, place_in, instance_at, takes, after_store, acts, load, store, set_where, invert, after_opening, open_with, combine, close_at, close_with, conversion, to_dint, to_int, to_lint, from_lint, with_copy, with_copy_at, input_passing, output_passing, all_in, all_out, instance_after, with_call_at, after_call, call, act}
use Rattle.laws_calls.specs.Controller.{without_code, IsPerformed}

-- the same state at a position
abbrev pub at_position : ℕ → State → State
at_position p s = record s { position = p }

-- the state behind an instruction there: where the next one bears a label there is no current result
abbrev pub behind_it : Program → ℕ → State → State
behind_it Q p s = record s { position = p + 1; cr = if is_labelled Q (p + 1) then None else s.cr }

-- what an instruction comes to at a position, beside what it comes to by itself
-- a stop leaves the state as it was
abbrev pub Shifted : Program → ℕ → State → Outcome → Outcome → Type 0
Shifted Q p t (steps.Next a) (steps.Next b) = b ≡ behind_it Q p a
Shifted Q p t (steps.Stopped x a) (steps.Stopped y b) = (x ≡ y) × (b ≡ at_position p t)
Shifted Q p t steps.Stuck steps.Stuck = Unit {0}
Shifted Q p t a b = ⊥

module _ (Q : Program) (p : ℕ) (t : State) where
  abbrev B : Program
  B = without_code Q

  shifted_value : {X : Type 0} (o : Option X) (f g : X → Outcome) → ((x : X) → Shifted Q p t (f x) (g x)) → Shifted Q p t (with_value o f) (with_value o g)
  shifted_value None f g each = tt
  shifted_value (Some x) f g each = each x

  shifted_on : (s : State) → Shifted Q p t (goes_on B s) (goes_on Q (at_position p s))
  shifted_on s = refl

  -- a state that is stored to, at a position
  shifted_stored : (o q : Option State) → q ≡ option_map (at_position p) o → Shifted Q p t (with_value o (goes_on B)) (with_value q (goes_on Q))
  shifted_stored None q e = subst (λ (x : Option State). Shifted Q p t (with_value None (goes_on B)) (with_value x (goes_on Q))) (sym e) tt
  shifted_stored (Some s) q e = subst (λ (x : Option State). Shifted Q p t (with_value (Some s) (goes_on B)) (with_value x (goes_on Q))) (sym e) (shifted_on s)

  if_same : {X Y : Type 0} (b : Bool) (f : X → Y) (x : X) → (if b then Some (f x) else None) ≡ option_map f (if b then Some x else None)
  if_same true f x = refl
  if_same false f x = refl

  cells_same : (s : State) (a : Area) (o : Option Cells) → option_map (with_cells (at_position p s) a) o ≡ option_map (at_position p) (option_map (with_cells s a) o)
  cells_same s a None = refl
  cells_same s areas.Input (Some c) = refl
  cells_same s areas.Output (Some c) = refl
  cells_same s areas.Memory (Some c) = refl

  area_same : (s : State) (a : Area) → cells_of (at_position p s) a ≡ cells_of s a
  area_same s areas.Input = refl
  area_same s areas.Output = refl
  area_same s areas.Memory = refl

  instance_same : (s : State) (i : ℕ) (o : Option BlockInstance) → option_map (with_instance (at_position p s) i) o ≡ option_map (at_position p) (option_map (with_instance s i) o)
  instance_same s i None = refl
  instance_same s i (Some x) = refl

  stored_same : (s : State) (to : Place) (v : Value) → with_value_at (at_position p s) to v ≡ option_map (at_position p) (with_value_at s to v)
  stored_same s (Own i) v = if_same (nat_lt i (length s.own)) (at_position p) (record s { own = slice_set s.own i v })
  stored_same s (At loc) v =
      ap (λ (c : Cells). option_map (with_cells (at_position p s) (area_of loc)) (with_value_in c loc v)) (area_same s (area_of loc))
      ∙ cells_same s (area_of loc) (with_value_in (cells_of s (area_of loc)) loc v)
  stored_same s (Field i n) v = instance_same s i (option_and_then (with_input n v) (slice_get s.instances i))

  read_same : (s : State) (from : Place) → value_at (at_position p s) from ≡ value_at s from
  read_same s (Own i) = refl
  read_same s (At loc) = ap (λ (c : Cells). value_in c loc) (area_same s (area_of loc))
  read_same s (Field i n) = refl

  source_same : (s : State) (src : Source) → source_value (at_position p s) src ≡ source_value s src
  source_same s (sources.Constant v) = refl
  source_same s (sources.Of from) = read_same s from
  source_same s sources.Absent = refl
  source_same s (sources.Target n) = refl
  source_same s (sources.Instance i) = refl

  shifted_from : {X : Type 0} (o q : Option X) (f g : X → Outcome) → q ≡ o → ((x : X) → Shifted Q p t (f x) (g x)) → Shifted Q p t (with_value o f) (with_value q g)
  shifted_from {X} o q f g e each = subst (λ (r : Option X). Shifted Q p t (with_value o f) (with_value r g)) (sym e) (shifted_value o f g each)

  shifted_if : (b : Bool) (a c d e : Outcome) → Shifted Q p t a d → Shifted Q p t c e → Shifted Q p t (if b then a else c) (if b then d else e)
  shifted_if true a c d e x y = x
  shifted_if false a c d e x y = y

  -- ---- one by one

  shifted_load : (m : Modifier) (src : Source) → Shifted Q p t (load B t m src) (load Q (at_position p t) m src)
  shifted_load m src =
      shifted_from (source_value t src) (source_value (at_position p t) src)
      (λ (v : Value). with_value (negated_by m.negated v) (λ (w : Value). goes_on B (record t { cr = Some w })))
      (λ (v : Value). with_value (negated_by m.negated v) (λ (w : Value). goes_on Q (record (at_position p t) { cr = Some w })))
      (source_same t src)
      (λ (v : Value). shifted_value (negated_by m.negated v) (λ (w : Value). goes_on B (record t { cr = Some w })) (λ (w : Value). goes_on Q (record (at_position p t) { cr = Some w }))
      (λ (w : Value). shifted_on (record t { cr = Some w })))

  shifted_after_store : (to : Place) (v : Value) → Shifted Q p t (after_store B t to v) (after_store Q (at_position p t) to v)
  shifted_after_store to v = shifted_stored (with_value_at t to v) (with_value_at (at_position p t) to v) (stored_same t to v)

  shifted_store : (m : Modifier) (src : Source) → Shifted Q p t (store B t m src) (store Q (at_position p t) m src)
  shifted_store m src =
      shifted_value t.cr
      (λ (v : Value). with_value (place_in src) (λ (to : Place). with_value (negated_by m.negated v) (after_store B t to)))
      (λ (v : Value). with_value (place_in src) (λ (to : Place). with_value (negated_by m.negated v) (after_store Q (at_position p t) to)))
      (λ (v : Value). shifted_value (place_in src) (λ (to : Place). with_value (negated_by m.negated v) (after_store B t to)) (λ (to : Place). with_value (negated_by m.negated v) (after_store Q (at_position p t) to))
      (λ (to : Place). shifted_value (negated_by m.negated v) (after_store B t to) (after_store Q (at_position p t) to) (λ (w : Value). shifted_after_store to w)))

  shifted_set : (b : Bool) (src : Source) → Shifted Q p t (set_where B t b src) (set_where Q (at_position p t) b src)
  shifted_set b src =
      shifted_value t.cr
      (λ (v : Value). with_value (truth_in v) (λ (c : Bool). with_value (place_in src) (λ (to : Place). if c then after_store B t to (values.Bool b) else goes_on B t)))
      (λ (v : Value). with_value (truth_in v) (λ (c : Bool). with_value (place_in src) (λ (to : Place). if c then after_store Q (at_position p t) to (values.Bool b) else goes_on Q (at_position p t))))
      (λ (v : Value). shifted_value (truth_in v)
      (λ (c : Bool). with_value (place_in src) (λ (to : Place). if c then after_store B t to (values.Bool b) else goes_on B t))
      (λ (c : Bool). with_value (place_in src) (λ (to : Place). if c then after_store Q (at_position p t) to (values.Bool b) else goes_on Q (at_position p t)))
      (λ (c : Bool). shifted_value (place_in src)
      (λ (to : Place). if c then after_store B t to (values.Bool b) else goes_on B t)
      (λ (to : Place). if c then after_store Q (at_position p t) to (values.Bool b) else goes_on Q (at_position p t))
      (λ (to : Place). shifted_if c (after_store B t to (values.Bool b)) (goes_on B t) (after_store Q (at_position p t) to (values.Bool b)) (goes_on Q (at_position p t)) (shifted_after_store to (values.Bool b)) (shifted_on t))))

  shifted_invert : Shifted Q p t (invert B t) (invert Q (at_position p t))
  shifted_invert =
      shifted_value t.cr
      (λ (v : Value). with_value (negated_by true v) (λ (w : Value). goes_on B (record t { cr = Some w })))
      (λ (v : Value). with_value (negated_by true v) (λ (w : Value). goes_on Q (record (at_position p t) { cr = Some w })))
      (λ (v : Value). shifted_value (negated_by true v) (λ (w : Value). goes_on B (record t { cr = Some w })) (λ (w : Value). goes_on Q (record (at_position p t) { cr = Some w }))
      (λ (w : Value). shifted_on (record t { cr = Some w })))

  shifted_takes : (o : Option (Result Value Stop)) → Shifted Q p t (takes B t o) (takes Q (at_position p t) o)
  shifted_takes None = tt
  shifted_takes (Some (Ok v)) = shifted_on (record t { cr = Some v })
  shifted_takes (Some (Err stop)) = (refl, refl)

  shifted_opening : (op : Op) (n : Bool) (o : Option Value) → Shifted Q p t (after_opening B t op n o) (after_opening Q (at_position p t) op n o)
  shifted_opening op n o =
      shifted_value t.cr
      (λ (v : Value). if nat_lt (length t.kept) MOST_OPEN_PARENTHESES then goes_on B (record t { kept = record { op = op; negated = n; cr = v } ∷ t.kept; cr = o }) else steps.Stuck)
      (λ (v : Value). if nat_lt (length t.kept) MOST_OPEN_PARENTHESES then goes_on Q (record (at_position p t) { kept = record { op = op; negated = n; cr = v } ∷ t.kept; cr = o }) else steps.Stuck)
      (λ (v : Value). shifted_if (nat_lt (length t.kept) MOST_OPEN_PARENTHESES)
      (goes_on B (record t { kept = record { op = op; negated = n; cr = v } ∷ t.kept; cr = o })) steps.Stuck
      (goes_on Q (record (at_position p t) { kept = record { op = op; negated = n; cr = v } ∷ t.kept; cr = o })) steps.Stuck
      (shifted_on (record t { kept = record { op = op; negated = n; cr = v } ∷ t.kept; cr = o })) tt)

  shifted_open_value : (op : Op) (m : Modifier) (src : Source)
      → Shifted Q p t (with_value (source_value t src) (λ (v : Value). after_opening B t op m.negated (Some v))) (with_value (source_value (at_position p t) src) (λ (v : Value). after_opening Q (at_position p t) op m.negated (Some v)))
  shifted_open_value op m src =
      shifted_from (source_value t src) (source_value (at_position p t) src) (λ (v : Value). after_opening B t op m.negated (Some v)) (λ (v : Value). after_opening Q (at_position p t) op m.negated (Some v))
      (source_same t src) (λ (v : Value). shifted_opening op m.negated (Some v))

  shifted_open : (op : Op) (m : Modifier) (src : Source) → Shifted Q p t (open_with B t op m src) (open_with Q (at_position p t) op m src)
  shifted_open op m sources.Absent = shifted_opening op m.negated None
  shifted_open op m (sources.Constant v) = shifted_open_value op m (sources.Constant v)
  shifted_open op m (sources.Of from) = shifted_open_value op m (sources.Of from)
  shifted_open op m (sources.Target n) = shifted_open_value op m (sources.Target n)
  shifted_open op m (sources.Instance i) = shifted_open_value op m (sources.Instance i)

  shifted_combine : (op : Op) (m : Modifier) (src : Source) → Shifted Q p t (combine B t op m src) (combine Q (at_position p t) op m src)
  shifted_combine op m src =
      shifted_if m.opens (open_with B t op m src)
      (with_value t.cr (λ (a : Value). with_value (source_value t src) (λ (v : Value). with_value (negated_by m.negated v) (λ (w : Value). takes B t (operation_result op a w)))))
      (open_with Q (at_position p t) op m src)
      (with_value t.cr (λ (a : Value). with_value (source_value (at_position p t) src) (λ (v : Value). with_value (negated_by m.negated v) (λ (w : Value). takes Q (at_position p t) (operation_result op a w)))))
      (shifted_open op m src)
      (shifted_value t.cr
      (λ (a : Value). with_value (source_value t src) (λ (v : Value). with_value (negated_by m.negated v) (λ (w : Value). takes B t (operation_result op a w))))
      (λ (a : Value). with_value (source_value (at_position p t) src) (λ (v : Value). with_value (negated_by m.negated v) (λ (w : Value). takes Q (at_position p t) (operation_result op a w))))
      (λ (a : Value). shifted_from (source_value t src) (source_value (at_position p t) src)
      (λ (v : Value). with_value (negated_by m.negated v) (λ (w : Value). takes B t (operation_result op a w)))
      (λ (v : Value). with_value (negated_by m.negated v) (λ (w : Value). takes Q (at_position p t) (operation_result op a w)))
      (source_same t src)
      (λ (v : Value). shifted_value (negated_by m.negated v) (λ (w : Value). takes B t (operation_result op a w)) (λ (w : Value). takes Q (at_position p t) (operation_result op a w)) (λ (w : Value). shifted_takes (operation_result op a w)))))

  shifted_close_at : (kept : List Deferred) (o : Option (Result Value Stop)) → Shifted Q p t (close_at B t kept o) (close_at Q (at_position p t) kept o)
  shifted_close_at kept None = tt
  shifted_close_at kept (Some (Ok v)) = shifted_on (record t { cr = Some v; kept = kept })
  shifted_close_at kept (Some (Err stop)) = (refl, refl)

  shifted_close : (kept : List Deferred) → Shifted Q p t (close_with B t kept) (close_with Q (at_position p t) kept)
  shifted_close [] = tt
  shifted_close (d ∷ kept) =
      shifted_value t.cr
      (λ (v : Value). with_value (negated_by d.negated v) (λ (w : Value). close_at B t kept (operation_result d.op d.cr w)))
      (λ (v : Value). with_value (negated_by d.negated v) (λ (w : Value). close_at Q (at_position p t) kept (operation_result d.op d.cr w)))
      (λ (v : Value). shifted_value (negated_by d.negated v) (λ (w : Value). close_at B t kept (operation_result d.op d.cr w)) (λ (w : Value). close_at Q (at_position p t) kept (operation_result d.op d.cr w))
      (λ (w : Value). shifted_close_at kept (operation_result d.op d.cr w)))

  shifted_conversion : (f : Value → Option (Result Value Stop)) → Shifted Q p t (conversion B t f) (conversion Q (at_position p t) f)
  shifted_conversion f = shifted_value t.cr (λ (v : Value). takes B t (f v)) (λ (v : Value). takes Q (at_position p t) (f v)) (λ (v : Value). shifted_takes (f v))

  -- ---- calls of standard blocks

  then_same : (o : Option Value) (q : Option Value) (f g : Value → Option State) → q ≡ o → ((v : Value) → g v ≡ option_map (at_position p) (f v)) → option_and_then g q ≡ option_map (at_position p) (option_and_then f o)
  then_same None q f g e each = ap (option_and_then g) e
  then_same (Some v) q f g e each = ap (option_and_then g) e ∙ each v

  state_then : (o q : Option State) (f g : State → Option State) → q ≡ option_map (at_position p) o → ((s : State) → g (at_position p s) ≡ option_map (at_position p) (f s)) → option_and_then g q ≡ option_map (at_position p) (option_and_then f o)
  state_then None q f g e each = ap (option_and_then g) e
  state_then (Some s) q f g e each = ap (option_and_then g) e ∙ each s

  copy_same : (s : State) (src : Source) (to : Place) → with_copy (at_position p s) src to ≡ option_map (at_position p) (with_copy s src to)
  copy_same s src to = then_same (source_value s src) (source_value (at_position p s) src) (with_value_at s to) (with_value_at (at_position p s) to) (source_same s src) (λ (v : Value). stored_same s to v)

  copy_at_same : (s : State) (src : Source) (o : Option Place) → with_copy_at (at_position p s) src o ≡ option_map (at_position p) (with_copy_at s src o)
  copy_at_same s src None = refl
  copy_at_same s src (Some to) = copy_same s src to

  in_by : (s : State) (i : ℕ) (a : Passed) (x : Side) → a.side ≡ x → input_passing (at_position p s) i a ≡ option_map (at_position p) (input_passing s i a)
  in_by s i a sides.Input e = rw e (copy_same s a.source (Field i a.field))
  in_by s i a sides.Output e = rw e refl

  out_by : (s : State) (i : ℕ) (a : Passed) (x : Side) → a.side ≡ x → output_passing (at_position p s) i a ≡ option_map (at_position p) (output_passing s i a)
  out_by s i a sides.Input e = rw e refl
  out_by s i a sides.Output e = rw e (copy_at_same s (sources.Of (Field i a.field)) (place_in a.source))

  all_in_same : (s : State) (i : ℕ) (args : List Passed) → all_in (at_position p s) i args ≡ option_map (at_position p) (all_in s i args)
  all_in_same s i [] = refl
  all_in_same s i (a ∷ more) = state_then (input_passing s i a) (input_passing (at_position p s) i a) (λ (t : State). all_in t i more) (λ (t : State). all_in t i more) (in_by s i a a.side refl) (λ (t : State). all_in_same t i more)

  all_out_same : (s : State) (i : ℕ) (args : List Passed) → all_out (at_position p s) i args ≡ option_map (at_position p) (all_out s i args)
  all_out_same s i [] = refl
  all_out_same s i (a ∷ more) = state_then (output_passing s i a) (output_passing (at_position p s) i a) (λ (t : State). all_out t i more) (λ (t : State). all_out t i more) (out_by s i a a.side refl) (λ (t : State). all_out_same t i more)

  called_by : (s : State) (i now : ℕ) (o : Option BlockInstance) → option_map (λ (x : BlockInstance). with_instance (at_position p s) i (instance_after now x)) o ≡ option_map (at_position p) (option_map (λ (x : BlockInstance). with_instance s i (instance_after now x)) o)
  called_by s i now None = refl
  called_by s i now (Some x) = refl

  after_call_same : (now : ℕ) (s : State) (i : ℕ) (args : List Passed) → after_call now (at_position p s) i args ≡ option_map (at_position p) (after_call now s i args)
  after_call_same now s i args =
      state_then (all_in s i args) (all_in (at_position p s) i args)
      (λ (t : State). option_and_then (λ (u : State). all_out u i args) (with_call_at t i now)) (λ (t : State). option_and_then (λ (u : State). all_out u i args) (with_call_at t i now))
      (all_in_same s i args)
      (λ (t : State). state_then (with_call_at t i now) (with_call_at (at_position p t) i now) (λ (u : State). all_out u i args) (λ (u : State). all_out u i args)
      (called_by t i now (slice_get t.instances i)) (λ (u : State). all_out_same u i args))

  shifted_call : (now : ℕ) (m : Modifier) (src : Source) (args : List Passed) → Shifted Q p t (call B now t m src args) (call Q now (at_position p t) m src args)
  shifted_call now m src args =
      shifted_value (instance_at src)
      (λ (i : ℕ). with_value (acts m t) (λ (b : Bool). if b then with_value (after_call now t i args) (goes_on B) else goes_on B t))
      (λ (i : ℕ). with_value (acts m (at_position p t)) (λ (b : Bool). if b then with_value (after_call now (at_position p t) i args) (goes_on Q) else goes_on Q (at_position p t)))
      (λ (i : ℕ). shifted_value (acts m t)
      (λ (b : Bool). if b then with_value (after_call now t i args) (goes_on B) else goes_on B t)
      (λ (b : Bool). if b then with_value (after_call now (at_position p t) i args) (goes_on Q) else goes_on Q (at_position p t))
      (λ (b : Bool). shifted_if b (with_value (after_call now t i args) (goes_on B)) (goes_on B t) (with_value (after_call now (at_position p t) i args) (goes_on Q)) (goes_on Q (at_position p t))
      (shifted_stored (after_call now t i args) (after_call now (at_position p t) i args) (after_call_same now t i args)) (shifted_on t)))

  pub shifted_act : (now : ℕ) (op : Op) (m : Modifier) (src : Source) (args : List Passed) → IsPerformed op → Shifted Q p t (act B now t op m src args) (act Q now (at_position p t) op m src args)
  shifted_act now ops.Empty m src args is = shifted_on t
  shifted_act now ops.Ld m src args is = shifted_load m src
  shifted_act now ops.St m src args is = shifted_store m src
  shifted_act now ops.S m src args is = shifted_set true src
  shifted_act now ops.R m src args is = shifted_set false src
  shifted_act now ops.Not m src args is = shifted_invert
  shifted_act now ops.Jmp m src args is = absurd is
  shifted_act now ops.Cal m src args is = shifted_call now m src args
  shifted_act now ops.Ret m src args is = absurd is
  shifted_act now ops.Close m src args is = shifted_close t.kept
  shifted_act now ops.IntToDint m src args is = shifted_conversion to_dint
  shifted_act now ops.DintToInt m src args is = shifted_conversion to_int
  shifted_act now ops.DintToLint m src args is = shifted_conversion to_lint
  shifted_act now ops.LintToDint m src args is = shifted_conversion from_lint
  shifted_act now (ops.Apply f) m src args is = shifted_conversion (function_result f)
  shifted_act now op m src args is = shifted_combine op m src
