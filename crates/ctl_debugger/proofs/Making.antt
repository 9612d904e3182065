-- The controller that a snapshot that fits is of.
use Rattle.std.proofs.Common.{◌≡◌, cond, ℕ, ◌<◌, ◌≤◌, Bool, true, false, List, [], ◌∷◌, length, map, reverse, Option, Some, None, refl, sym, ap, subst, ◌∙◌, arith}
use Rattle.std.specs.Prelude.{◌&&◌, nat_eq, nat_lt, is_none, IfSome}
use Rattle.std.specs.Option.{option_map}
use Rattle.std.specs.Str.{bytes_eq}
use Rattle.std.proofs.lemmas.Bool.{eqb-true, ltb-true}
use Rattle.std.proofs.lemmas.List.{reverse-reverse}
use Rattle.std.proofs.lemmas.Slice.Eq.{bytes_eq-Decides}
use Rattle.il_values.specs.declared.value.Value.{Value}
use Rattle.il_model.specs.declared.cells.Cells.{Cells}
use Rattle.il_model.specs.declared.fetched.Deferred.{Deferred}
use Rattle.il_model.specs.declared.snapshot.ForcedSlot.{ForcedSlot}
use Rattle.il_model.specs.declared.snapshot.SavedPhase.{SavedPhase}
use Rattle.il_model.specs.declared.snapshot.SavedPhase.TheVariants as saved_phases
use Rattle.il_model.specs.Snapshots.{SavedBlock, SavedController}
use Rattle.il_model.specs.Program.{Program}
use Rattle.il_model.specs.Image.{spelling}
use Rattle.il_values.specs.Values.{ty_of}
use Rattle.il_model.specs.Resolved.{is_labelled}
use Rattle.il_model.specs.Typing.{Shape, shape_on_arrival}
use Rattle.il_model.specs.Checking.{shape_at}
use Rattle.il_model.proofs.RowTypes.{and_yes}
use Rattle.ctl_model.specs.declared.phase.Phase.{Phase}
use Rattle.ctl_model.specs.declared.phase.Phase.TheVariants as phases
use Rattle.ctl_model.specs.State.{State, at_rest}
use Rattle.ctl_model.specs.Scan.{Cycle}
use Rattle.ctl_model.specs.Suits.{held_of}
use Rattle.ctl_model.specs.Snapshots.{break_positions, saved_phase, snapshot_of, own_types, are_types, fit_instances, fit_breaks, fit_forces, fits_types, fits_run, is_at_rest, fits_phase, fits}
use Rattle.il_model.proofs.Judged.{arrives}
use Rattle.ctl_model.proofs.Fitting.{typed_so, types_fit}
use Rattle.ctl_scan.specs.Kept.{FitsMachine, AreLawful, KeptCycle, IsCycleOf, HasCycle, performed_in, RestoresCycle}
use Rattle.ctl_scan.specs.Kept.{AreMasks}
use Rattle.ctl_debugger.specs.Owned.{IsOpen, IsKept}
use Rattle.ctl_debugger.specs.Restored.{IsRestored}

-- the parts of a shape that fits
pub record AreFitting (Q : Program) (budget : ℕ) (s : SavedController) : Type 0 where
  pub image : s.image ≡ spelling Q
  pub variables : are_types s.variables (own_types Q.variables) ≡ true
  pub instances : fit_instances Q.instances s.instances ≡ true
  pub breaks : fit_breaks (length Q.code) s.breaks ≡ true
  pub forces : fit_forces s.forces ≡ true
  pub phase : fits_phase Q budget s s.phase ≡ true

pub fitting : (Q : Program) (budget : ℕ) (s : SavedController) → fits Q budget s ≡ true → AreFitting Q budget s
fitting Q budget s h =
    let i = and_yes (bytes_eq s.image (spelling Q)) _ h in
    let a = and_yes (are_types s.variables (own_types Q.variables)) _ i.1 in
    let b = and_yes (fit_instances Q.instances s.instances) _ a.1 in
    let c = and_yes (fit_breaks (length Q.code) s.breaks) _ b.1 in
    let d = and_yes (fit_forces s.forces) (fits_phase Q budget s s.phase) c.1 in
    record { image = (bytes_eq-Decides s.image (spelling Q)).0 i.0; variables = a.0; instances = b.0; breaks = c.0; forces = d.0; phase = d.1 }

-- ---- at rest

record IsResting (s : SavedController) : Type 0 where
  cr : s.cr ≡ None
  deferred : s.deferred ≡ []
  position : s.position ≡ 0

none_is : (o : Option Value) → is_none o ≡ true → o ≡ None
none_is None h = refl
none_is (Some v) h = absurd cc

nil_is : (xs : List Deferred) → nat_eq (length xs) 0 ≡ true → xs ≡ []
nil_is [] h = refl
nil_is (x ∷ xs) h = let e = eqb-true (length (x ∷ xs)) 0 h in absurd (omega (arith, e))

resting : (s : SavedController) → is_at_rest s ≡ true → IsResting s
resting s h =
    let a = and_yes (is_none s.cr) (nat_eq (length s.deferred) 0 && nat_eq s.position 0) h in
    let b = and_yes (nat_eq (length s.deferred) 0) (nat_eq s.position 0) a.1 in
    record { cr = none_is s.cr a.0; deferred = nil_is s.deferred b.0; position = eqb-true s.position 0 b.1 }

no_cr : (b : Bool) → None ≡ (cond b (let sh : Shape = record { cr = None; kept = [] } in record sh { cr = None }) (record { cr = None; kept = [] })).cr
no_cr true = refl
no_cr false = refl

no_kept : (b : Bool) → [] ≡ (cond b (let sh : Shape = record { cr = None; kept = [] } in record sh { cr = None }) (record { cr = None; kept = [] })).kept
no_kept true = refl
no_kept false = refl

rest_typed : (Q : Program) (s : SavedController) → IsResting s → fits_types s (shape_at Q s.position) ≡ true
rest_typed Q s r =
    types_fit Q s (record {
      shape = shape_on_arrival Q 0 (record { cr = None; kept = [] });
      types = ap (shape_at Q) r.position;
      cr = ap (option_map ty_of) r.cr ∙ no_cr (is_labelled Q 0);
      kept = ap (λ (ds : List Deferred). map held_of (reverse ds)) r.deferred ∙ no_kept (is_labelled Q 0);
    })

-- ---- an open scan

run_typed : (Q : Program) (s : SavedController) → fits_run Q s ≡ true → (s.position < length Q.code) × (fits_types s (shape_at Q s.position) ≡ true)
run_typed Q s h =
    let a = and_yes (nat_lt s.position (length Q.code)) (fits_types s (shape_at Q s.position)) h in
    (ltb-true s.position (length Q.code) a.0, a.1)

-- a position of the program, with its types
abbrev IsWithin : Program → SavedController → Type 0
IsWithin Q s = (s.position ≤ length Q.code) × (fits_types s (shape_at Q s.position) ≡ true)

run_within : (Q : Program) (s : SavedController) → fits_run Q s ≡ true → IsWithin Q s
run_within Q s h = let r = run_typed Q s h in let lt : s.position < length Q.code = r.0 in (omega arith, r.1)

phase_typed : (Q : Program) (budget : ℕ) (s : SavedController) (p : SavedPhase) → fits_phase Q budget s p ≡ true → IsWithin Q s
phase_typed Q budget s saved_phases.Idle h = let r = resting s h in (omega (arith, r.position), rest_typed Q s r)
phase_typed Q budget s (saved_phases.Held n) h = run_within Q s (and_yes (fits_run Q s) (nat_lt n budget) h).0
phase_typed Q budget s (saved_phases.Stopped stop) h = run_within Q s h

pub fits_machine : (Q : Program) (budget : ℕ) (s : SavedController) → fits Q budget s ≡ true → FitsMachine Q s
fits_machine Q budget s h =
    let f = fitting Q budget s h in
    let within = phase_typed Q budget s s.phase f.phase in
    let t = typed_so Q s within.1 in
    record { variables = f.variables; instances = f.instances; shape = t.shape; types = arrives Q s.position t.shape within.0 t.types; cr = t.cr; deferred = t.kept }

pub fits_slots : (Q : Program) (budget : ℕ) (s : SavedController) → fits Q budget s ≡ true → fit_forces s.forces ≡ true
fits_slots Q budget s h = (fitting Q budget s h).forces

pub fits_breaks : (Q : Program) (budget : ℕ) (s : SavedController) → fits Q budget s ≡ true → fit_breaks (length Q.code) s.breaks ≡ true
fits_breaks Q budget s h = (fitting Q budget s h).breaks

performed_less : (Q : Program) (budget : ℕ) (s : SavedController) (p : SavedPhase) → 0 < budget → fits_phase Q budget s p ≡ true → performed_in p < budget
performed_less Q budget s saved_phases.Idle some h = some
performed_less Q budget s (saved_phases.Held n) some h = ltb-true n budget (and_yes (fits_run Q s) (nat_lt n budget) h).1
performed_less Q budget s (saved_phases.Stopped stop) some h = some

nil_kept : (kept : List Deferred) → reverse kept ≡ [] → kept ≡ []
nil_kept kept e = sym (reverse-reverse kept) ∙ ap reverse e

rested_is : (st : State) → st.cr ≡ None → st.kept ≡ [] → st.position ≡ 0 → st ≡ at_rest st
rested_is st a b c =
    ap (λ (o : Option Value). let t : State = record st { cr = o } in t) a
    ∙ ap (λ (ds : List Deferred). let t : State = record st { cr = None; kept = ds } in t) b
    ∙ ap (λ (n : ℕ). let t : State = record st { cr = None; kept = []; position = n } in t) c

opens : (Q : Program) (budget : ℕ) (s : SavedController) (c : Cycle) (p : SavedPhase) (phase : Phase) → HasCycle Q s c → c.performed ≡ performed_in p → saved_phase phase (performed_in p) ≡ p → fits_phase Q budget s p ≡ true → IsOpen Q phase c
opens Q budget s c saved_phases.Idle phases.Idle has n e h =
    let r = resting s h in
    (rested_is c.state (sym has.state.cr ∙ r.cr) (nil_kept c.state.kept (sym has.state.deferred ∙ r.deferred)) (sym has.state.position ∙ r.position), n)
opens Q budget s c (saved_phases.Held m) phases.Held has n e h =
    subst (λ (k : ℕ). k < length Q.code) has.state.position (run_typed Q s (and_yes (fits_run Q s) (nat_lt m budget) h).0).0
opens Q budget s c (saved_phases.Stopped t) (phases.Stopped u) has n e h =
    (subst (λ (k : ℕ). k < length Q.code) has.state.position (run_typed Q s h).0, n)
opens Q budget s c saved_phases.Idle phases.Held has n e h = absurd cc
opens Q budget s c saved_phases.Idle (phases.Stopped u) has n e h = absurd cc
opens Q budget s c (saved_phases.Held m) phases.Idle has n e h = absurd cc
opens Q budget s c (saved_phases.Held m) (phases.Stopped u) has n e h = absurd cc
opens Q budget s c (saved_phases.Stopped t) phases.Idle has n e h = absurd cc
opens Q budget s c (saved_phases.Stopped t) phases.Held has n e h = absurd cc

kept_is : (Q : Program) (budget : ℕ) (s : SavedController) (c : KeptCycle) (flags : List Bool) (phase : Phase) → 0 < budget → fits Q budget s ≡ true → IsCycleOf Q c → HasCycle Q s c.cycle → c.cycle.performed ≡ performed_in s.phase → length flags ≡ length Q.code → saved_phase phase (performed_in s.phase) ≡ s.phase → IsKept Q budget c flags phase
kept_is Q budget s c flags phase some h is has n breaks p =
    let f = fitting Q budget s h in
    record {
      cycle = is;
      breaks = breaks;
      performed = subst (λ (k : ℕ). k < budget) (sym n) (performed_less Q budget s s.phase some f.phase);
      scan = opens Q budget s c.cycle s.phase phase has n p f.phase;
    }

saved_by : (im im2 : List ℕ) (a a2 : List Value) (b b2 : List SavedBlock) (i i2 o o2 m m2 : Cells) (cr cr2 : Option Value) (d d2 : List Deferred) (n n2 t t2 u u2 : ℕ) (f f2 : List ForcedSlot) (br br2 : List ℕ) (p p2 : SavedPhase)
    → im ≡ im2 → a ≡ a2 → b ≡ b2 → i ≡ i2 → o ≡ o2 → m ≡ m2 → cr ≡ cr2 → d ≡ d2 → n ≡ n2 → t ≡ t2 → u ≡ u2 → f ≡ f2 → br ≡ br2 → p ≡ p2
    → (let s : SavedController = record { image = im; variables = a; instances = b; input = i; output = o; memory = m; cr = cr; deferred = d; position = n; count = t; moment = u; forces = f; breaks = br; phase = p } in s)
    ≡ record { image = im2; variables = a2; instances = b2; input = i2; output = o2; memory = m2; cr = cr2; deferred = d2; position = n2; count = t2; moment = u2; forces = f2; breaks = br2; phase = p2 }
saved_by im im2 a a2 b b2 i i2 o o2 m m2 cr cr2 d d2 n n2 t t2 u u2 f f2 br br2 p p2 e0 e1 e2 e3 e4 e5 e6 e7 e8 e9 e10 e11 e12 e13 = rw (e0, e1, e2, e3, e4, e5, e6, e7, e8, e9, e10, e11, e12, e13) refl

pub saved_is : (Q : Program) (s : SavedController) (c : Cycle) (flags : List Bool) (phase : Phase) → s.image ≡ spelling Q → HasCycle Q s c → break_positions flags ≡ s.breaks → saved_phase phase c.performed ≡ s.phase → snapshot_of Q (record { cycle = c; breaks = flags; phase = phase }) ≡ s
saved_is Q s c flags phase image has breaks p =
    saved_by _ _ _ _ _ _ _ _ _ _ _ _ _ _ _ _ _ _ _ _ _ _ _ _ _ _ _ _ (sym image) (sym has.state.variables) (sym has.state.instances) (sym has.state.input) (sym has.state.output) (sym has.state.memory) (sym has.state.cr) (sym has.state.deferred) (sym has.state.position) (sym has.count) (sym has.moment) (sym has.forces) breaks p

made : (Q : Program) (budget : ℕ) (s : SavedController) (c : KeptCycle) (flags : List Bool) (phase : Phase) → fits Q budget s ≡ true → HasCycle Q s c.cycle → c.cycle.performed ≡ performed_in s.phase → AreLawful c.cycle.state.instances → AreMasks c.cycle.forces → break_positions flags ≡ s.breaks → saved_phase phase (performed_in s.phase) ≡ s.phase → IsKept Q budget c flags phase → IsRestored Q budget s (record { program = Q; budget = budget; control = record { cycle = c.cycle; breaks = flags; phase = phase } })
made Q budget s c flags phase h has n lawful masks breaks p k = record {
  program = refl;
  budget_is = refl;
  saved = saved_is Q s c.cycle flags phase (fitting Q budget s h).image has breaks (ap (saved_phase phase) n ∙ p);
  fits = h;
  lawful = record { suits = k.cycle.suits; blocks = lawful; forces = masks; breaks = k.breaks; performed = k.performed; scan = k.scan };
}

-- the scan cycle that was made of a snapshot that fits, with its breakpoints and its phase
pub record IsMade (Q : Program) (budget : ℕ) (s : SavedController) (c : KeptCycle) (flags : List Bool) (phase : Phase) : Type 0 where
  pub kept : IsKept Q budget c flags phase
  pub restored : IsRestored Q budget s (record { program = Q; budget = budget; control = record { cycle = c.cycle; breaks = flags; phase = phase } })

pub made_of : (Q : Program) (budget : ℕ) (s : SavedController) (o : Option KeptCycle) (c : KeptCycle) (flags : List Bool) (phase : Phase) → 0 < budget → fits Q budget s ≡ true → o ≡ Some c → IfSome o (IsCycleOf Q) → RestoresCycle Q s (option_map (λ (k : KeptCycle). k.cycle) o) → AreMasks c.cycle.forces → length flags ≡ length Q.code → break_positions flags ≡ s.breaks → saved_phase phase (performed_in s.phase) ≡ s.phase → IsMade Q budget s c flags phase
made_of Q budget s o c flags phase some h found of_program has masks each breaks p =
    let is = subst (λ (x : Option KeptCycle). IfSome x (IsCycleOf Q)) found of_program in
    let r = subst (λ (x : Option KeptCycle). RestoresCycle Q s (option_map (λ (k : KeptCycle). k.cycle) x)) found has in
    let k = kept_is Q budget s c flags phase some h is r.0 r.1 each p in
    record { kept = k; restored = made Q budget s c flags phase h r.0 r.1 r.2 masks breaks p k }
