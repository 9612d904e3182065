-- What is saved of a controller fits, and no two controllers of one program and one budget are saved as the same.
use Rattle.std.proofs.Common.{◌≡◌, ℕ, ◌<◌, Bool, true, false, List, length, map, reverse, Option, Result, Ok, Err, refl, sym, ap, subst, ◌∙◌}
use Rattle.std.specs.Prelude.{◌&&◌, nat_eq, nat_lt, is_none}
use Rattle.std.proofs.lemmas.Bool.{lt-ltb}
use Rattle.std.proofs.lemmas.List.{reverse-reverse}
use Rattle.std.proofs.lemmas.Slice.Eq.{bytes_eq-Decides}
use Rattle.std.specs.Str.{bytes_eq}
use Rattle.il_values.specs.declared.value.Value.{Value}
use Rattle.il_values.specs.declared.value.Stop.{Stop}
use Rattle.il_model.specs.declared.cells.Cells.{Cells}
use Rattle.il_model.specs.declared.fetched.Deferred.{Deferred}
use Rattle.il_model.specs.Snapshots.{SavedController}
use Rattle.il_model.specs.Program.{Program}
use Rattle.il_model.specs.Image.{spelling}
use Rattle.il_model.specs.Checking.{shape_at}
use Rattle.ctl_model.specs.declared.forces.Forces.{Forces}
use Rattle.ctl_model.specs.declared.phase.Phase.{Phase}
use Rattle.ctl_model.specs.declared.phase.Phase.TheVariants as phases
use Rattle.ctl_model.specs.State.{State, BlockInstance}
use Rattle.ctl_model.specs.Scan.{Cycle}
use Rattle.ctl_model.specs.Suits.{Suits, held_of}
use Rattle.ctl_model.specs.Commands.{Control}
use Rattle.ctl_model.specs.Snapshots.{own_values, saved_instance, break_positions, saved_phase, snapshot_of, own_types, are_types, fit_instances, fit_breaks, fit_forces, fits_types, fits_run, fits_phase, fits}
use Rattle.il_model.proofs.Judged.{arrived}
use Rattle.ctl_model.proofs.Fitting.{and_both, of_types, instances_fit, types_fit}
use Rattle.ctl_debugger.specs.declared.snap_error.SnapError.{SnapError}
use Rattle.ctl_debugger.specs.declared.snap_error.SnapError.TheVariants.{BadBlock, BadShape, Memory}
use Rattle.ctl_debugger.specs.Owned.{Owned, IsOpen, IsController}
use Rattle.ctl_debugger.specs.Restored.{RestoresTheSame}
use Rattle.ctl_model.specs.State.{BlockInstance}
use Rattle.ctl_model.specs.Snapshots.{AreKnown}
use Rattle.ctl_debugger.proofs.States.{states}
use Rattle.ctl_model.proofs.OwnValues.{own_typed, own_same}
use Rattle.ctl_debugger.proofs.Flags.{positions_fit, breaks_same}
use Rattle.ctl_debugger.proofs.ForcesAgain.{slots_fit, forces_same}

-- ---- it fits

abbrev rests : State → Bool
rests st = is_none st.cr && (nat_eq (length (reverse st.kept)) 0 && nat_eq st.position 0)

run_fits : (Q : Program) (s : Control) → Suits Q s.cycle.state → s.cycle.state.position < length Q.code → fits_run Q (snapshot_of Q s) ≡ true
run_fits Q s suits lt =
    and_both (nat_lt s.cycle.state.position (length Q.code)) (fits_types (snapshot_of Q s) (shape_at Q s.cycle.state.position)) (lt-ltb s.cycle.state.position (length Q.code) lt)
    (types_fit Q (snapshot_of Q s) (record { shape = suits.shape; types = arrived Q s.cycle.state.position suits.shape suits.types; cr = suits.has.cr; kept = ap (map held_of) (reverse-reverse s.cycle.state.kept) ∙ suits.has.kept }))

phase_fits : (Q : Program) (budget : ℕ) (s : Control) (phase : Phase) → Suits Q s.cycle.state → IsOpen Q phase s.cycle → s.cycle.performed < budget → fits_phase Q budget (snapshot_of Q s) (saved_phase phase s.cycle.performed) ≡ true
phase_fits Q budget s phases.Idle suits is_open some = ap rests is_open.0
phase_fits Q budget s phases.Held suits is_open some = and_both (fits_run Q (snapshot_of Q s)) (nat_lt s.cycle.performed budget) (run_fits Q s suits is_open) (lt-ltb s.cycle.performed budget some)
phase_fits Q budget s (phases.Stopped stop) suits is_open some = run_fits Q s suits is_open.0

pub saved_fits : (o : Owned) → IsController o → fits o.program o.budget (snapshot_of o.program o.control) ≡ true
saved_fits o is =
    let st = o.control.cycle.state in
    let own : List Value = own_values o.program.variables st.own in
    and_both (bytes_eq (spelling o.program) (spelling o.program)) _ ((bytes_eq-Decides (spelling o.program) (spelling o.program)).1 refl)
    (and_both (are_types own (own_types o.program.variables)) _ (ap (are_types own) (sym (own_typed o.program.variables st.own is.suits.values.own)) ∙ of_types own)
    (and_both (fit_instances o.program.instances (map saved_instance st.instances)) _ (instances_fit o.program.instances st.instances is.suits.values.instances)
    (and_both (fit_breaks (length o.program.code) (break_positions o.control.breaks)) _ (positions_fit o.control.breaks (length o.program.code) is.breaks)
    (and_both (fit_forces (snapshot_of o.program o.control).forces) _ (slots_fit o.control.cycle.forces is.forces)
    (phase_fits o.program o.budget o.control o.control.phase is.suits is.scan is.performed)))))

-- ---- it is one's own

phase_same : (Q : Program) (p q : Phase) (c d : Cycle) → IsOpen Q p c → IsOpen Q q d → saved_phase p c.performed ≡ saved_phase q d.performed → (p ≡ q) × (c.performed ≡ d.performed)
phase_same Q phases.Idle phases.Idle c d a b e = (refl, a.1 ∙ sym b.1)
phase_same Q phases.Held phases.Held c d a b e = (refl, cc)
phase_same Q (phases.Stopped s) (phases.Stopped t) c d a b e = let is : s ≡ t = cc in (ap (λ (x : Stop). phases.Stopped x) is, a.1 ∙ sym b.1)
phase_same Q phases.Idle phases.Held c d a b e = absurd cc
phase_same Q phases.Idle (phases.Stopped t) c d a b e = absurd cc
phase_same Q phases.Held phases.Idle c d a b e = absurd cc
phase_same Q phases.Held (phases.Stopped t) c d a b e = absurd cc
phase_same Q (phases.Stopped s) phases.Idle c d a b e = absurd cc
phase_same Q (phases.Stopped s) phases.Held c d a b e = absurd cc

state_same : (own own2 : List Value) (xs xs2 : List BlockInstance) (i i2 o o2 m m2 : Cells) (cr cr2 : Option Value) (kept kept2 : List Deferred) (n n2 : ℕ)
    → own ≡ own2 → xs ≡ xs2 → i ≡ i2 → o ≡ o2 → m ≡ m2 → cr ≡ cr2 → kept ≡ kept2 → n ≡ n2
    → (let s : State = record { own = own; instances = xs; input = i; output = o; memory = m; cr = cr; kept = kept; position = n } in s)
    ≡ record { own = own2; instances = xs2; input = i2; output = o2; memory = m2; cr = cr2; kept = kept2; position = n2 }
state_same own own2 xs xs2 i i2 o o2 m m2 cr cr2 kept kept2 n n2 a b c d e f g h = rw (a, b, c, d, e, f, g, h) refl

control_same : (s s2 : State) (count count2 moment moment2 performed performed2 : ℕ) (f f2 : Forces) (breaks breaks2 : List Bool) (p p2 : Phase)
    → s ≡ s2 → count ≡ count2 → moment ≡ moment2 → performed ≡ performed2 → f ≡ f2 → breaks ≡ breaks2 → p ≡ p2
    → (let c : Control = record { cycle = record { state = s; count = count; moment = moment; forces = f; performed = performed }; breaks = breaks; phase = p } in c)
    ≡ record { cycle = record { state = s2; count = count2; moment = moment2; forces = f2; performed = performed2 }; breaks = breaks2; phase = p2 }
control_same s s2 count count2 moment moment2 performed performed2 f f2 breaks breaks2 p p2 a b c d e g h = rw (a, b, c, d, e, g, h) refl

owned_same : (o p : Owned) → o.program ≡ p.program → o.budget ≡ p.budget → o.control ≡ p.control → o ≡ p
owned_same o p a b c =
    ap (λ (Q : Program). let x : Owned = record { program = Q; budget = o.budget; control = o.control } in x) a
    ∙ ap (λ (n : ℕ). let x : Owned = record { program = p.program; budget = n; control = o.control } in x) b
    ∙ ap (λ (k : Control). let x : Owned = record { program = p.program; budget = p.budget; control = k } in x) c

pub one_saved : ((xs ys : List BlockInstance) → AreKnown xs ys) → (o p : Owned) → IsController o → IsController p → o.program ≡ p.program → o.budget ≡ p.budget → snapshot_of o.program o.control ≡ snapshot_of p.program p.control → o ≡ p
one_saved known o p a b is-program is-budget e =
    let xs = known o.control.cycle.state.instances p.control.cycle.state.instances a.blocks b.blocks (ap (λ (s : SavedController). s.instances) e) in
    let kept : o.control.cycle.state.kept ≡ p.control.cycle.state.kept =
    sym (reverse-reverse o.control.cycle.state.kept) ∙ ap (λ (s : SavedController). reverse s.deferred) e ∙ reverse-reverse p.control.cycle.state.kept in
    let forces = forces_same o.control.cycle.forces p.control.cycle.forces a.forces b.forces (ap (λ (s : SavedController). s.forces) e) in
    let scan = subst (λ (Q : Program). IsOpen Q o.control.phase o.control.cycle) is-program a.scan in
    let phase = phase_same p.program o.control.phase p.control.phase o.control.cycle p.control.cycle scan b.scan (ap (λ (s : SavedController). s.phase) e) in
    let suits = subst (λ (Q : Program). Suits Q o.control.cycle.state) is-program a.suits in
    let listed : own_values p.program.variables o.control.cycle.state.own ≡ own_values p.program.variables p.control.cycle.state.own =
    ap (λ (Q : Program). own_values Q.variables o.control.cycle.state.own) (sym is-program) ∙ ap (λ (s : SavedController). s.variables) e in
    let own = own_same p.program.variables o.control.cycle.state.own p.control.cycle.state.own suits.values.own b.suits.values.own suits.values.firsts b.suits.values.firsts listed in
    let breaks = breaks_same o.control.breaks p.control.breaks (a.breaks ∙ ap (λ (Q : Program). length Q.code) is-program ∙ sym b.breaks) (ap (λ (s : SavedController). s.breaks) e) in
    let state = state_same _ _ _ _ _ _ _ _ _ _ _ _ _ _ _ _ own xs (ap (λ (s : SavedController). s.input) e) (ap (λ (s : SavedController). s.output) e) (ap (λ (s : SavedController). s.memory) e) (ap (λ (s : SavedController). s.cr) e) kept (ap (λ (s : SavedController). s.position) e) in
    let control = control_same _ _ _ _ _ _ _ _ _ _ _ _ _ _ state (ap (λ (s : SavedController). s.count) e) (ap (λ (s : SavedController). s.moment) e) phase.1 forces breaks phase.0 in
    owned_same o p is-program is-budget control

-- ---- the law

true_false : (b : Bool) → b ≡ true → b ≡ false → ⊥
true_false b e f = cc

pub restored_same : ((xs ys : List BlockInstance) → AreKnown xs ys) → (o : Owned) (r : Result Owned SnapError) → RestoresTheSame o r
restored_same known o (Ok c) = λ is h. one_saved known c o h.lawful is h.program h.budget_is (ap (λ (Q : Program). snapshot_of Q c.control) h.program ∙ h.saved)
restored_same known o (Err BadShape) = λ is h. absurd (true_false (fits o.program o.budget (snapshot_of o.program o.control)) (saved_fits o is) h)
restored_same known o (Err BadBlock) = λ is h. absurd (states o.control.cycle.state.instances (map saved_instance o.control.cycle.state.instances) refl is.blocks h.1)
restored_same known o (Err Memory) = λ is h. refl
