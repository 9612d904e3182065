-- Breakpoints change nothing but where a scan is held.
use Rattle.std.proofs.Common.{◌≡◌, ℕ, zero, suc, ◌<◌, Bool, false, List, [], ◌∷◌, length, replicate, refl, sym, ap, subst, ◌∙◌}
use Rattle.il_model.specs.declared.cells.InImage.{InImage}
use Rattle.il_model.specs.declared.command.Answer.{Answer}
use Rattle.il_model.specs.declared.command.Answer.TheVariants as answers
use Rattle.il_model.specs.declared.command.Command.TheVariants as commands
use Rattle.il_model.specs.Program.{Program}
use Rattle.ctl_model.specs.State.{State}
use Rattle.ctl_model.specs.Scan.{Cycle, RunEnd, Done, Held, Stopped, run_from, run_from_break, one_step_run, is_past_end, is_break, scan_result, scan_start}
use Rattle.ctl_model.specs.Commands.{Control, no_breaks, command_outcome, scan_answer, on_scan}
use Rattle.ctl_model.specs.Runs.{Onward, Step, Continue, outcome_after_all, outcome_after, is_held, without_breaks}
use Rattle.ctl_model.specs.Runs.{EndsTheSame}
use Rattle.ctl_model.proofs.Agrees.{Agrees, HasNone, run_agrees, over_agrees, one_agrees}

none_in : (n p : ℕ) → is_break (replicate n false) p ≡ false
none_in zero zero = refl
none_in zero (suc p) = refl
none_in (suc n) zero = refl
none_in (suc n) (suc p) = none_in n p

abbrev paused : ℕ → Cycle → State → Cycle
paused performed c s = record c { state = s; performed = performed }

seen_same : (n : ℕ) (c : Cycle) (s : State) (r : RunEnd) → scan_result (paused n c s) r ≡ scan_result c r
seen_same n c s (Done t) = refl
seen_same n c s (Held m t) = refl
seen_same n c s (Stopped stop t) = refl

stays : (Q : Program) (B : ℕ) (a : Answer) (x : Control) (gs : List Onward) → is_held a ≡ false → outcome_after_all Q B (a, x) gs ≡ (a, x)
stays Q B a x [] h = refl
stays Q B (answers.Held p) x (g ∷ gs) h = absurd cc
stays Q B (answers.Outputs count image) x (g ∷ gs) h = stays Q B _ x gs h
stays Q B (answers.Stopped stop p image) x (g ∷ gs) h = stays Q B _ x gs h
stays Q B (answers.Value v) x (g ∷ gs) h = stays Q B _ x gs h
stays Q B answers.Done x (g ∷ gs) h = stays Q B _ x gs h
stays Q B (answers.Refused why) x (g ∷ gs) h = stays Q B _ x gs h

-- how a held scan goes on
abbrev went : Program → ℕ → Control → ℕ → ℕ → State → Onward → RunEnd
went Q B s now n t Step = one_step_run Q now B n t
went Q B s now n t Continue = run_from_break Q now s.breaks B n t

goes : (Q : Program) (B : ℕ) (s : Control) (c : Cycle) (n : ℕ) (t : State) (g : Onward) →
    outcome_after Q B (scan_answer s (scan_result c (Held n t))) g (scan_answer s (scan_result c (Held n t))).0 ≡ scan_answer s (scan_result c (went Q B s c.moment n t g))
goes Q B s c n t Step = ap (scan_answer s) (seen_same n c t (one_step_run Q c.moment B n t))
goes Q B s c n t Continue = ap (scan_answer s) (seen_same n c t (run_from_break Q c.moment s.breaks B n t))

went_agrees : (Q : Program) (none : List Bool) → HasNone none → (B : ℕ) (s : Control) (now n : ℕ) (t : State) (g : Onward) → is_past_end Q t ≡ false → n < B → Agrees Q now none B (went Q B s now n t g) (run_from Q now none B n t)
went_agrees Q none nb B s now n t Step h some = one_agrees Q now none nb B n t h some
went_agrees Q none nb B s now n t Continue h some = over_agrees Q now none s.breaks nb B n t h some

comes : (Q : Program) (none : List Bool) → HasNone none → (B : ℕ) (s : Control) (c : Cycle) (r q : RunEnd) (gs : List Onward) → Agrees Q c.moment none B r q → is_held (outcome_after_all Q B (scan_answer s (scan_result c r)) gs).0 ≡ false → outcome_after_all Q B (scan_answer s (scan_result c r)) gs ≡ scan_answer s (scan_result c q)
comes Q none nb B s c (Done t) q gs a h = stays Q B _ _ gs refl ∙ ap (λ x. scan_answer s (scan_result c x)) (sym a)
comes Q none nb B s c (Stopped stop t) q gs a h = stays Q B _ _ gs refl ∙ ap (λ x. scan_answer s (scan_result c x)) (sym a)
comes Q none nb B s c (Held n t) q [] a h = absurd cc
comes Q none nb B s c (Held n t) q (g ∷ gs) a h =
    let on = goes Q B s c n t g in
    let r : RunEnd = went Q B s c.moment n t g in
    let agrees : Agrees Q c.moment none B r q = subst (λ x. Agrees Q c.moment none B r x) (sym a.0) (went_agrees Q none nb B s c.moment n t g a.1 a.2) in
    ap (λ x. outcome_after_all Q B x gs) on ∙ comes Q none nb B s c r q gs agrees (subst (λ x. is_held (outcome_after_all Q B x gs).0 ≡ false) on h)

pub ends_the_same : (Q : Program) (B : ℕ) (s : Control) (inputs : InImage) (moment : ℕ) (gs : List Onward) → EndsTheSame Q B s inputs moment gs
ends_the_same Q B s inputs moment gs idle h =
    let c : Cycle = scan_start s.cycle inputs moment in
    let start : command_outcome Q B s (commands.Scan inputs moment) ≡ scan_answer s (scan_result c (run_from Q c.moment s.breaks B 0 c.state)) = ap (on_scan Q B s inputs moment) idle in
    let plain : command_outcome Q B (without_breaks Q s) (commands.Scan inputs moment) ≡ scan_answer (without_breaks Q s) (scan_result c (run_from Q c.moment (no_breaks Q) B 0 c.state)) = ap (on_scan Q B (without_breaks Q s) inputs moment) idle in
    let end : outcome_after_all Q B (command_outcome Q B s (commands.Scan inputs moment)) gs ≡ scan_answer s (scan_result c (run_from Q c.moment (no_breaks Q) B 0 c.state)) =
    ap (λ x. outcome_after_all Q B x gs) start ∙ comes Q (no_breaks Q) (none_in (length Q.code)) B s c (run_from Q c.moment s.breaks B 0 c.state) (run_from Q c.moment (no_breaks Q) B 0 c.state) gs
    (run_agrees Q c.moment (no_breaks Q) s.breaks (none_in (length Q.code)) B 0 c.state) (subst (λ x. is_held (outcome_after_all Q B x gs).0 ≡ false) start h) in
    (ap (λ (x : Answer × Control). x.0) end ∙ sym (ap (λ (x : Answer × Control). x.0) plain), ap (λ (x : Answer × Control). without_breaks Q x.1) end ∙ sym (ap (λ (x : Answer × Control). x.1) plain))
