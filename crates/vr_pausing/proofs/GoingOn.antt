-- What goes on from a base stands for its replica.
use Rattle.std.proofs.Common.{◌≡◌, ℕ, ◌≤◌, max, min, length, List, true, false, refl, ap, ◌∙◌, sym, subst, arith}
use Rattle.il_model.specs.declared.command.Command.{Command}
use Rattle.ctl_debugger.specs.Prepared.{Prepared}
use Rattle.vr_model.specs.Logs.{Request}
use Rattle.vr_model.specs.Membership.{Membership}
use Rattle.vr_model.specs.Checkpoints.{KeptLog, base_of, LogStands}
use Rattle.vr_model.specs.Replicas.{Normal, ReplicaState, is_view_change, is_recovering}
use Rattle.vr_model.specs.World.{first_replica}
use Rattle.vr_core.specs.declared.state.Core.{Core}
use Rattle.vr_core.specs.StandsFor.{IsSavedAs, StandsFor, own_group}
use Rattle.vr_core.specs.Changes.{AreReady, between, IsReadyFor, BecomesIfReady}
use Rattle.vr_core.specs.Follows.{Replaces, executed_to}
use Rattle.vr_core.proofs.ReadyFor.{ready_handed}
use Rattle.vr_core.proofs.WholeLogs.{is_own_group}
use Rattle.vr_pausing.specs.declared.marking.Marks.{Marks}
use Rattle.vr_pausing.specs.Bases.{IsBaseOf, IsNew, Resumes, marked}

-- a replica that took up nothing, with this log, of which so much is executed
abbrev with_log : List (Request Command) → ℕ → ReplicaState Command
with_log log k = record first_replica { log = log; commit_number = k }

no_view_change : (r : ReplicaState Command) → r.status ≡ Normal → is_view_change r.status ≡ true → ⊥
no_view_change r e y = let n : is_view_change r.status ≡ false = ap is_view_change e in absurd cc

no_recovery : (r : ReplicaState Command) → r.status ≡ Normal → is_recovering r.status ≡ true → ⊥
no_recovery r e y = let n : is_recovering r.status ≡ false = ap is_recovering e in absurd cc

-- with its marks, a core that has its log and has executed as much stands for it
pub marked_stands : (core : Core) (marks : Marks) (log : KeptLog) (w : Membership) (r : ReplicaState Command) → IsBaseOf marks log w r
    → StandsFor core w (with_log r.log r.commit_number) → StandsFor (marked core marks) w r
marked_stands core marks log w r is st = record {
  member = record { f = st.member.f; number = st.member.number; answer = st.member.answer; program = st.member.program; budget = st.member.budget };
  status = is.status;
  view = is.view;
  log = st.log;
  reached = st.reached;
  commit_number = st.commit_number;
  executed = st.executed;
  numbers = st.numbers;
  last_normal_view = is.last_normal_view;
  stored_view = is.stored_view;
  stored = λ e. is.stored;
  acknowledged = is.acknowledged;
  start_view_changes = is.start_view_changes;
  do_view_changes = λ e. absurd (no_view_change r is.status e);
  sent_do_view_change = is.sent_do_view_change;
  own = λ e. absurd (no_view_change r is.status e);
  nonce = is.nonce;
  responses = λ e. absurd (no_recovery r is.status e);
}

pub resumes : (core replaced new : Core) (marks : Marks) (log : KeptLog) (ps : List Prepared) → IsNew core → ((c : ℕ) → Replaces core log c replaced)
    → IsReadyFor core log marks.commit_number ps → BecomesIfReady replaced marks.commit_number ps (λ w r. executed_to marks.commit_number r) new
    → Resumes core marks log (marked new marks)
resumes core replaced new marks log ps is_new replaces ready executes = λ w r of_core is.
    let n : ℕ = marks.commit_number in
    let base : ℕ = base_of log.checkpoint in
    let st : StandsFor core w first_replica = is_new w of_core in
    let reached : base ≤ n = subst (λ (k : ℕ). base ≤ k) is.commit_number is.reached in
    let within : n ≤ length r.log = subst (λ (k : ℕ). k ≤ length r.log) is.commit_number is.within in
    let stands : LogStands IsSavedAs (own_group core) log r.log = subst (λ m. LogStands IsSavedAs m log r.log) (sym (is_own_group core w of_core)) is.log in
    let one : StandsFor replaced w (with_log r.log (max 0 base)) = (replaces n).replaces w first_replica r.log st (record { reached = reached; stands = stands }) (record { rest = r.log; is = refl }) in
    let for_log : AreReady (between r.log (max 0 base) n) ps = ready_handed core w first_replica log r.log n ps ready st is.log in
    let two : StandsFor new w (with_log r.log (max (max 0 base) (min n (length r.log)))) = executes.becomes w (with_log r.log (max 0 base)) one for_log in
    let e : max (max 0 base) (min n (length r.log)) ≡ n = omega arith in
    let there : max (max 0 base) (min n (length r.log)) ≡ r.commit_number = e ∙ sym is.commit_number in
    marked_stands new marks log w r is (subst (λ (k : ℕ). StandsFor new w (with_log r.log k)) there two)
