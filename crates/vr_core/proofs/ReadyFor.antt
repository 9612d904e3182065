-- What is ready for a log that is handed in, seen by each member and record.
use Rattle.std.proofs.Common.{◌≡◌, ℕ, max, List, Option, Some, None, sym, subst}
use Rattle.std.specs.Prelude.{MatchOption, IfSome}
use Rattle.il_model.specs.declared.command.Command.{Command}
use Rattle.ctl_debugger.specs.Prepared.{Prepared}
use Rattle.vr_model.specs.Logs.{Request}
use Rattle.vr_model.specs.Membership.{Membership}
use Rattle.vr_model.specs.Replicas.{ReplicaState}
use Rattle.vr_model.specs.Checkpoints.{SavedCheckpoint, KeptLog, base_of, LogStands}
use Rattle.vr_core.specs.declared.state.Core.{Core}
use Rattle.vr_core.specs.StandsFor.{StandsFor, IsSavedAs}
use Rattle.vr_core.specs.declared.handed.Readied.{Readied}
use Rattle.vr_core.specs.Checkpoints.{IsOfNone, IsSpoilt}
use Rattle.vr_core.specs.Changes.{AreReady, between, IsReadyFor, IsReadied}
use Rattle.vr_core.proofs.WholeLogs.{is_own_group}

pub ready_handed : (core : Core) (w : Membership) (r : ReplicaState Command) (handed : KeptLog) (l : List (Request Command)) (n : ℕ) (ps : List Prepared) → IsReadyFor core handed n ps → StandsFor core w r → LogStands IsSavedAs w.group handed l
    → AreReady (between l (max r.commit_number (base_of handed.checkpoint)) n) ps
ready_handed core w r handed l n ps h st s =
    subst (λ (k : ℕ). AreReady (between l (max k (base_of handed.checkpoint)) n) ps) (sym st.commit_number)
    (h.ready l (subst (λ m. LogStands IsSavedAs m handed l) (sym (is_own_group core w st.member)) s))

-- what is needed was made ready
pub readied_some : (core : Core) (handed : KeptLog) (n : ℕ) (o : Option Readied) (x : Readied) → o ≡ Some x → MatchOption o (IsOfNone core handed) (IsReadied core handed n) → IsReadied core handed n x
readied_some core handed n o x is h = subst (λ (p : Option Readied). MatchOption p (IsOfNone core handed) (IsReadied core handed n)) is h

-- and then its checkpoint can be restored
pub readied_sound : (core : Core) (handed : KeptLog) (o : Option Readied) (x : Readied) → o ≡ Some x → IfSome o (λ _. (c : SavedCheckpoint) → handed.checkpoint ≡ Some c → IsSpoilt core c.snapshot → ⊥)
    → (c : SavedCheckpoint) → handed.checkpoint ≡ Some c → IsSpoilt core c.snapshot → ⊥
readied_sound core handed o x is h = subst (λ (p : Option Readied). IfSome p (λ _. (c : SavedCheckpoint) → handed.checkpoint ≡ Some c → IsSpoilt core c.snapshot → ⊥)) is h

-- or the log stands for none
pub readied_none : (core : Core) (handed : KeptLog) (n : ℕ) (o : Option Readied) → o ≡ None → MatchOption o (IsOfNone core handed) (IsReadied core handed n) → IsOfNone core handed
readied_none core handed n o is h = subst (λ (p : Option Readied). MatchOption p (IsOfNone core handed) (IsReadied core handed n)) is h
