-- The entries that a replica shows.
use Rattle.std.proofs.Common.{◌≡◌, ℕ, ◌<◌, ◌≤◌, Bool, true, false, cond, ltb, ◌-◌, List, [], Option, Some, None, ◌⊎◌, inl, inr, arith, refl, ap, ◌∙◌, sym, subst}
use Rattle.std.specs.Prelude.{slice_get, option_map}
use Rattle.std.proofs.lemmas.Bool.{ltb-true, ltb-false}
use Rattle.il_model.specs.declared.command.Command.{Command}
use Rattle.vr_model.specs.declared.message.Request as code
use Rattle.vr_model.specs.Logs.{Request}
use Rattle.vr_model.specs.Membership.{Membership}
use Rattle.vr_model.specs.Replicas.{is_down, ReplicaState}
use Rattle.vr_model.specs.Checkpoints.{KeptLog, base_of, entry_at, request_of}
use Rattle.vr_core.proofs.WholeLogs.{kept_entry, entry_kept}
use Rattle.vr_core.specs.StandsFor.{StandsForDown}
use Rattle.vr_core.specs.StandsFor as core
use Rattle.vr_replica.specs.declared.state.Replica.{Replica}
use Rattle.vr_replica.specs.Standing.{StandsFor}

-- what is shown at a place: an entry of the log; or nothing, where the log has none, or has executed it
abbrev pub Shows : ReplicaState Command → ℕ → Option code.Request → Type 0
Shows r place None = (slice_get r.log place ≡ None) ⊎ (place < r.commit_number)
Shows r place (Some e) = slice_get r.log place ≡ Some (request_of e)

shown_up : (replica : Replica) (m : Membership) (r : ReplicaState Command) (place : ℕ) (o : Option code.Request) → core.StandsFor replica.core m r → entry_at replica.core.log place ≡ o → Shows r place o
shown_up replica m r place (Some e) st is = kept_entry m.group replica.core.log r.log place e st.log is
shown_up replica m r place None st is = go (ltb place (base_of replica.core.log.checkpoint)) refl
  where
    go : (b : Bool) → ltb place (base_of replica.core.log.checkpoint) ≡ b → (slice_get r.log place ≡ None) ⊎ (place < r.commit_number)
    go true e = let low : place < base_of replica.core.log.checkpoint = ltb-true _ _ e in let reached : base_of replica.core.log.checkpoint ≤ r.commit_number = st.reached in inr (omega arith)
    go false e = inl (sym (entry_kept m.group replica.core.log r.log place st.log (ltb-false _ _ e)) ∙ ap (option_map request_of) is)

shown_down : (replica : Replica) (m : Membership) (r : ReplicaState Command) (place : ℕ) (o : Option code.Request) → StandsForDown replica.core m r → entry_at replica.core.log place ≡ o → Shows r place o
shown_down replica m r place o st is = go o (sym (ap (λ (l : KeptLog). entry_at l place) st.core_log) ∙ is)
  where
    go : (o : Option code.Request) → entry_at (record { checkpoint = None; entries = [] }) place ≡ o → Shows r place o
    go None e = inl (ap (λ (l : List (Request Command)). slice_get l place) st.log)
    go (Some x) e = absurd (never (ltb place 0) e)
      where
        never : (b : Bool) → cond b None (slice_get [] (place - 0)) ≡ Some x → ⊥
        never true d = absurd cc
        never false d = absurd cc

pub shown : (replica : Replica) (m : Membership) (r : ReplicaState Command) (place : ℕ) (o : Option code.Request) → StandsFor replica m r → entry_at replica.core.log place ≡ o → Shows r place o
shown replica m r place o st is = go (is_down r.status) refl
  where
    go : (b : Bool) → is_down r.status ≡ b → Shows r place o
    go true e = shown_down replica m r place o (st.down e) is
    go false e = shown_up replica m r place o (st.up e) is
