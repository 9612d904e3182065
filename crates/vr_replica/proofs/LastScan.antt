-- The last Scan of a log, and of its last entries.
use Rattle.std.proofs.Common.{◌≡◌, ℕ, zero, suc, ◌-◌, ◌<◌, ◌≤◌, Bool, true, false, List, [], ◌∷◌, length, get_or, drop, Option, Some, None, is_some, refl, sym, ap, ◌∙◌, arith}
use Rattle.std.specs.Prelude.{slice_get, IfSome}
use Rattle.std.proofs.lemmas.List.{drop-map}
use Rattle.std.proofs.lemmas.Option.{slice_get-get_or}
use Rattle.il_model.specs.declared.command.Command.{Command}
use Rattle.vr_model.specs.declared.message.Request as code
use Rattle.vr_model.specs.Logs.{Request}
use Rattle.vr_model.specs.Membership.{Membership}
use Rattle.vr_model.specs.Replicas.{is_down, ReplicaState}
use Rattle.vr_model.specs.Checkpoints.{KeptLog, base_of, end_of, request_of, requests_of}
use Rattle.vr_core.proofs.WholeLogs.{whole_length}
use Rattle.vr_replica.specs.declared.state.Replica.{Replica}
use Rattle.vr_replica.specs.declared.scans.ScanInputs.{ScanInputs}
use Rattle.vr_replica.specs.Standing.{StandsFor}
use Rattle.vr_replica.specs.Scans.{scan_in, later_of, last_scan_of}

-- the entries from a place on begin with the one there
from_there : {X : Type 0} (xs : List X) (n : ℕ) (x : X) → slice_get xs n ≡ Some x → drop n xs ≡ x ∷ drop (suc n) xs
from_there [] n x there = absurd cc
from_there (y ∷ xs) zero x there = let is : y ≡ x = cc in ap (λ z. z ∷ xs) is
from_there (y ∷ xs) (suc n) x there = from_there xs n x there

-- what the last of the last entries was submitted with, the last of all was
pub last_of_all : (n : ℕ) (l : List (Request Command)) (s : ScanInputs) → last_scan_of (drop n l) ≡ Some s → last_scan_of l ≡ Some s
last_of_all zero l s is = is
last_of_all (suc n) [] s is = is
last_of_all (suc n) (m ∷ l) s is = ap (later_of (scan_in m.command)) (last_of_all n l s is)

-- Going over the entries from the last to the first: of those behind this one none is a Scan.
module _ (xs : List code.Request) (n : ℕ) (d : code.Request) (o : Option ScanInputs) (above : 0 < n) (within : n ≤ length xs) (is : o ≡ scan_in (get_or xs (n - 1) d).command)
    (none : last_scan_of (requests_of (drop n xs)) ≡ None) where
  from_here : last_scan_of (requests_of (drop (n - 1) xs)) ≡ o
  from_here =
      let there = slice_get-get_or xs (n - 1) d (omega arith) in
      let next : suc (n - 1) ≡ n = omega arith in
      ap (λ (es : List code.Request). last_scan_of (requests_of es)) (from_there xs (n - 1) (get_or xs (n - 1) d) there)
      ∙ ap (later_of (scan_in (get_or xs (n - 1) d).command)) (ap (λ k. last_scan_of (requests_of (drop k xs))) next ∙ none)
      ∙ sym is

  -- nor is this one
  pub none_here : is_some o ≡ false → last_scan_of (requests_of (drop (n - 1) xs)) ≡ None
  none_here no_scan = from_here ∙ missing o no_scan
    where
      missing : (p : Option ScanInputs) → is_some p ≡ false → p ≡ None
      missing None e = refl
      missing (Some s) e = absurd cc

  -- or it is the last
  pub last_here : is_some o ≡ true → o ≡ last_scan_of (requests_of xs)
  last_here some = go o some from_here
    where
      go : (p : Option ScanInputs) → is_some p ≡ true → last_scan_of (requests_of (drop (n - 1) xs)) ≡ p → p ≡ last_scan_of (requests_of xs)
      go None e here = absurd cc
      go (Some s) e here = sym (last_of_all (n - 1) (requests_of xs) s (ap last_scan_of (drop-map request_of (n - 1) xs) ∙ here))

-- ---- of a replica

-- what is kept of its log ends where its log does
pub size_of : (replica : Replica) (m : Membership) (r : ReplicaState Command) → StandsFor replica m r → end_of replica.core.log ≡ length r.log
size_of replica m r st = go (is_down r.status) refl
  where
    go : (b : Bool) → is_down r.status ≡ b → end_of replica.core.log ≡ length r.log
    go false e = sym (whole_length m.group replica.core.log r.log (st.up e).log)
    go true e = ap end_of (st.down e).core_log ∙ sym (ap length (st.down e).log)

-- a Scan that it keeps is the last of its log
pub last_of_replica : (replica : Replica) (m : Membership) (r : ReplicaState Command) (o : Option ScanInputs) → StandsFor replica m r → o ≡ last_scan_of (requests_of replica.core.log.entries) → IfSome o (λ scan. last_scan_of r.log ≡ Some scan)
last_of_replica replica m r None st is = tt
last_of_replica replica m r (Some s) st is = go (is_down r.status) refl
  where
    go : (b : Bool) → is_down r.status ≡ b → last_scan_of r.log ≡ Some s
    go false e = last_of_all (base_of replica.core.log.checkpoint) r.log s (ap last_scan_of (sym (st.up e).log.rest) ∙ sym is)
    go true e = absurd (never (is ∙ ap (λ (l : KeptLog). last_scan_of (requests_of l.entries)) (st.down e).core_log))
      where
        never : Some s ≡ None → ⊥
        never d = absurd cc
