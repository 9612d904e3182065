-- What shows of the replicas of a group, one added behind the other.
use Rattle.std.proofs.Common.{◌≡◌, ℕ, ◌+◌, ◌<◌, List, [], ◌∷◌, ◌++◌, length, get_or, ap, ◌∙◌, inl, inr, arith}
use Rattle.std.proofs.lemmas.Bool.{cases_lt}
use Rattle.std.proofs.lemmas.List.{get_or_push, get_or_append_left, length_push}
use Rattle.plc_figures.specs.declared.reading.Replica.{Replica}
use Rattle.plc_status.specs.declared.scans.ScanStatus.{ScanStatus}
use Rattle.plc_status.specs.declared.status.Status.{Status}
use Rattle.plc_status.specs.Published.{status_words, AreOfGroup}
use Rattle.vr_shown.specs.declared.shown.Shown.{Shown}
use Rattle.vr_shown.specs.Showing.{nothing_shown}
use Rattle.plc_page.specs.Sources.{replica_of, AreOfStatus}

-- the status has this of the replica with this number
abbrev pub IsOfStatus : Status → ℕ → Shown → Type 0
IsOfStatus status n shown =
    (group : List Shown) (scans : ScanStatus) → AreOfGroup group → status.words ≡ status_words group scans
    → shown ≡ get_or group n nothing_shown

pub no_replica : (status : Status) (first : ℕ) → AreOfStatus status first []
no_replica status first group scans of_group words place other lt = absurd (omega arith)

-- the same replica, by an equal number
by_number : (group : List Shown) (n m : ℕ) (shown : Shown) → n ≡ m → shown ≡ get_or group n nothing_shown
    → replica_of n shown ≡ replica_of m (get_or group m nothing_shown)
by_number group n m shown same is =
    ap (replica_of n) is ∙ ap (λ (k : ℕ). replica_of k (get_or group k nothing_shown)) same

pub one_more : (status : Status) (first : ℕ) (replicas : List Replica) (n : ℕ) (shown : Shown) → first + length replicas ≡ n → AreOfStatus status first replicas → IsOfStatus status n shown → AreOfStatus status first (replicas ++ replica_of n shown ∷ [])
one_more status first replicas n shown long before is group scans of_group words place other lt =
    elim (cases_lt place (length replicas)) [
      | inl below ↦ get_or_append_left replicas (replica_of n shown ∷ []) other place below ∙ before group scans of_group words place other below
      | inr above ↦ (let pushed = length_push replicas (replica_of n shown) in let at : length replicas ≡ place = omega arith in let same : n ≡ first + place = omega arith in get_or_push replicas (replica_of n shown) other place at ∙ by_number group n (first + place) shown same (is group scans of_group words))
    ]
