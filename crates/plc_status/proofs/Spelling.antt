-- The words of a status, in parts.
use Rattle.std.proofs.Common.{◌≡◌, ℕ, zero, suc, ◌+◌, ◌-◌, ◌*◌, ◌<◌, ◌≤◌, List, [], ◌∷◌, ◌++◌, length, take, drop, get_or, set, refl, sym, ap, ap₂, ◌∙◌, arith, take-add, take_at, take_all, drop_at, drop-drop, append_assoc, append-nil, length-drop}
use Rattle.std.proofs.lemmas.List.{drop_all}
use Rattle.std.proofs.lemmas.Slice.{take-put_mid, drop-put_mid}
use borrow.Rule.Slice.PartMut.{put_mid}
use Rattle.vr_shown.specs.Showing.{nothing_shown, shown_words}
use Rattle.vr_shown.specs.declared.shown.Shown.{Shown}
use Rattle.plc_status.specs.declared.scans.ScanStatus.{ScanStatus}
use Rattle.plc_status.specs.Scans.{scan_words}
use Rattle.plc_status.specs.Published.{status_words}

-- behind the first replica's words those of the others follow
later : (k : ℕ) (r : Shown) (rs : List Shown) (s : ScanStatus)
    → drop (8 * suc k) (status_words (r ∷ rs) s) ≡ drop (8 * k) (status_words rs s)
later k r rs s =
    let words : List ℕ = status_words (r ∷ rs) s in
    let more : 8 * suc k ≡ 8 + 8 * k = omega arith in
    ap (λ (n : ℕ). drop n words) more
    ∙ (sym (drop-drop (8 * k) 8 words) ∙ ap (drop (8 * k)) (drop_at (shown_words r) (status_words rs s) 8 refl))

-- the words of one replica
pub replica_words : (k : ℕ) (rs : List Shown) (s : ScanStatus) → k < length rs
    → take 8 (drop (8 * k) (status_words rs s)) ≡ shown_words (get_or rs k nothing_shown)
replica_words k [] s bad = absurd (omega arith)
replica_words zero (r ∷ rs) s _ = take_at (shown_words r) (status_words rs s) 8 refl
replica_words (suc k) (r ∷ rs) s h = ap (take 8) (later k r rs s) ∙ replica_words k rs s (omega arith)

-- the words of the scans
pub scans_words : (rs : List Shown) (s : ScanStatus)
    → drop (8 * length rs) (status_words rs s) ≡ scan_words s ++ s.interval_counts
scans_words [] s = refl
scans_words (r ∷ rs) s = later (length rs) r rs s ∙ scans_words rs s

-- what stands in front of them
pub before_scans : (rs : List Shown) (s t : ScanStatus)
    → take (8 * length rs) (status_words rs s) ++ (scan_words t ++ t.interval_counts) ≡ status_words rs t
before_scans [] s t = refl
before_scans (r ∷ rs) s t =
    let words : List ℕ = status_words (r ∷ rs) s in
    let scans : List ℕ = scan_words t ++ t.interval_counts in
    let more : 8 * suc (length rs) ≡ 8 + 8 * length rs = omega arith in
    let front : take (8 + 8 * length rs) words ≡ shown_words r ++ take (8 * length rs) (status_words rs s) =
    take-add 8 (8 * length rs) words ∙ ap₂ (λ (x y : List ℕ). x ++ take (8 * length rs) y)
    (take_at (shown_words r) (status_words rs s) 8 refl) (drop_at (shown_words r) (status_words rs s) 8 refl) in
    ap (λ (n : ℕ). take n words ++ scans) more
    ∙ (ap (λ (x : List ℕ). x ++ scans) front
    ∙ (append_assoc (shown_words r) (take (8 * length rs) (status_words rs s)) scans
    ∙ ap (λ (x : List ℕ). shown_words r ++ x) (before_scans rs s t)))

-- one replica's words were written over
pub put_words : (k : ℕ) (rs : List Shown) (s : ScanStatus) (r : Shown) → k < length rs
    → put_mid (8 * k) 8 (status_words rs s) (shown_words r) ≡ status_words (set rs k r) s
put_words k [] s r bad = absurd (omega arith)
put_words zero (q ∷ rs) s r _ =
    ap (λ (x : List ℕ). shown_words r ++ x) (drop_at (shown_words q) (status_words rs s) 8 refl)
put_words (suc k) (q ∷ rs) s r h =
    let words : List ℕ = status_words (q ∷ rs) s in
    let below : List ℕ = status_words rs s in
    let more : 8 * suc k ≡ 8 + 8 * k = omega arith in
    let front : take (8 * suc k) words ≡ shown_words q ++ take (8 * k) below =
    ap (λ (n : ℕ). take n words) more ∙ (take-add 8 (8 * k) words ∙ ap₂ (λ (x y : List ℕ). x ++ take (8 * k) y)
    (take_at (shown_words q) below 8 refl) (drop_at (shown_words q) below 8 refl)) in
    ap₂ (λ (x y : List ℕ). x ++ (shown_words r ++ drop 8 y)) front (later k q rs s)
    ∙ (append_assoc (shown_words q) (take (8 * k) below) (shown_words r ++ drop 8 (drop (8 * k) below))
    ∙ ap (λ (x : List ℕ). shown_words q ++ x) (put_words k rs s r (omega arith)))

-- what is read of one replica's place
pub replica_read : (k : ℕ) (rs : List Shown) (s : ScanStatus) (words part : List ℕ) → k < length rs
    → words ≡ status_words rs s → part ≡ take (8 * k + 8 - 8 * k) (drop (8 * k) words)
    → part ≡ shown_words (get_or rs k nothing_shown)
replica_read k rs s words part h same is =
    let eight : 8 * k + 8 - 8 * k ≡ 8 = omega arith in
    is ∙ (ap₂ (λ (n : ℕ) (x : List ℕ). take n (drop (8 * k) x)) eight same ∙ replica_words k rs s h)

-- what is written to one replica's place
pub replica_put : (k : ℕ) (rs : List Shown) (s : ScanStatus) (r : Shown) (words part : List ℕ) → k < length rs
    → words ≡ status_words rs s → part ≡ shown_words r
    → put_mid (8 * k) (8 * k + 8 - 8 * k) words part ≡ status_words (set rs k r) s
replica_put k rs s r words part h same is =
    let eight : 8 * k + 8 - 8 * k ≡ 8 = omega arith in
    ap (λ (n : ℕ). put_mid (8 * k) n words part) eight
    ∙ (ap₂ (λ (x y : List ℕ). put_mid (8 * k) 8 x y) same is ∙ put_words k rs s r h)

-- what is read of the scans' place
pub scans_read : (rs : List Shown) (s : ScanStatus) (words counts intervals : List ℕ) → length rs ≡ 7
    → length words ≡ 78 → words ≡ status_words rs s → counts ≡ take 9 (drop 56 words)
    → intervals ≡ take 13 (drop 65 words) → (counts ≡ scan_words s) × (intervals ≡ s.interval_counts)
scans_read rs s words counts intervals seven long same is are =
    let at : 8 * length rs ≡ 56 = omega arith in
    let tail : drop 56 words ≡ scan_words s ++ s.interval_counts =
    ap (drop 56) same ∙ (ap (λ (n : ℕ). drop n (status_words rs s)) (sym at) ∙ scans_words rs s) in
    let rest : drop 65 words ≡ s.interval_counts =
    sym (drop-drop 9 56 words) ∙ (ap (drop 9) tail ∙ drop_at (scan_words s) s.interval_counts 9 refl) in
    let few : length (drop 65 words) ≤ 13 = omega (arith, length-drop 65 words) in (
      is ∙ (ap (take 9) tail ∙ take_at (scan_words s) s.interval_counts 9 refl),
      are ∙ (take_all 13 (drop 65 words) few ∙ rest),
    )

-- what is written to the scans' place
pub scans_put : (rs : List Shown) (s t : ScanStatus) (words counts intervals : List ℕ) → length rs ≡ 7
    → length words ≡ 78 → words ≡ status_words rs s → counts ≡ scan_words t → intervals ≡ t.interval_counts
    → put_mid 65 13 (put_mid 56 9 words counts) intervals ≡ status_words rs t
scans_put rs s t words counts intervals seven long same is are =
    let at : 8 * length rs ≡ 56 = omega arith in
    let nine : length counts ≡ 9 = ap length is in
    let front : take 65 (put_mid 56 9 words counts) ≡ take 56 words ++ counts =
    take-put_mid 56 9 words counts 65 (omega arith) (omega arith) in
    let none : drop 13 (drop 65 (put_mid 56 9 words counts)) ≡ [] =
    drop-drop 13 65 (put_mid 56 9 words counts)
    ∙ (drop-put_mid 56 9 words counts 78 (omega arith) (omega arith) nine ∙ drop_all 78 words (omega arith)) in
    ap₂ (λ (x y : List ℕ). x ++ (intervals ++ y)) front none
    ∙ (ap (λ (x : List ℕ). (take 56 words ++ counts) ++ x) (append-nil intervals)
    ∙ (append_assoc (take 56 words) counts intervals
    ∙ (ap₂ (λ (x y : List ℕ). take 56 x ++ y) same (ap₂ (λ (x y : List ℕ). x ++ y) is are)
    ∙ (ap (λ (n : ℕ). take n (status_words rs s) ++ (scan_words t ++ t.interval_counts)) (sym at)
    ∙ before_scans rs s t))))
