-- What processes do with a file, one after another.
use Rattle.std.proofs.Common.{◌≡◌, ◌<◌, ◌≤◌, ◌^◌, ◌+◌, ℕ, true, false, List, [], ◌∷◌, ◌++◌, Option, Some, None, refl, sym, ap, subst, ◌∙◌, inl, inr, ⊎_elim, arith}
use Rattle.std.proofs.lemmas.List.{append-nil}
use Rattle.byteorder.specs.Endian.{big_bytes, big_number}
use Rattle.byteorder.specs.Numbers.{big_number-reads_back}
use Rattle.io_shelf.specs.Shelves.{Content}
use Rattle.io_shelf.specs.Counts.{IsCount, counted, IsLeftOrNext, AtLeast}
use Rattle.io_shelf.specs.Lives.{Deed, Reads, Changes, left_by, Has, Rise, told, all_told, DoesAll, Counts, CountsAll, Lives}

-- ---- counts and their bytes

read_back : (n : ℕ) → n < 2 ^ 64 → big_number 8 (big_bytes 8 n) ≡ n
read_back n fit = ap (big_number 8) (sym (append-nil (big_bytes 8 n))) ∙ big_number-reads_back 8 n [] fit

count_of : (n : ℕ) (c : Content) (k : ℕ) → n < 2 ^ 64 → c ≡ counted n → IsCount c k → k ≡ n
count_of n c k fit is counts = let here : IsCount (counted n) k = subst (λ (d : Content). IsCount d k) is counts in here.1 ∙ read_back n fit

one_count : (c : Content) (m k : ℕ) → IsCount c m → IsCount c k → k ≡ m
one_count None m k first second = second ∙ sym first
one_count (Some bytes) m k first second = second.1 ∙ sym first.1

-- the last number that was answered, or this
abbrev last_told : ℕ → List (Option ℕ) → ℕ
last_told m [] = m
last_told m (None ∷ answers) = last_told m answers
last_told m (Some n ∷ answers) = last_told n answers

module _ {S : Type 0} (may_leave : S → Content → Type 0) where
  -- ---- what is left behind deeds

  pub left_all : (deeds : List Deed) (held : List Content) (s t : S) → ((c : Content) → may_leave s c → Has held c) → DoesAll may_leave s deeds t → (c : Content) → may_leave t c → Has (left_by held deeds) c
  left_all [] held s t had did c left = had c (subst (λ (u : S). may_leave u c) did left)
  left_all (Reads ∷ deeds) held s t had did c left = left_all deeds held did.0 t (λ d at. had d (did.1 d at)) did.2 c left
  left_all (Changes new true ∷ deeds) held s t had did c left = left_all deeds (new ∷ []) did.0 t (λ d at. inl (did.1.1 refl d at)) did.2 c left
  left_all (Changes new false ∷ deeds) held s t had did c left =
      left_all deeds (new ∷ held) did.0 t (λ d at. ⊎_elim (λ old. inr (had d old)) (λ is. inl is) (did.1.0 d at)) did.2 c left

  -- ---- what is counted

  no_less : (m : ℕ) (s : S) → AtLeast m (may_leave s) → (c : Content) (k : ℕ) → IsLeftOrNext (may_leave s) c → IsCount c k → m ≤ k
  no_less m s least c k (inl old) is = least c k old is
  no_less m s least c k (inr next) is =
      let k_is : k ≡ next.0 = count_of next.0 c k next.1.5 next.2 is in
      let no_less_then : m ≤ next.1.1 = least next.1.0 next.1.1 next.1.2 next.1.3 in
      let more : next.0 ≡ next.1.1 + 1 = next.1.4 in
      omega (arith, k_is, no_less_then, more)

  -- behind one call that failed, or answered
  behind_none : (m : ℕ) (s t : S) → AtLeast m (may_leave s) → Counts may_leave s None t → AtLeast m (may_leave t)
  behind_none m s t least did = λ c k at is. no_less m s least c k (did.left c at) is

  more_is_told : (m n : ℕ) (s t : S) → AtLeast m (may_leave s) → Counts may_leave s (Some n) t → m < n
  more_is_told m n s t least did =
      let next = did.next n refl in
      let no_less_then : m ≤ next.1 = least next.0 next.1 next.2 next.3 in
      let more : n ≡ next.1 + 1 = next.4 in
      omega (arith, no_less_then, more)

  behind_some : (n : ℕ) (s t : S) → Counts may_leave s (Some n) t → AtLeast n (may_leave t)
  behind_some n s t did = λ c k at is.
      let next = did.next n refl in
      let k_is : k ≡ n = count_of n c k next.5 (did.settled n refl c at) is in
      omega (arith, k_is)

  behind_all : (answers : List (Option ℕ)) (m : ℕ) (s t : S) → AtLeast m (may_leave s) → CountsAll may_leave s answers t → AtLeast (last_told m answers) (may_leave t)
  behind_all [] m s t least did = subst (λ (u : S). AtLeast m (may_leave u)) (sym did) least
  behind_all (None ∷ answers) m s t least did = behind_all answers m did.0 t (behind_none m s did.0 least did.1) did.2
  behind_all (Some n ∷ answers) m s t least did = behind_all answers n did.0 t (behind_some n s did.0 did.1) did.2

  all_rise : (answers : List (Option ℕ)) (m : ℕ) (s t : S) (rest : List ℕ) → AtLeast m (may_leave s) → CountsAll may_leave s answers t → Rise (last_told m answers) rest → Rise m (told answers ++ rest)
  all_rise [] m s t rest least did rises = rises
  all_rise (None ∷ answers) m s t rest least did rises = all_rise answers m did.0 t rest (behind_none m s did.0 least did.1) did.2 rises
  all_rise (Some n ∷ answers) m s t rest least did rises = (more_is_told m n s did.0 least did.1, all_rise answers n did.0 t rest (behind_some n s did.0 did.1) did.2 rises)

  lives_rise : (lives : List (List (Option ℕ))) (m : ℕ) (found : Content) → AtLeast m (λ c. c ≡ found) → Lives may_leave found lives → Rise m (all_told lives)
  lives_rise [] m found least h = tt
  lives_rise (answers ∷ later) m found least h =
      let life = h.1 in
      let first : AtLeast m (may_leave life.opened) = λ c k at is. least c k (life.knows c at) is in
      let last : AtLeast (last_told m answers) (may_leave life.done) = behind_all answers m life.opened life.done first life.calls in
      let left : AtLeast (last_told m answers) (λ c. c ≡ h.0) = λ c k same is. no_less (last_told m answers) life.done last c k (subst (IsLeftOrNext (may_leave life.done)) (sym same) life.leaves) is in
      all_rise answers m life.opened life.done (all_told later) first life.calls (lives_rise later (last_told m answers) h.0 left h.2)

  pub counts_rise : (found : Content) (m : ℕ) (lives : List (List (Option ℕ))) → IsCount found m → Lives may_leave found lives → Rise m (all_told lives)
  counts_rise found m lives is h =
      lives_rise lives m found (λ c k same counts. let k_is : k ≡ m = one_count found m k is (subst (λ (d : Content). IsCount d k) same counts) in omega (arith, k_is)) h
