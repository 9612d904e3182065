-- What the kept entries between two places of a log are.
use Rattle.std.proofs.Common.{◌≡◌, ℕ, zero, suc, ◌+◌, ◌-◌, ◌≤◌, max, min, List, [], ◌∷◌, ◌++◌, length, take, drop, Result, Ok, Err, refl, sym, ap, subst, ◌∙◌, arith, inl, inr}
use Rattle.std.proofs.lemmas.List.{drop_all, drop-take, drop-map, length-take, length-take-le, append-nil}
use Rattle.std.specs.Prelude.{IfOk, OnErr}
use Rattle.std.proofs.lemmas.Bool.{cases_eq}
use Rattle.il_model.specs.declared.command.Command.{Command}
use Rattle.ctl_debugger.specs.Prepared.{Prepared}
use Rattle.vr_model.specs.declared.message.Request as code
use Rattle.vr_model.specs.Logs.{Request}
use Rattle.vr_model.specs.Checkpoints.{KeptLog, base_of, request_of, requests_of}
use Rattle.vr_core.specs.declared.state.Core.{Core}
use Rattle.vr_core.specs.Changes.{AreReady, between, IsReadyTo, IsReadyPast, IsReadyFor}
use Rattle.vr_core.specs.Follows.{op_number_of}
use Rattle.vr_core.proofs.WholeLogs.{whole_length}

module _ {X : Type 0} where
  drop_nil : (k : ℕ) → (let none : List X = [] in drop k none ≡ [])
  drop_nil zero = refl
  drop_nil (suc k) = refl

  take_nil : (n : ℕ) → (let none : List X = [] in take n none ≡ [])
  take_nil zero = refl
  take_nil (suc n) = refl

  drop_drop : (a b : ℕ) (xs : List X) → drop a (drop b xs) ≡ drop (b + a) xs
  drop_drop a zero xs = let on : a ≡ zero + a = omega arith in ap (λ k. drop k xs) on
  drop_drop a (suc b) [] = drop_nil a ∙ sym (drop_nil (suc b + a))
  drop_drop a (suc b) (x ∷ xs) = drop_drop a b xs ∙ ap (λ k. drop k (x ∷ xs)) (let on : suc (b + a) ≡ suc b + a = omega arith in on)

  take_take : (n p : ℕ) (xs : List X) → take n (take p xs) ≡ take (min n p) xs
  take_take zero p xs = ap (λ k. take k xs) (let on : zero ≡ min zero p = omega arith in on)
  take_take (suc n) zero xs = take_nil (suc n) ∙ ap (λ k. take k xs) (let on : zero ≡ min (suc n) zero = omega arith in on)
  take_take (suc n) (suc p) [] = take_nil (suc n) ∙ sym (take_nil (min (suc n) (suc p)))
  take_take (suc n) (suc p) (x ∷ xs) = ap (λ t. x ∷ t) (take_take n p xs) ∙ ap (λ k. take k (x ∷ xs)) (let on : suc (min n p) ≡ min (suc n) (suc p) = omega arith in on)

  -- the first n of two lists, past the first k
  in_two : (n k : ℕ) (xs ys : List X) → drop k (take n (xs ++ ys)) ≡ drop k (take n xs) ++ drop (k - length xs) (take (n - length xs) ys)
  in_two n k [] ys =
      sym (ap (λ (t : List X). t ++ drop (k - 0) (take (n - 0) ys)) (ap (drop k) (take_nil n) ∙ drop_nil k)
      ∙ ap (λ j. drop j (take (n - 0) ys)) (let e : k - 0 ≡ k = omega arith in e)
      ∙ ap (λ j. drop k (take j ys)) (let e : n - 0 ≡ n = omega arith in e))
  in_two zero k (x ∷ xs) ys =
      drop_nil k
      ∙ sym (ap (λ (t : List X). t ++ drop (k - length (x ∷ xs)) (take (zero - length (x ∷ xs)) ys)) (drop_nil k)
      ∙ ap (λ j. drop (k - length (x ∷ xs)) (take j ys)) (let e : zero - length (x ∷ xs) ≡ zero = omega arith in e)
      ∙ drop_nil (k - length (x ∷ xs)))
  in_two (suc n) zero (x ∷ xs) ys =
      ap (λ t. x ∷ t) (in_two n zero xs ys)
      ∙ ap (λ j. x ∷ take n xs ++ drop j (take (n - length xs) ys)) (let e : zero - length xs ≡ zero - length (x ∷ xs) = omega arith in e)
      ∙ ap (λ j. x ∷ take n xs ++ drop (zero - length (x ∷ xs)) (take j ys)) (let e : n - length xs ≡ suc n - length (x ∷ xs) = omega arith in e)
  in_two (suc n) (suc k) (x ∷ xs) ys =
      in_two n k xs ys
      ∙ ap (λ j. drop k (take n xs) ++ drop j (take (n - length xs) ys)) (let e : k - length xs ≡ suc k - length (x ∷ xs) = omega arith in e)
      ∙ ap (λ j. drop k (take n xs) ++ drop (suc k - length (x ∷ xs)) (take j ys)) (let e : n - length xs ≡ suc n - length (x ∷ xs) = omega arith in e)

  -- of a list without its first b
  part_past : (b k n : ℕ) (xs : List X) → b ≤ k → drop (k - b) (take (n - b) (drop b xs)) ≡ drop k (take n xs)
  part_past b k n xs le = elim (cases_eq (b + (n - b)) n) [
    | inl is ↦
        ap (drop (k - b)) (sym (drop-take b (n - b) xs))
        ∙ drop_drop (k - b) b (take (b + (n - b)) xs)
        ∙ ap (λ j. drop j (take (b + (n - b)) xs)) (let e : b + (k - b) ≡ k = omega arith in e)
        ∙ ap (λ j. drop k (take j xs)) is
    | inr other ↦
        ap (λ j. drop (k - b) (take j (drop b xs))) (let e : n - b ≡ 0 = omega arith in e)
        ∙ drop_nil (k - b)
        ∙ sym (drop_all k (take n xs) (let few : length (take n xs) ≡ min n (length xs) = length-take n xs in omega arith))
  ]

  -- what the first of these bounds leaves, cut at the list's end
  cut_at_end : (from to : ℕ) (xs : List X) → drop (min from (min to (length xs))) (take (min to (length xs)) xs) ≡ drop from (take to xs)
  cut_at_end from to xs =
      let end = min to (length xs) in
      let few : length (take to xs) ≡ end = length-take to xs in
      let same : take end xs ≡ take to xs = elim (cases_eq end to) [
        | inl is ↦ ap (λ j. take j xs) is
        | inr other ↦ whole end to xs (omega arith) (omega arith)
      ] in
      ap (drop (min from end)) same ∙ elim (cases_eq (min from end) from) [
        | inl is ↦ ap (λ j. drop j (take to xs)) is
        | inr other ↦ drop_all (min from end) (take to xs) (omega arith) ∙ sym (drop_all from (take to xs) (omega arith))
      ]
    where
      whole : (a b : ℕ) (ys : List X) → length ys ≤ a → length ys ≤ b → take a ys ≡ take b ys
      whole a b [] x y = take_nil a ∙ sym (take_nil b)
      whole zero b (z ∷ ys) x y = absurd (omega arith)
      whole (suc a) zero (z ∷ ys) x y = absurd (omega arith)
      whole (suc a) (suc b) (z ∷ ys) x y = ap (λ t. z ∷ t) (whole a b ys (omega arith) (omega arith))

  -- the same, as a part of a slice is taken
  pub cut_is : (from to s e : ℕ) (xs : List X) → e ≡ min to (length xs) → s ≡ min from e → take (e - s) (drop s xs) ≡ drop from (take to xs)
  cut_is from to s e xs end start =
      let whole : s + (e - s) ≡ e = omega arith in
      sym (drop-take s (e - s) xs)
      ∙ ap (λ j. drop s (take j xs)) whole
      ∙ ap (λ j. drop j (take e xs)) (start ∙ ap (min from) end)
      ∙ ap (λ j. drop (min from (min to (length xs))) (take j xs)) end
      ∙ cut_at_end from to xs

-- as requests
take_requests : (n : ℕ) (es : List code.Request) → requests_of (take n es) ≡ take n (requests_of es)
take_requests zero es = refl
take_requests (suc n) [] = refl
take_requests (suc n) (m ∷ es) = ap (λ t. request_of m ∷ t) (take_requests n es)

drop_requests : (n : ℕ) (es : List code.Request) → requests_of (drop n es) ≡ drop n (requests_of es)
drop_requests n es = sym (drop-map request_of n es)

part_requests : (k n : ℕ) (es : List code.Request) → requests_of (drop k (take n es)) ≡ drop k (take n (requests_of es))
part_requests k n es = drop_requests k (take n es) ∙ ap (drop k) (take_requests n es)

-- the kept entries between two places are those of the whole log
kept_between : (b k n : ℕ) (es : List code.Request) (l : List (Request Command)) → requests_of es ≡ drop b l → b ≤ k → requests_of (drop (k - b) (take (n - b) es)) ≡ between l k n
kept_between b k n es l rest le = part_requests (k - b) (n - b) es ∙ ap (λ t. drop (k - b) (take (n - b) t)) rest ∙ part_past b k n l le

-- ---- what is ready

-- what comes before others is ready with them
abbrev pub AreReadyBefore : List code.Request → List Prepared → List Prepared → Type 0
AreReadyBefore entries behind ps = (rest : List (Request Command)) → AreReady rest behind → AreReady (requests_of entries ++ rest) ps

alone : (entries : List code.Request) (none ps : List Prepared) → none ≡ [] → AreReadyBefore entries none ps → AreReady (requests_of entries) ps
alone entries none ps is h = subst (λ es. AreReady es ps) (append-nil (requests_of entries)) (h [] (subst (AreReady []) (sym is) tt))

ready_to : (core : Core) (n : ℕ) (entries : List code.Request) (none ps : List Prepared) → entries ≡ drop (core.commit_number - base_of core.log.checkpoint) (take (n - base_of core.log.checkpoint) core.log.entries) → none ≡ []
    → AreReadyBefore entries none ps → IsReadyTo core n ps
ready_to core n entries none ps are is h = record {
  ready = λ w r st.
      let b = base_of core.log.checkpoint in
      let k : r.commit_number ≡ core.commit_number = st.commit_number in
      let le : b ≤ core.commit_number = subst (λ j. b ≤ j) k st.reached in
      subst (λ j. AreReady (between r.log j n) ps) (sym k)
      (subst (λ es. AreReady es ps) (ap requests_of are ∙ kept_between b core.commit_number n core.log.entries r.log st.log.rest le) (alone entries none ps is h));
}

-- where there is nothing to execute
pub ready_none : (core : Core) (n : ℕ) (ps : List Prepared) → min n (op_number_of core) ≤ core.commit_number → ps ≡ [] → IsReadyTo core n ps
ready_none core n ps le none = record {
  ready = λ w r st.
      let k : r.commit_number ≡ core.commit_number = st.commit_number in
      let whole : length r.log ≡ op_number_of core = whole_length w.group core.log r.log st.log in
      let few : length (take n r.log) ≡ min n (length r.log) = length-take n r.log in
      subst (λ es. AreReady es ps) (sym (drop_all r.commit_number (take n r.log) (omega arith))) (subst (AreReady []) (sym none) tt);
}

pub on_err : {X E : Type 0} {P : Type 0} (r : Result X E) → P → OnErr r P
on_err (Ok x) p = tt
on_err (Err e) p = p

ready_for : (core : Core) (handed : KeptLog) (n : ℕ) (entries : List code.Request) (none ps : List Prepared) → entries ≡ drop (max core.commit_number (base_of handed.checkpoint) - base_of handed.checkpoint) (take (n - base_of handed.checkpoint) handed.entries) → none ≡ []
    → AreReadyBefore entries none ps → IsReadyFor core handed n ps
ready_for core handed n entries none ps are is h = record {
  ready = λ l st.
      let b = base_of handed.checkpoint in
      let k = max core.commit_number b in
      subst (λ es. AreReady es ps) (ap requests_of are ∙ kept_between b k n handed.entries l st.rest (omega arith)) (alone entries none ps is h);
}

-- the kept entries up to a place, and others behind them
ready_past : (core : Core) (p n : ℕ) (more : List code.Request) (own behind : List code.Request) (none changes ps : List Prepared)
    → behind ≡ drop (core.commit_number - p) (take (n - p) more) → own ≡ drop (core.commit_number - base_of core.log.checkpoint) (take (min n p - base_of core.log.checkpoint) core.log.entries) → none ≡ []
    → AreReadyBefore behind none changes → AreReadyBefore own changes ps → IsReadyPast core p (requests_of more) n ps
ready_past core p n more own behind none changes ps are own_are is h g = record {
  ready = λ w r st within.
      let b = base_of core.log.checkpoint in
      let k : r.commit_number ≡ core.commit_number = st.commit_number in
      let le : b ≤ core.commit_number = subst (λ j. b ≤ j) k st.reached in
      let size : length (take p r.log) ≡ p = length-take-le p r.log within in
      let first : requests_of own ≡ drop core.commit_number (take n (take p r.log)) =
      ap requests_of own_are ∙ kept_between b core.commit_number (min n p) core.log.entries r.log st.log.rest le ∙ ap (drop core.commit_number) (sym (take_take n p r.log)) in
      let then : requests_of behind ≡ drop (core.commit_number - length (take p r.log)) (take (n - length (take p r.log)) (requests_of more)) =
      ap requests_of are ∙ part_requests (core.commit_number - p) (n - p) more ∙ ap (λ j. drop (core.commit_number - j) (take (n - j) (requests_of more))) (sym size) in
      let both : requests_of own ++ requests_of behind ≡ between (take p r.log ++ requests_of more) core.commit_number n =
      ap (λ t. t ++ requests_of behind) first ∙ ap (λ t. drop core.commit_number (take n (take p r.log)) ++ t) then ∙ sym (in_two n core.commit_number (take p r.log) (requests_of more)) in
      subst (λ j. AreReady (between (take p r.log ++ requests_of more) j n) ps) (sym k) (subst (λ es. AreReady es ps) both (g (requests_of behind) (alone behind none changes is h)));
}

-- ---- the same unless memory ran out

pub ready_to_if : {E : Type 0} (core : Core) (n : ℕ) (entries : List code.Request) (none : List Prepared) (r : Result (List Prepared) E) → entries ≡ drop (core.commit_number - base_of core.log.checkpoint) (take (n - base_of core.log.checkpoint) core.log.entries) → none ≡ []
    → IfOk r (AreReadyBefore entries none) → IfOk r (IsReadyTo core n)
ready_to_if core n entries none (Ok ps) are is h = ready_to core n entries none ps are is h
ready_to_if core n entries none (Err e) are is h = tt

pub ready_for_if : {E : Type 0} (core : Core) (handed : KeptLog) (n : ℕ) (entries : List code.Request) (none : List Prepared) (r : Result (List Prepared) E)
    → entries ≡ drop (max core.commit_number (base_of handed.checkpoint) - base_of handed.checkpoint) (take (n - base_of handed.checkpoint) handed.entries) → none ≡ []
    → IfOk r (AreReadyBefore entries none) → IfOk r (IsReadyFor core handed n)
ready_for_if core handed n entries none (Ok ps) are is h = ready_for core handed n entries none ps are is h
ready_for_if core handed n entries none (Err e) are is h = tt

pub ready_past_if : {E : Type 0} (core : Core) (p n : ℕ) (more : List code.Request) (own behind : List code.Request) (none changes : List Prepared) (r : Result (List Prepared) E)
    → behind ≡ drop (core.commit_number - p) (take (n - p) more) → own ≡ drop (core.commit_number - base_of core.log.checkpoint) (take (min n p - base_of core.log.checkpoint) core.log.entries) → none ≡ []
    → AreReadyBefore behind none changes → IfOk r (AreReadyBefore own changes) → IfOk r (IsReadyPast core p (requests_of more) n)
ready_past_if core p n more own behind none changes (Ok ps) are own_are is h g = ready_past core p n more own behind none changes ps are own_are is h g
ready_past_if core p n more own behind none changes (Err e) are own_are is h g = tt
