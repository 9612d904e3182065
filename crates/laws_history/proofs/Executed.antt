-- What replicas have executed: of two lists one is a prefix of the other.
use Rattle.std.proofs.Common.{◌≡◌, ℕ, ◌<◌, ◌≤◌, Bool, true, false, cond, ltb, List, length, take, arith, refl, sym, ap, ◌∙◌, subst, inl, inr}
use Rattle.std.proofs.lemmas.Grind.{common_steps}
use Rattle.std.proofs.lemmas.Bool.{ltb-true, ltb-false, cases_lt}
use Rattle.vr_model.specs.Logs.{Request, IsPrefix}
use Rattle.laws_history.proofs.History.{History, IsSound, Grows}
use Rattle.vr_model.specs.Replicas.{Status, Normal, ViewChange, Recovering, Down, is_normal, is_view_change, is_recovering, is_down, ReplicaState}
use Rattle.laws_history.proofs.Facts.{IsCommitted, Stands, ReplicaOk}
use Rattle.laws_history.proofs.Prefixes.{prefix_take, prefix_refl, take_prefix}
use Rattle.laws_history.proofs.Later.{committed_later}
use Rattle.laws_history.proofs.Committed.{committed_zero, committed_same}
use Rattle.vr_model.specs.World.{executed, longer}
use Rattle.laws_history.proofs.Prefixes.{prefix_nil}

-- some committed prefix of a view's log
pub record IsDone {X : Type 0} (f : ℕ) (h : History X) (done : List X) : Type 0 where
  pub view : ℕ
  pub count : ℕ
  pub commit : IsCommitted f h view count
  pub is : done ≡ take count (h.log view)

take_less : {X : Type 0} (n m : ℕ) (xs : List X) → n ≤ m → IsPrefix (take n xs) (take m xs)
take_less n m xs l = let e : take n (take m xs) ≡ take n xs = grind (arith, common_steps) in subst (λ a. IsPrefix a (take m xs)) e (take_prefix n (take m xs))

pub take_length : {X : Type 0} (n : ℕ) (xs : List X) → n ≤ length xs → length (take n xs) ≡ n
take_length n xs l = grind (arith, common_steps)

begun_is : {X : Type 0} (f : ℕ) (h : History X) (v : ℕ) → IsSound f h → 0 < length (h.log v) → h.started v ≡ true
begun_is f h v sound l = go (h.started v) refl
  where
    go : (b : Bool) → h.started v ≡ b → h.started v ≡ true
    go true e = e
    go false e = absurd (let k : length (h.log v) ≡ 0 = ap length (sound.unstarted v e) in omega arith)

-- of two committed lists the shorter is a prefix of the longer
pub compare : {X : Type 0} (f : ℕ) (h : History X) (v k u n : ℕ) → IsSound f h → IsCommitted f h v k → IsCommitted f h u n → k ≤ n → IsPrefix (take k (h.log v)) (take n (h.log u))
compare f h v k u n sound a b l = elim (cases_lt 0 k) [
  | inl some ↦
      let bv : h.started v ≡ true = begun_is f h v sound (omega (arith, a.within)) in
      let bu : h.started u ≡ true = begun_is f h u sound (omega (arith, b.within)) in
      elim (cases_lt v u) [
        | inl lt ↦ subst (λ x. IsPrefix x (take n (h.log u))) (sym (committed_same f h v u k sound (omega arith) bu a)) (take_less k n (h.log u) l)
        | inr ge ↦ subst (λ x. IsPrefix (take k (h.log v)) x) (sym (committed_same f h u v n sound ge bv b)) (take_less k n (h.log v) l)
      ]
  | inr none ↦ let e : k ≡ 0 = omega arith in subst (λ x. IsPrefix (take x (h.log v)) (take n (h.log u))) (sym e) (prefix_nil (take n (h.log u)))
]

pub done_compare : {X : Type 0} (f : ℕ) (h : History X) (xs ys : List X) → IsSound f h → IsDone f h xs → IsDone f h ys → length xs ≤ length ys → IsPrefix xs ys
done_compare f h xs ys sound a b l =
    let lx : length xs ≡ a.count = ap length a.is ∙ take_length a.count (h.log a.view) a.commit.within in
    let ly : length ys ≡ b.count = ap length b.is ∙ take_length b.count (h.log b.view) b.commit.within in
    subst (λ x. IsPrefix x ys) (sym a.is) (subst (λ y. IsPrefix (take a.count (h.log a.view)) y) (sym b.is)
    (compare f h a.view a.count b.view b.count sound a.commit b.commit (omega arith)))

-- the longer of two
pub longer_ok : {X : Type 0} (f : ℕ) (h : History X) (xs ys : List X) → IsSound f h → IsDone f h xs → IsDone f h ys
    → IsDone f h (longer xs ys) × IsPrefix xs (longer xs ys) × IsPrefix ys (longer xs ys)
longer_ok {X} f h xs ys sound a b = go (ltb (length xs) (length ys)) refl
  where
    go : (t : Bool) → ltb (length xs) (length ys) ≡ t → IsDone f h (cond t ys xs) × IsPrefix xs (cond t ys xs) × IsPrefix ys (cond t ys xs)
    go true e = let l : length xs < length ys = ltb-true _ _ e in (b, done_compare f h xs ys sound a b (omega arith), prefix_refl ys)
    go false e = let l : length ys ≤ length xs = ltb-false _ _ e in (a, prefix_refl xs, done_compare f h ys xs sound b a l)

pub done_later : {X : Type 0} (f : ℕ) (h g : History X) (xs : List X) → IsSound f h → Grows h g → IsDone f h xs → IsDone f g xs
done_later f h g xs sound grows d = record {
  view = d.view;
  count = d.count;
  commit = committed_later f d.view d.count sound grows d.commit;
  is = d.is ∙ sym (prefix_take d.count (grows.log d.view) d.commit.within);
}

-- what a replica that is up has executed
pub executed_done : {C : Type 0} (f : ℕ) (h : History (Request C)) (i : ℕ) (r : ReplicaState C) → ReplicaOk f h i r → IsDone f h (executed r)
executed_done {C} f h i r ok = go r.status refl
  where
    of : (v : ℕ) → Stands f h i v r.commit_number r.log → IsDone f h (executed r)
    of v s = record { view = v; count = r.commit_number; commit = s.commit; is = sym (prefix_take r.commit_number s.log.within s.executed) }

    go : (s : Status) → r.status ≡ s → IsDone f h (executed r)
    go Normal e = of r.view (ok.normal (ap is_normal e)).stands
    go ViewChange e = of r.last_normal_view (ok.view_change (ap is_view_change e)).stands
    go Recovering e = let n = ok.recovering (ap is_recovering e) in
        record { view = 0; count = 0; commit = committed_zero f h 0; is = ap (λ k. take k r.log) n.commit }
    go Down e = absurd (let c : true ≡ false = sym (ap is_down e) ∙ ok.up in cc)

pub executed_length : {C : Type 0} (f : ℕ) (h : History (Request C)) (i : ℕ) (r : ReplicaState C) → ReplicaOk f h i r → length (executed r) ≡ r.commit_number
executed_length {C} f h i r ok = take_length r.commit_number r.log (go r.status refl)
  where
    go : (s : Status) → r.status ≡ s → r.commit_number ≤ length r.log
    go Normal e = (ok.normal (ap is_normal e)).stands.executed
    go ViewChange e = (ok.view_change (ap is_view_change e)).stands.executed
    go Recovering e = let n = ok.recovering (ap is_recovering e) in omega (arith, n.commit)
    go Down e = absurd (let c : true ≡ false = sym (ap is_down e) ∙ ok.up in cc)

pub promised_stored : {C : Type 0} (f : ℕ) (h : History (Request C)) (i : ℕ) (r : ReplicaState C) → ReplicaOk f h i r → h.promised i ≤ r.stored_view
promised_stored f h i r ok = go r.status refl
  where
    go : (s : Status) → r.status ≡ s → h.promised i ≤ r.stored_view
    go Normal e = let n = ok.normal (ap is_normal e) in omega (arith, n.promised, n.stored)
    go ViewChange e = let n = ok.view_change (ap is_view_change e) in omega (arith, n.promised, n.stored)
    go Recovering e = (ok.recovering (ap is_recovering e)).promised
    go Down e = absurd (let c : true ≡ false = sym (ap is_down e) ∙ ok.up in cc)
