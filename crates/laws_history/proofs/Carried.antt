-- What could be chosen in a view is carried into each later one.
use Rattle.std.proofs.Common.{◌≡◌, ℕ, ◌<◌, ◌≤◌, Bool, true, leb, List, length, take, arith, refl, sym, ap, ◌∙◌, ◌⊎◌, inl, inr}
use Rattle.std.proofs.lemmas.Bool.{leb-true, le-leb, or_cases, or_left, or_right, cases_lt}
use Rattle.vr_model.specs.Logs.{IsPrefix}
use Rattle.vr_model.specs.Groups.{group_size, IsQuorum}
use Rattle.laws_history.proofs.History.{History, holds, IsChosen, could_hold, CouldBeChosen, IsCarried, IsSound, Grows, Leaves}
use Rattle.laws_history.proofs.Counts.{quorums_meet, fewer}
use Rattle.laws_history.proofs.Prefixes.{prefix_length, prefix_take}

pub chosen_could : {X : Type 0} (f : ℕ) (h : History X) (v n : ℕ) → IsChosen f h v n → CouldBeChosen f h v n
chosen_could f h v n c = omega (arith, c, fewer (holds h v n) (could_hold h v n) (group_size f) (λ r l e. or_left (holds h v n r) _ e))

-- who could hold it later could hold it before
pub could_before : {X : Type 0} (f : ℕ) (h g : History X) (v n : ℕ) → IsSound f h → Grows h g → CouldBeChosen f g v n → CouldBeChosen f h v n
could_before f h g v n sound grows c = omega (arith, c, fewer (could_hold g v n) (could_hold h v n) (group_size f) back)
  where
    back : (r : ℕ) → r < group_size f → could_hold g v n r ≡ true → could_hold h v n r ≡ true
    back r l e = elim (or_cases (leb n (g.accepted r v)) (leb (g.left r) v) e) [
      | inl a ↦ elim (cases_lt v (h.promised r)) [
        | inl early ↦ or_left (leb n (h.accepted r v)) (leb (h.left r) v) (le-leb n (h.accepted r v) (let k : n ≤ g.accepted r v = leb-true _ _ a in omega (arith, grows.frozen r v early)))
        | inr late ↦ or_right (leb n (h.accepted r v)) (leb (h.left r) v) (le-leb (h.left r) v (omega (arith, sound.left_promised r)))
      ]
      | inr b ↦ or_right (leb n (h.accepted r v)) (leb (h.left r) v) (le-leb (h.left r) v (let k : g.left r ≤ v = leb-true _ _ b in omega (arith, grows.left r)))
    ]

pub carried_grows : {X : Type 0} (h g : History X) (v u n : ℕ) → Grows h g → h.started u ≡ true → h.first u ≤ length (h.log u) → IsCarried h v u n → IsCarried g v u n
carried_grows h g v u n grows b fits c = record {
  within = omega (arith, c.within, prefix_length (grows.log v));
  first = omega (arith, c.first, grows.first u b);
  same = prefix_take n (grows.log v) c.within ∙ c.same ∙ sym (prefix_take n (grows.log u) (omega (arith, c.first)));
}

-- a view that is started now: the DOVIEWCHANGEs of a quorum, and the best of them
pub record Elected {X : Type 0} (f : ℕ) (h : History X) (u last : ℕ) (mine : List X) (do_view_changes : ℕ → Bool) : Type 0 where
  pub below : last < u
  pub started : h.started last ≡ true
  pub log : IsPrefix mine (h.log last)
  pub whole : h.first last ≤ length mine
  pub quorum : IsQuorum f do_view_changes
  pub left : (r : ℕ) → r < group_size f → do_view_changes r ≡ true → u ≤ h.left r
  pub best : (r : ℕ) → r < group_size f → do_view_changes r ≡ true → (l : ℕ) × (theirs : List X) × Leaves h r u l theirs × ((l < last) ⊎ ((l ≡ last) × (length theirs ≤ length mine)))

-- the prefix of length n of v's log is one of this list
abbrev pub Among : {X : Type 0} → History X → ℕ → ℕ → List X → Type 0
Among h v n mine = (n ≤ length (h.log v)) × (n ≤ length mine) × (take n (h.log v) ≡ take n mine)

pub carried_elected : {X : Type 0} (f : ℕ) (h : History X) (u last : ℕ) (mine : List X) (do_view_changes : ℕ → Bool)
    → IsSound f h → Elected f h u last mine do_view_changes
    → (v n : ℕ) → v < u → CouldBeChosen f h v n → Among h v n mine
carried_elected {X} f h u last mine do_view_changes sound el v n below could =
    let meet = quorums_meet f do_view_changes (could_hold h v n) el.quorum could in
    let r = meet.0 in
    let b = el.best r meet.1 meet.2 in
    at_sender r b.0 b.1 b.2 b.3 (elim (or_cases (leb n (h.accepted r v)) (leb (h.left r) v) meet.3) [
      | inl a ↦ leb-true _ _ a
      | inr p ↦ absurd (let k : h.left r ≤ v = leb-true _ _ p in omega (arith, el.left r meet.1 meet.2))
    ])
  where
    in_last : v ≡ last → n ≤ length mine → Among h v n mine
    in_last e fits = let m : take n (h.log last) ≡ take n mine = prefix_take n el.log fits in
        let e' : take n (h.log v) ≡ take n (h.log last) = ap (λ x. take n (h.log x)) e in
        let w : length (h.log v) ≡ length (h.log last) = ap (λ x. length (h.log x)) e in
        (omega (arith, prefix_length el.log), fits, e' ∙ m)

    before_last : v < last → Among h v n mine
    before_last l =
        let c : IsCarried h v last n = sound.carried last v n el.started l could in
        (c.within, omega (arith, c.first, el.whole), c.same ∙ prefix_take n el.log (omega (arith, c.first, el.whole)))

    nothing : n ≡ 0 → Among h v n mine
    nothing e = rw e (omega arith, omega arith, refl)

    at_sender : (r l : ℕ) (theirs : List X) → Leaves h r u l theirs → ((l < last) ⊎ ((l ≡ last) × (length theirs ≤ length mine))) → n ≤ h.accepted r v → Among h v n mine
    at_sender r l theirs leaves cmp a = elim (cases_lt l v) [
      | inl later ↦ nothing (omega (arith, leaves.later v later below))
      | inr upto ↦ elim (cases_lt v last) [
        | inl lt ↦ before_last lt
        | inr ge ↦ elim cmp [
          | inl lt ↦ absurd (omega arith)
          | inr same ↦
              let e : v ≡ last = omega (arith, same.0) in
              let e2 : v ≡ l = omega (arith, same.0) in
              let a2 : h.accepted r v ≡ h.accepted r l = ap (h.accepted r) e2 in
              in_last e (omega (arith, same.1, leaves.covers))
        ]
      ]
    ]
