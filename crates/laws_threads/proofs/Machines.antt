-- A machine's list is its replica's own list.
use Rattle.std.proofs.Common.{◌≡◌, ℕ, ◌≤◌, ◌==◌, Bool, true, false, List, [], ◌∷◌, Option, Some, None, refl, sym, ◌∙◌, subst, inl, inr, ◌⊎◌, arith}
use Rattle.std.specs.Prelude.{MatchBool}
use Rattle.std.proofs.lemmas.Bool.{cases_eq, eq-eqb}
use Rattle.vr_model.specs.declared.event.Stored.{Stored}
use Rattle.vr_model.specs.Membership.{Group, Membership, member}
use Rattle.vr_model.specs.World.{first_replica}
use Rattle.vr_replica.specs.declared.state.Replica.{Replica}
use Rattle.vr_replica.specs.Standing.{StandsFor}
use Rattle.vr_threads.specs.Working.{HasStarted, StandsDown}
use Rattle.laws_threads.specs.CodeMoves.{CodeMove, Seat, runs, killed, given_with, IsUnused, IsNextStart}
use Rattle.laws_threads.specs.OwnMoves.{OwnMove, Started, Stepped, Died, AreOwnMoves, EachInOneOrder}
use Rattle.laws_threads.specs.MachineMoves.{CountsAsJudged, Rises, counted_with, IsMachineStart, AreMachineMoves, MachinesInOneOrder}
use Rattle.laws_threads.proofs.Tables.{put_other}

-- none was given that is above what is counted
abbrev UpTo : (ℕ → Bool) → ℕ → Type 0
UpTo given counted = (n : ℕ) → given n ≡ true → n ≤ counted

unused : (given : ℕ → Bool) (counted : ℕ) (starts : Option ℕ) → UpTo given counted → Rises counted starts → IsUnused given starts
unused given counted None up r = tt
unused given counted (Some n) up r = of (given n) refl
  where
    of : (b : Bool) → given n ≡ b → given n ≡ false
    of true e = absurd (omega (arith, up n e, r))
    of false e = e

more_counted : (given : ℕ → Bool) (counted : ℕ) (starts : Option ℕ) → UpTo given counted → Rises counted starts → UpTo given (counted_with counted starts)
more_counted given counted None up r = up
more_counted given counted (Some s) up r = λ n is. omega (arith, up n is, r)

all_counted : (given : ℕ → Bool) (counted : ℕ) (starts : Option ℕ) → UpTo given counted → Rises counted starts → UpTo (given_with given starts) (counted_with counted starts)
all_counted given counted None up r = up
all_counted given counted (Some s) up r = λ n is. elim (cases_eq n s) [
  | inl e ↦ omega (arith, e)
  | inr ne ↦ omega (arith, up n (sym (put_other given s true n ne) ∙ is), r)
]

nonce_of : (m : Membership) (stored : Stored) (q : Replica) (number : Option ℕ) (b : Bool)
    → MatchBool b ((stored.view ≡ 0) × (number ≡ None) × StandsFor q m first_replica) ((number ≡ Some stored.starts) × StandsDown q m)
    → (number ≡ None) ⊎ (number ≡ Some stored.starts)
nonce_of m stored q number true w = inl w.1
nonce_of m stored q number false w = inr w.0

none_is_not : (o : Option ℕ) (n : ℕ) → o ≡ None → o ≡ Some n → ⊥
none_is_not o n a b = cc

some_is : (a b : ℕ) → Some a ≡ Some b → a ≡ b
some_is a b e = cc

module _ {S : Type 0} (loads : S → Option Stored → S → Type 0) (saves : S → ℕ → Bool → S → Type 0) (faults : S → ℕ) (begins : S → Option Stored → S → Type 0) (holds : S → (ℕ → Bool) → Type 0) (is_first : S → Bool)
    (judged : CountsAsJudged begins is_first) (g : Group) where
  abbrev Comes : ℕ → S → S → Replica → Option ℕ → Option ℕ → Type 0
  Comes i found left q number starts = HasStarted begins (member g i) found left q number starts

  -- a nonce is the count of its start
  nonce_is : (i : ℕ) (found left : S) (q : Replica) (number starts : Option ℕ) → Comes i found left q number starts → (number ≡ None) ⊎ (number ≡ starts)
  nonce_is i found left q number starts h = elim h [
    | inl k ↦ elim (nonce_of (member g i) k.0 q number (k.0.starts == 1) k.3) [
      | inl is ↦ inl is
      | inr is ↦ inr (is ∙ sym k.2)
    ]
    | inr k ↦ inl k.2
  ]

  not_first : (i : ℕ) (found left : S) (q : Replica) (number starts : Option ℕ) → Comes i found left q number starts → is_first found ≡ false → starts ≡ Some 1 → ⊥
  not_first i found left q number starts h later is = elim h [
    | inl k ↦ (
        let one : k.0.starts ≡ 1 = some_is k.0.starts 1 (sym k.2 ∙ is) in
        let wrong : true ≡ false = sym (eq-eqb k.0.starts 1 one) ∙ (judged found left k.0 k.1 ∙ later) in absurd cc)
    | inr k ↦ none_is_not starts 1 k.1 is
  ]

  next_start : (i : ℕ) (seat : Option (Seat S)) (found left : S) (q : Replica) (number starts : Option ℕ) → Comes i found left q number starts → IsMachineStart loads saves faults begins holds is_first g seat found
      → IsNextStart loads saves faults begins holds g seat found starts
  next_start i None found left q number starts h is = is
  next_start i (Some seat) found left q number starts h is = (is.0, not_first i found left q number starts h is.1)

  own : (i : ℕ) (ms : List (OwnMove S)) (seat : Option (Seat S)) (given : ℕ → Bool) (counted : ℕ) → UpTo given counted → AreMachineMoves loads saves faults begins holds is_first g i seat counted ms → AreOwnMoves loads saves faults begins holds g i seat given ms
  own i [] seat given counted up h = tt
  own i (Started q found left number starts ∷ ms) seat given counted up h = (
    h.0,
    record { knowing = h.1.knowing; start = h.1.start; next = next_start i seat h.1.knowing left q number starts h.1.start h.1.next },
    elim (nonce_is i found left q number starts h.0) [
      | inl is ↦ subst (λ o. IsUnused given o) (sym is) tt
      | inr is ↦ subst (λ o. IsUnused given o) (sym is) (unused given counted starts up h.2)
    ],
    own i ms (Some (runs q left number)) (given_with given number) (counted_with counted starts)
        (elim (nonce_is i found left q number starts h.0) [
          | inl is ↦ subst (λ o. UpTo (given_with given o) (counted_with counted starts)) (sym is) (more_counted given counted starts up h.2)
          | inr is ↦ subst (λ o. UpTo (given_with given o) (counted_with counted starts)) (sym is) (all_counted given counted starts up h.2)
        ])
        h.3,
  )
  own i (Stepped e r left result ∷ ms) seat given counted up h =
      (h.0, h.1, h.2, h.3, h.4, h.5, own i ms (Some (runs r left None)) given counted up h.6)
  own i (Died e left ∷ ms) seat given counted up h =
      (h.0, h.1, h.2, h.3, h.4, h.5, own i ms (Some (killed left)) given counted up h.6)

  pub each_own : (ms : List (CodeMove S)) → MachinesInOneOrder loads saves faults begins holds is_first g ms → EachInOneOrder loads saves faults begins holds g ms
  each_own ms each = record {
    replicas = λ i l. own i _ None (λ x. false) 0 (λ n is. absurd (let wrong : false ≡ true = is in cc)) (each.machines i l);
    no_others = each.no_others;
    clients = each.clients;
    taken = each.taken;
  }
