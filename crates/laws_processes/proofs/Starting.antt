-- A start with steps that go on behind it, as moves of its replica's list and of its machine's; and lists that join.
use Rattle.std.proofs.Common.{ℕ, Bool, List, [], ◌∷◌, ◌++◌, Option, Some, None, ap}
use Rattle.vr_model.specs.declared.event.Stored.{Stored}
use Rattle.vr_model.specs.Membership.{Group}
use Rattle.laws_threads.specs.CodeMoves.{Seat, runs, killed}
use Rattle.laws_threads.specs.OwnMoves.{OwnMove, Started, Stepped, Died, AreOwnMoves, seat_after}
use Rattle.laws_threads.specs.MachineMoves.{AreMachineMoves, counted_with}
use Rattle.laws_processes.specs.Going.{GoesOn, counted_after}

module _ {S : Type 0} (loads : S → Option Stored → S → Type 0) (saves : S → ℕ → Bool → S → Type 0) (faults : S → ℕ) (begins : S → Option Stored → S → Type 0) (holds : S → (ℕ → Bool) → Type 0) (g : Group) (i : ℕ) where
  pub own : (seat : Seat S) (given : ℕ → Bool) (ms : List (OwnMove S)) → GoesOn loads saves faults holds seat ms → AreOwnMoves loads saves faults begins holds g i (Some seat) given ms
  own seat given [] on = tt
  own seat given (Started q found left number starts ∷ ms) on = absurd on
  own seat given (Stepped e r left result ∷ ms) on =
      (on.0, on.1, on.2, ap (λ (x : Seat S). Some x) on.3, on.4, on.5, own (runs r left None) given ms on.6)
  own seat given (Died e left ∷ ms) on =
      (on.0, on.1, on.2, ap (λ (x : Seat S). Some x) on.3, on.4, on.5, own (killed left) given ms on.6)

  module _ (is_first : S → Bool) where
    pub machine : (seat : Seat S) (counted : ℕ) (ms : List (OwnMove S)) → GoesOn loads saves faults holds seat ms → AreMachineMoves loads saves faults begins holds is_first g i (Some seat) counted ms
    machine seat counted [] on = tt
    machine seat counted (Started q found left number starts ∷ ms) on = absurd on
    machine seat counted (Stepped e r left result ∷ ms) on =
        (on.0, on.1, on.2, ap (λ (x : Seat S). Some x) on.3, on.4, on.5, machine (runs r left None) counted ms on.6)
    machine seat counted (Died e left ∷ ms) on =
        (on.0, on.1, on.2, ap (λ (x : Seat S). Some x) on.3, on.4, on.5, machine (killed left) counted ms on.6)

    pub joined : (early late : List (OwnMove S)) (seat : Option (Seat S)) (counted : ℕ) → AreMachineMoves loads saves faults begins holds is_first g i seat counted early
        → AreMachineMoves loads saves faults begins holds is_first g i (seat_after seat early) (counted_after counted early) late → AreMachineMoves loads saves faults begins holds is_first g i seat counted (early ++ late)
    joined [] late seat counted a b = b
    joined (Started q found left number starts ∷ early) late seat counted a b =
        (a.0, a.1, a.2, joined early late (Some (runs q left number)) (counted_with counted starts) a.3 b)
    joined (Stepped e r left result ∷ early) late seat counted a b =
        (a.0, a.1, a.2, a.3, a.4, a.5, joined early late (Some (runs r left None)) counted a.6 b)
    joined (Died e left ∷ early) late seat counted a b =
        (a.0, a.1, a.2, a.3, a.4, a.5, joined early late (Some (killed left)) counted a.6 b)
