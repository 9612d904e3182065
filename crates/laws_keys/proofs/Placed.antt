-- What was brought was handed out before, at some place, or a record was forged.
use Rattle.std.proofs.Common.{◌≡◌, ℕ, zero, suc, ◌+◌, ◌⊎◌, inl, inr, List, [], ◌∷◌, ◌++◌, Some, refl, sym, ap, subst, arith}
use Rattle.std.specs.Prelude.{Contains, slice_get}
use Rattle.il_model.specs.declared.command.Command.{Command}
use Rattle.il_model.specs.declared.command.Answer.{Answer}
use Rattle.vr_model.specs.declared.event.Event.{Event}
use Rattle.vr_model.specs.declared.event.Event.TheVariants as event
use Rattle.vr_model.specs.declared.message.Message as code
use Rattle.vr_model.specs.Membership.{Group}
use Rattle.vr_model.specs.Steps.{ClientAction, Submits, Retries, StartsAgain, Hears}
use Rattle.vr_serving.specs.Serving.{sends_in}
use Rattle.laws_threads.specs.CodeMoves.{CodeMove, Starts, Steps, Dies, Serves, HearsHanded}
use Rattle.laws_threads.specs.OwnMoves.{AllTakeHanded, EventHanded}
use Rattle.laws_keys.specs.Ways.{OnlySealedIsGiven}
use Rattle.laws_keys.specs.Brought.{AllAreBrought, AnyForgedIn, AreSameMoves, Book, EventBrought, HasPlaces, HearsBrought, IsBrought}

-- ---- lists

contains_place : {A : Type 0} (xs : List A) (x : A) → Contains xs x → (k : ℕ) × (slice_get xs k ≡ Some x)
contains_place [] x has = absurd (omega (arith, has.1))
contains_place (y ∷ ys) x (zero, lt, is) = (0, ap Some is)
contains_place (y ∷ ys) x (suc k, lt, is) = let rest = contains_place ys x (k, omega arith, is) in (suc rest.0, rest.1)

contains_front : {A : Type 0} (xs ys : List A) (x : A) → Contains xs x → Contains (xs ++ ys) x
contains_front [] ys x has = absurd (omega (arith, has.1))
contains_front (y ∷ xs) ys x (zero, lt, is) = (0, omega arith, is)
contains_front (y ∷ xs) ys x (suc k, lt, is) = let rest = contains_front xs ys x (k, omega arith, is) in (suc rest.0, omega (arith, rest.1), rest.2)

-- ---- one message

module _ (law : OnlySealedIsGiven) (book : Book) where
  was_handed : (moment : ℕ) (sent : List code.Message) (m : code.Message) → IsBrought book moment sent m → Contains sent m ⊎ AnyForgedIn book
  was_handed moment sent m (inl has) = inl has
  was_handed moment sent m (inr over) =
      elim (law (book.sealed moment over.one.way.pair) over.one.way over.put over.given over.one.came over.one.opened over.ending over.all_fit over.fits over.has_sealed over.has_opened) [
        | inr forged ↦ inr (record { moment = moment; one = over.one; among = over.heard; forged = forged })
        | inl prefix ↦ inl (over.handed m (subst (λ (xs : List code.Message). Contains xs m) (sym prefix.1) (contains_front over.given prefix.0 m over.among)))
      ]

  module _ (g : Group) where
    event_placed : (moment : ℕ) (sent : List code.Message) (i : ℕ) (e : Event) → EventBrought g book moment sent i e → ((place : ℕ) × EventHanded g sent i e place) ⊎ AnyForgedIn book
    event_placed moment sent i (event.Message a) h = elim (was_handed moment sent a h.0) [
      | inr forged ↦ inr forged
      | inl has ↦ let at = contains_place sent a has in inl (at.0, (at.1, h.1))
    ]
    event_placed moment sent i event.Timeout h = inl (0, tt)
    event_placed moment sent i event.Resend h = inl (0, tt)
    event_placed moment sent i (event.Restart n) h = inl (0, tt)

    hears_placed : (moment : ℕ) (sent : List code.Message) (c : ℕ) (a : ClientAction Command Answer) → HearsBrought g book moment sent c a → ((place : ℕ) × HearsHanded sent c a place) ⊎ AnyForgedIn book
    hears_placed moment sent c (Hears m) h = elim (was_handed moment sent h.0 h.1) [
      | inr forged ↦ inr forged
      | inl has ↦ let at = contains_place sent h.0 has in inl (at.0, (h.0, at.1, h.2, h.3))
    ]
    hears_placed moment sent c (Submits command) h = inl (0, tt)
    hears_placed moment sent c Retries h = inl (0, tt)
    hears_placed moment sent c StartsAgain h = inl (0, tt)

    -- ---- all moves

    record Placed {S : Type 0} (sent : List code.Message) (ms : List (CodeMove S)) : Type 0 where
      placed : List (CodeMove S)
      same : AreSameMoves placed ms
      taken : AllTakeHanded g sent placed

    module _ {S : Type 0} where
      placed_all : (moment : ℕ) (sent : List code.Message) (ms : List (CodeMove S)) → AllAreBrought g book moment sent ms → Placed sent ms ⊎ AnyForgedIn book
      placed_all moment sent [] h = inl (record { placed = []; same = refl; taken = tt })
      placed_all moment sent (Starts i q found left number starts ∷ ms) h = elim (placed_all (moment + 1) sent ms h) [
        | inr forged ↦ inr forged
        | inl p ↦ inl (record {
          placed = Starts i q found left number starts ∷ p.placed;
          same = ap (λ (xs : List (CodeMove S)). Starts i q found left number starts ∷ xs) p.same;
          taken = p.taken;
        })
      ]
      placed_all moment sent (Steps i e place r left result ∷ ms) h = elim (event_placed moment sent i e h.0) [
        | inr forged ↦ inr forged
        | inl at ↦ elim (placed_all (moment + 1) (sent ++ sends_in result) ms h.1) [
          | inr forged ↦ inr forged
          | inl p ↦ inl (record {
            placed = Steps i e at.0 r left result ∷ p.placed;
            same = ap (λ (xs : List (CodeMove S)). Steps i e 0 r left result ∷ xs) p.same;
            taken = (at.1, p.taken);
          })
        ]
      ]
      placed_all moment sent (Dies i e place left ∷ ms) h = elim (event_placed moment sent i e h.0) [
        | inr forged ↦ inr forged
        | inl at ↦ elim (placed_all (moment + 1) sent ms h.1) [
          | inr forged ↦ inr forged
          | inl p ↦ inl (record {
            placed = Dies i e at.0 left ∷ p.placed;
            same = ap (λ (xs : List (CodeMove S)). Dies i e 0 left ∷ xs) p.same;
            taken = (at.1, p.taken);
          })
        ]
      ]
      placed_all moment sent (Serves c d out place ∷ ms) h = elim (hears_placed moment sent c d.action h.1) [
        | inr forged ↦ inr forged
        | inl at ↦ elim (placed_all (moment + 1) (sent ++ out) ms h.2) [
          | inr forged ↦ inr forged
          | inl p ↦ inl (record {
            placed = Serves c d out at.0 ∷ p.placed;
            same = ap (λ (xs : List (CodeMove S)). Serves c d out 0 ∷ xs) p.same;
            taken = (h.0, at.1, p.taken);
          })
        ]
      ]

      pub has_places : (ms : List (CodeMove S)) → AllAreBrought g book 0 [] ms → HasPlaces g ms ⊎ AnyForgedIn book
      has_places ms h = elim (placed_all 0 [] ms h) [
        | inr forged ↦ inr forged
        | inl p ↦ inl (record { placed = p.placed; same = p.same; taken = p.taken })
      ]
