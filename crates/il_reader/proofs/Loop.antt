-- A loop that reads thing after thing until it stops.
use Rattle.std.proofs.Common.{◌≡◌, ℕ, zero, suc, ◌<◌, ◌≤◌, Bool, true, false, List, [], ◌∷◌, ◌++◌, length, Result, Ok, Err, refl, sym, ap, ◌∙◌, append_assoc, arith}
use Rattle.std.specs.Prelude.{IfOk}
use Rattle.std.proofs.lemmas.List.{append-nil}
use Rattle.il_reader.specs.declared.fault.FaultAt.{FaultAt}
use Rattle.il_reader.specs.declared.fault.Failure.{Failure}
use Rattle.il_reader.specs.declared.fault.Failure.TheVariants as failures
use Rattle.il_reader.specs.Tokens.{Token}
use Rattle.il_reader.specs.Reading.{◌>>=◌, Fails, Gives, Reading, many_within, many}

abbrev pub Items : Type 0 → Type 0
Items X = Result (List X × List Token) FaultAt

-- what was read before, and what is still read
abbrev pub with_front : {X : Type 0} → List X → Items X → Items X
with_front front read = read >>= λ x. Ok (front ++ x.0, x.1)

regroup : {X : Type 0} (front : List X) (x : X) (read : Items X) → with_front front (read >>= λ xs. Ok (x ∷ xs.0, xs.1)) ≡ with_front (front ++ x ∷ []) read
regroup front x (Ok xs) = ap (λ (ys : List _). Ok (ys, xs.1)) (simp append_assoc)
regroup front x (Err f) = refl

-- so many turns are enough for what is left, and give with what was read before all that there is
pub record Left {X : Type 0} (stops : List Token → Bool) (item : Reading X) (front : List X) (ts : List Token) (total : Items X) : Type 0 where
  pub turns : ℕ
  pub enough : length ts ≤ turns
  pub gives : with_front front (many_within stops item (suc turns) ts) ≡ total

same_front : {X : Type 0} (read : Items X) → with_front [] read ≡ read
same_front (Ok xs) = refl
same_front (Err f) = refl

pub begins : {X : Type 0} (stops : List Token → Bool) (item : Reading X) (ts : List Token) → Left stops item [] ts (many stops item ts)
unfolding many
begins stops item ts = record { turns = length ts; enough = omega arith; gives = same_front (many_within stops item (suc (length ts)) ts) }

pub goes_on : {X : Type 0} (stops : List Token → Bool) (item : Reading X) (front : List X) (ts after : List Token) (x : X) (total : Items X)
    → stops ts ≡ false → item ts ≡ Ok (x, after) → length after < length ts
    → Left stops item front ts total → Left stops item (front ++ x ∷ []) after total
unfolding many_within
goes_on {X} stops item front ts after x total goes h less left = with_turns left.turns left.enough left.gives
  where
    with_turns : (n : ℕ) → length ts ≤ n → with_front front (many_within stops item (suc n) ts) ≡ total → Left stops item (front ++ x ∷ []) after total
    with_turns zero le gives = absurd (omega (arith, le, less))
    with_turns (suc n) le gives =
        let one : with_front front (many_within stops item (suc (suc n)) ts) ≡ with_front (front ++ x ∷ []) (many_within stops item (suc n) after) = rw (goes, h) (regroup front x (many_within stops item (suc n) after)) in
        record { turns = n; enough = omega (arith, le, less); gives = sym one ∙ gives }

pub fails : {X : Type 0} (e : Failure) (stops : List Token → Bool) (item : Reading X) (front : List X) (ts : List Token) (total : Items X)
    → stops ts ≡ false → Fails e (item ts)
    → Left stops item front ts total → Fails e total
unfolding many_within
fails failures.Memory stops item front ts total goes h left = tt
fails (failures.Refused f) stops item front ts total goes h left =
    let one : with_front front (many_within stops item (suc left.turns) ts) ≡ Err f = rw (goes, h) refl in
    sym left.gives ∙ one

pub stopped : {X : Type 0} (stops : List Token → Bool) (item : Reading X) (front : List X) (ts : List Token) (total : Items X)
    → stops ts ≡ true
    → Left stops item front ts total → total ≡ Ok (front, ts)
unfolding many_within
stopped stops item front ts total stop left =
    sym left.gives ∙ rw stop (ap (λ (ys : List _). Ok (ys, ts)) (append-nil front))

-- a thing that was read, and less behind it
pub moved : {X Y : Type 0} (r : Result Y Failure) (view : Y → X × List Token) (item : Reading X) (ts : List Token)
    → ((x : X × List Token) → item ts ≡ Ok x → length x.1 < length ts)
    → Gives view r (item ts) → IfOk r (λ y. length (view y).1 < length ts)
moved (Ok y) view item ts less given = less (view y) given
moved (Err e) view item ts less given = tt
