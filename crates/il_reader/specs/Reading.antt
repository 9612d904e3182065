-- Reading from left to right, with the first fault that is met.
use Rattle.std.specs.Prelude.{◌≡◌, ℕ, zero, suc, List, [], ◌∷◌, length, Option, Some, None, Result, Ok, Err, Bool, ◌<◌}
use Rattle.std.specs.Prelude.{IfOk, if◌then◌else◌}
use denote.Ref.{Bor}
use Rattle.il_model.specs.declared.dialect.Dialect.{Dialect}
use Rattle.il_reader.specs.declared.fault.FaultAt.{FaultAt}
use Rattle.il_reader.specs.declared.fault.Failure.{Failure}
use Rattle.il_reader.specs.declared.fault.Failure.TheVariants as failures
use Rattle.il_reader.specs.declared.lexeme.Sign.{Sign}
use Rattle.il_reader.specs.Tokens.{Token, tokens_of}
use Rattle.il_reader.specs.Front.{first, others, fault_at, is_sign, is_word_token, skip_breaks}

infixl 10 ◌>>=◌
abbrev pub ◌>>=◌ : {A B : Type 0} → Result A FaultAt → (A → Result B FaultAt) → Result B FaultAt
(Ok x) >>= f = f x
(Err e) >>= f = Err e

-- what stands at the front of a list of tokens, and the tokens behind it, or the first fault
abbrev pub Reading : Type 0 → Type 0
Reading X = List Token → Result (X × List Token) FaultAt

-- What a function returned, seen by view, is what reading gives, unless memory ran out.
abbrev pub Fails : {Y : Type 0} → Failure → Result Y FaultAt → Type 0
Fails failures.Memory read = Unit {0}
Fails (failures.Refused f) read = read ≡ Err f

abbrev pub Gives : {X Y : Type 0} → (X → Y) → Result X Failure → Result Y FaultAt → Type 0
Gives view (Ok x) read = read ≡ Ok (view x)
Gives view (Err e) read = Fails e read

-- this sign, and what follows it
unfoldable pub expect : Sign → Reading Token
expect s ts = if is_sign s (first ts) then Ok (first ts, others ts) else Err (fault_at (first ts))

-- As many of them as there are before it stops, and so many at most.
unfoldable pub many_within : {X : Type 0} → (List Token → Bool) → Reading X → ℕ → Reading (List X)
many_within stops item zero ts = Err (fault_at (first ts))
many_within stops item (suc n) ts =
    if stops ts then Ok ([], ts) else item ts >>= λ x. many_within stops item n x.1 >>= λ xs. Ok (x.0 ∷ xs.0, xs.1)

-- As many of them as there are before it stops: each takes a token, so there are no more of them than tokens.
unfoldable pub many : {X : Type 0} → (List Token → Bool) → Reading X → Reading (List X)
many stops item ts = many_within stops item (suc (length ts)) ts

-- How readings are put together.

-- What a function took off the front of a text, seen by view, is what the reading takes of its tokens, and what it left
-- are those that follow.
abbrev pub Takes : Dialect → {X Y : Type 0} → (X → Y) → Reading Y → List ℕ → Result (X × Bor (List ℕ)) Failure
    → Type 0
Takes dialect view reading bytes result =
    Gives (λ x. (view x.0, tokens_of dialect x.1.now)) result (reading (tokens_of dialect bytes))

-- the same of what only has to stand there
abbrev pub Passes : Dialect → Reading (Unit {0}) → List ℕ → Result (Bor (List ℕ)) Failure → Type 0
Passes dialect reading bytes result =
    Gives (λ x. (tt, tokens_of dialect x.now)) result (reading (tokens_of dialect bytes))

-- it left fewer tokens than there were
abbrev pub LeavesFewer : Dialect → {X : Type 0} → List ℕ → Result (X × Bor (List ℕ)) Failure → Type 0
LeavesFewer dialect bytes result =
    IfOk result (λ x. length (tokens_of dialect x.1.now) < length (tokens_of dialect bytes))

abbrev pub both : {X Y : Type 0} → X → Y → X × Y
both x y = (x, y)

-- the one and then the other
abbrev pub pair : {X Y : Type 0} → Reading X → Reading Y → Reading (X × Y)
pair a b ts = a ts >>= λ x. b x.1 >>= λ y. Ok (both x.0 y.0, y.1)

-- this behind a mark
abbrev pub led : {X : Type 0} → Reading (Unit {0}) → Reading X → Reading X
led m a ts = m ts >>= λ u. a u.1

-- this, and a mark behind it
abbrev pub closed : {X : Type 0} → Reading X → Reading (Unit {0}) → Reading X
closed a m ts = a ts >>= λ x. m x.1 >>= λ u. Ok (x.0, u.1)

abbrev pub mapped : {X Y : Type 0} → (X → Y) → Reading X → Reading Y
mapped f a ts = a ts >>= λ x. Ok (f x.0, x.1)

-- by what stands next, the one or the other
abbrev pub choice : {X : Type 0} → (List Token → Bool) → Reading X → Reading X → Reading X
choice p a b ts = if p ts then a ts else b ts

-- behind any number of line ends
abbrev pub past : {X : Type 0} → Reading X → Reading X
past a ts = a (skip_breaks ts)

-- a token that says nothing but that it stands there
abbrev pub mark : {X : Type 0} → Reading X → Reading (Unit {0})
mark a ts = a ts >>= λ x. Ok (tt, x.1)

-- nothing is taken, where this stands next
abbrev pub stand : {X : Type 0} → (List Token → Bool) → X → Reading X
stand p x ts = if p ts then Ok (x, ts) else Err (fault_at (first ts))

-- the rest, where the keyword stands
unfoldable pub keyword : List ℕ → Reading (Unit {0})
keyword w ts = if is_word_token w (first ts) then Ok (tt, others ts) else Err (fault_at (first ts))

abbrev pub meant : {A : Type 0} → Option A → Reading A
meant None ts = Err (fault_at (first ts))
meant (Some x) ts = Ok (x, others ts)

-- what a token means, where it means something here
abbrev pub meaning : {A : Type 0} → (Token → Option A) → Reading A
meaning f ts = meant (f (first ts)) ts
