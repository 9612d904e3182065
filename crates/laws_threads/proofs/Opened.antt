-- A store that was just opened starts as one that knows what its file has.
use Rattle.std.proofs.Common.{◌≡◌, ◌==◌, ℕ, Bool, true, false, Some, sym, ap, ◌∙◌}
use Rattle.std.specs.Prelude.{MatchBool}
use Rattle.std.proofs.lemmas.Bool.{eq-eqb}
use Rattle.vr_model.specs.declared.event.Stored.{Stored}
use Rattle.vr_threads.specs.declared.file_store.Held.{Held}
use Rattle.vr_threads.specs.declared.file_store.Held.TheVariants.{Unknown, One, OneOf}
use Rattle.vr_threads.specs.Keeping.{MayHold, started, Rose, CountsStart}

abbrev what : Held → Stored → Stored
what Unknown other = other
what (One a) other = a
what (OneOf a b) other = other

one_is : (t : Held) (a b : Stored) → t ≡ One a → t ≡ One b → a ≡ b
one_is t a b p q = ap (λ (h : Held). what h a) (sym p ∙ q)

-- it counted on from a value that the file had
pub counted : (h had left : Held) (was stored : Stored) → MayHold had was → left ≡ One (started was) → CountsStart h (Some stored) left → CountsStart had (Some stored) left
counted h had left was stored may is c = (was, may, one_is left stored (started was) c.3 is, c.3)

-- the first start of a process
pub first_counted : (h had left : Held) (was stored : Stored) (w u before : ℕ) (Other Another : Type 0) → MayHold had was → left ≡ One (started was) → before ≡ 0
    → MatchBool (before == 0) (CountsStart h (Some stored) left × Rose w u) Other → MatchBool (before == 0) (CountsStart had (Some stored) left × Rose w u) Another
first_counted h had left was stored w u before Other Another may is none m = of (before == 0) (eq-eqb before 0 none) m
  where
    of : (b : Bool) → b ≡ true → MatchBool b (CountsStart h (Some stored) left × Rose w u) Other → MatchBool b (CountsStart had (Some stored) left × Rose w u) Another
    of true e x = (counted h had left was stored may is x.0, x.1)
    of false e x = absurd (let wrong : false ≡ true = e in cc)
