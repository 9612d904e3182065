-- What the walk over a text of units gives is what the text says, and the other way round.
use Rattle.std.proofs.Common.{◌≡◌, ℕ, ◌≤◌, Bool, true, false, cond, List, [], ◌∷◌, ◌++◌, length, Result, Ok, Err, refl, sym, ap, subst, ◌∙◌}
use Rattle.std.specs.Prelude.{nat_lt, IfOk}
use Rattle.std.proofs.lemmas.Bool.{le-ltb, ltb-false}
use Rattle.il_model.specs.declared.dialect.Dialect.TheVariants as dialects
use Rattle.il_reader.specs.declared.source.TheConstants.{EXTENDED_TEXT_LIMIT}
use Rattle.il_reader.specs.declared.fault.FaultAt.{FaultAt}
use Rattle.il_reader.specs.declared.fault.Fault.{Fault}
use Rattle.il_reader.specs.declared.fault.ReadError.{ReadError}
use Rattle.il_reader.specs.Tokens.{Token, tokens_of}
use Rattle.il_reader.specs.Reading.{Reading, ◌>>=◌, both, pair, closed, past, many}
use Rattle.il_reader.specs.Grammar.{begins_program}
use Rattle.il_reader.specs.Walk.{end_at}
use Rattle.il_reader.specs.Texts.{placed, too_long}
use Rattle.il_reader.proofs.Laws.{bind_ok, ok_is}
use Rattle.il_units.specs.Units.{UnitText, UnitsText}
use Rattle.il_units.specs.Spelling.{SaysUnits}
use Rattle.il_units.specs.Walk.{unit_at, put_last, units_at, units_of, told, read_units}
use Rattle.il_units.specs.Reading.{Answers, IsGiven}
use Rattle.il_units.proofs.Grammar.{units_law}

-- the units up to the program, and the program
abbrev parted_at : Reading (List UnitText × UnitText)
parted_at = pair (many begins_program (unit_at dialects.Extended)) (closed (unit_at dialects.Extended) (past end_at))

abbrev as_read : List UnitText → Result (List UnitText) FaultAt
as_read us = Ok us

-- ---- what is read is said

units_said : (bytes : List ℕ) (us : List UnitText) → length bytes ≤ EXTENDED_TEXT_LIMIT → units_of bytes ≡ Ok us → SaysUnits bytes us
unfolding units_of units_at
units_said bytes us short e =
    let ts : List Token = tokens_of dialects.Extended bytes in
    let m = bind_ok (units_at dialects.Extended ts) (λ x. Ok x.0) us e in
    let n = bind_ok (parted_at ts) (λ x. Ok (put_last x.0, x.1)) m.0 m.1 in
    let made : List UnitText × List Token = (put_last n.0.0, n.0.1) in
    let all : n.0.0.0 ++ n.0.0.1 ∷ [] ≡ us = ap (λ (x : List UnitText × List Token). x.0) (ok_is made m.0 n.2) ∙ ok_is m.0.0 us m.2 in
    let g = (units_law dialects.Extended).takes ts n.0 n.1 in
    record { short = short; above = n.0.0.0; program = n.0.0.1; all = sym all; rest = n.0.1; spelled = g.1 }

-- ---- what is said is read

units_read : (bytes : List ℕ) (us : List UnitText) → SaysUnits bytes us → units_of bytes ≡ Ok us
unfolding units_of units_at
units_read bytes us is =
    rw ((units_law dialects.Extended).again (both is.above is.program) (tokens_of dialects.Extended bytes) is.rest (both tt tt) is.spelled) (ap as_read (sym is.all))

-- ---- with the limit of a text

abbrev as_told : List UnitText → Result (List UnitText) Fault
as_told us = Ok us

no_fault : (f : Fault) (us : List UnitText) → (let r : Result (List UnitText) Fault = Err f in r ≡ as_told us) → ⊥
no_fault f us e = absurd cc

told_units : (bytes : List ℕ) (r : Result (List UnitText) FaultAt) (us : List UnitText) → told bytes r ≡ Ok us → r ≡ Ok us
told_units bytes (Ok vs) us e = cc
told_units bytes (Err f) us e = absurd (no_fault (placed bytes f) us e)

pub says_what_is_read : (bytes : List ℕ) (us : List UnitText) → read_units bytes ≡ Ok us → SaysUnits bytes us
says_what_is_read bytes us e = by_length (nat_lt EXTENDED_TEXT_LIMIT (length bytes)) refl
  where
    by_length : (b : Bool) → nat_lt EXTENDED_TEXT_LIMIT (length bytes) ≡ b → SaysUnits bytes us
    by_length true over = absurd (no_fault too_long us (rw over at e))
    by_length false fits = units_said bytes us (ltb-false EXTENDED_TEXT_LIMIT (length bytes) fits) (told_units bytes (units_of bytes) us (rw fits at e))

pub reads_what_is_said : (bytes : List ℕ) (us : List UnitText) → SaysUnits bytes us → read_units bytes ≡ Ok us
reads_what_is_said bytes us is = rw (le-ltb EXTENDED_TEXT_LIMIT (length bytes) is.short) (rw (units_read bytes us is) refl)

-- ---- the clauses of `read`

pub found_by : (bytes : List ℕ) (r : Result UnitsText ReadError) → Answers bytes r (read_units bytes) → IfOk r (λ s. (s.text ≡ bytes) × SaysUnits bytes s.units)
found_by bytes (Ok s) a = (a.0, says_what_is_read bytes s.units a.1)
found_by bytes (Err e) a = tt

pub given_by : (bytes : List ℕ) (r : Result UnitsText ReadError) → Answers bytes r (read_units bytes) → IsGiven bytes r
given_by bytes r a = λ us is. subst (λ (read : Result (List UnitText) Fault). Answers bytes r read) (reads_what_is_said bytes us is) a
