-- A text that is put in parts.
use Rattle.std.proofs.Common.{◌≡◌, ◌+◌, ◌≤◌, ◌⊎◌, inl, inr, ℕ, List, ◌++◌, take, length, min, Result, Ok, Err, refl, subst, sym, ◌∙◌, arith}
use Rattle.std.proofs.KnownBytes.{Appends-nil, Appends-trans}
use Rattle.std.proofs.lemmas.List.{take_min, take-append-le}
use Rattle.std.proofs.Math.Seq.{take-append-add}
use Rattle.std.specs.Result.{IsErrAnd}
use Rattle.io_model.specs.Streams.{Failed}
use Rattle.io_model.specs.declared.counted.CountedWrite.{Ghosts as CountedWriter}
use Rattle.il_text.specs.declared.fault.Fault.{Fault}
use Rattle.il_text.specs.declared.fault.Fault.TheVariants as faults
use Rattle.il_text.specs.Telling.{Puts}

take_front : (n : ℕ) (a b : List ℕ) → take (min n (length a)) (a ++ b) ≡ take n a
take_front n a b = take-append-le (min n (length a)) a b (omega arith) ∙ take_min n a

Failed-later : (a b c : ℕ) → a ≤ b → b ≤ c → Failed b c → Failed a c
Failed-later a b c le up h = grind arith

-- an equal text
pub equally : {W : Type 0} {w : CountedWriter W} {a b : List ℕ} {s t : W} {r : Result (Unit {0}) Fault} → a ≡ b → Puts w a s t r → Puts w b s t r
equally {w = w} {s = s} {t = t} {r = r} e h = subst (λ (text : List ℕ). Puts w text s t r) e h

-- a beginning of the first part is one of the whole
pub stop : {W : Type 0} {w : CountedWriter W} {a : List ℕ} (b : List ℕ) {s t : W} {e : Fault} → Puts w a s t (Err e) → Puts w (a ++ b) s t (Err e)
stop {w = w} {a = a} b {s = s} {t = t} was = record {
  sent = (min was.sent.0 (length a), rw (take_front was.sent.0 a b) was.sent.1);
  why = was.why;
  counts = was.counts;
}

later : {a b c : ℕ} {e : Fault} → a ≤ b → b ≤ c → ((e ≡ faults.Device) × Failed b c) ⊎ (e ≡ faults.Memory) → ((e ≡ faults.Device) × Failed a c) ⊎ (e ≡ faults.Memory)
later {a = a} {b = b} {c = c} le up (inl h) = inl (h.0, Failed-later a b c le up h.1)
later le up (inr h) = inr h

-- all of the first part, and then what was put of the second
pub then : {W : Type 0} {w : CountedWriter W} {a b : List ℕ} {s t u : W} {x : Unit {0}} {r : Result (Unit {0}) Fault} → Puts w a s t (Ok x) → Puts w b t u r → Puts w (a ++ b) s u r
then {w = w} {a = a} {b = b} {s = s} {t = t} {u = u} {r = Ok y} h k = record {
  sent = Appends-trans (w.held s) (w.held t) (w.held u) a b h.sent k.sent;
  why = tt;
  counts = omega arith;
}
then {w = w} {a = a} {b = b} {s = s} {t = t} {u = u} {r = Err e} h k = record {
  sent = (length a + k.sent.0, rw (take-append-add a b k.sent.0) (Appends-trans (w.held s) (w.held t) (w.held u) a (take k.sent.0 b) h.sent k.sent.1));
  why = later h.counts k.counts k.why;
  counts = omega arith;
}

-- nothing was put, since memory ran out
pub unput : {W : Type 0} {w : CountedWriter W} (a : List ℕ) (t : W) → Puts w a t t (Err faults.Memory)
unput {w = w} a t = record { sent = (0, Appends-nil (w.held t)); why = inr refl; counts = omega arith }

-- what `?` hands on
pub handed_on : {W : Type 0} {w : CountedWriter W} {a : List ℕ} {s t : W} {e : Fault} (r : Result (Unit {0}) Fault) → IsErrAnd r (λ x. x ≡ e) → Puts w a s t (Err e) → Puts w a s t r
handed_on (Ok y) wrong h = absurd wrong
handed_on {w = w} {a = a} {s = s} {t = t} (Err f) is h = subst (λ (x : Fault). Puts w a s t (Err x)) (sym is) h
