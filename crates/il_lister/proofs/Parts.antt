-- A text that is written in parts.
use Rattle.std.proofs.Common.{◌≡◌, ◌+◌, ◌<◌, ◌≤◌, ℕ, suc, List, [], ◌∷◌, ◌++◌, take, drop, length, get_or, min, Result, Ok, Err, IsErr, subst, sym, ap, ◌∙◌, add-one, append-nil, drop-cons, arith}
use Rattle.std.proofs.lemmas.Bool.{false≢true}
use Rattle.std.proofs.KnownBytes.{Appends-trans}
use Rattle.std.proofs.lemmas.List.{take_min, take-append-le, take-append-drop}
use Rattle.std.proofs.lemmas.Grind.{flat_map-append}
use Rattle.std.proofs.Math.Seq.{take-suc, take-append-add}
use Rattle.std.specs.List.{flat_map}
use Rattle.io_model.specs.Streams.{Failed}
use Rattle.io_model.specs.declared.counted.CountedWrite.{Ghosts as CountedWriter}
use Rattle.il_lister.specs.declared.fault.ListFault.{ListFault}
use Rattle.il_lister.specs.Writing.{Writes}

take_front : (n : ℕ) (a b : List ℕ) → take (min n (length a)) (a ++ b) ≡ take n a
take_front n a b = take-append-le (min n (length a)) a b (omega arith) ∙ take_min n a

Failed-later : (a b c : ℕ) → a ≤ b → b ≤ c → Failed b c → Failed a c
Failed-later a b c le up h = grind arith

-- an equal text
pub equally : {W : Type 0} {w : CountedWriter W} {a b : List ℕ} {s t : W} {r : Result (Unit {0}) ListFault} → a ≡ b → Writes w a s t r → Writes w b s t r
equally {w = w} {s = s} {t = t} {r = r} e h = subst (λ (text : List ℕ). Writes w text s t r) e h

-- a beginning of the first part is one of the whole; an error that `?` hands on is an error
pub stop : {W : Type 0} {w : CountedWriter W} {a : List ℕ} (b : List ℕ) {s t : W} {e : ListFault} {r : Result (Unit {0}) ListFault} → IsErr r → Writes w a s t (Err e) → Writes w (a ++ b) s t r
stop b {r = Ok x} wrong h = absurd (false≢true wrong)
stop {w = w} {a = a} b {s = s} {t = t} {r = Err f} was h = record {
  sent = (min h.sent.0 (length a), rw (take_front h.sent.0 a b) h.sent.1);
  device = h.device;
  counts = h.counts;
}

-- all of the first part, and then what was written of the second
pub then : {W : Type 0} {w : CountedWriter W} {a b : List ℕ} {s t u : W} {x : Unit {0}} {r : Result (Unit {0}) ListFault} → Writes w a s t (Ok x) → Writes w b t u r → Writes w (a ++ b) s u r
then {w = w} {a = a} {b = b} {s = s} {t = t} {u = u} {r = Ok y} h k = record {
  sent = Appends-trans (w.held s) (w.held t) (w.held u) a b h.sent k.sent;
  device = tt;
  counts = omega arith;
}
then {w = w} {a = a} {b = b} {s = s} {t = t} {u = u} {r = Err e} h k = record {
  sent = (length a + k.sent.0, rw (take-append-add a b k.sent.0) (Appends-trans (w.held s) (w.held t) (w.held u) a (take k.sent.0 b) h.sent k.sent.1));
  device = Failed-later (w.faults s) (w.faults t) (w.faults u) h.counts k.counts k.device;
  counts = omega arith;
}

-- ---- the texts of items in order

texts_at : {X : Type 0} (f : X → List ℕ) (xs : List X) (i : ℕ) (x : X) → i < length xs → x ≡ get_or xs i x → flat_map f (take (i + 1) xs) ≡ flat_map f (take i xs) ++ f x
texts_at {X = X} f xs i x lt is =
    let one : take (i + 1) xs ≡ take i xs ++ x ∷ [] = rw add-one (take-suc xs i x lt ∙ ap (λ (y : X). take i xs ++ y ∷ []) (sym is)) in
    ap (flat_map f) one ∙ flat_map-append f (take i xs) (x ∷ []) ∙ ap (λ (l : List ℕ). flat_map f (take i xs) ++ l) (append-nil (f x))

texts_around : {X : Type 0} (f : X → List ℕ) (xs : List X) (i : ℕ) (x : X) → i < length xs → x ≡ get_or xs i x → flat_map f xs ≡ flat_map f (take i xs) ++ (f x ++ flat_map f (drop (i + 1) xs))
texts_around {X = X} f xs i x lt is =
    let rest : drop i xs ≡ x ∷ drop (i + 1) xs = rw add-one (drop-cons xs i x lt ∙ ap (λ (y : X). y ∷ drop (suc i) xs) (sym is)) in
    ap (flat_map f) (sym (take-append-drop i xs) ∙ ap (λ (l : List X). take i xs ++ l) rest) ∙ flat_map-append f (take i xs) (x ∷ drop (i + 1) xs)

-- one item more
pub more : {W X : Type 0} {w : CountedWriter W} {s t u : W} {y : Unit {0}} (f : X → List ℕ) (xs : List X) (i : ℕ) (x : X) → i < length xs → x ≡ get_or xs i x
    → Writes w (flat_map f (take i xs)) s t (Ok tt) → Writes w (f x) t u (Ok y) → Writes w (flat_map f (take (i + 1) xs)) s u (Ok tt)
more f xs i x lt is h k = equally (sym (texts_at f xs i x lt is)) (then h k)

-- an item that doesn't go out whole
pub breaks : {W X : Type 0} {w : CountedWriter W} {s t u : W} {e : ListFault} {r : Result (Unit {0}) ListFault} (f : X → List ℕ) (xs : List X) (i : ℕ) (x : X) → i < length xs → x ≡ get_or xs i x
    → Writes w (flat_map f (take i xs)) s t (Ok tt) → IsErr r → Writes w (f x) t u (Err e) → Writes w (flat_map f xs) s u r
breaks f xs i x lt is h was k = equally (sym (texts_around f xs i x lt is)) (then h (stop _ was k))
