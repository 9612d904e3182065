-- Which bytes are the spelling of no event.
use Rattle.std.proofs.Common.{◌≡◌, ℕ, ◌<◌, List, [], ◌∷◌, length, refl, sym, ap, ◌∙◌, arith, ◌⊎◌, inl, inr}
use Rattle.vr_model.specs.declared.event.Event.{Event}
use Rattle.vr_model.specs.declared.event.Event.TheVariants.{Message, Timeout, Resend, Restart}
use Rattle.vr_model.specs.declared.message.Message as sent
use Rattle.vr_wire.specs.Frames.{frame_of, IsFramed}
use Rattle.vr_kept.specs.Inputs.{IsKept, IsOf, IsOfNone, IsFrame, IsNoFrame, input_bytes}

-- lists that begin alike
first_same : (x y : ℕ) (xs ys : List ℕ) → x ∷ xs ≡ y ∷ ys → x ≡ y
first_same x y xs ys e = cc

pub rest_same : (x y : ℕ) (xs ys : List ℕ) → x ∷ xs ≡ y ∷ ys → xs ≡ ys
rest_same x y xs ys e = cc

-- and lists that don't
pub smaller_first : (x y : ℕ) (xs ys : List ℕ) → x < y → x ∷ xs ≡ y ∷ ys → ⊥
smaller_first x y xs ys lt e = let same : x ≡ y = first_same x y xs ys e in absurd (omega arith)

pub greater_first : (x y : ℕ) (xs ys : List ℕ) → y < x → x ∷ xs ≡ y ∷ ys → ⊥
greater_first x y xs ys lt e = let same : x ≡ y = first_same x y xs ys e in absurd (omega arith)

some_nothing : (x : ℕ) (xs : List ℕ) → x ∷ xs ≡ [] → ⊥
some_nothing x xs e = cc

pub of_nothing : IsOfNone []
of_nothing (Message m) h = some_nothing 0 (frame_of m) h.bytes_are
of_nothing Timeout h = some_nothing 1 [] h.bytes_are
of_nothing Resend h = some_nothing 2 [] h.bytes_are
of_nothing (Restart nonce) h = h.kept

pub of_message : (rest : List ℕ) (m : sent.Message) → IsFrame rest m → IsOf (0 ∷ rest) (Message m)
of_message rest m f = record { kept = f.framed; bytes_are = ap (λ (xs : List ℕ). 0 ∷ xs) f.bytes_are }

pub of_no_message : (rest : List ℕ) → IsNoFrame rest → IsOfNone (0 ∷ rest)
of_no_message rest none (Message m) h = none m (record { framed = h.kept; bytes_are = rest_same 0 0 (frame_of m) rest h.bytes_are })
of_no_message rest none Timeout h = greater_first 1 0 [] rest (omega arith) h.bytes_are
of_no_message rest none Resend h = greater_first 2 0 [] rest (omega arith) h.bytes_are
of_no_message rest none (Restart nonce) h = h.kept

pub of_longer : (tag : ℕ) (rest : List ℕ) → (tag ≡ 0 → ⊥) → (rest ≡ [] → ⊥) → IsOfNone (tag ∷ rest)
of_longer tag rest other more (Message m) h = other (sym (first_same 0 tag (frame_of m) rest h.bytes_are))
of_longer tag rest other more Timeout h = more (sym (rest_same 1 tag [] rest h.bytes_are))
of_longer tag rest other more Resend h = more (sym (rest_same 2 tag [] rest h.bytes_are))
of_longer tag rest other more (Restart nonce) h = h.kept

pub of_no_tag : (tag : ℕ) → (tag ≡ 0 → ⊥) → (tag ≡ 1 → ⊥) → (tag ≡ 2 → ⊥) → IsOfNone (tag ∷ [])
of_no_tag tag a b c (Message m) h = a (sym (first_same 0 tag (frame_of m) [] h.bytes_are))
of_no_tag tag a b c Timeout h = b (sym (first_same 1 tag [] [] h.bytes_are))
of_no_tag tag a b c Resend h = c (sym (first_same 2 tag [] [] h.bytes_are))
of_no_tag tag a b c (Restart nonce) h = h.kept
