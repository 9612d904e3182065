-- Other records have other texts, and other challenges other terms.
use Rattle.std.proofs.Common.{◌≡◌, ℕ, ◌+◌, ◌^◌, ◌<◌, List, ◌∷◌, ◌++◌, length, take, drop, refl, sym, ap, ◌∙◌, arith, length-append}
use Rattle.std.specs.Int.{w64, to_be_bytes, from_be_bytes}
use Rattle.std.proofs.lemmas.List.{take_at, drop_at}
use Rattle.std.proofs.lemmas.Nat.{from_be_bytes-to_be_bytes_8}
use Rattle.net_keys.specs.Challenges.{FitsChallenge, challenge_bytes, said_bytes, front}
use Rattle.net_keys.specs.Sealing.{side_byte, text_of}
use Rattle.net_keys.specs.Meeting.{terms_of}
use Rattle.net_keys.specs.Forging.{AreTold}
use Rattle.net_keys.specs.declared.challenge.Challenge.{Challenge}
use Rattle.net_keys.specs.declared.sealing.Side.{Side}
use Rattle.net_keys.specs.declared.sealing.Side.TheVariants.{Dialler, Listener}

-- both fronts and what is behind them, where the fronts are as long
pub fronts : (x y rest other : List ℕ) (n : ℕ) → length x ≡ n → length y ≡ n → x ++ rest ≡ y ++ other → (x ≡ y) × (rest ≡ other)
fronts x y rest other n a b e = (sym (take_at x rest n a) ∙ (ap (take n) e ∙ take_at y other n b), sym (drop_at x rest n a) ∙ (ap (drop n) e ∙ drop_at y other n b))

heads : (x y : ℕ) (xs ys : List ℕ) → x ∷ xs ≡ y ∷ ys → (x ≡ y) × (xs ≡ ys)
heads x y xs ys e = (cc, cc)

of_eight : (x y : ℕ) → x < 2 ^ 64 → y < 2 ^ 64 → to_be_bytes w64 x ≡ to_be_bytes w64 y → x ≡ y
of_eight x y lt lt' e = sym (from_be_bytes-to_be_bytes_8 x lt) ∙ (ap (from_be_bytes w64) e ∙ from_be_bytes-to_be_bytes_8 y lt')

same_side : (s t : Side) → side_byte s ≡ side_byte t → s ≡ t
same_side Dialler Dialler e = refl
same_side Listener Listener e = refl
same_side Dialler Listener e = absurd (omega arith)
same_side Listener Dialler e = absurd (omega arith)

pub record_told : (s t : Side) (n m : ℕ) (b d : List ℕ) → n < 2 ^ 64 → m < 2 ^ 64 → text_of s n b ≡ text_of t m d → (s ≡ t) × (n ≡ m) × (b ≡ d)
record_told s t n m b d lt lt' e =
    let one = heads (side_byte s) (side_byte t) (to_be_bytes w64 n ++ b) (to_be_bytes w64 m ++ d) e in
    let two = fronts (to_be_bytes w64 n) (to_be_bytes w64 m) b d 8 refl refl one.1 in
    (same_side s t one.0, of_eight n m lt lt' two.0, two.1)

same_challenge : (a b : Challenge) → a.from ≡ b.from → a.to ≡ b.to → a.key ≡ b.key → a.nonce ≡ b.nonce → a ≡ b
same_challenge a b p q r s = λ i. record { from = p i; to = q i; key = r i; nonce = s i }

challenge_told : (a b : Challenge) → FitsChallenge a → FitsChallenge b → challenge_bytes a ≡ challenge_bytes b → a ≡ b
challenge_told a b fits fits' e =
    let one = fronts front front (said_bytes a) (said_bytes b) 8 refl refl e in
    let two = heads a.from b.from (a.to ∷ (a.key ++ a.nonce)) (b.to ∷ (b.key ++ b.nonce)) one.1 in
    let three = heads a.to b.to (a.key ++ a.nonce) (b.key ++ b.nonce) two.1 in
    let four = fronts a.key b.key a.nonce b.nonce 8 fits.key fits'.key three.1 in
    same_challenge a b two.0 three.0 four.0 four.1

pub length-challenge : (c : Challenge) → FitsChallenge c → length (challenge_bytes c) ≡ 50
length-challenge c fits = omega (arith, length-append c.key c.nonce, fits.key, fits.nonce)

pub connection_told : (d l d' l' : Challenge) → FitsChallenge d → FitsChallenge l → FitsChallenge d' → FitsChallenge l' → terms_of d l ≡ terms_of d' l' → (d ≡ d') × (l ≡ l')
connection_told d l d' l' fd fl fd' fl' e =
    let both = fronts (challenge_bytes d) (challenge_bytes d') (challenge_bytes l) (challenge_bytes l') 50 (length-challenge d fd) (length-challenge d' fd') e in
    (challenge_told d d' fd fd' both.0, challenge_told l l' fl fl' both.1)

pub are_told : AreTold
are_told = record { records = record_told; connections = connection_told }
