-- What is spelled is read, and nothing else.
use Rattle.std.proofs.Common.{◌≡◌, ℕ, Bool, true, List, [], ◌∷◌, ◌++◌, length, take, drop, Ok, Err, Result, sym, ap, ◌∙◌, arith, length-drop}
use Rattle.std.specs.List.{starts_with}
use Rattle.std.specs.Prelude.{nat_eq}
use Rattle.std.specs.Prelude.{if◌then◌else◌}
use Rattle.std.proofs.lemmas.List.{take_at, drop_at, take-append-drop}
use Rattle.std.proofs.lemmas.Bool.Decides.{Decides-eqb}
use Rattle.std.proofs.lemmas.Slice.Eq.{starts_is}
use Rattle.net_keys.specs.Challenges.{FitsChallenge, challenge_bytes, challenge_in, fault_of, front, said_bytes, said_in}
use Rattle.net_keys.specs.declared.challenge.Challenge.{Challenge}
use Rattle.net_keys.specs.declared.challenge.ChallengeFault.{ChallengeFault}

-- what is read is spelled so
pub told_back : (said : List ℕ) → length said ≡ 42 → said_bytes (said_in said) ≡ said
told_back [] e = absurd (omega arith)
told_back (a ∷ []) e = absurd (omega arith)
told_back (a ∷ b ∷ rest) e = ap (λ (x : List ℕ). a ∷ b ∷ x) (take-append-drop 8 rest)

pub said_back : (c : Challenge) → FitsChallenge c → said_in (said_bytes c) ≡ c
said_back c fits =
    let key : take 8 (c.key ++ c.nonce) ≡ c.key = take_at c.key c.nonce 8 fits.key in
    let nonce : drop 8 (c.key ++ c.nonce) ≡ c.nonce = drop_at c.key c.nonce 8 fits.key in
    λ i. record { from = c.from; to = c.to; key = key i; nonce = nonce i }

pub challenge_back : (c : Challenge) → FitsChallenge c → (bytes : List ℕ) → bytes ≡ challenge_bytes c → challenge_in bytes ≡ Ok c
challenge_back c fits bytes e = ap challenge_in e ∙ ap Ok (said_back c fits)

-- bytes that begin as a challenge does are taken for one
pub taken : (bytes : List ℕ) (is : Bool) (c : Challenge) → is ≡ starts_with nat_eq bytes front → is ≡ true → c ≡ said_in (drop 8 bytes) → Ok c ≡ challenge_in bytes
taken bytes is c e t s = ap Ok s ∙ sym (ap (λ (b : Bool). if b then Ok (said_in (drop 8 bytes)) else Err (fault_of bytes)) (sym e ∙ t))

-- and they are spelled so
pub found : (bytes : List ℕ) (is : Bool) (c : Challenge) → length bytes ≡ 50 → is ≡ starts_with nat_eq bytes front → is ≡ true → c ≡ said_in (drop 8 bytes) → bytes ≡ challenge_bytes c
found bytes is c fifty e t s =
    let begins : bytes ≡ front ++ drop 8 bytes = (starts_is Decides-eqb bytes front is e).0 t in
    let rest : length (drop 8 bytes) ≡ 42 = omega (arith, length-drop 8 bytes) in
    begins ∙ ap (λ (x : List ℕ). front ++ x) (sym (told_back (drop 8 bytes) rest) ∙ ap said_bytes (sym s))

pub only : (bytes : List ℕ) (is : Bool) (c : Challenge) → is ≡ starts_with nat_eq bytes front → is ≡ true → c ≡ said_in (drop 8 bytes) → (d : Challenge) → FitsChallenge d → bytes ≡ challenge_bytes d → ◌≡◌ {A = Result Challenge ChallengeFault} (Ok c) (Ok d)
only bytes is c e t s d fits same = taken bytes is c e t s ∙ challenge_back d fits bytes same
