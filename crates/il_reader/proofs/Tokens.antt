-- The tokens of a text, one after the other.
use Rattle.std.proofs.Common.{◌≡◌, ℕ, zero, suc, ◌+◌, ◌-◌, ◌<◌, List, [], ◌∷◌, length, take, drop, Option, Some, None, refl, ap, arith, ◌∙◌, sym, subst}
use Rattle.il_model.specs.declared.dialect.Dialect.{Dialect}
use Rattle.il_reader.specs.declared.lexeme.Piece.{Piece}
use Rattle.il_reader.specs.declared.lexeme.Class.{Class}
use Rattle.il_reader.specs.Tokens.{add_len, Token, put, piece_of, tokens_behind, tokens_of, after}

pub one_more : (n : ℕ) (o : Option ℕ) → add_len (n + 1) o ≡ add_len n (add_len 1 o)
one_more n None = refl
one_more n (Some m) = ap (λ (k : ℕ). Some k) (omega arith)

pub behind : (dialect : Dialect) → (k : ℕ) (bytes : List ℕ) → tokens_behind dialect k bytes ≡ tokens_of dialect (drop k bytes)
unfolding tokens_behind
behind dialect zero bytes = refl
behind dialect (suc k) [] = refl
behind dialect (suc k) (b ∷ bs) = behind dialect k bs

-- the first piece of these, and the tokens that follow it
abbrev pub parted : (dialect : Dialect) → Piece → List ℕ → List Token
parted dialect p bytes = put p.class (take p.len bytes) (length bytes) (tokens_of dialect (drop p.len bytes))

stepped-nil : (dialect : Dialect) → tokens_of dialect [] ≡ parted dialect (piece_of dialect []) []
unfolding tokens_behind piece_of
stepped-nil dialect = refl

stepped-cons : (dialect : Dialect) → (b : ℕ) (bs : List ℕ) → 0 < (piece_of dialect (b ∷ bs)).len → tokens_of dialect (b ∷ bs) ≡ parted dialect (piece_of dialect (b ∷ bs)) (b ∷ bs)
unfolding tokens_behind
stepped-cons dialect b bs moves =
    let p = piece_of dialect (b ∷ bs) in
    let n = p.len in
    let e : suc (n - 1) ≡ n = omega arith in
    ap (λ (ts : List Token). put p.class (take n (b ∷ bs)) (length (b ∷ bs)) ts) (behind dialect (n - 1) bs ∙ ap (λ (k : ℕ). (tokens_of dialect) (drop k (b ∷ bs))) e)

-- a text is its first piece and what follows it
pub stepped : (dialect : Dialect) → (bytes : List ℕ) → (0 < length bytes → 0 < (piece_of dialect bytes).len) → tokens_of dialect bytes ≡ parted dialect (piece_of dialect bytes) bytes
stepped dialect [] moves = stepped-nil dialect
stepped dialect (b ∷ bs) moves = stepped-cons dialect b bs (moves (omega arith))

pub stepped-at : (dialect : Dialect) → (bytes : List ℕ) (p : Piece) → p ≡ piece_of dialect bytes → (0 < length bytes → 0 < p.len) → tokens_of dialect bytes ≡ parted dialect p bytes
stepped-at dialect bytes p e =
    let P : Piece → Type 0 = λ q. (0 < length bytes → 0 < q.len) → tokens_of dialect bytes ≡ parted dialect q bytes in
    subst P (sym e) (stepped dialect bytes)

pub skips : (dialect : Dialect) → (bytes others : List ℕ) (p : Piece) → p ≡ piece_of dialect bytes → (0 < length bytes → 0 < p.len) → p.class ≡ None → others ≡ drop p.len bytes → tokens_of dialect others ≡ tokens_of dialect bytes
skips dialect bytes others p e moves blank rest =
    sym (stepped-at dialect bytes p e moves ∙ rw (blank, ← rest) refl)

pub gives : (dialect : Dialect) → (bytes text others : List ℕ) (p : Piece) (c : Class) → p ≡ piece_of dialect bytes → (0 < length bytes → 0 < p.len) → p.class ≡ Some c → text ≡ take p.len bytes → others ≡ drop p.len bytes
    → tokens_of dialect bytes ≡ record { class = c; text = text; left = length bytes } ∷ after c (tokens_of dialect others)
gives dialect bytes text others p c e moves is front rest =
    stepped-at dialect bytes p e moves ∙ rw (is, ← front, ← rest) refl
