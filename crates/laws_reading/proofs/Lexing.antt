-- The tokens of an expansion's pieces, one by one.
use Rattle.std.proofs.Common.{◌≡◌, ℕ, ◌<◌, List, [], ◌∷◌, ◌++◌, length, refl, sym, ap, ◌∙◌, subst, arith, append_assoc, codes}
use Rattle.std.proofs.Math.Seq.{take-append_seam, drop-append_seam}
use Rattle.il_model.specs.declared.dialect.Dialect.TheVariants as dialects
use Rattle.il_reader.specs.declared.lexeme.Sign.{Sign}
use Rattle.il_reader.specs.declared.lexeme.Sign.TheVariants as signs
use Rattle.il_reader.specs.declared.lexeme.Class.{Class}
use Rattle.il_reader.specs.declared.lexeme.Class.TheVariants as classes
use Rattle.il_reader.specs.Tokens.{Token, sign, piece_of, tokens_behind, tokens_of}
use Rattle.il_reader.specs.Front.{first}
use Rattle.il_reader.proofs.Tokens.{gives}
use Rattle.il_units.specs.declared.word.Word.{Word}
use Rattle.il_units.specs.Expansion as expansions
use Rattle.il_units.specs.Expansion.{Piece, line_end, text_of_pieces}
use Rattle.laws_reading.specs.Words.{IsOneToken, Is}
use Rattle.laws_reading.specs.Lines.{word_token}

-- a token of a sign, with so many bytes from it on
abbrev pub tok : Sign → List ℕ → ℕ → Token
tok s text left = record { class = classes.Sign s; text = text; left = left }

-- the tokens of pieces
abbrev pub tokens : List Piece → List Token
tokens ps = tokens_of dialects.Extended (text_of_pieces ps)

some_first : (text : List ℕ) (b : ℕ) (bs : List ℕ) → text ≡ b ∷ bs → 0 < length text
some_first text b bs e = subst (λ (t : List ℕ). 0 < length t) (sym e) (omega arith)

one_token : (s : Sign) (w rest : List ℕ) → 0 < length w → piece_of dialects.Extended (w ++ rest) ≡ sign s (length w) → tokens_of dialects.Extended (w ++ rest) ≡ tok s w (length (w ++ rest)) ∷ tokens_of dialects.Extended rest
one_token s w rest more e =
    gives dialects.Extended (w ++ rest) w rest (sign s (length w)) (classes.Sign s) (sym e) (λ any. more) refl (sym (take-append_seam w rest)) (sym (drop-append_seam w rest))

blank_skips : (rest : List ℕ) → tokens_of dialects.Extended (32 ∷ rest) ≡ tokens_of dialects.Extended rest
unfolding tokens_behind piece_of
blank_skips rest = refl

lexed : (s : Sign) (w rest : List ℕ) → IsOneToken w s → tokens_of dialects.Extended ((w ++ codes " ") ++ rest) ≡ tok s w (length (w ++ 32 ∷ rest)) ∷ tokens_of dialects.Extended rest
lexed s w rest is =
    ap (tokens_of dialects.Extended) (append_assoc w (codes " ") rest)
    ∙ one_token s w (32 ∷ rest) (some_first w is.first is.others is.parts) (is.piece rest)
    ∙ ap (λ (ts : List Token). tok s w (length (w ++ 32 ∷ rest)) ∷ ts) (blank_skips rest)

abbrev pub Begins : Sign → List ℕ → List Token → List Token → Type 0
Begins s text ts rest = (left : ℕ) × (ts ≡ tok s text left ∷ rest)

-- a word, and what follows it
pub word_lexed : (s : Sign) (w : Word) (ps : List Piece) → Is s w → Begins s w.text (tokens (expansions.piece_of w ∷ ps)) (tokens ps)
word_lexed s w ps is = (length (w.text ++ 32 ∷ text_of_pieces ps), lexed s w.text (text_of_pieces ps) is)

pub end_lexed : (left : ℕ) (ps : List Piece) → Begins signs.Break (10 ∷ []) (tokens (line_end left ∷ ps)) (tokens ps)
unfolding tokens_behind piece_of
end_lexed left ps = (length (10 ∷ text_of_pieces ps), refl)

-- the word by itself
class_of : (ts : List Token) (s : Sign) (text : List ℕ) (left : ℕ) (rest : List Token) → ts ≡ tok s text left ∷ rest → (first ts).class ≡ classes.Sign s
class_of ts s text left rest e = ap (λ (us : List Token). (first us).class) e

alone : (w : List ℕ) (s : Sign) → IsOneToken w s → tokens_of dialects.Extended (w ++ codes " ") ≡ tok s w (length (w ++ 32 ∷ [])) ∷ tokens_of dialects.Extended []
alone w s is =
    one_token s w (32 ∷ []) (some_first w is.first is.others is.parts) (is.piece [])
    ∙ ap (λ (ts : List Token). tok s w (length (w ++ 32 ∷ [])) ∷ ts) (blank_skips [])

pub token_is : (s : Sign) (w : Word) → Is s w → word_token w ≡ tok s w.text 0
token_is s w is = ap (λ (c : Class). record { class = c; text = w.text; left = 0 }) (class_of _ s w.text _ _ (alone w.text s is))
