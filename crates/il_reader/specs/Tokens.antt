-- What stands at the front of a text.
use Rattle.std.specs.Prelude.{ℕ, zero, suc, ◌+◌, ◌-◌, Bool, true, false, ◌&&◌, ◌||◌, List, [], ◌∷◌, length, take, drop}
use Rattle.std.specs.Prelude.{Option, Some, None, is_some, nat_lt, nat_le, ◌==◌, if◌then◌else◌}
use Rattle.std.specs.List.{prefix_len, list_all, list_any}
use Rattle.il_model.specs.declared.dialect.Dialect.{Dialect}
use Rattle.il_model.specs.declared.dialect.Dialect.TheVariants as dialects
use Rattle.il_model.specs.declared.limits.TheConstants.{LONGEST_NAME, LONGEST_DOTTED_NAME}
use Rattle.il_model.specs.Words.{is_well_spelled, name_parts}
use Rattle.il_model.specs.Dialects.{literal_in}
use Rattle.il_reader.specs.declared.fault.FaultKind.TheVariants.{BadByte, BadToken, BadLiteral, UnclosedComment}
use Rattle.il_reader.specs.declared.fault.FaultKind.TheVariants.{TooLong}
use Rattle.il_reader.specs.declared.lexeme.Piece.{Piece}
use Rattle.il_reader.specs.declared.lexeme.Lexeme.{Lexeme}
use Rattle.il_reader.specs.declared.fault.FaultKind.{FaultKind}
use Rattle.il_reader.specs.declared.lexeme.Sign.{Sign}
use Rattle.il_reader.specs.declared.lexeme.Sign.TheVariants as signs
use Rattle.il_reader.specs.declared.lexeme.Class.{Class}
use Rattle.il_reader.specs.declared.lexeme.Class.TheVariants as classes

abbrev pub is_within : ℕ → ℕ → ℕ → Bool
is_within low high b = nat_le low b && nat_le b high

abbrev pub is_letter_byte : ℕ → Bool
is_letter_byte b = is_within 65 90 b || is_within 97 122 b || b == 95

abbrev pub is_word_byte : ℕ → Bool
is_word_byte b = is_letter_byte b || is_within 48 57 b

abbrev pub is_literal_byte : ℕ → Bool
is_literal_byte b = is_word_byte b || b == 35 || b == 46 || b == 43 || b == 45

abbrev pub is_address_byte : ℕ → Bool
is_address_byte b = is_word_byte b || b == 46

abbrev pub begins_with : ℕ → List ℕ → Bool
begins_with x [] = false
begins_with x (b ∷ bs) = b == x

abbrev pub add_len : ℕ → Option ℕ → Option ℕ
add_len n None = None
add_len n (Some m) = Some (n + m)

-- how many bytes there are to the end of the comment whose inside these bytes begin
unfoldable pub comment_len : List ℕ → Option ℕ
comment_len [] = None
comment_len (b ∷ bs) = if b == 42 && begins_with 41 bs then Some 2 else add_len 1 (comment_len bs)

-- white space, a sign, and bytes that are none
abbrev pub blank : ℕ → Piece
blank n = record { class = None; len = n }

abbrev pub sign : Sign → ℕ → Piece
sign s n = record { class = Some (classes.Sign s); len = n }

abbrev pub broken : FaultKind → Piece
broken f = record { class = Some (classes.Broken f); len = 1 }

abbrev pub end : Piece
end = record { class = Some classes.End; len = 0 }

abbrev pub begins_letter : List ℕ → Bool
begins_letter [] = false
begins_letter (b ∷ bs) = is_letter_byte b

-- how many bytes more a name has in an extended text: letters, digits, underscores, and dots before letters
unfoldable pub dotted_len : List ℕ → ℕ
dotted_len [] = 0
dotted_len (b ∷ bs) = if is_word_byte b || (b == 46 && begins_letter bs) then suc (dotted_len bs) else 0

-- how many bytes more a name has
abbrev pub name_len : Dialect → List ℕ → ℕ
name_len dialects.Plain bytes = prefix_len is_word_byte bytes
name_len dialects.Extended bytes = dotted_len bytes

-- a part has more than 32 characters, or all of it more than 96
abbrev pub is_long : List ℕ → Bool
is_long name =
    nat_lt LONGEST_DOTTED_NAME (length name) || list_any (λ part. nat_lt LONGEST_NAME (length part)) (name_parts name)

-- a name that is short enough, each part of which is well spelled; without dots it has one part
unfoldable pub name_of : List ℕ → Piece
name_of name = if list_all is_well_spelled (name_parts name)
    then (if is_long name then broken TooLong else sign signs.Name (length name))
    else broken BadToken

abbrev pub comment_piece : Option ℕ → Piece
comment_piece None = broken UnclosedComment
comment_piece (Some n) = blank (2 + n)

-- a literal, where the text is one
unfoldable pub literal_piece : Dialect → List ℕ → Piece
literal_piece dialect text =
    if is_some (literal_in dialect text) then sign signs.Literal (length text) else broken BadLiteral

unfoldable pub word_piece : Dialect → List ℕ → Piece
word_piece dialect bytes =
    let n = 1 + prefix_len is_word_byte (drop 1 bytes) in
    if begins_with 35 (drop n bytes)
    then literal_piece dialect (take (1 + prefix_len is_literal_byte (drop 1 bytes)) bytes)
    else name_of (take (1 + name_len dialect (drop 1 bytes)) bytes)

-- the byte is in no word and begins no literal behind one
abbrev pub is_word_end : List ℕ → Bool
is_word_end [] = true
is_word_end (b ∷ bs) = if is_word_byte b then false else (if b == 35 then false else true)

-- the word N
abbrev pub is_n : List ℕ → Bool
is_n [] = false
is_n (b ∷ bs) = (b == 78 || b == 110) && is_word_end bs

unfoldable pub sign_of : ℕ → List ℕ → Piece
sign_of b bs =
    if b == 58 then (if begins_with 61 bs then sign signs.Assign 2 else sign signs.Colon 1)
    else if b == 61 then (if begins_with 62 bs then sign signs.Arrow 2 else broken BadToken)
    else if b == 44 then sign signs.Comma 1
    else if b == 59 then sign signs.Semicolon 1
    else if b == 40 then sign signs.Open 1
    else if b == 41 then sign signs.Close 1
    else if b == 46 then sign signs.Dot 1
    else if b == 38 then (if is_n bs then sign signs.Ampersand 2 else sign signs.Ampersand 1)
    else if is_within 32 126 b then broken BadToken
    else broken BadByte

abbrev pub is_number_start : ℕ → Bool
is_number_start b = is_within 48 57 b || b == 43 || b == 45

abbrev pub is_blank_byte : ℕ → Bool
is_blank_byte b = b == 32 || b == 9 || b == 13

unfoldable pub solid_piece : Dialect → List ℕ → Piece
solid_piece dialect [] = end
solid_piece dialect (b ∷ bs) =
    if is_letter_byte b then word_piece dialect (b ∷ bs)
    else if is_number_start b then literal_piece dialect (take (1 + prefix_len is_literal_byte bs) (b ∷ bs))
    else if b == 37 then sign signs.Address (1 + prefix_len is_address_byte bs)
    else sign_of b bs

unfoldable pub piece_of : Dialect → List ℕ → Piece
piece_of dialect [] = end
piece_of dialect (b ∷ bs) =
    if b == 10 then sign signs.Break 1
    else if is_blank_byte b then blank 1
    else if b == 40 && begins_with 42 bs then comment_piece (comment_len (drop 1 bs))
    else solid_piece dialect (b ∷ bs)

-- a token: what it is, its bytes, and how many bytes the text has from its first one on
pub record Token : Type 0 where
  pub class : Class
  pub text : List ℕ
  pub left : ℕ

-- whether more may follow: nothing follows the end or a fault
abbrev pub goes_on : Class → Bool
goes_on (classes.Sign s) = true
goes_on (classes.Broken f) = false
goes_on classes.End = false

abbrev pub after : Class → List Token → List Token
after (classes.Sign s) ts = ts
after (classes.Broken f) ts = []
after classes.End ts = []

-- a token, and those behind it
abbrev pub joined : Token → List Token → List Token
joined t ts = t ∷ after t.class ts

-- white space is no token
abbrev pub put : Option Class → List ℕ → ℕ → List Token → List Token
put None text left ts = ts
put (Some c) text left ts = joined (record { class = c; text = text; left = left }) ts

-- The tokens of a text, of whose first bytes so many belong to a token that has been put already.
unfoldable pub tokens_behind : Dialect → ℕ → List ℕ → List Token
tokens_behind dialect k [] = record { class = classes.End; text = []; left = 0 } ∷ []
tokens_behind dialect (suc k) (b ∷ bs) = tokens_behind dialect k bs
tokens_behind dialect zero (b ∷ bs) =
    let p = piece_of dialect (b ∷ bs) in
    put p.class (take p.len (b ∷ bs)) (length (b ∷ bs)) (tokens_behind dialect (p.len - 1) bs)

abbrev pub tokens_of : Dialect → List ℕ → List Token
tokens_of dialect bytes = tokens_behind dialect 0 bytes

abbrev pub token : Lexeme → Token
token t = record { class = t.class; text = t.text.now; left = t.left }
