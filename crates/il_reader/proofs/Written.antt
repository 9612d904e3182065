-- Tokens that are written, each with a blank behind it.
use Rattle.std.proofs.Common.{◌≡◌, ℕ, Bool, true, false, not, List, [], ◌∷◌, ◌++◌, length, refl, codes, ◌&&◌}
use Rattle.il_model.specs.declared.dialect.Dialect.{Dialect}
use Rattle.il_model.specs.declared.dialect.Dialect.TheVariants as dialects
use Rattle.il_model.specs.Words.{is_well_spelled, name_parts}
use Rattle.il_values.specs.Spelled.{spells}
use Rattle.il_reader.specs.declared.lexeme.Sign.{Sign}
use Rattle.il_reader.specs.declared.lexeme.Sign.TheVariants as signs
use Rattle.il_reader.specs.declared.lexeme.Class.{Class}
use Rattle.il_reader.specs.declared.lexeme.Class.TheVariants as classes
use Rattle.il_reader.specs.Tokens.{Token, goes_on, tokens_of, tokens_behind, piece_of, solid_piece, sign_of, word_piece, name_of, dotted_len}
use Rattle.il_reader.specs.Front.{is_class_of, is_sign, is_word_token, no_token}
use Rattle.il_reader.specs.Grammar.{block_word, is_truth, is_variable, is_constant}

-- these bytes with a blank behind them, before a text
abbrev pub written : List ℕ → List ℕ → List ℕ
written w more = w ++ 32 ∷ more

abbrev pub token_of : Sign → List ℕ → List ℕ → Token
token_of s w more = record { class = classes.Sign s; text = w; left = length (written w more) }

-- they are this sign, and what follows are the tokens of that text
abbrev pub Makes : (dialect : Dialect) → Sign → List ℕ → Type 0
Makes dialect s w = (more : List ℕ) → tokens_of dialect (written w more) ≡ token_of s w more ∷ tokens_of dialect more

-- behind such a token more may follow

pub sign_goes : (s : Sign) (u : Token) → is_sign s u ≡ true → goes_on u.class ≡ true
sign_goes s u is = by_class u.class is
  where
    by_class : (c : Class) → is_class_of s c ≡ true → goes_on c ≡ true
    by_class (classes.Sign x) e = refl
    by_class (classes.Broken f) e = absurd cc
    by_class classes.End e = absurd cc

and_left : (a b : Bool) → (a && b) ≡ true → a ≡ true
and_left true b e = refl
and_left false b e = absurd cc

name_goes : (u : Token) (b : Bool) → (is_sign signs.Name u && b) ≡ true → goes_on u.class ≡ true
name_goes u b is = sign_goes signs.Name u (and_left (is_sign signs.Name u) b is)

constant_goes : (u : Token) → is_constant u ≡ true → goes_on u.class ≡ true
unfolding is_constant
constant_goes u is = by_name (is_sign signs.Name u) refl
  where
    by_name : (b : Bool) → is_sign signs.Name u ≡ b → goes_on u.class ≡ true
    by_name true e = sign_goes signs.Name u e
    by_name false e = sign_goes signs.Literal u (rw e at is)

-- bytes that are a token that passes
pub record Written (dialect : Dialect) (p : Token → Bool) : Type 0 where
  pub sign : Sign
  pub word : List ℕ
  pub makes : Makes dialect sign word
  pub passes : (more : List ℕ) → p (token_of sign word more) ≡ true
  pub solid : (more : List ℕ) → is_sign signs.Break (token_of sign word more) ≡ false
  pub goes : (u : Token) → p u ≡ true → goes_on u.class ≡ true

abbrev pub a_dot : List ℕ → List ℕ
a_dot more = written (codes ".") more

pub dot_makes : (dialect : Dialect) → Makes dialect signs.Dot (codes ".")
unfolding tokens_behind piece_of solid_piece sign_of
dot_makes dialect more = refl

pub dot_written : (dialect : Dialect) → Written dialect (is_sign signs.Dot)
dot_written dialect = record { sign = signs.Dot; word = codes "."; makes = dot_makes dialect; passes = λ more. refl; solid = λ more. refl; goes = sign_goes signs.Dot }

pub comma_makes : (dialect : Dialect) → Makes dialect signs.Comma (codes ",")
unfolding tokens_behind piece_of solid_piece sign_of
comma_makes dialect more = refl

pub comma_written : (dialect : Dialect) → Written dialect (is_sign signs.Comma)
comma_written dialect = record { sign = signs.Comma; word = codes ","; makes = comma_makes dialect; passes = λ more. refl; solid = λ more. refl; goes = sign_goes signs.Comma }

abbrev pub a_close : List ℕ → List ℕ
a_close more = written (codes ")") more

pub close_makes : (dialect : Dialect) → Makes dialect signs.Close (codes ")")
unfolding tokens_behind piece_of solid_piece sign_of
close_makes dialect more = refl

pub close_written : (dialect : Dialect) → Written dialect (is_sign signs.Close)
close_written dialect = record { sign = signs.Close; word = codes ")"; makes = close_makes dialect; passes = λ more. refl; solid = λ more. refl; goes = sign_goes signs.Close }

abbrev pub an_open : List ℕ → List ℕ
an_open more = written (codes "(") more

pub open_makes : (dialect : Dialect) → Makes dialect signs.Open (codes "(")
unfolding tokens_behind piece_of solid_piece sign_of
open_makes dialect more = refl

pub open_written : (dialect : Dialect) → Written dialect (is_sign signs.Open)
open_written dialect = record { sign = signs.Open; word = codes "("; makes = open_makes dialect; passes = λ more. refl; solid = λ more. refl; goes = sign_goes signs.Open }

abbrev pub a_colon : List ℕ → List ℕ
a_colon more = written (codes ":") more

pub colon_makes : (dialect : Dialect) → Makes dialect signs.Colon (codes ":")
unfolding tokens_behind piece_of solid_piece sign_of
colon_makes dialect more = refl

pub colon_written : (dialect : Dialect) → Written dialect (is_sign signs.Colon)
colon_written dialect = record { sign = signs.Colon; word = codes ":"; makes = colon_makes dialect; passes = λ more. refl; solid = λ more. refl; goes = sign_goes signs.Colon }

pub semicolon_makes : (dialect : Dialect) → Makes dialect signs.Semicolon (codes ";")
unfolding tokens_behind piece_of solid_piece sign_of
semicolon_makes dialect more = refl

pub semicolon_written : (dialect : Dialect) → Written dialect (is_sign signs.Semicolon)
semicolon_written dialect = record { sign = signs.Semicolon; word = codes ";"; makes = semicolon_makes dialect; passes = λ more. refl; solid = λ more. refl; goes = sign_goes signs.Semicolon }

abbrev pub an_assign : List ℕ → List ℕ
an_assign more = written (codes ":=") more

pub assign_makes : (dialect : Dialect) → Makes dialect signs.Assign (codes ":=")
unfolding tokens_behind piece_of solid_piece sign_of
assign_makes dialect more = refl

pub assign_written : (dialect : Dialect) → Written dialect (is_sign signs.Assign)
assign_written dialect = record { sign = signs.Assign; word = codes ":="; makes = assign_makes dialect; passes = λ more. refl; solid = λ more. refl; goes = sign_goes signs.Assign }

pub arrow_makes : (dialect : Dialect) → Makes dialect signs.Arrow (codes "=>")
unfolding tokens_behind piece_of solid_piece sign_of
arrow_makes dialect more = refl

pub arrow_written : (dialect : Dialect) → Written dialect (is_sign signs.Arrow)
arrow_written dialect = record { sign = signs.Arrow; word = codes "=>"; makes = arrow_makes dialect; passes = λ more. refl; solid = λ more. refl; goes = sign_goes signs.Arrow }

abbrev pub an_address : List ℕ → List ℕ
an_address more = written (codes "%I") more

pub address_makes : (dialect : Dialect) → Makes dialect signs.Address (codes "%I")
unfolding tokens_behind piece_of solid_piece
address_makes dialect more = refl

pub address_written : (dialect : Dialect) → Written dialect (is_sign signs.Address)
address_written dialect = record { sign = signs.Address; word = codes "%I"; makes = address_makes dialect; passes = λ more. refl; solid = λ more. refl; goes = sign_goes signs.Address }

-- a line end
abbrev pub a_break : List ℕ → List ℕ
a_break more = written (10 ∷ []) more

pub break_makes : (dialect : Dialect) → Makes dialect signs.Break (10 ∷ [])
unfolding tokens_behind piece_of
break_makes dialect more = refl

abbrev pub a_name : List ℕ → List ℕ
a_name more = written (codes "A") more

pub name_makes : (dialect : Dialect) → Makes dialect signs.Name (codes "A")
unfolding tokens_behind piece_of solid_piece word_piece name_of name_parts dotted_len is_well_spelled
name_makes dialects.Plain more = refl
name_makes dialects.Extended more = refl

pub name_written : (dialect : Dialect) → Written dialect (is_sign signs.Name)
name_written dialect = record { sign = signs.Name; word = codes "A"; makes = name_makes dialect; passes = λ more. refl; solid = λ more. refl; goes = sign_goes signs.Name }

abbrev pub a_truth : List ℕ → List ℕ
a_truth more = written (codes "TRUE") more

pub truth_makes : (dialect : Dialect) → Makes dialect signs.Name (codes "TRUE")
unfolding tokens_behind piece_of solid_piece word_piece name_of name_parts dotted_len is_well_spelled
truth_makes dialects.Plain more = refl
truth_makes dialects.Extended more = refl

pub truth_written : (dialect : Dialect) → Written dialect (is_constant)
unfolding is_constant spells
truth_written dialect = record { sign = signs.Name; word = codes "TRUE"; makes = truth_makes dialect; passes = λ more. refl; solid = λ more. refl; goes = constant_goes }

abbrev pub an_at : List ℕ → List ℕ
an_at more = written (codes "AT") more

pub at_makes : (dialect : Dialect) → Makes dialect signs.Name (codes "AT")
unfolding tokens_behind piece_of solid_piece word_piece name_of name_parts dotted_len is_well_spelled
at_makes dialects.Plain more = refl
at_makes dialects.Extended more = refl

pub at_written : (dialect : Dialect) → Written dialect (is_word_token (codes "AT"))
unfolding spells
at_written dialect = record { sign = signs.Name; word = codes "AT"; makes = at_makes dialect; passes = λ more. refl; solid = λ more. refl; goes = λ u is. name_goes u (spells (codes "AT") u.text) is }

abbrev pub an_end_var : List ℕ → List ℕ
an_end_var more = written (codes "END_VAR") more

pub end_var_makes : (dialect : Dialect) → Makes dialect signs.Name (codes "END_VAR")
unfolding tokens_behind piece_of solid_piece word_piece name_of name_parts dotted_len is_well_spelled
end_var_makes dialects.Plain more = refl
end_var_makes dialects.Extended more = refl

pub end_var_written : (dialect : Dialect) → Written dialect (is_word_token (codes "END_VAR"))
unfolding spells
end_var_written dialect = record { sign = signs.Name; word = codes "END_VAR"; makes = end_var_makes dialect; passes = λ more. refl; solid = λ more. refl; goes = λ u is. name_goes u (spells (codes "END_VAR") u.text) is }

pub retain_makes : (dialect : Dialect) → Makes dialect signs.Name (codes "RETAIN")
unfolding tokens_behind piece_of solid_piece word_piece name_of name_parts dotted_len is_well_spelled
retain_makes dialects.Plain more = refl
retain_makes dialects.Extended more = refl

pub retain_written : (dialect : Dialect) → Written dialect (is_word_token (codes "RETAIN"))
unfolding spells
retain_written dialect = record { sign = signs.Name; word = codes "RETAIN"; makes = retain_makes dialect; passes = λ more. refl; solid = λ more. refl; goes = λ u is. name_goes u (spells (codes "RETAIN") u.text) is }

non_retain_makes : (dialect : Dialect) → Makes dialect signs.Name (codes "NON_RETAIN")
unfolding tokens_behind piece_of solid_piece word_piece name_of name_parts dotted_len is_well_spelled
non_retain_makes dialects.Plain more = refl
non_retain_makes dialects.Extended more = refl

pub non_retain_written : (dialect : Dialect) → Written dialect (is_word_token (codes "NON_RETAIN"))
unfolding spells
non_retain_written dialect = record { sign = signs.Name; word = codes "NON_RETAIN"; makes = non_retain_makes dialect; passes = λ more. refl; solid = λ more. refl; goes = λ u is. name_goes u (spells (codes "NON_RETAIN") u.text) is }

pub var_makes : (dialect : Dialect) → Makes dialect signs.Name (block_word dialect)
unfolding tokens_behind piece_of solid_piece word_piece name_of name_parts dotted_len is_well_spelled
var_makes dialects.Plain more = refl
var_makes dialects.Extended more = refl

pub var_written : (dialect : Dialect) → Written dialect (is_word_token (block_word dialect))
unfolding spells
var_written dialects.Plain = record { sign = signs.Name; word = codes "VAR"; makes = var_makes dialects.Plain; passes = λ more. refl; solid = λ more. refl; goes = λ u is. name_goes u (spells (codes "VAR") u.text) is }
var_written dialects.Extended = record { sign = signs.Name; word = codes "VAR_GLOBAL"; makes = var_makes dialects.Extended; passes = λ more. refl; solid = λ more. refl; goes = λ u is. name_goes u (spells (codes "VAR_GLOBAL") u.text) is }

pub program_makes : (dialect : Dialect) → Makes dialect signs.Name (codes "PROGRAM")
unfolding tokens_behind piece_of solid_piece word_piece name_of name_parts dotted_len is_well_spelled
program_makes dialects.Plain more = refl
program_makes dialects.Extended more = refl

pub program_written : (dialect : Dialect) → Written dialect (is_word_token (codes "PROGRAM"))
unfolding spells
program_written dialect = record { sign = signs.Name; word = codes "PROGRAM"; makes = program_makes dialect; passes = λ more. refl; solid = λ more. refl; goes = λ u is. name_goes u (spells (codes "PROGRAM") u.text) is }

abbrev pub an_end_program : List ℕ → List ℕ
an_end_program more = written (codes "END_PROGRAM") more

pub end_program_makes : (dialect : Dialect) → Makes dialect signs.Name (codes "END_PROGRAM")
unfolding tokens_behind piece_of solid_piece word_piece name_of name_parts dotted_len is_well_spelled
end_program_makes dialects.Plain more = refl
end_program_makes dialects.Extended more = refl

pub end_program_written : (dialect : Dialect) → Written dialect (is_word_token (codes "END_PROGRAM"))
unfolding spells
end_program_written dialect = record { sign = signs.Name; word = codes "END_PROGRAM"; makes = end_program_makes dialect; passes = λ more. refl; solid = λ more. refl; goes = λ u is. name_goes u (spells (codes "END_PROGRAM") u.text) is }

pub variable_written : (dialect : Dialect) → Written dialect is_variable
unfolding spells
variable_written dialect = record { sign = signs.Name; word = codes "A"; makes = name_makes dialect; passes = λ more. refl; solid = λ more. refl; goes = λ u is. name_goes u (not (is_truth u)) is }

-- behind the last byte stands the end
pub end_makes : (dialect : Dialect) → tokens_of dialect [] ≡ no_token ∷ []
unfolding tokens_behind
end_makes dialect = refl
