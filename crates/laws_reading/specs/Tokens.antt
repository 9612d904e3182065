-- A token that is written again.
use Rattle.std.specs.Prelude.{◌≡◌, ℕ, List}
use Rattle.std.specs.List.{AllByRecursion}
use Rattle.il_model.specs.declared.dialect.Dialect.TheVariants as dialects
use Rattle.il_reader.specs.declared.lexeme.Sign.{Sign}
use Rattle.il_reader.specs.declared.lexeme.Sign.TheVariants as signs
use Rattle.il_reader.specs.declared.lexeme.Class.TheVariants as classes
use Rattle.il_reader.specs.Tokens.{Token, tokens_of}
use Rattle.laws_reading.specs.Words.{IsOneToken}

-- what is taken over as it's written: names, literals, locations, and operators
abbrev pub IsWordSign : Sign → Type 0
IsWordSign signs.Name = Unit {0}
IsWordSign signs.Literal = Unit {0}
IsWordSign signs.Address = Unit {0}
IsWordSign signs.Ampersand = Unit {0}
IsWordSign signs.Close = Unit {0}
IsWordSign sign = ⊥

abbrev pub IsAgain : Token → Type 0
IsAgain t = (s : Sign) → t.class ≡ classes.Sign s → IsWordSign s → IsOneToken t.text s

-- each of them in a text, written anywhere with a blank behind it, is one token of the same sign
abbrev pub AreAgain : Type 0
AreAgain = (text : List ℕ) → AllByRecursion IsAgain (tokens_of dialects.Extended text)
