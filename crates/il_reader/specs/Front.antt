-- What stands at the front of a list of tokens, and why it's refused there.
use Rattle.std.specs.Prelude.{ℕ, List, [], ◌∷◌, Bool, true, false, ◌&&◌, if◌then◌else◌}
use Rattle.il_values.specs.Spelled.{spells}
use Rattle.il_reader.specs.declared.fault.FaultAt.{FaultAt}
use Rattle.il_reader.specs.declared.fault.FaultKind.{FaultKind}
use Rattle.il_reader.specs.declared.fault.FaultKind.TheVariants.{Misplaced}
use Rattle.il_reader.specs.declared.lexeme.Sign.{Sign}
use Rattle.il_reader.specs.declared.lexeme.Sign.TheVariants as signs
use Rattle.il_reader.specs.declared.lexeme.Class.{Class}
use Rattle.il_reader.specs.declared.lexeme.Class.TheVariants as classes
use Rattle.il_reader.specs.Tokens.{Token}

-- one sign and not another
abbrev pub same_sign : Sign → Sign → Bool
same_sign signs.Break signs.Break = true
same_sign signs.Name signs.Name = true
same_sign signs.Literal signs.Literal = true
same_sign signs.Address signs.Address = true
same_sign signs.Colon signs.Colon = true
same_sign signs.Assign signs.Assign = true
same_sign signs.Arrow signs.Arrow = true
same_sign signs.Comma signs.Comma = true
same_sign signs.Semicolon signs.Semicolon = true
same_sign signs.Open signs.Open = true
same_sign signs.Close signs.Close = true
same_sign signs.Dot signs.Dot = true
same_sign signs.Ampersand signs.Ampersand = true
same_sign a b = false

-- why a token is refused where no case allows it
abbrev pub refusal : Class → FaultKind
refusal (classes.Broken f) = f
refusal c = Misplaced

abbrev pub fault_at : Token → FaultAt
fault_at t = record { kind = refusal t.class; left = t.left }

abbrev pub no_token : Token
no_token = record { class = classes.End; text = []; left = 0 }

abbrev pub first : List Token → Token
first [] = no_token
first (t ∷ ts) = t

abbrev pub others : List Token → List Token
others [] = []
others (t ∷ ts) = ts

-- the class is this sign
abbrev pub is_class_of : Sign → Class → Bool
is_class_of s (classes.Sign u) = same_sign s u
is_class_of s c = false

-- the token is this sign
abbrev pub is_sign : Sign → Token → Bool
is_sign s t = is_class_of s t.class

-- the same of the end of the text
abbrev pub is_end_class : Class → Bool
is_end_class classes.End = true
is_end_class c = false

abbrev pub is_end : Token → Bool
is_end t = is_end_class t.class

unfoldable pub skip_breaks : List Token → List Token
skip_breaks [] = []
skip_breaks (t ∷ ts) = if is_sign signs.Break t then skip_breaks ts else t ∷ ts

abbrev pub next_is : Sign → List Token → Bool
next_is s ts = is_sign s (first ts)

abbrev pub at_end : List Token → Bool
at_end ts = is_end (first ts)

abbrev pub is_word_token : List ℕ → Token → Bool
is_word_token w t = is_sign signs.Name t && spells w t.text

abbrev pub next_is_word : List ℕ → List Token → Bool
next_is_word w ts = is_word_token w (first ts)
