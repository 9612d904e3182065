-- The words, the literals and the locations of a text, by its dialect: those of every text, and in an extended text
-- more; and the version whose images have them.
use Rattle.std.specs.Prelude.{ℕ, List, Option, Some, None}
use Rattle.il_model.specs.declared.dialect.Dialect.{Dialect}
use Rattle.il_model.specs.declared.dialect.Dialect.TheVariants as dialects
use Rattle.il_model.specs.declared.codes.Version.{Version}
use Rattle.il_model.specs.declared.codes.Version.TheVariants as versions
use Rattle.il_values.specs.declared.function.Function.{Function}
use Rattle.il_model.specs.declared.literal.Literal.{Literal}
use Rattle.il_values.specs.declared.op.Op.TheVariants as ops
use Rattle.il_model.specs.declared.words.Mnemonic.{Mnemonic}
use Rattle.il_model.specs.Words.{plain, mnemonic_of, extended_mnemonic_of}
use Rattle.il_values.specs.Functions.{function_named}
use Rattle.il_model.specs.Literals.{literal_of, extended_literal_of}
use Rattle.il_model.specs.declared.program.Loc.{Loc}
use Rattle.il_model.specs.Locations.{location_of, extended_location_of}

abbrev pub applied : Option Function → Option Mnemonic
applied (Some f) = Some (record { op = ops.Apply f; modifier = plain })
applied None = None

-- an operator with an operand, or else a function
abbrev pub or_function : List ℕ → Option Mnemonic → Option Mnemonic
or_function word (Some m) = Some m
or_function word None = applied (function_named word)

-- an operator of every text, or else one that extended texts have besides
abbrev pub or_extended : List ℕ → Option Mnemonic → Option Mnemonic
or_extended word (Some m) = Some m
or_extended word None = or_function word (extended_mnemonic_of word)

-- the operator that a word is
abbrev pub operator_in : Dialect → List ℕ → Option Mnemonic
operator_in dialects.Plain word = mnemonic_of word
operator_in dialects.Extended word = or_extended word (mnemonic_of word)

-- the literal that a text is
abbrev pub literal_in : Dialect → List ℕ → Option Literal
literal_in dialects.Plain text = literal_of text
literal_in dialects.Extended text = extended_literal_of text

-- the location that a text is
abbrev pub location_in : Dialect → List ℕ → Option Loc
location_in dialects.Plain text = location_of text
location_in dialects.Extended text = extended_location_of text

-- the last version whose images have what a text of the dialect may say
abbrev pub newest : Dialect → Version
newest dialects.Plain = versions.Two
newest dialects.Extended = versions.Three
