-- What the calls over texts write.
use Rattle.std.specs.Prelude.{◌≡◌, ◌⊎◌, ℕ, List, Option}
use Rattle.std.specs.Io.KnownBytes.{Appends}
use Rattle.il_model.specs.Program.{Program}
use Rattle.il_text.specs.declared.fault.Fault.{Fault}
use Rattle.il_text.specs.Meaning.{IsTypedProgramOfText, IsTextFault}
use Rattle.plc_symbols.specs.declared.calls.Which.{Which}
use Rattle.plc_symbols.specs.declared.calls.Which.TheVariants as which
use Rattle.plc_symbols.specs.Symbols.{symbols_text}
use Rattle.plc_symbols.specs.Compared.{compared_text}

-- the names of the program that the text says were written
pub record AreNamed (text : List ℕ) (old new : Option (List ℕ)) : Type 0 where
  pub program : Program
  pub is : IsTypedProgramOfText text program
  pub written : Appends old new (symbols_text program)

-- the text says what a change from the program of one text to that of the other does
pub record IsComparison (first second told : List ℕ) : Type 0 where
  pub before : Program
  pub after : Program
  pub is_before : IsTypedProgramOfText first before
  pub is_after : IsTypedProgramOfText second after
  pub is : told ≡ compared_text before after

-- such a text was written
pub record AreCompared (first second : List ℕ) (old new : Option (List ℕ)) : Type 0 where
  pub text : List ℕ
  pub says : IsComparison first second text
  pub written : Appends old new text

abbrev pub source_of : Which → List ℕ → List ℕ → List ℕ
source_of which.Old first second = first
source_of which.New first second = second

-- a fault of one of two texts
abbrev pub IsFaultOfEither : List ℕ → List ℕ → Fault → Type 0
IsFaultOfEither first second told = IsTextFault first told ⊎ IsTextFault second told
