-- What reading a text of units answers.
use Rattle.std.specs.Prelude.{ℕ, ◌≡◌, List, Result, Ok, Err}
use Rattle.il_reader.specs.declared.fault.Fault.{Fault}
use Rattle.il_reader.specs.declared.fault.ReadError.{ReadError}
use Rattle.il_reader.specs.declared.fault.ReadError.TheVariants as errors
use Rattle.il_units.specs.Units.{UnitText, UnitsText}
use Rattle.il_units.specs.Spelling.{SaysUnits}

abbrev pub Refuses : ReadError → Result (List UnitText) Fault → Type 0
Refuses errors.Memory read = Unit {0}
Refuses (errors.Fault f) read = read ≡ Err f

-- a call answered the text with its units, or its fault, unless memory ran out
abbrev pub Answers : List ℕ → Result UnitsText ReadError → Result (List UnitText) Fault → Type 0
Answers bytes (Ok s) read = (s.text ≡ bytes) × (read ≡ Ok s.units)
Answers bytes (Err e) read = Refuses e read

-- what the text says is read, unless memory runs out
abbrev pub IsGiven : List ℕ → Result UnitsText ReadError → Type 0
IsGiven bytes result = (us : List UnitText) → SaysUnits bytes us → Answers bytes result (Ok us)
