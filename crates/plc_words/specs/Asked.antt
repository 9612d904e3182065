-- What words ask for, and what is told where they ask for no work.
use Rattle.std.specs.Prelude.{◌≡◌, ◌⊎◌, ℕ, List, codes, Option}
use Rattle.std.specs.String.{string_bytes}
use Rattle.std.specs.Io.KnownBytes.{Appends}
use Rattle.io_model.specs.declared.counted.CountedWrite.{Ghosts as CountedWriter}
use Rattle.il_text.specs.declared.fault.Fault.TheVariants as faults
use Rattle.il_text.specs.Telling.{WentOut, fault_line}
use Rattle.plc_words.specs.declared.forms.Words.{Words}
use Rattle.plc_words.specs.declared.error.WordsError.{WordsError}
use Rattle.plc_words.specs.declared.forms.Words.TheVariants as words
use Rattle.plc_words.specs.declared.error.WordsError.TheVariants as errors

-- a controller that is to be served ends after a minute without a majority of its replicas
abbrev pub IsLostAfterAMinute : Words → Type 0
IsLostAfterAMinute (words.Serve source stores report settings operators clients) = settings.lost_after ≡ 60
IsLostAfterAMinute _ = Unit {0}

-- ---- where they ask for no work

-- the line of a text of help that wasn't shown: the output failed, or memory ran out
abbrev pub TellsUnshown : {W : Type 0} → CountedWriter W → W → W → Type 0
TellsUnshown w old new =
    WentOut w (codes "plc: device output\n") old new ⊎ WentOut w (fault_line faults.Memory) old new

-- a text that was asked for: all of it on the output; else the line of why it wasn't shown on the other stream
abbrev pub IsShown : {W : Type 0}
    → CountedWriter W → List ℕ → ℕ → Option (List ℕ) → Option (List ℕ) → W → W → Type 0
IsShown w text status out out_after old new =
    ((status ≡ 0) × Appends out out_after text × (new ≡ old))
    ⊎ ((status ≡ 2) × TellsUnshown w old new)

-- why words ask for no work: the text of help, or that of the version, on the output; else a line on the other stream
abbrev pub IsToldOfWords : {W : Type 0}
    → CountedWriter W → List ℕ → WordsError → ℕ → Option (List ℕ) → Option (List ℕ) → W → W → Type 0
IsToldOfWords w version (errors.Shown text) status out out_after old new =
    IsShown w (string_bytes text) status out out_after old new
IsToldOfWords w version errors.Version status out out_after old new =
    IsShown w version status out out_after old new
IsToldOfWords w version (errors.Bad text) status out out_after old new =
    (status ≡ 3) × (out_after ≡ out) × WentOut w (string_bytes text) old new
IsToldOfWords w version errors.NotText status out out_after old new =
    (status ≡ 3) × (out_after ≡ out) × WentOut w (codes "error: a word is no text in UTF-8\n") old new
IsToldOfWords w version errors.Memory status out out_after old new =
    (status ≡ 2) × (out_after ≡ out) × WentOut w (fault_line faults.Memory) old new
