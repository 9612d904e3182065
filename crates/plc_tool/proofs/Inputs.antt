-- A fault of a text, of bytes or of a schedule is one of input.
use Rattle.std.proofs.Common.{◌≡◌, inl, inr, ℕ, List, ap, ◌∙◌, refl}
use Rattle.il_records.specs.declared.fault.LoadFault.{LoadFault}
use Rattle.il_records.specs.declared.fault.LoadFault.TheVariants.{Truncated, BadMagic, BadVersion, BadCount, BadWord, BadType, BadTarget, Trailing}
use Rattle.plc_json.specs.declared.event.NamedEvent.{NamedEvent}
use Rattle.il_text.specs.declared.fault.Fault.{Fault}
use Rattle.il_text.specs.Meaning.{IsTextFault, IsImageFault}
use Rattle.plc_tool.specs.Simulated.{IsToldOf}
use Rattle.il_text.specs.Telling.{status_of, of_bytes}
use Rattle.il_text.proofs.Statuses as statuses

pub of_text : (text : List ℕ) (told : Fault) → IsTextFault text told → status_of told ≡ 1
of_text text told is = statuses.of_text text told is

load_input : (f : LoadFault) → status_of (of_bytes f) ≡ 1
load_input Truncated = refl
load_input BadMagic = refl
load_input BadVersion = refl
load_input BadCount = refl
load_input (BadWord position) = refl
load_input (BadType position) = refl
load_input (BadTarget position) = refl
load_input Trailing = refl

pub of_image : (bytes : List ℕ) (told : Fault) → IsImageFault bytes told → status_of told ≡ 1
of_image bytes told image = ap status_of image.is ∙ load_input image.fault

pub of_schedule : (text : List ℕ) (f budget : ℕ) (named : List NamedEvent) (told : Fault) → IsToldOf text f budget named told → status_of told ≡ 1
of_schedule text f budget named told (inl of_its_text) = of_text text told of_its_text
of_schedule text f budget named told (inr refused) = elim refused.why [
  | inl unknown ↦ ap status_of unknown.0
  | inr place ↦ ap status_of place.refused.is
]
