-- What the assembler writes of a declared program is loaded as its typed program, and is the image of the text.
use Rattle.std.proofs.Common.{◌≡◌, List, ℕ, Result, Ok, Err, subst}
use Rattle.il_model.specs.Program.{Program}
use Rattle.il_model.specs.Fits.{IsImage}
use Rattle.il_model.specs.Declarable.{IsDeclared}
use Rattle.il_model.specs.Settled.{IsTypedProgramOf}
use Rattle.il_model.specs.Image.{spelling}
use Rattle.il_model.proofs.Declaring.{declared_image}
use Rattle.il_model.proofs.SettledPrograms.{typed_only}
use Rattle.il_assembler.specs.Assembled.{IsSpelled}
use Rattle.il_records.specs.declared.fault.LoadFault.{LoadFault}
use Rattle.il_records.specs.declared.fault.LoadError.{LoadError}
use Rattle.il_records.specs.declared.fault.LoadError.TheVariants as errors
use Rattle.il_records.specs.Fields.{Fails}
use Rattle.il_text.specs.Meaning.{IsProgramOf, IsImageOfText}

ok_is : (Q i : Program) → (let r : Result Program LoadFault = Ok Q in r ≡ Ok i) → Q ≡ i
ok_is Q i e = cc

no_fault : (Q : Program) (f : LoadFault) → (let r : Result Program LoadFault = Ok Q in r ≡ Err f) → ⊥
no_fault Q f e = cc

-- the typed program of a declared program has an image
has_image : (P Q : Program) → IsDeclared P → IsTypedProgramOf P Q → IsImage Q
has_image P Q declared is = declared_image P Q declared (typed_only P Q is)

pub is_settled : (P i : Program) (bytes : List ℕ) → IsDeclared P → IsSpelled P bytes → ((Q : Program) → IsImage Q → bytes ≡ spelling Q → (let r : Result Program LoadFault = Ok Q in r ≡ Ok i)) → IsTypedProgramOf P i
is_settled P i bytes is s only = subst (λ (Q : Program). IsTypedProgramOf P Q) (ok_is s.0 i (only s.0 (has_image P s.0 is s.1) s.2)) s.1

pub not_refused : (P : Program) (e : LoadError) (f : LoadFault) (bytes : List ℕ) → e ≡ errors.Fault f → IsDeclared P → IsSpelled P bytes → ((Q : Program) → IsImage Q → bytes ≡ spelling Q → (let r : Result Program LoadFault = Ok Q in Fails e r)) → ⊥
not_refused P e f bytes is-fault is s only =
    let h = only s.0 (has_image P s.0 is s.1) s.2 in
    no_fault s.0 f (subst (λ (x : LoadError). let r : Result Program LoadFault = Ok s.0 in Fails x r) is-fault h)

pub image_of_text_is : (text : List ℕ) (P : Program) (bytes : List ℕ) → IsDeclared P → IsProgramOf text P → IsSpelled P bytes → IsImageOfText text bytes
image_of_text_is text P bytes declared is s = record {
  program = s.0;
  is = record { program = P; is = is; settled = s.1 };
  image = has_image P s.0 declared s.1;
  spelled = s.2;
}
