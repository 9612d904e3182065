-- The slot of a field, where its instance is found and where it isn't.
use Rattle.std.proofs.Common.{◌≡◌, ◌<◌, ℕ, List, length, Some, None, get_or, refl}
use Rattle.std.specs.Prelude.{position}
use Rattle.std.proofs.lemmas.Option.{slice_get_read}
use Rattle.il_model.specs.declared.program.Instance.{Instance}
use Rattle.il_values.specs.Spelled.{spells}
use Rattle.il_model.specs.Program.{Program}
use Rattle.ctl_model.specs.Slots.{instance_slot, field_slot}

pub no_instance : (Q : Program) (instances : List Instance) (name field : List ℕ) → instances ≡ Q.instances → None ≡ position (λ (x : Instance). spells x.name name) instances → field_slot Q name field ≡ None
no_instance Q instances name field same none = rw (← same, ← none) refl

pub of_instance : (Q : Program) (instances : List Instance) (name field : List ℕ) (i : ℕ) (x : Instance) → instances ≡ Q.instances → Some i ≡ position (λ (x : Instance). spells x.name name) instances → i < length instances → x ≡ get_or instances i x → field_slot Q name field ≡ instance_slot i field x
of_instance Q instances name field i x same found lt there =
    let read = slice_get_read instances (length instances) i x refl lt there in
    rw (← same, ← found, read) refl
