-- The version of a program in the header of its image.
use Rattle.std.proofs.Common.{◌≡◌, ◌<◌, List, length, refl, arith}
use Rattle.std.specs.Prelude.{◌==◌, slice_index, if◌then◌else◌}
use Rattle.il_model.specs.declared.codes.Version.{Version}
use Rattle.il_model.specs.declared.codes.Version.TheVariants as versions
use Rattle.il_values.specs.declared.value.Value.{Value}
use Rattle.il_model.specs.Program.{Program}
use Rattle.il_model.specs.Marks.{Mark, marks_from}
use Rattle.il_model.specs.Constants.{constants_of}
use Rattle.il_model.specs.Image.{version_of, spelled_with, spelling}

by_byte : (v : Version) (Q : Program) (marks : List Mark) (constants : List Value)
    → v ≡ (if slice_index (spelled_with v Q marks constants) 5 == 1 then versions.One else if slice_index (spelled_with v Q marks constants) 5 == 2 then versions.Two else versions.Three)
by_byte versions.One Q marks constants = refl
by_byte versions.Two Q marks constants = refl
by_byte versions.Three Q marks constants = refl

pub version_is : (Q : Program) → version_of Q ≡ (if slice_index (spelling Q) 5 == 1 then versions.One else if slice_index (spelling Q) 5 == 2 then versions.Two else versions.Three)
version_is Q = by_byte (version_of Q) Q (marks_from 0 Q.code) (constants_of Q)

long : (v : Version) (Q : Program) (marks : List Mark) (constants : List Value) → 5 < length (spelled_with v Q marks constants)
long versions.One Q marks constants = omega arith
long versions.Two Q marks constants = omega arith
long versions.Three Q marks constants = omega arith

pub long_enough : (Q : Program) → 5 < length (spelling Q)
long_enough Q = long (version_of Q) Q (marks_from 0 Q.code) (constants_of Q)
