-- What a client takes of a message as released is what that releases.
use Rattle.std.proofs.Common.{◌≡◌, Bool, true, false, Option, Some, None, refl}
use Rattle.io_image.specs.declared.release.Release.{Release}
use Rattle.plc_node_core.specs.Scanning.{answered_by, released_in}

pub released_back : (release : Option Release) (is_answered shows : Bool) → released_in (answered_by release is_answered shows) ≡ release
released_back (Some release) is_answered shows = refl
released_back None true shows = refl
released_back None false shows = refl
