use Rattle.std.proofs.Common.{◌≡◌, ◌∷◌, []}
use Rattle.vr_threads.proofs.Files.{longer}
use Rattle.vr_threads.proofs.file_store.stored_in.Goals as goal

pub returns-in-Some-2-clause-stored : goal.returns-in-Some-2-clause-stored
returns-in-Some-2-clause-stored g c =
    let front = rw c.in-Some.is at c.in_ok-bytes.ensures.bytes in
    longer _ _ _ c.in-Some.bytes c.in-Some-2.field-0 front.1 front.0 (rw c.in-Some-2.is at c.in_ok-next_byte.ensures.byte)
