-- The mark of a change of the program: the epoch in which it was changed, the image to which, and the sum of both.
use Rattle.std.specs.Prelude.{ℕ, Bool, List, ◌++◌, ◌&&◌, ◌-◌, length, take, drop, bytes_eq, nat_le, Option, Some, None}
use Rattle.std.specs.Prelude.{if◌then◌else◌}
use Rattle.sha2.specs.Sha256.{sha256}
use Rattle.net_hello.specs.declared.hello.Epoch.{Epoch}
use Rattle.plc_store.specs.Spelling.{epoch_bytes}

abbrev pub mark_sum : List ℕ → List ℕ → List ℕ
mark_sum front image = sha256 (front ++ image)

-- these bytes of an epoch, an image, and the sum of both
abbrev pub marked : List ℕ → List ℕ → List ℕ
marked front image = front ++ (image ++ mark_sum front image)

-- of a change in this epoch, to this image
abbrev pub mark_bytes : Epoch → List ℕ → List ℕ
mark_bytes epoch image = marked (epoch_bytes epoch) image

-- what stands between the first bytes and the last ones, if the first name the epoch and the last are the sum
abbrev pub image_between : Epoch → List ℕ → List ℕ → List ℕ → Option (List ℕ)
image_between epoch front image sum = if bytes_eq front (epoch_bytes epoch)
    && bytes_eq sum (mark_sum (epoch_bytes epoch) image) then Some image else None

-- the image to which a mark of these bytes says that the program was changed in an epoch: the bytes are that mark, and
-- its image isn't empty
abbrev pub changed_image : Epoch → List ℕ → Option (List ℕ)
changed_image epoch bytes = if nat_le (length bytes) 72 then None
    else (let rest = drop 40 bytes in let count = length rest - 32 in
    image_between epoch (take 40 bytes) (take count rest) (drop count rest))
