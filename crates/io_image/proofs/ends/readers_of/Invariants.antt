use Rattle.std.proofs.Common.{◌≡◌, [], All, vec_len}
use Rattle.io_image.proofs.ends.readers_of.Given as goal

abbrev pub invariant-loop : goal.invariant-loop
invariant-loop g l = (vec_len l.readers ≡ l.counter) × All (λ seen. seen ≡ []) l.readers.items
