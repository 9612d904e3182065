use Rattle.std.proofs.Common.{ℕ, List, ◌++◌, ap, ◌∙◌}
use Rattle.sha2.specs.Sha256.{sha256}
use Rattle.net_keys.specs.Hmac.{hmac, key_block, xored}
use Rattle.net_keys.proofs.hmac.Hmac.finalize.Goals as goal

pub returns : goal.returns
unfolding hmac
returns c key text sums =
    c.finalize-2.ensures _ (c.update.ensures _ sums.1)
    ∙ ap (λ (inner : List ℕ). sha256 (xored (key_block key) 0x5C ++ inner)) (c.finalize.ensures _ sums.0)
