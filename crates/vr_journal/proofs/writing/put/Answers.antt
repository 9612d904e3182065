use Rattle.std.proofs.Common.{◌≡◌, ℕ, suc, ◌+◌, List, [], ◌∷◌, ◌++◌, length, ap, ap₂, ◌∙◌, arith}
use Rattle.byteorder.specs.Endian.{big_bytes}
use Rattle.vr_journal.specs.Records.{code}
use Rattle.vr_journal.proofs.writing.put.Goals as goal

pub returns-clause-put : goal.returns-clause-put
returns-clause-put c =
    let bytes = c.args.bytes.now in
    let long : length bytes + 1 ≡ suc (length bytes) = omega arith in
    let front = c.as_slice.ensures ∙ c.front_of-front.ensures ∙ ap₂ (λ (n s : ℕ). big_bytes 4 n ++ (big_bytes 8 s ++ code c.args.kind ∷ [])) long c.sum_behind-behind.ensures in
    c.in_ok-put_both.ensures.ok ∙ ap (λ (f : List ℕ). c.args.out.now.items ++ (f ++ bytes)) front
