use Rattle.std.proofs.Common.{rules, ◌≡◌, ◌+◌, ◌*◌, ◌^◌, ◌%◌, drop, get_or, sym, ◌∙◌, arith}
use Rattle.std.specs.Prelude.{bit_xor}
use Rattle.std.proofs.lemmas.List.{at_drop_more}
use Rattle.vr_journal.specs.Records.{prime, sum_over}
use Rattle.vr_journal.proofs.record.sum_over.Goals as goal

pub loop-byte-preserved : goal.loop-byte-preserved
loop-byte-preserved c =
    let i = c.loop-byte.byte-index in
    let behind = c.loop-byte.behind in
    let bytes = c.args.bytes.now in
    let step : sum_over behind (drop i bytes) ≡ sum_over (bit_xor behind (get_or bytes i 0) * prime % 2 ^ 64) (drop (i + 1) bytes) = at_drop_more (sum_over behind) bytes i 0 (omega arith) in
    let now : sum_over (bit_xor behind (get_or bytes i 0) * prime % 2 ^ 64) (drop (i + 1) bytes) ≡ sum_over c.args.sum bytes = sym step ∙ c.loop-byte.invariant in
    first_of (search (rules, now), grind (arith, now))
