use Rattle.std.proofs.Common.{rules, ◌≡◌, drop, sym, ap, ◌∙◌, arith}
use Rattle.byteorder.specs.Endian.{big_number}
use Rattle.vr_journal.specs.Records.{sum_over}
use Rattle.vr_journal.proofs.Fronts.{no_body, cut_off, wrong_sum, told_body, told_stands}
use Rattle.vr_journal.proofs.reading.first_in.Goals.{then-length-eq0-via-then-length-eq0, then-length-eq0-via-else-length-eq0+then-bytes-length}
use Rattle.vr_journal.proofs.reading.first_in.Goals as goal

pub returns-then-length-eq0-clause-none : goal.returns-then-length-eq0-clause-none
returns-then-length-eq0-clause-none c = λ e rest s.
    let sum = c.args.sum in
    let bytes = c.args.bytes.now in
    let n : c.read_u32-length.result ≡ big_number 4 bytes = c.read_u32-length.ensures in
    elim c.then-length-eq0.branch [
      | then-length-eq0-via-then-length-eq0 w ↦ no_body sum bytes (omega (arith, n)) e rest s
      | then-length-eq0-via-else-length-eq0+then-bytes-length w ↦ cut_off sum bytes (omega (arith, n)) e rest s
    ]

pub returns-then-read_u64-behind-clause-none : goal.returns-then-read_u64-behind-clause-none
returns-then-read_u64-behind-clause-none c = λ e rest s.
    let sum = c.args.sum in
    let bytes = c.args.bytes.now in
    let n = c.read_u32-length.result in
    let told : c.read_u64.result ≡ big_number 8 (drop 4 bytes) = first_of (search rules, grind arith) in
    wrong_sum sum bytes n c.read_u32-length.ensures (λ right. c.if-read_u64-behind.true (told ∙ right ∙ sym c.sum_over-behind.ensures)) e rest s

pub returns-clause-found : goal.returns-clause-found
returns-clause-found c =
    let sum = c.args.sum in
    let bytes = c.args.bytes.now in
    let n = c.read_u32-length.result in
    let told : c.read_u64.result ≡ big_number 8 (drop 4 bytes) = first_of (search rules, grind arith) in
    told_stands sum bytes c.in_ok-kind.kind n c.read_u32-length.ensures (omega arith) (omega arith) c.in_ok-kind.ensures.found (sym told ∙ c.if-read_u64-behind.false ∙ c.sum_over-behind.ensures)

pub returns-clause-sum : goal.returns-clause-sum
returns-clause-sum c =
    let bytes = c.args.bytes.now in
    let n = c.read_u32-length.result in
    c.sum_over-behind.ensures ∙ ap (sum_over c.args.sum) (told_body bytes c.in_ok-kind.kind n (omega arith) (omega arith) c.in_ok-kind.ensures.found)
