use Rattle.std.proofs.Common.{◌≡◌, ◌∙◌, rules, w64, to_z, of_z}
use Rattle.il_lister.proofs.Parts.{equally, stop, then}
use Rattle.il_lister.proofs.literal.write_literal.Goals as goal

pub returns-in_err-write_text-in-Int : goal.returns-in_err-write_text-in-Int
returns-in_err-write_text-in-Int g c = rw c.in-Int.is (stop _ c.from_residual.ensures.0 c.in_err-write_text-in-Int.ensures)

pub returns-in_err-write_text-in-Dint : goal.returns-in_err-write_text-in-Dint
returns-in_err-write_text-in-Dint g c = rw c.in-Dint.is (stop _ c.from_residual-in_err-write_text-in-Dint.ensures.0 c.in_err-write_text-in-Dint.ensures)

pub returns-in_err-write_text-in-Lint : goal.returns-in_err-write_text-in-Lint
returns-in_err-write_text-in-Lint g c = rw c.in-Lint.is (stop _ c.from_residual-in_err-write_text-in-Lint.ensures.0 c.in_err-write_text-in-Lint.ensures)

pub returns-in_err-write_text-in-Time : goal.returns-in_err-write_text-in-Time
returns-in_err-write_text-in-Time g c = rw c.in-Time.is (stop _ c.from_residual-in_err-write_text-in-Time.ensures.0 c.in_err-write_text-in-Time.ensures)

pub returns-in_err-write_number-in-Time : goal.returns-in_err-write_number-in-Time
returns-in_err-write_number-in-Time g c =
    let same : to_z w64 (of_z w64 c.from-in-Time.result) ≡ c.in-Time.milliseconds = search rules in
    rw c.in-Time.is (then c.in_ok-write_text-in-Time.ensures (stop _ c.from_residual-in_err-write_number-in-Time.ensures.0 (rw same at c.in_err-write_number-in-Time.ensures)))

pub returns-in_ok-write_text-in-Int : goal.returns-in_ok-write_text-in-Int
returns-in_ok-write_text-in-Int g c = rw c.in-Int.is (then c.in_ok-write_text-in-Int.ensures (search rules))

pub returns-in_ok-write_text-in-Dint : goal.returns-in_ok-write_text-in-Dint
returns-in_ok-write_text-in-Dint g c = rw c.in-Dint.is (then c.in_ok-write_text-in-Dint.ensures (search rules))

pub returns-in_ok-write_text-in-Lint : goal.returns-in_ok-write_text-in-Lint
returns-in_ok-write_text-in-Lint g c = rw c.in-Lint.is (then c.in_ok-write_text-in-Lint.ensures (search rules))

pub returns-in_ok-write_number-in-Time : goal.returns-in_ok-write_number-in-Time
returns-in_ok-write_number-in-Time g c =
    let same : to_z w64 (of_z w64 c.from-in-Time.result) ≡ c.in-Time.milliseconds = search rules in
    rw c.in-Time.is (then c.in_ok-write_text-in-Time.ensures (then (rw same at c.in_ok-write_number-in-Time.ensures) c.write_text-in-Time-2.ensures))

pub returns-in_err-write_text-in-Real : goal.returns-in_err-write_text-in-Real
returns-in_err-write_text-in-Real g c = rw c.in-Real.is (stop _ c.from_residual-in_err-write_text-in-Real.ensures.0 c.in_err-write_text-in-Real.ensures)

pub returns-in_ok-write_text-in-Real : goal.returns-in_ok-write_text-in-Real
returns-in_ok-write_text-in-Real g c = rw c.in-Real.is (then c.in_ok-write_text-in-Real.ensures (equally (c.as_bytes.ensures.value ∙ c.as_str.ensures.value ∙ c.text-text.ensures) c.write_text-in-Real-2.ensures))

pub returns-in_err-write_text-in-Word : goal.returns-in_err-write_text-in-Word
returns-in_err-write_text-in-Word g c = rw c.in-Word.is (stop _ c.from_residual-in_err-write_text-in-Word.ensures.0 c.in_err-write_text-in-Word.ensures)

pub returns-in_ok-write_text-in-Word : goal.returns-in_ok-write_text-in-Word
returns-in_ok-write_text-in-Word g c = rw c.in-Word.is (then c.in_ok-write_text-in-Word.ensures (equally c.hex_word.ensures c.write_text-in-Word-2.ensures))

pub returns-in_err-write_text-in-Dword : goal.returns-in_err-write_text-in-Dword
returns-in_err-write_text-in-Dword g c = rw c.in-Dword.is (stop _ c.from_residual-in_err-write_text-in-Dword.ensures.0 c.in_err-write_text-in-Dword.ensures)

pub returns-in_ok-write_text-in-Dword : goal.returns-in_ok-write_text-in-Dword
returns-in_ok-write_text-in-Dword g c = rw c.in-Dword.is (then c.in_ok-write_text-in-Dword.ensures c.write_double_word.ensures)
