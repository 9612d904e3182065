use Rattle.std.proofs.Common.{length, ap, arith}
use Rattle.plc_json.specs.Commands.{numbered_word_of}
use Rattle.plc_json.proofs.Pairs.{no_pair}
use Rattle.plc_json.proofs.image.numbered_word.Goals as goal

pub returns-in_default : goal.returns-in_default
returns-in_default c = no_pair numbered_word_of _ c.in_ok-as_array.field-0.now.items c.in_ok-as_array.ensures (λ e. let n = ap length c.as_slice.ensures.value in omega arith)

pub returns-in_default-2 : goal.returns-in_default-2
returns-in_default-2 c = no_pair numbered_word_of _ c.in_ok-as_array.field-0.now.items c.in_ok-as_array.ensures (λ e. let n = ap length c.as_slice.ensures.value in omega arith)
