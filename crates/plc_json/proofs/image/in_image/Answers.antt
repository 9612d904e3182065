use Rattle.std.proofs.Common.{List, Some, sym, ap, ◌∙◌}
use Rattle.serde_json.specs.View.{view, items_view}
use Rattle.serde_json.specs.declared.value.Value.{Value}
use Rattle.plc_json.proofs.Whole.{no_bits, no_words, the_image}
use Rattle.plc_json.proofs.image.in_image.Goals as goal

pub returns-in_err-bits : goal.returns-in_err-bits
returns-in_err-bits c =
    let array = ap (λ (vs : List Value). Some (items_view vs)) c.as_slice.ensures.value ∙ c.in_ok-as_array.ensures in
    c.from_residual-in_err-bits.ensures ∙ sym (no_bits (view c.args.bits.now) (view c.args.words.now) c.as_slice.result.now c.as_slice.result.now array c.in_err-bits.ensures)

pub returns-in_err-words : goal.returns-in_err-words
returns-in_err-words c =
    let array = ap (λ (vs : List Value). Some (items_view vs)) c.as_slice.ensures.value ∙ c.in_ok-as_array.ensures in
    let other = ap (λ (vs : List Value). Some (items_view vs)) c.as_slice-2.ensures.value ∙ c.in_ok-as_array-2.ensures in
    c.from_residual-in_err-words.ensures ∙ sym (no_words (view c.args.bits.now) (view c.args.words.now) c.as_slice.result.now c.as_slice-2.result.now array c.in_ok-bits.bits c.in_ok-bits.ensures other c.in_err-words.ensures)

pub returns : goal.returns
returns c =
    let array = ap (λ (vs : List Value). Some (items_view vs)) c.as_slice.ensures.value ∙ c.in_ok-as_array.ensures in
    let other = ap (λ (vs : List Value). Some (items_view vs)) c.as_slice-2.ensures.value ∙ c.in_ok-as_array-2.ensures in
    sym (the_image (view c.args.bits.now) (view c.args.words.now) c.as_slice.result.now c.as_slice-2.result.now array c.in_ok-bits.bits c.in_ok-bits.ensures other c.in_ok-words.words c.in_ok-words.ensures)
