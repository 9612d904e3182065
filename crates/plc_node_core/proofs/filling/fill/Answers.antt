use Rattle.std.proofs.Common.{List, Bool, ℤ, sym, subst, ◌∙◌}
use Rattle.io_image.specs.Book.{bits_at, words_at}
use Rattle.io_image.specs.Calls.{Does, wrote}
use Rattle.plc_node_core.proofs.Stages.{filled}
use Rattle.plc_node_core.proofs.filling.fill.Goals as goal

pub returns : goal.returns
returns g c = filled c.sample.result.inputs.cells c.args.inputs.now.cells c.sample.result.next
    c.in_ok-write_bits.field-0.number c.in_ok-write_words.field-0.number
    (c.know_whole.ensures.bits ∙ sym c.know_whole-2.ensures.bits)
    (c.know_whole.ensures.words ∙ sym c.know_whole-2.ensures.words)
    (λ b d h. subst (λ (x : List Bool). Does b (wrote (bits_at 0 x) c.in_ok-write_bits.field-0.number) d)
    c.as_slice.ensures h.0)
    (λ b d h. subst (λ (x : List ℤ). Does b (wrote (words_at 0 x) c.in_ok-write_words.field-0.number) d)
    c.as_slice-2.ensures h.0)
    (g.S.Staging.told c.args.staging.now) (g.S.Staging.told c.sample.new.self)
    (g.S.Staging.told c.write_bits.new.self) (g.S.Staging.told c.write_words.new.self)
    c.sample.ensures c.in_ok-write_bits.ensures.told c.in_ok-write_words.ensures.told
