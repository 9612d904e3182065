use Rattle.std.proofs.Common.{get_or, pos, arith, refl, rules, SFits, w16}
use Rattle.std.proofs.lemmas.Int.{to_z-of_z}
use Rattle.il_text.specs.Lines.{word_text}
use Rattle.il_text.proofs.Numbered.{none_written, more_written, all_written}
use Rattle.il_text.proofs.line.words_not_0.Goals as goal

pub loop-number-init : goal.loop-number-init
loop-number-init g c = λ plain. none_written _ word_text c.args.words.now _ plain

pub loop-number-preserved : goal.loop-number-preserved
loop-number-preserved g c = λ plain.
    let h = c.loop-number.invariant plain in
    let fits : SFits w16 (get_or c.args.words.now c.loop-number.number (pos 0)) = search rules in
    more_written _ word_text c.args.words.now _ _ _ _ (pos 0) (omega arith) h (rw (to_z-of_z w16 _ fits) at (c.in_ok-word_not_0.ensures h.plain refl))

pub returns : goal.returns
returns g c = λ plain ok. all_written _ word_text c.args.words.now _ _ _ c.loop-number-test.false (c.loop-number.invariant plain)
