use Rattle.std.proofs.Common.{inl}
use Rattle.il_text.specs.Meaning.{IsTextFault}
use Rattle.plc_tool.proofs.Endings.{by_end, told_at_1, unwritten, refused, stops_short}
use Rattle.plc_tool.proofs.Inputs.{of_text}
use Rattle.plc_tool.proofs.calls.asm.Goals as goal

pub returns-clause-told : goal.returns-clause-told
returns-clause-told g c = by_end g.E.CountedWrite (IsTextFault c.args.source.now) _ _ _ _ _ _ (λ e is. inl is) _ c.put_image.ensures.err c.ended.ensures.ends

pub returns-clause-refused : goal.returns-clause-refused
returns-clause-refused g c = λ one.
    let as_it_was = unwritten _ _ _ _ (λ e is. inl is) _ _ one c.ended.ensures.done c.ended.ensures.told c.put_image.ensures.err in
    (refused (IsTextFault c.args.source.now) (told_at_1 g.E.CountedWrite _ _ _ _ (returns-clause-told g c) one), as_it_was.0, as_it_was.1)

pub returns-clause-cut : goal.returns-clause-cut
returns-clause-cut g c = λ two. stops_short g.E.CountedWrite _ _ (IsTextFault c.args.source.now) _ _ _ _ (of_text c.args.source.now) two c.put_image.ensures.err c.ended.ensures.ends
