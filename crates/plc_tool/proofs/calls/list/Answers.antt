use Rattle.std.proofs.Common.{inl}
use Rattle.il_text.specs.Meaning.{IsImageFault}
use Rattle.plc_tool.proofs.Endings.{by_end, stops_short}
use Rattle.plc_tool.proofs.Inputs.{of_image}
use Rattle.plc_tool.proofs.calls.list.Goals as goal

pub returns-clause-told : goal.returns-clause-told
returns-clause-told g c = by_end g.E.CountedWrite (IsImageFault c.args.image.now) _ _ _ _ _ _ (λ e is. inl is) _ c.put_listing.ensures.err c.ended.ensures.ends

pub returns-clause-cut : goal.returns-clause-cut
returns-clause-cut g c = λ two. stops_short g.E.CountedWrite _ _ (IsImageFault c.args.image.now) _ _ _ _ (of_image c.args.image.now) two c.put_listing.ensures.err c.ended.ensures.ends
