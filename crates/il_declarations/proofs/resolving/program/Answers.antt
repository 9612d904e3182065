use Rattle.std.proofs.Common.{sym, subst}
use Rattle.il_model.specs.declared.dialect.Dialect.{Dialect}
use Rattle.il_reader.specs.Words.{AreWords}
use Rattle.il_declarations.proofs.Fits.{parts_fit, never_none, is_text}
use Rattle.il_declarations.proofs.resolving.program.Goals as goal

pub unreachable-requires : goal.unreachable-requires
unreachable-requires c =
    let says = c.args.source.now.says in
    let parts = parts_fit c.args.dialect says _ _ c.in_ok-known.known c.into_parts-variables.result.0.items c.into_parts-variables.result.1.items c.in_ok-code.code.items (subst (λ (x : Dialect). AreWords x says) (sym c.requires) c.is_read.ensures.words) c.blocks-2.ensures c.lines.ensures c.into_parts-variables.ensures.variables c.into_parts-variables.ensures.instances c.in_ok-known.ensures c.in_ok-code.ensures in
    never_none _ c.new.result parts c.new.ensures c.in-None.is

pub returns-clause-text : goal.returns-clause-text
returns-clause-text c =
    let says = c.args.source.now.says in
    let parts = parts_fit c.args.dialect says _ _ c.in_ok-known.known c.into_parts-variables.result.0.items c.into_parts-variables.result.1.items c.in_ok-code.code.items (subst (λ (x : Dialect). AreWords x says) (sym c.requires) c.is_read.ensures.words) c.blocks-2.ensures c.lines.ensures c.into_parts-variables.ensures.variables c.into_parts-variables.ensures.instances c.in_ok-known.ensures c.in_ok-code.ensures in
    is_text _ c.in-Some.program c.new.result parts c.new.ensures c.in-Some.is
