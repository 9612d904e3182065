use Rattle.std.proofs.Common.{◌≡◌, List, [], Ok, subst}
use Rattle.std.proofs.lemmas.Result.{err_from_is_err_and}
use Rattle.il_loader.specs.declared.word.Word.{Word}
use Rattle.il_loader.specs.Reading.{items_from, next_word}
use Rattle.il_records.specs.Fields.{Fails}
use Rattle.il_loader.proofs.Loop.{goes_on, ends, is_done}
use Rattle.il_loader.proofs.reading.words_of.Goals as goal

pub returns-in_err-one : goal.returns-in_err-one
returns-in_err-one c =
    let p = err_from_is_err_and c.from_residual.result c.from_residual.ensures.1 in
    rw (p.1, p.2) (ends c.in_err-one.field-0.0 (next_word c.args.tables.now.version c.args.total c.args.tables.now.declared.now c.args.tables.now.labels.now c.args.tables.now.constants.now) c.args.count c.loop.counter c.loop.found.items c.loop.rest.now (items_from (next_word c.args.tables.now.version c.args.total c.args.tables.now.declared.now c.args.tables.now.labels.now c.args.tables.now.constants.now) c.args.count [] c.args.bytes.now) c.loop-test.true (subst (λ (s : List Word). Fails c.in_err-one.field-0.0 (next_word c.args.tables.now.version c.args.total c.args.tables.now.declared.now c.args.tables.now.labels.now c.args.tables.now.constants.now s c.loop.rest.now)) c.as_slice.ensures.value c.in_err-one.ensures) c.loop.invariant)

pub loop-preserved : goal.loop-preserved
loop-preserved c = rw c.in_ok-push.ensures.items (goes_on (next_word c.args.tables.now.version c.args.total c.args.tables.now.declared.now c.args.tables.now.labels.now c.args.tables.now.constants.now) c.args.count c.loop.counter c.loop.found.items c.loop.rest.now c.in_ok-one.one c.in_ok-one.after.now (items_from (next_word c.args.tables.now.version c.args.total c.args.tables.now.declared.now c.args.tables.now.labels.now c.args.tables.now.constants.now) c.args.count [] c.args.bytes.now) c.loop-test.true (subst (λ (s : List Word). next_word c.args.tables.now.version c.args.total c.args.tables.now.declared.now c.args.tables.now.labels.now c.args.tables.now.constants.now s c.loop.rest.now ≡ Ok (c.in_ok-one.one, c.in_ok-one.after.now)) c.as_slice.ensures.value c.in_ok-one.ensures) c.loop.invariant)

pub returns : goal.returns
returns c = is_done (next_word c.args.tables.now.version c.args.total c.args.tables.now.declared.now c.args.tables.now.labels.now c.args.tables.now.constants.now) c.args.count c.loop.counter c.loop.found.items c.loop.rest.now (items_from (next_word c.args.tables.now.version c.args.total c.args.tables.now.declared.now c.args.tables.now.labels.now c.args.tables.now.constants.now) c.args.count [] c.args.bytes.now) c.loop-test.false c.loop.invariant
