use Rattle.std.proofs.Common.{◌≡◌, ◌++◌, ◌∷◌, [], sym, ◌∙◌, map}
use Rattle.std.proofs.lemmas.Result.{err_from_is_err_and}
use Rattle.std.proofs.lemmas.List.{map_push}
use Rattle.il_reader.specs.Tokens.{tokens_of}
use Rattle.il_reader.specs.Reading.{many}
use Rattle.il_reader.proofs.Loop.{begins, goes_on, fails, stopped}
use Rattle.il_reader.proofs.lists.many.Goals as goal

pub loop-dialect-init : goal.loop-dialect-init
loop-dialect-init g c = rw c.new-found.ensures.items (begins (g.L.Listed.ends c.args.dialect) (g.L.Listed.item_at c.args.dialect) (tokens_of c.args.dialect c.args.bytes.now))

pub returns-in_err-one : goal.returns-in_err-one
returns-in_err-one g c =
    let p = err_from_is_err_and c.from_residual.result c.from_residual.ensures.1 in
    let t = tokens_of c.args.dialect c.loop-dialect.rest.now in
    rw (p.1, p.2) (fails c.in_err-one.field-0.0 (g.L.Listed.ends c.args.dialect) (g.L.Listed.item_at c.args.dialect) (map g.L.Listed.said c.loop-dialect.found.items) (tokens_of c.args.dialect c.loop-dialect.rest.now) (many (g.L.Listed.ends c.args.dialect) (g.L.Listed.item_at c.args.dialect) (tokens_of c.args.dialect c.args.bytes.now)) (sym c.stops.ensures ∙ c.loop-dialect-test.true) c.in_err-one.ensures.read c.loop-dialect.invariant)

pub loop-dialect-preserved : goal.loop-dialect-preserved
loop-dialect-preserved g c =
    let e : map g.L.Listed.said c.push.new.self.items ≡ map g.L.Listed.said c.loop-dialect.found.items ++ g.L.Listed.said c.in_ok-one.one ∷ [] = rw c.in_ok-push.ensures.items (map_push _ c.loop-dialect.found.items c.in_ok-one.one) in
    rw e (goes_on (g.L.Listed.ends c.args.dialect) (g.L.Listed.item_at c.args.dialect) (map g.L.Listed.said c.loop-dialect.found.items) (tokens_of c.args.dialect c.loop-dialect.rest.now) (tokens_of c.args.dialect c.in_ok-one.after.now) (g.L.Listed.said c.in_ok-one.one) (many (g.L.Listed.ends c.args.dialect) (g.L.Listed.item_at c.args.dialect) (tokens_of c.args.dialect c.args.bytes.now)) (sym c.stops.ensures ∙ c.loop-dialect-test.true) c.in_ok-one.ensures.read c.in_ok-one.ensures.moves c.loop-dialect.invariant)

pub returns : goal.returns
returns g c = stopped (g.L.Listed.ends c.args.dialect) (g.L.Listed.item_at c.args.dialect) (map g.L.Listed.said c.loop-dialect.found.items) (tokens_of c.args.dialect c.loop-dialect.rest.now) (many (g.L.Listed.ends c.args.dialect) (g.L.Listed.item_at c.args.dialect) (tokens_of c.args.dialect c.args.bytes.now)) (sym c.stops.ensures ∙ c.loop-dialect-test.false) c.loop-dialect.invariant
