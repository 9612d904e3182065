use Rattle.std.proofs.Common.{◌+◌, ◌++◌, ◌∷◌, [], List, drop, sym, ap, ◌∙◌, append_assoc, append-nil}
use Rattle.std.proofs.lemmas.List.{drop_all}
use Rattle.il_model.specs.declared.command.Answer.{Answer}
use Rattle.plc_json.specs.declared.command.NamedCommand.{NamedCommand}
use Rattle.plc_names.specs.Named.{answers_by}
use Rattle.plc_names.proofs.Next.{next_answers}
use Rattle.plc_names.proofs.naming.answers_of.Goals as goal

pub loop-named-preserved : goal.loop-named-preserved
loop-named-preserved c =
    let told : List Answer = c.loop-named.answers.items in
    let rest : List Answer = answers_by c.answer.new.controller (drop (c.loop-named.named-index + 1) c.args.commands.now) in
    let next = next_answers c.loop-named.controller c.answer.new.controller c.args.commands.now c.loop-named.named-index c.named-item.result c.in_ok-next.next c.loop-named-test.true c.named-item.is c.in_ok-next.ensures.answered in
    ap (λ (l : List Answer). l ++ rest) c.in_ok-push.ensures.items
    ∙ (append_assoc told (c.in_ok-next.next ∷ []) rest
    ∙ (ap (λ (l : List Answer). told ++ l) (sym next) ∙ c.loop-named.invariant))

pub returns : goal.returns
returns c =
    sym (append-nil c.loop-named.answers.items)
    ∙ (ap (λ (l : List NamedCommand). c.loop-named.answers.items ++ answers_by c.loop-named.controller l) (sym (drop_all c.loop-named.named-index c.args.commands.now c.loop-named-test.false))
    ∙ c.loop-named.invariant)
