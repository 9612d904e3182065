use Rattle.std.proofs.Common.{◌≡◌, List, ℕ, [], ◌∷◌, Ok, sym, ap, subst, ◌∙◌}
use Rattle.net_addresses.specs.Texts.{networks_in, texts_in, with_text, with_texts}
use Rattle.net_addresses.proofs.Lists.{IsFault, first_read, first_told, handed, left}
use Rattle.net_addresses.proofs.networks.Networks.read.Goals as goal

pub returns-in_err-add : goal.returns-in_err-add
returns-in_err-add c =
    let said = networks_in c.args.text.now in
    let given = c.texts.networks.networks.items in
    let first = c.in-Some.first.now in
    let others = texts_in c.in-Some.others.now in
    let e = c.in_err-add.field-0.0 in
    handed said c.from_residual.result e c.from_residual.ensures.1
    (subst (λ s. IsFault s e) c.texts.invariant
    (subst (λ (ts : List (List ℕ)). IsFault (with_texts given ts) e) (sym c.in-Some.ensures.0)
    (first_told given first others e (left (with_text given first) given c.add.new.self.networks.items e c.in_err-add.ensures))))

pub texts-preserved : goal.texts-preserved
texts-preserved c =
    let given = c.texts.networks.networks.items in
    sym (first_read given c.add.new.self.networks.items c.in-Some.first.now (texts_in c.in-Some.others.now) c.in_ok-add.ensures)
    ∙ ap (λ (ts : List (List ℕ)). with_texts given ts) (sym c.in-Some.ensures.0)
    ∙ c.texts.invariant

pub returns-in_err-add-2 : goal.returns-in_err-add-2
returns-in_err-add-2 c =
    let said = networks_in c.args.text.now in
    let given = c.texts.networks.networks.items in
    let rest = c.texts.rest.now in
    let e = c.in_err-add-2.field-0.0 in
    handed said c.from_residual-in_err-add-2.result e c.from_residual-in_err-add-2.ensures.1
    (subst (λ s. IsFault s e) c.texts.invariant
    (subst (λ (ts : List (List ℕ)). IsFault (with_texts given ts) e) (sym c.in_default.ensures)
    (first_told given rest [] e (left (with_text given rest) given c.add-2.new.self.networks.items e c.in_err-add-2.ensures))))

pub returns : goal.returns
returns c =
    let given = c.texts.networks.networks.items in
    sym c.texts.invariant
    ∙ ap (λ (ts : List (List ℕ)). with_texts given ts) c.in_default.ensures
    ∙ first_read given c.add-2.new.self.networks.items c.texts.rest.now [] c.in_ok-add-2.ensures
