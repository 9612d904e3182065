use Rattle.std.proofs.Common.{◌≡◌, ◌+◌, ◌∷◌, List, Vec, ℕ, Global, Option, MatchOption, drop, sym, ap, ◌∙◌, subst, arith}
use Rattle.std.proofs.lemmas.List.{drop_more}
use Rattle.vr_model.specs.declared.event.Event.{Event}
use Rattle.vr_kept.specs.Inputs.{IsOf, IsOfNone}
use Rattle.vr_kept.proofs.Several.{one_more_at, no_more_at, all_read_at}
use Rattle.vr_kept.proofs.inputs.read_inputs.Goals as goal

-- what was found of these bytes
abbrev Found : List ℕ → Option Event → Type 0
Found bytes o = MatchOption o (IsOfNone bytes) (λ event. IsOf bytes event)

pub returns-in-None : goal.returns-in-None
returns-in-None c =
    let i = c.loop-record.record-index in
    let rs = c.args.records.now in
    let r = c.record-item.result in
    let there : drop i rs ≡ r ∷ drop (i + 1) rs = drop_more rs i r (omega arith) ∙ ap (λ (x : Vec ℕ Global). x ∷ drop (i + 1) rs) (sym c.record-item.is) in
    no_more_at rs i r c.loop-record.events.items there c.loop-record.invariant c.as_slice.result.now c.as_slice.ensures.value
    (subst (λ (o : Option Event). Found c.as_slice.result.now o) c.in-None.is c.in_ok-event.ensures)

pub loop-record-preserved : goal.loop-record-preserved
loop-record-preserved c =
    let i = c.loop-record.record-index in
    let rs = c.args.records.now in
    let r = c.record-item.result in
    let there : drop i rs ≡ r ∷ drop (i + 1) rs = drop_more rs i r (omega arith) ∙ ap (λ (x : Vec ℕ Global). x ∷ drop (i + 1) rs) (sym c.record-item.is) in
    one_more_at rs i r c.loop-record.events.items there c.loop-record.invariant c.as_slice.result.now c.in-Some.event c.push.new.self.items c.as_slice.ensures.value
    (subst (λ (o : Option Event). Found c.as_slice.result.now o) c.in-Some.is c.in_ok-event.ensures) c.in_ok-push-in-Some.ensures.items

pub returns : goal.returns
returns c = all_read_at c.args.records.now c.loop-record.record-index c.loop-record.events.items (omega arith) c.loop-record.invariant
