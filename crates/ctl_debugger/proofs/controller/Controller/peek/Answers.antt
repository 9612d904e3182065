use Rattle.std.proofs.Common.{◌≡◌, Bool, true, cond, None, List, sym, ap, ◌∙◌}
use Rattle.il_model.specs.declared.codes.Version.{Version}
use Rattle.il_model.specs.declared.program.Place.{Place}
use Rattle.il_model.specs.CodedOperands.{any_loc}
use Rattle.il_model.specs.Image.{version_of, may_lie}
use Rattle.ctl_model.specs.Slots.{places_of, slot_value}
use Rattle.ctl_debugger.specs.Owned.{Owned}
use Rattle.ctl_debugger.proofs.controller.Controller.peek.Goals as goal

pub returns-then-may_lie : goal.returns-then-may_lie
returns-then-may_lie c =
    let n = c.args.slot.0 in
    let value : c.peek.result ≡ slot_value (places_of c.args.self.now.program) c.args.self.now.control.cycle.state n =
    c.peek.ensures
    ∙ (ap (λ (lie : List Place). slot_value lie c.self.inside.cycle.cycle.state n) c.self.invariant.cycle.places
    ∙ ap (λ (o : Owned). slot_value (places_of o.program) o.control.cycle.state n) c.self.view_is) in
    let there : may_lie (version_of c.args.self.now.program) (any_loc n) ≡ true =
    ap (λ (o : Owned). may_lie (version_of o.program) (any_loc n)) (sym c.self.view_is)
    ∙ (ap (λ (v : Version). may_lie v (any_loc n)) (sym c.version.ensures)
    ∙ (ap (may_lie c.version.result) (sym c.of_code.ensures) ∙ (sym c.may_lie.ensures ∙ c.if-may_lie.true))) in
    value ∙ sym (ap (λ (b : Bool). cond b (slot_value (places_of c.args.self.now.program) c.args.self.now.control.cycle.state n) None) there)
