use Rattle.std.proofs.Common.{ap, sym, ◌∙◌, rules, SFits, ℤ}
use Rattle.std.specs.Int.{w16}
use Rattle.std.specs.Prelude.{Option, Some}
use Rattle.std.proofs.lemmas.Int.{to_z-of_z}
use Rattle.modbus_wire.specs.declared.request.Request.{Request}
use Rattle.field_map.specs.declared.places.Places.{Places}
use Rattle.field_map.specs.Asking.{write_request, all_words}
use Rattle.field_cycle.specs.Signs.{word_of}
use Rattle.field_cycle.proofs.signs.Signs.counted.Goals as goal

pub returns : goal.returns
returns c =
    let fits : SFits w16 c.args.self.now.count = search rules in
    let p = c.in_ok-places.places in
    ap (λ (r : Request). Some r) (c.write_word.ensures.is
    ∙ ap (λ (word : ℤ). write_request p.from p (all_words word)) (to_z-of_z w16 c.args.self.now.count fits))
    ∙ sym (ap (λ (o : Option Places). word_of o c.args.self.now.count) c.in_ok-places.was)
