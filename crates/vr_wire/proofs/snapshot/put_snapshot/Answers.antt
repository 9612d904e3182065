use Rattle.std.proofs.Common.{◌≡◌, ◌++◌, ◌∙◌, ap}
use Rattle.std.specs.Int.{w32, w64, to_be_bytes}
use Rattle.il_model.specs.Snapshots.{SavedController}
use Rattle.vr_wire.specs.Fields.{counted}
use Rattle.vr_wire.specs.Snapshots.{scan_bytes, areas_bytes, tables_bytes}
use Rattle.vr_wire.proofs.InFour.{in_four}
use Rattle.vr_wire.proofs.snapshot.put_snapshot.Goals as goal

pub returns-clause-text : goal.returns-clause-text
returns-clause-text c =
    let s = c.args.s.now in
    let out = c.args.out.now.items in
    let image : c.as_slice.result.now ≡ s.image = c.as_slice.ensures.value ∙ ap (λ (x : SavedController). x.image) c.s.view_is in
    let count : c.s.inside.count ≡ s.count = ap (λ (x : SavedController). x.count) c.s.view_is in
    let moment : c.s.inside.moment ≡ s.moment = ap (λ (x : SavedController). x.moment) c.s.view_is in
    in_four c.put_content.result out c.put_image.new.out.items c.put_u64.new.out.items c.put_u64-2.new.out.items c.put_content.new.out.items
    (counted w32 s.image) (to_be_bytes w64 s.count) (to_be_bytes w64 s.moment)
    (scan_bytes s.phase s.position s.cr s.deferred ++ (areas_bytes s.input s.output s.memory ++ tables_bytes s.variables s.instances s.breaks s.forces))
    (c.in_ok-put_image.ensures ∙ ap (λ bytes. out ++ counted w32 bytes) image)
    (c.in_ok-put_u64.ensures ∙ ap (λ n. c.put_image.new.out.items ++ to_be_bytes w64 n) count)
    (c.in_ok-put_u64-2.ensures ∙ ap (λ n. c.put_u64.new.out.items ++ to_be_bytes w64 n) moment)
    c.put_content.ensures.text
