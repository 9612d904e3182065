use Rattle.std.proofs.Common.{◌++◌, ◌<◌, ◌∷◌, [], ap, sym, ◌∙◌, map, length, arith, List, Bool}
use Rattle.std.specs.List.{range_with_len}
use Rattle.std.proofs.lemmas.List.FromFn.{map-range_with_len_more}
use Rattle.modbus_wire.specs.Packing.{bit_of}
use Rattle.modbus_wire.proofs.packing.bits_of.Goals as goal

pub push-requires : goal.push-requires
push-requires c = let room : length c.loop-n.bits.items < 2000 = omega (arith, c.loop-n.invariant.short, c.loop-n-test.true, c.requires.0) in (omega arith, room)

pub loop-n-preserved : goal.loop-n-preserved
loop-n-preserved c =
    let f = bit_of c.args.bytes.now in
    record {
      items = c.push.ensures.items ∙ (ap (λ (z : List Bool). z ++ c.bit_of.result ∷ []) c.loop-n.invariant.items
          ∙ (ap (λ (z : Bool). map f (range_with_len 0 c.loop-n.n) ++ z ∷ []) c.bit_of.ensures ∙ sym (map-range_with_len_more f 0 c.loop-n.n c.loop-n.n (omega arith))));
      short = omega (arith, c.push.ensures.len, c.loop-n.invariant.short);
    }
