use Rattle.std.proofs.Common.{◌*◌, ◌++◌, ◌<◌, ◌∷◌, [], ap, sym, ◌∙◌, append_assoc, map, length, arith, List, ℕ, Bool}
use Rattle.std.specs.List.{range_with_len}
use Rattle.std.proofs.lemmas.List.FromFn.{map-range_with_len_more}
use Rattle.modbus_wire.specs.Packing.{byte_of}
use Rattle.modbus_wire.proofs.packing.put_bits.Goals as goal

pub push-requires : goal.push-requires
push-requires c = let room : length c.loop-k.pdu.items < 253 = omega (arith, c.loop-k.invariant.short, c.loop-k-test.true, c.requires) in (omega arith, room)

pub loop-k-preserved : goal.loop-k-preserved
loop-k-preserved c =
    let bits : List Bool = c.args.bits.now in
    let f : ℕ → ℕ = λ k. byte_of bits (8 * k) in
    record {
      items = c.push.ensures.items ∙ (ap (λ (z : List ℕ). z ++ c.byte_of.result ∷ []) c.loop-k.invariant.items
          ∙ (append_assoc c.args.pdu.now.items (map f (range_with_len 0 c.loop-k.k)) (c.byte_of.result ∷ [])
          ∙ ap (λ (z : List ℕ). c.args.pdu.now.items ++ z) (ap (λ (z : ℕ). map f (range_with_len 0 c.loop-k.k) ++ z ∷ []) c.byte_of.ensures ∙ sym (map-range_with_len_more f 0 c.loop-k.k c.loop-k.k (omega arith)))));
      short = omega (arith, c.push.ensures.len, c.loop-k.invariant.short);
    }
