use Rattle.std.proofs.Common.{◌++◌, ◌<◌, ◌∷◌, [], ap, sym, ◌∙◌, map, length, arith, ℤ, List, rules}
use Rattle.std.specs.Int.{w16}
use mir.Val.{SFits}
use Rattle.std.proofs.lemmas.Int.{to_z-of_z}
use Rattle.std.specs.List.{range_with_len}
use Rattle.std.proofs.lemmas.List.FromFn.{map-range_with_len_more}
use Rattle.modbus_wire.specs.Packing.{word_of}
use Rattle.modbus_wire.proofs.packing.words_of.Goals as goal

pub push-requires : goal.push-requires
push-requires c = let room : length c.loop-k.words.items < 125 = omega (arith, c.loop-k.invariant.short, c.loop-k-test.true, c.requires.0) in (omega arith, room)

pub loop-k-preserved : goal.loop-k-preserved
loop-k-preserved c =
    let f = word_of c.args.bytes.now in
    let fits : SFits w16 c.word_of.result = search rules in
    record {
      items = c.push.ensures.items ∙ (ap (λ (z : ℤ). c.loop-k.words.items ++ z ∷ []) (to_z-of_z w16 c.word_of.result fits) ∙ ap (λ (z : List ℤ). z ++ c.word_of.result ∷ []) c.loop-k.invariant.items
          ∙ (ap (λ (z : ℤ). map f (range_with_len 0 c.loop-k.k) ++ z ∷ []) c.word_of.ensures ∙ sym (map-range_with_len_more f 0 c.loop-k.k c.loop-k.k (omega arith))));
      short = omega (arith, c.push.ensures.len, c.loop-k.invariant.short);
    }
