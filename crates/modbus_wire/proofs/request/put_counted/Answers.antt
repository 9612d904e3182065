use Rattle.std.proofs.Common.{◌≡◌, ℕ, ◌*◌, ◌++◌, ◌∷◌, [], List, length, arith, ap, ◌∙◌, append_assoc}
use Rattle.modbus_wire.specs.Packing.{bytes_of_words}
use Rattle.modbus_wire.specs.Requests.{counted}
use Rattle.modbus_wire.proofs.Lengths.{length_bytes_of_words}
use Rattle.modbus_wire.proofs.request.put_counted.Goals as goal

-- a count and the bytes behind what is there
counted_more : (old mid out : List ℕ) (n : ℕ) (bytes : List ℕ) → mid ≡ old ++ n ∷ [] → n ≡ length bytes → out ≡ mid ++ bytes → out ≡ old ++ counted bytes
counted_more old mid out n bytes e is f = f ∙ (ap (λ (l : List ℕ). l ++ bytes) e ∙ (append_assoc old (n ∷ []) bytes ∙ ap (λ (k : ℕ). old ++ k ∷ bytes) is))

pub returns-clause-is : goal.returns-clause-is
returns-clause-is c =
    let size : length (bytes_of_words c.args.words.now) ≡ 2 * length c.args.words.now = length_bytes_of_words c.args.words.now in
    counted_more c.args.pdu.now.items c.push.new.self.items c.put_words.new.pdu.items _ (bytes_of_words c.args.words.now) c.push.ensures.items (omega (arith, size)) c.put_words.ensures.is
