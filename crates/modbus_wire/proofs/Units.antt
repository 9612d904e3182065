-- Streams of application data units can be read: no unit is a prefix of another.
use Rattle.std.proofs.Common.{◌≡◌, ℕ, suc, ◌+◌, ◌*◌, ◌<◌, ◌≤◌, List, ◌++◌, length, drop, take, slice_index, refl, sym, ap, subst, ◌∙◌, arith, length-append}
use Rattle.std.proofs.lemmas.List.{get_or_append_left}
use Rattle.std.proofs.lemmas.Bool.Decides.{nat_tests}
use Rattle.std.proofs.Math.Seq.{take-append_seam, drop-append_seam}
use Rattle.std.specs.Int.{byte_at}
use Rattle.io_model.proofs.Streams.{IsReadable}
use Rattle.modbus_wire.specs.declared.header.Header.{Header}
use Rattle.modbus_wire.specs.declared.header.Header.TheVariants.{Size, Bad}
use Rattle.modbus_wire.specs.declared.header.HeaderFault.{HeaderFault}
use Rattle.modbus_wire.specs.Frames.{Adu, frame_of, IsFramed, number_at, header_by, header_of, AreFewer, IsPartial, IsBroken, adus}

-- ---- headers

pub header_sized : (count protocol size : ℕ) → 6 ≤ count → protocol ≡ 0 → 2 ≤ size → size ≤ 254 → header_by count protocol size ≡ Size (6 + size)
header_sized count protocol size h p lo hi = grind (arith, nat_tests)

pub record IsSized (count protocol size whole : ℕ) : Type 0 where
  pub header : 6 ≤ count
  pub protocol_is : protocol ≡ 0
  pub low : 2 ≤ size
  pub high : size ≤ 254
  pub whole_is : whole ≡ 6 + size

pub sized : (count protocol size whole : ℕ) → header_by count protocol size ≡ Size whole → IsSized count protocol size whole
sized count protocol size whole e = record {
  header = grind (arith, nat_tests);
  protocol_is = grind (arith, nat_tests);
  low = grind (arith, nat_tests);
  high = grind (arith, nat_tests);
  whole_is = grind (arith, nat_tests);
}

bad_long : (count protocol size : ℕ) (fault : HeaderFault) → header_by count protocol size ≡ Bad fault → 6 ≤ count
bad_long count protocol size fault e = grind (arith, nat_tests)

bad_longer : (count more protocol size : ℕ) (fault : HeaderFault) → header_by count protocol size ≡ Bad fault → header_by (count + more) protocol size ≡ Bad fault
bad_longer count more protocol size fault e = grind (arith, nat_tests)

-- ---- frames

-- 16 bits are their two bytes
two_bytes : (n : ℕ) → n < 65536 → n ≡ byte_at 1 n * 256 + byte_at 0 n
two_bytes n h = omega arith

header_framed : (a : Adu) (rest : List ℕ) → IsFramed a → header_of (frame_of a ++ rest) ≡ Size (7 + length a.pdu)
header_framed a rest framed =
    let bytes : List ℕ = frame_of a ++ rest in
    let size : number_at bytes 4 ≡ length a.pdu + 1 = omega (arith, two_bytes (length a.pdu + 1) (omega (arith, framed.2))) in
    let protocol : number_at bytes 2 ≡ 0 = omega arith in
    header_sized (length bytes) (number_at bytes 2) (number_at bytes 4) (omega arith) protocol (omega (arith, size, framed.1)) (omega (arith, size, framed.2))
    ∙ ap (λ (n : ℕ). Size n) (omega (arith, size))

same_front : (x y : Adu) (rest other : List ℕ) → IsFramed x → IsFramed y → frame_of x ++ rest ≡ frame_of y ++ other → (x ≡ y) × (rest ≡ other)
same_front x y rest other framed framed' e =
    let high = ap (λ (l : List ℕ). slice_index l 0) e in
    let low = ap (λ (l : List ℕ). slice_index l 1) e in
    let long = ap (λ (l : List ℕ). slice_index l 4) e in
    let short = ap (λ (l : List ℕ). slice_index l 5) e in
    let unit : x.unit ≡ y.unit = ap (λ (l : List ℕ). slice_index l 6) e in
    let tail : x.pdu ++ rest ≡ y.pdu ++ other = ap (λ (l : List ℕ). drop 7 l) e in
    let transaction : x.transaction ≡ y.transaction = omega (arith, high, low, two_bytes x.transaction framed.0, two_bytes y.transaction framed'.0) in
    let sizes : length x.pdu ≡ length y.pdu = omega (arith, long, short, two_bytes (length x.pdu + 1) (omega (arith, framed.2)), two_bytes (length y.pdu + 1) (omega (arith, framed'.2))) in
    let pdu : x.pdu ≡ y.pdu = sym (take-append_seam x.pdu rest) ∙ (ap (take (length x.pdu)) tail ∙ (ap (λ (n : ℕ). take n (y.pdu ++ other)) sizes ∙ take-append_seam y.pdu other)) in
    let behind : rest ≡ other = sym (drop-append_seam x.pdu rest) ∙ (ap (drop (length x.pdu)) tail ∙ (ap (λ (n : ℕ). drop n (y.pdu ++ other)) sizes ∙ drop-append_seam y.pdu other)) in
    (λ i. record { transaction = transaction i; unit = unit i; pdu = pdu i }, behind)

no_part : (a : Adu) (rest : List ℕ) → IsFramed a → IsPartial (frame_of a ++ rest) → ⊥
no_part a rest framed part =
    let fewer = subst (λ (h : Header). AreFewer h (length (frame_of a ++ rest))) (header_framed a rest framed) part in
    absurd (omega (arith, fewer, length-append a.pdu rest))

not_bad : (size : ℕ) (fault : HeaderFault) → Size size ≡ Bad fault → ⊥
not_bad size fault e = cc

no_fault : (fault : HeaderFault) (a : Adu) (rest : List ℕ) → IsFramed a → IsBroken fault (frame_of a ++ rest) → ⊥
no_fault fault a rest framed bad = not_bad _ fault (sym (header_framed a rest framed) ∙ bad)

same_bad : (fault other : HeaderFault) → Bad fault ≡ Bad other → fault ≡ other
same_bad fault other e = cc

same_fault : (fault other : HeaderFault) (bytes : List ℕ) → IsBroken fault bytes → IsBroken other bytes → fault ≡ other
same_fault fault other bytes e f = same_bad fault other (sym e ∙ f)

bad_is_no_part : (fault : HeaderFault) (bytes : List ℕ) → IsPartial bytes → IsBroken fault bytes → ⊥
bad_is_no_part fault bytes part bad = subst (λ (h : Header). AreFewer h (length bytes)) bad part

-- the numbers of a header stay as bytes come behind it
pub number_stays : (bytes more : List ℕ) (place : ℕ) → place + 2 ≤ length bytes → number_at (bytes ++ more) place ≡ number_at bytes place
number_stays bytes more place h =
    let high = get_or_append_left bytes more 0 place (omega arith) in
    let low = get_or_append_left bytes more 0 (suc place) (omega arith) in
    rw (high, low) refl

pub stays_bad : (fault : HeaderFault) (bytes more : List ℕ) → IsBroken fault bytes → IsBroken fault (bytes ++ more)
stays_bad fault bytes more bad =
    let long = bad_long (length bytes) (number_at bytes 2) (number_at bytes 4) fault bad in
    rw (length-append, number_stays bytes more 2 (omega (arith, long)), number_stays bytes more 4 (omega (arith, long))) (bad_longer (length bytes) (length more) (number_at bytes 2) (number_at bytes 4) fault bad)

pub readable : IsReadable adus
readable = record {
  first = same_front;
  partial = no_part;
  broken = no_fault;
  one_fault = same_fault;
  apart = bad_is_no_part;
  more = stays_bad;
  nothing = tt;
}
