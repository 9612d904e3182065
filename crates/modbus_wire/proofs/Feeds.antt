-- Unit after unit, as a session takes them.
use Rattle.std.proofs.Common.{◌≡◌, ℕ, ◌+◌, ◌<◌, ◌≤◌, List, [], ◌∷◌, ◌++◌, length, refl, sym, ap, subst, ◌∙◌, append_assoc, arith, length-append, inl, inr, Result, Ok, Err, OnErr}
use Rattle.std.specs.List.{flat_map, AllByRecursion}
use Rattle.std.proofs.lemmas.Bool.{cases_lt}
use Rattle.std.proofs.lemmas.Bool.Decides.{nat_tests}
use Rattle.std.proofs.lemmas.List.{append-nil}
use Rattle.std.proofs.lemmas.List.Concat.{flat_map-cons}
use Rattle.std.proofs.lemmas.Grind.{flat_map-append}
use Rattle.io_model.specs.Streams.{Rest, Fault, Took}
use Rattle.modbus_wire.specs.declared.header.Header.{Header}
use Rattle.modbus_wire.specs.declared.header.Header.TheVariants.{Short, Size, Bad}
use Rattle.modbus_wire.specs.declared.header.HeaderFault.{HeaderFault}
use Rattle.modbus_wire.specs.Frames.{Adu, frame_of, IsFramed, number_at, header_by, header_of, AreFewer, IsPartial, adus}
use Rattle.modbus_wire.proofs.Units.{sized, header_sized, number_stays, stays_bad}

short_is : (count protocol size : ℕ) → header_by count protocol size ≡ Short → count < 6
short_is count protocol size e = grind (arith, nat_tests)

fewer_is_short : (count protocol size : ℕ) (header : Header) → header_by count protocol size ≡ header → AreFewer header count → count < 260
fewer_is_short count protocol size Short e few = let h = short_is count protocol size e in omega (arith, h)
fewer_is_short count protocol size (Size whole) e few = let z = sized count protocol size whole e in omega (arith, z.high, z.whole_is, few)
fewer_is_short count protocol size (Bad fault) e few = absurd few

-- less than a unit has room for a byte
pub part_is_short : (bytes : List ℕ) → IsPartial bytes → length bytes < 260
part_is_short bytes part = fewer_is_short (length bytes) (number_at bytes 2) (number_at bytes 4) (header_of bytes) refl part

-- with a byte more there are no more bytes than the header tells
pub grows_to : (bytes : List ℕ) (byte size : ℕ) → IsPartial bytes → header_of (bytes ++ byte ∷ []) ≡ Size size → length bytes + 1 ≤ size
grows_to bytes byte size part e =
    let z = sized (length (bytes ++ byte ∷ [])) (number_at (bytes ++ byte ∷ []) 2) (number_at (bytes ++ byte ∷ []) 4) size e in
    elim (cases_lt (length bytes) 6) [
      | inl less ↦ omega (arith, less, z.low, z.whole_is)
      | inr long ↦
          let protocol = number_stays bytes (byte ∷ []) 2 (omega (arith, long)) in
          let told = number_stays bytes (byte ∷ []) 4 (omega (arith, long)) in
          let before : header_of bytes ≡ Size (6 + number_at bytes 4) = header_sized (length bytes) (number_at bytes 2) (number_at bytes 4) long (sym protocol ∙ z.protocol_is) (omega (arith, told, z.low)) (omega (arith, told, z.high)) in
          let fewer = subst (λ (h : Header). AreFewer h (length bytes)) before part in
          omega (arith, fewer, told, z.whole_is)
    ]

-- a unit that isn't whole yet
pub part_grows : (bytes : List ℕ) (byte size : ℕ) → IsPartial bytes → header_of (bytes ++ byte ∷ []) ≡ Size size → (length (bytes ++ byte ∷ []) ≡ size → ⊥) → IsPartial (bytes ++ byte ∷ [])
part_grows bytes byte size part e other =
    let most = grows_to bytes byte size part e in
    let count = length-append bytes (byte ∷ []) in
    let fewer : length (bytes ++ byte ∷ []) < size = elim (cases_lt (length (bytes ++ byte ∷ [])) size) [
      | inl less ↦ less
      | inr long ↦ absurd (other (omega (arith, long, most, count)))
    ] in
    subst (λ (h : Header). AreFewer h (length (bytes ++ byte ∷ []))) (sym e) fewer

pub short_is_part : (bytes : List ℕ) → header_of bytes ≡ Short → IsPartial bytes
short_is_part bytes e = subst (λ (h : Header). AreFewer h (length bytes)) (sym e) tt

-- ---- the stream, byte by byte

-- nothing came
pub took_none : (held : List ℕ) (out : List Adu) → IsPartial held → Took adus (Rest held) [] (Rest held) out out
took_none held out part = record {
  items = [];
  added = sym (append-nil out);
  fed = record { rest = held; whole = append-nil held; each = tt; ends = (refl, part) };
}

longer : (before held piece more : List ℕ) (out out' : List Adu) (t : Took adus (Rest before) piece (Rest held) out out') → before ++ (piece ++ more) ≡ flat_map frame_of t.items ++ (held ++ more)
longer before held piece more out out' t =
    sym (append_assoc before piece more)
    ∙ (ap (λ (l : List ℕ). l ++ more) (t.fed.whole ∙ ap (λ (l : List ℕ). flat_map frame_of t.items ++ l) t.fed.ends.0)
    ∙ append_assoc (flat_map frame_of t.items) held more)

-- a byte more, behind what is kept
pub took_byte : (before held piece : List ℕ) (byte : ℕ) (out out' : List Adu) → Took adus (Rest before) piece (Rest held) out out' → IsPartial (held ++ byte ∷ [])
    → Took adus (Rest before) (piece ++ byte ∷ []) (Rest (held ++ byte ∷ [])) out out'
took_byte before held piece byte out out' t part = record {
  items = t.items;
  added = t.added;
  fed = record {
    rest = held ++ byte ∷ [];
    whole = longer before held piece (byte ∷ []) out out' t;
    each = t.fed.each;
    ends = (refl, part);
  };
}

all_more : (items : List Adu) (a : Adu) → AllByRecursion IsFramed items → IsFramed a → AllByRecursion IsFramed (items ++ a ∷ [])
all_more [] a all framed = (framed, tt)
all_more (x ∷ items) a all framed = (all.0, all_more items a all.1 framed)

-- with a byte more, what is kept is a unit
pub took_unit : (before held piece : List ℕ) (byte : ℕ) (out out' : List Adu) (a : Adu) → Took adus (Rest before) piece (Rest held) out out' → frame_of a ≡ held ++ byte ∷ [] → IsFramed a
    → Took adus (Rest before) (piece ++ byte ∷ []) (Rest []) out (out' ++ a ∷ [])
took_unit before held piece byte out out' a t frame framed =
    let one : flat_map frame_of (a ∷ []) ≡ frame_of a = flat_map-cons frame_of a [] ∙ append-nil (frame_of a) in
    let grown : flat_map frame_of (t.items ++ a ∷ []) ≡ flat_map frame_of t.items ++ (held ++ byte ∷ []) = flat_map-append frame_of t.items (a ∷ []) ∙ ap (λ (l : List ℕ). flat_map frame_of t.items ++ l) (one ∙ frame) in
    record {
      items = t.items ++ a ∷ [];
      added = ap (λ (l : List Adu). l ++ a ∷ []) t.added ∙ append_assoc out t.items (a ∷ []);
      fed = record {
        rest = [];
        whole = longer before held piece (byte ∷ []) out out' t ∙ (sym grown ∙ sym (append-nil (flat_map frame_of (t.items ++ a ∷ []))));
        each = all_more t.items a t.fed.each framed;
        ends = (refl, tt);
      };
    }

-- with a byte more, what is kept is broken, whatever comes
pub took_fault : (before held piece more : List ℕ) (byte : ℕ) (out out' : List Adu) (fault : HeaderFault) → Took adus (Rest before) piece (Rest held) out out' → header_of (held ++ byte ∷ []) ≡ Bad fault
    → Took adus (Rest before) ((piece ++ byte ∷ []) ++ more) (Fault fault) out out'
took_fault before held piece more byte out out' fault t bad =
    let whole : before ++ ((piece ++ byte ∷ []) ++ more) ≡ flat_map frame_of t.items ++ ((held ++ byte ∷ []) ++ more) =
    ap (λ (l : List ℕ). before ++ l) (append_assoc piece (byte ∷ []) more)
    ∙ (longer before held piece ((byte ∷ []) ++ more) out out' t
    ∙ ap (λ (l : List ℕ). flat_map frame_of t.items ++ l) (sym (append_assoc held (byte ∷ []) more))) in
    record {
      items = t.items;
      added = t.added;
      fed = record { rest = (held ++ byte ∷ []) ++ more; whole = whole; each = t.fed.each; ends = stays_bad fault (held ++ byte ∷ []) more bad };
    }

-- ---- one byte, by what the header then says

is_part : (before held piece : List ℕ) (out out' : List Adu) → Took adus (Rest before) piece (Rest held) out out' → IsPartial held
is_part before held piece out out' t = subst IsPartial t.fed.ends.0 t.fed.ends.1

pub step_short : (before held piece : List ℕ) (byte : ℕ) (out out' : List Adu) → Took adus (Rest before) piece (Rest held) out out' → header_of (held ++ byte ∷ []) ≡ Short
    → Took adus (Rest before) (piece ++ byte ∷ []) (Rest (held ++ byte ∷ [])) out out'
step_short before held piece byte out out' t e = took_byte before held piece byte out out' t (short_is_part (held ++ byte ∷ []) e)

pub step_size : (before held piece : List ℕ) (byte size : ℕ) (out out' : List Adu) → Took adus (Rest before) piece (Rest held) out out' → header_of (held ++ byte ∷ []) ≡ Size size
    → (length (held ++ byte ∷ []) ≡ size → ⊥) → Took adus (Rest before) (piece ++ byte ∷ []) (Rest (held ++ byte ∷ [])) out out'
step_size before held piece byte size out out' t e other = took_byte before held piece byte out out' t (part_grows held byte size (is_part before held piece out out' t) e other)

pub on_err : {A E : Type 0} (P : Type 0) (r : Result A E) → P → OnErr r P
on_err P (Ok x) p = tt
on_err P (Err e) p = p
