-- A piece of a stream, as a feed takes it.
use Rattle.std.proofs.Common.{◌≡◌, ℕ, ◌+◌, ◌-◌, ◌<◌, ◌≤◌, Option, Some, None, take, drop, List, [], ◌∷◌, ◌++◌, length, refl, sym, ap, subst, ◌∙◌, append_assoc, arith, length-append, length-take, length-drop, inl, inr}
use Rattle.std.specs.Prelude.{Result, Ok, Err, OnErr}
use Rattle.std.specs.List.{flat_map, AllByRecursion}
use Rattle.std.proofs.lemmas.Bool.{cases_lt}
use Rattle.std.proofs.lemmas.List.{append-nil, nil_from_length, take_at, take-append-drop}
use Rattle.std.proofs.lemmas.List.Concat.{flat_map-cons}
use Rattle.std.proofs.lemmas.Grind.{flat_map-append}
use Rattle.io_model.specs.Streams.{Ending, Rest, Took, ending_of}
use Rattle.io_model.proofs.Streams.{IsReadable}
use Rattle.vr_model.specs.declared.message.Message.{Message}
use Rattle.vr_model.specs.Logs.{IsPrefix}
use Rattle.vr_wire.specs.declared.fault.WireFault.{WireFault}
use Rattle.vr_wire.specs.Frames.{frame_of, message_bytes, told_length, IsFramed, IsPartial, IsBroken, IsShort}
use Rattle.vr_wire.specs.Streams.{IsWhole, frames, Fills}
use Rattle.vr_wire.proofs.Fronts.{told_in, told_more, same_frame, partial_frame, broken_frame, one_fault, partial_broken, broken_more}

-- ---- frame after frame

-- the stream so far: the frames of what was added, and bytes behind them
pub record IsSoFar (stream bytes : List ℕ) (before out : List Message) : Type 0 where
  pub added : List Message
  pub is : out ≡ before ++ added
  pub whole : stream ≡ flat_map frame_of added ++ bytes
  pub each : AllByRecursion IsFramed added

pub at_first : (stream : List ℕ) (before : List Message) → IsSoFar stream stream before before
at_first stream before = record { added = []; is = sym (append-nil before); whole = refl; each = tt }

all_more : (items : List Message) (m : Message) → AllByRecursion IsFramed items → IsFramed m → AllByRecursion IsFramed (items ++ m ∷ [])
all_more [] m all framed = (framed, tt)
all_more (x ∷ items) m all framed = (all.0, all_more items m all.1 framed)

frames_more : (items : List Message) (m : Message) (rest : List ℕ) → flat_map frame_of items ++ (frame_of m ++ rest) ≡ flat_map frame_of (items ++ m ∷ []) ++ rest
frames_more items m rest =
    let one : flat_map frame_of (m ∷ []) ≡ frame_of m = flat_map-cons frame_of m [] ∙ append-nil (frame_of m) in
    let grown : flat_map frame_of (items ++ m ∷ []) ≡ flat_map frame_of items ++ frame_of m = flat_map-append frame_of items (m ∷ []) ∙ ap (λ (x : List ℕ). flat_map frame_of items ++ x) one in
    sym (append_assoc (flat_map frame_of items) (frame_of m) rest) ∙ ap (λ (x : List ℕ). x ++ rest) (sym grown)

pub one_more : (stream bytes : List ℕ) (before out : List Message) (m : Message) (rest : List ℕ) → IsSoFar stream bytes before out → IsWhole bytes m rest → IsSoFar stream rest before (out ++ m ∷ [])
one_more stream bytes before out m rest s w =
    record {
      added = s.added ++ m ∷ [];
      is = ap (λ (ms : List Message). ms ++ m ∷ []) s.is ∙ append_assoc before s.added (m ∷ []);
      whole = s.whole ∙ (ap (λ (x : List ℕ). flat_map frame_of s.added ++ x) w.parts ∙ frames_more s.added m rest);
      each = all_more s.added m s.each w.framed;
    }

pub shorter : (bytes : List ℕ) (m : Message) (rest : List ℕ) → IsWhole bytes m rest → length rest < length bytes
shorter bytes m rest w = omega (arith, ap length w.parts, length-append (frame_of m) rest)

module _ (stream bytes : List ℕ) (before out : List Message) (s : IsSoFar stream bytes before out) where
  pub prefix_so_far : IsPrefix before out
  prefix_so_far = record { rest = s.added; is = sym s.is }

  pub rests : IsPartial bytes → Took frames (Rest []) stream (ending_of bytes None) before out
  rests partial = record { items = s.added; added = s.is; fed = record { rest = bytes; whole = s.whole; each = s.each; ends = (refl, partial) } }

  pub breaks : (fault : WireFault) → IsBroken fault bytes → Took frames (Rest []) stream (ending_of bytes (Some fault)) before out
  breaks fault broken = record { items = s.added; added = s.is; fed = record { rest = bytes; whole = s.whole; each = s.each; ends = broken } }

-- ---- what is held grows to a frame

left_none : (n : ℕ) (piece : List ℕ) → length (take n piece) < n → drop n piece ≡ []
left_none n piece lt = nil_from_length (drop n piece) (omega (arith, length-take n piece, length-drop n piece))

pub fills_less : (held piece after rest : List ℕ) → after ≡ held ++ take (4 - length held) piece → rest ≡ drop (4 - length held) piece → length after < 4 → Fills held piece after rest
fills_less held piece after rest is left lt =
    let n = 4 - length held in
    let front = take n piece in
    let size : length after ≡ length held + length front = ap length is ∙ length-append held front in
    record {
      parts = rw (is, left) (append_assoc held front (drop n piece) ∙ ap (λ (x : List ℕ). held ++ x) (take-append-drop n piece));
      most = λ le. omega arith;
      full = inl (left ∙ left_none n piece (omega (arith, size, length-take n piece)));
    }

-- at least four bytes of what was less than a frame are no more than it
at_most : (held piece after : List ℕ) → IsShort held → after ≡ held ++ take (4 - length held) piece → length after ≤ 4 + told_length after
at_most held piece after short is =
    let front = take (4 - length held) piece in
    let size : length after ≡ length held + length front = ap length is ∙ length-append held front in
    elim (cases_lt (length held) 4) [
      | inl few ↦ omega (arith, size, length-take (4 - length held) piece)
      | inr four ↦
          let told : told_length after ≡ told_length held = ap told_length is ∙ told_more held front four in
          omega (arith, size, length-take (4 - length held) piece, short four, told)
    ]

pub fills_frame : (held piece first left after rest : List ℕ) (size : ℕ) → IsShort held → first ≡ held ++ take (4 - length held) piece → left ≡ drop (4 - length held) piece → 4 ≤ length first → size ≡ 4 + told_length first
    → after ≡ first ++ take (size - length first) left → rest ≡ drop (size - length first) left → Fills held piece after rest
fills_frame held piece first left after rest size short is left_is four size_is after_is rest_is =
    let front = take (4 - length held) piece in
    let more = take (size - length first) left in
    let most = at_most held piece first short is in
    let told : told_length after ≡ told_length first = ap told_length after_is ∙ told_more first more four in
    let length_is : length after ≡ length first + length more = ap length after_is ∙ length-append first more in
    let taken : length more ≤ size - length first = omega (arith, length-take (size - length first) left) in
    let one : first ++ left ≡ held ++ piece = rw (is, left_is) (append_assoc held front (drop (4 - length held) piece) ∙ ap (λ (x : List ℕ). held ++ x) (take-append-drop (4 - length held) piece)) in
    let two : after ++ rest ≡ first ++ left = rw (after_is, rest_is) (append_assoc first more (drop (size - length first) left) ∙ ap (λ (x : List ℕ). first ++ x) (take-append-drop (size - length first) left)) in
    record {
      parts = two ∙ one;
      most = λ le. omega (arith, told, length_is, taken, most, size_is);
      full = elim (cases_lt (length more) (size - length first)) [
        | inl less ↦ inl (rest_is ∙ left_none (size - length first) left less)
        | inr enough ↦ inr (omega (arith, length_is, four), omega (arith, told, length_is, enough, most, size_is))
      ];
    }

-- ---- what is held, and a piece

pub short_of : (bytes : List ℕ) → IsPartial bytes → IsShort bytes
short_of bytes (inl few) le = omega (arith, few, le)
short_of bytes (inr less) le = less.2

pub short_after : (before piece after : List ℕ) (out out' : List Message) → Took frames (Rest before) piece (Rest after) out out' → IsShort after
short_after before piece after out out' t = subst IsShort t.fed.ends.0 (short_of t.fed.rest t.fed.ends.1)

not_full : (bytes : List ℕ) → IsPartial bytes → (4 ≤ length bytes) × (4 + told_length bytes ≤ length bytes) → ⊥
not_full bytes partial full = omega (arith, short_of bytes partial full.0, full.1)

module _ (before piece after rest : List ℕ) (f : Fills before piece after rest) where
  pub goes_on_waiting : (out : List Message) → IsPartial after → Took frames (Rest before) piece (ending_of after None) out out
  goes_on_waiting out partial =
      let none : rest ≡ [] = elim f.full [ inl none ↦ none | inr full ↦ absurd (not_full after partial full) ] in
      let whole : before ++ piece ≡ after = sym f.parts ∙ (ap (λ (x : List ℕ). after ++ x) none ∙ append-nil after) in
      record { items = []; added = sym (append-nil out); fed = record { rest = after; whole = whole; each = tt; ends = (refl, partial) } }

  pub goes_on_broken : (out : List Message) (fault : WireFault) → IsBroken fault after → Took frames (Rest before) piece (ending_of after (Some fault)) out out
  goes_on_broken out fault broken =
      record { items = []; added = sym (append-nil out); fed = record { rest = after ++ rest; whole = sym f.parts; each = tt; ends = broken_more fault after rest broken } }

  pub goes_on_whole : (m : Message) (behind : List ℕ) (ending : Ending WireFault) (out out' : List Message) → IsWhole after m behind
      → Took frames (Rest []) rest ending (out ++ m ∷ []) out' → Took frames (Rest before) piece ending out out'
  goes_on_whole m behind ending out out' w t =
      let size : length after ≡ 4 + length (message_bytes m) + length behind = ap length w.parts ∙ omega (arith, length-append (message_bytes m) behind) in
      let told : told_length after ≡ length (message_bytes m) = ap told_length w.parts ∙ told_in m behind w.framed in
      let none : behind ≡ [] = nil_from_length behind (omega (arith, size, told, f.most)) in
      let frame : after ≡ frame_of m = w.parts ∙ (ap (λ (x : List ℕ). frame_of m ++ x) none ∙ append-nil (frame_of m)) in
      let stream : before ++ piece ≡ frame_of m ++ rest = sym f.parts ∙ ap (λ (x : List ℕ). x ++ rest) frame in
      let whole : frame_of m ++ rest ≡ flat_map frame_of (m ∷ t.items) ++ t.fed.rest =
      ap (λ (x : List ℕ). frame_of m ++ x) t.fed.whole ∙ (sym (append_assoc (frame_of m) (flat_map frame_of t.items) t.fed.rest) ∙ ap (λ (x : List ℕ). x ++ t.fed.rest) (sym (flat_map-cons frame_of m t.items))) in
      record {
        items = m ∷ t.items;
        added = t.added ∙ append_assoc out (m ∷ []) t.items;
        fed = record { rest = t.fed.rest; whole = stream ∙ whole; each = (w.framed, t.fed.each); ends = t.fed.ends };
      }

pub from_nothing : (held piece rest : List ℕ) (fault : Option WireFault) (out out' : List Message) → length held ≡ 0 → Took frames (Rest []) piece (ending_of rest fault) out out' → Took frames (Rest held) piece (ending_of (held ++ rest) fault) out out'
from_nothing held piece rest fault out out' none t = subst (λ (x : List ℕ). Took frames (Rest x) piece (ending_of (x ++ rest) fault) out out') (sym (nil_from_length held none)) t

-- ---- what was added is taken away

pub on_err : {A E p q : Type 0} (r : Result A E) → p → q → OnErr r (p × q)
on_err (Ok x) h k = tt
on_err (Err e) h k = (h, k)

pub taken_away : {X : Type 0} (before after : List X) → IsPrefix before after → take (length before) after ≡ before
taken_away before after b = rw (sym b.is) (take_at before b.rest (length before) refl)

pub prefix_same : {X : Type 0} (before after : List X) → after ≡ before → IsPrefix before after
prefix_same before after is = record { rest = []; is = append-nil before ∙ sym is }

pub prefix_with : {X : Type 0} (before added after : List X) → after ≡ before ++ added → IsPrefix before after
prefix_with before added after is = record { rest = added; is = sym is }

pub prefix_more : {X : Type 0} (before between after : List X) → IsPrefix before between → IsPrefix between after → IsPrefix before after
prefix_more {X} before between after a b = record {
  rest = a.rest ++ b.rest;
  is = sym (append_assoc before a.rest b.rest) ∙ (ap (λ (x : List X). x ++ b.rest) a.is ∙ b.is);
}

-- what grows by an element and then keeps its prefix keeps what it had
pub prefix_past : {X : Type 0} (before : List X) (x : X) (between after : List X) → between ≡ before ++ x ∷ [] → IsPrefix between after → IsPrefix before after
prefix_past before x between after is b = prefix_more before between after (prefix_with before (x ∷ []) between is) b

pub readable : IsReadable frames
readable = record {
  first = λ m n rest other framed framed_n e. same_frame m n rest other framed framed_n e;
  partial = λ m rest framed h. partial_frame m rest framed h;
  broken = λ fault m rest framed h. broken_frame fault m rest framed h;
  one_fault = one_fault;
  apart = λ fault bytes p h. partial_broken fault bytes p h;
  more = broken_more;
  nothing = inl (omega arith);
}
