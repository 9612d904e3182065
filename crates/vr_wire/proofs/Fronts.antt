-- What stands in front of a stream, by the frames of messages.
use Rattle.std.proofs.Common.{◌≡◌, ◌≢◌, ℕ, ◌+◌, ◌<◌, ◌≤◌, Bool, true, false, cond, ltb, eqb, List, ◌++◌, length, take, drop, Option, Some, None, refl, sym, ap, subst, ◌∙◌, append_assoc, arith, inl, inr, length-append, length-drop, length-take}
use Rattle.std.specs.Int.{w32, to_be_bytes, from_be_bytes}
use Rattle.std.proofs.lemmas.Bool.{ltb-false, ltb-true, le-ltb, eqb-true, eqb-false}
use Rattle.std.proofs.Math.Dec.{eqb-suc-zero}
use Rattle.std.proofs.lemmas.List.{take_at, drop_at, take-append-drop, take-append-le, drop-take}
use Rattle.vr_model.specs.declared.message.Message.{Message}
use Rattle.vr_wire.specs.declared.fault.WireFault.{WireFault}
use Rattle.vr_wire.specs.declared.fault.WireFault.TheVariants.{BadFrame, TooLarge}
use Rattle.vr_wire.specs.Frames.{message_bytes, frame_of, IsFramed, told_length, body_limit, IsPartial, IsBroken}
use Rattle.vr_wire.specs.MessageReading.{message_at, Front, Waits, Whole, Broken, found, front_by, front_behind, front_of}
use Rattle.std.specs.Prelude.{Result, Ok, Err}
use Rattle.vr_wire.specs.declared.fault.WireError.{WireError}
use Rattle.vr_wire.specs.declared.fault.WireError.TheVariants as errors
use Rattle.vr_wire.specs.Streams.{IsWhole, Shows, ReadsFront}
use Rattle.vr_wire.proofs.Fields.{IsBytes, IsBytes-take, IsBytes-drop, wide32}
use Rattle.vr_wire.proofs.Messages.{message_takes, message_again, message_long}

-- the front, by what the tests give: fewer than four bytes, no length, too long, less than the body
abbrev front_at : Bool → Bool → Bool → Bool → List ℕ → Front
front_at few none much less bytes =
    cond few Waits (cond none (Broken BadFrame) (cond much (Broken TooLarge) (cond less Waits (found (message_at (take (told_length bytes) (drop 4 bytes))) (drop (told_length bytes) (drop 4 bytes))))))

behind_cond : (b : Bool) (x : ℕ × List ℕ) → front_behind (cond b None (Some x)) ≡ cond b Waits (front_by x.0 x.1)
behind_cond true x = refl
behind_cond false x = refl

front_is : (bytes : List ℕ) → front_of bytes ≡ front_at (ltb (length bytes) 4) (eqb (told_length bytes) 0) (ltb body_limit (told_length bytes)) (ltb (length (drop 4 bytes)) (told_length bytes)) bytes
unfolding front_of
front_is bytes = behind_cond (ltb (length bytes) 4) (from_be_bytes w32 (take 4 bytes), drop 4 bytes)

found_whole : (o : Option Message) (after : List ℕ) (m : Message) (rest : List ℕ) → found o after ≡ Whole m rest → (o ≡ Some m) × (after ≡ rest)
found_whole None after m rest e = absurd cc
found_whole (Some x) after m rest e = (cc, cc)

whole_by : (few none much less : Bool) (bytes : List ℕ) (m : Message) (rest : List ℕ) → IsBytes bytes → ltb (length bytes) 4 ≡ few → ltb body_limit (told_length bytes) ≡ much → ltb (length (drop 4 bytes)) (told_length bytes) ≡ less
    → front_at few none much less bytes ≡ Whole m rest → IsWhole bytes m rest
whole_by true none much less bytes m rest fits e f g h = absurd cc
whole_by false true much less bytes m rest fits e f g h = absurd cc
whole_by false false true less bytes m rest fits e f g h = absurd cc
whole_by false false false true bytes m rest fits e f g h = absurd cc
whole_by false false false false bytes m rest fits e f g h =
    let n = told_length bytes in
    let after = drop 4 bytes in
    let body = take n after in
    let w = found_whole (message_at body) (drop n after) m rest h in
    let t = message_takes body m (IsBytes-take n after (IsBytes-drop 4 bytes fits)) w.0 in
    let four : 4 ≤ length bytes = ltb-false _ _ e in
    let small : n ≤ body_limit = ltb-false _ _ f in
    let enough : n ≤ length after = ltb-false _ _ g in
    let len : length body ≡ n = omega (arith, length-take n after) in
    let size : length (message_bytes m) ≡ n = ap length (sym t.0) ∙ len in
    let front : to_be_bytes w32 n ≡ take 4 bytes = wide32.back (take 4 bytes) (omega (arith, length-take 4 bytes)) (IsBytes-take 4 bytes fits) in
    let prefix : to_be_bytes w32 (length (message_bytes m)) ≡ take 4 bytes = ap (to_be_bytes w32) size ∙ front in
    let tail : after ≡ message_bytes m ++ rest = sym (take-append-drop n after) ∙ (ap (λ (x : List ℕ). x ++ drop n after) t.0 ∙ ap (λ (x : List ℕ). message_bytes m ++ x) w.1) in
    let whole : bytes ≡ to_be_bytes w32 (length (message_bytes m)) ++ (message_bytes m ++ rest) = sym (take-append-drop 4 bytes) ∙ (ap (λ (x : List ℕ). x ++ after) (sym prefix) ∙ ap (λ (x : List ℕ). to_be_bytes w32 (length (message_bytes m)) ++ x) tail) in
    record { parts = whole ∙ sym (append_assoc (to_be_bytes w32 (length (message_bytes m))) (message_bytes m) rest); framed = record { lawful = t.1; fits = t.2; short = omega (arith, size, small) } }

front_whole : (bytes : List ℕ) (m : Message) (rest : List ℕ) → IsBytes bytes → front_of bytes ≡ Whole m rest → IsWhole bytes m rest
front_whole bytes m rest fits e = whole_by (ltb (length bytes) 4) (eqb (told_length bytes) 0) (ltb body_limit (told_length bytes)) (ltb (length (drop 4 bytes)) (told_length bytes)) bytes m rest fits refl refl refl (sym (front_is bytes) ∙ e)

found_waits : (o : Option Message) (after : List ℕ) → found o after ≡ Waits → ⊥
found_waits None after e = cc
found_waits (Some x) after e = cc

waits_by : (few none much less : Bool) (bytes : List ℕ) → ltb (length bytes) 4 ≡ few → eqb (told_length bytes) 0 ≡ none → ltb body_limit (told_length bytes) ≡ much → ltb (length (drop 4 bytes)) (told_length bytes) ≡ less
    → front_at few none much less bytes ≡ Waits → IsPartial bytes
waits_by true none much less bytes e d f g h = inl (ltb-true _ _ e)
waits_by false true much less bytes e d f g h = absurd cc
waits_by false false true less bytes e d f g h = absurd cc
waits_by false false false true bytes e d f g h =
    let n = told_length bytes in
    let some : n ≢ 0 = eqb-false n 0 d in
    let lt : length (drop 4 bytes) < n = ltb-true _ _ g in
    let four : 4 ≤ length bytes = ltb-false _ _ e in
    inr (omega arith, ltb-false _ _ f, omega (arith, length-drop 4 bytes))
waits_by false false false false bytes e d f g h = absurd (found_waits (message_at (take (told_length bytes) (drop 4 bytes))) (drop (told_length bytes) (drop 4 bytes)) h)

front_waits : (bytes : List ℕ) → front_of bytes ≡ Waits → IsPartial bytes
front_waits bytes e = waits_by (ltb (length bytes) 4) (eqb (told_length bytes) 0) (ltb body_limit (told_length bytes)) (ltb (length (drop 4 bytes)) (told_length bytes)) bytes refl refl refl refl (sym (front_is bytes) ∙ e)

found_broken : (o : Option Message) (after : List ℕ) (fault : WireFault) → found o after ≡ Broken fault → (o ≡ None) × (fault ≡ BadFrame)
found_broken None after fault e = (refl, cc)
found_broken (Some x) after fault e = absurd cc

-- bytes that are a frame have its body behind the first four
body_in : (bytes : List ℕ) (n : ℕ) (m : Message) → 4 + n ≤ length bytes → take (4 + n) bytes ≡ frame_of m → take n (drop 4 bytes) ≡ message_bytes m
body_in bytes n m le e = sym (drop-take 4 n bytes) ∙ ap (drop 4) e

broken_by : (few none much less : Bool) (bytes : List ℕ) (fault : WireFault) → ltb (length bytes) 4 ≡ few → eqb (told_length bytes) 0 ≡ none → ltb body_limit (told_length bytes) ≡ much → ltb (length (drop 4 bytes)) (told_length bytes) ≡ less
    → front_at few none much less bytes ≡ Broken fault → IsBroken fault bytes
broken_by true none much less bytes fault e d f g h = absurd cc
broken_by false true much less bytes fault e d f g h =
    let is : BadFrame ≡ fault = cc in subst (λ (x : WireFault). IsBroken x bytes) is (ltb-false _ _ e, inl (eqb-true _ _ d))
broken_by false false true less bytes fault e d f g h =
    let is : TooLarge ≡ fault = cc in subst (λ (x : WireFault). IsBroken x bytes) is (ltb-false _ _ e, ltb-true _ _ f)
broken_by false false false true bytes fault e d f g h = absurd cc
broken_by false false false false bytes fault e d f g h =
    let n = told_length bytes in
    let b = found_broken (message_at (take n (drop 4 bytes))) (drop n (drop 4 bytes)) fault h in
    let four : 4 ≤ length bytes = ltb-false _ _ e in
    let small : n ≤ body_limit = ltb-false _ _ f in
    let enough : n ≤ length (drop 4 bytes) = ltb-false _ _ g in
    let long : 4 + n ≤ length bytes = omega (arith, length-drop 4 bytes) in
    subst (λ (x : WireFault). IsBroken x bytes) (sym b.1) (
      four,
      inr (
        small,
        long,
        λ m framed is.
            let read : message_at (message_bytes m) ≡ None = ap message_at (sym (body_in bytes n m long is)) ∙ b.0 in
            let again : message_at (message_bytes m) ≡ Some m = message_again m framed.lawful framed.fits in
            let no : None ≡ Some m = sym read ∙ again in cc,
      ),
    )

front_broken : (bytes : List ℕ) (fault : WireFault) → front_of bytes ≡ Broken fault → IsBroken fault bytes
front_broken bytes fault e = broken_by (ltb (length bytes) 4) (eqb (told_length bytes) 0) (ltb body_limit (told_length bytes)) (ltb (length (drop 4 bytes)) (told_length bytes)) bytes fault refl refl refl refl (sym (front_is bytes) ∙ e)

pub shows : {X : Type 0} (message : X → Message) (rest : X → List ℕ) (result : Result (Option X) WireError) (bytes : List ℕ) → IsBytes bytes → ReadsFront message rest result (front_of bytes) → Shows message rest result bytes
shows message rest (Ok None) bytes fits h = front_waits bytes h
shows message rest (Ok (Some x)) bytes fits h = front_whole bytes (message x) (rest x) fits h
shows message rest (Err (errors.Fault fault)) bytes fits h = front_broken bytes fault h
shows message rest (Err errors.Memory) bytes fits h = tt

-- ---- a frame, and what follows

pub told_in : (m : Message) (rest : List ℕ) → IsFramed m → told_length (frame_of m ++ rest) ≡ length (message_bytes m)
told_in m rest framed = wide32.again (length (message_bytes m)) (omega (arith, framed.short))

behind_in : (m : Message) (rest : List ℕ) → drop 4 (frame_of m ++ rest) ≡ message_bytes m ++ rest
behind_in m rest = refl

pub front_frame : (m : Message) (rest : List ℕ) → IsFramed m → front_of (frame_of m ++ rest) ≡ Whole m rest
front_frame m rest framed =
    let n = length (message_bytes m) in
    let bytes = frame_of m ++ rest in
    let told = told_in m rest framed in
    let long = message_long m in
    let size : length bytes ≡ 4 + (n + length rest) = omega (arith, length-append (message_bytes m) rest) in
    let few : ltb (length bytes) 4 ≡ false = le-ltb _ _ (omega (arith, size)) in
    let none : eqb n 0 ≡ false = eqb-suc-zero _ in
    let much : ltb body_limit n ≡ false = le-ltb _ _ framed.short in
    let less : ltb (length (message_bytes m ++ rest)) n ≡ false = le-ltb _ _ (omega (arith, length-append (message_bytes m) rest)) in
    front_is bytes ∙ rw (few, told, none, much, less, take_at (message_bytes m) rest n refl, drop_at (message_bytes m) rest n refl, message_again m framed.lawful framed.fits) refl

-- ---- no frame begins another, and each beginning is of one kind

pub same_frame : (m n : Message) (rest other : List ℕ) → IsFramed m → IsFramed n → frame_of m ++ rest ≡ frame_of n ++ other → (m ≡ n) × (rest ≡ other)
same_frame m n rest other framed framed_n e =
    let is : Whole m rest ≡ Whole n other = sym (front_frame m rest framed) ∙ (ap front_of e ∙ front_frame n other framed_n) in
    (cc, cc)

frame_size : (m : Message) (rest : List ℕ) → length (frame_of m ++ rest) ≡ 4 + length (message_bytes m) + length rest
frame_size m rest = omega (arith, length-append (message_bytes m) rest)

pub partial_frame : (m : Message) (rest : List ℕ) → IsFramed m → IsPartial (frame_of m ++ rest) → ⊥
partial_frame m rest framed (inl few) = omega (arith, frame_size m rest)
partial_frame m rest framed (inr less) = omega (arith, frame_size m rest, told_in m rest framed, less.2)

front_taken : (m : Message) (rest : List ℕ) → take (4 + length (message_bytes m)) (frame_of m ++ rest) ≡ frame_of m
front_taken m rest = take_at (frame_of m) rest (4 + length (message_bytes m)) (omega arith)

pub broken_frame : (fault : WireFault) (m : Message) (rest : List ℕ) → IsFramed m → IsBroken fault (frame_of m ++ rest) → ⊥
broken_frame TooLarge m rest framed h = omega (arith, told_in m rest framed, h.1, framed.short)
broken_frame BadFrame m rest framed h =
    elim h.1 [
      | inl none ↦ omega (arith, told_in m rest framed, none, message_long m)
      | inr other ↦ other.2 m framed (ap (λ (n : ℕ). take (4 + n) (frame_of m ++ rest)) (told_in m rest framed) ∙ front_taken m rest)
    ]

bad_or_large : (bytes : List ℕ) → IsBroken BadFrame bytes → IsBroken TooLarge bytes → ⊥
bad_or_large bytes h k =
    elim h.1 [
      | inl none ↦ omega (arith, none, k.1)
      | inr other ↦ omega (arith, other.0, k.1)
    ]

pub one_fault : (fault other : WireFault) (bytes : List ℕ) → IsBroken fault bytes → IsBroken other bytes → fault ≡ other
one_fault BadFrame BadFrame bytes h k = refl
one_fault TooLarge TooLarge bytes h k = refl
one_fault BadFrame TooLarge bytes h k = absurd (bad_or_large bytes h k)
one_fault TooLarge BadFrame bytes h k = absurd (bad_or_large bytes k h)

pub partial_broken : (fault : WireFault) (bytes : List ℕ) → IsPartial bytes → IsBroken fault bytes → ⊥
partial_broken TooLarge bytes (inl few) h = omega (arith, few, h.0)
partial_broken BadFrame bytes (inl few) h = omega (arith, few, h.0)
partial_broken TooLarge bytes (inr less) h = omega (arith, less.1, h.1)
partial_broken BadFrame bytes (inr less) h =
    elim h.1 [
      | inl none ↦ omega (arith, less.0, none)
      | inr other ↦ omega (arith, less.2, other.1)
    ]

pub told_more : (bytes more : List ℕ) → 4 ≤ length bytes → told_length (bytes ++ more) ≡ told_length bytes
told_more bytes more le = ap (from_be_bytes w32) (take-append-le 4 bytes more le)

pub broken_more : (fault : WireFault) (bytes more : List ℕ) → IsBroken fault bytes → IsBroken fault (bytes ++ more)
broken_more TooLarge bytes more h = (omega (arith, length-append bytes more, h.0), omega (arith, told_more bytes more h.0, h.1))
broken_more BadFrame bytes more h =
    let told = told_more bytes more h.0 in (
      omega (arith, length-append bytes more, h.0),
      elim h.1 [
        | inl none ↦ inl (told ∙ none)
        | inr other ↦ inr (omega (arith, told, other.0), omega (arith, told, length-append bytes more, other.1), λ m framed is. other.2 m framed (sym (ap (λ (n : ℕ). take (4 + n) (bytes ++ more)) told ∙ take-append-le (4 + told_length bytes) bytes more other.1) ∙ is))
      ],
    )
