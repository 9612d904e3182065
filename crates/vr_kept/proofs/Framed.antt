-- What a feed makes of one frame; and that no two events have one spelling.
use Rattle.std.proofs.Common.{◌≡◌, ℕ, ◌-◌, ◌<◌, Option, Some, Err, List, [], ◌∷◌, ◌++◌, length, map, refl, sym, ap, ap₂, subst, ◌∙◌, arith, append_assoc}
use Rattle.std.specs.Prelude.{slice_index_or}
use Rattle.std.specs.List.{flat_map, AllByRecursion}
use Rattle.std.proofs.lemmas.List.{append-nil}
use Rattle.std.proofs.lemmas.List.Concat.{flat_map-cons}
use Rattle.io_model.specs.Streams.{Ending, Rest, Fault, Took, IsOneStream, FeedsAll}
use Rattle.vr_model.specs.declared.event.Event.{Event}
use Rattle.vr_model.specs.declared.event.Event.TheVariants.{Message, Timeout, Resend, Restart}
use Rattle.vr_model.specs.declared.message.Message as sent
use Rattle.vr_wire.specs.declared.fault.WireFault.{WireFault}
use Rattle.vr_wire.specs.Frames.{frame_of, IsFramed}
use Rattle.vr_wire.specs.declared.fault.WireError.{WireError}
use Rattle.vr_wire.specs.declared.fault.WireError.TheVariants as errors
use Rattle.vr_wire.specs.Streams.{frames, Feeding}
use Rattle.vr_journal.specs.Journals.{inputs}
use Rattle.vr_kept.proofs.Spelled.{smaller_first, greater_first, rest_same}
use Rattle.vr_kept.specs.Inputs.{IsKept, IsOf, IsFrame, AreOf, ReadBack, input_bytes, input_record}

module _ (law : IsOneStream frames) where
  -- of one frame a feed finds its message, and comes to no fault
  pub found_one : (bytes : List ℕ) (m : sent.Message) (out : List sent.Message) (after : Ending WireFault) → Took frames (Rest []) bytes after [] out → IsFrame bytes m
      → (out ≡ m ∷ []) × (after ≡ Rest [])
  found_one bytes m out after took f =
      let one : flat_map frame_of (m ∷ []) ≡ frame_of m = flat_map-cons frame_of m [] ∙ append-nil (frame_of m) in
      let piece : flat_map (λ (p : List ℕ). p) (bytes ∷ []) ≡ bytes = flat_map-cons (λ (p : List ℕ). p) bytes [] ∙ append-nil bytes in
      let fed : FeedsAll frames (Rest []) (bytes ∷ []) took.items after = (took.items, [], after, took.fed, (refl, refl), sym (append-nil took.items)) in
      let found = law.found (bytes ∷ []) (m ∷ []) took.items after (f.framed, tt) (piece ∙ sym f.bytes_are ∙ sym one) fed in
      (took.added ∙ found.0, found.1)

  -- frames that are equal are of one message
  one_message : (m n : sent.Message) → IsFramed m → IsFramed n → frame_of m ≡ frame_of n → m ≡ n
  one_message m n a b e = (law.alone m n [] a b (sym e ∙ sym (append-nil (frame_of m)))).0

  pub one_event : (e other : Event) → IsKept e → IsKept other → input_bytes e ≡ input_bytes other → e ≡ other
  one_event (Message m) (Message n) a b e = let same : frame_of m ≡ frame_of n = rest_same 0 0 (frame_of m) (frame_of n) e in ap (λ (x : sent.Message). Message x) (one_message m n a b same)
  one_event (Message m) Timeout a b e = absurd (smaller_first 0 1 (frame_of m) [] (omega arith) e)
  one_event (Message m) Resend a b e = absurd (smaller_first 0 2 (frame_of m) [] (omega arith) e)
  one_event Timeout (Message n) a b e = absurd (greater_first 1 0 [] (frame_of n) (omega arith) e)
  one_event Timeout Timeout a b e = refl
  one_event Timeout Resend a b e = absurd (smaller_first 1 2 [] [] (omega arith) e)
  one_event Resend (Message n) a b e = absurd (greater_first 2 0 [] (frame_of n) (omega arith) e)
  one_event Resend Timeout a b e = absurd (greater_first 2 1 [] [] (omega arith) e)
  one_event Resend Resend a b e = refl
  one_event (Restart x) other a b e = absurd a
  one_event (Message m) (Restart y) a b e = absurd b
  one_event Timeout (Restart y) a b e = absurd b
  one_event Resend (Restart y) a b e = absurd b

  read_first : (es found : List Event) (more : List (List ℕ)) → AllByRecursion IsKept es → AreOf (map input_bytes es ++ more) found → (later : List Event) × (found ≡ es ++ later)
  read_first [] found more all are = (found, refl)
  read_first (e ∷ es) [] more all are = absurd are
  read_first (e ∷ es) (x ∷ found) more all are =
      let one : x ≡ e = one_event x e are.0.kept all.0 are.0.bytes_are in
      let rest = read_first es found more all.1 are.1 in
      (rest.0, ap₂ (λ (y : Event) (ys : List Event). y ∷ ys) one rest.1)

-- the last of one message
popped : (items : List sent.Message) (n : ℕ) (m : sent.Message) (result : Option sent.Message) → items ≡ m ∷ [] → n ≡ length items
    → ((d : sent.Message) → 0 < n → result ≡ Some (slice_index_or items (n - 1) d)) → result ≡ Some m
popped items n m result e long value =
    let one : n ≡ 1 = long ∙ ap length e in
    value m (omega arith) ∙ ap₂ (λ (xs : List sent.Message) (k : ℕ). Some (slice_index_or xs (k - 1) m)) e one

module _ (law : IsOneStream frames) (bytes : List ℕ) (m : sent.Message) (before after : Ending WireFault) (out out' : List sent.Message) (start : before ≡ Rest []) (none : out ≡ []) (f : IsFrame bytes m) where
  found_behind : Took frames before bytes after out out' → (out' ≡ m ∷ []) × (after ≡ Rest [])
  found_behind took =
      found_one law bytes m out' after (subst (λ (ms : List sent.Message). Took frames (Rest []) bytes after ms out') none (subst (λ (e : Ending WireFault). Took frames e bytes after out out') start took)) f

  pub is_popped : Took frames before bytes after out out' → (n : ℕ) (result : Option sent.Message) → n ≡ length out'
      → ((d : sent.Message) → 0 < n → result ≡ Some (slice_index_or out' (n - 1) d)) → result ≡ Some m
  is_popped took n result long value = popped out' n m result (found_behind took).0 long value

  pub is_no_fault : (error : WireError) (fault : WireFault) → error ≡ errors.Fault fault → Feeding (Err error) before bytes after out out' → ⊥
  is_no_fault error fault e fed =
      let met : Feeding (Err (errors.Fault fault)) before bytes after out out' = subst (λ (x : WireError). Feeding (Err x) before bytes after out out') e fed in
      let rest : after ≡ Rest [] = (found_behind met.0).1 in
      let other : after ≡ Fault fault = met.1 in
      absurd cc

put_inputs : (es : List Event) → inputs (map input_record es) ≡ map input_bytes es
put_inputs [] = refl
put_inputs (e ∷ es) = ap (λ (bs : List (List ℕ)). input_bytes e ∷ bs) (put_inputs es)

pub read_back : IsOneStream frames → ReadBack
read_back law = record { one = one_event law; put = put_inputs; first = read_first law }
