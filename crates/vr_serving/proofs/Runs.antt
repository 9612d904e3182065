-- Turns, put one behind another.
use Rattle.std.proofs.Common.{ℕ, List, [], ◌∷◌, ◌++◌, map, refl, ap, sym, ◌∙◌, subst, append_assoc, Bool, Option, Some, None}
use Rattle.std.specs.List.{filter_map}
use Rattle.std.proofs.lemmas.List.{append-nil, map-append}
use Rattle.std.proofs.lemmas.List.Elements.{filter_map-append}
use Rattle.vr_model.specs.declared.event.Event.{Event}
use Rattle.vr_model.specs.declared.event.Stored.{Stored}
use Rattle.vr_model.specs.declared.message.Message.{Message}
use Rattle.vr_replica.specs.declared.state.Replica.{Replica}
use Rattle.vr_replica.specs.Stepped.{StepResult}
use Rattle.vr_ports.specs.Parties.{Grows}
use Rattle.vr_serving.specs.Serving

pub Grows-none : {X : Type 0} (o : Option (List X)) → Grows o o []
Grows-none None = refl
Grows-none (Some l) = ap Some (sym (append-nil l))

pub Grows-more : {X : Type 0} (a b c : Option (List X)) (xs ys : List X) → Grows a b xs → Grows b c ys → Grows a c (xs ++ ys)
Grows-more {X} None b c xs ys h k = subst (λ (o : Option (List X)). Grows o c ys) h k
Grows-more {X} (Some l) b c xs ys h k = subst (λ (o : Option (List X)). Grows o c ys) h k ∙ ap Some (append_assoc l xs ys)

module _ {S : Type 0} (loads : S → Option Stored → S → Type 0) (saves : S → ℕ → Bool → S → Type 0) (faults : S → ℕ) where
  abbrev Runs : Replica → S → List Event → Replica → S → List Message → Type 0
  Runs q s es r t sends = Serving.Ran loads saves faults q s es r t sends

  pub Ran-more : (q : Replica) (s : S) (es : List Event) (p : Replica) (u : S) (out : List Message) (fs : List Event) (r : Replica) (t : S) (more : List Message)
      → Runs q s es p u out → Runs p u fs r t more → Runs q s (es ++ fs) r t (out ++ more)
  Ran-more q s [] p u out fs r t more h k =
      let at : Runs q s fs r t more = subst (λ (x : Replica). Runs x s fs r t more) h.0 (subst (λ (y : S). Runs p y fs r t more) h.1 k) in
      rw h.2 at
  Ran-more q s (e ∷ es) p u out fs r t more h k =
      (h.0, h.1, h.2, h.3 ++ more, h.4, Ran-more h.0 h.1 es p u h.3 fs r t more h.5 k, ap (λ w. w ++ more) h.6 ∙ append_assoc (Serving.sends_in h.2) h.3 more)

  pub one_run : (q : Replica) (s : S) (e : Event) (r : Replica) (t : S) (result : StepResult)
      → Serving.StepsTo loads saves faults q s e r t result → Runs q s (e ∷ []) r t (Serving.sends_in result)
  one_run q s e r t result h = (r, t, result, [], h, (refl, refl, refl), sym (append-nil (Serving.sends_in result)))

  -- what some turns did, and what others did after it
  pub Did-more : (xs ys : List Serving.Turn) (a b c : Serving.Scene S) → Serving.Did loads saves faults xs a b → Serving.Did loads saves faults ys b c → Serving.Did loads saves faults (xs ++ ys) a c
  Did-more xs ys a b c h k = record {
    sends = h.sends ++ k.sends;
    polled = rw map-append (Grows-more a.ticks b.ticks c.ticks (map Serving.tick_of xs) (map Serving.tick_of ys) h.polled k.polled);
    received = rw filter_map-append (Grows-more a.inputs b.inputs c.inputs (filter_map Serving.input_of xs) (filter_map Serving.input_of ys) h.received k.received);
    handed = Grows-more a.sent b.sent c.sent h.sends k.sends h.handed k.handed;
    ran = rw filter_map-append
        (Ran-more a.replica a.store (filter_map Serving.event_of xs) b.replica b.store h.sends (filter_map Serving.event_of ys) c.replica c.store k.sends h.ran k.ran);
  }

  pub Did-nothing : (a : Serving.Scene S) → Serving.Did loads saves faults [] a a
  Did-nothing a = record { sends = []; polled = Grows-none a.ticks; received = Grows-none a.inputs; handed = Grows-none a.sent; ran = (refl, refl, refl) }
