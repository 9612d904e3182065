-- The events that were looked up so far.
use Rattle.std.proofs.Common.{◌≡◌, ◌+◌, ◌<◌, ◌≤◌, ℕ, List, [], ◌∷◌, ◌++◌, Some, map, take, length, get_or, ap, sym, ◌∙◌, subst}
use Rattle.std.proofs.lemmas.List.{map-append, take_more, take_all}
use Rattle.il_model.specs.Program.{Program}
use Rattle.plc_json.specs.declared.event.NamedEvent.{NamedEvent}
use Rattle.vr_schedules.specs.declared.event.WorldEvent.{WorldEvent}
use Rattle.plc_tool.specs.Simulated.{AreKnown, event_known}

pub one_more_known : (Q : Program) (named : List NamedEvent) (n : ℕ) (d : NamedEvent) (old new : List WorldEvent) (e : WorldEvent) → n < length named
    → AreKnown Q (take n named) old → d ≡ get_or named n d → event_known Q d ≡ Some e → new ≡ old ++ e ∷ [] → AreKnown Q (take (n + 1) named) new
one_more_known Q named n d old new e l are at is added =
    ap (map (event_known Q)) (take_more named n d l) ∙ map-append (event_known Q) (take n named) (get_or named n d ∷ [])
    ∙ ap (λ xs. xs ++ event_known Q (get_or named n d) ∷ []) are ∙ ap (λ x. map Some old ++ x ∷ []) (ap (event_known Q) (sym at) ∙ is)
    ∙ sym (map-append Some old (e ∷ [])) ∙ ap (map Some) (sym added)

pub all_known : (Q : Program) (named : List NamedEvent) (n : ℕ) (events : List WorldEvent) → length named ≤ n → AreKnown Q (take n named) events → AreKnown Q named events
all_known Q named n events l are = subst (λ xs. AreKnown Q xs events) (take_all n named l) are
