-- The definition of one history, computed: numbers of requests, and a trace that isn't one.
use Rattle.std.proofs.Common.{◌≡◌, ℕ, ◌+◌, ◌^◌, ◌<◌, List, [], ◌∷◌, Some, refl, sym, ap, subst, ◌∙◌, arith}
use Rattle.std.specs.Prelude.{slice_get}
use Rattle.std.proofs.lemmas.Option.{same_Some}
use Rattle.il_model.specs.declared.command.Command.{Command}
use Rattle.il_model.specs.declared.command.Command.TheVariants.{Reset}
use Rattle.il_model.specs.declared.command.Answer.{Answer}
use Rattle.vr_schedules.specs.declared.event.WorldEvent.{WorldEvent}
use Rattle.vr_schedules.specs.declared.event.WorldEvent.TheVariants.{Submit, ClientRestart, Timeout}
use Rattle.vr_schedules.specs.declared.trace.Release.{Release}
use Rattle.vr_schedules.specs.declared.trace.Trace.{Trace}
use Rattle.vr_world.specs.History.{next_number, IsOneHistory}

-- Client 1 submits, starts again and submits once more, with an event of another client and of a replica between.
schedule : List WorldEvent
schedule = Submit 1 Reset ∷ ClientRestart 1 ∷ Submit 2 Reset ∷ Timeout 0 ∷ Submit 1 Reset ∷ []

first : next_number 1 [] ≡ 1
first = refl

second : next_number 1 (Submit 1 Reset ∷ []) ≡ 2
second = refl

after_a_start : next_number 1 (Submit 1 Reset ∷ ClientRestart 1 ∷ Submit 2 Reset ∷ Timeout 0 ∷ []) ≡ 2 ^ 32 + 1
after_a_start = refl

in_the_end : next_number 1 schedule ≡ 2 ^ 32 + 2
unfolding schedule
in_the_end = refl

of_another : next_number 2 schedule ≡ 2
unfolding schedule
of_another = refl

-- An answer that is released while the list is still empty is in no one history.
too_early : (answers : List Command → List Answer) (events : List WorldEvent) (trace : Trace) (release : Release) (rest : List Release) → trace.releases.items ≡ release ∷ rest → slice_get trace.lengths.items release.event ≡ Some 0
    → IsOneHistory answers events trace → ⊥
too_early answers events trace release rest releases empty h =
    let a = h.released 0 release (ap (λ rs. slice_get rs 0) releases) in
    let none : 0 ≡ a.committed = same_Some _ _ (sym empty ∙ a.had) in
    let below : a.place < a.committed = a.below in
    omega arith
