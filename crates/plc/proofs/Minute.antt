-- What is served as the words ask for it is lost after the minute that each of them has.
use Rattle.std.proofs.Common.{◌≡◌, ap, ◌∙◌}
use Rattle.plc_settings.specs.declared.Settings.{Settings}
use Rattle.plc_words.specs.declared.forms.Words.{Words}
use Rattle.plc_words.specs.declared.forms.Words.TheVariants as words
use Rattle.plc_words.specs.Asked.{IsLostAfterAMinute as AsksForAMinute}
use Rattle.plc.specs.declared.Outcome.{Outcome}
use Rattle.plc.specs.declared.Outcome.TheVariants as outcomes
use Rattle.plc.specs.Asked.{IsAsAsked, IsLostAfterAMinute}

pub as_asked : (asked : Words) (outcome : Outcome) → AsksForAMinute asked → IsAsAsked asked outcome → IsLostAfterAMinute outcome
as_asked asked (outcomes.Done status) minute serves = tt
as_asked asked (outcomes.Ask asking) minute serves = tt
as_asked asked (outcomes.Carry carrying) minute serves = tt
as_asked asked (outcomes.Fetch request) minute serves = tt
as_asked asked (outcomes.Compare comparison) minute serves = tt
as_asked asked (outcomes.ServeMachine machine) minute serves = tt
as_asked (words.Serve source stores report settings operators clients) (outcomes.Serve serving) minute serves = ap (λ (s : Settings). s.lost_after) serves ∙ minute
as_asked (words.Asm source image) (outcomes.Serve serving) minute serves = absurd serves
as_asked (words.List image) (outcomes.Serve serving) minute serves = absurd serves
as_asked (words.Names source) (outcomes.Serve serving) minute serves = absurd serves
as_asked (words.Diff old new fetching) (outcomes.Serve serving) minute serves = absurd serves
as_asked (words.Where source asked) (outcomes.Serve serving) minute serves = absurd serves
as_asked (words.Run source commands budget) (outcomes.Serve serving) minute serves = absurd serves
as_asked (words.Sim source schedule config budget) (outcomes.Serve serving) minute serves = absurd serves
as_asked (words.SimGroup source group seed hours faults until is_traced) (outcomes.Serve serving) minute serves = absurd serves
as_asked (words.Format source group machine waits directory) (outcomes.Serve serving) minute serves = absurd serves
as_asked (words.NewGroup group) (outcomes.Serve serving) minute serves = absurd serves
as_asked (words.NewKey path) (outcomes.Serve serving) minute serves = absurd serves
as_asked (words.EnterEpoch group epoch program forgets directory) (outcomes.Serve serving) minute serves = absurd serves
as_asked (words.Show directory) (outcomes.Serve serving) minute serves = absurd serves
as_asked (words.Listing is_changed directory) (outcomes.Serve serving) minute serves = absurd serves
as_asked (words.Ask console commands) (outcomes.Serve serving) minute serves = absurd serves
as_asked (words.Fetch origin fetching file is_image) (outcomes.Serve serving) minute serves = absurd serves
as_asked (words.Field field check once stop status) (outcomes.Serve serving) minute serves = absurd serves
as_asked (words.Change console source) (outcomes.Serve serving) minute serves = absurd serves
as_asked (words.ServeMachine group directory trace) (outcomes.Serve serving) minute serves = absurd serves
