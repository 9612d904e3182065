-- That no hello takes a machine out of an epoch in which a majority takes part.
use Rattle.std.proofs.Common.{◌≡◌, ℕ, Bool, true, false, Option, Some}
use Rattle.std.proofs.lemmas.Bool.{false≢true}
use Rattle.std.specs.Prelude.{if◌then◌else◌}
use Rattle.net_hello.specs.declared.hello.Epoch.{Epoch}
use Rattle.plc_epochs.specs.Epochs.{is_later}
use Rattle.plc_epochs.specs.Table
use Rattle.plc_epochs.specs.declared.cold_start.Phase.{Phase}
use Rattle.plc_epochs.specs.declared.cold_start.Phase.TheVariants.{Waiting, Above, Entering, Entered, Beginning, TakingPart, Recovering}
use Rattle.plc_epochs.specs.declared.cold_start.Step.{Step}
use Rattle.plc_epochs.specs.declared.cold_start.ColdStart.{ColdStart}
use Rattle.plc_epochs.proofs.GoingOn.{either}

-- where there's a reason to stay, it stays
stays_by : (early goes_on : Bool) (first does : Step) (others : Option Step) (from now : ℕ) (epoch : Epoch) (a b : ColdStart) (step : Step) → goes_on ≡ true → Table.LeavesUnless (if early then Some first else (if goes_on then Some does else others)) from epoch now a step b → b ≡ a
stays_by true goes_on first does others from now epoch a b step e h = h.1
stays_by false true first does others from now epoch a b step e h = h.1
stays_by false false first does others from now epoch a b step e h = absurd (false≢true e)

hears_later : (own : Epoch) (from now : ℕ) (epoch : Epoch) (a b : ColdStart) (step : Step) → Table.goes_on a now ≡ true → Table.HearsLater own from epoch now a step b → b ≡ a
hears_later own from now epoch a b step on h =
    either (is_later epoch own) _ _ _ h (λ d l. stays_by (Table.is_early a now) (Table.goes_on a now) _ _ _ from now epoch a b step on l) (λ d s. s.1)

hears_in : (phase : Phase) (from now : ℕ) (epoch : Epoch) (a b : ColdStart) (step : Step) → Table.goes_on_in phase a now ≡ true → Table.goes_on a now ≡ true → Table.HearsIn phase from epoch now a step b → b ≡ a
hears_in (Waiting heard above) from now epoch a b step e on h = absurd (false≢true e)
hears_in (Above above) from now epoch a b step e on h = absurd (false≢true e)
hears_in (Entering own heard) from now epoch a b step e on h = absurd (false≢true e)
hears_in (Entered own heard) from now epoch a b step e on h = absurd (false≢true e)
hears_in (Beginning own) from now epoch a b step e on h = absurd (false≢true e)
hears_in (Recovering own r) from now epoch a b step e on h = hears_later own from now epoch a b step on h
hears_in (TakingPart own) from now epoch a b step e on h = hears_later own from now epoch a b step on h

pub hears : (from now : ℕ) (epoch : Epoch) (a b : ColdStart) (step : Step) → Table.goes_on a now ≡ true → Table.HearsHello from epoch now a step b → b ≡ a
hears from now epoch a b step on h =
    either (Table.is_heard a from epoch) _ _ _ h (λ e g. hears_in a.phase from now epoch a b step on on g) (λ e s. s.1)
