-- A node whose stage is still to get inputs stays quiet by each call.
use Rattle.std.proofs.Common.{◌≡◌, ◌⊎◌, inl, inr, ℕ, Bool, true, false, not, ◌&&◌, List, Option, Some, None, is_some, refl, ap, ◌∙◌}
use Rattle.std.specs.declared.time.Duration.{Duration}
use Rattle.il_model.specs.declared.cells.InImage.{InImage}
use Rattle.il_model.specs.declared.command.Command.{Command}
use Rattle.il_model.specs.declared.command.Answer.{Answer}
use Rattle.il_model.specs.declared.command.Answer.TheVariants.{Done}
use Rattle.io_driver.specs.Driver.{release_by}
use Rattle.vr_client.specs.Client.{BecomesAt, Client, answer_by}
use Rattle.vr_model.specs.Logs.{Request}
use Rattle.vr_model.specs.Messages.{Body, Message, Reply}
use Rattle.vr_model.specs.Steps.{Hears, heard}
use Rattle.vr_model.specs.World.{ClientState, is_waiting}
use Rattle.plc_machine.specs.declared.driver.MachineDriver.{MachineDriver}
use Rattle.plc_machine.specs.declared.leading.LastScan.{LastScan}
use Rattle.plc_machine.specs.Driving.{IsKept, Looks, TakesReply, shown_by}
use Rattle.plc_node_core.specs.Quiet.{is_quiet, may_inherit}
use Rattle.plc_node_core.specs.Actions.{led_in}
use Rattle.plc_node_core.specs.Turns.{begins_to_lead}
use Rattle.plc_node_core.proofs.Leading.{kept_or_turned, turned}

by_parts : (a b : Bool) → a ≡ false → b ≡ false → (not a && not b) ≡ true
by_parts a b first second = rw (first, second) refl

parts : (a b : Bool) → (not a && not b) ≡ true → (a ≡ false) × (b ≡ false)
parts false false is = (refl, refl)
parts false true is = absurd cc
parts true b is = absurd cc

none_shown : {A : Type 0} (o : Option A) → o ≡ None → is_some o ≡ false
none_shown o none = ap is_some none

pub turned_quiet : (d : MachineDriver) → is_some d.driver.state.waits ≡ false → d.shown ≡ None → is_quiet d ≡ true
turned_quiet d waits shown = by_parts (is_some d.driver.state.waits) (is_some d.shown) waits (none_shown d.shown shown)

same_quiet : (a b : MachineDriver) → b.driver ≡ a.driver → b.shown ≡ a.shown → is_quiet b ≡ is_quiet a
same_quiet a b driver shown = ap (λ d. not (is_some d.state.waits) && not (is_some b.shown)) driver ∙ ap (λ s. not (is_some a.driver.state.waits) && not (is_some s)) shown

looked : (leads : Option ℕ) (last : Option LastScan) (now : Duration) (a b : MachineDriver) → IsKept leads a.course ⊎ (IsKept leads a.course → ⊥) → is_quiet a ≡ true → Looks leads last now a b → is_quiet b ≡ true
looked leads last now a b (inl kept) quiet looks = same_quiet a b (looks.kept kept).0 (looks.kept kept).1 ∙ quiet
looked leads last now a b (inr turned) quiet looks = turned_quiet b (looks.turned turned).0 (looks.turned turned).1

-- by a look at its replica
pub look_quiet : (inherited : Option InImage) (leads : Option ℕ) (last : Option LastScan) (now : Duration) (a b : MachineDriver) → may_inherit inherited a ≡ true → Looks leads last now a b → may_inherit inherited b ≡ true
look_quiet None leads last now a b may looks = refl
look_quiet (Some inputs) leads last now a b may looks = looked leads last now a b (kept_or_turned leads a.course) may looks

-- whatever it inherits where it turned
pub any_inherits : (inherited : Option InImage) (d : MachineDriver) → is_quiet d ≡ true → may_inherit inherited d ≡ true
any_inherits None d quiet = refl
any_inherits (Some inputs) d quiet = quiet

-- ---- by a message

not_waited : {C : Type 0} (waits : Option (Request C)) (number : ℕ) → is_some waits ≡ false → is_waiting waits number ≡ false
not_waited None number none = refl
not_waited (Some m) number none = absurd cc

no_release : (k : ClientState Command) (body : Body Command Answer) → is_some k.waits ≡ false → release_by k body ≡ None
no_release k (Reply view number answer) none = rw (not_waited k.waits number none) refl
no_release k body none = refl

no_answer : (k : ClientState Command) (body : Body Command Answer) → is_some k.waits ≡ false → is_some (answer_by k body) ≡ false
no_answer k (Reply view number answer) none = rw (not_waited k.waits number none) refl
no_answer k body none = refl

still_none : (f c : ℕ) (answer : List Command → Answer) (k : ClientState Command) (body : Body Command Answer) → is_some k.waits ≡ false → is_some (heard f c answer k body).waits ≡ false
still_none f c answer k (Reply view number given) none = rw (not_waited k.waits number none) none
still_none f c answer k body none = none

heard_none : (a b : Client) (m : Message Command Answer) → BecomesAt a (Hears m) b → is_some a.state.waits ≡ false → is_some b.state.waits ≡ false
heard_none a b m becomes none =
    ap (λ (x : Client). is_some x.state.waits) (becomes (λ commands. Done)) ∙ still_none a.f a.number (λ commands. Done) a.state m.body none

pub reply_quiet : (a b : MachineDriver) (m : Message Command Answer) → is_quiet a ≡ true → BecomesAt a.driver (Hears m) b.driver → TakesReply (release_by a.driver.state m.body) (is_some (answer_by a.driver.state m.body)) a b → is_quiet b ≡ true
reply_quiet a b m quiet becomes takes =
    let both = parts (is_some a.driver.state.waits) (is_some a.shown) quiet in
    let shown : b.shown ≡ a.shown =
    takes.0 ∙ ap (λ r. shown_by (is_some r) (is_some (answer_by a.driver.state m.body)) a.submitted a.shown) (no_release a.driver.state m.body both.0)
    ∙ ap (λ is. shown_by false is a.submitted a.shown) (no_answer a.driver.state m.body both.0) in
    by_parts (is_some b.driver.state.waits) (is_some b.shown) (heard_none a.driver b.driver m becomes both.0) (ap is_some shown ∙ both.1)

-- by a call that leaves a quiet one quiet
pub still_may : (inherited : Option InImage) (a b : MachineDriver) → may_inherit inherited a ≡ true → (is_quiet a ≡ true → is_quiet b ≡ true) → may_inherit inherited b ≡ true
still_may None a b may stays = refl
still_may (Some inputs) a b may stays = stays may

-- where nothing is to be inherited
pub none_may : (inherited : Option InImage) (d : MachineDriver) → is_some inherited ≡ false → may_inherit inherited d ≡ true
none_may None d none = refl
none_may (Some inputs) d none = absurd cc

-- where it begins to lead, whatever it's to inherit then
pub begins_quiet : (inherited : Option InImage) (leads : Option ℕ) (last : Option LastScan) (now : Duration) (a b : MachineDriver) → begins_to_lead leads (led_in a.course) ≡ true → Looks leads last now a b → may_inherit inherited b ≡ true
begins_quiet inherited leads last now a b begins looks =
    let turns = looks.turned (turned leads a.course begins) in any_inherits inherited b (turned_quiet b turns.0 turns.1)
