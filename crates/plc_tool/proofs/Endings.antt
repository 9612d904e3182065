-- What a call's end tells, by what it did.
use Rattle.std.proofs.Common.{◌≡◌, ◌⊎◌, inl, inr, ℕ, List, Result, Ok, Err, subst, sym, ap, ◌∙◌, arith, refl}
use Rattle.std.specs.Prelude.{IfErr, OnOk, IsOk}
use Rattle.io_model.specs.Streams.{Failed}
use Rattle.io_model.specs.declared.counted.CountedWrite.{Ghosts as CountedWriter}
use Rattle.plc_json.specs.declared.command.JsonFault.{JsonFault}
use Rattle.plc_json.specs.declared.command.JsonFault.TheVariants.{Shape, Memory}
use Rattle.plc_json.specs.declared.event.NamedEvent.{NamedEvent}
use Rattle.plc_json.specs.Commands.{HasNoCommands}
use Rattle.plc_json.specs.Events.{HasSchedule, HasNoSchedule}
use Rattle.il_text.specs.declared.fault.Fault.{Fault}
use Rattle.il_text.specs.declared.fault.Fault.TheVariants as faults
use Rattle.il_text.specs.Meaning.{IsTextFault, IsGoodText, OrMemory, IsRefused, IsFirstFault}
use Rattle.il_text.specs.Telling.{IsWhyStopped, status_of, Ends, EndsTold, StopsShort, WentOut, fault_line}
use Rattle.plc_tool.specs.Calls.{IsFaultOfRun}
use Rattle.plc_tool.specs.Simulated.{IsToldOf, IsFaultOfSchedule}
use Rattle.plc_tool.specs.Calls.{fault_of}

-- a device's fault and want of memory are no refusal of input
no_input : {Y : Type 0} (e : Fault) → (e ≡ faults.Device) ⊎ (e ≡ faults.Memory) → status_of e ≡ 1 → Y
no_input e (inl is) one = let two : status_of e ≡ 2 = ap status_of is in absurd (omega arith)
no_input e (inr is) one = let two : status_of e ≡ 2 = ap status_of is in absurd (omega arith)

pub why_stopped : (before after : ℕ) (e : Fault) → IsWhyStopped e before after → (e ≡ faults.Device) ⊎ (e ≡ faults.Memory)
why_stopped before after e (inl device) = inl device.0
why_stopped before after e (inr memory) = inr memory

module _ {W : Type 0} (w : CountedWriter W) (F : Fault → Type 0) (status : ℕ) (old new : W) where
  -- what was told at a status of 1 is such a fault
  input_told : (e : Fault) → OrMemory F e → status_of e ≡ 1 → F e
  input_told e (inl told) one = told
  input_told e (inr memory) one = no_input e (inr memory) one

  -- it stopped for a device or for memory, or at a fault
  pub by_end : (A B : Type 0) (Why : Fault → Type 0) → ((e : Fault) → Why e → (e ≡ faults.Device) ⊎ (e ≡ faults.Memory)) → (r : Result (Unit {0}) Fault)
      → IfErr r (λ e. Why e × A ⊎ OrMemory F e × B) → Ends w r status old new → EndsTold w F status old new
  by_end A B Why stops (Ok x) h ends = inl ends
  by_end A B Why stops (Err e) h ends = inr (record { fault = e; answered = ends.0; is = λ one. elim h [ inl why ↦ no_input e (stops e why.0) one | inr told ↦ input_told e told.0 one ]; line = ends.1 })

  -- at a status of 1 the fault that was told is one of these
  pub told_at_1 : EndsTold w F status old new → status ≡ 1 → (e : Fault) × (status_of e ≡ 1) × F e
  told_at_1 (inl good) one = absurd (omega (arith, good.0, one))
  told_at_1 (inr told) one = let input : status_of told.fault ≡ 1 = sym told.answered ∙ one in (told.fault, input, told.is input)

  -- more faults than these
  pub wider : (G : Fault → Type 0) → ((e : Fault) → F e → G e) → EndsTold w F status old new → EndsTold w G status old new
  wider G more (inl good) = inl good
  wider G more (inr told) = inr (record { fault = told.fault; answered = told.answered; is = λ one. more told.fault (told.is one); line = told.line })

-- what is told first is the text's fault, or the other of a good text
pub first_told : (text : List ℕ) (G : Fault → Type 0) (fault first : Fault) → IsFirstFault text fault first → (status_of fault ≡ 1 → G fault) → status_of first ≡ 1
    → IsTextFault text first ⊎ G first × IsGoodText text
first_told text G fault first (inl (inl told)) g one = inl told
first_told text G fault first (inl (inr other)) g one = inr (subst G (sym other.0) (g (ap status_of (sym other.0) ∙ one)), other.1)
first_told text G fault first (inr memory) g one = no_input first (inr memory) one

-- the bytes of a file gave no commands
pub no_commands : (file : List ℕ) (json : JsonFault) (fault : Fault) → fault ≡ fault_of json → (json ≡ Shape → HasNoCommands file) → status_of fault ≡ 1 → (fault ≡ faults.Commands) × HasNoCommands file
no_commands file Shape fault is none one = (is, none refl)
no_commands file Memory fault is none one = no_input fault (inr is) one

-- of the faults of a file of commands only want of memory is none of input
pub only_memory : (json : JsonFault) (fault : Fault) → fault ≡ fault_of json → status_of fault ≡ 2 → fault ≡ faults.Memory
only_memory Shape fault is two = let one : status_of fault ≡ 1 = ap status_of is in absurd (omega (arith, one, two))
only_memory Memory fault is two = is

pub of_run : (text file : List ℕ) (e : Fault) → IsTextFault text e ⊎ ((e ≡ faults.Commands) × HasNoCommands file) × IsGoodText text → IsFaultOfRun text file e
of_run text file e (inl told) = inl told
of_run text file e (inr none) = inr (none.0.0, none.0.1, none.1)

-- a fault of the text is told before those of the events
pub of_its_text : (text : List ℕ) (f budget : ℕ) (named : List NamedEvent) (e : Fault) → OrMemory (IsTextFault text) e → OrMemory (IsToldOf text f budget named) e
of_its_text text f budget named e (inl told) = inl (inl told)
of_its_text text f budget named e (inr memory) = inr memory

-- the events that the bytes of a file have are refused
pub of_events : (text : List ℕ) (f budget : ℕ) (file : List ℕ) (named : List NamedEvent) → HasSchedule file named → (e : Fault) → IsToldOf text f budget named e → IsFaultOfSchedule text f budget file e
of_events text f budget file named has e (inl told) = inl told
of_events text f budget file named has e (inr refused) = inr (inr (named, has, refused))

-- the bytes of a file gave no schedule
pub no_schedule : (text : List ℕ) (f budget : ℕ) (file : List ℕ) (e : Fault) → IsTextFault text e ⊎ ((e ≡ faults.Schedule) × HasNoSchedule file) × IsGoodText text → IsFaultOfSchedule text f budget file e
no_schedule text f budget file e (inl told) = inl told
no_schedule text f budget file e (inr none) = inr (inl (none.0.0, none.0.1, none.1))

-- memory ran out for what the bytes of a file are
pub no_memory : (text : List ℕ) (f budget : ℕ) (file : List ℕ) (first : Fault) → IsFirstFault text faults.Memory first → status_of first ≡ 1 → IsFaultOfSchedule text f budget file first
no_memory text f budget file first told one = elim (first_told text (λ (f : Fault). ⊥) faults.Memory first told (no_input faults.Memory (inr refl)) one) [ inl t ↦ inl t | inr x ↦ absurd x.0 ]

-- a status of 1 is that of a fault of the input: the call stopped before it wrote
pub unwritten : (A B : Type 0) (Why F : Fault → Type 0) → ((e : Fault) → Why e → (e ≡ faults.Device) ⊎ (e ≡ faults.Memory)) → (r : Result (Unit {0}) Fault) (status : ℕ) → status ≡ 1 → OnOk r (status ≡ 0)
    → IfErr r (λ e. status ≡ status_of e) → IfErr r (λ e. Why e × A ⊎ F e × B) → B
unwritten A B Why F stops (Ok x) status one none told h = absurd (omega arith)
unwritten A B Why F stops (Err e) status one none told (inl why) = no_input e (stops e why.0) (sym told ∙ one)
unwritten A B Why F stops (Err e) status one none told (inr h) = h.1

-- input is refused by the fault that was told
pub refused : (F : Fault → Type 0) → (e : Fault) × (status_of e ≡ 1) × F e → IsRefused F
refused F told = record { fault = told.0; input = told.1; is = told.2 }

-- of the faults that are told at a status of 2 that of input is none
is_memory : (F : Fault → Type 0) → ((e : Fault) → F e → status_of e ≡ 1) → (e : Fault) → OrMemory F e → status_of e ≡ 2 → e ≡ faults.Memory
is_memory F input e (inl told) two = absurd (omega (arith, input e told, two))
is_memory F input e (inr memory) two = memory

-- of what is told first at a status of 2, where the other fault is then want of memory
is_want : (text : List ℕ) (fault first : Fault) → (status_of fault ≡ 2 → fault ≡ faults.Memory) → ((e : Fault) → IsTextFault text e → status_of e ≡ 1) → IsFirstFault text fault first → status_of first ≡ 2 → first ≡ faults.Memory
is_want text fault first other input (inl (inl told)) two = absurd (omega (arith, input first told, two))
is_want text fault first other input (inl (inr same)) two = same.0 ∙ other (ap status_of (sym same.0) ∙ two)
is_want text fault first other input (inr memory) two = memory

module _ {W : Type 0} (w : CountedWriter W) (old new : W) where
  told_as : (e f : Fault) → e ≡ f → WentOut w (fault_line e) old new → WentOut w (fault_line f) old new
  told_as e f is line = subst (λ (x : Fault). WentOut w (fault_line x) old new) is line

  -- at a status of 2 a device failed in the call, or memory ran out before it wrote
  pub stops_short : (F : Fault → Type 0) (A B : Type 0) (r : Result (Unit {0}) Fault) (status : ℕ) → ((e : Fault) → F e → status_of e ≡ 1) → status ≡ 2
      → IfErr r (λ e. (e ≡ faults.Device) × A ⊎ OrMemory F e × B) → Ends w r status old new → StopsShort w A B old new
  stops_short F A B (Ok x) status input two h ends = absurd (omega (arith, ends.0, two))
  stops_short F A B (Err e) status input two (inl h) ends = inl (h.1, told_as e faults.Device h.0 ends.1)
  stops_short F A B (Err e) status input two (inr h) ends = inr (h.1, told_as e faults.Memory (is_memory F input e h.0 (sym ends.0 ∙ two)) ends.1)

  -- at a status of 2 a device failed in the call, or memory ran out in it
  pub stops_late : (F : Fault → Type 0) (A B : Type 0) (before after : ℕ) (r : Result (Unit {0}) Fault) (status : ℕ) → ((e : Fault) → F e → status_of e ≡ 1) → status ≡ 2
      → IfErr r (λ e. IsWhyStopped e before after × A ⊎ OrMemory F e × B) → Ends w r status old new → StopsShort w (A × Failed before after) (A ⊎ B) old new
  stops_late F A B before after (Ok x) status input two h ends = absurd (omega (arith, ends.0, two))
  stops_late F A B before after (Err e) status input two (inl h) ends = elim h.0 [
    | inl device ↦ inl ((h.1, device.1), told_as e faults.Device device.0 ends.1)
    | inr memory ↦ inr (inl h.1, told_as e faults.Memory memory ends.1)
  ]
  stops_late F A B before after (Err e) status input two (inr h) ends =
      inr (inr h.1, told_as e faults.Memory (is_memory F input e h.0 (sym ends.0 ∙ two)) ends.1)

  -- at a status of 2 memory ran out before anything was written
  pub stops_first : (text : List ℕ) (A B : Type 0) (fault first : Fault) (status : ℕ) → (status_of fault ≡ 2 → fault ≡ faults.Memory) → ((e : Fault) → IsTextFault text e → status_of e ≡ 1)
      → IsFirstFault text fault first → status ≡ status_of first → WentOut w (fault_line first) old new → B → status ≡ 2 → StopsShort w A B old new
  stops_first text A B fault first status other input told answered line nothing two =
      inr (nothing, told_as first faults.Memory (is_want text fault first other input told (sym answered ∙ two)) line)

-- what holds where it is done, holds of what is done
pub where_ok : (r : Result (Unit {0}) Fault) (P : Type 0) → IsOk r → OnOk r P → P
where_ok (Ok x) P good h = h
where_ok (Err e) P good h = absurd cc
