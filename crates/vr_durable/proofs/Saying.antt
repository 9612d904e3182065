-- What a value stands for behind each call.
use Rattle.std.proofs.Common.{◌≡◌, ℕ, List, [], ◌∷◌, ◌++◌, length, take, inl, inr, Result, Ok, Err, refl, sym, ap, ap₂, ◌∙◌, subst}
use Rattle.std.proofs.Math.Seq.{take-append_seam}
use Rattle.std.specs.Prelude.{OnOk, OnErr}
use Rattle.il_model.specs.declared.command.Command.{Command}
use Rattle.il_model.specs.declared.command.Answer.{Answer}
use Rattle.vr_model.specs.declared.event.Event.{Event}
use Rattle.vr_model.specs.declared.message.Message as sent
use Rattle.vr_model.specs.Membership.{Membership}
use Rattle.vr_model.specs.Messages.{Message}
use Rattle.vr_model.specs.Replicas.{ReplicaState}
use Rattle.vr_model.specs.StandsFor.{AllStandFrom}
use Rattle.vr_model.specs.Steps.{acts}
use Rattle.laws_pauses.specs.Pauses as pauses
use Rattle.vr_core.specs.StandsFor.{IsSavedAs}
use Rattle.vr_outbox.specs.declared.stage.Stage.{Stage}
use Rattle.vr_outbox.specs.declared.stage.Stage.TheVariants.{Flushed, Unflushed, Flushing, Behind}
use Rattle.vr_outbox.specs.Waiting.{Waiting}
use Rattle.vr_outbox.specs.Outboxes.{due, due_at, held_at, without_due}
use Rattle.vr_replica.specs.declared.state.Replica.{Replica}
use Rattle.vr_replica.specs.Standing.{StandsFor}
use Rattle.vr_resumed.specs.Resuming.{Steps, StaysAtErr}
use Rattle.vr_durable.specs.declared.durable.Durable.{Durable}
use Rattle.vr_durable.specs.declared.fault.TakeFault.{TakeFault}
use Rattle.vr_durable.specs.declared.fault.TakeFault.TheVariants.{Down}
use Rattle.vr_journal.specs.Records.{record_bytes}
use Rattle.vr_kept.specs.Inputs.{input_record}
use Rattle.vr_durable.specs.declared.putting.Pending.{Pending}
use Rattle.vr_durable.specs.Standing.{WereSaid, Stands, Stays, TakesUp, HandsOut, Misses, Puts, Same}

-- what one step says was said by who is that record then
all_said : (m : Membership) (r : ReplicaState Command) (ms : List sent.Message) (xs : List (Message Command Answer)) → AllStandFrom IsSavedAs m.group r ms xs → WereSaid m ms xs
all_said m r [] [] said = tt
all_said m r [] (x ∷ xs) said = absurd said
all_said m r (a ∷ ms) [] said = absurd said
all_said m r (a ∷ ms) (x ∷ xs) said = ((r, said.0), all_said m r ms xs said.1)

said_more : (m : Membership) (r : ReplicaState Command) (ms : List sent.Message) (xs : List (Message Command Answer)) (more : List sent.Message) (ys : List (Message Command Answer))
    → WereSaid m ms xs → AllStandFrom IsSavedAs m.group r more ys → WereSaid m (ms ++ more) (xs ++ ys)
said_more m r [] [] more ys held said = all_said m r more ys said
said_more m r [] (x ∷ xs) more ys held said = absurd held
said_more m r (a ∷ ms) [] more ys held said = absurd held
said_more m r (a ∷ ms) (x ∷ xs) more ys held said = (held.0, said_more m r ms xs more ys held.1 said)

pub takes : (old new : Durable) (e : Event) (between : Replica) (sends : List sent.Message) → Steps old.replica e between sends → new.replica ≡ between → new.outbox.held ≡ old.outbox.held ++ sends → TakesUp old e new
takes old new e between sends steps same held = λ m p x stands means.
    let did = steps m p.now x stands.now means in
    record {
      now = subst (λ (q : Replica). StandsFor q m (acts m.f m.number m.answer p.now x).replica) (sym same) did.replica;
      held = subst (λ (ms : List sent.Message). WereSaid m ms (p.held ++ (acts m.f m.number m.answer p.now x).sends)) (sym held)
          (said_more m (acts m.f m.number m.answer p.now x).replica old.outbox.held p.held sends (acts m.f m.number m.answer p.now x).sends stands.held did.said);
    }

pub stays : (old new : Durable) → new.replica ≡ old.replica → new.outbox.held ≡ old.outbox.held → Stays old new
stays old new same held = λ m p stands. record {
  now = subst (λ (q : Replica). StandsFor q m p.now) (sym same) stands.now;
  held = subst (λ (ms : List sent.Message). WereSaid m ms p.held) (sym held) stands.held;
}

by_stage : (old new : Durable) (sends : List sent.Message) (stage : Stage) → new.replica ≡ old.replica → sends ≡ due_at stage old.outbox.held → new.outbox.held ≡ held_at stage old.outbox.held → HandsOut old new sends
by_stage old new sends Flushed same all rest = λ m p stands.
    inr (
      subst (λ (ms : List sent.Message). WereSaid m ms p.held) (sym all) stands.held,
      record {
        now = subst (λ (q : Replica). StandsFor q m p.now) (sym same) stands.now;
        held = subst (λ (ms : List sent.Message). WereSaid m ms []) (sym rest) tt;
      },
    )
by_stage old new sends Unflushed same none rest = λ m p stands. inl (none, stays old new same rest m p stands)
by_stage old new sends Flushing same none rest = λ m p stands. inl (none, stays old new same rest m p stands)
by_stage old new sends Behind same none rest = λ m p stands. inl (none, stays old new same rest m p stands)

pub hands : (old new : Durable) (sends : List sent.Message) → new.replica ≡ old.replica → sends ≡ due old.outbox → new.outbox ≡ without_due old.outbox → HandsOut old new sends
hands old new sends same all rest = by_stage old new sends old.outbox.stage same all (ap (λ (w : Waiting). w.held) rest)

pub hands_nothing : (old : Durable) → HandsOut old old []
hands_nothing old = λ m p stands. inl (refl, stands)

flushed_at : (stage : Stage) (held : List sent.Message) → (due_at stage held ≡ [] → ⊥) → stage ≡ Flushed
flushed_at Flushed held some = refl
flushed_at Unflushed held some = absurd (some refl)
flushed_at Flushing held some = absurd (some refl)
flushed_at Behind held some = absurd (some refl)

pub is_flushed : (w : Waiting) (sends : List sent.Message) → sends ≡ due w → (sends ≡ [] → ⊥) → w.stage ≡ Flushed
is_flushed w sends all some = flushed_at w.stage w.held (λ e. some (all ∙ e))

-- and what was put is as far flushed as it was
pub stays_at : (old new : Waiting) → new ≡ without_due old → new.stage ≡ old.stage
stays_at old new rest = ap (λ (w : Waiting). w.stage) rest

-- where a step's sends are held the event is taken up
pub held_takes : {E : Type 0} (result : Result (Unit {0}) E) (old between new : Durable) (e : Event) (sends : List sent.Message) → Steps old.replica e between.replica sends → between.outbox.held ≡ old.outbox.held
    → OnOk result (new.outbox.held ≡ between.outbox.held ++ sends) → OnOk result (new.replica ≡ between.replica) → OnOk result (TakesUp old e new)
held_takes (Ok done) old between new e sends steps same held replica = takes old new e between.replica sends steps replica (held ∙ ap (λ (ms : List sent.Message). ms ++ sends) same)
held_takes (Err why) old between new e sends steps same held replica = tt

pub held_puts : {E : Type 0} (result : Result (Unit {0}) E) (old : Pending) (e : Event) (between new : Pending) → Puts old e between → new ≡ between → OnOk result (Puts old e new)
held_puts (Ok done) old e between new puts same = subst (λ (p : Pending). Puts old e p) (sym same) puts
held_puts (Err why) old e between new puts same = tt

-- who is down alone doesn't say what it left
pub down_alone : (P : Type 0) (result : Result (Unit {0}) TakeFault) → OnErr result (result ≡ Err Down) → OnErr result ((result ≡ Err Down → ⊥) → P)
down_alone P (Ok done) down = tt
down_alone P (Err why) down = λ up. absurd (up down)

pub missed : (P : Type 0) (result : Result (Unit {0}) TakeFault) → P → OnErr result ((result ≡ Err Down → ⊥) → P)
missed P (Ok done) p = tt
missed P (Err why) p = λ up. p

-- what was put is taken back
pub taken_back : (old : Pending) (e : Event) (between new : Pending) (n : ℕ) → Puts old e between → n ≡ length old.bytes.items → new.bytes.items ≡ take n between.bytes.items → new.sum ≡ old.sum → Same old new
taken_back old e between new n puts long cut sum =
    (cut ∙ ap₂ (λ (k : ℕ) (xs : List ℕ). take k xs) long puts.bytes ∙ take-append_seam old.bytes.items (record_bytes old.sum (input_record e)), sum)

-- a replica alone, as a life that begins
pub begins : (m : Membership) (r : ReplicaState Command) (d : Durable) → StandsFor d.replica m r → d.outbox.held ≡ [] → Stands d m (pauses.begun {C = Command} {A = Answer} r)
begins m r d now none = record { now = now; held = subst (λ (ms : List sent.Message). WereSaid m ms []) (sym none) tt }

-- a step that failed
pub misses : (old new : Durable) (e : Event) (between : Replica) → StaysAtErr old.replica e between → new.replica ≡ between → new.outbox.held ≡ old.outbox.held → Misses old e new
misses old new e between steps same held = λ m p x stands means. record {
  now = subst (λ (q : Replica). StandsFor q m p.now) (sym same) (steps m p.now x stands.now means);
  held = subst (λ (ms : List sent.Message). WereSaid m ms p.held) (sym held) stands.held;
}

pub misses_all : (old new : Durable) (e : Event) → new.replica ≡ old.replica → new.outbox.held ≡ old.outbox.held → Misses old e new
misses_all old new e same held = λ m p x stands means. stays old new same held m p stands
