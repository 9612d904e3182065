-- What each call makes of the records of a file.
use Rattle.std.proofs.Common.{◌≡◌, ℕ, ◌+◌, List, [], ◌∷◌, ◌++◌, length, Result, Ok, Err, refl, sym, ap, ap₂, ◌∙◌, subst, append-nil, length-append}
use Rattle.std.specs.Prelude.{OnOk, OnErr}
use Rattle.vr_journal.specs.Records.{Entry, first_sum, spelt, sum_behind, sum_behind_all, record_bytes}
use Rattle.vr_kept.specs.Inputs.{input_record}
use Rattle.vr_model.specs.declared.event.Event.{Event}
use Rattle.vr_outbox.specs.declared.stage.Stage.{Stage}
use Rattle.vr_outbox.specs.declared.stage.Stage.TheVariants.{Flushed, Unflushed, Flushing, Behind}
use Rattle.vr_outbox.specs.Stages.{behind_put, behind_begin, behind_end}
use Rattle.vr_durable.specs.Standing.{Puts, Same}
use Rattle.vr_durable.specs.declared.fault.TakeFault.{TakeFault}
use Rattle.vr_durable.specs.declared.fault.TakeFault.TheVariants.{Down}
use Rattle.vr_durable.specs.declared.putting.Pending.{Pending}
use Rattle.vr_filed.specs.declared.filed.Filed.{Filed}
use Rattle.vr_disk.specs.declared.writing.Writing.{Writing}
use Rattle.vr_disk.specs.Disks.{Writes}
use Rattle.vr_filed.specs.Filing.{Records, Holds, IsAt, written, flushed_only, with_put, begun, ended, Makes, Stays, BeginsWith, Begins, IsAllFlushed}
use Rattle.vr_disk.proofs.Spellings.{sum_append, spelt_append, spelt_one}

-- a file that is flushed
pub holds_flushed : (q : Filed) (es : List Entry) → q.durable.outbox.stage ≡ Flushed → q.durable.pending.bytes.items ≡ [] → q.durable.pending.sum ≡ sum_behind_all first_sum es → q.length ≡ length (spelt first_sum es) → Holds q (flushed_only es)
holds_flushed q es stage none sum long = record {
  stage = subst (λ (s : Stage). IsAt s (flushed_only es)) (sym stage) (refl, refl);
  long = long ∙ ap (λ (xs : List Entry). length (spelt first_sum xs)) (sym (append-nil es));
  bytes = none;
  sum = sum ∙ ap (λ (xs : List Entry). sum_behind_all first_sum xs) (sym (append-nil es));
}

put_stage : (s : Stage) (e : Event) (r : Records) → IsAt s r → IsAt (behind_put s) (with_put e r)
put_stage Flushed e r h = h.0
put_stage Unflushed e r h = h
put_stage Flushing e r h = tt
put_stage Behind e r h = tt

puts_one : (old new : Filed) (e : Event) → Puts old.durable.pending e new.durable.pending → new.durable.outbox.stage ≡ behind_put old.durable.outbox.stage → new.length ≡ old.length → Makes old new (with_put e)
puts_one old new e puts stage long = λ r h. record {
  stage = subst (λ (s : Stage). IsAt s (with_put e r)) (sym stage) (put_stage old.durable.outbox.stage e r h.stage);
  long = long ∙ h.long;
  bytes = puts.bytes ∙ ap₂ (λ (xs : List ℕ) (s : ℕ). xs ++ record_bytes s (input_record e)) h.bytes h.sum ∙ sym (spelt_one (sum_behind_all first_sum (written r)) r.put (input_record e));
  sum = puts.sum ∙ ap (λ (s : ℕ). sum_behind s (input_record e)) h.sum ∙ sym (sum_append (sum_behind_all first_sum (written r)) r.put (input_record e ∷ []));
}

pub put_all : (result : Result (Unit {0}) TakeFault) (old new : Filed) (e : Event) → OnOk result (Puts old.durable.pending e new.durable.pending) → OnOk result (new.durable.outbox.stage ≡ behind_put old.durable.outbox.stage) → new.length ≡ old.length
    → OnOk result (Makes old new (with_put e))
put_all (Ok done) old new e puts stage long = puts_one old new e puts stage long
put_all (Err why) old new e puts stage long = tt

pub same_records : (old new : Filed) → new.durable.pending.bytes.items ≡ old.durable.pending.bytes.items → new.durable.pending.sum ≡ old.durable.pending.sum → new.durable.outbox.stage ≡ old.durable.outbox.stage → new.length ≡ old.length → Stays old new
same_records old new bytes sum stage long = λ r h. record {
  stage = subst (λ (s : Stage). IsAt s r) (sym stage) h.stage;
  long = long ∙ h.long;
  bytes = bytes ∙ h.bytes;
  sum = sum ∙ h.sum;
}

pub same_pending : (old new : Filed) → new.durable.pending ≡ old.durable.pending → new.durable.outbox.stage ≡ old.durable.outbox.stage → new.length ≡ old.length → Stays old new
same_pending old new pending stage long =
    same_records old new (ap (λ (p : Pending). p.bytes.items) pending) (ap (λ (p : Pending). p.sum) pending) stage long

pub stays_all : (result : Result (Unit {0}) TakeFault) (old new : Filed) → OnErr result ((result ≡ Err Down → ⊥) → Same old.durable.pending new.durable.pending) → OnErr result (new.durable.outbox.stage ≡ old.durable.outbox.stage) → new.length ≡ old.length
    → OnErr result ((result ≡ Err Down → ⊥) → Stays old new)
stays_all (Ok done) old new same stage long = tt
stays_all (Err why) old new same stage long = λ up. same_records old new (same up).0 (same up).1 stage long

-- a writing begins
pub begins_of : (old new : Filed) (w : Writing) → old.durable.outbox.stage ≡ Unflushed → new.durable.outbox.stage ≡ behind_begin old.durable.outbox.stage → w.at ≡ old.length → w.bytes.items ≡ old.durable.pending.bytes.items
    → new.durable.pending.bytes.items ≡ [] → new.durable.pending.sum ≡ old.durable.pending.sum → new.length ≡ old.length + length old.durable.pending.bytes.items → Begins old new w
begins_of old new w unflushed stage at bytes rest sum long = λ r h.
    let none : r.writing ≡ [] = subst (λ (s : Stage). IsAt s r) unflushed h.stage in
    let all : written r ≡ r.flushed = ap (λ (ws : List Entry). r.flushed ++ ws) none ∙ append-nil r.flushed in
    let were : old.length ≡ length (spelt first_sum r.flushed) = h.long ∙ ap (λ (xs : List Entry). length (spelt first_sum xs)) all in
    let are : old.durable.pending.bytes.items ≡ spelt (sum_behind_all first_sum r.flushed) r.put = h.bytes ∙ ap (λ (xs : List Entry). spelt (sum_behind_all first_sum xs) r.put) all in
    record {
      none = none;
      writes = record { at = at ∙ were; bytes = bytes ∙ are };
      holds = record {
        stage = subst (λ (s : Stage). IsAt s (begun r)) (sym (stage ∙ ap behind_begin unflushed)) refl;
        long = long ∙ ap₂ (λ (a b : ℕ). a + b) were (ap length are)
            ∙ sym (length-append (spelt first_sum r.flushed) (spelt (sum_behind_all first_sum r.flushed) r.put))
            ∙ ap length (sym (spelt_append first_sum r.flushed r.put));
        bytes = rest;
        sum = sum ∙ h.sum ∙ ap (λ (xs : List Entry). sum_behind_all (sum_behind_all first_sum xs) r.put) all ∙ sym (sum_append first_sum r.flushed r.put);
      };
    }

-- none begins: how far it's flushed is as it was
none_begins : (s : Stage) → (s ≡ Unflushed → ⊥) → behind_begin s ≡ s
none_begins Flushed not = refl
none_begins Unflushed not = absurd (not refl)
none_begins Flushing not = refl
none_begins Behind not = refl

pub stays_at_none : (old new : Filed) → (old.durable.outbox.stage ≡ Unflushed → ⊥) → new.durable.outbox.stage ≡ behind_begin old.durable.outbox.stage → new.durable.pending.bytes.items ≡ old.durable.pending.bytes.items → new.durable.pending.sum ≡ old.durable.pending.sum → new.length ≡ old.length → Stays old new
stays_at_none old new not stage bytes sum long = same_records old new bytes sum (stage ∙ none_begins old.durable.outbox.stage not) long

-- a writing is over
end_stage : (s : Stage) (r : Records) → IsAt s r → IsAt (behind_end s) (ended r)
end_stage Flushed r h = (refl, h.1)
end_stage Unflushed r h = refl
end_stage Flushing r h = (refl, h)
end_stage Behind r h = refl

pub ends_with : (old new : Filed) → new.durable.outbox.stage ≡ behind_end old.durable.outbox.stage → new.durable.pending ≡ old.durable.pending → new.length ≡ old.length → Makes old new ended
ends_with old new stage pending long = λ r h.
    let all : r.flushed ++ r.writing ≡ written (ended r) = sym (append-nil (r.flushed ++ r.writing)) in
    record {
      stage = subst (λ (s : Stage). IsAt s (ended r)) (sym stage) (end_stage old.durable.outbox.stage r h.stage);
      long = long ∙ h.long ∙ ap (λ (xs : List Entry). length (spelt first_sum xs)) all;
      bytes = ap (λ (p : Pending). p.bytes.items) pending ∙ h.bytes ∙ ap (λ (xs : List Entry). spelt (sum_behind_all first_sum xs) r.put) all;
      sum = ap (λ (p : Pending). p.sum) pending ∙ h.sum ∙ ap (λ (xs : List Entry). sum_behind_all (sum_behind_all first_sum xs) r.put) all;
    }

pub all_flushed : (q : Filed) → q.durable.outbox.stage ≡ Flushed → IsAllFlushed q
all_flushed q flushed = λ r h. subst (λ (s : Stage). IsAt s r) flushed h.stage
