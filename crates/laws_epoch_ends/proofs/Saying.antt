-- What a machine was that answers a question, and what one was that gives its epoch up.
use Rattle.std.proofs.Common.{◌≡◌, ◌⊎◌, ℕ, Bool, true, false, List, Option, Some, None, refl, sym, ap, ◌∙◌, subst, inl, inr, is_some}
use Rattle.std.specs.Prelude.{if◌then◌else◌}
use Rattle.std.proofs.lemmas.Bool.{and_parts}
use Rattle.std.proofs.lemmas.Option.{same_Some}
use Rattle.net_hello.specs.declared.hello.Epoch.{Epoch}
use Rattle.plc_epochs.specs.Epochs.{is_same, next_epoch, nothing_told}
use Rattle.plc_epochs.specs.Recovering as recovering
use Rattle.plc_epochs.specs.Table
use Rattle.plc_epochs.specs.Table.{is_other}
use Rattle.plc_epochs.specs.declared.recovery.Recovery.{Recovery}
use Rattle.plc_epochs.specs.declared.word.Answer.{Answer}
use Rattle.plc_epochs.specs.declared.word.Word.{Word}
use Rattle.plc_epochs.specs.declared.word.Word.TheVariants.{Freeze, Frozen, Confirm, StillFrozen, Marked}
use Rattle.plc_epochs.specs.declared.cold_start.ColdStart.{ColdStart}
use Rattle.plc_epochs.specs.declared.cold_start.Phase.{Phase}
use Rattle.plc_epochs.specs.declared.cold_start.Phase.TheVariants.{Waiting, Above, Entering, Entered, Beginning, TakingPart, Recovering}
use Rattle.plc_epochs.specs.declared.cold_start.Step.{Step}
use Rattle.plc_epochs.specs.declared.cold_start.Step.TheVariants as steps
use Rattle.laws_epoch_ends.specs.TrueMoves.{answer_in}
use Rattle.laws_epoch_ends.proofs.Steps.{either, no_value, same_epoch}

-- ---- answers

-- it froze, and recovers under this nonce
pub record Froze (b : ColdStart) (answer : Answer) : Type 0 where
  pub own : Epoch
  pub recovery : Recovery
  pub phase : b.phase ≡ Recovering own recovery
  pub nonce : recovery.nonce ≡ answer.nonce
  pub frozen : is_some recovery.frozen ≡ true

-- it was frozen under this nonce, in the epoch of the question, and is as it was
pub record Confirmed (a b : ColdStart) (asked_in : Epoch) (question : Word) (answer : Answer) : Type 0 where
  pub recovery : Recovery
  pub phase : a.phase ≡ Recovering asked_in recovery
  pub nonce : recovery.nonce ≡ answer.nonce
  pub frozen : is_some recovery.frozen ≡ true
  pub same : b ≡ a
  pub asked : List (Option ℕ)
  pub asks : question ≡ Confirm answer.question asked

abbrev pub Said : ColdStart → ColdStart → Epoch → Word → Word → Type 0
Said a b asked_in question (Frozen answer) = Froze b answer
Said a b asked_in question (StillFrozen answer) = Confirmed a b asked_in question answer
Said a b asked_in question word = Unit {0}

module _ (from : ℕ) (epoch : Epoch) (now : ℕ) (a b : ColdStart) (step : Step) (said : Word) (is : answer_in step ≡ Some said) where
  silent : {R : Type 0} (does : Step) → step ≡ does → answer_in does ≡ None → R
  silent does same none = no_value (answer_in does) said none (ap answer_in (sym same) ∙ is)

  says : (question word : Word) → step ≡ steps.Freezes word ⊎ step ≡ steps.Confirms word → Said a b epoch question word → Said a b epoch question said
  says question word (inl same) k = subst (λ w. Said a b epoch question w) (same_Some word said (ap answer_in (sym same) ∙ is)) k
  says question word (inr same) k = subst (λ w. Said a b epoch question w) (same_Some word said (ap answer_in (sym same) ∙ is)) k

  marked_silent : (question word : Word) (t : Bool) → step ≡ (if t then steps.HearsMarked else steps.Nothing) → Said a b epoch question said
  marked_silent question word true same = silent steps.HearsMarked same refl
  marked_silent question word false same = silent steps.Nothing same refl

  takes : (question : Word) (own : Epoch) (r : Recovery) → a.phase ≡ Recovering own r → epoch ≡ own → Table.TakesWord question own r from now a step b → Said a b epoch question said
  takes (Freeze q) own r was same h =
      either a.place.is_marked _ _ _ h (λ t g. silent (steps.Declines (Marked q)) g.0 refl)
      (λ t g. either (Table.may_freeze a r now) _ _ _ g
      (λ d m. says (Freeze q) (Frozen (recovering.answer_of r q)) (inl m.0)
      (record { own = own; recovery = recovering.freezing r now; phase = ap (λ (x : ColdStart). x.phase) m.1; nonce = refl; frozen = refl }))
      (λ d m. silent steps.Nothing m.0 refl))
  takes (Frozen answer) own r was same h =
      either (recovering.is_first_answer r answer) _ _ _ h
      (λ first g. either (recovering.may_ask_again (recovering.with_first r from answer.nonce) a.place.config.f) _ _ _ g (λ d m. silent steps.AsksAgain m.0 refl) (λ d m. silent steps.Counts m.0 refl))
      (λ t g. silent steps.Nothing g.0 refl)
  takes (Confirm q asked) own r was same h =
      either (recovering.may_confirm r a.place.number asked) _ _ _ h
      (λ may g. says (Confirm q asked) (StillFrozen (recovering.answer_of r q)) (inr g.0)
      (record { recovery = r; phase = was ∙ ap (λ x. Recovering x r) (sym same); nonce = refl; frozen = (and_parts (is_some r.frozen) _ may).0; same = g.1; asked = asked; asks = refl }))
      (λ t g. silent steps.Nothing g.0 refl)
  takes (StillFrozen answer) own r was same h =
      either (recovering.is_second_answer r from answer) _ _ _ h
      (λ second g. ends (recovering.with_second r from answer.nonce) (Table.epoch_behind a own (recovering.with_second r from answer.nonce)) g)
      (λ t g. silent steps.Nothing g.0 refl)
    where
      ends : (t : Recovery) (o : Option Epoch) → Table.EndsWith o own t a step b → Said a b epoch (StillFrozen answer) said
      ends t (Some next) g = silent (steps.Ends next) g.0 refl
      ends t None g = silent steps.Counts g.0 refl
  takes (Marked q) own r was same h = marked_silent (Marked q) (Marked q) (recovering.is_first_in r.question r.nonce q) h.0

  words : (p : Phase) (question : Word) → a.phase ≡ p → Table.WordIn p from epoch question now a step b → Said a b epoch question said
  words (Recovering own r) question was h =
      either (Table.is_taken a from epoch own) _ _ _ h
      (λ t g. takes question own r was (same_epoch epoch own (and_parts (is_other a.place from) (is_same epoch own) t).1) g)
      (λ t g. silent steps.Nothing g.0 refl)
  words (Waiting heard above) question was h = silent steps.Nothing h.0 refl
  words (Above above) question was h = silent steps.Nothing h.0 refl
  words (Entering own heard) question was h = silent steps.Nothing h.0 refl
  words (Entered own heard) question was h = silent steps.Nothing h.0 refl
  words (Beginning own) question was h = silent steps.Nothing h.0 refl
  words (TakingPart own) question was h = silent steps.Nothing h.0 refl

pub said : (from : ℕ) (epoch : Epoch) (question : Word) (now : ℕ) (a b : ColdStart) (step : Step) (word : Word) → Table.HearsWord from epoch question now a step b → answer_in step ≡ Some word → Said a b epoch question word
said from epoch question now a b step word h is = words from epoch now a b step word is a.phase question refl h

-- ---- the step by which it gives its epoch up

abbrev pub end_in : Step → Option Epoch
end_in (steps.Ends next) = Some next
end_in step = None

-- One more answered its second question: with that it has the evidence, and its store is to have the next epoch.
pub record GivesUp (a b : ColdStart) (from : ℕ) (epoch next : Epoch) (word : Word) : Type 0 where
  pub recovery : Recovery
  pub phase : a.phase ≡ Recovering epoch recovery
  pub other : is_other a.place from ≡ true
  pub answer : Answer
  pub answers : word ≡ StillFrozen answer
  pub second : recovering.is_second_answer recovery from answer ≡ true
  pub evidence : recovering.evidence (recovering.with_second recovery from answer.nonce) a.place.config.f ≡ true
  pub enters : b.phase ≡ Entering next nothing_told

record ByEvidence (a b : ColdStart) (next : Epoch) (t : Recovery) : Type 0 where
  evidence : recovering.evidence t a.place.config.f ≡ true
  enters : b.phase ≡ Entering next nothing_told

module _ (from : ℕ) (epoch : Epoch) (now : ℕ) (a b : ColdStart) (step : Step) (next : Epoch) (is : step ≡ steps.Ends next) where
  goes_on : {R : Type 0} (does : Step) → step ≡ does → end_in does ≡ None → R
  goes_on does same none = no_value (end_in does) next none (ap end_in (sym same ∙ is))

  marked_goes_on : {R : Type 0} (t : Bool) → step ≡ (if t then steps.HearsMarked else steps.Nothing) → R
  marked_goes_on true same = goes_on steps.HearsMarked same refl
  marked_goes_on false same = goes_on steps.Nothing same refl

  has_evidence : (own : Epoch) (t : Recovery) (e : Bool) (o : Option Epoch) → recovering.evidence t a.place.config.f ≡ e → o ≡ (if e then next_epoch own a.image else None) → Table.EndsWith o own t a step b
      → ByEvidence a b next t
  has_evidence own t true (Some x) is_e which g =
      record { evidence = is_e; enters = ap (λ (y : ColdStart). y.phase) g.1 ∙ ap (λ y. Entering y nothing_told) (same_Some x next (ap end_in (sym g.0 ∙ is))) }
  has_evidence own t true None is_e which g = goes_on steps.Counts g.0 refl
  has_evidence own t false None is_e which g = goes_on steps.Counts g.0 refl
  has_evidence own t false (Some x) is_e which g = no_value None x refl (sym which)

  gives_up : (own : Epoch) (r : Recovery) (word : Word) → a.phase ≡ Recovering own r → epoch ≡ own → is_other a.place from ≡ true → Table.TakesWord word own r from now a step b → GivesUp a b from epoch next word
  gives_up own r (Freeze q) was same other h =
      either a.place.is_marked _ _ _ h (λ t g. goes_on (steps.Declines (Marked q)) g.0 refl)
      (λ t g. either (Table.may_freeze a r now) _ _ _ g (λ d m. goes_on (steps.Freezes (Frozen (recovering.answer_of r q))) m.0 refl) (λ d m. goes_on steps.Nothing m.0 refl))
  gives_up own r (Frozen answer) was same other h =
      either (recovering.is_first_answer r answer) _ _ _ h
      (λ first g. either (recovering.may_ask_again (recovering.with_first r from answer.nonce) a.place.config.f) _ _ _ g (λ d m. goes_on steps.AsksAgain m.0 refl) (λ d m. goes_on steps.Counts m.0 refl))
      (λ t g. goes_on steps.Nothing g.0 refl)
  gives_up own r (Confirm q asked) was same other h =
      either (recovering.may_confirm r a.place.number asked) _ _ _ h (λ may g. goes_on (steps.Confirms (StillFrozen (recovering.answer_of r q))) g.0 refl) (λ t g. goes_on steps.Nothing g.0 refl)
  gives_up own r (StillFrozen answer) was same other h =
      either (recovering.is_second_answer r from answer) _ _ _ h
      (λ second g.
      let t : Recovery = recovering.with_second r from answer.nonce in
      let by = has_evidence own t (recovering.evidence t a.place.config.f) (Table.epoch_behind a own t) refl refl g in
      record {
        recovery = r;
        phase = was ∙ ap (λ x. Recovering x r) (sym same);
        other = other;
        answer = answer;
        answers = refl;
        second = second;
        evidence = by.evidence;
        enters = by.enters;
      })
      (λ t g. goes_on steps.Nothing g.0 refl)
  gives_up own r (Marked q) was same other h = marked_goes_on (recovering.is_first_in r.question r.nonce q) h.0

  by_word : (p : Phase) (word : Word) → a.phase ≡ p → Table.WordIn p from epoch word now a step b → GivesUp a b from epoch next word
  by_word (Recovering own r) word was h =
      either (Table.is_taken a from epoch own) _ _ _ h
      (λ t g. let parts = and_parts (is_other a.place from) (is_same epoch own) t in gives_up own r word was (same_epoch epoch own parts.1) parts.0 g)
      (λ t g. goes_on steps.Nothing g.0 refl)
  by_word (Waiting heard above) word was h = goes_on steps.Nothing h.0 refl
  by_word (Above above) word was h = goes_on steps.Nothing h.0 refl
  by_word (Entering own heard) word was h = goes_on steps.Nothing h.0 refl
  by_word (Entered own heard) word was h = goes_on steps.Nothing h.0 refl
  by_word (Beginning own) word was h = goes_on steps.Nothing h.0 refl
  by_word (TakingPart own) word was h = goes_on steps.Nothing h.0 refl

pub gives_epoch_up : (from : ℕ) (epoch : Epoch) (word : Word) (now : ℕ) (a b : ColdStart) (next : Epoch) → Table.HearsWord from epoch word now a (steps.Ends next) b → GivesUp a b from epoch next word
gives_epoch_up from epoch word now a b next h = by_word from epoch now a b (steps.Ends next) next refl a.phase word refl h
