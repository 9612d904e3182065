-- What the end of a served controller tells, by what was done.
use Rattle.std.proofs.Common.{◌≡◌, ℕ, List, [], Result, Ok, Err, subst, sym, ◌∙◌, arith, inl, inr}
use Rattle.std.specs.Prelude.{IfErr, IsOk, OnOk}
use Rattle.std.specs.Io.KnownBytes.{Appends}
use Rattle.std.proofs.KnownBytes.{Appends-trans}
use Rattle.io_model.specs.declared.counted.CountedWrite.{Ghosts as CountedWriter}
use Rattle.il_text.specs.declared.fault.Fault.{Fault}
use Rattle.il_text.specs.Meaning.{IsTextFault, OrMemory}
use Rattle.il_text.specs.Telling.{status_of, IsTold, WentOut, fault_line}
use Rattle.plc_status.specs.Notices.{IsAtMostServingTold, IsServingTold, IsReported, report_line}
use Rattle.plc_serve.specs.declared.failing.Unserved.{Unserved}
use Rattle.plc_serve.specs.declared.failing.Unserved.TheVariants as whys
use Rattle.plc_serve.specs.Serving.{EndsBy, status_by, IsRefusal, IsToldAtLast, IsWhyRefused}

module _ {W : Type 0} (w : CountedWriter W) (status : ℕ) (old middle new : W) where
  -- a good end tells nothing more
  pub served : (r : Result (Unit {0}) Unserved) → IsOk r → OnOk r (IsServingTold w old middle) → EndsBy w r status middle new → IsServingTold w old new
  served (Ok done) ok told ends = subst (λ (it : W). IsServingTold w old it) (sym ends.1) told
  served (Err e) ok told ends = absurd cc

  -- of input that is refused only the fault is told
  pub refused : (text : List ℕ) (A : Type 0) (r : Result (Unit {0}) Unserved) → status ≡ 1 → IfErr r (λ e. status_by e ≡ 1 → IsRefusal text e × middle ≡ old × A) → EndsBy w r status middle new → IsTold w (IsWhyRefused text) status old new × A
  refused text A (Ok done) one h ends = absurd (omega (arith, one, ends.0))
  refused text A (Err (whys.Refused e)) one h ends =
      let all = h (sym ends.0 ∙ one) in
      (record { fault = e; answered = ends.0; is = λ _. all.0; line = subst (λ (m : W). WentOut w (fault_line e) m new) all.1 ends.1 }, all.2)
  refused text A (Err (whys.Failed e)) one h ends = absurd (omega (arith, one, ends.0))

  -- of a device or memory the fault is told behind what was told before
  pub failed : (r : Result (Unit {0}) Unserved) → status ≡ 2 → IsAtMostServingTold w old middle → EndsBy w r status middle new → IsToldAtLast w old new
  failed (Ok done) two at_most ends = absurd (omega (arith, two, ends.0))
  failed (Err (whys.Refused e)) two at_most ends = record { before = middle; at_most = at_most; told = inl (record { fault = e; answered = sym two ∙ ends.0; is = λ one. absurd (omega (arith, one, two, ends.0)); line = ends.1 }) }
  failed (Err (whys.Failed e)) two at_most ends = record { before = middle; at_most = at_most; told = inr (e, ends.1) }

-- a text that gives no image is refused, unless memory ran out
pub refusal : (text : List ℕ) (fault : Fault) → OrMemory (IsTextFault text) fault → status_of fault ≡ 1 → IsWhyRefused text fault
refusal text fault (inl is) one = inl is
refusal text fault (inr memory) one =
    let two_is_one : 2 ≡ 1 = subst (λ (f : Fault). status_of f ≡ 1) memory one in
    absurd (omega (arith, two_is_one))

-- no byte was written, and then the line of a report with so many scans
pub reported : {W : Type 0} (w : CountedWriter W) (crashes scans sessions writes : ℕ) (old opened new : W) → Appends (w.held old) (w.held opened) [] → Appends (w.held opened) (w.held new) (report_line crashes scans sessions writes) → IsReported w scans old new
reported w crashes scans sessions writes old opened new opening line = record {
  crashes = crashes;
  sessions = sessions;
  writes = writes;
  line = Appends-trans (w.held old) (w.held opened) (w.held new) [] (report_line crashes scans sessions writes) opening line;
}
