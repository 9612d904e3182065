-- An outbox over its calls, by induction on them.
use Rattle.std.proofs.Common.{◌≡◌, ℕ, ◌+◌, ◌<◌, ◌⊎◌, Bool, true, false, if◌then◌else◌, List, [], ◌∷◌, ◌++◌, Option, None, Some, inl, inr, refl, ap, sym, ◌∙◌, subst, append_assoc, arith}
use Rattle.std.specs.Prelude.{nat_lt}
use Rattle.std.proofs.lemmas.Bool.{lt-ltb, le-ltb}
use Rattle.std.proofs.lemmas.List.{append-nil}
use Rattle.vr_model.specs.declared.message.Message.{Message}
use Rattle.vr_outbox.specs.declared.stage.Stage.{Stage}
use Rattle.vr_outbox.specs.declared.stage.Stage.TheVariants.{Flushed, Unflushed, Flushing, Behind}
use Rattle.vr_outbox.specs.Stages.{behind_put, behind_begin, behind_end}
use Rattle.vr_outbox.specs.Waiting.{Waiting}
use Rattle.vr_outbox.specs.Outboxes.{empty, due_at, held_at, due, with_stage, without_due, behind_take_up}
use Rattle.vr_outbox.specs.Calls.{Call, TakesUp, Begins, Ends, HandsOut, after, ends, came_in, handed, all_handed, Count, counted, all_counted, none_put, flush_begun, flushed_by, KeepsOrder, WaitsForFlushes}

-- ---- the order

-- what may leave, and what waits on, is what waited
parts : (stage : Stage) (held later : List Message) → due_at stage held ++ (held_at stage held ++ later) ≡ held ++ later
parts Flushed held later = refl
parts Unflushed held later = refl
parts Flushing held later = refl
parts Behind held later = refl

keeps : (w : Waiting) (cs : List Call) → all_handed w cs ++ (ends w cs).held ≡ w.held ++ came_in cs
keeps w [] = sym (append-nil w.held)
keeps w (TakesUp sends is_put ∷ cs) = keeps (behind_take_up w sends is_put) cs ∙ append_assoc w.held sends (came_in cs)
keeps w (Begins ∷ cs) = keeps (with_stage w (behind_begin w.stage)) cs
keeps w (Ends ∷ cs) = keeps (with_stage w (behind_end w.stage)) cs
keeps w (HandsOut ∷ cs) =
    append_assoc (due w) (all_handed (without_due w) cs) (ends (without_due w) cs).held
    ∙ ap (λ (ms : List Message). due w ++ ms) (keeps (without_due w) cs) ∙ parts w.stage w.held (came_in cs)

pub order : (cs : List Call) → KeepsOrder cs
order cs = keeps empty cs

-- ---- the flushes

-- the stage says of what was put what the flushes say
abbrev Fits : Stage → Count → Type 0
Fits Flushed n = (n.flush ≡ None) × (n.flushed ≡ n.put)
Fits Unflushed n = (n.flush ≡ None) × (n.flushed < n.put)
Fits Flushing n = (n.flush ≡ Some n.put) × (n.flushed < n.put)
Fits Behind n = (covered : ℕ) × ((n.flush ≡ Some covered) × (covered < n.put) × (n.flushed < n.put))

put_fits : (stage : Stage) (n : Count) → Fits stage n → Fits (behind_put stage) (counted n (TakesUp [] true))
put_fits Flushed n h = (h.0, (let e : n.flushed ≡ n.put = h.1 in omega arith))
put_fits Unflushed n h = (h.0, (let e : n.flushed < n.put = h.1 in omega arith))
put_fits Flushing n h = (n.put, (h.0, omega arith, (let e : n.flushed < n.put = h.1 in omega arith)))
put_fits Behind n h = (h.0, (h.1.0, (let e : h.0 < n.put = h.1.1 in omega arith), (let e : n.flushed < n.put = h.1.2 in omega arith)))

none_begun : (n : Count) → n.flushed ≡ n.put → flush_begun n None ≡ None
none_begun n e = ap (λ (b : Bool). if b then Some n.put else None) (le-ltb n.flushed n.put (omega arith))

one_begun : (n : Count) → n.flushed < n.put → flush_begun n None ≡ Some n.put
one_begun n lt = ap (λ (b : Bool). if b then Some n.put else None) (lt-ltb n.flushed n.put lt)

begin_fits : (stage : Stage) (n : Count) → Fits stage n → Fits (behind_begin stage) (counted n Begins)
begin_fits Flushed n h = (ap (flush_begun n) h.0 ∙ none_begun n h.1, h.1)
begin_fits Unflushed n h = (ap (flush_begun n) h.0 ∙ one_begun n h.1, h.1)
begin_fits Flushing n h = (ap (flush_begun n) h.0, h.1)
begin_fits Behind n h = (h.0, (ap (flush_begun n) h.1.0, h.1.1, h.1.2))

end_fits : (stage : Stage) (n : Count) → Fits stage n → Fits (behind_end stage) (counted n Ends)
end_fits Flushed n h = (refl, ap (flushed_by n) h.0 ∙ h.1)
end_fits Unflushed n h = (refl, subst (λ (k : ℕ). k < n.put) (sym (ap (flushed_by n) h.0)) h.1)
end_fits Flushing n h = (refl, ap (flushed_by n) h.0)
end_fits Behind n h = (refl, subst (λ (k : ℕ). k < n.put) (sym (ap (flushed_by n) h.1.0)) h.1.1)

fits : (w : Waiting) (n : Count) (cs : List Call) → Fits w.stage n → Fits (ends w cs).stage (all_counted n cs)
fits w n [] h = h
fits w n (TakesUp sends true ∷ cs) h = fits (behind_take_up w sends true) (counted n (TakesUp sends true)) cs (put_fits w.stage n h)
fits w n (TakesUp sends false ∷ cs) h = fits (behind_take_up w sends false) n cs h
fits w n (Begins ∷ cs) h = fits (with_stage w (behind_begin w.stage)) (counted n Begins) cs (begin_fits w.stage n h)
fits w n (Ends ∷ cs) h = fits (with_stage w (behind_end w.stage)) (counted n Ends) cs (end_fits w.stage n h)
fits w n (HandsOut ∷ cs) h = fits (without_due w) n cs h

none_or_flushed : (stage : Stage) (held : List Message) (n : Count) → Fits stage n → (due_at stage held ≡ []) ⊎ (n.flushed ≡ n.put)
none_or_flushed Flushed held n h = inr h.1
none_or_flushed Unflushed held n h = inl refl
none_or_flushed Flushing held n h = inl refl
none_or_flushed Behind held n h = inl refl

pub flushes : (cs : List Call) → WaitsForFlushes cs
flushes cs = none_or_flushed (ends empty cs).stage (ends empty cs).held (all_counted none_put cs) (fits empty none_put cs (refl, refl))
