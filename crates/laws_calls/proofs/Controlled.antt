-- A scan of a program that says lines comes to what the lines come to.
use Rattle.std.proofs.Common.{◌≡◌, ℕ, zero, suc, ◌+◌, ◌<◌, Bool, true, false, List, [], ◌∷◌, ◌++◌, length, Option, Some, None, refl, sym, ap, ◌∙◌, subst, arith, append_assoc, append-nil, length-append}
use Rattle.std.specs.Prelude.{slice_get, nat_lt, is_some, not, if◌then◌else◌}
use Rattle.std.specs.Option.{option_map, option_and_then}
use Rattle.std.specs.List.{position_or_len}
use Rattle.std.proofs.lemmas.Bool.{lt-ltb, le-ltb}
use Rattle.il_values.specs.declared.op.Modifier.{Modifier}
use Rattle.il_values.specs.declared.value.Value.{Value}
use Rattle.il_values.specs.declared.value.Value.TheVariants as values
use Rattle.il_values.specs.declared.value.Stop.{Stop}
use Rattle.il_values.specs.declared.value.Ty.{Ty}
use Rattle.il_values.specs.Values.{ty_of}
use Rattle.il_model.specs.Typing.{Shape, Arrives, IsTyped}
use Rattle.ctl_model.specs.Suits.{Suits, IsSafe}
use Rattle.ctl_model.proofs.NeverStuck.{never_stuck}
use Rattle.il_model.specs.declared.program.Instr.{Instr}
use Rattle.il_model.specs.declared.program.Operand.{Operand}
use Rattle.il_model.specs.declared.program.Operand.TheVariants as operands
use Rattle.il_model.specs.declared.fetched.Source.{Source}
use Rattle.il_model.specs.declared.fetched.Source.TheVariants as sources
use Rattle.il_model.specs.declared.fetched.Passed.{Passed}
use Rattle.il_model.specs.declared.fetched.Fetched.{Fetched}
use Rattle.il_model.specs.Program.{Program}
use Rattle.il_model.specs.Resolved.{has_label, target_of, source_of, bears_label, is_labelled, called_kind, passed_all, fetched_with, resolved_line}
use Rattle.il_units.specs.declared.word.Word.{Word}
use Rattle.il_units.specs.declared.word.Line.{Line}
use Rattle.ctl_model.specs.State.{State}
use Rattle.ctl_model.specs.Step as steps
use Rattle.ctl_model.specs.Step.{Outcome, with_value, truth_in, acts_on, acts, act, step}
use Rattle.ctl_model.specs.Scan as scans
use Rattle.ctl_model.specs.Runs.{Runs, Past, UsedUp, Breaks, Ends as RunEnds, Stops, Steps, IsTurn}
use Rattle.laws_calls.specs.Machines.{Machine, RunEnd, Done, Stopped, Turn, Next, Ends, Stuck, ComesIn, Comes, test, where_met, goes_to, performed, arrived}
use Rattle.laws_calls.specs.Lines.{Control, Nothing, Jump, Return, Performs, control_of, turn_by, bears, from, line_step}
use Rattle.laws_calls.specs.Controller.{at_start, without_code, deed, acted, controller, label_text, IsPerformed, SaysWords, SaysLine, SayAll, EndsAs, IsReached, RunsAsItsLines, ScansAsItsCalls}
use Rattle.laws_calls.specs.Calls.{call_step, begun}
use Rattle.laws_calls.specs.Laws.{expanded_lines}
use Rattle.laws_calls.proofs.Made.{does_alike}
use Rattle.laws_calls.proofs.Acts.{at_position, Shifted, shifted_act}

-- ---- instructions and lines, one by one

some_label : (o : Option Word) → is_some (label_text o) ≡ is_some o
some_label None = refl
some_label (Some w) = refl

abbrev first_label : List Line → Option Word
first_label [] = None
first_label (l ∷ ls) = l.label

module _ (reads : Option Ty → List Word → Option Instr) (Q : Program) where
  said_at : (n k : ℕ) (before : List Line) (l : Line) (ls : List Line) (code : List Instr) → n ≡ k + length before → SayAll reads Q k (before ++ l ∷ ls) code
      → (i : Instr) × (slice_get code (length before) ≡ Some i) × SaysLine reads Q n l i × (length before < length code)
  said_at n k [] l ls [] is all = absurd all
  said_at n k [] l ls (i ∷ code) is all = (i, refl, subst (λ (j : ℕ). SaysLine reads Q j l i) (let e : k ≡ n = omega arith in e) all.0, omega arith)
  said_at n k (b ∷ before) l ls [] is all = absurd all
  said_at n k (b ∷ before) l ls (i ∷ code) is all = let r = said_at n (suc k) before l ls code (omega arith) all.1 in (r.0, r.1, r.2, omega (arith, r.3))

  labelled_at : (k : ℕ) (before rest : List Line) (code : List Instr) → SayAll reads Q k (before ++ rest) code → bears_label (slice_get code (length before)) ≡ is_some (first_label rest)
  labelled_at k [] [] [] all = refl
  labelled_at k [] [] (i ∷ code) all = absurd all
  labelled_at k [] (l ∷ ls) [] all = absurd all
  labelled_at k [] (l ∷ ls) (i ∷ code) all = ap is_some all.0.label ∙ some_label l.label
  labelled_at k (b ∷ before) rest [] all = absurd all
  labelled_at k (b ∷ before) rest (i ∷ code) all = labelled_at (suc k) before rest code all.1

  same_length : (k : ℕ) (ls : List Line) (code : List Instr) → SayAll reads Q k ls code → length code ≡ length ls
  same_length k [] [] all = refl
  same_length k [] (i ∷ code) all = absurd all
  same_length k (l ∷ ls) [] all = absurd all
  same_length k (l ∷ ls) (i ∷ code) all = let r = same_length (suc k) ls code all.1 in omega arith

  -- ---- where a label stands

  has_by : (name : List ℕ) (i : Instr) (o : Option Word) → i.label ≡ label_text o → has_label name i ≡ bears name o
  has_by name i None e = rw e refl
  has_by name i (Some w) e = rw e refl

  abbrev IsTarget : List ℕ → List Line → List Instr → List Line → Type 0
  IsTarget name ls code r = (before : List Line) × (ls ≡ before ++ r) × (position_or_len (has_label name) code ≡ length before)

  one_more : (n : ℕ) → 1 + n ≡ suc n
  one_more n = omega arith

  target_by : (name : List ℕ) (l : Line) (ls : List Line) (i : Instr) (code : List Instr) (b : Bool) → has_label name i ≡ b
      → ((r : List Line) → from name ls ≡ Some r → IsTarget name ls code r)
      → (r : List Line) → (if b then Some (l ∷ ls) else from name ls) ≡ Some r → IsTarget name (l ∷ ls) (i ∷ code) r
  target_by name l ls i code true is more r e = let same : l ∷ ls ≡ r = cc in ([], same, rw is refl)
  target_by name l ls i code false is more r e =
      let m = more r e in
      (l ∷ m.0, ap (λ (x : List Line). l ∷ x) m.1, rw is (ap (λ (k : ℕ). 1 + k) m.2 ∙ one_more (length m.0)))

  targeted : (name : List ℕ) (k : ℕ) (ls : List Line) (code : List Instr) → SayAll reads Q k ls code → (r : List Line) → from name ls ≡ Some r → IsTarget name ls code r
  targeted name k [] [] all r e = absurd cc
  targeted name k [] (i ∷ code) all r e = absurd all
  targeted name k (l ∷ ls) [] all r e = absurd all
  targeted name k (l ∷ ls) (i ∷ code) all r e =
      target_by name l ls i code (bears name l.label) (has_by name i l.label all.0.label) (λ (x : List Line) (f : from name ls ≡ Some x). targeted name (suc k) ls code all.1 x f) r e

-- a label that no line bears is none of the code
module _ (reads : Option Ty → List Word → Option Instr) (Q : Program) where
  absent_by : (name : List ℕ) (l : Line) (ls : List Line) (i : Instr) (code : List Instr) (b : Bool) → has_label name i ≡ b
      → (from name ls ≡ None → position_or_len (has_label name) code ≡ length code)
      → (if b then Some (l ∷ ls) else from name ls) ≡ None → position_or_len (has_label name) (i ∷ code) ≡ length (i ∷ code)
  absent_by name l ls i code true is more e = absurd cc
  absent_by name l ls i code false is more e = rw is (ap (λ (k : ℕ). 1 + k) (more e) ∙ one_more reads Q (length code))

  absent : (name : List ℕ) (k : ℕ) (ls : List Line) (code : List Instr) → SayAll reads Q k ls code → from name ls ≡ None → position_or_len (has_label name) code ≡ length code
  absent name k [] [] all e = refl
  absent name k [] (i ∷ code) all e = absurd all
  absent name k (l ∷ ls) [] all e = absurd all
  absent name k (l ∷ ls) (i ∷ code) all e =
      absent_by name l ls i code (bears name l.label) (has_by reads Q name i l.label all.0.label) (λ (f : from name ls ≡ None). absent name (suc k) ls code all.1 f) e

no_position : (k m n : ℕ) → k ≡ m → (if nat_lt k m then Some k else None) ≡ Some n → ⊥
no_position k m n same e = absurd (cc (sym (ap (λ (b : Bool). if b then Some k else None) (le-ltb k m (omega arith))) ∙ e))

some_position : (b : Bool) (k n : ℕ) → (if b then Some k else None) ≡ Some n → k ≡ n
some_position true k n e = cc
some_position false k n e = absurd cc

-- ---- conditions

truth_by : (n : Bool) (v : Value) → steps.acts_by n v ≡ option_map (λ (b : Bool). if n then not b else b) (truth_in v)
truth_by n (values.Bool b) = refl
truth_by n v = refl

acts_same : (c n : Bool) (cr : Option Value) → acts_on c n cr ≡ (if c then option_map (λ (b : Bool). if n then not b else b) (option_and_then truth_in cr) else Some true)
acts_same false n cr = refl
acts_same true n None = refl
acts_same true n (Some v) = truth_by n v

-- ---- step by step

at_start_is : (t : State) → t.position ≡ 0 → at_start t ≡ t
at_start_is t e = ap (λ (n : ℕ). record t { position = n }) (sym e)

module _ (reads : Option Ty → List Word → Option Instr) (Q : Program) (now : ℕ) (all : List Line) (says : SayAll reads Q 0 all Q.code) (typed : IsTyped Q) where
  abbrev M : Machine State
  M = controller reads Q now

  still : (o : Option Word) (t : State) → t.position ≡ 0 → (arrived M o t).position ≡ 0
  still None t e = e
  still (Some w) t e = e

  record StandsAt (rest : List Line) (t s : State) : Type 0 where
    pub before : List Line
    pub parts : all ≡ before ++ rest
    pub there : s ≡ at_position (length before) (arrived M (first_label rest) t)
    pub start : t.position ≡ 0

  arrive_by : (p : ℕ) (t : State) (o : Option Word) → record t { position = p; cr = if is_some o then None else t.cr } ≡ at_position p (arrived M o t)
  arrive_by p t None = refl
  arrive_by p t (Some w) = refl

  -- the state that the controller has at an instruction
  comes_to : (before rest : List Line) (p : ℕ) (t : State) → all ≡ before ++ rest → p ≡ length before → t.position ≡ 0
      → StandsAt rest t (record t { position = p; cr = if is_labelled Q p then None else t.cr })
  comes_to before rest p t parts number start = record {
    before = before;
    parts = parts;
    there =
        ap (λ (n : ℕ). record t { position = n; cr = if is_labelled Q n then None else t.cr }) number
        ∙ ap (λ (b : Bool). record t { position = length before; cr = if b then None else t.cr }) (labelled_at reads Q 0 before rest Q.code (subst (λ (ls : List Line). SayAll reads Q 0 ls Q.code) parts says))
        ∙ arrive_by (length before) t (first_label rest);
    start = start;
  }

  abbrev Lock : Turn (List Line) State → Outcome → Type 0
  Lock (Next rest t) (steps.Next s) = StandsAt rest t s
  Lock (Next rest t) (steps.End s) = (rest ≡ []) × (at_start s ≡ t)
  Lock (Ends (Stopped stop t)) (steps.Stopped other s) = (stop ≡ other) × (at_start s ≡ t)
  Lock Stuck steps.Stuck = Unit {0}
  Lock turn o = ⊥

  -- ---- at a line

  module _ (before : List Line) (l : Line) (ls : List Line) (parts : all ≡ before ++ l ∷ ls) (t : State) (start : t.position ≡ 0) (i : Instr) (is : SaysLine reads Q (length before) l i)
      (shape : Shape) (arrives : Arrives Q (length before) shape) (has : option_map ty_of t.cr ≡ shape.cr) where
    abbrev p : ℕ
    p = length before

    on : StandsAt ls t (record t { position = p + 1; cr = if is_labelled Q (p + 1) then None else t.cr })
    on = comes_to (before ++ l ∷ []) ls (p + 1) t (parts ∙ sym (append_assoc before (l ∷ []) ls)) (let n : length (before ++ l ∷ []) ≡ length before + length (l ∷ []) = length-append before (l ∷ []) in omega arith) start

    resolved : (o : Operand) (src : Source) → i.operand ≡ o → i.arguments ≡ [] → source_of Q o ≡ Some src → resolved_line Q i ≡ Some (record { op = i.op; modifier = i.modifier; source = src; arguments = [] })
    resolved o src e f g = rw (e, f, g) refl

    jump_lock : (x : Option Bool) (n : ℕ) (o : Option (List Line)) (name : List ℕ) → from name all ≡ o → target_of Q name ≡ Some n
        → Lock (where_met x (goes_to o t) (Next ls t)) (with_value x (λ (b : Bool). if b then steps.goes_to Q (at_position p t) n else steps.goes_on Q (at_position p t)))
    jump_lock None n o name e f = tt
    jump_lock (Some false) n o name e f = on
    jump_lock (Some true) n None name e f = absurd (no_position (position_or_len (has_label name) Q.code) (length Q.code) n (absent reads Q name 0 all Q.code says e) f)
    jump_lock (Some true) n (Some r) name e f =
        let found = targeted reads Q name 0 all Q.code says r e in
        comes_to found.0 r n t found.1 (sym (some_position (nat_lt (position_or_len (has_label name) Q.code) (length Q.code)) (position_or_len (has_label name) Q.code) n f) ∙ found.2) start

    return_lock : (x : Option Bool) → Lock (where_met x (Next [] t) (Next ls t)) (with_value x (λ (b : Bool). if b then steps.End (at_position p t) else steps.goes_on Q (at_position p t)))
    return_lock None = tt
    return_lock (Some true) = (refl, at_start_is t start)
    return_lock (Some false) = on

    shifted_lock : (a b : Outcome) → Shifted Q p t a b → Lock (performed (deed a) ls t) b
    shifted_lock (steps.Next a) (steps.Next b) h =
        subst (λ (s : State). StandsAt ls (at_start a) s) (sym h) (comes_to (before ++ l ∷ []) ls (p + 1) (at_start a) (parts ∙ sym (append_assoc before (l ∷ []) ls)) (let n : length (before ++ l ∷ []) ≡ length before + length (l ∷ []) = length-append before (l ∷ []) in omega arith) refl)
    shifted_lock (steps.Next a) (steps.End b) h = absurd h
    shifted_lock (steps.Next a) (steps.Stopped y b) h = absurd h
    shifted_lock (steps.Next a) steps.Stuck h = absurd h
    shifted_lock (steps.Stopped x a) (steps.Stopped y b) h = (h.0, ap at_start h.1 ∙ at_start_is t start)
    shifted_lock (steps.Stopped x a) (steps.Next b) h = absurd h
    shifted_lock (steps.Stopped x a) (steps.End b) h = absurd h
    shifted_lock (steps.Stopped x a) steps.Stuck h = absurd h
    shifted_lock (steps.End a) (steps.Next b) h = absurd h
    shifted_lock (steps.End a) (steps.End b) h = absurd h
    shifted_lock (steps.End a) (steps.Stopped y b) h = absurd h
    shifted_lock (steps.End a) steps.Stuck h = absurd h
    shifted_lock steps.Stuck (steps.Next b) h = absurd h
    shifted_lock steps.Stuck (steps.End b) h = absurd h
    shifted_lock steps.Stuck (steps.Stopped y b) h = absurd h
    shifted_lock steps.Stuck steps.Stuck h = tt

    same_op : (f : Fetched) (o : Option Source) → option_and_then (λ (src : Source). option_map (fetched_with i src) (passed_all Q (called_kind Q i.operand) i.arguments)) o ≡ Some f → f.op ≡ i.op
    same_op f None e = absurd cc
    same_op f (Some src) e = by_passed (passed_all Q (called_kind Q i.operand) i.arguments) e
      where
        by_passed : (o : Option (List Passed)) → option_map (fetched_with i src) o ≡ Some f → f.op ≡ i.op
        by_passed None e = absurd cc
        by_passed (Some ps) e = let same : fetched_with i src ps ≡ f = cc in sym (ap (λ (x : Fetched). x.op) same)

    perform_lock : (o : Option Fetched) → ((f : Fetched) → o ≡ Some f → IsPerformed f.op)
        → Lock (performed (acted Q now t o) ls t) (with_value o (λ (f : Fetched). act Q now (at_position p t) f.op f.modifier f.source f.arguments))
    perform_lock None each = tt
    perform_lock (Some f) each = shifted_lock (act (without_code Q) now t f.op f.modifier f.source f.arguments) (act Q now (at_position p t) f.op f.modifier f.source f.arguments) (shifted_act Q p t now f.op f.modifier f.source f.arguments (each f refl))

    abbrev does : Option Fetched → Outcome
    does o = with_value o (λ (f : Fetched). act Q now (at_position p t) f.op f.modifier f.source f.arguments)

    by_control : (c : Control) → SaysWords reads Q p l.words c i → Lock (turn_by M c l.words (λ (name : List ℕ). from name all) [] ls t) (does (resolved_line Q i))
    by_control Nothing w =
        rw (resolved operands.Absent sources.Absent w.1 w.2 refl, w.0) on
    by_control (Jump m name) w =
        let e : acts i.modifier (at_position p t) ≡ test m (M.truth t) = ap (λ (x : Modifier). acts x (at_position p t)) w.1 ∙ acts_same m.conditional m.negated t.cr in
        rw (resolved (operands.Label name) (sources.Target w.4.0) w.2 w.3 (ap (option_map sources.Target) w.4.1), w.0, e) (jump_lock (test m (M.truth t)) w.4.0 (from name all) name refl w.4.1)
    by_control (Return m) w =
        let e : acts i.modifier (at_position p t) ≡ test m (M.truth t) = ap (λ (x : Modifier). acts x (at_position p t)) w.1 ∙ acts_same m.conditional m.negated t.cr in
        rw (resolved operands.Absent sources.Absent w.2 w.3 refl, w.0, e) (return_lock (test m (M.truth t)))
    by_control Performs w =
        let read : reads (option_map ty_of t.cr) l.words ≡ Some (record i { label = None }) = ap (λ (c : Option Ty). reads c l.words) has ∙ w.1 shape arrives in
        rw read (perform_lock (resolved_line Q i) (λ (f : Fetched) (e : resolved_line Q i ≡ Some f). subst IsPerformed (sym (same_op f (source_of Q i.operand) e)) w.0))

  lock : (l : Line) (ls : List Line) (t s : State) → StandsAt (l ∷ ls) t s → Suits Q s → Lock (line_step M all (l ∷ ls) t) (step Q now s)
  lock l ls t s at suits =
      let r = said_at reads Q (length at.before) 0 at.before l ls Q.code (omega arith) (subst (λ (x : List Line). SayAll reads Q 0 x Q.code) at.parts says) in
      let t0 = arrived M l.label t in
      let here : step Q now s ≡ with_value (resolved_line Q r.0) (λ (f : Fetched). act Q now (at_position (length at.before) t0) f.op f.modifier f.source f.arguments) =
      ap (step Q now) at.there ∙ rw (lt-ltb (length at.before) (length Q.code) r.3, r.1) refl in
      subst (λ (o : Outcome). Lock (line_step M all (l ∷ ls) t) o) (sym here)
      (by_control at.before l ls at.parts t0 (still l.label t at.start) r.0 r.2 suits.shape
      (subst (λ (n : ℕ). Arrives Q n suits.shape) (ap (λ (x : State). x.position) at.there) suits.types)
      (sym (ap (λ (x : State). option_map ty_of x.cr) at.there) ∙ suits.has.cr)
      (control_of l.words) r.2.words)

  -- what a step leaves suits the program
  suits_next : (s v : State) → Suits Q s → step Q now s ≡ steps.Next v → Suits Q v
  suits_next s v suits e = subst (λ (o : Outcome). IsSafe Q o) e (never_stuck Q now s typed suits)

  -- ---- a run

  abbrev ScanComes : ℕ → ℕ → State → RunEnd State → Type 0
  ScanComes budget performed s end = (r : scans.RunEnd) × Runs Q now [] budget performed s r × EndsAs end r

  within : (l : Line) (ls : List Line) (t s : State) → StandsAt (l ∷ ls) t s → s.position < length Q.code
  within l ls t s at =
      let r = said_at reads Q (length at.before) 0 at.before l ls Q.code (omega arith) (subst (λ (x : List Line). SayAll reads Q 0 x Q.code) at.parts says) in
      let e : s.position ≡ length at.before = ap (λ (x : State). x.position) at.there in
      omega (arith, r.3)

  turn_is : (l : Line) (ls : List Line) (t s : State) (budget performed : ℕ) (o : Outcome) → StandsAt (l ∷ ls) t s → performed < budget → step Q now s ≡ o → IsTurn Q now [] budget performed s o
  turn_is l ls t s budget performed o at lt e = record { within = within l ls t s at; left = lt; unbroken = refl; outcome = e }

  last_by : (l : Line) (ls : List Line) (t s : State) (budget performed : ℕ) (end : RunEnd State) (turn : Turn (List Line) State) (o : Outcome) → StandsAt (l ∷ ls) t s → performed < budget
      → turn ≡ Ends end → step Q now s ≡ o → Lock turn o → ScanComes budget performed s end
  last_by l ls t s budget performed end (Ends (Stopped stop u)) (steps.Stopped other v) at lt e f lock =
      let same : Stopped stop u ≡ end = cc in
      (scans.Stopped other v, Stops (turn_is l ls t s budget performed (steps.Stopped other v) at lt f), subst (λ (x : RunEnd State). EndsAs x (scans.Stopped other v)) same lock)
  last_by l ls t s budget performed end (Ends (Stopped stop u)) (steps.Next v) at lt e f lock = absurd lock
  last_by l ls t s budget performed end (Ends (Stopped stop u)) (steps.End v) at lt e f lock = absurd lock
  last_by l ls t s budget performed end (Ends (Stopped stop u)) steps.Stuck at lt e f lock = absurd lock
  last_by l ls t s budget performed end (Ends (Done u)) o at lt e f lock = absurd lock
  last_by l ls t s budget performed end (Next rest u) o at lt e f lock = absurd cc
  last_by l ls t s budget performed end Stuck o at lt e f lock = absurd cc

  ends_empty : (n : ℕ) (t : State) (end : RunEnd State) → ComesIn (line_step M all) n [] t end → Done t ≡ end
  ends_empty zero t end h = cc
  ends_empty (suc n) t end h = absurd (cc h.2)

  next_by : (l : Line) (ls : List Line) (t s : State) (budget performed n : ℕ) (end : RunEnd State) (rest : List Line) (u : State) (o : Outcome) → StandsAt (l ∷ ls) t s → performed < budget
      → step Q now s ≡ o → Lock (Next rest u) o → ComesIn (line_step M all) n rest u end
      → ((v : State) → step Q now s ≡ steps.Next v → StandsAt rest u v → ScanComes budget (performed + 1) v end) → ScanComes budget performed s end
  next_by l ls t s budget performed n end rest u (steps.Next v) at lt f lock more onward =
      let r = onward v f lock in (r.0, Steps (turn_is l ls t s budget performed (steps.Next v) at lt f) r.1, r.2)
  next_by l ls t s budget performed n end rest u (steps.End v) at lt f lock more onward =
      let same : Done u ≡ end = ends_empty n u end (subst (λ (x : List Line). ComesIn (line_step M all) n x u end) lock.0 more) in
      (scans.Done v, RunEnds (turn_is l ls t s budget performed (steps.End v) at lt f), subst (λ (x : RunEnd State). EndsAs x (scans.Done v)) same lock.1)
  next_by l ls t s budget performed n end rest u (steps.Stopped x v) at lt f lock more onward = absurd lock
  next_by l ls t s budget performed n end rest u steps.Stuck at lt f lock more onward = absurd lock

  past : (t s : State) (budget performed : ℕ) → StandsAt [] t s → ScanComes budget performed s (Done t)
  past t s budget performed at =
      let e : length Q.code ≡ length all = same_length reads Q 0 all Q.code says in
      let f : all ≡ at.before = at.parts ∙ append-nil at.before in
      let g : length all ≡ length at.before = ap length f in
      let h : s.position ≡ length at.before = ap (λ (x : State). x.position) at.there in
      (scans.Done s, Past (omega arith), ap at_start at.there ∙ at_start_is t at.start)

  runs_as : (n : ℕ) (rest : List Line) (t s : State) (budget performed : ℕ) (end : RunEnd State) → StandsAt rest t s → Suits Q s → ComesIn (line_step M all) n rest t end → n + performed < budget → ScanComes budget performed s end
  runs_as n [] t s budget performed end at suits h lt = subst (λ (x : RunEnd State). ScanComes budget performed s x) (ends_empty n t end h) (past t s budget performed at)
  runs_as zero (l ∷ ls) t s budget performed end at suits h lt = last_by l ls t s budget performed end (line_step M all (l ∷ ls) t) (step Q now s) at (omega arith) h refl (lock l ls t s at suits)
  runs_as (suc n) (l ∷ ls) t s budget performed end at suits h lt =
      next_by l ls t s budget performed n end h.0 h.1 (step Q now s) at (omega arith) refl
      (subst (λ (x : Turn (List Line) State). Lock x (step Q now s)) h.2 (lock l ls t s at suits)) h.3
      (λ (v : State) (e : step Q now s ≡ steps.Next v) (there : StandsAt h.0 h.1 v). runs_as n h.0 h.1 v budget (performed + 1) end there (suits_next s v suits e) h.3 (omega arith))

  -- ---- and back

  no_instruction : {X : Type 0} (t s : State) → StandsAt [] t s → s.position < length Q.code → X
  no_instruction t s at lt =
      let e : length Q.code ≡ length all = same_length reads Q 0 all Q.code says in
      let f : all ≡ at.before = at.parts ∙ append-nil at.before in
      let g : length all ≡ length at.before = ap length f in
      let h : s.position ≡ length at.before = ap (λ (x : State). x.position) at.there in
      absurd (omega arith)

  abbrev LinesCome : List Line → State → scans.RunEnd → Type 0
  LinesCome rest t r = (end : RunEnd State) × ((n : ℕ) × ComesIn (line_step M all) n rest t end) × EndsAs end r

  -- past the last line
  done_so : (t s : State) → StandsAt [] t s → LinesCome [] t (scans.Done s)
  done_so t s at = (Done t, (zero, refl), ap at_start at.there ∙ at_start_is t at.start)

  ended_so : (rest : List Line) (t v : State) (turn : Turn (List Line) State) → line_step M all rest t ≡ turn → Lock turn (steps.End v) → LinesCome rest t (scans.Done v)
  ended_so rest t v (Next after u) e lock =
      (Done u, (suc zero, (after, u, e, ap (λ (ls : List Line). line_step M all ls u) lock.0)), lock.1)
  ended_so rest t v (Ends (Done u)) e lock = absurd lock
  ended_so rest t v (Ends (Stopped x u)) e lock = absurd lock
  ended_so rest t v Stuck e lock = absurd lock

  stopped_so : (rest : List Line) (t v : State) (stop : Stop) (turn : Turn (List Line) State) → line_step M all rest t ≡ turn → Lock turn (steps.Stopped stop v) → LinesCome rest t (scans.Stopped stop v)
  stopped_so rest t v stop (Next after u) e lock = absurd lock
  stopped_so rest t v stop (Ends (Done u)) e lock = absurd lock
  stopped_so rest t v stop (Ends (Stopped x u)) e lock = (Stopped x u, (zero, e), lock)
  stopped_so rest t v stop Stuck e lock = absurd lock

  went_so : (rest : List Line) (t v : State) (r : scans.RunEnd) (turn : Turn (List Line) State) → line_step M all rest t ≡ turn → Lock turn (steps.Next v)
      → ((after : List Line) (u : State) → StandsAt after u v → LinesCome after u r) → LinesCome rest t r
  went_so rest t v r (Next after u) e lock onward = let more = onward after u lock in (more.0, (suc more.1.0, (after, u, e, more.1.1)), more.2)
  went_so rest t v r (Ends (Done u)) e lock onward = absurd lock
  went_so rest t v r (Ends (Stopped x u)) e lock onward = absurd lock
  went_so rest t v r Stuck e lock onward = absurd lock

  lock_at : (l : Line) (ls : List Line) (t s : State) (o : Outcome) → StandsAt (l ∷ ls) t s → Suits Q s → step Q now s ≡ o → Lock (line_step M all (l ∷ ls) t) o
  lock_at l ls t s o at suits e = subst (λ (x : Outcome). Lock (line_step M all (l ∷ ls) t) x) e (lock l ls t s at suits)

  lines_come : (budget : ℕ) {performed : ℕ} {s : State} {r : scans.RunEnd} → Runs Q now [] budget performed s r → (rest : List Line) (t : State) → StandsAt rest t s → Suits Q s → IsReached r → LinesCome rest t r
  lines_come budget (Past {s = s} le) [] t at suits reached = done_so t s at
  lines_come budget (Past {s = s} le) (l ∷ ls) t at suits reached = let lt = within l ls t s at in absurd (omega arith)
  lines_come budget (UsedUp lt used) rest t at suits reached = absurd reached
  lines_come budget (Breaks lt left is) rest t at suits reached = absurd (cc is)
  lines_come budget (RunEnds {s = s} {t = v} turn) [] t at suits reached = no_instruction t s at turn.within
  lines_come budget (RunEnds {s = s} {t = v} turn) (l ∷ ls) t at suits reached = ended_so (l ∷ ls) t v (line_step M all (l ∷ ls) t) refl (lock_at l ls t s (steps.End v) at suits turn.outcome)
  lines_come budget (Stops {s = s} {t = v} {stop = x} turn) [] t at suits reached = no_instruction t s at turn.within
  lines_come budget (Stops {s = s} {t = v} {stop = x} turn) (l ∷ ls) t at suits reached = stopped_so (l ∷ ls) t v x (line_step M all (l ∷ ls) t) refl (lock_at l ls t s (steps.Stopped x v) at suits turn.outcome)
  lines_come budget (Steps {s = s} {t = v} {r = r} turn more) [] t at suits reached = no_instruction t s at turn.within
  lines_come budget (Steps {s = s} {t = v} {r = r} turn more) (l ∷ ls) t at suits reached =
      went_so (l ∷ ls) t v r (line_step M all (l ∷ ls) t) refl (lock_at l ls t s (steps.Next v) at suits turn.outcome)
      (λ (after : List Line) (u : State) (there : StandsAt after u v). lines_come budget more after u there (suits_next s v suits turn.outcome) reached)

-- ---- a scan

first_arrived : (M : Machine State) (s : State) (o : Option Word) → ((t : State) → M.forgets t ≡ record t { cr = None }) → s.cr ≡ None → s.position ≡ 0 → at_position 0 (arrived M o s) ≡ s
first_arrived M s None forgets none start = at_start_is s start
first_arrived M s (Some w) forgets none start =
    ap (at_position 0) (forgets s) ∙ ap (λ (c : Option Value). record s { position = 0; cr = c }) (sym none) ∙ at_start_is s start

pub runs_as_its_lines : RunsAsItsLines
runs_as_its_lines reads Q now budget ls s typed suits says none start =
    let at : StandsAt reads Q now ls says typed ls s s =
    record { before = []; parts = refl; there = sym (first_arrived (controller reads Q now) s (first_label ls) (λ t. refl) none start); start = start } in (
      (λ (n : ℕ) (end : RunEnd State) (h : ComesIn (line_step (controller reads Q now) ls) n ls s end) (lt : n < budget). runs_as reads Q now ls says typed n ls s s budget 0 end at suits h (omega arith)),
      (λ (r : scans.RunEnd) (run : Runs Q now [] budget 0 s r) (reached : IsReached r). lines_come reads Q now ls says typed budget run ls s at suits reached),
    )

pub scans_as_its_calls : ScansAsItsCalls
scans_as_its_calls reads Q now text above program s all typed suits says none start = (
  (λ (end : RunEnd State) (comes : Comes (call_step (controller reads Q now) text) (begun above program) s end).
      let lines = (does_alike (controller reads Q now) text above program all s end).0 comes in
      (lines.0, λ (budget : ℕ) (lt : lines.0 < budget). (runs_as_its_lines reads Q now budget (expanded_lines text above program) s typed suits says none start).0 lines.0 end lines.1 lt)),
  (λ (budget : ℕ) (r : scans.RunEnd) (run : Runs Q now [] budget 0 s r) (reached : IsReached r).
      let lines = (runs_as_its_lines reads Q now budget (expanded_lines text above program) s typed suits says none start).1 r run reached in
      (lines.0, (does_alike (controller reads Q now) text above program all s lines.0).1 lines.1, lines.2)),
)
