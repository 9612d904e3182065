-- No label of a unit is the word RET or CAL.
use Rattle.std.proofs.Common.{◌≡◌, ℕ, zero, suc, Bool, true, false, List, [], ◌∷◌, ◌++◌, map, Option, Some, None, slice_get, get_or, position, refl, sym, ap, ◌∙◌, subst, append_assoc, inr, codes}
use Rattle.std.specs.Prelude.{option_map, is_none, if◌then◌else◌}
use Rattle.std.specs.List.{AllByRecursion}
use Rattle.std.proofs.lemmas.Slice.Eq.{bytes_eq-Decides}
use Rattle.std.proofs.lemmas.Option.{slice_get-get_or}
use Rattle.std.proofs.lemmas.List.Quantifiers.{position-Some}
use Rattle.il_values.specs.Spelled.{spells}
use Rattle.il_model.specs.declared.dialect.Dialect.TheVariants as dialects
use Rattle.il_model.specs.declared.program.Instr.{Instr}
use Rattle.il_model.specs.Program.{Program}
use Rattle.il_model.specs.Words.{is_reserved, mnemonic_of, look, same_name}
use Rattle.il_model.specs.Resolved.{target_of, has_label}
use Rattle.il_reader.specs.Tokens.{Token}
use Rattle.il_reader.specs.Grammar.{BehindText, Nothing, Given, Target, Opened, Called, OperationText, LineText, Labelled, Plain, ProgramText}
use Rattle.il_declarations.specs.Resolution.{capitals}
use Rattle.il_declarations.specs.Declaring.{DeclaredName}
use Rattle.il_declarations.specs.declared.fault.DeclKind.TheVariants as kinds
use Rattle.il_declarations.specs.FirstFault.{HasNoFault}
use Rattle.il_units.specs.declared.word.Word.{Word}
use Rattle.il_units.specs.declared.word.Line.{Line}
use Rattle.il_units.specs.Units as units
use Rattle.il_units.specs.Units.{StepText, Operation, Function}
use Rattle.il_units.specs.Words.{said, label, line_of as line_of_words}
use Rattle.il_units.specs.Flats.{Body, only_lines, joined}
use Rattle.il_units.specs.Expansion.{ScopeText, written_at, operation_words, operated_as, call_name, optional_step, labelled_lines, lone_label, with_label, line_body, body_from}
use Rattle.laws_calls.specs.Laws.{IsNoOperator, LabelIsNoOperator, TargetIsNoOperator, StepIsNoOperator, AreNoOperators}
use Rattle.laws_calls.specs.Lines.{Jump, control_of, letters_of}
use Rattle.laws_calls.specs.Controller.{SayAll, SaysWords, SaysLine, label_text}
use Rattle.laws_reading.specs.Lines.{word_token, unplaced, unplaced_operation, unplaced_line, operation_of, line_of, line_said}
use Rattle.laws_meaning.specs.Instructions.{read_by}
use Rattle.laws_meaning.proofs.Controls.{IsCapital, IsToldBySorts}

abbrev lines_in : Body → List Line
lines_in b = b.lines

-- ---- words that are reserved

return_reserved : is_reserved (codes "RET") ≡ true
unfolding mnemonic_of look spells
return_reserved = refl

call_reserved : is_reserved (codes "CAL") ≡ true
unfolding mnemonic_of look spells
call_reserved = refl

abbrev IsFree : List ℕ → Type 0
IsFree name = is_reserved name ≡ false

other_word : (name word : List ℕ) → IsFree name → is_reserved word ≡ true → name ≡ word → ⊥
other_word name word free reserved e = let clash : true ≡ false = sym reserved ∙ ap is_reserved (sym e) ∙ free in absurd cc

free_is : (name : List ℕ) → IsFree name → IsNoOperator name
free_is name free = (other_word name (codes "RET") free return_reserved, other_word name (codes "CAL") free call_reserved)

-- ---- the labels of lines that are read

abbrev LabelFree : Option Word → Type 0
LabelFree None = Unit {0}
LabelFree (Some w) = IsFree w.text

some_is : {A : Type 0} (x y : A) → Some x ≡ Some y → x ≡ y
some_is x y e = cc

heads : {A : Type 0} (x y : A) (xs ys : List A) → x ∷ xs ≡ y ∷ ys → (x ≡ y) × (xs ≡ ys)
heads x y xs ys e = (cc, cc)

-- the label that was read
labelled_some : (x : LineText) (w : Word) (r : Option OperationText) → Some (unplaced_line x) ≡ option_map (λ (o : OperationText). Labelled (word_token w) (Some o)) r → (t : Token) × (o : Option OperationText) × (x ≡ Labelled t o) × (t.text ≡ w.text)
labelled_some x w None e = absurd cc
labelled_some (Plain p) w (Some y) e = let line : Plain (unplaced_operation p) ≡ Labelled (word_token w) (Some y) = some_is (Plain (unplaced_operation p)) (Labelled (word_token w) (Some y)) e in absurd cc
labelled_some (Labelled t o) w (Some y) e =
    let line : Labelled (unplaced t) (option_map unplaced_operation o) ≡ Labelled (word_token w) (Some y) = some_is (Labelled (unplaced t) (option_map unplaced_operation o)) (Labelled (word_token w) (Some y)) e in
    let same : unplaced t ≡ word_token w = cc in
    (t, o, refl, ap (λ (u : Token). u.text) same)

labelled_none : (x : LineText) (w : Word) → Some (unplaced_line x) ≡ Some (Labelled (word_token w) None) → (t : Token) × (o : Option OperationText) × (x ≡ Labelled t o) × (t.text ≡ w.text)
labelled_none (Plain p) w e = let line : Plain (unplaced_operation p) ≡ Labelled (word_token w) None = some_is (Plain (unplaced_operation p)) (Labelled (word_token w) None) e in absurd cc
labelled_none (Labelled t o) w e =
    let line : Labelled (unplaced t) (option_map unplaced_operation o) ≡ Labelled (word_token w) None = some_is (Labelled (unplaced t) (option_map unplaced_operation o)) (Labelled (word_token w) None) e in
    let same : unplaced t ≡ word_token w = cc in
    (t, o, refl, ap (λ (u : Token). u.text) same)

label_read : (x : LineText) (w : Word) (ws : List Word) → Some (unplaced_line x) ≡ line_of (Some (word_token w)) (map word_token ws) → (t : Token) × (o : Option OperationText) × (x ≡ Labelled t o) × (t.text ≡ w.text)
label_read x w [] e = labelled_none x w e
label_read x w (v ∷ ws) e = labelled_some x w (operation_of (map word_token (v ∷ ws))) e

not_true : (b : Bool) → (b ≡ true → ⊥) → b ≡ false
not_true true no_one = absurd (no_one refl)
not_true false no_one = refl

module _ (p : ProgramText) (none : HasNoFault dialects.Extended p) where
  -- a label that was read is free
  read_free : (before behind : List LineText) (t : Token) (o : Option OperationText) → p.lines ≡ before ++ Labelled t o ∷ behind → is_reserved (capitals t.text) ≡ true → ⊥
  read_free before behind t o parts reserved =
      none (record { kind = kinds.ReservedName; left = t.left }) (inr (record { before = before; item = Labelled t o; behind = behind; is = parts; holds = (t, o, refl, refl, reserved) }))

  label_free : (before behind : List LineText) (x : LineText) (o : Option Word) (ws : List Word) → p.lines ≡ before ++ x ∷ behind → IsCapital o → Some (unplaced_line x) ≡ line_of (option_map word_token o) (map word_token ws) → LabelFree o
  label_free before behind x None ws parts capital e = tt
  label_free before behind x (Some w) ws parts capital e =
      let r = label_read x w ws e in
      not_true (is_reserved w.text) (λ (yes : is_reserved w.text ≡ true).
      read_free before behind r.0 r.1 (parts ∙ ap (λ (y : LineText). before ++ y ∷ behind) r.2) (ap (λ (y : List ℕ). is_reserved (capitals y)) r.3 ∙ ap is_reserved capital ∙ yes))

  labels_free : (before xs : List LineText) (ls : List Line) → p.lines ≡ before ++ xs → map (λ (x : LineText). Some (unplaced_line x)) xs ≡ map line_said ls → AllByRecursion (λ (l : Line). IsCapital l.label) ls
      → AllByRecursion (λ (l : Line). LabelFree l.label) ls
  labels_free before xs [] parts e all = tt
  labels_free before [] (l ∷ ls) parts e all = absurd cc
  labels_free before (x ∷ xs) (l ∷ ls) parts e all =
      let h = heads (Some (unplaced_line x)) (line_said l) (map (λ (y : LineText). Some (unplaced_line y)) xs) (map line_said ls) e in
      (label_free before xs x l.label l.words parts all.0 h.0, labels_free (before ++ x ∷ []) xs ls (parts ∙ sym (append_assoc before (x ∷ []) xs)) h.1 all.1)

-- ---- the targets of jumps

abbrev TargetFree : Line → Type 0
TargetFree l = (op name : List ℕ) (i j : ℕ) → l.words ≡ said op i ∷ label name j ∷ [] → IsFree name

-- what a label of the program's code is, is a line's
code_free : (names : List DeclaredName) (Q : Program) (k i : ℕ) (ls : List Line) (code : List Instr) (q : Instr) (name : List ℕ) → SayAll (read_by names) Q k ls code → AllByRecursion (λ (l : Line). LabelFree l.label) ls
    → slice_get code i ≡ Some q → q.label ≡ Some name → IsFree name
code_free names Q k i [] [] q name say free e is = absurd cc
code_free names Q k i [] (c ∷ code) q name say free e is = absurd say
code_free names Q k i (l ∷ ls) [] q name say free e is = absurd say
code_free names Q k zero (l ∷ ls) (c ∷ code) q name say free e is = label_named l.label free.0 (sym (say.0.label) ∙ ap (λ (y : Instr). y.label) (some_is c q e) ∙ is)
  where
    label_named : (o : Option Word) → LabelFree o → label_text o ≡ Some name → IsFree name
    label_named None f h = absurd cc
    label_named (Some w) f h = subst IsFree (some_is w.text name h) f
code_free names Q k (suc i) (l ∷ ls) (c ∷ code) q name say free e is = code_free names Q (suc k) i ls code q name say.1 free.1 e is

same_label : (o : Option (List ℕ)) (name : List ℕ) → (elim o as (λ x. Bool) [ Some found ↦ same_name found name | None ↦ false ]) ≡ true → (found : List ℕ) × (o ≡ Some found) × (found ≡ name)
same_label None name e = absurd cc
same_label (Some l) name e = (l, refl, (bytes_eq-Decides l name).0 e)

found_at : {X : Type 0} (p : X → Bool) (xs : List X) (i : ℕ) → position p xs ≡ Some i → (x : X) × (slice_get xs i ≡ Some x) × (p x ≡ true)
found_at p [] i e = absurd cc
found_at p (x ∷ xs) i e = let r = position-Some p (x ∷ xs) i x e in (get_or (x ∷ xs) i x, slice_get-get_or (x ∷ xs) i x r.0, r.1)

target_free : (names : List DeclaredName) (Q : Program) (ls : List Line) (name : List ℕ) (n : ℕ) → SayAll (read_by names) Q 0 ls Q.code → AllByRecursion (λ (l : Line). LabelFree l.label) ls → target_of Q name ≡ Some n → IsFree name
target_free names Q ls name n say free e =
    let f = found_at (has_label name) Q.code n e in
    let l = same_label f.0.label name f.2 in
    subst IsFree l.2 (code_free names Q 0 n ls Q.code f.0 l.0 say free f.1 l.1)

-- what stands behind a jump
jump_free : (names : List DeclaredName) (Q : Program) (all : List Line) (k : ℕ) (l : Line) (q : Instr) → SayAll (read_by names) Q 0 all Q.code → AllByRecursion (λ (x : Line). LabelFree x.label) all → SaysLine (read_by names) Q k l q → TargetFree l
jump_free names Q all k l q say free line = λ (op name : List ℕ) (i j : ℕ) (e : l.words ≡ said op i ∷ label name j ∷ []).
    let says : SaysWords (read_by names) Q k (said op i ∷ label name j ∷ []) (Jump (letters_of op) name) q = subst (λ (ws : List Word). SaysWords (read_by names) Q k ws (control_of ws) q) e line.words in
    target_free names Q all name says.4.0 say free says.4.1

jumps_free : (names : List DeclaredName) (Q : Program) (all ls : List Line) (k : ℕ) (code : List Instr) → SayAll (read_by names) Q 0 all Q.code → AllByRecursion (λ (x : Line). LabelFree x.label) all → SayAll (read_by names) Q k ls code → AllByRecursion TargetFree ls
jumps_free names Q all [] k [] say free more = tt
jumps_free names Q all [] k (q ∷ code) say free more = absurd more
jumps_free names Q all (l ∷ ls) k [] say free more = absurd more
jumps_free names Q all (l ∷ ls) k (q ∷ code) say free more = (jump_free names Q all k l q say free more.0, jumps_free names Q all ls (suc k) code say free more.1)

-- both
pub record IsFreeLine (l : Line) : Type 0 where
  pub label : LabelFree l.label
  pub target : TargetFree l

both_free : (ls : List Line) → AllByRecursion (λ (l : Line). LabelFree l.label) ls → AllByRecursion TargetFree ls → AllByRecursion IsFreeLine ls
both_free [] a b = tt
both_free (l ∷ ls) a b = (record { label = a.0; target = b.0 }, both_free ls a.1 b.1)

capitals_all : (ls : List Line) → AllByRecursion IsToldBySorts ls → AllByRecursion (λ (l : Line). IsCapital l.label) ls
capitals_all [] all = tt
capitals_all (l ∷ ls) all = (all.0.label, capitals_all ls all.1)

-- the lines of a program's text, of whose typed program the instructions are these lines
pub lines_free : (p : ProgramText) (names : List DeclaredName) (Q : Program) (ls : List Line) → HasNoFault dialects.Extended p → AllByRecursion IsToldBySorts ls → map (λ (x : LineText). Some (unplaced_line x)) p.lines ≡ map line_said ls
    → SayAll (read_by names) Q 0 ls Q.code → AllByRecursion IsFreeLine ls
lines_free p names Q ls none told read say =
    let labels = labels_free p none [] p.lines ls refl read (capitals_all ls told) in
    both_free ls labels (jumps_free names Q ls ls 0 Q.code say labels say)

-- ---- the lines of a unit

all_left : (P : Line → Type 0) (xs ys : List Line) → AllByRecursion P (xs ++ ys) → AllByRecursion P xs
all_left P [] ys all = tt
all_left P (x ∷ xs) ys all = (all.0, all_left P xs ys all.1)

all_right : (P : Line → Type 0) (xs ys : List Line) → AllByRecursion P (xs ++ ys) → AllByRecursion P ys
all_right P [] ys all = all
all_right P (x ∷ xs) ys all = all_right P xs ys all.1

labelled_free : (w : Word) (l : Line) (ls : List Line) (b : Bool) → AllByRecursion IsFreeLine (if b then record { label = Some w; words = l.words; left = l.left } ∷ ls else lone_label w ∷ l ∷ ls) → IsFree w.text
labelled_free w l ls true all = all.0.label
labelled_free w l ls false all = all.0.label

label_found : (w : Word) (ls : List Line) → AllByRecursion IsFreeLine (labelled_lines w ls) → IsFree w.text
label_found w [] all = all.0.label
label_found w (l ∷ ls) all = labelled_free w l ls (is_none l.label) all

label_of : (o : Option Token) (b : Body) → AllByRecursion IsFreeLine (lines_in (with_label o b)) → LabelIsNoOperator o
label_of None b all = tt
label_of (Some t) b all = free_is (capitals t.text) (label_found (label (capitals t.text) t.left) b.lines all)

-- what stands behind the operator of the one line of a body
target_labelled : (w : Word) (l : Line) (b : Bool) (op name : List ℕ) (i j : ℕ) → l.words ≡ said op i ∷ label name j ∷ [] → AllByRecursion IsFreeLine (if b then record { label = Some w; words = l.words; left = l.left } ∷ [] else lone_label w ∷ l ∷ []) → IsFree name
target_labelled w l true op name i j e all = all.0.target op name i j e
target_labelled w l false op name i j e all = all.1.0.target op name i j e

target_found : (o : Option Token) (l : Line) (op name : List ℕ) (i j : ℕ) → l.words ≡ said op i ∷ label name j ∷ [] → AllByRecursion IsFreeLine (lines_in (with_label o (only_lines (l ∷ [])))) → IsFree name
target_found None l op name i j e all = all.0.target op name i j e
target_found (Some t) l op name i j e all = target_labelled (label (capitals t.text) t.left) l (is_none l.label) op name i j e all

step_of : (s : ScopeText) (call : List ℕ) (o : Option Token) (x : Option StepText) → AllByRecursion IsFreeLine (lines_in (with_label o (optional_step s call x))) → StepIsNoOperator x
step_of s call o None all = tt
step_of s call o (Some (Function t xs)) all = tt
step_of s call o (Some (Operation p)) all = by_behind p p.behind refl all
  where
    by_behind : (p : OperationText) (b : BehindText) → p.behind ≡ b → AllByRecursion IsFreeLine (lines_in (with_label o (operated_as b s call p))) → TargetIsNoOperator b
    by_behind p Nothing e free = tt
    by_behind p (Given y) e free = tt
    by_behind p (Opened y) e free = tt
    by_behind p (Called c) e free = tt
    by_behind p (Target t) e free =
        free_is (capitals t.text) (target_found o (line_of_words p.operator.left (operation_words s.members p.operator.mnemonic (written_at s.text p.operator.left) p.behind p.operator.left))
        (written_at s.text p.operator.left) (capitals t.text) p.operator.left t.left (ap (λ (y : BehindText). operation_words s.members p.operator.mnemonic (written_at s.text p.operator.left) y p.operator.left) e) free)

pub unit_lines : (s : ScopeText) (b : Body) (k : ℕ) (ls : List units.LineText) → AllByRecursion IsFreeLine (lines_in (body_from s b k ls)) → AllByRecursion IsFreeLine b.lines × AllByRecursion AreNoOperators ls
unfolding body_from
unit_lines s b k [] all = (all, tt)
unit_lines s b k (l ∷ ls) all =
    let h = unit_lines s (joined b (line_body s k l)) (suc k) ls all in
    let mine = all_right IsFreeLine b.lines (lines_in (line_body s k l)) h.0 in (
      all_left IsFreeLine b.lines (lines_in (line_body s k l)) h.0,
      ((label_of l.label (optional_step s (call_name k) l.step) mine, step_of s (call_name k) l.label l.step mine), h.1),
    )
