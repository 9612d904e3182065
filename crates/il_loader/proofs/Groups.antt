-- Words and the instructions that they stand for: how many there are, what labels and what operands they have.
use Rattle.std.proofs.Common.{◌≡◌, ℕ, zero, suc, ◌+◌, ◌<◌, ◌≤◌, Bool, true, false, cond, eqb, List, [], ◌∷◌, ◌++◌, length, map, Option, Some, None, Result, Ok, Err, refl, sym, ap, subst, ◌∙◌, arith}
use Rattle.std.specs.Prelude.{slice_get, nat_le, not, ◌&&◌, ◌||◌}
use Rattle.std.specs.Option.{option_map}
use Rattle.std.proofs.lemmas.Bool.{leb-true, le-leb, eq-eqb, ne_eqb, or_left, or_right}
use Rattle.std.proofs.lemmas.List.{length-append}
use Rattle.std.proofs.lemmas.Option.{slice_get_within}
use Rattle.il_model.specs.declared.kind.BlockKind.{BlockKind}
use Rattle.il_values.specs.declared.value.Value.{Value}
use Rattle.il_model.specs.declared.program.Variable.{Variable}
use Rattle.il_model.specs.declared.program.Instance.{Instance}
use Rattle.il_model.specs.declared.program.Operand.{Operand}
use Rattle.il_model.specs.declared.program.Argument.{Argument}
use Rattle.il_model.specs.declared.program.Instr.{Instr}
use Rattle.il_model.specs.Program.{Program, Declarations, program_of}
use Rattle.il_model.specs.Limits.{has_room}
use Rattle.il_model.specs.declared.codes.Version.{Version}
use Rattle.il_model.specs.Resolved.{kind_in}
use Rattle.il_model.specs.Marks.{Mark, words_in, starts_from, AreRising, AreStarts}
use Rattle.il_model.specs.Constants.{operands_of}
use Rattle.il_model.specs.Codes.{label_there}
use Rattle.il_model.specs.Fits.{AreItems}
use Rattle.il_model.proofs.Marks.{AreLabelled, start_low}
use Rattle.il_loader.specs.declared.word.Word.{Word}
use Rattle.il_loader.specs.declared.word.Content.{Content}
use Rattle.il_loader.specs.declared.word.Content.TheVariants as contents
use Rattle.il_records.specs.declared.fault.LoadFault.{LoadFault}
use Rattle.il_records.specs.declared.fault.LoadFault.TheVariants.{BadTarget}
use Rattle.il_loader.specs.Tables.{operand_in, is_argument, with_argument, front_arguments, with_line, lines_of}
use Rattle.il_loader.specs.Judging.{label_place, is_start, risen, takes_argument, stray_from}
use Rattle.il_loader.proofs.Records.{IsNext}

-- ---- how many words there are

-- how many arguments stand in front
abbrev count_front : Content → ℕ → ℕ
count_front (contents.Instruction line) n = 0
count_front (contents.Argument side number operand) n = suc n

abbrev pub front : List Word → ℕ
front [] = 0
front (w ∷ ws) = count_front w.content (front ws)

front_by : (kind : Option BlockKind) (c : Content) (args : List Argument) (n : ℕ) → length args ≡ n → length (with_argument kind c args) ≡ count_front c n
front_by kind (contents.Instruction line) args n e = refl
front_by kind (contents.Argument side number operand) args n e = ap suc e

front_long : (kind : Option BlockKind) (ws : List Word) → length (front_arguments kind ws) ≡ front ws
front_long kind [] = refl
front_long kind (w ∷ ws) = front_by kind w.content (front_arguments kind ws) (front ws) (front_long kind ws)

words_by : (xs : List Instance) (c : Content) (ws : List Word) → front ws + words_in (lines_of xs ws) ≡ length ws → count_front c (front ws) + words_in (with_line xs c ws (lines_of xs ws)) ≡ suc (length ws)
words_by xs (contents.Instruction line) ws ih = let long = front_long (kind_in xs line.operand) ws in omega (arith, ih, long)
words_by xs (contents.Argument side number operand) ws ih = omega (arith, ih)

-- each word is one of an instruction, or an argument in front of all
pub words_are : (xs : List Instance) (ws : List Word) → front ws + words_in (lines_of xs ws) ≡ length ws
words_are xs [] = refl
words_are xs (w ∷ ws) = words_by xs w.content ws (words_are xs ws)

words_fit : (xs : List Instance) (ws : List Word) → words_in (lines_of xs ws) ≤ length ws
words_fit xs ws = let is = words_are xs ws in omega (arith, is)

code_by : (b : Bool) (P Q : Program) → cond b (Some P) None ≡ Some Q → Q.code ≡ P.code
code_by false P Q e = absurd cc
code_by true P Q e = let is : P ≡ Q = cc in ap (λ (R : Program). R.code) (sym is)

-- a program of words has no more than those
pub program_fits : (version : Version) (vs : List Variable) (xs : List Instance) (ws : List Word) (Q : Program) → program_of version vs xs (lines_of xs ws) ≡ Some Q → words_in Q.code ≤ length ws
program_fits version vs xs ws Q e =
    let is : Q.code ≡ lines_of xs ws = code_by (has_room version vs xs (lines_of xs ws)) (record { variables = vs; instances = xs; code = lines_of xs ws }) Q e in
    omega (arith, words_fit xs ws, ap words_in is)

-- ---- arguments that are behind a call

none_by : (kind : Option BlockKind) (c : Content) (args : List Argument) (n : ℕ) (o : Option ℕ) → cond (is_argument c && not false) (Some 0) (option_map suc o) ≡ None → (count_front c n ≡ 0) × (with_argument kind c args ≡ [])
none_by kind (contents.Instruction line) args n o e = (refl, refl)
none_by kind (contents.Argument side number operand) args n o e = absurd cc

-- where none is stray, none stands in front
pub none_front : (kind : Option BlockKind) (ws : List Word) → stray_from false ws ≡ None → (front ws ≡ 0) × (front_arguments kind ws ≡ [])
none_front kind [] e = (refl, refl)
none_front kind (w ∷ ws) e = none_by kind w.content (front_arguments kind ws) (front ws) (stray_from (takes_argument w.content) ws) e

-- ---- operands

abbrev pub word_operands : List Word → List Operand
word_operands ws = map (λ (w : Word). operand_in w.content) ws

abbrev argument_operands : List Argument → List Operand
argument_operands args = map (λ (a : Argument). a.operand) args

operands_by : (xs : List Instance) (kind : Option BlockKind) (c : Content) (ws : List Word) → ((k : Option BlockKind) → argument_operands (front_arguments k ws) ++ operands_of (lines_of xs ws) ≡ word_operands ws)
    → argument_operands (with_argument kind c (front_arguments kind ws)) ++ operands_of (with_line xs c ws (lines_of xs ws)) ≡ operand_in c ∷ word_operands ws
operands_by xs kind (contents.Instruction line) ws ih = ap (λ (os : List Operand). line.operand ∷ os) (ih (kind_in xs line.operand))
operands_by xs kind (contents.Argument side number operand) ws ih = ap (λ (os : List Operand). operand ∷ os) (ih kind)

operands_with : (xs : List Instance) (kind : Option BlockKind) (ws : List Word) → argument_operands (front_arguments kind ws) ++ operands_of (lines_of xs ws) ≡ word_operands ws
operands_with xs kind [] = refl
operands_with xs kind (w ∷ ws) = operands_by xs kind w.content ws (λ k. operands_with xs k ws)

-- the operands of the instructions are those of the words
pub operands_are : (xs : List Instance) (ws : List Word) → stray_from false ws ≡ None → operands_of (lines_of xs ws) ≡ word_operands ws
operands_are xs ws none = ap (λ (args : List Argument). argument_operands args ++ operands_of (lines_of xs ws)) (sym (none_front None ws none).1) ∙ operands_with xs None ws

-- ---- labels

pub more_seen : {X : Type 0} (seen : List X) (x : X) → length (seen ++ x ∷ []) ≡ suc (length seen)
more_seen seen x = omega (arith, length-append seen (x ∷ []))

labels_by : (xs : List Instance) (ds : Declarations) (ms : List Mark) (cs : List Value) (seen : List Word) (w : Word) (c : Content) (ws : List Word) → w.content ≡ c → IsNext ds ms cs seen (record { content = c; code = w.code })
    → AreLabelled ms (length (seen ++ w ∷ []) + front ws) (lines_of xs ws) → AreLabelled ms (length seen + count_front c (front ws)) (with_line xs c ws (lines_of xs ws))
labels_by xs ds ms cs seen w (contents.Instruction line) ws is read ih =
    let long = front_long (kind_in xs line.operand) ws in
    let here : length seen ≡ length seen + 0 = omega arith in
    let on : length (seen ++ w ∷ []) + front ws ≡ length seen + 0 + (1 + length (front_arguments (kind_in xs line.operand) ws)) = omega (arith, more_seen seen w, long) in
    (read.label ∙ ap (label_there ms) here, subst (λ (n : ℕ). AreLabelled ms n (lines_of xs ws)) on ih)
labels_by xs ds ms cs seen w (contents.Argument side number operand) ws is read ih =
    let on : length (seen ++ w ∷ []) + front ws ≡ length seen + suc (front ws) = omega (arith, more_seen seen w) in
    subst (λ (n : ℕ). AreLabelled ms n (lines_of xs ws)) on ih

labels_from : (xs : List Instance) (ds : Declarations) (ms : List Mark) (cs : List Value) (seen ws : List Word) → AreItems (IsNext ds ms cs) seen ws → AreLabelled ms (length seen + front ws) (lines_of xs ws)
labels_from xs ds ms cs seen [] are = tt
labels_from xs ds ms cs seen (w ∷ ws) are = labels_by xs ds ms cs seen w w.content ws refl are.0 (labels_from xs ds ms cs (seen ++ w ∷ []) ws are.1)

-- the instructions have the labels that stand at their words
pub labels_read : (xs : List Instance) (ds : Declarations) (ms : List Mark) (cs : List Value) (ws : List Word) → stray_from false ws ≡ None → AreItems (IsNext ds ms cs) [] ws → AreLabelled ms 0 (lines_of xs ws)
labels_read xs ds ms cs ws none are = subst (λ (n : ℕ). AreLabelled ms n (lines_of xs ws)) (let is = (none_front None ws none).0 in let z : 0 + front ws ≡ 0 = omega (arith, is) in z) (labels_from xs ds ms cs [] ws are)

-- ---- where instructions begin

moved : (code : List Instr) (n m a b : ℕ) → n ≡ m → a ≡ b → starts_from n code a ≡ true → starts_from m code b ≡ true
moved code n m a b n-is a-is e = sym (ap (λ (k : ℕ). starts_from k code a) n-is ∙ ap (starts_from m code) a-is) ∙ e

here_by : (xs : List Instance) (n : ℕ) (c : Content) (ws : List Word) → not (is_argument c) ≡ true → starts_from (n + count_front c (front ws)) (with_line xs c ws (lines_of xs ws)) (n + 0) ≡ true
here_by xs n (contents.Instruction line) ws e = or_left (eqb (n + 0) (n + 0)) (starts_from (n + 0 + (1 + length (front_arguments (kind_in xs line.operand) ws))) (lines_of xs ws) (n + 0)) (eq-eqb (n + 0) (n + 0) refl)
here_by xs n (contents.Argument side number operand) ws e = absurd cc

later_by : (xs : List Instance) (n k : ℕ) (c : Content) (ws : List Word) → starts_from (suc n + front ws) (lines_of xs ws) (suc n + k) ≡ true → starts_from (n + count_front c (front ws)) (with_line xs c ws (lines_of xs ws)) (n + suc k) ≡ true
later_by xs n k (contents.Instruction line) ws ih =
    let args = front_arguments (kind_in xs line.operand) ws in
    let long = front_long (kind_in xs line.operand) ws in
    let on : suc n + front ws ≡ n + 0 + (1 + length args) = omega (arith, long) in
    or_right (eqb (n + 0) (n + suc k)) (starts_from (n + 0 + (1 + length args)) (lines_of xs ws) (n + suc k)) (moved (lines_of xs ws) (suc n + front ws) (n + 0 + (1 + length args)) (suc n + k) (n + suc k) on (omega arith) ih)
later_by xs n k (contents.Argument side number operand) ws ih = moved (lines_of xs ws) (suc n + front ws) (n + suc (front ws)) (suc n + k) (n + suc k) (omega arith) (omega arith) ih

-- at a word that begins an instruction one begins
starts_at : (xs : List Instance) (n : ℕ) (ws : List Word) (k : ℕ) → is_start (slice_get ws k) ≡ true → starts_from (n + front ws) (lines_of xs ws) (n + k) ≡ true
starts_at xs n [] k e = absurd cc
starts_at xs n (w ∷ ws) zero e = here_by xs n w.content ws e
starts_at xs n (w ∷ ws) (suc k) e = later_by xs n k w.content ws (starts_at xs (suc n) ws k e)

back_here : (xs : List Instance) (n : ℕ) (c : Content) (ws : List Word) → starts_from (n + count_front c (front ws)) (with_line xs c ws (lines_of xs ws)) (n + 0) ≡ true → not (is_argument c) ≡ true
back_here xs n (contents.Instruction line) ws e = refl
back_here xs n (contents.Argument side number operand) ws e = absurd (let le = start_low (lines_of xs ws) (n + suc (front ws)) (n + 0) e in omega arith)

back_later : (xs : List Instance) (n k : ℕ) (c : Content) (ws : List Word) → starts_from (n + count_front c (front ws)) (with_line xs c ws (lines_of xs ws)) (n + suc k) ≡ true → starts_from (suc n + front ws) (lines_of xs ws) (suc n + k) ≡ true
back_later xs n k (contents.Instruction line) ws e =
    let args = front_arguments (kind_in xs line.operand) ws in
    let long = front_long (kind_in xs line.operand) ws in
    let differ : eqb (n + 0) (n + suc k) ≡ false = ne_eqb (n + 0) (n + suc k) (λ is. omega (arith, is)) in
    let behind : starts_from (n + 0 + (1 + length args)) (lines_of xs ws) (n + suc k) ≡ true = sym (ap (λ (b : Bool). b || starts_from (n + 0 + (1 + length args)) (lines_of xs ws) (n + suc k)) differ) ∙ e in
    let on : n + 0 + (1 + length args) ≡ suc n + front ws = omega (arith, long) in
    moved (lines_of xs ws) (n + 0 + (1 + length args)) (suc n + front ws) (n + suc k) (suc n + k) on (omega arith) behind
back_later xs n k (contents.Argument side number operand) ws e = moved (lines_of xs ws) (n + suc (front ws)) (suc n + front ws) (n + suc k) (suc n + k) (omega arith) (omega arith) e

-- where an instruction begins stands a word that begins one
starts_back : (xs : List Instance) (n : ℕ) (ws : List Word) (k : ℕ) → starts_from (n + front ws) (lines_of xs ws) (n + k) ≡ true → is_start (slice_get ws k) ≡ true
starts_back xs n [] k e = absurd cc
starts_back xs n (w ∷ ws) zero e = back_here xs n w.content ws e
starts_back xs n (w ∷ ws) (suc k) e = starts_back xs (suc n) ws k (back_later xs n k w.content ws e)

within_by : (ws : List Word) (k : ℕ) (o : Option Word) → slice_get ws k ≡ o → is_start o ≡ true → k < length ws
within_by ws k None e start = absurd cc
within_by ws k (Some w) e start = slice_get_within ws k w e

risen_by : (a b : Bool) (r : Result (Unit {0}) LoadFault) (f : LoadFault) (x : Unit {0}) → cond (a && b) r (Err f) ≡ Ok x → (a ≡ true) × (b ≡ true) × (r ≡ Ok x)
risen_by true true r f x e = (refl, refl, e)
risen_by false b r f x e = absurd cc
risen_by true false r f x e = absurd cc

-- labels that rise, each at the beginning of an instruction
pub risen_takes : (xs : List Instance) (end n : ℕ) (ws : List Word) (ms : List Mark) (x : Unit {0}) → front ws ≡ 0 → risen end n ws ms ≡ Ok x → AreRising n (length ws) ms × AreStarts 0 (lines_of xs ws) ms
risen_takes xs end n ws [] x none e = (tt, tt)
risen_takes xs end n ws (m ∷ ms) x none e =
    let r = risen_by (nat_le n m.at) (is_start (slice_get ws m.at)) (risen end (suc m.at) ws ms) (BadTarget (label_place end (m ∷ ms))) x e in
    let more = risen_takes xs end (suc m.at) ws ms x none r.2 in
    let here : starts_from 0 (lines_of xs ws) m.at ≡ true = moved (lines_of xs ws) (0 + front ws) 0 (0 + m.at) m.at (omega (arith, none)) (omega arith) (starts_at xs 0 ws m.at r.1) in
    ((leb-true n m.at r.0, within_by ws m.at (slice_get ws m.at) refl r.1, more.0), (here, more.1))

pub risen_again : (xs : List Instance) (end n stop : ℕ) (ws : List Word) (ms : List Mark) → front ws ≡ 0 → AreRising n stop ms → AreStarts 0 (lines_of xs ws) ms → risen end n ws ms ≡ Ok tt
risen_again xs end n stop ws [] none rising starts = refl
risen_again xs end n stop ws (m ∷ ms) none rising starts =
    let here : is_start (slice_get ws m.at) ≡ true = starts_back xs 0 ws m.at (moved (lines_of xs ws) 0 (0 + front ws) m.at (0 + m.at) (omega (arith, none)) (omega arith) starts.0) in
    rw (le-leb n m.at rising.0, here) (risen_again xs end (suc m.at) stop ws ms none rising.2 starts.1)
