-- A rising table of labels whose addresses are starts of instructions is the table of the instructions that it labels.
use Rattle.std.proofs.Common.{◌≡◌, ℕ, zero, suc, ◌+◌, ◌<◌, ◌≤◌, Bool, true, false, eqb, List, [], ◌∷◌, ◌++◌, length, get_or, Option, Some, None, refl, sym, ap, subst, ◌∙◌, arith, inl, inr}
use Rattle.std.specs.Prelude.{nat_eq, slice_get, ◌||◌}
use Rattle.std.specs.List.{position}
use Rattle.std.proofs.lemmas.Bool.{eqb-true, eqb-false, ne_eqb, eq-eqb, cases_lt, or_left, or_right}
use Rattle.std.proofs.lemmas.Option.{slice_get-get_or}
use Rattle.std.proofs.lemmas.List.Quantifiers.{position-Some}
use Rattle.std.proofs.lemmas.Slice.Eq.{bytes_eq-Decides}
use Rattle.il_model.specs.declared.program.Instr.{Instr}
use Rattle.il_model.specs.Words.{same_name}
use Rattle.il_model.specs.Resolved.{has_label}
use Rattle.il_model.specs.Marks.{Mark, with_mark, word_count, words_in, address_of, marks_from, starts_from, AreRising, AreStarts}
use Rattle.il_model.specs.Codes.{label_there}

-- ---- addresses

-- the words of the first instructions, then those of the others
pub words_in-append : (xs ys : List Instr) → words_in (xs ++ ys) ≡ words_in xs + words_in ys
words_in-append [] ys = omega arith
words_in-append (line ∷ xs) ys = let more = words_in-append xs ys in omega arith

-- an instruction's own word is one of the program's
pub address_small : (code : List Instr) (k : ℕ) → k < length code → address_of code k < words_in code
address_small [] k lt = absurd (omega arith)
address_small (line ∷ code) zero lt = omega arith
address_small (line ∷ code) (suc k) lt = let more = address_small code k (omega arith) in omega arith

-- behind the first instructions stands the next
pub address_behind : (before : List Instr) (line : Instr) (code : List Instr) → address_of (before ++ line ∷ code) (length before) ≡ words_in before
address_behind [] line code = refl
address_behind (l ∷ before) line code = ap (λ (k : ℕ). word_count l + k) (address_behind before line code)

-- ---- starts of instructions

-- an instruction starts at its address
pub starts_there : (code : List Instr) (n k : ℕ) → k < length code → starts_from n code (n + address_of code k) ≡ true
starts_there [] n k lt = absurd (omega arith)
starts_there (line ∷ code) n zero lt =
    let here : n ≡ n + 0 = omega arith in
    or_left (eqb n (n + 0)) (starts_from (n + word_count line) code (n + 0)) (eq-eqb n (n + 0) here)
starts_there (line ∷ code) n (suc k) lt =
    let is : n + word_count line + address_of code k ≡ n + (word_count line + address_of code k) = omega arith in
    or_right (eqb n (n + (word_count line + address_of code k))) (starts_from (n + word_count line) code (n + (word_count line + address_of code k)))
    (ap (starts_from (n + word_count line) code) (sym is) ∙ starts_there code (n + word_count line) k (omega arith))

-- an instruction that starts at an address
pub record IsStartOf (n : ℕ) (code : List Instr) (a : ℕ) : Type 0 where
  pub number : ℕ
  pub below : number < length code
  pub address : n + address_of code number ≡ a

start_by : (b : Bool) (line : Instr) (code : List Instr) (n a : ℕ) → eqb n a ≡ b → (b || starts_from (n + word_count line) code a) ≡ true
    → (starts_from (n + word_count line) code a ≡ true → IsStartOf (n + word_count line) code a) → IsStartOf n (line ∷ code) a
start_by true line code n a e h ih = let here = eqb-true n a e in record { number = 0; below = omega arith; address = omega arith }
start_by false line code n a e h ih =
    let s = ih h in
    let lt = s.below in
    let at : n + word_count line + address_of code s.number ≡ a = s.address in
    record { number = suc s.number; below = omega arith; address = omega arith }

pub start_number : (code : List Instr) (n a : ℕ) → starts_from n code a ≡ true → IsStartOf n code a
start_number [] n a e = absurd cc
start_number (line ∷ code) n a e = start_by (eqb n a) line code n a refl e (start_number code (n + word_count line) a)

-- no address lies before the first instruction, none behind the last
pub start_low : (code : List Instr) (n a : ℕ) → starts_from n code a ≡ true → n ≤ a
start_low code n a e = let s = start_number code n a e in let at = s.address in omega arith

pub start_high : (code : List Instr) (n a : ℕ) → starts_from n code a ≡ true → a < n + words_in code
start_high code n a e =
    let s = start_number code n a e in
    let at = s.address in
    let small = address_small code s.number s.below in
    omega arith

-- ---- labels looked up by their address

-- each instruction, from the address n on, has the label that a table gives it
abbrev pub AreLabelled : List Mark → ℕ → List Instr → Type 0
AreLabelled ms n [] = Unit {0}
AreLabelled ms n (line ∷ code) = (line.label ≡ label_there ms n) × AreLabelled ms (n + word_count line) code

-- two tables agree from an address on
record AreSame (ms cur : List Mark) (n : ℕ) : Type 0 where
  at : (k : ℕ) → n ≤ k → label_there ms k ≡ label_there cur k

none_below : (ms : List Mark) (j end n : ℕ) → AreRising j end ms → n < j → label_there ms n ≡ None
none_below [] j end n rising lt = refl
none_below (m ∷ ms) j end n rising lt =
    let le : j ≤ m.at = rising.0 in
    let not-n : eqb m.at n ≡ false = ne_eqb m.at n (λ e. omega (arith, e)) in
    rw not-n (none_below ms (suc m.at) end n rising.2 (omega arith))

same_next : (ms cur : List Mark) (n k : ℕ) → n ≤ k → AreSame ms cur n → AreSame ms cur k
same_next ms cur n k le is = record { at = λ i ge. is.at i (omega arith) }

same_after : (ms : List Mark) (m : Mark) (rest : List Mark) (n k : ℕ) → m.at ≡ n → n < k → AreSame ms (m ∷ rest) n → AreSame ms rest k
same_after ms m rest n k here lt is = record { at = λ i le. (let not-i : eqb m.at i ≡ false = ne_eqb m.at i (λ e. omega (arith, e, here)) in is.at i (omega arith) ∙ rw not-i refl) }

above : (n m : ℕ) → n ≤ m → (m ≡ n → ⊥) → n < m
above n m le differ = elim (cases_lt n m) [ inl lt ↦ lt | inr ge ↦ absurd (differ (omega arith)) ]

-- what starts behind the first instruction starts in the others
starts_next : (line : Instr) (code : List Instr) (n j end : ℕ) (ms : List Mark) → n < j → AreRising j end ms → AreStarts n (line ∷ code) ms → AreStarts (n + word_count line) code ms
starts_next line code n j end [] lt rising starts = tt
starts_next line code n j end (m ∷ ms) lt rising starts =
    let le : j ≤ m.at = rising.0 in
    let not-n : eqb n m.at ≡ false = ne_eqb n m.at (λ e. omega (arith, e)) in (
      sym (rw not-n refl) ∙ starts.0,
      starts_next line code n (suc m.at) end ms (omega arith) rising.2 starts.1,
    )

rising_at : (code : List Instr) (n j end : ℕ) (ms : List Mark) → AreRising j end ms → AreStarts n code ms → AreRising n end ms
rising_at code n j end [] rising starts = tt
rising_at code n j end (m ∷ ms) rising starts = (start_low code n m.at starts.0, rising.1, rising.2)

-- a table of which each label stands at an instruction's start, rising from n on
record AreMarks (n end : ℕ) (code : List Instr) (ms : List Mark) : Type 0 where
  rising : AreRising n end ms
  starts : AreStarts n code ms

marks_behind : (line : Instr) (code : List Instr) (n j end : ℕ) (ms : List Mark) → n < j → AreRising j end ms → AreStarts n (line ∷ code) ms → AreMarks (n + word_count line) end code ms
marks_behind line code n j end ms lt rising starts =
    let more = starts_next line code n j end ms lt rising starts in
    record { rising = rising_at code (n + word_count line) j end ms rising more; starts = more }

labelled_by : (b : Bool) (ms : List Mark) (n end : ℕ) (m : Mark) (rest : List Mark) (line : Instr) (code : List Instr) → nat_eq m.at n ≡ b → line.label ≡ label_there ms n → AreSame ms (m ∷ rest) n
    → ((cur : List Mark) → AreSame ms cur (n + word_count line) → AreMarks (n + word_count line) end code cur → marks_from (n + word_count line) code ≡ cur)
    → AreMarks n end (line ∷ code) (m ∷ rest) → with_mark n line.label (marks_from (n + word_count line) code) ≡ m ∷ rest
labelled_by true ms n end m rest line code e label is ih marks =
    let here : m.at ≡ n = eqb-true m.at n e in
    let has : line.label ≡ Some m.name = label ∙ is.at n (omega arith) ∙ rw e refl in
    let more = marks_behind line code n (suc m.at) end rest (omega arith) marks.rising.2 marks.starts.1 in
    ap (λ (o : Option (List ℕ)). with_mark n o (marks_from (n + word_count line) code)) has
    ∙ ap (λ (k : List Mark). (let r : Mark = record { name = m.name; at = n } in r) ∷ k) (ih rest (same_after ms m rest n (n + word_count line) here (omega arith) is) more)
    ∙ ap (λ (k : ℕ). (let r : Mark = record { name = m.name; at = k } in r) ∷ rest) (sym here)
labelled_by false ms n end m rest line code e label is ih marks =
    let past : n < m.at = above n m.at marks.rising.0 (eqb-false m.at n e) in
    let none : label_there rest n ≡ None = none_below rest (suc m.at) end n marks.rising.2 (omega arith) in
    let has : line.label ≡ None = label ∙ is.at n (omega arith) ∙ rw e none in
    let from : AreRising m.at end (m ∷ rest) = ((omega arith), marks.rising.1, marks.rising.2) in
    let more = marks_behind line code n m.at end (m ∷ rest) past from marks.starts in
    ap (λ (o : Option (List ℕ)). with_mark n o (marks_from (n + word_count line) code)) has ∙ ih (m ∷ rest) (same_next ms (m ∷ rest) n (n + word_count line) (omega arith) is) more

no_start : (n : ℕ) (m : Mark) → starts_from n [] m.at ≡ true → ⊥
no_start n m e = cc

labelled_so : (ms : List Mark) (code : List Instr) (n end : ℕ) (cur : List Mark) → AreLabelled ms n code → AreSame ms cur n → AreMarks n end code cur → marks_from n code ≡ cur
labelled_so ms [] n end [] are is marks = refl
labelled_so ms [] n end (m ∷ rest) are is marks = absurd (no_start n m marks.starts.0)
labelled_so ms (line ∷ code) n end [] are is marks =
    let has : line.label ≡ None = are.0 ∙ is.at n (omega arith) in
    ap (λ (o : Option (List ℕ)). with_mark n o (marks_from (n + word_count line) code)) has
    ∙ labelled_so ms code (n + word_count line) end [] are.1 (same_next ms [] n (n + word_count line) (omega arith) is) (record { rising = tt; starts = tt })
labelled_so ms (line ∷ code) n end (m ∷ rest) are is marks =
    labelled_by (nat_eq m.at n) ms n end m rest line code refl are.0 is (λ cur s r. labelled_so ms code (n + word_count line) end cur are.1 s r) marks

-- the instructions that a rising table labels at their starts have that table
pub table_again : (ms : List Mark) (code : List Instr) (end : ℕ) → AreLabelled ms 0 code → AreRising 0 end ms → AreStarts 0 code ms → marks_from 0 code ≡ ms
table_again ms code end are rising starts = labelled_so ms code 0 end ms are (record { at = λ k le. refl }) (record { rising = rising; starts = starts })

-- ---- the table of a program

from_lower : (j n end : ℕ) (ms : List Mark) → n ≤ j → AreRising j end ms → AreRising n end ms
from_lower j n end [] le rising = tt
from_lower j n end (m ∷ ms) le rising = ((let ge = rising.0 in omega arith), rising.1, rising.2)

rising_by : (o : Option (List ℕ)) (n j end : ℕ) (ms : List Mark) → n < j → n < end → AreRising j end ms → AreRising n end (with_mark n o ms)
rising_by None n j end ms below lt rising = from_lower j n end ms (omega arith) rising
rising_by (Some name) n j end ms below lt rising = ((omega arith), lt, from_lower j (suc n) end ms (omega arith) rising)

-- the table of a program rises
pub table_rises : (code : List Instr) (n : ℕ) → AreRising n (n + words_in code) (marks_from n code)
table_rises [] n = tt
table_rises (line ∷ code) n =
    let s : n + word_count line + words_in code ≡ n + (word_count line + words_in code) = omega arith in
    rising_by line.label n (n + word_count line) (n + (word_count line + words_in code)) (marks_from (n + word_count line) code) (omega arith) (omega arith)
    (subst (λ (k : ℕ). AreRising (n + word_count line) k (marks_from (n + word_count line) code)) s (table_rises code (n + word_count line)))

starts_later : (line : Instr) (code : List Instr) (n : ℕ) (ms : List Mark) → AreStarts (n + word_count line) code ms → AreStarts n (line ∷ code) ms
starts_later line code n [] starts = tt
starts_later line code n (m ∷ ms) starts = (or_right (eqb n m.at) (starts_from (n + word_count line) code m.at) starts.0, starts_later line code n ms starts.1)

starts_by : (o : Option (List ℕ)) (line : Instr) (code : List Instr) (n : ℕ) (ms : List Mark) → AreStarts (n + word_count line) code ms → AreStarts n (line ∷ code) (with_mark n o ms)
starts_by None line code n ms starts = starts_later line code n ms starts
starts_by (Some name) line code n ms starts = (or_left (eqb n n) (starts_from (n + word_count line) code n) (eq-eqb n n refl), starts_later line code n ms starts)

-- its labels stand where instructions start
pub table_starts : (code : List Instr) (n : ℕ) → AreStarts n code (marks_from n code)
table_starts [] n = tt
table_starts (line ∷ code) n = starts_by line.label line code n (marks_from (n + word_count line) code) (table_starts code (n + word_count line))

here_by : (o : Option (List ℕ)) (n : ℕ) (rest : List Mark) → label_there rest n ≡ None → label_there (with_mark n o rest) n ≡ o
here_by None n rest none = none
here_by (Some name) n rest none = rw (eq-eqb n n refl) refl

further_by : (o : Option (List ℕ)) (n : ℕ) (rest : List Mark) (k : ℕ) → n < k → label_there (with_mark n o rest) k ≡ label_there rest k
further_by None n rest k lt = refl
further_by (Some name) n rest k lt = let differ : eqb n k ≡ false = ne_eqb n k (λ e. omega (arith, e)) in rw differ refl

labels_by : (ms : List Mark) (code : List Instr) (n : ℕ) → AreSame ms (marks_from n code) n → AreLabelled ms n code
labels_by ms [] n is = tt
labels_by ms (line ∷ code) n is =
    let next : ℕ = n + word_count line in
    let rest = marks_from (n + word_count line) code in
    let none : label_there rest n ≡ None = none_below rest (n + word_count line) (n + word_count line + words_in code) n (table_rises code (n + word_count line)) (omega arith) in (
      sym (is.at n (omega arith) ∙ here_by line.label n rest none),
      labels_by ms code (n + word_count line) (record { at = λ k le. is.at k (omega arith) ∙ further_by line.label n rest k (omega arith) }),
    )

-- the table of a program labels its instructions
pub table_labels : (code : List Instr) → AreLabelled (marks_from 0 code) 0 code
table_labels code = labels_by (marks_from 0 code) code 0 (record { at = λ k le. refl })

-- ---- labels found by their name

same_is : (a b : List ℕ) → same_name a b ≡ true → a ≡ b
same_is a b e = (bytes_eq-Decides a b).0 e

-- an instruction has the label that stands at its address
pub label_of_line : (ms : List Mark) (code : List Instr) (n k : ℕ) (line : Instr) → AreLabelled ms n code → slice_get code k ≡ Some line → line.label ≡ label_there ms (n + address_of code k)
label_of_line ms [] n k line are e = absurd cc
label_of_line ms (l ∷ code) n zero line are e = let is : l ≡ line = cc in sym (ap (λ (i : Instr). i.label) is) ∙ are.0 ∙ ap (label_there ms) (let z : n ≡ n + 0 = omega arith in z)
label_of_line ms (l ∷ code) n (suc k) line are e =
    label_of_line ms code (n + word_count l) k line are.1 e ∙ ap (label_there ms) (let z : n + word_count l + address_of code k ≡ n + (word_count l + address_of code k) = omega arith in z)

has_by : (name : List ℕ) (o : Option (List ℕ)) (line : Instr) → line.label ≡ o → has_label name line ≡ true → o ≡ Some name
has_by name None line e h = let no : false ≡ true = sym (ap (λ (o : Option (List ℕ)). has_label name (record line { label = o })) e) ∙ h in absurd cc
has_by name (Some label) line e h = ap (λ (x : List ℕ). Some x) (same_is label name (sym (ap (λ (o : Option (List ℕ)). has_label name (record line { label = o })) e) ∙ h))

-- the label of a name stands at the address of the instruction where the name is found
pub label_in : (code : List Instr) (ms : List Mark) (name : List ℕ) (k : ℕ) → AreLabelled ms 0 code → position (has_label name) code ≡ Some k → label_there ms (address_of code k) ≡ Some name
label_in [] ms name k are e = absurd cc
label_in (l ∷ code) ms name k are e =
    let r = position-Some (has_label name) (l ∷ code) k l e in
    let line = get_or (l ∷ code) k l in
    let there : slice_get (l ∷ code) k ≡ Some line = slice_get-get_or (l ∷ code) k l r.0 in
    let is : line.label ≡ label_there ms (address_of (l ∷ code) k) = label_of_line ms (l ∷ code) 0 k line are there ∙ ap (label_there ms) (let z : 0 + address_of (l ∷ code) k ≡ address_of (l ∷ code) k = omega arith in z) in
    sym is ∙ has_by name line.label line refl r.1
