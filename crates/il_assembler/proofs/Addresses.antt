-- The addresses of instructions, and the labels that stand there.
use Rattle.std.proofs.Common.{◌≡◌, ℕ, zero, suc, ◌+◌, ◌<◌, List, [], ◌∷◌, ◌++◌, length, drop, Option, Some, None, refl, sym, ap, ◌∙◌, arith, get_or}
use Rattle.std.specs.Prelude.{slice_get}
use Rattle.std.specs.List.{flat_map, AllByRecursion}
use Rattle.std.specs.Option.{option_map, option_and_then}
use Rattle.std.proofs.lemmas.List.{append_assoc, drop_more}
use Rattle.std.proofs.lemmas.Grind.{flat_map-append}
use Rattle.std.proofs.lemmas.Option.{slice_get_within, slice_get_read, get_or_from_slice_get}
use Rattle.il_model.specs.declared.program.Instr.{Instr}
use Rattle.il_model.specs.Program.{Program}
use Rattle.il_model.specs.Resolved.{has_label, target_of}
use Rattle.il_model.specs.Marks.{Mark, with_mark, marks_from, word_count, words_in, address_of}
use Rattle.il_model.specs.Image.{mark_bytes}
use Rattle.il_model.proofs.TypedLines.{position_at}
use Rattle.il_assembler.specs.Walk.{HasFewArguments, addresses_from}

address_from : (code : List Instr) (m n : ℕ) → n < length code → slice_get (addresses_from m code) n ≡ Some (m + address_of code n)
address_from [] m n lt = absurd (omega arith)
address_from (line ∷ code) m zero lt = let is : m ≡ m + 0 = omega arith in ap (λ (k : ℕ). Some k) is
address_from (line ∷ code) m (suc n) lt =
    let is : (m + word_count line) + address_of code n ≡ m + (word_count line + address_of code n) = omega arith in
    address_from code (m + word_count line) n (omega arith) ∙ ap (λ (k : ℕ). Some k) is

stands_by : (Q : Program) (name : List ℕ) (o : Option ℕ) → target_of Q name ≡ o → option_and_then (slice_get (addresses_from 0 Q.code)) o ≡ option_map (address_of Q.code) o
stands_by Q name None e = refl
stands_by Q name (Some n) e =
    let there = position_at (has_label name) Q.code n e in
    let is : 0 + address_of Q.code n ≡ address_of Q.code n = omega arith in
    address_from Q.code 0 n (slice_get_within Q.code n there.0 there.1) ∙ ap (λ (k : ℕ). Some k) is

-- a label stands at the address of its instruction
pub target_stands : (Q : Program) (name : List ℕ) → option_and_then (slice_get (addresses_from 0 Q.code)) (target_of Q name) ≡ option_map (address_of Q.code) (target_of Q name)
target_stands Q name = stands_by Q name (target_of Q name) refl

-- ---- going over the instructions

few_at : (code : List Instr) (n : ℕ) (line : Instr) → AllByRecursion HasFewArguments code → slice_get code n ≡ Some line → HasFewArguments line
few_at [] n line all e = absurd cc
few_at (x ∷ code) zero line all e = let is : x ≡ line = cc in let few = all.0 in omega (arith, ap word_count is)
few_at (x ∷ code) (suc n) line all e = few_at code n line all.1 e

pub few_read : (code : List Instr) (n : ℕ) (line : Instr) → AllByRecursion HasFewArguments code → n < length code → line ≡ get_or code n line → HasFewArguments line
few_read code n line all lt here = few_at code n line all (slice_get_read code (length code) n line refl lt here)

pub here_drop : (code : List Instr) (n : ℕ) (line : Instr) → n < length code → line ≡ get_or code n line → drop n code ≡ line ∷ drop (n + 1) code
here_drop code n line lt here = drop_more code n line lt ∙ ap (λ (x : Instr). x ∷ drop (n + 1) code) (sym here)

pub words_gone : (code : List Instr) (n : ℕ) (line : Instr) (at all : ℕ) → n < length code → line ≡ get_or code n line → at + words_in (drop n code) ≡ all → at + word_count line + words_in (drop (n + 1) code) ≡ all
words_gone code n line at all lt here before = omega (arith, ap words_in (here_drop code n line lt here), before)

pub addresses_gone : (code : List Instr) (n : ℕ) (line : Instr) (at : ℕ) (found next all : List ℕ) → n < length code → line ≡ get_or code n line → next ≡ found ++ at ∷ []
    → found ++ addresses_from at (drop n code) ≡ all → next ++ addresses_from (at + word_count line) (drop (n + 1) code) ≡ all
addresses_gone code n line at found next all lt here e before =
    let rest = addresses_from (at + word_count line) (drop (n + 1) code) in
    ap (λ (xs : List ℕ). xs ++ rest) e
    ∙ append_assoc found (at ∷ []) rest
    ∙ ap (λ (xs : List Instr). found ++ addresses_from at xs) (sym (here_drop code n line lt here))
    ∙ before

-- ---- labels

marks_more : (at : ℕ) (label : Option (List ℕ)) (ms : List Mark) → flat_map mark_bytes (with_mark at label ms) ≡ flat_map mark_bytes (with_mark at label []) ++ flat_map mark_bytes ms
marks_more at None ms = refl
marks_more at (Some name) ms = flat_map-append mark_bytes (record { name = name; at = at } ∷ []) ms

address_first : (code : List Instr) → address_of code 0 ≡ 0
address_first [] = refl
address_first (line ∷ code) = refl

address_after : (code : List Instr) (n : ℕ) (line : Instr) → slice_get code n ≡ Some line → address_of code (n + 1) ≡ address_of code n + word_count line
address_after [] n line e = absurd cc
address_after (x ∷ code) zero line e = let is : x ≡ line = cc in omega (arith, ap word_count is, address_first code)
address_after (x ∷ code) (suc n) line e =
    let is : suc n + 1 ≡ suc (n + 1) = omega arith in
    let more = address_after code n line e in
    let sum : word_count x + address_of code (n + 1) ≡ word_count x + address_of code n + word_count line = omega (arith, more) in
    ap (address_of (x ∷ code)) is ∙ sum

-- the label of an instruction, and those of the instructions behind it
pub label_gone : (code : List Instr) (addresses : List ℕ) (n : ℕ) (line : Instr) (d : ℕ) (out next all : List ℕ) → n < length code → addresses ≡ addresses_from 0 code → line ≡ get_or code n line
    → next ≡ out ++ flat_map mark_bytes (with_mark (get_or addresses n d) line.label [])
    → out ++ flat_map mark_bytes (marks_from (address_of code n) (drop n code)) ≡ all → next ++ flat_map mark_bytes (marks_from (address_of code (n + 1)) (drop (n + 1) code)) ≡ all
label_gone code addresses n line d out next all lt is here e before =
    let at = address_of code n in
    let there : slice_get addresses n ≡ Some at = ap (λ (xs : List ℕ). slice_get xs n) is ∙ address_from code 0 n lt ∙ (let z : 0 + at ≡ at = omega arith in ap (λ (k : ℕ). Some k) z) in
    let own = get_or_from_slice_get addresses n at d there in
    let after : address_of code (n + 1) ≡ at + word_count line = address_after code n line (slice_get_read code (length code) n line refl lt here) in
    let rest = marks_from (at + word_count line) (drop (n + 1) code) in
    ap (λ (k : ℕ). next ++ flat_map mark_bytes (marks_from k (drop (n + 1) code))) after
    ∙ ap (λ (xs : List ℕ). xs ++ flat_map mark_bytes rest) e
    ∙ ap (λ (k : ℕ). out ++ flat_map mark_bytes (with_mark k line.label []) ++ flat_map mark_bytes rest) own
    ∙ append_assoc out (flat_map mark_bytes (with_mark at line.label [])) (flat_map mark_bytes rest)
    ∙ ap (λ (xs : List ℕ). out ++ xs) (sym (marks_more at line.label rest))
    ∙ ap (λ (xs : List Instr). out ++ flat_map mark_bytes (marks_from at xs)) (sym (here_drop code n line lt here))
    ∙ before

pub first_address : (code : List Instr) → marks_from (address_of code 0) code ≡ marks_from 0 code
first_address code = ap (λ (k : ℕ). marks_from k code) (address_first code)

pub addresses_count : (code : List Instr) (n : ℕ) → length (addresses_from n code) ≡ length code
addresses_count [] n = refl
addresses_count (line ∷ code) n = ap suc (addresses_count code (n + word_count line))
