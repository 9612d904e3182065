-- A unit has fewer lines than its text has bytes.
use Rattle.std.proofs.Common.{◌≡◌, ℕ, zero, suc, ◌+◌, ◌-◌, ◌^◌, ◌<◌, ◌≤◌, Bool, List, [], ◌∷◌, ◌++◌, length, take, Option, Some, None, sym, subst, arith}
use Rattle.std.specs.List.{AllByRecursion, flat_map}
use Rattle.il_model.specs.declared.dialect.Dialect.{Dialect}
use Rattle.il_model.specs.declared.dialect.Dialect.TheVariants as dialects
use Rattle.il_reader.specs.declared.lexeme.Class.{Class}
use Rattle.il_reader.specs.declared.lexeme.Class.TheVariants as classes
use Rattle.il_reader.specs.Tokens.{Token, put, piece_of, tokens_behind, tokens_of}
use Rattle.il_reader.specs.Front.{at_end}
use Rattle.il_reader.specs.Grammar.{is_line_stop, begins_program}
use Rattle.il_reader.specs.Spelling.{breaks, ahead, word, going, listed}
use Rattle.il_reader.proofs.Laws.{count, count-append, count-length, Spell-count}
use Rattle.il_units.specs.Units.{UnitText, LineText, StepText, Operation, Function}
use Rattle.il_units.specs.Spelling.{spelled_line, spelled_step, spelled_content, spelled_section, spelled_result, spelled_unit, spelled_units, ends_unit, ends_sections, end_word, SaysUnits}

abbrev pub HasFewLines : UnitText → Type 0
HasFewLines u = length u.lines < 2 ^ 64

-- ---- tokens

put_length : (o : Option Class) (text : List ℕ) (left : ℕ) (ts : List Token) (n : ℕ) → length ts ≤ n → length (put o text left ts) ≤ suc n
put_length None text left ts n le = omega (arith, le)
put_length (Some classes.End) text left ts n le = omega arith
put_length (Some (classes.Broken f)) text left ts n le = omega arith
put_length (Some (classes.Sign s)) text left ts n le = omega (arith, le)

tokens_length : (dialect : Dialect) (k : ℕ) (bytes : List ℕ) → length (tokens_behind dialect k bytes) ≤ suc (length bytes)
unfolding tokens_behind
tokens_length dialect k [] = omega arith
tokens_length dialect (suc k) (b ∷ bs) = let le = tokens_length dialect k bs in omega (arith, le)
tokens_length dialect zero (b ∷ bs) =
    let p = piece_of dialect (b ∷ bs) in
    put_length p.class (take p.len (b ∷ bs)) (length (b ∷ bs)) (tokens_behind dialect (p.len - 1) bs) (suc (length bs)) (tokens_length dialect (p.len - 1) bs)

-- ---- lines

step_counts : (s : StepText) → 0 < count (spelled_step dialects.Extended s)
step_counts (Operation o) = omega arith
step_counts (Function t xs) = omega arith

content_counts : (label : Option Token) (step : Option StepText) → 0 < count (spelled_content dialects.Extended label step)
content_counts (Some t) step = omega arith
content_counts None (Some s) = step_counts s
content_counts None None = omega arith

line_counts : (stops : List Token → Bool) (l : LineText) → 0 < count (going stops (spelled_line dialects.Extended) l)
line_counts stops l =
    let e : count (spelled_content dialects.Extended l.label l.step ++ ahead is_line_stop ∷ []) ≡ count (spelled_content dialects.Extended l.label l.step) + 0 = count-append (spelled_content dialects.Extended l.label l.step) (ahead is_line_stop ∷ []) in
    let some = content_counts l.label l.step in
    omega (arith, e, some)

unit_counts : (u : UnitText) → length u.lines ≤ count (spelled_unit dialects.Extended u)
unit_counts u =
    let end = breaks ∷ word (end_word u.kind) ∷ [] in
    let lines = flat_map (going (ends_unit u.kind) (spelled_line dialects.Extended)) u.lines in
    let body = listed (ends_unit u.kind) (spelled_line dialects.Extended) u.lines in
    let sections = listed ends_sections (spelled_section dialects.Extended) u.sections in
    let result = spelled_result u.kind u.result in
    let a : length u.lines ≤ count body = count-length (going (ends_unit u.kind) (spelled_line dialects.Extended)) (ahead (ends_unit u.kind) ∷ []) (line_counts (ends_unit u.kind)) u.lines in
    let b : count (body ++ end) ≡ count body + count end = count-append body end in
    let c : count (sections ++ (body ++ end)) ≡ count sections + count (body ++ end) = count-append sections (body ++ end) in
    let d : count (result ++ (sections ++ (body ++ end))) ≡ count result + count (sections ++ (body ++ end)) = count-append result (sections ++ (body ++ end)) in
    omega (arith, a, b, c, d)

above_few : (n : ℕ) (us : List UnitText) → count (flat_map (going begins_program (spelled_unit dialects.Extended)) us) ≤ n → AllByRecursion (λ (u : UnitText). length u.lines ≤ n) us
above_few n [] le = tt
above_few n (u ∷ us) le =
    let one = going begins_program (spelled_unit dialects.Extended) u in
    let more = flat_map (going begins_program (spelled_unit dialects.Extended)) us in
    let e : count (one ++ more) ≡ count one + count more = count-append one more in
    let here = unit_counts u in
    let whole : count (one ++ more) ≤ n = le in
    (omega (arith, e, here, whole), above_few n us (omega (arith, e, whole)))

and_last : (n : ℕ) (us : List UnitText) (u : UnitText) → AllByRecursion (λ (x : UnitText). length x.lines ≤ n) us → length u.lines ≤ n → AllByRecursion (λ (x : UnitText). length x.lines ≤ n) (us ++ u ∷ [])
and_last n [] u all le = (le, tt)
and_last n (v ∷ us) u all le = (all.0, and_last n us u all.1 le)

all_few : (n : ℕ) (us : List UnitText) → n < 2 ^ 64 → AllByRecursion (λ (u : UnitText). length u.lines ≤ n) us → AllByRecursion HasFewLines us
all_few n [] lt all = tt
all_few n (u ∷ us) lt all = let le = all.0 in (omega (arith, le, lt), all_few n us lt all.1)

pub few_lines : (text : List ℕ) (us : List UnitText) → SaysUnits text us → AllByRecursion HasFewLines us
few_lines text us says =
    let n = length (tokens_of dialects.Extended text) in
    let short : length text ≤ 8388608 = says.short in
    let tokens : n ≤ suc (length text) = tokens_length dialects.Extended 0 text in
    let all = Spell-count (spelled_units dialects.Extended says.above says.program) (tokens_of dialects.Extended text) says.rest says.spelled in
    let above = flat_map (going begins_program (spelled_unit dialects.Extended)) says.above in
    let list = listed begins_program (spelled_unit dialects.Extended) says.above in
    let tail = breaks ∷ ahead at_end ∷ [] in
    let program = spelled_unit dialects.Extended says.program in
    let a : count list ≡ count above + 0 = count-append above (ahead begins_program ∷ []) in
    let b : count (list ++ (program ++ tail)) ≡ count list + count (program ++ tail) = count-append list (program ++ tail) in
    let c : count (program ++ tail) ≡ count program + 0 = count-append program tail in
    let one = unit_counts says.program in
    let few = and_last n says.above says.program (above_few n says.above (omega (arith, all, a, b, c))) (omega (arith, all, a, b, c, one)) in
    subst (λ (xs : List UnitText). AllByRecursion HasFewLines xs) (sym says.all) (all_few n (says.above ++ says.program ∷ []) (omega (arith, tokens, short)) few)
