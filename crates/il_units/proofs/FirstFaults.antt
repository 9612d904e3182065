-- Where the fault of each part of the grammar of units stands.
use Rattle.std.proofs.Common.{◌≡◌, ℕ, zero, suc, length, ◌<◌, ◌≤◌, Bool, true, false, not, cond, List, [], ◌∷◌, ◌++◌, Option, Some, None, Result, Ok, Err, refl, sym, ap, ◌∙◌, arith, append_assoc, codes, ◌&&◌, ◌||◌}
use Rattle.std.specs.Prelude.{is_none}
use Rattle.std.specs.List.{AllByRecursion}
use Rattle.il_model.specs.declared.dialect.Dialect.{Dialect}
use Rattle.il_model.specs.declared.dialect.Dialect.TheVariants as dialects
use Rattle.il_model.specs.declared.words.Mnemonic.{Mnemonic}
use Rattle.il_model.specs.Words.{is_well_spelled, name_parts, look, mnemonic_of, extended_mnemonic_of}
use Rattle.il_values.specs.Spelled.{spells}
use Rattle.il_values.specs.Functions.{look_function, function_named}
use Rattle.il_model.specs.Dialects.{operator_in}
use Rattle.il_reader.specs.declared.fault.FaultAt.{FaultAt}
use Rattle.il_reader.specs.declared.lexeme.Sign.TheVariants as signs
use Rattle.il_reader.specs.declared.contents.Operator.{Operator}
use Rattle.il_reader.specs.declared.contents.Qualifier.{Qualifier}
use Rattle.il_reader.specs.Tokens.{Token, goes_on, tokens_of, tokens_behind, piece_of, solid_piece, word_piece, name_of, dotted_len}
use Rattle.il_reader.specs.Front.{is_class_of, is_end_class, no_token, is_sign, is_end, is_word_token, first, others, fault_at, skip_breaks}
use Rattle.il_reader.specs.Reading.{◌>>=◌, Reading, expect, keyword, pair, led, closed, choice, mapped, past, mark, stand, many}
use Rattle.il_reader.specs.Grammar.{OperandText, DeclarationText, is_line_stop, form_of, operator_of, operator_from, ends_block, begins_program}
use Rattle.il_reader.specs.Walk.{operand_at, operator_at, operation_at, behind_at, qualifier_at, declaration_at, declared_at, blocked, together, end_at}
use Rattle.il_reader.proofs.Programs.{and_left, sign_not}
use Rattle.il_reader.proofs.Written.{Makes, Written, sign_goes, written, token_of, comma_written, a_close, close_makes, a_colon, colon_makes, colon_written, a_break, break_makes, a_name, name_makes, name_written, program_makes, program_written, end_makes}
use Rattle.il_reader.proofs.Checks.{GoesOn, Check, good, bad, followed, FirstAt, Below, ReadsSome, Exact, here, farther, same_first, same_below, same_exact, fewer_below, fewer, taken_exact, chosen_by, choice_below, no_break, past_exact, mapped_same, mapped_exact, pair_exact, pair_same, led_exact, closed_exact, closed_same, choice_same, stand_same, either_exact, option_exact, stop_exact, stand_exact, Shrinks, unrolls, Blind, Listed, turn, list_blind, Stopped, list_some, list_exact}
use Rattle.il_reader.proofs.FirstFaults.{expect_exact, past_expect_exact, sign_exact, past_sign_exact, keyword_exact, past_keyword_exact, past_blind, operand_exact, no_comma, stops_line, Plainly, behind_exact, behind_plainly, by_operator, operation_same, operator_goes, operation_exact, LineEnd, plain_end, in_block_exact, past_end_exact}
use Rattle.il_units.specs.declared.contents.UnitKind.{UnitKind}
use Rattle.il_units.specs.declared.contents.UnitKind.TheVariants as units
use Rattle.il_units.specs.declared.contents.SectionKind.{SectionKind}
use Rattle.il_units.specs.declared.contents.SectionKind.TheVariants as sections
use Rattle.il_units.specs.Units.{SectionText, StepText, Operation, LineText, UnitText}
use Rattle.il_units.specs.Spelling.{is_function, before_function, ends_others, is_label, begins_section, ends_sections, ends_unit, unit_word, end_word}
use Rattle.il_units.specs.Walk.{function_name_at, other_at, others_at, a_function, step_at, optional_step_at, labelled, unlabelled, labelled_at, content_at, line_at, this_kind, local_at, output_kind_at, other_kind_at, kind_at, a_section, section_at, result_at, a_unit, behind_word_at, this_unit, block_or_program_at, solid_unit_at, unit_at, put_last, units_at}
use Rattle.il_units.proofs.Grammar.{other_shrinks, line_shrinks, section_shrinks, unit_shrinks}

-- a text of units is an extended text
abbrev pub ext : Dialect
ext = dialects.Extended

-- ---- words that are written

word_written : (w : List ℕ) → Makes ext signs.Name w → spells w w ≡ true → Written ext (is_word_token w)
word_written w makes same = record {
  sign = signs.Name;
  word = w;
  makes = makes;
  passes = λ more. same;
  solid = λ more. refl;
  goes = λ u is. sign_goes signs.Name u (and_left (is_sign signs.Name u) (spells w u.text) is);
}

var_makes : Makes ext signs.Name (codes "VAR")
unfolding tokens_behind piece_of solid_piece word_piece name_of name_parts dotted_len is_well_spelled
var_makes more = refl

var_written : Written ext (is_word_token (codes "VAR"))
unfolding spells
var_written = word_written (codes "VAR") var_makes refl

constant_makes : Makes ext signs.Name (codes "CONSTANT")
unfolding tokens_behind piece_of solid_piece word_piece name_of name_parts dotted_len is_well_spelled
constant_makes more = refl

constant_written : Written ext (is_word_token (codes "CONSTANT"))
unfolding spells
constant_written = word_written (codes "CONSTANT") constant_makes refl

input_makes : Makes ext signs.Name (codes "VAR_INPUT")
unfolding tokens_behind piece_of solid_piece word_piece name_of name_parts dotted_len is_well_spelled
input_makes more = refl

input_written : Written ext (is_word_token (codes "VAR_INPUT"))
unfolding spells
input_written = word_written (codes "VAR_INPUT") input_makes refl

output_makes : Makes ext signs.Name (codes "VAR_OUTPUT")
unfolding tokens_behind piece_of solid_piece word_piece name_of name_parts dotted_len is_well_spelled
output_makes more = refl

output_written : Written ext (is_word_token (codes "VAR_OUTPUT"))
unfolding spells
output_written = word_written (codes "VAR_OUTPUT") output_makes refl

in_out_makes : Makes ext signs.Name (codes "VAR_IN_OUT")
unfolding tokens_behind piece_of solid_piece word_piece name_of name_parts dotted_len is_well_spelled
in_out_makes more = refl

in_out_written : Written ext (is_word_token (codes "VAR_IN_OUT"))
unfolding spells
in_out_written = word_written (codes "VAR_IN_OUT") in_out_makes refl

unit_makes : (kind : UnitKind) → Makes ext signs.Name (unit_word kind)
unfolding tokens_behind piece_of solid_piece word_piece name_of name_parts dotted_len is_well_spelled
unit_makes units.Function more = refl
unit_makes units.FunctionBlock more = refl
unit_makes units.Program more = refl

unit_spelled : (kind : UnitKind) → spells (unit_word kind) (unit_word kind) ≡ true
unfolding spells
unit_spelled units.Function = refl
unit_spelled units.FunctionBlock = refl
unit_spelled units.Program = refl

unit_written : (kind : UnitKind) → Written ext (is_word_token (unit_word kind))
unit_written kind = word_written (unit_word kind) (unit_makes kind) (unit_spelled kind)

ends_made : (kind : UnitKind) → Makes ext signs.Name (end_word kind)
unfolding tokens_behind piece_of solid_piece word_piece name_of name_parts dotted_len is_well_spelled
ends_made units.Function more = refl
ends_made units.FunctionBlock more = refl
ends_made units.Program more = refl

end_spelled : (kind : UnitKind) → spells (end_word kind) (end_word kind) ≡ true
unfolding spells
end_spelled units.Function = refl
end_spelled units.FunctionBlock = refl
end_spelled units.Program = refl

end_written : (kind : UnitKind) → Written ext (is_word_token (end_word kind))
end_written kind = word_written (end_word kind) (ends_made kind) (end_spelled kind)

-- A is no operator, and so a function's name
function_passes : (more : List ℕ) → is_function ext (token_of signs.Name (codes "A") more) ≡ true
unfolding mnemonic_of extended_mnemonic_of look look_function function_named spells
function_passes more = refl

function_goes : (t : Token) → is_function ext t ≡ true → goes_on t.class ≡ true
function_goes t is = sign_goes signs.Name t (and_left (is_sign signs.Name t) _ is)

function_written : Written ext (is_function ext)
function_written = record { sign = signs.Name; word = codes "A"; makes = name_makes ext; passes = function_passes; solid = λ more. refl; goes = function_goes }

-- ---- a list on one line

true_is_false : true ≡ false → ⊥
true_is_false e = absurd cc

-- the end of a line is no comma
stops_no_comma : (t : Token) → stops_line t ≡ true → no_comma t ≡ true
stops_no_comma t is = by_test (is_sign signs.Comma t) refl
  where
    by_test : (b : Bool) → is_sign signs.Comma t ≡ b → not b ≡ true
    by_test false e = refl
    by_test true e = absurd (true_is_false (sym is ∙ sign_not (λ c. is_class_of signs.Break c || is_end_class c) signs.Comma t e refl))

-- as many as there are before what stands next stops them
in_line_exact : {X : Type 0} (q : Token → Bool) (stops : List Token → Bool) (item : Reading X) (n : ℕ) (k : Check)
    → ((ts : List Token) → stops ts ≡ q (first ts)) → Shrinks item
    → (text : List ℕ) → q (first (tokens_of ext text)) ≡ true → k (tokens_of ext text) ≡ good → Below ext n k
    → ((p : ℕ) → Exact ext p (followed (many stops item) k) → Below ext (suc p) (followed item (followed (many stops item) k)))
    → Exact ext n (followed (many stops item) k)
in_line_exact {X} q stops item n k stop less text stands reads b step = record { placed = climb n (omega arith); some = some }
  where
    more : Check
    more = followed (many stops item) k

    same : (ts : List Token) → more ts ≡ turn q item k more ts
    same ts = unrolls stops item less k ts ∙ ap (λ (c : Bool). cond c (k ts) (followed item more ts)) (stop ts)

    turned : turn q item k more (tokens_of ext text) ≡ good
    turned = rw stands reads

    some : ReadsSome ext more
    some = (text, same (tokens_of ext text) ∙ turned)

    climb : (p : ℕ) → p ≤ n → Below ext p more
    climb zero le = λ ts f lt h. absurd (omega (arith, lt))
    climb (suc p) le =
        same_below ext more (turn q item k more) (suc p) same
        (choice_below ext q k (followed item more) (suc p) (fewer_below ext k (suc p) n le b) (step p (record { placed = climb p (omega (arith, le)); some = some })) (text, turned))

-- ---- functions

other_exact : (n : ℕ) (k : Check) → Exact ext n k → Exact ext (suc (suc n)) (followed other_at k)
unfolding other_at
other_exact n k e = led_exact ext (mark (expect signs.Comma)) operand_at _ k (sign_exact ext signs.Comma (comma_written ext) _ _ (operand_exact ext n k e))

more_others_exact : (n : ℕ) (m : Check) → Exact ext n m → LineEnd ext m → Exact ext n (followed (many ends_others other_at) m)
unfolding ends_others
more_others_exact n m e s = in_line_exact no_comma ends_others other_at n m (λ ts. refl) other_shrinks s.text (stops_no_comma (first (tokens_of ext s.text)) s.stop) s.reads e.placed
    (λ p x. fewer_below ext (followed other_at more) (suc p) (suc (suc p)) (omega arith) (other_exact p more x).placed)
  where
    more : Check
    more = followed (many ends_others other_at) m

abbrev some_others : Reading (List OperandText)
some_others = mapped together (pair operand_at (many ends_others other_at))

others_exact : (n : ℕ) (m : Check) → Exact ext n m → LineEnd ext m → Exact ext n (followed others_at m)
unfolding others_at
others_exact n m e s = stop_exact ext stops_line [] some_others n m e.placed (fewer ext (followed some_others m) n on).placed s.text (rw s.stop s.reads)
  where
    on : Exact ext (suc n) (followed some_others m)
    on = mapped_exact ext together (pair operand_at (many ends_others other_at)) _ m (pair_exact ext operand_at (many ends_others other_at) _ m (operand_exact ext n _ (more_others_exact n m e s)))

abbrev named_function : Reading StepText
named_function = mapped a_function (pair (function_name_at ext) others_at)

function_exact : (n : ℕ) (m : Check) → Exact ext n m → LineEnd ext m → Exact ext (suc n) (followed named_function m)
unfolding function_name_at
function_exact n m e s = mapped_exact ext a_function (pair (function_name_at ext) others_at) _ m (pair_exact ext (function_name_at ext) others_at _ m
    (taken_exact ext (is_function ext) (λ t. t) function_written refl n (followed others_at m) (others_exact n m e s)))

-- ---- lines

step_exact : (n : ℕ) (m : Check) → Exact ext n m → LineEnd ext m → Exact ext (suc n) (followed (step_at ext) m)
unfolding step_at operation_at operator_at operator_of behind_at
step_exact n m e s = either_exact ext (is_function ext) named_function (mapped Operation (operation_at ext)) (suc n) m
    (function_exact n m e s).placed
    (mapped_exact ext Operation (operation_at ext) _ m (operation_exact ext n m e)).placed
    (a_close e.some.0) (rw (close_makes ext e.some.0) e.some.1)

optional_step_exact : (n : ℕ) (m : Check) → Exact ext n m → LineEnd ext m → Exact ext n (followed (optional_step_at ext) m)
unfolding optional_step_at
optional_step_exact n m e s = stop_exact ext stops_line None (mapped Some (step_at ext)) n m e.placed
    (fewer ext (followed (mapped Some (step_at ext)) m) n (mapped_exact ext Some (step_at ext) _ m (step_exact n m e s))).placed
    s.text (rw s.stop s.reads)

-- a name before a colon
abbrev label_test : Token → Token → Bool
label_test t u = is_sign signs.Name t && is_sign signs.Colon u

not_both : (a b : Bool) → b ≡ false → (a && b) ≡ false
not_both true b e = e
not_both false b e = refl

-- what is neither a function's name nor an operator is no name
no_name : (t : Token) → operator_of ext t ≡ None → is_function ext t ≡ false → is_sign signs.Name t ≡ false
unfolding operator_of
no_name t none no_function = by_name (is_sign signs.Name t) refl
  where
    by_word : (o : Option Mnemonic) → operator_from t.left o ≡ None → is_none o ≡ false → ⊥
    by_word None n f = true_is_false f
    by_word (Some x) n f = absurd cc

    by_name : (b : Bool) → is_sign signs.Name t ≡ b → is_sign signs.Name t ≡ false
    by_name false is = is
    by_name true is = absurd (by_word (operator_in ext t.text) (rw is at none) (rw is at no_function))

abbrev behind_label : Check → Check
behind_label m = followed (led (mark (expect signs.Colon)) (optional_step_at ext)) m

-- what is checked of a step by its first token
abbrev step_body : Check → Check
step_body m ts = cond (is_function ext (first ts)) (followed (function_name_at ext) (followed others_at m) ts) (by_operator m (operator_of ext (first ts)) ts)

-- and of a line by its first two
abbrev line_body : Check → Check
line_body m ts = cond (is_label ts) (followed (expect signs.Name) (behind_label m) ts) (step_body m ts)

step_same : (m : Check) (ts : List Token) → followed (step_at ext) m ts ≡ step_body m ts
unfolding step_at
step_same m ts =
    choice_same (before_function ext) named_function (mapped Operation (operation_at ext)) m ts
    ∙ ap (λ (z : Result (Unit {0}) FaultAt). cond (before_function ext ts) z (followed (mapped Operation (operation_at ext)) m ts)) (mapped_same a_function (pair (function_name_at ext) others_at) m ts ∙ pair_same (function_name_at ext) others_at m ts)
    ∙ ap (λ (z : Result (Unit {0}) FaultAt). cond (before_function ext ts) (followed (function_name_at ext) (followed others_at m) ts) z) (mapped_same Operation (operation_at ext) m ts ∙ operation_same ext m ts)

content_same : (m : Check) (ts : List Token) → followed (content_at ext) m ts ≡ line_body m ts
unfolding content_at labelled_at
content_same m ts =
    choice_same is_label (labelled_at ext) (mapped unlabelled (step_at ext)) m ts
    ∙ ap (λ (z : Result (Unit {0}) FaultAt). cond (is_label ts) z (followed (mapped unlabelled (step_at ext)) m ts)) (mapped_same labelled (pair (expect signs.Name) (led (mark (expect signs.Colon)) (optional_step_at ext))) m ts ∙ pair_same (expect signs.Name) (led (mark (expect signs.Colon)) (optional_step_at ext)) m ts)
    ∙ ap (λ (z : Result (Unit {0}) FaultAt). cond (is_label ts) (followed (expect signs.Name) (behind_label m) ts) z) (mapped_same unlabelled (step_at ext) m ts ∙ step_same m ts)

content_exact : (n : ℕ) (m : Check) → Exact ext n m → LineEnd ext m → Exact ext (suc n) (followed (content_at ext) m)
unfolding operator_of behind_at expect function_name_at others_at optional_step_at
content_exact n m e s = same_exact ext (followed (content_at ext) m) body (suc n) (content_same m) (record { placed = placed; some = some })
  where
    body : Check
    body = line_body m

    some : ReadsSome ext body
    some = (a_close e.some.0, rw (close_makes ext e.some.0) e.some.1)

    colon : behind_label m (token_of signs.Colon (codes ":") s.text ∷ tokens_of ext s.text) ≡ good
    colon = rw s.stop s.reads

    behind_name : (t : Token) (ts : List Token) (f : FaultAt) → length ts < n → label_test t (first ts) ≡ true → is_sign signs.Name t ≡ true → behind_label m ts ≡ bad f → FirstAt ext body (t ∷ ts) f
    behind_name t ts f lt is name h =
        let after : Check = λ us. body (t ∷ us) in
        let l : Exact ext (suc n) (behind_label m) = led_exact ext (mark (expect signs.Colon)) (optional_step_at ext) _ m (sign_exact ext signs.Colon (colon_written ext) _ _ (optional_step_exact n m e s)) in
        let reads : ReadsSome ext after = (a_colon s.text, rw (colon_makes ext s.text, name) colon) in
        let same : (us : List Token) → first us ≡ first ts → after us ≡ behind_label m us = λ us q. let at : label_test t (first us) ≡ true = ap (label_test t) q ∙ is in rw (at, name) refl in
        farther ext body after t ts f (sign_goes signs.Name t name) (λ us. refl) (same_first ext after (behind_label m) ts f same reads (l.placed ts f (omega (arith, lt)) h))

    behind_function : (t : Token) (ts : List Token) (f : FaultAt) → length ts < n → label_test t (first ts) ≡ false → is_function ext t ≡ true → followed others_at m ts ≡ bad f → FirstAt ext body (t ∷ ts) f
    behind_function t ts f lt is function h =
        let after : Check = λ us. body (t ∷ us) in
        let o : Exact ext n (followed others_at m) = others_exact n m e s in
        let none : label_test t (first (tokens_of ext s.text)) ≡ false = not_both (is_sign signs.Name t) _ s.no_colon in
        let reads : ReadsSome ext after = (s.text, rw (none, function, s.stop) s.reads) in
        let same : (us : List Token) → first us ≡ first ts → after us ≡ followed others_at m us = λ us q. let at : label_test t (first us) ≡ false = ap (label_test t) q ∙ is in rw (at, function) refl in
        farther ext body after t ts f (function_goes t function) (λ us. refl) (same_first ext after (followed others_at m) ts f same reads (o.placed ts f lt h))

    by_operation : (t : Token) (ts : List Token) (f : FaultAt) → length ts < n → label_test t (first ts) ≡ false → is_function ext t ≡ false → (o : Option Operator) → operator_of ext t ≡ o → by_operator m o (t ∷ ts) ≡ bad f → FirstAt ext body (t ∷ ts) f
    by_operation t ts f lt is other None none h =
        let name = no_name t none other in
        here ext body (t ∷ ts) f h some (λ us. rw (none, name) refl)
    by_operation t ts f lt is other (Some o) found h =
        let after : Check = λ us. body (t ∷ us) in
        let k : Check = followed (behind_at (form_of o.mnemonic.op)) m in
        let b = behind_exact ext (form_of o.mnemonic.op) n m e in
        let p = behind_plainly ext (form_of o.mnemonic.op) m (plain_end ext m s) in
        let none : label_test t (first (tokens_of ext p.text)) ≡ false = not_both (is_sign signs.Name t) _ p.no_colon in
        let reads : ReadsSome ext after = (p.text, rw (none, other, found) p.reads) in
        let same : (us : List Token) → first us ≡ first ts → after us ≡ k us = λ us q. let at : label_test t (first us) ≡ false = ap (label_test t) q ∙ is in rw (at, other, found) refl in
        farther ext body after t ts f (operator_goes ext t o found) (λ us. refl) (same_first ext after k ts f same reads (b.placed ts f lt h))

    by_function : (t : Token) (ts : List Token) (f : FaultAt) → length ts < n → label_test t (first ts) ≡ false → (b : Bool) → is_function ext t ≡ b → cond b (followed (function_name_at ext) (followed others_at m) (t ∷ ts)) (by_operator m (operator_of ext t) (t ∷ ts)) ≡ bad f → FirstAt ext body (t ∷ ts) f
    by_function t ts f lt is true function h = behind_function t ts f lt is function (rw function at h)
    by_function t ts f lt is false other h = by_operation t ts f lt is other (operator_of ext t) refl h

    by_label : (t : Token) (ts : List Token) (f : FaultAt) → length ts < n → (b : Bool) → label_test t (first ts) ≡ b → cond b (followed (expect signs.Name) (behind_label m) (t ∷ ts)) (step_body m (t ∷ ts)) ≡ bad f → FirstAt ext body (t ∷ ts) f
    by_label t ts f lt true is h =
        let name = and_left (is_sign signs.Name t) _ is in
        behind_name t ts f lt is name (rw name at h)
    by_label t ts f lt false is h = by_function t ts f lt is (is_function ext t) refl h

    placed : Below ext (suc n) body
    placed [] f lt h = here ext body [] f h some (λ us. refl)
    placed (t ∷ ts) f lt h = by_label t ts f (omega (arith, lt)) (label_test t (first ts)) refl h

abbrev solid_line : Reading LineText
solid_line = closed (content_at ext) (stand is_line_stop tt)

solid_line_exact : (n : ℕ) (k : Check) → Below ext n k → LineEnd ext k → Exact ext (suc n) (followed solid_line k)
solid_line_exact n k b s = closed_exact ext (content_at ext) (stand is_line_stop tt) (suc n) k (content_exact n m
    (stand_exact ext stops_line tt n k b s.text s.stop s.reads)
    (record { text = s.text; stop = s.stop; no_colon = s.no_colon; reads = stand_same is_line_stop tt k (tokens_of ext s.text) ∙ rw s.stop s.reads }))
  where
    m : Check
    m = followed {X = Unit {0}} (stand is_line_stop tt) k

-- ---- the lines of a unit, and the word that ends it

abbrev an_end : UnitKind → List ℕ → List ℕ
an_end kind more = written (end_word kind) more

-- something that is read of it
abbrev Reads : Check → List ℕ → Type 0
Reads k text = k (tokens_of ext text) ≡ good

abbrev ending : UnitKind → Check → Check
ending kind k = followed (past (keyword (end_word kind))) k

lines_listed : (kind : UnitKind) → Listed (is_word_token (end_word kind)) (ends_unit kind) solid_line (line_at ext)
unfolding ends_unit line_at
lines_listed kind = record { stop = λ ts. refl; past = λ ts. refl; less = line_shrinks ext }

ending_stopped : (kind : UnitKind) (k : Check) (text : List ℕ) → Reads k text → Stopped ext (is_word_token (end_word kind)) (ending kind k)
unfolding keyword skip_breaks
ending_stopped kind k text reads = record {
  text = an_end kind text;
  stop = rw (ends_made kind text) (end_spelled kind);
  solid = rw (ends_made kind text) refl;
  reads = rw (ends_made kind text, end_spelled kind) reads;
}

abbrev lines_of : UnitKind → Check → Check
lines_of kind k = followed (many (ends_unit kind) (line_at ext)) (ending kind k)

lines_blind : (kind : UnitKind) (k : Check) → Blind (lines_of kind k)
lines_blind kind k = list_blind (is_word_token (end_word kind)) (ends_unit kind) solid_line (line_at ext) (ending kind k) (lines_listed kind) (past_blind (keyword (end_word kind)) k)

lines_read : (kind : UnitKind) (k : Check) (text : List ℕ) → Reads k text → Reads (lines_of kind k) (an_end kind text)
unfolding ending_stopped
lines_read kind k text reads = list_some ext (is_word_token (end_word kind)) (ends_unit kind) solid_line (line_at ext) (ending kind k) (lines_listed kind) (past_blind (keyword (end_word kind)) k) (ending_stopped kind k text reads)

line_end : (kind : UnitKind) (k : Check) (text : List ℕ) → Reads k text → LineEnd ext (lines_of kind k)
unfolding skip_breaks
line_end kind k text reads = record { text = a_break (an_end kind text); stop = rw (break_makes ext (an_end kind text)) refl; no_colon = rw (break_makes ext (an_end kind text)) refl; reads = broken }
  where
    broken : lines_of kind k (tokens_of ext (a_break (an_end kind text))) ≡ good
    broken = ap (lines_of kind k) (break_makes ext (an_end kind text))
        ∙ lines_blind kind k (token_of signs.Break (10 ∷ []) (an_end kind text) ∷ tokens_of ext (an_end kind text))
        ∙ sym (lines_blind kind k (tokens_of ext (an_end kind text)))
        ∙ lines_read kind k text reads

lines_exact : (kind : UnitKind) (n : ℕ) (k : Check) → Exact ext n k → Exact ext n (lines_of kind k)
lines_exact kind n k e = list_exact ext (is_word_token (end_word kind)) (ends_unit kind) solid_line (line_at ext) n (ending kind k) (lines_listed kind) (past_blind (keyword (end_word kind)) k)
    (ending_stopped kind k e.some.0 e.some.1)
    (fewer ext (ending kind k) n (past_keyword_exact ext (end_word kind) (end_written kind) n k e)).placed
    (λ p m. (solid_line_exact p (lines_of kind k) m.placed (line_end kind k e.some.0 e.some.1)).placed)

abbrev lines_closed : UnitKind → Reading (List LineText)
lines_closed kind = closed (many (ends_unit kind) (line_at ext)) (past (keyword (end_word kind)))

closed_blind : (kind : UnitKind) (k : Check) → Blind (followed (lines_closed kind) k)
closed_blind kind k ts =
    let same : (us : List Token) → followed (lines_closed kind) k us ≡ lines_of kind k us = closed_same (many (ends_unit kind) (line_at ext)) (past (keyword (end_word kind))) k in
    same ts ∙ lines_blind kind k ts ∙ sym (same (skip_breaks ts))

-- ---- sections

abbrev declared_block : Reading (List DeclarationText)
declared_block = closed (many ends_block declaration_at) (past (keyword (codes "END_VAR")))

-- what stands behind the word that opens a section
abbrev in_section : Reading (Option Qualifier × List DeclarationText)
in_section = pair (past (qualifier_at ext)) declared_block

in_section_exact : (n : ℕ) (k : Check) → Exact ext n k → Exact ext (suc n) (followed in_section k)
in_section_exact n k e = same_exact ext (followed in_section k) (followed (mapped blocked in_section) k) (suc n) (λ ts. sym (mapped_same blocked in_section k ts)) (in_block_exact ext n k e)

this_exact : (w : List ℕ) (kind : SectionKind) → Written ext (is_word_token w) → (n : ℕ) (k : Check) → Exact ext n k → Exact ext (suc n) (followed (this_kind w kind) k)
this_exact w kind made n k e = mapped_exact ext (λ u. kind) (keyword w) _ k (keyword_exact ext w made n k e)

local_exact : (n : ℕ) (k : Check) → Exact ext n k → Exact ext n (followed local_at k)
unfolding local_at keyword spells
local_exact n k e = option_exact ext (is_word_token (codes "CONSTANT")) (this_kind (codes "CONSTANT") sections.Constant) sections.Local n k e.placed
    (fewer ext (followed (this_kind (codes "CONSTANT") sections.Constant) k) n (this_exact (codes "CONSTANT") sections.Constant constant_written n k e)).placed
    (written (codes "CONSTANT") e.some.0) (rw (constant_makes e.some.0) e.some.1)

past_local_exact : (n : ℕ) (k : Check) → Exact ext n k → Exact ext n (followed (past local_at) k)
unfolding local_at keyword spells
past_local_exact n k e = past_exact ext (followed local_at k) n (local_exact n k e).placed (written (codes "CONSTANT") e.some.0) (rw (constant_makes e.some.0) refl) (rw (constant_makes e.some.0) e.some.1)

output_kind_exact : (n : ℕ) (k : Check) → Exact ext n k → Exact ext (suc n) (followed output_kind_at k)
unfolding output_kind_at keyword spells
output_kind_exact n k e = either_exact ext (is_word_token (codes "VAR_OUTPUT")) (this_kind (codes "VAR_OUTPUT") sections.Output) (this_kind (codes "VAR_IN_OUT") sections.InOut) (suc n) k
    (this_exact (codes "VAR_OUTPUT") sections.Output output_written n k e).placed
    (this_exact (codes "VAR_IN_OUT") sections.InOut in_out_written n k e).placed
    (written (codes "VAR_OUTPUT") e.some.0) (rw (output_makes e.some.0) e.some.1)

other_kind_exact : (n : ℕ) (k : Check) → Exact ext n k → Exact ext (suc n) (followed other_kind_at k)
unfolding other_kind_at keyword spells
other_kind_exact n k e = either_exact ext (is_word_token (codes "VAR_INPUT")) (this_kind (codes "VAR_INPUT") sections.Input) output_kind_at (suc n) k
    (this_exact (codes "VAR_INPUT") sections.Input input_written n k e).placed
    (output_kind_exact n k e).placed
    (written (codes "VAR_INPUT") e.some.0) (rw (input_makes e.some.0) e.some.1)

abbrev var_kind : Reading SectionKind
var_kind = led (keyword (codes "VAR")) (past local_at)

kind_exact : (n : ℕ) (k : Check) → Exact ext n k → Exact ext (suc n) (followed kind_at k)
unfolding kind_at other_kind_at keyword spells
kind_exact n k e = either_exact ext (is_word_token (codes "VAR")) var_kind other_kind_at (suc n) k
    (led_exact ext (keyword (codes "VAR")) (past local_at) _ k (keyword_exact ext (codes "VAR") var_written n _ (past_local_exact n k e))).placed
    (other_kind_exact n k e).placed
    (written (codes "VAR_INPUT") e.some.0) (rw (input_makes e.some.0) e.some.1)

abbrev solid_section : Reading SectionText
solid_section = mapped a_section (pair kind_at in_section)

solid_section_exact : (n : ℕ) (k : Check) → Exact ext n k → Exact ext (suc (suc n)) (followed solid_section k)
solid_section_exact n k e = mapped_exact ext a_section (pair kind_at in_section) _ k (pair_exact ext kind_at in_section _ k (kind_exact _ _ (in_section_exact n k e)))

abbrev no_section : Token → Bool
no_section t = not (is_word_token (codes "VAR") t || is_word_token (codes "VAR_INPUT") t || is_word_token (codes "VAR_OUTPUT") t || is_word_token (codes "VAR_IN_OUT") t)

sections_listed : Listed no_section ends_sections solid_section (section_at ext)
unfolding ends_sections section_at declared_at
sections_listed = record { stop = λ ts. refl; past = λ ts. refl; less = section_shrinks ext }

-- the word that ends a unit opens no section
end_no_section : (kind : UnitKind) (more : List ℕ) → no_section (token_of signs.Name (end_word kind) more) ≡ true
unfolding spells
end_no_section units.Function more = refl
end_no_section units.FunctionBlock more = refl
end_no_section units.Program more = refl

sections_exact : (kind : UnitKind) (n : ℕ) (k : Check) → Exact ext n k → Exact ext n (followed (many ends_sections (section_at ext)) (followed (lines_closed kind) k))
sections_exact kind n k e = list_exact ext no_section ends_sections solid_section (section_at ext) n lines sections_listed (closed_blind kind k)
    (record {
      text = an_end kind e.some.0;
      stop = rw (ends_made kind e.some.0) (end_no_section kind e.some.0);
      solid = rw (ends_made kind e.some.0) refl;
      reads = closed_same (many (ends_unit kind) (line_at ext)) (past (keyword (end_word kind))) k (tokens_of ext (an_end kind e.some.0)) ∙ lines_read kind k e.some.0 e.some.1;
    })
    (closed_exact ext (many (ends_unit kind) (line_at ext)) (past (keyword (end_word kind))) n k (lines_exact kind n k e)).placed
    (λ p m. fewer_below ext (followed solid_section more) (suc p) (suc (suc p)) (omega arith) (solid_section_exact p more m).placed)
  where
    lines : Check
    lines = followed (lines_closed kind) k

    more : Check
    more = followed (many ends_sections (section_at ext)) lines

-- ---- units

abbrev typed_result : Reading Token
typed_result = led (past (mark (expect signs.Colon))) (past (expect signs.Name))

result_exact : (kind : UnitKind) (n : ℕ) (k : Check) → Exact ext n k → Exact ext n (followed (result_at kind) k)
unfolding result_at
result_exact units.Function n k e = fewer ext (followed (mapped Some typed_result) k) n (fewer ext (followed (mapped Some typed_result) k) (suc n)
    (mapped_exact ext Some typed_result _ k (led_exact ext (past (mark (expect signs.Colon))) (past (expect signs.Name)) _ k (past_sign_exact ext signs.Colon (colon_written ext) _ _ (past_expect_exact ext signs.Name (name_written ext) n k e)))))
result_exact units.FunctionBlock n k e = e
result_exact units.Program n k e = e

abbrev sections_and_lines : UnitKind → Reading (List SectionText × List LineText)
sections_and_lines kind = pair (many ends_sections (section_at ext)) (lines_closed kind)

abbrev resulting : UnitKind → Reading (Option Token × (List SectionText × List LineText))
resulting kind = pair (result_at kind) (sections_and_lines kind)

behind_word_exact : (kind : UnitKind) (n : ℕ) (k : Check) → Exact ext n k → Exact ext (suc n) (followed (behind_word_at ext kind) k)
unfolding behind_word_at
behind_word_exact kind n k e = mapped_exact ext (a_unit kind) (pair (expect signs.Name) (resulting kind)) _ k
    (pair_exact ext (expect signs.Name) (resulting kind) _ k (expect_exact ext signs.Name (name_written ext) n _
    (pair_exact ext (result_at kind) (sections_and_lines kind) n k (result_exact kind n _
    (pair_exact ext (many ends_sections (section_at ext)) (lines_closed kind) n k (sections_exact kind n k e))))))

this_unit_exact : (kind : UnitKind) (n : ℕ) (k : Check) → Exact ext n k → Exact ext (suc (suc n)) (followed (this_unit ext kind) k)
this_unit_exact kind n k e = led_exact ext (keyword (unit_word kind)) (behind_word_at ext kind) _ k (keyword_exact ext (unit_word kind) (unit_written kind) _ _ (behind_word_exact kind n k e))

-- a unit that begins with its word
abbrev a_unit_text : UnitKind → List ℕ → List ℕ
a_unit_text kind more = written (unit_word kind) more

block_or_program_exact : (n : ℕ) (k : Check) → Exact ext n k → Exact ext (suc (suc n)) (followed (block_or_program_at ext) k)
unfolding block_or_program_at keyword spells
block_or_program_exact n k e =
    let b = behind_word_exact units.FunctionBlock n k e in
    either_exact ext (is_word_token (codes "FUNCTION_BLOCK")) (this_unit ext units.FunctionBlock) (this_unit ext units.Program) (suc (suc n)) k
    (this_unit_exact units.FunctionBlock n k e).placed
    (this_unit_exact units.Program n k e).placed
    (a_unit_text units.FunctionBlock b.some.0) (rw (unit_makes units.FunctionBlock b.some.0) b.some.1)

solid_unit_exact : (n : ℕ) (k : Check) → Exact ext n k → Exact ext (suc (suc n)) (followed (solid_unit_at ext) k)
unfolding solid_unit_at keyword spells
solid_unit_exact n k e =
    let b = behind_word_exact units.Function n k e in
    either_exact ext (is_word_token (codes "FUNCTION")) (this_unit ext units.Function) (block_or_program_at ext) (suc (suc n)) k
    (this_unit_exact units.Function n k e).placed
    (block_or_program_exact n k e).placed
    (a_unit_text units.Function b.some.0) (rw (unit_makes units.Function b.some.0) b.some.1)

past_unit_exact : (n : ℕ) (k : Check) → Exact ext n k → Exact ext (suc (suc n)) (followed (unit_at ext) k)
unfolding unit_at solid_unit_at keyword spells
past_unit_exact n k e =
    let b = behind_word_exact units.Function n k e in
    past_exact ext (followed (solid_unit_at ext) k) (suc (suc n)) (solid_unit_exact n k e).placed
    (a_unit_text units.Function b.some.0) (rw (unit_makes units.Function b.some.0) refl) (rw (unit_makes units.Function b.some.0) b.some.1)

-- ---- all of the text

-- nothing is asked of what follows
abbrev pub final : Check
final ts = good

abbrev ended : Check
ended = followed (past end_at) final

abbrev last_unit : Reading UnitText
last_unit = closed (unit_at ext) (past end_at)

units_listed : Listed (is_word_token (codes "PROGRAM")) begins_program (solid_unit_at ext) (unit_at ext)
unfolding begins_program unit_at
units_listed = record { stop = λ ts. refl; past = λ ts. refl; less = unit_shrinks ext }

last_same : (ts : List Token) → followed last_unit final ts ≡ followed (unit_at ext) ended ts
last_same = closed_same (unit_at ext) (past end_at) final

last_blind : Blind (followed last_unit final)
unfolding unit_at
last_blind ts = last_same ts ∙ past_blind (solid_unit_at ext) ended ts ∙ sym (last_same (skip_breaks ts))

last_stopped : Stopped ext (is_word_token (codes "PROGRAM")) (followed last_unit final)
unfolding unit_at solid_unit_at block_or_program_at keyword skip_breaks spells
last_stopped =
    let b = behind_word_exact units.Program 0 ended (past_end_exact ext 0) in
    record {
      text = a_unit_text units.Program b.some.0;
      stop = rw (unit_makes units.Program b.some.0) refl;
      solid = rw (unit_makes units.Program b.some.0) refl;
      reads = last_same (tokens_of ext (a_unit_text units.Program b.some.0)) ∙ rw (unit_makes units.Program b.some.0) b.some.1;
    }

last_exact : (n : ℕ) → Exact ext n (followed last_unit final)
last_exact n = closed_exact ext (unit_at ext) (past end_at) n final
    (fewer ext (followed (unit_at ext) ended) n (fewer ext (followed (unit_at ext) ended) (suc n) (past_unit_exact n ended (past_end_exact ext n))))

abbrev all_units : Reading (List UnitText × UnitText)
all_units = pair (many begins_program (unit_at ext)) last_unit

pub units_exact : (n : ℕ) → Exact ext n (followed (units_at ext) final)
unfolding units_at
units_exact n = mapped_exact ext put_last all_units n final (pair_exact ext (many begins_program (unit_at ext)) last_unit n final
    (list_exact ext (is_word_token (codes "PROGRAM")) begins_program (solid_unit_at ext) (unit_at ext) n (followed last_unit final) units_listed last_blind last_stopped (last_exact n).placed
    (λ p m. fewer_below ext (followed (solid_unit_at ext) more) (suc p) (suc (suc p)) (omega arith) (solid_unit_exact p more m).placed)))
  where
    more : Check
    more = followed (many begins_program (unit_at ext)) (followed last_unit final)
