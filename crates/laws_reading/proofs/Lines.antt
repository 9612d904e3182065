-- The lines of an expansion, read one by one.
use Rattle.std.proofs.Common.{◌≡◌, ℕ, Bool, true, false, cond, List, [], ◌∷◌, ◌++◌, map, Option, Some, None, Result, Ok, Err, refl, sym, ap, ◌∙◌, subst, append_assoc, inl, inr, codes}
use Rattle.std.specs.Prelude.{option_map, not}
use Rattle.std.specs.List.{AllByRecursion, flat_map}
use Rattle.il_model.specs.declared.dialect.Dialect.TheVariants as dialects
use Rattle.il_reader.specs.declared.lexeme.Sign.{Sign}
use Rattle.il_reader.specs.declared.lexeme.Sign.TheVariants as signs
use Rattle.il_reader.specs.declared.operations.Form.{Form}
use Rattle.il_reader.specs.declared.operations.Form.TheVariants as forms
use Rattle.il_reader.specs.declared.contents.Operator.{Operator}
use Rattle.il_reader.specs.declared.fault.FaultAt.{FaultAt}
use Rattle.il_reader.specs.Tokens.{Token, piece_of, solid_piece, sign_of, tokens_behind}
use Rattle.il_reader.specs.Front.{first, fault_at, skip_breaks, next_is}
use Rattle.il_reader.specs.Grammar.{OperandText, ArgumentText, BehindText, Nothing, Given, Target, Called, OperationText, LineText, Labelled, Plain, is_line_stop, is_label, ends_lines, form_of, operator_of}
use Rattle.il_reader.specs.Spelling.{Part, Spell, ahead, going, spelled_line}
use Rattle.il_reader.specs.Reading.{◌>>=◌, expect}
use Rattle.il_reader.specs.Walk.{behind_at, either_at, call_at, arguments_at, inside_at, operation_at, operator_at, optional_operation_at, labelled_at, plain_at, either_line_at, line_at}
use Rattle.il_reader.proofs.Laws.{ok_is, bind_ok, test_ok, Spell-split}
use Rattle.il_reader.proofs.Programs.{line_law}
use Rattle.il_units.specs.declared.word.Word.{Word}
use Rattle.il_units.specs.declared.word.Line.{Line}
use Rattle.il_units.specs.Words.{said}
use Rattle.il_units.specs.Expansion as expansions
use Rattle.il_units.specs.Expansion.{Piece, line_end, label_pieces, line_pieces, said_piece}
use Rattle.laws_reading.specs.Words.{Is, IsOperandSign, IsOperatorSign, IsOperator, AreInside, AreBehind, AreWords, IsLineOf, IsLine}
use Rattle.laws_reading.specs.Lines.{word_token, unplaced_argument, unplaced_behind, unplaced_operator, unplaced_operation, unplaced_line, operand_of, arguments_in, behind_of, operation_by, operation_of, line_of, line_said}
use Rattle.laws_reading.proofs.Lexing.{tok, tokens, word_lexed, end_lexed, token_is}
use Rattle.laws_reading.proofs.Operands.{no_reading, no_stop, operand_there, operator_unplaced}
use Rattle.laws_reading.proofs.Behind.{SaysBehind, nothing_behind, operand_behind, open_behind, nested_behind, no_end_there}
use Rattle.laws_reading.proofs.Calls.{Rest, pieces, inside_read}

-- ---- a call

call_there : (x o c : List ℕ) (n m k : ℕ) (ts us : List Token) (q : Rest) → inside_at ts ≡ Ok q → q.1 ≡ tok signs.Close c k ∷ us
    → behind_at forms.Call (tok signs.Name x n ∷ tok signs.Open o m ∷ ts) ≡ Ok (Called (record { instance = tok signs.Name x n; written = Some q.0 }), us)
unfolding behind_at call_at arguments_at expect skip_breaks
call_there x o c n m k ts us q e close = rw (e, close) refl

call_refused : (x o : List ℕ) (n m : ℕ) (ts : List Token) (f : FaultAt) → inside_at ts ≡ Err f → behind_at forms.Call (tok signs.Name x n ∷ tok signs.Open o m ∷ ts) ≡ Err f
unfolding behind_at call_at arguments_at expect
call_refused x o n m ts f e = rw e refl

call_said : (x o : Word) (ws : List Word) (n : ℕ) (q : Rest) → Is signs.Name x → arguments_in (map word_token ws) ≡ map unplaced_argument q.0
    → behind_of forms.Call (word_token x ∷ word_token o ∷ map word_token ws) ≡ Some (unplaced_behind (Called (record { instance = tok signs.Name x.text n; written = Some q.0 })))
call_said x o ws n q is says =
    ap (λ (t : Token). behind_of forms.Call (t ∷ word_token o ∷ map word_token ws)) (token_is signs.Name x is)
    ∙ ap (λ (ys : List ArgumentText). Some (Called (record { instance = tok signs.Name x.text 0; written = Some ys }))) says

-- what stands behind an operator is what the words say, and the line's end stands next
record ReadsBehind (form : Form) (ws : List Word) (rest : List Token) (b : BehindText × List Token) : Type 0 where
  says : behind_of form (map word_token ws) ≡ Some (unplaced_behind b.0)
  rest_is : b.1 ≡ rest

called_by : (x o : Word) (ws : List Word) (ps : List Piece) (n m : ℕ) (b : BehindText × List Token) (r : Result Rest FaultAt) → Is signs.Name x → AreInside ws → inside_at (tokens (pieces ws ps)) ≡ r
    → behind_at forms.Call (tok signs.Name x.text n ∷ tok signs.Open o.text m ∷ tokens (pieces ws ps)) ≡ Ok b → ReadsBehind forms.Call (x ∷ o ∷ ws) (tokens ps) b
called_by x o ws ps n m b (Err f) is all e h = absurd (no_reading (Err f) b (sym (call_refused x.text o.text n m (tokens (pieces ws ps)) f e) ∙ h) tt)
called_by x o ws ps n m b (Ok q) is all e h =
    let a = inside_read ws ps q all e in
    let P : BehindText × List Token → Type 0 = λ y. ReadsBehind forms.Call (x ∷ o ∷ ws) (tokens ps) y in
    subst P (ok_is (Called (record { instance = tok signs.Name x.text n; written = Some q.0 }), tokens ps) b (sym (call_there x.text o.text a.close n m a.ends.0 (tokens (pieces ws ps)) (tokens ps) q e a.ends.1) ∙ h))
    (record { says = call_said x o ws n q is a.says; rest_is = refl })

-- a name and a parenthesis stand behind no other operator
only_called : (form : Form) (x o : Word) (ws : List Word) (ps : List Piece) (n m : ℕ) (b : BehindText × List Token) → Is signs.Name x → AreInside ws
    → behind_at form (tok signs.Name x.text n ∷ tok signs.Open o.text m ∷ tokens (pieces ws ps)) ≡ Ok b → is_line_stop b.1 ≡ true → ReadsBehind form (x ∷ o ∷ ws) (tokens ps) b
unfolding behind_at either_at expect
only_called forms.Operand x o ws ps n m b is all h stop =
    let ts = tok signs.Open o.text m ∷ tokens (pieces ws ps) in
    absurd (no_end_there (Given (operand_of (tok signs.Name x.text n)), ts) b (sym (ap (λ (r : Result (OperandText × List Token) FaultAt). r >>= λ y. Ok (Given y.0, y.1)) (operand_there signs.Name x.text n ts tt refl)) ∙ h) stop refl)
only_called forms.Nothing x o ws ps n m b is all h stop = absurd (no_end_there (Nothing, tok signs.Name x.text n ∷ tok signs.Open o.text m ∷ tokens (pieces ws ps)) b h stop refl)
only_called forms.Label x o ws ps n m b is all h stop = absurd (no_end_there (Target (tok signs.Name x.text n), tok signs.Open o.text m ∷ tokens (pieces ws ps)) b h stop refl)
only_called forms.Call x o ws ps n m b is all h stop = called_by x o ws ps n m b (inside_at (tokens (pieces ws ps))) is all refl h
only_called forms.Either x o ws ps n m b is all h stop =
    let ts = tok signs.Open o.text m ∷ tokens (pieces ws ps) in
    absurd (no_end_there (Given (operand_of (tok signs.Name x.text n)), ts) b (sym (ap (λ (r : Result (OperandText × List Token) FaultAt). r >>= λ y. Ok (Given y.0, y.1)) (operand_there signs.Name x.text n ts tt refl)) ∙ h) stop refl)

-- ---- behind an operator

reads_behind : (form : Form) (ws : List Word) (ts us rest : List Token) (b : BehindText × List Token) → map word_token ws ≡ us → SaysBehind form us ts b → ts ≡ rest → ReadsBehind form ws rest b
reads_behind form ws ts us rest b words s e = record { says = ap (behind_of form) words ∙ s.says; rest_is = s.rest_is ∙ e }

behind_read : (form : Form) (ws : List Word) (left : ℕ) (ps : List Piece) (b : BehindText × List Token) → AreBehind ws → behind_at form (tokens (pieces ws (line_end left ∷ ps))) ≡ Ok b → is_line_stop b.1 ≡ true
    → ReadsBehind form ws (tokens (line_end left ∷ ps)) b
behind_read form [] left ps b all h stop =
    let c = end_lexed left ps in
    reads_behind form [] (tok signs.Break (10 ∷ []) c.0 ∷ tokens ps) [] (tokens (line_end left ∷ ps)) b refl (nothing_behind form c.0 (tokens ps) b (sym (ap (behind_at form) c.1) ∙ h)) (sym c.1)
behind_read form (x ∷ []) left ps b (inl op) h stop =
    let c = end_lexed left ps in
    let a = word_lexed op.sign x (line_end left ∷ ps) op.is in
    let e = a.1 ∙ ap (λ (ts : List Token). tok op.sign x.text a.0 ∷ ts) c.1 in
    reads_behind form (x ∷ []) (tok signs.Break (10 ∷ []) c.0 ∷ tokens ps) (tok op.sign x.text 0 ∷ []) (tokens (line_end left ∷ ps)) b (ap (λ (t : Token). t ∷ []) (token_is op.sign x op.is))
    (operand_behind form op.sign x.text a.0 c.0 (tokens ps) b op.good (sym (ap (behind_at form) e) ∙ h) stop) (sym c.1)
behind_read form (x ∷ []) left ps b (inr is) h stop =
    let c = end_lexed left ps in
    let a = word_lexed signs.Open x (line_end left ∷ ps) is in
    let e = a.1 ∙ ap (λ (ts : List Token). tok signs.Open x.text a.0 ∷ ts) c.1 in
    reads_behind form (x ∷ []) (tok signs.Break (10 ∷ []) c.0 ∷ tokens ps) (tok signs.Open x.text 0 ∷ []) (tokens (line_end left ∷ ps)) b (ap (λ (t : Token). t ∷ []) (token_is signs.Open x is))
    (open_behind form x.text a.0 c.0 (tokens ps) b (sym (ap (behind_at form) e) ∙ h) stop) (sym c.1)
behind_read form (o ∷ x ∷ []) left ps b all h stop =
    let op = all.1 in
    let c = end_lexed left ps in
    let a = word_lexed op.sign x (line_end left ∷ ps) op.is in
    let d = word_lexed signs.Open o (expansions.piece_of x ∷ line_end left ∷ ps) all.0 in
    let e = d.1 ∙ ap (λ (ts : List Token). tok signs.Open o.text d.0 ∷ ts) (a.1 ∙ ap (λ (ts : List Token). tok op.sign x.text a.0 ∷ ts) c.1) in
    reads_behind form (o ∷ x ∷ []) (tok signs.Break (10 ∷ []) c.0 ∷ tokens ps) (tok signs.Open o.text 0 ∷ tok op.sign x.text 0 ∷ []) (tokens (line_end left ∷ ps)) b
    (ap (λ (t : Token). t ∷ word_token x ∷ []) (token_is signs.Open o all.0) ∙ ap (λ (t : Token). tok signs.Open o.text 0 ∷ t ∷ []) (token_is op.sign x op.is))
    (nested_behind form o.text op.sign x.text d.0 a.0 c.0 (tokens ps) b op.good (sym (ap (behind_at form) e) ∙ h) stop) (sym c.1)
behind_read form (x ∷ o ∷ w ∷ ws) left ps b all h stop =
    let a = word_lexed signs.Name x (pieces (o ∷ w ∷ ws) (line_end left ∷ ps)) all.0 in
    let d = word_lexed signs.Open o (pieces (w ∷ ws) (line_end left ∷ ps)) all.1 in
    let e = a.1 ∙ ap (λ (ts : List Token). tok signs.Name x.text a.0 ∷ ts) d.1 in
    only_called form x o (w ∷ ws) (line_end left ∷ ps) a.0 d.0 b all.0 all.2 (sym (ap (behind_at form) e) ∙ h) stop

-- ---- operations

record ReadsOperation (ws : List Word) (rest : List Token) (x : OperationText × List Token) : Type 0 where
  says : operation_of (map word_token ws) ≡ Some (unplaced_operation x.0)
  rest_is : x.1 ≡ rest

-- an operation by its operator
abbrev made : Operator → BehindText × List Token → OperationText × List Token
made o b = (record { operator = o; behind = b.0 }, b.1)

parted : (t : Token) (ts : List Token) (x : OperationText × List Token) → operation_at dialects.Extended (t ∷ ts) ≡ Ok x
    → (o : Operator) × (b : BehindText × List Token) × (operator_of dialects.Extended t ≡ Some o) × (behind_at (form_of o.mnemonic.op) ts ≡ Ok b) × (made o b ≡ x)
unfolding operation_at operator_at
parted t ts x e = by_operator (operator_of dialects.Extended t) refl e
  where
    by_operator : (r : Option Operator) → operator_of dialects.Extended t ≡ r → operation_at dialects.Extended (t ∷ ts) ≡ Ok x
        → (o : Operator) × (b : BehindText × List Token) × (operator_of dialects.Extended t ≡ Some o) × (behind_at (form_of o.mnemonic.op) ts ≡ Ok b) × (made o b ≡ x)
    by_operator None is h = absurd (no_reading (Err (fault_at t)) x (rw is at h) tt)
    by_operator (Some o) is h =
        let g : (behind_at (form_of o.mnemonic.op) ts >>= λ b. Ok (made o b)) ≡ Ok x = rw is at h in
        let b = bind_ok (behind_at (form_of o.mnemonic.op) ts) (λ b. Ok (made o b)) x g in
        (o, b.0, is, b.1, ok_is (made o b.0) x b.2)

operation_said : (op : Word) (ws : List Word) (s : Sign) (n : ℕ) (o : Operator) (b : BehindText × List Token) → Is s op → operator_of dialects.Extended (tok s op.text n) ≡ Some o
    → behind_of (form_of o.mnemonic.op) (map word_token ws) ≡ Some (unplaced_behind b.0) → operation_of (word_token op ∷ map word_token ws) ≡ Some (unplaced_operation (made o b).0)
operation_said op ws s n o b is operates says =
    ap (λ (t : Token). operation_of (t ∷ map word_token ws)) (token_is s op is)
    ∙ ap (operation_by (map word_token ws)) (operator_unplaced s op.text n o operates)
    ∙ ap (option_map (λ (y : BehindText). record { operator = unplaced_operator o; behind = y })) says

operation_read : (op : Word) (ws : List Word) (left : ℕ) (ps : List Piece) (x : OperationText × List Token) → IsOperator op → AreBehind ws
    → operation_at dialects.Extended (tokens (expansions.piece_of op ∷ pieces ws (line_end left ∷ ps))) ≡ Ok x → is_line_stop x.1 ≡ true
    → ReadsOperation (op ∷ ws) (tokens (line_end left ∷ ps)) x
operation_read op ws left ps x is all h stop =
    let a = word_lexed is.sign op (pieces ws (line_end left ∷ ps)) is.is in
    let p = parted (tok is.sign op.text a.0) (tokens (pieces ws (line_end left ∷ ps))) x (sym (ap (operation_at dialects.Extended) a.1) ∙ h) in
    let b = behind_read (form_of p.0.mnemonic.op) ws left ps p.1 all p.3 (subst (λ (y : OperationText × List Token). is_line_stop y.1 ≡ true) (sym p.4) stop) in
    let P : OperationText × List Token → Type 0 = λ y. ReadsOperation (op ∷ ws) (tokens (line_end left ∷ ps)) y in
    subst P p.4 (record { says = operation_said op ws is.sign a.0 p.0 p.1 is.is p.2 b.says; rest_is = b.rest_is })

-- ---- one line

no_colon : (s : Sign) (w : List ℕ) (n : ℕ) (ts : List Token) → IsOperandSign s → next_is signs.Colon (tok s w n ∷ ts) ≡ false
no_colon signs.Name w n ts good = refl
no_colon signs.Literal w n ts good = refl
no_colon signs.Address w n ts good = refl
no_colon s w n ts good = absurd good

-- no colon stands behind an operator
behind_no_colon : (ws : List Word) (left : ℕ) (ps : List Piece) → AreBehind ws → next_is signs.Colon (tokens (pieces ws (line_end left ∷ ps))) ≡ false
behind_no_colon [] left ps all = ap (next_is signs.Colon) (end_lexed left ps).1
behind_no_colon (x ∷ []) left ps (inl op) =
    let a = word_lexed op.sign x (line_end left ∷ ps) op.is in
    ap (next_is signs.Colon) a.1 ∙ no_colon op.sign x.text a.0 (tokens (line_end left ∷ ps)) op.good
behind_no_colon (x ∷ []) left ps (inr is) = ap (next_is signs.Colon) (word_lexed signs.Open x (line_end left ∷ ps) is).1
behind_no_colon (o ∷ x ∷ []) left ps all = ap (next_is signs.Colon) (word_lexed signs.Open o (pieces (x ∷ []) (line_end left ∷ ps)) all.0).1
behind_no_colon (x ∷ o ∷ w ∷ ws) left ps all = ap (next_is signs.Colon) (word_lexed signs.Name x (pieces (o ∷ w ∷ ws) (line_end left ∷ ps)) all.0).1

some_no_label : (s : Sign) (w : List ℕ) (n : ℕ) (ts : List Token) → IsOperatorSign s w → next_is signs.Colon ts ≡ false → is_label dialects.Extended (tok s w n ∷ ts) ≡ false
unfolding is_label
some_no_label signs.Name w n ts good colon = rw (colon, good.1) refl
some_no_label signs.Ampersand w n ts good colon = refl
some_no_label signs.Close w n ts good colon = refl
some_no_label s w n ts good colon = absurd good

operator_solid : (s : Sign) (w : List ℕ) (n : ℕ) (ts : List Token) → IsOperatorSign s w → skip_breaks (tok s w n ∷ ts) ≡ tok s w n ∷ ts
unfolding skip_breaks
operator_solid signs.Name w n ts good = refl
operator_solid signs.Ampersand w n ts good = refl
operator_solid signs.Close w n ts good = refl
operator_solid s w n ts good = absurd good

operator_no_end : (s : Sign) (w : List ℕ) (n : ℕ) (ts : List Token) → IsOperatorSign s w → is_line_stop (tok s w n ∷ ts) ≡ false
operator_no_end signs.Name w n ts good = refl
operator_no_end signs.Ampersand w n ts good = refl
operator_no_end signs.Close w n ts good = refl
operator_no_end s w n ts good = absurd good

-- a line that was read ends there
ended : (ts : List Token) (x : LineText × List Token) → line_at dialects.Extended ts ≡ Ok x → (either_line_at dialects.Extended (skip_breaks ts) ≡ Ok x) × (is_line_stop x.1 ≡ true)
unfolding line_at
ended ts x e =
    let a = bind_ok (either_line_at dialects.Extended (skip_breaks ts)) (λ y. cond (is_line_stop y.1) (Ok (tt, y.1)) (Err (fault_at (first y.1))) >>= λ u. Ok (y.0, u.1)) x e in
    let b = bind_ok (cond (is_line_stop a.0.1) (Ok (tt, a.0.1)) (Err (fault_at (first a.0.1)))) (λ u. Ok (a.0.0, u.1)) x a.2 in
    let c = test_ok (is_line_stop a.0.1) (fault_at (first a.0.1)) (tt, a.0.1) b.0 b.1 in
    let same : a.0 ≡ x = ap (λ (u : Unit {0} × List Token). (a.0.0, u.1)) c.1 ∙ ok_is (a.0.0, b.0.1) x b.2 in
    (subst (λ (y : LineText × List Token). either_line_at dialects.Extended (skip_breaks ts) ≡ Ok y) same a.1, subst (λ (y : LineText × List Token). is_line_stop y.1 ≡ true) same c.0)

record ReadsLine (o : Option Word) (ws : List Word) (rest : List Token) (x : LineText × List Token) : Type 0 where
  says : line_of (option_map word_token o) (map word_token ws) ≡ Some (unplaced_line x.0)
  rest_is : x.1 ≡ rest

plain_is : (ts : List Token) (x : LineText × List Token) → is_label dialects.Extended ts ≡ false → either_line_at dialects.Extended ts ≡ Ok x → (y : OperationText × List Token) × (operation_at dialects.Extended ts ≡ Ok y) × ((Plain y.0, y.1) ≡ x)
unfolding either_line_at plain_at
plain_is ts x e h =
    let g : (operation_at dialects.Extended ts >>= λ y. Ok (Plain y.0, y.1)) ≡ Ok x = rw e at h in
    let a = bind_ok (operation_at dialects.Extended ts) (λ y. Ok (Plain y.0, y.1)) x g in
    (a.0, a.1, ok_is (Plain a.0.0, a.0.1) x a.2)

unlabelled_read : (op : Word) (ws : List Word) (left : ℕ) (ps : List Piece) (x : LineText × List Token) → AreWords (op ∷ ws) → line_at dialects.Extended (tokens (pieces (op ∷ ws) (line_end left ∷ ps))) ≡ Ok x
    → ReadsLine None (op ∷ ws) (tokens (line_end left ∷ ps)) x
unlabelled_read op ws left ps x all h =
    let is = all.0 in
    let us = tokens (pieces ws (line_end left ∷ ps)) in
    let a = word_lexed is.sign op (pieces ws (line_end left ∷ ps)) is.is in
    let t = tok is.sign op.text a.0 in
    let b = ended (t ∷ us) x (sym (ap (line_at dialects.Extended) a.1) ∙ h) in
    let c = plain_is (t ∷ us) x (some_no_label is.sign op.text a.0 us is.good (behind_no_colon ws left ps all.1)) (sym (ap (either_line_at dialects.Extended) (operator_solid is.sign op.text a.0 us is.good)) ∙ b.0) in
    let d = operation_read op ws left ps c.0 is all.1 (ap (operation_at dialects.Extended) a.1 ∙ c.1) (subst (λ (y : LineText × List Token). is_line_stop y.1 ≡ true) (sym c.2) b.1) in
    let P : LineText × List Token → Type 0 = λ y. ReadsLine None (op ∷ ws) (tokens (line_end left ∷ ps)) y in
    subst P c.2 (record { says = ap (option_map Plain) d.says; rest_is = d.rest_is })

-- behind a label and its colon
labelled_is : (w c : List ℕ) (n m : ℕ) (ts : List Token) (x : LineText × List Token) → either_line_at dialects.Extended (tok signs.Name w n ∷ tok signs.Colon c m ∷ ts) ≡ Ok x
    → (y : Option OperationText × List Token) × (optional_operation_at dialects.Extended ts ≡ Ok y) × ((Labelled (tok signs.Name w n) y.0, y.1) ≡ x)
unfolding either_line_at labelled_at is_label expect
labelled_is w c n m ts x h =
    let a = bind_ok (optional_operation_at dialects.Extended ts >>= λ y. Ok ((tok signs.Name w n, y.0), y.1)) (λ z. Ok (Labelled z.0.0 z.0.1, z.1)) x h in
    let b = bind_ok (optional_operation_at dialects.Extended ts) (λ y. Ok ((tok signs.Name w n, y.0), y.1)) a.0 a.1 in
    (b.0, b.1, ap (λ (z : (Token × Option OperationText) × List Token). (Labelled z.0.0 z.0.1, z.1)) (ok_is ((tok signs.Name w n, b.0.0), b.0.1) a.0 b.2) ∙ ok_is (Labelled a.0.0.0 a.0.0.1, a.0.1) x a.2)

optional_none : (n : ℕ) (ts : List Token) (y : Option OperationText × List Token) → optional_operation_at dialects.Extended (tok signs.Break (10 ∷ []) n ∷ ts) ≡ Ok y → (None, tok signs.Break (10 ∷ []) n ∷ ts) ≡ y
unfolding optional_operation_at
optional_none n ts y h = ok_is (None, tok signs.Break (10 ∷ []) n ∷ ts) y h

optional_some : (ts : List Token) (y : Option OperationText × List Token) → is_line_stop ts ≡ false → optional_operation_at dialects.Extended ts ≡ Ok y → (z : OperationText × List Token) × (operation_at dialects.Extended ts ≡ Ok z) × ((Some z.0, z.1) ≡ y)
unfolding optional_operation_at
optional_some ts y e h =
    let g : (operation_at dialects.Extended ts >>= λ z. Ok (Some z.0, z.1)) ≡ Ok y = rw e at h in
    let a = bind_ok (operation_at dialects.Extended ts) (λ z. Ok (Some z.0, z.1)) y g in
    (a.0, a.1, ok_is (Some a.0.0, a.0.1) y a.2)

pub colon_is : (left : ℕ) → Is signs.Colon (said (codes ":") left)
unfolding piece_of solid_piece sign_of
colon_is left = record { first = 58; others = []; parts = refl; piece = λ (rest : List ℕ). refl }

record ReadsOptional (ws : List Word) (rest : List Token) (y : Option OperationText × List Token) : Type 0 where
  says : (label : Token) → line_of (Some label) (map word_token ws) ≡ Some (Labelled label (option_map unplaced_operation y.0))
  rest_is : y.1 ≡ rest

optional_read : (ws : List Word) (left : ℕ) (ps : List Piece) (y : Option OperationText × List Token) → AreWords ws → is_line_stop y.1 ≡ true → optional_operation_at dialects.Extended (tokens (pieces ws (line_end left ∷ ps))) ≡ Ok y
    → ReadsOptional ws (tokens (line_end left ∷ ps)) y
optional_read [] left ps y all stop h =
    let c = end_lexed left ps in
    let P : Option OperationText × List Token → Type 0 = λ z. ReadsOptional [] (tokens (line_end left ∷ ps)) z in
    subst P (optional_none c.0 (tokens ps) y (sym (ap (optional_operation_at dialects.Extended) c.1) ∙ h)) (record { says = λ (label : Token). refl; rest_is = sym c.1 })
optional_read (op ∷ ws) left ps y all stop h =
    let is = all.0 in
    let a = word_lexed is.sign op (pieces ws (line_end left ∷ ps)) is.is in
    let c = optional_some (tokens (pieces (op ∷ ws) (line_end left ∷ ps))) y (ap is_line_stop a.1 ∙ operator_no_end is.sign op.text a.0 (tokens (pieces ws (line_end left ∷ ps))) is.good) h in
    let d = operation_read op ws left ps c.0 is all.1 c.1 (subst (λ (z : Option OperationText × List Token). is_line_stop z.1 ≡ true) (sym c.2) stop) in
    let P : Option OperationText × List Token → Type 0 = λ z. ReadsOptional (op ∷ ws) (tokens (line_end left ∷ ps)) z in
    subst P c.2 (record { says = λ (label : Token). ap (option_map (λ (o : OperationText). Labelled label (Some o))) d.says; rest_is = d.rest_is })

name_solid : (w : List ℕ) (n : ℕ) (ts : List Token) → skip_breaks (tok signs.Name w n ∷ ts) ≡ tok signs.Name w n ∷ ts
unfolding skip_breaks
name_solid w n ts = refl

labelled_read : (label : Word) (ws : List Word) (left : ℕ) (ps : List Piece) (x : LineText × List Token) → Is signs.Name label → AreWords ws
    → line_at dialects.Extended (tokens (label_pieces (Some label) ++ pieces ws (line_end left ∷ ps))) ≡ Ok x → ReadsLine (Some label) ws (tokens (line_end left ∷ ps)) x
labelled_read label ws left ps x is all h =
    let us = tokens (pieces ws (line_end left ∷ ps)) in
    let a = word_lexed signs.Name label (said_piece (codes ":") label.left ∷ pieces ws (line_end left ∷ ps)) is in
    let c = word_lexed signs.Colon (said (codes ":") label.left) (pieces ws (line_end left ∷ ps)) (colon_is label.left) in
    let t = tok signs.Name label.text a.0 in
    let e = a.1 ∙ ap (λ (ts : List Token). t ∷ ts) c.1 in
    let ts = tok signs.Colon (codes ":") c.0 ∷ us in
    let b = ended (t ∷ ts) x (sym (ap (line_at dialects.Extended) e) ∙ h) in
    let d = labelled_is label.text (codes ":") a.0 c.0 us x (sym (ap (either_line_at dialects.Extended) (name_solid label.text a.0 ts)) ∙ b.0) in
    let f = optional_read ws left ps d.0 all (subst (λ (y : LineText × List Token). is_line_stop y.1 ≡ true) (sym d.2) b.1) d.1 in
    let P : LineText × List Token → Type 0 = λ y. ReadsLine (Some label) ws (tokens (line_end left ∷ ps)) y in
    subst P d.2 (record { says = ap (λ (u : Token). line_of (Some u) (map word_token ws)) (token_is signs.Name label is) ∙ f.says (tok signs.Name label.text 0); rest_is = f.rest_is })

line_read : (o : Option Word) (ws : List Word) (left : ℕ) (ps : List Piece) (x : LineText × List Token) → IsLineOf o ws
    → line_at dialects.Extended (tokens (label_pieces o ++ pieces ws (line_end left ∷ ps))) ≡ Ok x → ReadsLine o ws (tokens (line_end left ∷ ps)) x
line_read None [] left ps x is h = absurd is
line_read None (op ∷ ws) left ps x is h = unlabelled_read op ws left ps x is h
line_read (Some label) ws left ps x is h = labelled_read label ws left ps x is.0 is.1 h

-- ---- all of them

-- the pieces of a line, before those of others
pub pieces_joined : (o : Option Word) (ws : List Word) (left : ℕ) (ps : List Piece) → (label_pieces o ++ (map expansions.piece_of ws ++ line_end left ∷ [])) ++ ps ≡ label_pieces o ++ pieces ws (line_end left ∷ ps)
pieces_joined o ws left ps =
    append_assoc (label_pieces o) (map expansions.piece_of ws ++ line_end left ∷ []) ps
    ∙ ap (λ (qs : List Piece). label_pieces o ++ qs) (append_assoc (map expansions.piece_of ws) (line_end left ∷ []) ps)

break_past : (n : ℕ) (ts : List Token) → line_at dialects.Extended (tok signs.Break (10 ∷ []) n ∷ ts) ≡ line_at dialects.Extended ts
unfolding line_at skip_breaks
break_past n ts = refl

none_left : (k : ℕ) → ends_lines (tokens (line_end k ∷ [])) ≡ true
unfolding ends_lines skip_breaks tokens_behind piece_of
none_left k = refl

operator_goes : (s : Sign) (w : List ℕ) (m n : ℕ) (ts : List Token) → IsOperatorSign s w → ends_lines (tok signs.Break (10 ∷ []) m ∷ tok s w n ∷ ts) ≡ false
unfolding ends_lines skip_breaks
operator_goes signs.Name w m n ts good = refl
operator_goes signs.Ampersand w m n ts good = refl
operator_goes signs.Close w m n ts good = refl
operator_goes s w m n ts good = absurd good

name_goes : (w : List ℕ) (m n : ℕ) (ts : List Token) → ends_lines (tok signs.Break (10 ∷ []) m ∷ tok signs.Name w n ∷ ts) ≡ false
unfolding ends_lines skip_breaks
name_goes w m n ts = refl

line_goes : (o : Option Word) (ws : List Word) (k left : ℕ) (ps : List Piece) → IsLineOf o ws → ends_lines (tokens (line_end k ∷ (label_pieces o ++ pieces ws (line_end left ∷ ps)))) ≡ false
line_goes None [] k left ps is = absurd is
line_goes None (op ∷ ws) k left ps is =
    let a = word_lexed is.0.sign op (pieces ws (line_end left ∷ ps)) is.0.is in
    let c = end_lexed k (pieces (op ∷ ws) (line_end left ∷ ps)) in
    ap ends_lines (c.1 ∙ ap (λ (ts : List Token). tok signs.Break (10 ∷ []) c.0 ∷ ts) a.1) ∙ operator_goes is.0.sign op.text c.0 a.0 (tokens (pieces ws (line_end left ∷ ps))) is.0.good
line_goes (Some label) ws k left ps is =
    let rest = said_piece (codes ":") label.left ∷ pieces ws (line_end left ∷ ps) in
    let a = word_lexed signs.Name label rest is.0 in
    let c = end_lexed k (expansions.piece_of label ∷ rest) in
    ap ends_lines (c.1 ∙ ap (λ (ts : List Token). tok signs.Break (10 ∷ []) c.0 ∷ ts) a.1) ∙ name_goes label.text c.0 a.0 (tokens rest)

abbrev pub spelled_lines : List LineText → List Part
spelled_lines Ls = flat_map (going ends_lines (spelled_line dialects.Extended)) Ls ++ ahead ends_lines ∷ []

abbrev pub read_lines : List LineText → List (Option LineText)
read_lines Ls = map (λ (l : LineText). Some (unplaced_line l)) Ls

pub not_both : (b : Bool) → not b ≡ true → b ≡ true → ⊥
not_both true e f = absurd cc
not_both false e f = absurd cc

pub lines_said : (ls : List Line) (k : ℕ) (Ls : List LineText) (rest : List Token) → AllByRecursion IsLine ls → Spell (spelled_lines Ls) (tokens (line_end k ∷ flat_map line_pieces ls)) rest → read_lines Ls ≡ map line_said ls
lines_said [] k [] rest all h = refl
lines_said [] k (x ∷ Ls) rest all h = absurd (not_both (ends_lines (tokens (line_end k ∷ []))) h.0 (none_left k))
lines_said (l ∷ ls) k [] rest all h =
    let e = ap (λ (qs : List Piece). ends_lines (tokens (line_end k ∷ qs))) (pieces_joined l.label l.words l.left (flat_map line_pieces ls)) in
    absurd (no_stop (ends_lines (tokens (line_end k ∷ flat_map line_pieces (l ∷ ls)))) h.0 (e ∙ line_goes l.label l.words k l.left (flat_map line_pieces ls) all.0))
lines_said (l ∷ ls) k (x ∷ Ls) rest all h =
    let one = going ends_lines (spelled_line dialects.Extended) x in
    let ts = tokens (line_end k ∷ flat_map line_pieces (l ∷ ls)) in
    let s = Spell-split one (spelled_lines Ls) ts rest (subst (λ (ps : List Part). Spell ps ts rest) (append_assoc one (flat_map (going ends_lines (spelled_line dialects.Extended)) Ls) (ahead ends_lines ∷ [])) h) in
    let read : line_at dialects.Extended ts ≡ Ok (x, s.0) = (line_law dialects.Extended).again x ts s.0 tt s.1.1 in
    let qs = flat_map line_pieces (l ∷ ls) in
    let c = end_lexed k qs in
    let e : ts ≡ tok signs.Break (10 ∷ []) c.0 ∷ tokens qs = c.1 in
    let there = ap (λ (ps : List Piece). line_at dialects.Extended (tokens ps)) (pieces_joined l.label l.words l.left (flat_map line_pieces ls)) in
    let r = line_read l.label l.words l.left (flat_map line_pieces ls) (x, s.0) all.0 (sym there ∙ sym (break_past c.0 (tokens qs)) ∙ sym (ap (line_at dialects.Extended) e) ∙ read) in
    ap (λ (y : Option LineText). y ∷ read_lines Ls) (sym r.says)
    ∙ ap (λ (ys : List (Option LineText)). line_said l ∷ ys) (lines_said ls l.left Ls rest all.1 (subst (λ (us : List Token). Spell (spelled_lines Ls) us rest) r.rest_is s.2))
