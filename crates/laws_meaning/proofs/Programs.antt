-- The instructions of a program, one by one, and its scan.
use Rattle.std.proofs.Common.{◌≡◌, ℕ, zero, suc, ◌+◌, ◌<◌, ◌≤◌, List, [], ◌∷◌, ◌++◌, map, length, Option, Some, slice_get, refl, sym, ap, ◌∙◌, subst, arith, append_assoc, length-append, inl, inr}
use Rattle.std.specs.Prelude.{◌⊎◌, option_map, Bool, true, false, nat_lt}
use Rattle.std.proofs.lemmas.Bool.{ltb-true, ltb-false}
use Rattle.std.specs.List.{AllByRecursion, AllZip}
use Rattle.il_model.specs.declared.dialect.Dialect.TheVariants as dialects
use Rattle.il_model.specs.declared.program.Instr.{Instr}
use Rattle.il_model.specs.Program.{Program}
use Rattle.il_model.specs.Settled.{IsTypedProgramOf, settled_line}
use Rattle.il_model.specs.Typing.{Shape, Arrives, Leads}
use Rattle.il_reader.specs.Grammar.{LineText}
use Rattle.il_reader.specs.Texts.{SourceText}
use Rattle.il_declarations.specs.Declaring.{DeclaredName, names_of, IsInstructionOf, IsProgramOf}
use Rattle.il_units.specs.declared.word.Line.{Line}
use Rattle.laws_calls.specs.Controller.{SayAll, SaysLine}
use Rattle.laws_reading.specs.Lines.{unplaced_line, line_said}
use Rattle.laws_meaning.specs.Instructions.{read_by}
use Rattle.laws_meaning.proofs.Controls.{IsToldBySorts}
use Rattle.laws_meaning.proofs.Instructions.{line_is, Stands, line_says}

-- ---- what a typed program arrives with

seam : {A : Type 0} (xs : List A) (y : A) (ys : List A) → slice_get (xs ++ y ∷ ys) (length xs) ≡ Some y
seam [] y ys = refl
seam (x ∷ xs) y ys = seam xs y ys

-- each instruction before the one that is arrived at leads on
record Led (Q : Program) (k : ℕ) : Type 0 where
  line : Instr
  before : Shape
  after : Shape
  is : slice_get Q.code k ≡ Some line
  arrives : Arrives Q k before
  leads : Leads Q k line before after

same_or_less : (i j : ℕ) → i < suc j → (i ≡ j) ⊎ (i < j)
same_or_less i j h = by_test (nat_lt i j) refl
  where
    by_test : (b : Bool) → nat_lt i j ≡ b → (i ≡ j) ⊎ (i < j)
    by_test true e = inr (ltb-true i j e)
    by_test false e = let le : j ≤ i = ltb-false i j e in inl (omega (arith, h, le))

last_or_before : (Q : Program) (n k : ℕ) → Led Q n → (k < n → Led Q k) → (k ≡ n) ⊎ (k < n) → Led Q k
last_or_before Q n k last before (inl e) = subst (Led Q) (sym e) last
last_or_before Q n k last before (inr h) = before h

led : (Q : Program) (n k : ℕ) (shape : Shape) → Arrives Q n shape → k < n → Led Q k
led Q zero k shape at lt = absurd (omega (arith, lt))
led Q (suc n) k shape at lt =
    last_or_before Q n k (record { line = at.0; before = at.1; after = at.2; is = at.3; arrives = at.4; leads = at.5 }) (λ (h : k < n). led Q n k at.1 at.4 h) (same_or_less k n lt)

-- ---- one by one

some_is : {A : Type 0} (x y : A) → Some x ≡ Some y → x ≡ y
some_is x y e = cc

heads : {A : Type 0} (x y : A) (xs ys : List A) → x ∷ xs ≡ y ∷ ys → (x ≡ y) × (xs ≡ ys)
heads x y xs ys e = (cc, cc)

abbrev read_lines : List LineText → List (Option LineText)
read_lines xs = map (λ (x : LineText). Some (unplaced_line x)) xs

module _ (names : List DeclaredName) (P Q : Program) (typed : IsTypedProgramOf P Q) where
  stands : (pb qb ps qs : List Instr) (p q : Instr) → P.code ≡ pb ++ p ∷ ps → Q.code ≡ qb ++ q ∷ qs → length pb ≡ length qb → Stands P Q (length qb) p q
  stands pb qb ps qs p q e f same =
      let k = length qb in
      let here : slice_get Q.code k ≡ Some q = ap (λ (xs : List Instr). slice_get xs k) f ∙ seam qb q qs in
      let there : slice_get P.code k ≡ Some p = ap (λ (xs : List Instr). slice_get xs k) e ∙ ap (slice_get (pb ++ p ∷ ps)) (sym same) ∙ seam pb p ps in
      let many : length Q.code ≡ length qb + length (q ∷ qs) = ap (λ (xs : List Instr). length xs) f ∙ length-append qb (q ∷ qs) in
      let less : k < length Q.code = omega (arith, many) in
      let l = led Q (length Q.code) k typed.typed.0 typed.typed.1 less in
      let line : l.line ≡ q = some_is l.line q (sym l.is ∙ here) in
      record {
        settled = λ (shape : Shape) (at : Arrives Q k shape). some_is q (settled_line shape.cr p) (sym here ∙ typed.placed k shape at ∙ ap (option_map (settled_line shape.cr)) there);
        before = l.before;
        after = l.after;
        arrives = l.arrives;
        leads = subst (λ (i : Instr). Leads Q k i l.before l.after) line l.leads;
      }

  all_say : (ls : List Line) (xs : List LineText) (ps qs pb qb : List Instr) (k : ℕ) → P.code ≡ pb ++ ps → Q.code ≡ qb ++ qs → length pb ≡ length qb → k ≡ length qb → length ps ≡ length qs
      → read_lines xs ≡ map line_said ls → AllZip (IsInstructionOf dialects.Extended names) xs ps → AllByRecursion IsToldBySorts ls → SayAll (read_by names) Q k ls qs
  all_say [] [] [] [] pb qb k e f same number count read is told = tt
  all_say [] [] [] (q ∷ qs) pb qb k e f same number count read is told = absurd (omega (arith, count))
  all_say [] [] (p ∷ ps) qs pb qb k e f same number count read is told = absurd is
  all_say [] (x ∷ xs) ps qs pb qb k e f same number count read is told = absurd cc
  all_say (l ∷ ls) [] ps qs pb qb k e f same number count read is told = absurd cc
  all_say (l ∷ ls) (x ∷ xs) [] qs pb qb k e f same number count read is told = absurd is
  all_say (l ∷ ls) (x ∷ xs) (p ∷ ps) [] pb qb k e f same number count read is told = absurd (omega (arith, count))
  all_say (l ∷ ls) (x ∷ xs) (p ∷ ps) (q ∷ qs) pb qb k e f same number count read is told =
      let h = heads (Some (unplaced_line x)) (line_said l) (read_lines xs) (map line_said ls) read in
      let at = stands pb qb ps qs p q e f same in
      let one : SaysLine (read_by names) Q (length qb) l q = line_says names P Q (length qb) p q at l (line_is names l.label l.words x p told.0.label is.0 h.0) told.0 in
      let pn : length (pb ++ p ∷ []) ≡ length pb + 1 = length-append pb (p ∷ []) in
      let qn : length (qb ++ q ∷ []) ≡ length qb + 1 = length-append qb (q ∷ []) in (
        subst (λ (n : ℕ). SaysLine (read_by names) Q n l q) (sym number) one,
        all_say ls xs ps qs (pb ++ p ∷ []) (qb ++ q ∷ []) (suc k) (e ∙ sym (append_assoc pb (p ∷ []) ps)) (f ∙ sym (append_assoc qb (q ∷ []) qs)) (omega (arith, pn, qn, same)) (omega (arith, qn, number)) (omega (arith, count)) h.1 is.1 told.1,
      )

-- the instructions are the lines
pub says_lines : (ls : List Line) (source : SourceText) (P Q : Program) → AllByRecursion IsToldBySorts ls → read_lines source.says.lines ≡ map line_said ls → IsProgramOf dialects.Extended source.says P → IsTypedProgramOf P Q
    → SayAll (read_by (names_of source.says)) Q 0 ls Q.code
says_lines ls source P Q told lines declared typed = all_say (names_of source.says) P Q typed ls source.says.lines P.code Q.code [] [] 0 refl refl refl refl (sym typed.count) lines declared.code told
