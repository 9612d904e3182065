-- A text of units that has a typed program means its calls.
use Rattle.std.proofs.Common.{◌≡◌, ℕ, ◌^◌, ◌<◌, Bool, true, List, [], ◌∷◌, ◌++◌, length, Result, Ok, Err, refl, sym, ap, ◌∙◌, subst, append_assoc}
use Rattle.std.specs.List.{AllByRecursion}
use Rattle.il_model.specs.declared.dialect.Dialect.{Dialect}
use Rattle.il_model.specs.declared.dialect.Dialect.TheVariants as dialects
use Rattle.il_model.specs.Program.{Program}
use Rattle.il_model.specs.Settled.{IsTypedProgramOf}
use Rattle.il_reader.specs.declared.fault.Fault.{Fault}
use Rattle.il_reader.specs.Grammar.{dialect_of}
use Rattle.il_reader.specs.Texts.{SourceText, Reads}
use Rattle.il_declarations.specs.Declaring as Declaring
use Rattle.il_declarations.specs.Declaring.{names_of}
use Rattle.il_declarations.specs.FirstFault.{HasNoFault}
use Rattle.il_units.specs.Units.{UnitText}
use Rattle.il_units.specs.Spelling.{SaysUnits}
use Rattle.il_units.specs.Members.{members_of}
use Rattle.il_units.specs.Flats.{FlatUnit, no_lines, begun_from}
use Rattle.il_units.specs.Expansion.{flat_of, flats_from, text_of, last_text, expanded}
use Rattle.il_units.specs.Walk.{read_units}
use Rattle.il_units.proofs.Said.{reads_what_is_said}
use Rattle.il_text.specs.Meaning.{IsPlainProgramOf, IsGoodUnit, AreGood, MeansBy}
use Rattle.laws_calls.specs.Laws.{IsPlainUnit}
use Rattle.laws_calls.proofs.Faultless.{faultless_plain}
use Rattle.laws_calls.proofs.Controlled.{scans_as_its_calls}
use Rattle.laws_reading.specs.Laws.{flat_in}
use Rattle.laws_reading.proofs.Expansions.{sorts_tell, expansions_are_read}
use Rattle.laws_meaning.specs.Instructions.{read_by}
use Rattle.laws_meaning.specs.Laws.{HasProgram, SaysItsInstructions, MeansItsCalls}
use Rattle.laws_meaning.proofs.Few.{HasFewLines, few_lines}
use Rattle.laws_meaning.proofs.Programs.{says_lines}
use Rattle.laws_meaning.proofs.Sorted.{all_sorted}
use Rattle.laws_meaning.proofs.Labels.{lines_free, unit_lines}

-- the instructions of a unit's program are the lines of its expansion
pub says_its_instructions : SaysItsInstructions
says_its_instructions text before unit behind source Q says has =
    let u = flat_in text before unit in
    let lines = (expansions_are_read text before unit behind source says has.read).lines in
    says_lines u.lines source has.program Q (all_sorted u.lines (sorts_tell text before unit behind says)) lines has.declared has.settled

-- ---- a good unit

extended : (u : FlatUnit) (source : SourceText) → Reads (text_of u) source → dialect_of (text_of u) ≡ dialects.Extended → dialect_of source.text ≡ dialects.Extended
extended u source read e = ap dialect_of read.0 ∙ e

module _ (text : List ℕ) where
  good_at : (above before : List UnitText) (u : UnitText) (behind : List UnitText) (flats : List FlatUnit) → AreGood text flats (before ++ u ∷ behind) → IsGoodUnit text (flats_from text flats before) u
  unfolding flats_from
  good_at above [] u behind flats good = good.0
  good_at above (v ∷ before) u behind flats good = good_at above before u behind (flats ++ flat_of text flats v ∷ []) good.1

  has_program : (before : List UnitText) (u : UnitText) (behind : List UnitText) (P Q : Program) → SaysUnits text (before ++ u ∷ behind) → (is : IsPlainProgramOf (text_of (flat_in text before u)) P) → IsTypedProgramOf P Q → HasProgram (flat_in text before u) is.source Q
  has_program before u behind P Q says is typed =
      let e = extended (flat_in text before u) is.source is.read (expansions_are_read text before u behind is.source says is.read).dialect in
      record { program = P; read = is.read; declared = subst (λ (d : Dialect). Declaring.IsProgramOf d is.source.says P) e is.declared; settled = typed }

  plain_at : (before : List UnitText) (u : UnitText) (behind : List UnitText) → SaysUnits text (before ++ u ∷ behind) → IsGoodUnit text (flats_from text [] before) u → length u.lines < 2 ^ 64 → IsPlainUnit u
  plain_at before u behind says good few =
      let flat = flat_in text before u in
      let is = good.3 in
      let read = expansions_are_read text before u behind is.source says is.read in
      let e = extended flat is.source is.read read.dialect in
      let none : HasNoFault dialects.Extended is.source.says = subst (λ (d : Dialect). HasNoFault d is.source.says) e is.faultless in
      let say = says_its_instructions text before u behind is.source good.2 says (has_program before u behind good.1 good.2 says is good.4) in
      let free = lines_free is.source.says (names_of is.source.says) good.2 flat.lines none (all_sorted flat.lines (sorts_tell text before u behind says)) read.lines say in
      let above = flats_from text [] before in
      let lines = unit_lines (record { text = text; above = above; members = members_of u }) (begun_from above no_lines (members_of u)) 1 u.lines free in
      faultless_plain text above u good.0 lines.1 few

  all_plain : (before us : List UnitText) → SaysUnits text (before ++ us) → AreGood text [] (before ++ us) → AllByRecursion HasFewLines us → AllByRecursion IsPlainUnit us
  all_plain before [] says good few = tt
  all_plain before (u ∷ us) says good few =
      let e : (before ++ u ∷ []) ++ us ≡ before ++ u ∷ us = append_assoc before (u ∷ []) us in (
        plain_at before u us says (good_at [] before u us [] good) few.0,
        all_plain (before ++ u ∷ []) us (subst (SaysUnits text) (sym e) says) (subst (AreGood text []) (sym e) good) few.1,
      )

  -- ---- the program, the last

  flats_more : (flats : List FlatUnit) (above : List UnitText) (u : UnitText) → flats_from text flats (above ++ u ∷ []) ≡ flats_from text flats above ++ flat_of text (flats_from text flats above) u ∷ []
  unfolding flats_from
  flats_more flats [] u = refl
  flats_more flats (v ∷ above) u = flats_more (flats ++ flat_of text flats v ∷ []) above u

  last_one : (fs : List FlatUnit) (f : FlatUnit) → last_text (fs ++ f ∷ []) ≡ text_of f
  unfolding last_text
  last_one [] f = refl
  last_one (g ∷ []) f = refl
  last_one (g ∷ h ∷ fs) f = last_one (h ∷ fs) f

  expanded_is : (above : List UnitText) (u : UnitText) → expanded text (above ++ u ∷ []) ≡ text_of (flat_in text above u)
  expanded_is above u = ap last_text (flats_more [] above u) ∙ last_one (flats_from text [] above) (flat_of text (flats_from text [] above) u)

ok_is : {X : Type 0} (x y : X) (r : Result X Fault) → r ≡ Ok x → r ≡ Ok y → x ≡ y
ok_is x y (Ok z) a b = let one : z ≡ x = cc in let two : z ≡ y = cc in sym one ∙ two
ok_is x y (Err e) a b = absurd cc

pub means_its_calls : MeansItsCalls
means_its_calls text above program Q now s says t units suits none start =
    let all = above ++ program ∷ [] in
    let means : MeansBy true text t.is.plain = subst (λ (b : Bool). MeansBy b text t.is.plain) units t.is.means in
    let same : means.0 ≡ all = ok_is means.0 all (read_units text) (reads_what_is_said text means.0 means.1) (reads_what_is_said text all says) in
    let good : AreGood text [] all = subst (AreGood text []) same means.2 in
    let plain : t.is.plain ≡ text_of (flat_in text above program) = means.3 ∙ ap (expanded text) same ∙ expanded_is text above program in
    let is : IsPlainProgramOf (text_of (flat_in text above program)) t.program = subst (λ (bytes : List ℕ). IsPlainProgramOf bytes t.program) plain t.is.is in
    let source = is.source in
    let say = says_its_instructions text above program [] source Q says (has_program text above program [] t.program Q says is t.settled) in
    let units_plain = all_plain text [] all says good (few_lines text all says) in
    (source, is.read, scans_as_its_calls (read_by (names_of source.says)) Q now text above program s units_plain t.settled.typed suits say none start)
