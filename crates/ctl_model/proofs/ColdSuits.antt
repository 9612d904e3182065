-- The state before the first scan, and at the start of each, suits the program.
use Rattle.std.proofs.Common.{◌≡◌, ℕ, Bool, true, false, cond, ltb, List, [], ◌∷◌, ◌++◌, length, map, Option, Some, None, refl, sym, ap, subst, ◌∙◌}
use Rattle.std.specs.Prelude.{ℤ, suc, pos, negsuc, unwrap_or, slice_set}
use Rattle.std.specs.Option.{option_map, option_and_then}
use Rattle.std.proofs.lemmas.List.{length-set}
use Rattle.il_values.specs.declared.value.Ty.{Ty}
use Rattle.il_values.specs.declared.value.Ty.TheVariants as types
use Rattle.il_values.specs.declared.value.Value.{Value}
use Rattle.il_values.specs.declared.value.Value.TheVariants as values
use Rattle.il_model.specs.declared.program.Area.{Area}
use Rattle.il_model.specs.declared.program.Loc.{Loc}
use Rattle.il_model.specs.declared.program.Loc.TheVariants.{Bit, Word, Pattern, Double}
use Rattle.il_model.specs.declared.program.Variable.{Variable}
use Rattle.il_model.specs.declared.cells.Cells.{Cells}
use Rattle.il_model.specs.Program.{Program}
use Rattle.il_values.specs.Values.{ty_of, number_of, is_within, truth_made, typed_value}
use Rattle.il_model.specs.Codes.{if_passes, may_start_with}
use Rattle.il_model.specs.Fits.{IsVariable, AreItems, IsProgram}
use Rattle.il_model.specs.Doubles.{double_pattern, high_word, low_word}
use Rattle.ctl_model.specs.State.{State, with_value_in, with_pattern_at, same_area, with_first, with_firsts, first_cells, cold}
use Rattle.ctl_model.specs.State.{scan_start_state, at_rest}
use Rattle.il_model.specs.Locations.{area_of, clear_cells}
use Rattle.il_model.specs.Typing.{Shape, Arrives}
use Rattle.ctl_model.specs.Suits.{AreCells, HasValues, Suits, held_of}
use Rattle.ctl_model.proofs.Instances.{all_cold}
use Rattle.il_values.proofs.RealValues.{real_is}
use Rattle.il_values.proofs.BitValues.{bits_are}
use Rattle.std.specs.Int.{w16, cast_signed}
use Rattle.ctl_model.proofs.FirstValues.{firsts_first}

pub some_of : (b : Bool) (x v : Value) → cond b (Some x) None ≡ Some v → x ≡ v
some_of true x v e = cc
some_of false x v e = absurd cc

truth_of : (a b : Bool) (v : Value) → cond a (Some (values.Bool false)) (cond b (Some (values.Bool true)) None) ≡ Some v → ty_of v ≡ types.Bool
truth_of true b v e = let is : values.Bool false ≡ v = cc in ap ty_of (sym is)
truth_of false true v e = let is : values.Bool true ≡ v = cc in ap ty_of (sym is)
truth_of false false v e = absurd cc

truth_ty : (z : ℤ) (v : Value) → truth_made z ≡ Some v → ty_of v ≡ types.Bool
truth_ty (pos n) v e = truth_of (ltb n 1) (ltb n 2) v e
truth_ty (negsuc n) v e = absurd cc

made_ty : (t : Ty) (z : ℤ) (v : Value) → typed_value t z ≡ Some v → ty_of v ≡ t
made_ty types.Bool z v e = truth_ty z v e
made_ty types.Int z v e = ap ty_of (sym (some_of (is_within 32768 z) (values.Int z) v e))
made_ty types.Dint z v e = ap ty_of (sym (some_of (is_within 2147483648 z) (values.Dint z) v e))
made_ty types.Time z v e = ap ty_of (sym (some_of (is_within 2147483648 z) (values.Time z) v e))
made_ty types.Lint z v e = ap ty_of (sym (some_of (is_within 9223372036854775808 z) (values.Lint z) v e))
made_ty types.Real z v e = ap ty_of (sym (real_is z v e).1)
made_ty types.Word z v e = ap ty_of (sym (bits_are 65536 values.Word z v e).is)
made_ty types.Dword z v e = ap ty_of (sym (bits_are 4294967296 values.Dword z v e).is)

first_ty : (loc : Option Loc) (t : Ty) (o : Option Value) (v : Value) → ((x : Value) → o ≡ Some x → ty_of x ≡ t) → option_and_then (if_passes (may_start_with loc)) o ≡ Some v → ty_of v ≡ t
first_ty loc t None v typed e = absurd cc
first_ty loc t (Some x) v typed e = ap ty_of (sym (some_of (may_start_with loc x) x v e)) ∙ typed x refl

pub variable_ty : (seen : List Variable) (v : Variable) → IsVariable seen v → ty_of v.initial ≡ v.ty
variable_ty seen v is = first_ty v.location v.ty (typed_value v.ty (number_of v.initial)) v.initial (λ x e. made_ty v.ty (number_of v.initial) x e) is.initial

pub firsts_typed : (seen vs : List Variable) → AreItems IsVariable seen vs → map ty_of (map (λ (v : Variable). v.initial) vs) ≡ map (λ (v : Variable). v.ty) vs
firsts_typed seen [] are = refl
firsts_typed seen (v ∷ vs) are = ap (λ (t : Ty). t ∷ map ty_of (map (λ (v : Variable). v.initial) vs)) (variable_ty seen v are.0) ∙ ap (λ (ts : List Ty). v.ty ∷ ts) (firsts_typed (seen ++ v ∷ []) vs are.1)

-- ---- areas

set_by : (b : Bool) (c d : Cells) → AreCells c → AreCells d → AreCells (unwrap_or (cond b (Some d) None) c)
set_by true c d is at = at
set_by false c d is at = is

pattern_are : (c : Cells) (n : ℕ) (o : Option ℕ) → AreCells c → AreCells (unwrap_or (option_and_then (with_pattern_at c n) o) c)
pattern_are c n None is = is
pattern_are c n (Some p) is = set_by (ltb (suc n) (length c.words)) c (record c { words = slice_set (slice_set c.words n (high_word p)) (suc n) (low_word p) }) is (record {
  bits = is.bits;
  words = length-set (slice_set c.words n (high_word p)) (suc n) (low_word p) ∙ length-set c.words n (high_word p) ∙ is.words;
})

written_are : (c : Cells) (loc : Loc) (v : Value) → AreCells c → AreCells (unwrap_or (with_value_in c loc v) c)
written_are c (Bit a n) (values.Bool b) is = set_by (ltb n (length c.bits)) c (record c { bits = slice_set c.bits n b }) is (record { bits = length-set c.bits n b ∙ is.bits; words = is.words })
written_are c (Bit a n) (values.Int z) is = is
written_are c (Bit a n) (values.Dint z) is = is
written_are c (Bit a n) (values.Time z) is = is
written_are c (Bit a n) (values.Lint z) is = is
written_are c (Bit a n) (values.Real r) is = is
written_are c (Bit a n) (values.Word p) is = is
written_are c (Bit a n) (values.Dword p) is = is
written_are c (Word a n) (values.Bool b) is = is
written_are c (Word a n) (values.Int z) is = set_by (ltb n (length c.words)) c (record c { words = slice_set c.words n z }) is (record { bits = is.bits; words = length-set c.words n z ∙ is.words })
written_are c (Word a n) (values.Dint z) is = is
written_are c (Word a n) (values.Time z) is = is
written_are c (Word a n) (values.Lint z) is = is
written_are c (Word a n) (values.Real r) is = is
written_are c (Word a n) (values.Word p) is = is
written_are c (Word a n) (values.Dword p) is = is
written_are c (Pattern a n) (values.Word p) is = set_by (ltb n (length c.words)) c (record c { words = slice_set c.words n (cast_signed w16 p) }) is (record { bits = is.bits; words = length-set c.words n (cast_signed w16 p) ∙ is.words })
written_are c (Pattern a n) _ is = is
written_are c (Double a n t) v is = pattern_are c n (double_pattern t v) is

chosen_are : (b : Bool) (c d : Cells) → AreCells c → AreCells d → AreCells (cond b d c)
chosen_are true c d is at = at
chosen_are false c d is at = is

pub with_first_are : (area : Area) (c : Cells) (loc : Option Loc) (v : Value) → AreCells c → AreCells (with_first area c loc v)
with_first_are area c None v is = is
with_first_are area c (Some loc) v is = chosen_are (same_area (area_of loc) area) c (unwrap_or (with_value_in c loc v) c) is (written_are c loc v is)

with_firsts_are : (area : Area) (c : Cells) (vs : List Variable) → AreCells c → AreCells (with_firsts area c vs)
with_firsts_are area c [] is = is
with_firsts_are area c (v ∷ vs) is = with_firsts_are area (with_first area c v.location v.initial) vs (with_first_are area c v.location v.initial is)

pub first_cells_are : (area : Area) (vs : List Variable) → AreCells (first_cells area vs)
first_cells_are area vs = with_firsts_are area clear_cells vs (record { bits = refl; words = refl })

-- ---- the start of a run

pub at_start : (Q : Program) (s : State) → HasValues Q s → s.position ≡ 0 → s.cr ≡ None → s.kept ≡ [] → Suits Q s
at_start Q s vals here no_cr none =
    let sh : Shape = record { cr = None; kept = [] } in
    record { values = vals; shape = sh; types = subst (λ (n : ℕ). Arrives Q n sh) (sym here) refl; has = record { cr = ap (option_map ty_of) no_cr; kept = ap (map held_of) none } }

pub cold_suits : (Q : Program) → IsProgram Q → Suits Q (cold Q)
cold_suits Q is =
    at_start Q (cold Q) (record { own = firsts_typed [] Q.variables is.variables; firsts = firsts_first Q.variables; instances = all_cold Q.instances; input = first_cells_are Area.Input Q.variables; output = first_cells_are Area.Output Q.variables; memory = first_cells_are Area.Memory Q.variables }) refl refl refl

pub started_suits : (Q : Program) (s : State) (inputs : Cells) → Suits Q s → AreCells inputs → Suits Q (scan_start_state s inputs)
started_suits Q s inputs suits are =
    at_start Q (scan_start_state s inputs) (record { own = suits.values.own; firsts = suits.values.firsts; instances = suits.values.instances; input = are; output = suits.values.output; memory = suits.values.memory }) refl refl refl

pub rested_suits : (Q : Program) (s : State) → Suits Q s → Suits Q (at_rest s)
rested_suits Q s suits = at_start Q (at_rest s) (record { own = suits.values.own; firsts = suits.values.firsts; instances = suits.values.instances; input = suits.values.input; output = suits.values.output; memory = suits.values.memory }) refl refl refl
