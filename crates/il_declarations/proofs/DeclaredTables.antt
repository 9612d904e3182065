-- Tables of what is declared, and one more.
use Rattle.std.proofs.Common.{◌≡◌, ℕ, Bool, true, false, cond, List, [], ◌∷◌, ◌++◌, Vec, refl, sym, ap, subst, ◌∙◌}
use Rattle.std.specs.Prelude.{is_some}
use Rattle.std.specs.List.{list_any}
use Rattle.std.specs.Str.{bytes_eq}
use Rattle.std.specs.Ordering.{nat_cmp, is_eq}
use Rattle.std.specs.Cmp.{eq_by_cmp_equiv}
use Rattle.std.specs.Cmp.Lexicographic.{slice_cmp, bytes_decides, nat_list_cmp_total, nat_list_eq_equiv}
use Rattle.std.specs.BTreeSet as sorted
use Rattle.std.specs.BTreeSet.{BTreeSet}
use Rattle.std.specs.Set.{KeepsOthers}
use Rattle.std.specs.Map.{IsKeyTest, AreApart}
use Rattle.std.specs.Global.{Global}
use Rattle.std.proofs.lemmas.Map.Text.{is_eq-slice_cmp}
use Rattle.il_model.specs.declared.program.Variable.{Variable}
use Rattle.il_model.specs.declared.program.Instance.{Instance}
use Rattle.il_model.specs.Words.{same_name}
use Rattle.il_model.specs.Resolved.{instance_in}
use Rattle.il_model.specs.Codes.{is_number}
use Rattle.il_model.proofs.LocationTables.{found}
use Rattle.il_model.specs.Tables.{AreCodes}
use Rattle.il_declarations.specs.DeclaredTables.{is_in, AddsName, AreDeclaredTables}

-- ---- a table whose keys are bytes, after a change at one of them

others : {K : Type 0} (eq : K → K → Bool) (test other : K → Bool) (old new : List K) → KeepsOthers eq test old new → IsKeyTest eq other → AreApart test other → list_any other new ≡ list_any other old
unfolding KeepsOthers
others eq test other old new h = h other

apart : (bs cs ks : List ℕ) → bytes_eq bs cs ≡ false → is_eq (slice_cmp nat_cmp bs ks) ≡ true → is_eq (slice_cmp nat_cmp cs ks) ≡ false
apart bs cs ks other here =
    is_eq-slice_cmp cs ks
    ∙ nat_list_eq_equiv.symm cs ks
    ∙ sym (nat_list_eq_equiv.congr bs ks cs (sym (is_eq-slice_cmp bs ks) ∙ here))
    ∙ other

added_by : (s new : BTreeSet (Vec ℕ Global)) (key name : List ℕ) (b : Bool) → bytes_eq key name ≡ b
    → sorted.UpdatesBy (λ x y. slice_cmp nat_cmp x.items y.items) (λ x. slice_cmp nat_cmp key x.items) s new true → is_in new name ≡ cond b true (is_in s name)
added_by s new key name true e updates =
    let same : key ≡ name = (bytes_decides key name).0 e in
    ap (is_in new) (sym same) ∙ updates.1
added_by s new key name false e updates =
    others _ _ (λ x. is_eq (slice_cmp nat_cmp name x.items)) _ _ updates.3 (λ x y. (eq_by_cmp_equiv nat_list_cmp_total).congr name x.items y.items) (λ x. apart key name x.items e)

pub added : (s new : BTreeSet (Vec ℕ Global)) (key name : List ℕ) → key ≡ name → sorted.UpdatesBy (λ x y. slice_cmp nat_cmp x.items y.items) (λ x. slice_cmp nat_cmp key x.items) s new true → AddsName s new name
added s new key name is updates other = added_by s new key other (bytes_eq key other) refl updates ∙ ap (λ (n : List ℕ). cond (same_name n other) true (is_in s other)) is

-- ---- one more behind the others

named : (s new : BTreeSet (Vec ℕ Global)) (seen : List Variable) (v : Variable) → ((name : List ℕ) → is_in s name ≡ is_some (is_number seen name)) → AddsName s new v.name
    → (name : List ℕ) → is_in new name ≡ is_some (is_number (seen ++ v ∷ []) name)
named s new seen v table adds name = adds name ∙ ap (cond (same_name v.name name) true) (table name) ∙ found (λ (w : Variable). same_name w.name name) seen v

called : (s new : BTreeSet (Vec ℕ Global)) (seen : List Instance) (x : Instance) → ((name : List ℕ) → is_in s name ≡ is_some (instance_in seen name)) → AddsName s new x.name
    → (name : List ℕ) → is_in new name ≡ is_some (instance_in (seen ++ x ∷ []) name)
called s new seen x table adds name = adds name ∙ ap (cond (same_name x.name name) true) (table name) ∙ found (λ (w : Instance). same_name w.name name) seen x

-- one variable more
pub put_variable : (vs more : List Variable) (xs : List Instance) (s new t : BTreeSet (Vec ℕ Global)) (placed codes : BTreeSet ℕ) (v : Variable) → AreDeclaredTables vs xs s t placed → more ≡ vs ++ v ∷ []
    → AddsName s new v.name → AreCodes (vs ++ v ∷ []) codes → AreDeclaredTables more xs new t codes
put_variable vs more xs s new t placed codes v tables is adds coded =
    subst (λ (ws : List Variable). AreDeclaredTables ws xs new t codes) (sym is) (record { variables = named s new vs v tables.variables adds; instances = tables.instances; codes = coded })

-- one instance more
pub put_instance : (vs : List Variable) (xs more : List Instance) (s t new : BTreeSet (Vec ℕ Global)) (placed : BTreeSet ℕ) (x : Instance) → AreDeclaredTables vs xs s t placed → more ≡ xs ++ x ∷ []
    → AddsName t new x.name → AreDeclaredTables vs more s new placed
put_instance vs xs more s t new placed x tables is adds =
    subst (λ (ys : List Instance). AreDeclaredTables vs ys s new placed) (sym is) (record { variables = tables.variables; instances = called t new xs x tables.instances adds; codes = tables.codes })
