-- A table that owns its names, to which the key of one more before the others is put.
use Rattle.std.proofs.Common.{◌≡◌, ℕ, suc, Bool, true, false, cond, List, drop, Some, Vec, refl, sym, ap, ◌∙◌}
use Rattle.std.specs.Prelude.{slice_get}
use Rattle.std.specs.Str.{bytes_eq}
use Rattle.std.specs.BTreeMap.{BTreeMap}
use Rattle.std.specs.BTreeMap as tree
use Rattle.std.specs.Map.{lookup, IsKeyTest, AreApart, KeepsOthers}
use Rattle.std.specs.Cmp.{eq_by_cmp_equiv}
use Rattle.std.specs.Cmp.Lexicographic.{slice_cmp, bytes_decides, nat_list_cmp_total, nat_list_eq_equiv}
use Rattle.std.specs.Ordering.{nat_cmp, is_eq}
use Rattle.std.specs.Global.{Global}
use Rattle.std.proofs.lemmas.Map.Text.{is_eq-slice_cmp}
use Rattle.il_model.proofs.Indexing.{first_where, one_before}
use Rattle.il_loader.specs.Linked.{number_in}

others : {K X : Type 0} (eq : K → K → Bool) (test other : K → Bool) (old new : List (K × X)) → KeepsOthers eq test old new → IsKeyTest eq other → AreApart test other → lookup other new ≡ lookup other old
unfolding KeepsOthers
others eq test other old new h = h other

apart : (bs cs ks : List ℕ) → bytes_eq bs cs ≡ false → is_eq (slice_cmp nat_cmp bs ks) ≡ true → is_eq (slice_cmp nat_cmp cs ks) ≡ false
apart bs cs ks other here =
    is_eq-slice_cmp cs ks
    ∙ nat_list_eq_equiv.symm cs ks
    ∙ sym (nat_list_eq_equiv.congr bs ks cs (sym (is_eq-slice_cmp bs ks) ∙ here))
    ∙ other

put_by : (m new : BTreeMap (Vec ℕ Global) ℕ) (n : ℕ) (key name : List ℕ) (b : Bool) → bytes_eq key name ≡ b
    → tree.UpdatesBy (λ x y. slice_cmp nat_cmp x.items y.items) (λ k. slice_cmp nat_cmp key k.items) m new (Some n) → number_in new name ≡ cond b (Some n) (number_in m name)
put_by m new n key name true e updates =
    let same : key ≡ name = (bytes_decides key name).0 e in
    ap (number_in new) (sym same) ∙ updates.1
put_by m new n key name false e updates =
    others _ _ (λ x. is_eq (slice_cmp nat_cmp name x.items)) _ _ updates.3 (λ x y. (eq_by_cmp_equiv nat_list_cmp_total).congr name x.items y.items) (λ x. apart key name x.items e)

pub put_first : {X : Type 0} (p : X → Bool) (m new : BTreeMap (Vec ℕ Global) ℕ) (xs : List X) (n k : ℕ) (x : X) (key name : List ℕ)
    → tree.UpdatesBy (λ x y. slice_cmp nat_cmp x.items y.items) (λ k. slice_cmp nat_cmp key k.items) m new (Some n)
    → bytes_eq key name ≡ p x → k ≡ suc n → slice_get xs n ≡ Some x → number_in m name ≡ first_where p k (drop k xs) → number_in new name ≡ first_where p n (drop n xs)
put_first p m new xs n k x key name updates has is here rest =
    put_by m new n key name (bytes_eq key name) refl updates
    ∙ ap (cond (bytes_eq key name) (Some n)) rest
    ∙ ap (λ (b : Bool). cond b (Some n) (first_where p k (drop k xs))) has
    ∙ sym (one_before p xs n k x is here)
