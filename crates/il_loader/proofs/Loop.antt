-- Going over the records of a table, from left to right.
use Rattle.std.proofs.Common.{◌≡◌, ℕ, suc, ◌+◌, ◌-◌, ◌<◌, ◌≤◌, List, [], ◌∷◌, ◌++◌, Result, Ok, Err, refl, sym, ◌∙◌, arith}
use Rattle.il_records.specs.declared.fault.LoadFault.{LoadFault}
use Rattle.il_records.specs.declared.fault.LoadError.{LoadError}
use Rattle.il_records.specs.declared.fault.LoadError.TheVariants as errors
use Rattle.il_loader.specs.Reading.{items_from}
use Rattle.il_records.specs.Fields.{Fails}

pub goes_on : {X : Type 0} (item : List X → List ℕ → Result (X × List ℕ) LoadFault) (count i : ℕ) (seen : List X) (bytes : List ℕ) (x : X) (after : List ℕ) (total : Result (List X × List ℕ) LoadFault)
    → i < count → item seen bytes ≡ Ok (x, after) → items_from item (count - i) seen bytes ≡ total → items_from item (count - (i + 1)) (seen ++ x ∷ []) after ≡ total
unfolding items_from
goes_on item count i seen bytes x after total lt h so_far =
    let k : count - i ≡ suc (count - (i + 1)) = omega arith in
    let one : items_from item (count - i) seen bytes ≡ items_from item (count - (i + 1)) (seen ++ x ∷ []) after = rw (k, h) refl in
    sym one ∙ so_far

pub ends : {X : Type 0} (e : LoadError) (item : List X → List ℕ → Result (X × List ℕ) LoadFault) (count i : ℕ) (seen : List X) (bytes : List ℕ) (total : Result (List X × List ℕ) LoadFault)
    → i < count → Fails e (item seen bytes) → items_from item (count - i) seen bytes ≡ total → Fails e total
unfolding items_from
ends errors.Memory item count i seen bytes total lt h so_far = tt
ends (errors.Fault f) item count i seen bytes total lt h so_far =
    let k : count - i ≡ suc (count - (i + 1)) = omega arith in
    let one : items_from item (count - i) seen bytes ≡ Err f = rw (k, h) refl in
    sym so_far ∙ one

pub is_done : {X : Type 0} (item : List X → List ℕ → Result (X × List ℕ) LoadFault) (count i : ℕ) (seen : List X) (bytes : List ℕ) (total : Result (List X × List ℕ) LoadFault)
    → count ≤ i → items_from item (count - i) seen bytes ≡ total → total ≡ Ok (seen, bytes)
unfolding items_from
is_done item count i seen bytes total le so_far =
    let k : count - i ≡ 0 = omega arith in
    let one : items_from item (count - i) seen bytes ≡ Ok (seen, bytes) = rw k refl in
    sym so_far ∙ one
