-- Which replicas others reach, and that the first of them is told.
use Rattle.std.proofs.Common.{◌≡◌, ◌+◌, ℕ, Bool, true, false, List, [], ◌∷◌, Option, Some, None, option_map, arith, refl, sym, ap, ◌∙◌, inl, inr}
use Rattle.std.proofs.lemmas.Bool.{cases_Bool}
use Rattle.std.proofs.lemmas.Option.{none-some}
use Rattle.std.specs.Prelude.{is_some, position, string_bytes, unwrap_or, String, ◌||◌, if◌then◌else◌}
use Rattle.std.specs.Global.{Global}
use Rattle.toml.specs.Data.{Members, as_bool}
use Rattle.plc_group.specs.declared.fault.Why.TheVariants.{WithoutKey}
use Rattle.plc_group.specs.declared.group.Machine.{Machine}
use Rattle.plc_group.specs.declared.key.Key.TheVariants as keys
use Rattle.plc_group.specs.Faults.{At, Fault, all_exposed_faults, first, is_reached, replicas_faults}
use Rattle.plc_group.specs.Values.{machines_said, path_of, value_at}
use Rattle.plc_group.proofs.Walks.{from}

abbrev at_replica : ℕ → Fault
at_replica i = At (Some i) keys.Replica WithoutKey

abbrev at_each : (Machine → Bool) → ℕ → Machine → List Fault
at_each p i machine = if p machine then at_replica i ∷ [] else []

here : {A : Type 0} (p : A → Bool) (x : A) (xs : List A) → p x ≡ true → position p (x ∷ xs) ≡ Some 0
here p x xs passes = grind (arith, passes)

later : {A : Type 0} (p : A → Bool) (x : A) (xs : List A) → p x ≡ false → position p (x ∷ xs) ≡ option_map (λ n. 1 + n) (position p xs)
later p x xs fails = grind (arith, fails)

further : (i : ℕ) (o : Option ℕ) → option_map (λ n. at_replica (i + 1 + n)) o ≡ option_map (λ n. at_replica (i + n)) (option_map (λ n. 1 + n) o)
further i None = refl
further i (Some n) = let e : i + 1 + n ≡ i + (1 + n) = omega arith in ap (λ k. Some (at_replica k)) e

first_from : (p : Machine → Bool) (i : ℕ) (ms : List Machine) → first (from (at_each p) i ms) ≡ option_map (λ n. at_replica (i + n)) (position p ms)
first_from p i [] = refl
first_from p i (m ∷ ms) = elim (cases_Bool (p m)) [
  | inl passes ↦
      let on : first (from (at_each p) i (m ∷ ms)) ≡ Some (at_replica i) = rw passes refl in
      let same : i ≡ i + 0 = omega arith in
      on ∙ ap (λ k. Some (at_replica k)) same ∙ ap (option_map (λ n. at_replica (i + n))) (sym (here p m ms passes))
  | inr fails ↦
      let on : first (from (at_each p) i (m ∷ ms)) ≡ first (from (at_each p) (i + 1) ms) = rw fails refl in
      on ∙ first_from p (i + 1) ms ∙ further i (position p ms) ∙ ap (option_map (λ n. at_replica (i + n))) (sym (later p m ms fails))
]

pub first_told : (ms : List Machine) (n : ℕ) → position is_reached ms ≡ Some n → first (all_exposed_faults false ms) ≡ Some (at_replica n)
first_told ms n e =
    let same : 0 + n ≡ n = omega arith in
    first_from is_reached 0 ms ∙ ap (option_map (λ k. at_replica (0 + k))) e ∙ ap (λ k. Some (at_replica k)) same

none_first : (xs : List Fault) → first xs ≡ None → xs ≡ []
none_first [] e = refl
none_first (x ∷ xs) e = absurd (none-some x (sym e))

pub none_told : (ms : List Machine) → position is_reached ms ≡ None → all_exposed_faults false ms ≡ []
none_told ms e = none_first (all_exposed_faults false ms) (first_from is_reached 0 ms ∙ ap (option_map (λ k. at_replica (0 + k))) e)

-- what a group says of its key has the faults that its table has
pub replicas_are : (table : Members) (file : Option (String Global)) (insecure : Bool) (machines : List Machine)
    → value_at path_of keys.KeyFile table ≡ option_map string_bytes file → insecure ≡ unwrap_or (value_at as_bool keys.Insecure table) false
    → machines_said table ≡ Some machines → replicas_faults table ≡ all_exposed_faults (is_some file || insecure) machines
replicas_are table None insecure machines k i m = rw (k, sym i, m) refl
replicas_are table (Some f) insecure machines k i m = rw k refl
