-- Files that agree for stores are of one group.
use Rattle.std.proofs.Common.{◌≡◌, ℕ, ◌+◌, ◌*◌, List, Option, Some, option_map, option_and_then, length, string_bytes, refl, sym, ap, ◌∙◌, arith}
use Rattle.std.specs.Prelude.{unwrap_or}
use Rattle.std.proofs.lemmas.Option.{same_Some}
use Rattle.toml.specs.Data.{Data, Members, get_member}
use Rattle.plc_group.specs.declared.group.Group.{Group}
use Rattle.plc_group.specs.declared.group.Machine.{Machine}
use Rattle.plc_group.specs.declared.key.Key.{Key}
use Rattle.plc_group.specs.declared.key.Key.TheVariants as keys
use Rattle.plc_group.specs.declared.key.Range.{Range}
use Rattle.plc_group.specs.declared.key.TheConstants.{BUDGETS, DISTANCES}
use Rattle.plc_group.specs.Said.{Says}
use Rattle.plc_group.specs.Sharing.{AgreeForStores, AreOneGroup}
use Rattle.plc_group.specs.Values.{identity_of, machines_said, name_of, number_in, number_or, value_at, word_of}

same_value : {A : Type 0} (read : Data → Option A) (key : Key) (s t : Members) (x y : A) → get_member (word_of key) s ≡ get_member (word_of key) t
    → value_at read key s ≡ Some x → value_at read key t ≡ Some y → x ≡ y
same_value read key s t x y same a b = same_Some x y (sym a ∙ (ap (λ o. option_and_then read o) same ∙ b))

same_number : (default : ℕ) (range : Range) (key : Key) (s t : Members) → get_member (word_of key) s ≡ get_member (word_of key) t
    → number_or default range key s ≡ number_or default range key t
same_number default range key s t same = ap (λ o. unwrap_or (option_and_then (number_in range) o) default) same

same_length : (s t : Members) (xs ys : List Machine) → option_map length (machines_said s) ≡ option_map length (machines_said t)
    → machines_said s ≡ Some xs → machines_said t ≡ Some ys → length xs ≡ length ys
same_length s t xs ys same a b = same_Some (length xs) (length ys) (sym (ap (λ o. option_map length o) a) ∙ (same ∙ ap (λ o. option_map length o) b))

same_f : (n m f g : ℕ) → n ≡ m → n ≡ 2 * f + 1 → m ≡ 2 * g + 1 → f ≡ g
same_f n m f g same a b = omega arith

pub one_group : (s t : Members) (a b : Group) → Says s a → Says t b → AgreeForStores s t → AreOneGroup a b
one_group s t a b says_a says_b agree = record {
  name = same_value name_of keys.Name s t (string_bytes a.name) (string_bytes b.name) (agree keys.Name refl) says_a.name says_b.name;
  identity = same_value identity_of keys.Identity s t a.identity b.identity (agree keys.Identity refl) says_a.identity says_b.identity;
  f = same_f (length a.machines.items) (length b.machines.items) a.config.f b.config.f
      (same_length s t a.machines.items b.machines.items (agree keys.Machine refl) says_a.machines says_b.machines) (sym a.machines.ok.0 ∙ a.one_each) (sym b.machines.ok.0 ∙ b.one_each);
  budget = says_a.budget ∙ (same_number 10000 BUDGETS keys.Budget s t (agree keys.Budget refl) ∙ sym says_b.budget);
  every = says_a.every ∙ (same_number 64 DISTANCES keys.Every s t (agree keys.Every refl) ∙ sym says_b.every);
}
