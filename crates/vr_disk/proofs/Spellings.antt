-- Records one behind the other, as bytes.
use Rattle.std.proofs.Common.{◌≡◌, ℕ, List, [], ◌∷◌, ◌++◌, refl, ap, sym, ◌∙◌, append_assoc, append-nil}
use Rattle.vr_journal.specs.Records.{Entry, spelt, sum_behind, sum_behind_all, record_bytes}

pub sum_append : (sum : ℕ) (es more : List Entry) → sum_behind_all sum (es ++ more) ≡ sum_behind_all (sum_behind_all sum es) more
sum_append sum [] more = refl
sum_append sum (e ∷ es) more = sum_append (sum_behind sum e) es more

pub spelt_append : (sum : ℕ) (es more : List Entry) → spelt sum (es ++ more) ≡ spelt sum es ++ spelt (sum_behind_all sum es) more
spelt_append sum [] more = refl
spelt_append sum (e ∷ es) more =
    ap (λ (xs : List ℕ). record_bytes sum e ++ xs) (spelt_append (sum_behind sum e) es more)
    ∙ sym (append_assoc (record_bytes sum e) (spelt (sum_behind sum e) es) (spelt (sum_behind_all (sum_behind sum e) es) more))

pub spelt_one : (sum : ℕ) (es : List Entry) (e : Entry) → spelt sum (es ++ e ∷ []) ≡ spelt sum es ++ record_bytes (sum_behind_all sum es) e
spelt_one sum [] e = append-nil (record_bytes sum e)
spelt_one sum (f ∷ es) e =
    ap (λ (xs : List ℕ). record_bytes sum f ++ xs) (spelt_one (sum_behind sum f) es e)
    ∙ sym (append_assoc (record_bytes sum f) (spelt (sum_behind sum f) es) (record_bytes (sum_behind_all (sum_behind sum f) es) e))
