-- Logs in which each client's numbers rise.
use Rattle.std.proofs.Common.{◌≡◌, ℕ, ◌+◌, ◌<◌, true, List, [], ◌∷◌, ◌++◌, length, take, arith, sym, ap, ◌∙◌, subst, inl, inr, length-append}
use Rattle.std.proofs.lemmas.Grind.{common_steps}
use Rattle.std.proofs.lemmas.Bool.{cases_lt}
use Rattle.vr_model.specs.Logs.{Request, IsPrefix, IsEntry, IsRising, is_above, last_number, IsAmong}
use Rattle.laws_history.proofs.Prefixes.{prefix_take, prefix_append}
use Rattle.laws_history.proofs.Facts.{LogOk}
use Rattle.laws_history.proofs.Later.{among_later, entry_later}

pub rising_nil : {C : Type 0} → IsRising {C = C} []
rising_nil = record { each = λ k m e. absurd (omega (arith, e.within)) }

pub rising_prefix : {C : Type 0} {xs ys : List (Request C)} → IsPrefix xs ys → IsRising ys → IsRising xs
rising_prefix {C} {xs} {ys} p r = record {
  each = λ k m e. subst (λ (a : List (Request C)). is_above m.number (last_number a m.client) ≡ true) (prefix_take k p (omega (arith, e.within))) (r.each k m (entry_later p e));
}

-- an entry of the whole is one of the prefix that reaches it
pub entry_before : {X : Type 0} {xs ys : List X} {k : ℕ} {m : X} → IsPrefix xs ys → k < length xs → IsEntry ys k m → IsEntry xs k m
entry_before {X} {xs} {ys} {k} {m} p l e = record {
  within = l;
  last = sym (prefix_take (k + 1) p (omega arith)) ∙ e.last ∙ ap (λ a. a ++ m ∷ []) (prefix_take k p (omega arith));
}

pub last_same : {X : Type 0} (xs : List X) (a b : X) → xs ++ a ∷ [] ≡ xs ++ b ∷ [] → a ≡ b
last_same [] a b e = cc
last_same (x ∷ xs) a b e = last_same xs a b (let t : xs ++ a ∷ [] ≡ xs ++ b ∷ [] = cc in t)

take_end : {X : Type 0} (xs : List X) (m : X) (k : ℕ) → k ≡ length xs → (take k (xs ++ m ∷ []) ≡ xs) × (take (k + 1) (xs ++ m ∷ []) ≡ xs ++ m ∷ [])
take_end xs m k e = (grind (arith, common_steps), grind (arith, common_steps))

pub rising_append : {C : Type 0} (xs : List (Request C)) (m : Request C) → IsRising xs → is_above m.number (last_number xs m.client) ≡ true → IsRising (xs ++ m ∷ [])
rising_append {C} xs m r above = record {
  each = λ k n e. elim (cases_lt k (length xs)) [
    | inl l ↦ subst (λ (a : List (Request C)). is_above n.number (last_number a n.client) ≡ true) (sym (prefix_take k (prefix_append xs (m ∷ [])) (omega arith)))
        (r.each k n (entry_before (prefix_append xs (m ∷ [])) l e))
    | inr g ↦
        let at : k ≡ length xs = omega (arith, e.within, length-append xs (m ∷ [])) in
        let t = take_end xs m k at in
        let same : m ≡ n = last_same xs m n (sym t.1 ∙ e.last ∙ ap (λ a. a ++ n ∷ []) t.0) in
        subst (λ (a : List (Request C)). is_above n.number (last_number a n.client) ≡ true) (sym t.0)
        (subst (λ (x : Request C). is_above x.number (last_number xs x.client) ≡ true) same above)
  ];
}

pub log_nil : {C : Type 0} (asked : List (Request C)) → LogOk asked []
log_nil asked = record { rising = rising_nil; submitted = record { each = λ k m e. absurd (omega (arith, e.within)) } }

pub log_prefix : {C : Type 0} {asked xs ys : List (Request C)} → IsPrefix xs ys → LogOk asked ys → LogOk asked xs
log_prefix p ok = record { rising = rising_prefix p ok.rising; submitted = record { each = λ k m e. ok.submitted.each k m (entry_later p e) } }

pub log_append : {C : Type 0} (asked xs : List (Request C)) (m : Request C) → LogOk asked xs → is_above m.number (last_number xs m.client) ≡ true → IsAmong asked m → LogOk asked (xs ++ m ∷ [])
log_append asked xs m ok above among = record {
  rising = rising_append xs m ok.rising above;
  submitted = record {
    each = λ k n e. elim (cases_lt k (length xs)) [
      | inl l ↦ ok.submitted.each k n (entry_before (prefix_append xs (m ∷ [])) l e)
      | inr g ↦
          let at : k ≡ length xs = omega (arith, e.within, length-append xs (m ∷ [])) in
          let t = take_end xs m k at in
          let same : m ≡ n = last_same xs m n (sym t.1 ∙ e.last ∙ ap (λ a. a ++ n ∷ []) t.0) in
          subst (IsAmong asked) same among
    ];
  };
}

pub log_more : {C : Type 0} {asked more log : List (Request C)} → IsPrefix asked more → LogOk asked log → LogOk more log
log_more p ok = record { rising = ok.rising; submitted = record { each = λ k m e. among_later p (ok.submitted.each k m e) } }
