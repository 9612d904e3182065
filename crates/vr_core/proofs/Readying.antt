-- The next of some entries, and the changes that are ready for them.
use Rattle.std.proofs.Common.{◌≡◌, ℕ, zero, suc, ◌+◌, ◌-◌, ◌<◌, ◌≤◌, true, false, cond, List, [], ◌∷◌, ◌++◌, length, get_or, take, drop, reverse, Some, refl, sym, ap, subst, ◌∙◌, arith}
use Rattle.std.specs.Prelude.{slice_get}
use Rattle.std.proofs.lemmas.List.{drop_all, reverse-append}
use Rattle.std.proofs.lemmas.Option.{slice_get-get_or, get_or_from_slice_get}
use Rattle.il_model.specs.declared.command.Command.{Command}
use Rattle.il_model.specs.declared.command.Answer.{Answer}
use Rattle.il_model.specs.Answers.{is_change}
use Rattle.ctl_debugger.specs.Owned.{Owned}
use Rattle.ctl_debugger.specs.Outcome.{outcome}
use Rattle.ctl_debugger.specs.Prepared.{Prepared, IsReady}
use Rattle.vr_model.specs.declared.message.Request as code
use Rattle.vr_model.specs.Logs.{Request}
use Rattle.vr_model.specs.Choices.{commands}
use Rattle.vr_model.specs.Checkpoints.{requests_of}
use Rattle.vr_core.specs.Changes.{changes_in, AllReady, AreReady, Performs}

-- the entries from a place up to another begin with the one there
pub next_of : {X : Type 0} (xs : List X) (k end : ℕ) (x : X) → slice_get xs k ≡ Some x → k < end → drop k (take end xs) ≡ x ∷ drop (k + 1) (take end xs)
next_of xs k end x there lt = go xs k end there lt ∙ ap (λ j. x ∷ drop j (take end xs)) (let n : suc k ≡ k + 1 = omega arith in n)
  where
    go : {X : Type 0} {x : X} (xs : List X) (k end : ℕ) → slice_get xs k ≡ Some x → k < end → drop k (take end xs) ≡ x ∷ drop (suc k) (take end xs)
    go [] k end there lt = absurd cc
    go (y ∷ xs) k zero there lt = absurd (omega arith)
    go {x = x} (y ∷ xs) zero (suc end) there lt = let is : y ≡ x = cc in ap (λ z. z ∷ take end xs) is
    go (y ∷ xs) (suc k) (suc end) there lt = go xs k end there (omega arith)

-- a change has its own, and the others theirs
change_ready : (c : Command) (rest : List Command) (p : Prepared) (ps : List Prepared) → is_change c ≡ true → AllReady (changes_in (c ∷ rest)) (p ∷ ps) → IsReady c p × AllReady (changes_in rest) ps
change_ready c rest p ps e h = subst (λ b. AllReady (cond b (c ∷ changes_in rest) (changes_in rest)) (p ∷ ps)) e h

pub as_change : (c : Command) (rest : List Command) (ps : List Prepared) → is_change c ≡ true → AllReady (changes_in (c ∷ rest)) ps → AllReady (c ∷ changes_in rest) ps
as_change c rest ps e h = subst (λ b. AllReady (cond b (c ∷ changes_in rest) (changes_in rest)) ps) e h

pub as_other : (c : Command) (rest : List Command) (ps : List Prepared) → is_change c ≡ false → AllReady (changes_in (c ∷ rest)) ps → AllReady (changes_in rest) ps
as_other c rest ps e h = subst (λ b. AllReady (cond b (c ∷ changes_in rest) (changes_in rest)) ps) e h

-- and the way back
one_more_change : (c : Command) (rest : List Command) (p : Prepared) (ps : List Prepared) → is_change c ≡ true → IsReady c p → AllReady (changes_in rest) ps → AllReady (changes_in (c ∷ rest)) (p ∷ ps)
one_more_change c rest p ps e is more = subst (λ b. AllReady (cond b (c ∷ changes_in rest) (changes_in rest)) (p ∷ ps)) (sym e) (is, more)

one_more_other : (c : Command) (rest : List Command) (ps : List Prepared) → is_change c ≡ false → AllReady (changes_in rest) ps → AllReady (changes_in (c ∷ rest)) ps
one_more_other c rest ps e more = subst (λ b. AllReady (cond b (c ∷ changes_in rest) (changes_in rest)) ps) (sym e) more

-- ---- performing

-- there is one for a change
pub none_ready : (c : Command) (rest : List Command) (ps : List Prepared) → ps ≡ [] → AllReady (c ∷ changes_in rest) ps → ⊥
none_ready c rest ps none h = subst (AllReady (c ∷ changes_in rest)) none h

pub change_performed : (old new : Owned) (c : Command) (rest : List Command) (ps left : List Prepared) (p : Prepared) (given : Answer) → ps ≡ p ∷ left
    → ((d : Command) → IsReady d p → (given, new) ≡ outcome old d) → AllReady (c ∷ changes_in rest) ps → Performs old c rest new left (Some given)
change_performed old new c rest ps left p given is does h =
    let k : IsReady c p × AllReady (changes_in rest) left = subst (AllReady (c ∷ changes_in rest)) is h in
    record { answer = given; given = refl; does = does c k.0; others = k.1 }

pub other_performed : (old new : Owned) (c : Command) (rest : List Command) (ps : List Prepared) (given : Answer) → is_change c ≡ false → (given, new) ≡ outcome old c → AllReady (changes_in (c ∷ rest)) ps → Performs old c rest new ps (Some given)
other_performed old new c rest ps given e does h = record { answer = given; given = refl; does = does; others = as_other c rest ps e h }

-- ---- preparing, from the last entry to the first

drop_at : {X : Type 0} (xs : List X) (n : ℕ) (x : X) → slice_get xs n ≡ Some x → drop n xs ≡ x ∷ drop (suc n) xs
drop_at [] n x e = absurd cc
drop_at (y ∷ xs) zero x e = let is : y ≡ x = cc in ap (λ z. z ∷ xs) is
drop_at (y ∷ xs) (suc n) x e = drop_at xs n x e

-- the changes from this entry on are ready, if those of what comes behind are
abbrev pub AreReadyFrom : List code.Request → List Prepared → ℕ → List Prepared → Type 0
AreReadyFrom entries behind n ps = (rest : List (Request Command)) → AreReady rest behind → AreReady (requests_of (drop n entries) ++ rest) ps

pub none_from : (entries : List code.Request) (behind : List Prepared) (n : ℕ) → n ≡ length entries → AreReadyFrom entries behind n behind
none_from entries behind n e rest h = subst (λ (es : List code.Request). AreReady (requests_of es ++ rest) behind) (sym (drop_all n entries (omega arith))) h

pub change_from : (entries : List code.Request) (behind : List Prepared) (n k : ℕ) (m : code.Request) (items more : List Prepared) (p : Prepared) → k ≡ suc n → slice_get entries n ≡ Some m → is_change m.command ≡ true → IsReady m.command p
    → more ≡ items ++ p ∷ [] → AreReadyFrom entries behind k (reverse items) → AreReadyFrom entries behind n (reverse more)
change_from entries behind n k m items more p is there e ready longer h rest given =
    let after : AreReady (requests_of (drop (suc n) entries) ++ rest) (reverse items) = subst (λ (j : ℕ). AreReady (requests_of (drop j entries) ++ rest) (reverse items)) is (h rest given) in
    let here : AreReady (requests_of (m ∷ drop (suc n) entries) ++ rest) (p ∷ reverse items) = one_more_change m.command (commands (requests_of (drop (suc n) entries) ++ rest)) p (reverse items) e ready after in
    subst (λ (es : List code.Request). AreReady (requests_of es ++ rest) (reverse more)) (sym (drop_at entries n m there))
    (subst (λ qs. AreReady (requests_of (m ∷ drop (suc n) entries) ++ rest) qs) (sym (ap reverse longer ∙ reverse-append items (p ∷ []))) here)

pub other_from : (entries : List code.Request) (behind : List Prepared) (n k : ℕ) (m : code.Request) (ps : List Prepared) → k ≡ suc n → slice_get entries n ≡ Some m → is_change m.command ≡ false → AreReadyFrom entries behind k ps → AreReadyFrom entries behind n ps
other_from entries behind n k m ps is there e h rest given =
    let after : AreReady (requests_of (drop (suc n) entries) ++ rest) ps = subst (λ (j : ℕ). AreReady (requests_of (drop j entries) ++ rest) ps) is (h rest given) in
    subst (λ (es : List code.Request). AreReady (requests_of es ++ rest) ps) (sym (drop_at entries n m there)) (one_more_other m.command (commands (requests_of (drop (suc n) entries) ++ rest)) ps e after)

-- as a loop reads the entry before
module _ (entries : List code.Request) (behind : List Prepared) (k : ℕ) (d : code.Request) (above : 0 < k) (within : k ≤ length entries) where
  there : slice_get entries (k - 1) ≡ Some (get_or entries (k - 1) d)
  there = slice_get-get_or entries (k - 1) d (omega arith)

  next : k ≡ suc (k - 1)
  next = omega arith

  pub change_before : (e : code.Request) (items more : List Prepared) (p : Prepared) → is_change (get_or entries (k - 1) d).command ≡ true → IsReady (get_or entries (k - 1) e).command p → more ≡ items ++ p ∷ []
      → AreReadyFrom entries behind k (reverse items) → AreReadyFrom entries behind (k - 1) (reverse more)
  change_before e items more p is ready longer h =
      change_from entries behind (k - 1) k (get_or entries (k - 1) d) items more p next there is
      (subst (λ (m : code.Request). IsReady m.command p) (get_or_from_slice_get entries (k - 1) (get_or entries (k - 1) d) e there) ready) longer h

  pub other_before : (ps : List Prepared) → is_change (get_or entries (k - 1) d).command ≡ false → AreReadyFrom entries behind k ps → AreReadyFrom entries behind (k - 1) ps
  other_before ps is h = other_from entries behind (k - 1) k (get_or entries (k - 1) d) ps next there is h
