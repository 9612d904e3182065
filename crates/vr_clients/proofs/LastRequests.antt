-- The last request of a client in a log, once one more entry is in it.
use Rattle.std.proofs.Common.{◌≡◌, ℕ, suc, ◌+◌, ◌<◌, ◌≤◌, max, Bool, true, false, cond, eqb, ◌&&◌, List, [], ◌∷◌, ◌++◌, length, take, Option, Some, None, arith, refl, ap, ◌∙◌, sym, subst}
use Rattle.std.specs.Prelude.{slice_get}
use Rattle.std.specs.Option.{option_map}
use Rattle.std.proofs.lemmas.Grind.{common_steps}
use Rattle.std.proofs.lemmas.Bool.{eq-eqb, ne_eqb, eqb-true, eqb-false, ltb-true, ltb-false, lt-ltb}
use Rattle.std.proofs.lemmas.Option.{same_Some}
use Rattle.std.proofs.lemmas.List.{take-append-le}
use Rattle.il_model.specs.declared.command.Command.{Command}
use Rattle.il_model.specs.declared.command.Answer.{Answer}
use Rattle.vr_model.specs.Logs.{Request, last_number, greater, is_above}
use Rattle.vr_model.specs.Choices.{commands, place_of}
use Rattle.vr_clients.specs.declared.clients.Client.{Client}
use Rattle.vr_model.specs.declared.log.Executed.{Executed}
use Rattle.vr_clients.specs.Clients.{answered, number_of, executed_with, last_executed}

-- the entry's number, if it is the client's
abbrev pub own_number : {C : Type 0} → Request C → ℕ → Option ℕ
own_number m c = cond (eqb m.client c) (Some m.number) None

greater_none : (a : Option ℕ) → greater a None ≡ a
greater_none None = refl
greater_none (Some a) = refl

greater_assoc : (a b c : Option ℕ) → greater a (greater b c) ≡ greater (greater a b) c
greater_assoc None b c = refl
greater_assoc (Some a) None c = refl
greater_assoc (Some a) (Some b) None = refl
greater_assoc (Some a) (Some b) (Some c) = let e : max a (max b c) ≡ max (max a b) c = omega arith in ap (λ n. Some n) e

pub last_more : {C : Type 0} (xs : List (Request C)) (m : Request C) (c : ℕ) → last_number (xs ++ m ∷ []) c ≡ greater (last_number xs c) (own_number m c)
last_more [] m c = greater_none (own_number m c)
last_more (x ∷ xs) m c = ap (greater (own_number x c)) (last_more xs m c) ∙ greater_assoc (own_number x c) (last_number xs c) (own_number m c)

pub last_more_other : {C : Type 0} (xs : List (Request C)) (m : Request C) (c : ℕ) → (m.client ≡ c → ⊥) → last_number (xs ++ m ∷ []) c ≡ last_number xs c
last_more_other xs m c ne = last_more xs m c ∙ ap (greater (last_number xs c)) (ap (λ b. cond b (Some m.number) None) (ne_eqb m.client c ne)) ∙ greater_none (last_number xs c)

pub last_more_own : {C : Type 0} (xs : List (Request C)) (m : Request C) (c : ℕ) → m.client ≡ c → last_number (xs ++ m ∷ []) c ≡ greater (last_number xs c) (Some m.number)
last_more_own xs m c e = last_more xs m c ∙ ap (greater (last_number xs c)) (ap (λ b. cond b (Some m.number) None) (eq-eqb m.client c e))

greater_other : (n s : ℕ) (o : Option ℕ) → greater (Some n) o ≡ Some s → (n ≡ s → ⊥) → o ≡ Some s
greater_other n s None e ne = absurd (ne (same_Some n s e))
greater_other n s (Some b) e ne = let k : max n b ≡ s = same_Some (max n b) s e in let d : b ≡ s = omega arith in ap (λ x. Some x) d

-- the number that is the last has a place
pub found : {C : Type 0} (xs : List (Request C)) (c s : ℕ) → last_number xs c ≡ Some s → place_of xs c s < length xs
found [] c s e = absurd cc
found {C} (x ∷ xs) c s e = go (λ d. found xs c s d) (eqb x.client c) refl (eqb x.number s) refl
  where
    go : (last_number xs c ≡ Some s → place_of xs c s < length xs) → (a : Bool) → eqb x.client c ≡ a → (b : Bool) → eqb x.number s ≡ b → place_of (x ∷ xs) c s < suc (length xs)
    go later true ea true eb = rw (ea, eb) (omega arith)
    go later true ea false eb =
        let p : greater (Some x.number) (last_number xs c) ≡ Some s = ap (λ t. greater (cond t (Some x.number) None) (last_number xs c)) (sym ea) ∙ e in
        let k : place_of xs c s < length xs = later (greater_other x.number s (last_number xs c) p (eqb-false x.number s eb)) in rw (ea, eb) (omega arith)
    go later false ea b eb =
        let p : last_number xs c ≡ Some s = ap (λ t. greater (cond t (Some x.number) None) (last_number xs c)) (sym ea) ∙ e in
        let k : place_of xs c s < length xs = later p in rw ea (omega arith)

-- a place stays when the log grows
pub place_stays : {C : Type 0} (xs ys : List (Request C)) (c s : ℕ) → place_of xs c s < length xs → place_of (xs ++ ys) c s ≡ place_of xs c s
place_stays [] ys c s l = absurd (omega arith)
place_stays {C} (x ∷ xs) ys c s l = go (λ k. place_stays xs ys c s k) (eqb x.client c && eqb x.number s) refl
  where
    go : (place_of xs c s < length xs → place_of (xs ++ ys) c s ≡ place_of xs c s) → (t : Bool) → (eqb x.client c && eqb x.number s) ≡ t → place_of ((x ∷ xs) ++ ys) c s ≡ place_of (x ∷ xs) c s
    go later true e = rw e refl
    go later false e = let k : suc (place_of xs c s) < suc (length xs) = subst (λ t. cond t 0 (suc (place_of xs c s)) < suc (length xs)) e l in rw e (ap (λ n. suc n) (later (omega arith)))

above_later : (s : ℕ) (a b : Option ℕ) → is_above s (greater a b) ≡ true → is_above s b ≡ true
above_later s None b e = e
above_later s (Some a) None e = refl
above_later s (Some a) (Some b) e = let k : max a b < s = ltb-true (max a b) s e in lt-ltb b s (omega arith)

above_own : (s n : ℕ) (b : Option ℕ) → is_above s (greater (Some n) b) ≡ true → n ≡ s → ⊥
above_own s n None e d = let k : n < s = ltb-true n s e in omega arith
above_own s n (Some b) e d = let k : max n b < s = ltb-true (max n b) s e in omega arith

-- a number above the last has its place at the end
pub placed_last : {C : Type 0} (xs : List (Request C)) (m : Request C) (c : ℕ) → m.client ≡ c → is_above m.number (last_number xs c) ≡ true → place_of (xs ++ m ∷ []) c m.number ≡ length xs
placed_last [] m c e above = rw (eq-eqb m.client c e, eq-eqb m.number m.number refl) refl
placed_last {C} (x ∷ xs) m c e above = go (λ k. placed_last xs m c e k) (eqb x.client c) refl (eqb x.number m.number) refl
  where
    go : (is_above m.number (last_number xs c) ≡ true → place_of (xs ++ m ∷ []) c m.number ≡ length xs) → (a : Bool) → eqb x.client c ≡ a → (b : Bool) → eqb x.number m.number ≡ b
        → place_of ((x ∷ xs) ++ m ∷ []) c m.number ≡ suc (length xs)
    go later true ea true eb =
        let p : is_above m.number (greater (Some x.number) (last_number xs c)) ≡ true = ap (λ t. is_above m.number (greater (cond t (Some x.number) None) (last_number xs c))) (sym ea) ∙ above in
        absurd (above_own m.number x.number (last_number xs c) p (eqb-true x.number m.number eb))
    go later true ea false eb = rw (ea, eb) (ap (λ n. suc n) (later (above_later m.number (own_number x c) (last_number xs c) above)))
    go later false ea b eb = rw ea (ap (λ n. suc n) (later (above_later m.number (own_number x c) (last_number xs c) above)))

-- the last request stays, where its number does
pub executed_stays : (answer : List Command → Answer) (xs ys : List (Request Command)) (c : ℕ) → last_number (xs ++ ys) c ≡ last_number xs c → last_executed answer (xs ++ ys) c ≡ last_executed answer xs c
executed_stays answer xs ys c e = ap (λ o. option_map (executed_with answer (xs ++ ys) c) o) e ∙ go (last_number xs c) refl
  where
    go : (o : Option ℕ) → last_number xs c ≡ o → option_map (executed_with answer (xs ++ ys) c) o ≡ option_map (executed_with answer xs c) o
    go None d = refl
    go (Some s) d =
        let l : place_of xs c s < length xs = found xs c s d in
        let same : take (place_of (xs ++ ys) c s + 1) (xs ++ ys) ≡ take (place_of xs c s + 1) xs = ap (λ p. take (p + 1) (xs ++ ys)) (place_stays xs ys c s l) ∙ take-append-le (place_of xs c s + 1) xs ys (omega arith) in
        ap (λ t. let x : Executed = record { number = s; answer = answer (commands t) } in Some x) same

take_all : {X : Type 0} (xs : List X) (n : ℕ) → length xs ≤ n → take n xs ≡ xs
take_all xs n l = grind (arith, common_steps)

pub number_is : (answer : List Command → Answer) (xs : List (Request Command)) (c : ℕ) (o : Option ℕ) → number_of (option_map (executed_with answer xs c) o) ≡ o
number_is answer xs c None = refl
number_is answer xs c (Some s) = refl

-- one more request of the client was executed, and is its last where its number is above the last
pub executed_own : (answer : List Command → Answer) (xs : List (Request Command)) (m : Request Command) (c : ℕ) (k : Client) → m.client ≡ c → k.executed ≡ last_executed answer xs c
    → (answered k m.number (answer (commands (xs ++ m ∷ [])))).executed ≡ last_executed answer (xs ++ m ∷ []) c
executed_own answer xs m c k its e = go (is_above m.number (last_number xs c)) refl
  where
    number_known : number_of k.executed ≡ last_number xs c
    number_known = ap number_of e ∙ number_is answer xs c (last_number xs c)

    now : Executed
    now = record { number = m.number; answer = answer (commands (xs ++ m ∷ [])) }

    unfold_answered : (b : Bool) → is_above m.number (last_number xs c) ≡ b → answered k m.number (answer (commands (xs ++ m ∷ []))) ≡ cond b (record k { executed = Some now }) k
    unfold_answered b d = ap (λ t. cond t (record k { executed = Some now }) k) (ap (is_above m.number) number_known ∙ d)

    rises : (o : Option ℕ) → is_above m.number o ≡ true → greater o (Some m.number) ≡ Some m.number
    rises None d = refl
    rises (Some a) d = let l : a < m.number = ltb-true a m.number d in let z : max a m.number ≡ m.number = omega arith in ap (λ n. Some n) z

    stays : (o : Option ℕ) → is_above m.number o ≡ false → greater o (Some m.number) ≡ o
    stays None d = absurd cc
    stays (Some a) d = let l : m.number ≤ a = ltb-false a m.number d in let z : max a m.number ≡ a = omega arith in ap (λ n. Some n) z

    whole : length (xs ++ m ∷ []) ≤ length xs + 1
    whole = grind (arith, common_steps)

    go : (b : Bool) → is_above m.number (last_number xs c) ≡ b → (answered k m.number (answer (commands (xs ++ m ∷ [])))).executed ≡ last_executed answer (xs ++ m ∷ []) c
    go true d =
        let last : last_number (xs ++ m ∷ []) c ≡ Some m.number = last_more_own xs m c its ∙ rises (last_number xs c) d in
        let same : take (place_of (xs ++ m ∷ []) c m.number + 1) (xs ++ m ∷ []) ≡ xs ++ m ∷ [] = ap (λ p. take (p + 1) (xs ++ m ∷ [])) (placed_last xs m c its d) ∙ take_all (xs ++ m ∷ []) (length xs + 1) whole in
        ap (λ x. x.executed) (unfold_answered true d)
        ∙ ap (λ t. let x : Executed = record { number = m.number; answer = answer (commands t) } in Some x) (sym same)
        ∙ ap (option_map (executed_with answer (xs ++ m ∷ []) c)) (sym last)
    go false d = ap (λ x. x.executed) (unfold_answered false d) ∙ e ∙ sym (executed_stays answer xs (m ∷ []) c (last_more_own xs m c its ∙ stays (last_number xs c) d))

-- one more request of another client was executed
pub executed_other : (answer : List Command → Answer) (xs : List (Request Command)) (m : Request Command) (c : ℕ) → (m.client ≡ c → ⊥) → last_executed answer (xs ++ m ∷ []) c ≡ last_executed answer xs c
executed_other answer xs m c ne = executed_stays answer xs (m ∷ []) c (last_more_other xs m c ne)

-- what is found in a prefix of the log has its place there
pub place_before : {C : Type 0} (xs ys : List (Request C)) (c s : ℕ) → place_of (xs ++ ys) c s < length xs → place_of xs c s < length xs
place_before [] ys c s l = absurd (omega arith)
place_before {C} (x ∷ xs) ys c s l = go (λ k. place_before xs ys c s k) (eqb x.client c && eqb x.number s) refl
  where
    go : (place_of (xs ++ ys) c s < length xs → place_of xs c s < length xs) → (t : Bool) → (eqb x.client c && eqb x.number s) ≡ t → place_of (x ∷ xs) c s < suc (length xs)
    go later true e = rw e (omega arith)
    go later false e =
        let k : suc (place_of (xs ++ ys) c s) < suc (length xs) = subst (λ t. cond t 0 (suc (place_of (xs ++ ys) c s)) < suc (length xs)) e l in
        let d : place_of xs c s < length xs = later (omega arith) in rw e (omega arith)

-- the entry at a place is that of the client, with that number
pub record IsPlaced {C : Type 0} (log : List (Request C)) (c s place : ℕ) : Type 0 where
  pub entry : Request C
  pub is : slice_get log place ≡ Some entry
  pub client : entry.client ≡ c
  pub number : entry.number ≡ s

pub placed : {C : Type 0} (xs : List (Request C)) (c s : ℕ) → place_of xs c s < length xs → IsPlaced xs c s (place_of xs c s)
placed [] c s l = absurd (omega arith)
placed {C} (x ∷ xs) c s l = go (λ k. placed xs c s k) (eqb x.client c) refl (eqb x.number s) refl
  where
    next : IsPlaced xs c s (place_of xs c s) → IsPlaced (x ∷ xs) c s (suc (place_of xs c s))
    next p = record { entry = p.entry; is = p.is; client = p.client; number = p.number }

    go : (place_of xs c s < length xs → IsPlaced xs c s (place_of xs c s)) → (a : Bool) → eqb x.client c ≡ a → (b : Bool) → eqb x.number s ≡ b → IsPlaced (x ∷ xs) c s (place_of (x ∷ xs) c s)
    go later true ea true eb = rw (ea, eb) (record { entry = x; is = refl; client = eqb-true x.client c ea; number = eqb-true x.number s eb })
    go later true ea false eb = let k : suc (place_of xs c s) < suc (length xs) = subst (λ t. cond t 0 (suc (place_of xs c s)) < suc (length xs)) (ap (λ t. t && eqb x.number s) ea ∙ eb) l in rw (ea, eb) (next (later (omega arith)))
    go later false ea b eb = let k : suc (place_of xs c s) < suc (length xs) = subst (λ t. cond t 0 (suc (place_of xs c s)) < suc (length xs)) (ap (λ t. t && eqb x.number s) ea) l in rw ea (next (later (omega arith)))

greater_at_least : (n : ℕ) (o : Option ℕ) → (m : ℕ) × (greater (Some n) o ≡ Some m) × (n ≤ m)
greater_at_least n None = (n, refl, omega arith)
greater_at_least n (Some b) = (max n b, refl, omega arith)

-- a number with a place is at most the last
pub at_most_last : {C : Type 0} (xs : List (Request C)) (c s : ℕ) → place_of xs c s < length xs → (m : ℕ) × (last_number xs c ≡ Some m) × (s ≤ m)
at_most_last [] c s l = absurd (omega arith)
at_most_last {C} (x ∷ xs) c s l = go (λ k. at_most_last xs c s k) (eqb x.client c) refl (eqb x.number s) refl
  where
    go : (place_of xs c s < length xs → (m : ℕ) × (last_number xs c ≡ Some m) × (s ≤ m)) → (a : Bool) → eqb x.client c ≡ a → (b : Bool) → eqb x.number s ≡ b → (m : ℕ) × (last_number (x ∷ xs) c ≡ Some m) × (s ≤ m)
    go later true ea true eb =
        let g = greater_at_least x.number (last_number xs c) in
        let n : x.number ≡ s = eqb-true x.number s eb in
        let k : x.number ≤ g.0 = g.2 in
        (g.0, ap (λ t. greater (cond t (Some x.number) None) (last_number xs c)) ea ∙ g.1, omega arith)
    go later true ea false eb =
        let k : suc (place_of xs c s) < suc (length xs) = subst (λ t. cond t 0 (suc (place_of xs c s)) < suc (length xs)) (ap (λ t. t && eqb x.number s) ea ∙ eb) l in
        let q = later (omega arith) in
        let d : s ≤ q.0 = q.2 in
        let both : max x.number q.0 ≡ max x.number q.0 = refl in
        (max x.number q.0, ap (λ t. greater (cond t (Some x.number) None) (last_number xs c)) ea ∙ ap (greater (Some x.number)) q.1, omega arith)
    go later false ea b eb =
        let k : suc (place_of xs c s) < suc (length xs) = subst (λ t. cond t 0 (suc (place_of xs c s)) < suc (length xs)) (ap (λ t. t && eqb x.number s) ea) l in
        let q = later (omega arith) in
        (q.0, ap (λ t. greater (cond t (Some x.number) None) (last_number xs c)) ea ∙ q.1, q.2)

-- the last of a prefix is at most the last of the whole
pub last_rises : {C : Type 0} (xs ys : List (Request C)) (c a s : ℕ) → last_number xs c ≡ Some a → last_number (xs ++ ys) c ≡ Some s → a ≤ s
last_rises {C} xs ys c a s e d =
    let g = greater_at_least a (last_number ys c) in
    let k : a ≤ g.0 = g.2 in
    let m : g.0 ≡ s = same_Some g.0 s (sym g.1 ∙ ap (λ o. greater o (last_number ys c)) (sym e) ∙ sym (last_append xs) ∙ d) in omega arith
  where
    last_append : (zs : List (Request C)) → last_number (zs ++ ys) c ≡ greater (last_number zs c) (last_number ys c)
    last_append [] = refl
    last_append (x ∷ zs) = ap (greater (own_number x c)) (last_append zs) ∙ greater_assoc (own_number x c) (last_number zs c) (last_number ys c)
