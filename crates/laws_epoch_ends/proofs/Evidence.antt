-- The evidence with which an epoch is given up: at the moment of the second question f+1 machines were frozen.
use Rattle.std.proofs.Common.{◌≡◌, ℕ, zero, suc, ◌+◌, ◌<◌, ◌≤◌, Bool, true, false, cond, ◌||◌, eqb, List, [], ◌∷◌, ◌++◌, Option, Some, None, refl, sym, ap, ◌∙◌, subst, inl, inr, is_some, arith, fold}
use Rattle.std.specs.Prelude.{count_by, slice_get}
use Rattle.std.proofs.lemmas.Bool.{false≢true, and_parts, leb-true, or_cases, eqb-true, eq-eqb, ne_eqb, cases_eq}
use Rattle.vr_model.specs.Groups.{group_size, how_many}
use Rattle.net_hello.specs.declared.hello.Epoch.{Epoch}
use Rattle.plc_epochs.specs.Recovering as recovering
use Rattle.plc_epochs.specs.Epochs.{is_later}
use Rattle.plc_epochs.specs.GoingOn.{GoesOn, StoreGoesOn}
use Rattle.plc_epochs.specs.Table
use Rattle.plc_epochs.specs.Table.{kept_in}
use Rattle.plc_epochs.specs.declared.kept.Kept.{Kept}
use Rattle.plc_epochs.specs.declared.kept.Kept.TheVariants as keeps
use Rattle.plc_epochs.specs.declared.recovery.Recovery.{Recovery}
use Rattle.plc_epochs.specs.declared.recovery.Question.{Question}
use Rattle.plc_epochs.specs.declared.recovery.Question.TheVariants.{Unasked, First, Second}
use Rattle.plc_epochs.specs.declared.word.Word.{Word}
use Rattle.plc_epochs.specs.declared.word.Word.TheVariants.{StillFrozen}
use Rattle.plc_epochs.specs.declared.cold_start.ColdStart.{ColdStart}
use Rattle.plc_epochs.specs.declared.cold_start.Step.{Step}
use Rattle.plc_epochs.specs.declared.cold_start.Step.TheVariants as steps
use Rattle.laws_epochs.specs.Machines.{WordCame, Move, Takes}
use Rattle.laws_epoch_ends.specs.TrueMoves.{AreTrueMoves, WasAnswered, WordWasSaid, machine_behind}
use Rattle.laws_epoch_ends.specs.Freezing.{IsFrozen, IsFrozenUnder, Recovers, WereFrozen}
use Rattle.laws_epoch_ends.proofs.Lists.{whole}
use Rattle.laws_epoch_ends.proofs.Steps.{recovery_in}
use Rattle.laws_epoch_ends.proofs.Saying.{GivesUp, gives_epoch_up}
use Rattle.laws_epoch_ends.proofs.Moments.{Under, under_lasts, begun_true, early_true, from_then_on, frozen_beyond, in_between}
use Rattle.laws_epoch_ends.proofs.Asking.{Placed, FrozeBy, FrozenBehind, Moment, KnowsIn, Knows, all_know, behind_move, none_know, said_at, second_came}

-- ---- counting

abbrev mark : Option ℕ → ℕ
mark x = cond (is_some x) 1 0

counted_from : (xs : List (Option ℕ)) (n : ℕ) → fold (λ k x. k + mark x) n xs ≡ n + count_by is_some xs
counted_from [] n = omega arith
counted_from (x ∷ xs) n = omega (arith, counted_from xs (n + mark x), counted_from xs (0 + mark x))

shift : (test : ℕ → Bool) (n : ℕ) → how_many test (suc n) ≡ cond (test 0) 1 0 + how_many (λ j. test (suc j)) n
shift test zero = omega arith
shift test (suc n) = omega (arith, shift test n)

abbrev told_in : Option (Option ℕ) → Bool
told_in (Some told) = is_some told
told_in None = false

abbrev has_told : List (Option ℕ) → ℕ → Bool
has_told told j = told_in (slice_get told j)

no_fewer : (xs : List (Option ℕ)) (n : ℕ) → ((j : ℕ) → has_told xs j ≡ true → j < n) → count_by is_some xs ≤ how_many (has_told xs) n
no_fewer [] n low = omega arith
no_fewer (None ∷ xs) zero low = omega (arith, counted_from xs 0, no_fewer xs zero (λ j h. absurd (omega (arith, low (suc j) h))))
no_fewer (Some x ∷ xs) zero low = absurd (omega (arith, low 0 refl))
no_fewer (x ∷ xs) (suc n) low = omega (arith, counted_from xs (0 + mark x), shift (has_told (x ∷ xs)) n, no_fewer xs n (λ j h. omega (arith, low (suc j) h)))

-- one more passes the test
one_more : (p q : ℕ → Bool) (i n : ℕ) → i < n → p i ≡ false → q i ≡ true → ((r : ℕ) → p r ≡ true → q r ≡ true) → how_many p n + 1 ≤ how_many q n
one_more p q i zero l out here all = absurd (omega arith)
one_more p q i (suc n) l out here all = elim (cases_eq i n) [
  | inl e ↦
      let a : cond {A = ℕ} (p n) 1 0 ≡ 0 = ap (λ b. cond b 1 0) (ap p (sym e) ∙ out) in
      let b : cond {A = ℕ} (q n) 1 0 ≡ 1 = ap (λ b. cond b 1 0) (ap q (sym e) ∙ here) in
      omega (arith, more n)
  | inr ne ↦ omega (arith, one_more p q i n (omega arith) out here all, at (p n) (q n) (all n))
]
  where
    at : (a b : Bool) → (a ≡ true → b ≡ true) → cond {A = ℕ} a 1 0 ≤ cond {A = ℕ} b 1 0
    at true b k = let e : b ≡ true = k refl in rw e (omega arith)
    at false b k = omega arith

    more : (n : ℕ) → how_many p n ≤ how_many q n
    more zero = omega arith
    more (suc n) = omega (arith, more n, at (p n) (q n) (all n))

or_second : (s t : Bool) → t ≡ true → (s || t) ≡ true
or_second true t h = refl
or_second false t h = h

-- ---- what each told

abbrev value_in : Option (Option ℕ) → ℕ
value_in (Some (Some x)) = x
value_in (Some None) = 0
value_in None = 0

pub record Told (told : List (Option ℕ)) (j : ℕ) : Type 0 where
  pub value : ℕ
  pub is : slice_get told j ≡ Some (Some value)

told_value : (told : List (Option ℕ)) (j : ℕ) → has_told told j ≡ true → Told told j
told_value told j h = go (slice_get told j) refl h
  where
    go : (o : Option (Option ℕ)) → slice_get told j ≡ o → told_in o ≡ true → Told told j
    go (Some (Some x)) is k = record { value = x; is = is }
    go (Some None) is k = absurd (false≢true k)
    go None is k = absurd (false≢true k)

-- ---- the moment

module _ (f : ℕ) (stores : ℕ → Kept) (i : ℕ) (e : Epoch) (x : ℕ) (low : i < group_size f) where
  abbrev who : List (Option ℕ) → ℕ → Bool
  who still j = eqb j i || has_told still j

  abbrev nonce_of : List (Option ℕ) → ℕ → ℕ
  nonce_of still j = cond (eqb j i) x (value_in (slice_get still j))

  module _ (done : List Move) (h : AreTrueMoves f stores done) (asked still : List (Option ℕ)) (k : Moment f stores done i e x asked still) where
    abbrev moment : List Move
    moment = k.before ++ k.last ∷ []

    frozen_then : (j y : ℕ) → slice_get still j ≡ Some (Some y) → IsFrozen (machine_behind f stores moment j) e y × (j ≡ i → ⊥) × (j < group_size f)
    frozen_then j y is =
        let confirmed = k.still_frozen j y is in
        let froze = k.asked_froze j y confirmed.0 in
        let late : FrozenBehind f stores moment done j e y = confirmed.1 in
        let early : FrozeBy f stores moment j e y = froze.0 in
        (in_between f stores early.early moment late.early j e e y early.within late.behind (begun_true f stores late.early done late.within h) early.frozen late.frozen, froze.1, froze.2)

    told_then : (j : ℕ) → has_told still j ≡ true → (j ≡ i → ⊥) × (j < group_size f)
    told_then j t = let told = told_value still j t in let then = frozen_then j told.value told.is in (then.1, then.2)

    many : f ≤ count_by is_some still → f + 1 ≤ how_many (who still) (group_size f)
    many enough =
        let counted = no_fewer still (group_size f) (λ j t. (told_then j t).1) in
        let more = one_more (has_told still) (who still) i (group_size f) low (untold (has_told still i) refl) (ap (λ t. t || has_told still i) (eq-eqb i i refl)) (λ j t. or_second (eqb j i) (has_told still j) t) in
        omega (arith, counted, enough, more)
      where
        untold : (t : Bool) → has_told still i ≡ t → has_told still i ≡ false
        untold true t = absurd ((told_then i t).0 refl)
        untold false t = t

    frozen_all : (j : ℕ) → who still j ≡ true → IsFrozen (machine_behind f stores moment j) e (nonce_of still j)
    frozen_all j is = elim (or_cases (eqb j i) (has_told still j) is) [
      | inl same ↦
          let own : j ≡ i = eqb-true j i same in
          let nonce : nonce_of still j ≡ x = ap (λ t. cond t x (value_in (slice_get still j))) same in
          subst (λ n. IsFrozen (machine_behind f stores moment j) e n) (sym nonce) (subst (λ n. IsFrozen (machine_behind f stores moment n) e x) (sym own) k.frozen)
      | inr t ↦
          let told = told_value still j t in
          let then = frozen_then j told.value told.is in
          let nonce : nonce_of still j ≡ told.value = ap (λ b. cond b x (value_in (slice_get still j))) (ne_eqb j i then.1) ∙ ap value_in told.is in
          subst (λ n. IsFrozen (machine_behind f stores moment j) e n) (sym nonce) then.0
    ]

    were_frozen : f ≤ count_by is_some still → WereFrozen f stores done e
    were_frozen enough = record {
      early = moment;
      late = k.within.late;
      is = k.within.is;
      who = who still;
      nonces = nonce_of still;
      many = many enough;
      frozen = λ j l is. frozen_all j is;
    }

  by_question : (done : List Move) (q : Question) (least : ℕ) → AreTrueMoves f stores done → least ≡ f → recovering.is_still_frozen_by q least ≡ true → KnowsIn f stores done i e x q → WereFrozen f stores done e
  by_question done Unasked least h same is k = absurd (false≢true is)
  by_question done (First told) least h same is k = absurd (false≢true is)
  by_question done (Second asked still) least h same is k = were_frozen done h asked still k (subst (λ n. n ≤ count_by is_some still) same (leb-true least (count_by is_some still) is))

-- ---- as it gives its epoch up

pub record GaveUp (f : ℕ) (stores : ℕ → Kept) (early : List Move) (i : ℕ) (epoch next : Epoch) : Type 0 where
  pub recovery : Recovery
  pub recovers : Recovers (machine_behind f stores early i) epoch recovery
  pub later : is_later next epoch ≡ true
  pub were_frozen : WereFrozen f stores early epoch

-- a word leaves no store with an epoch before its own
abbrev pub WordsGoOn : Type 0
WordsGoOn = (from now : ℕ) (epoch : Epoch) (word : Word) (a b : ColdStart) (step : Step) → Table.HearsWord from epoch word now a step b → StoreGoesOn a b

pub gave_up : Placed → WordsGoOn → (f : ℕ) (stores : ℕ → Kept) (early : List Move) (i from now : ℕ) (epoch next : Epoch) (word : Word) (becomes : ColdStart)
    → AreTrueMoves f stores (early ++ Takes i (WordCame from epoch word now) (steps.Ends next) becomes ∷ []) → GaveUp f stores early i epoch next
gave_up placed words f stores early i from now epoch next word becomes h =
    let move = Takes i (WordCame from epoch word now) (steps.Ends next) becomes in
    let h0 : AreTrueMoves f stores early = early_true f stores early (move ∷ []) h in
    let may = behind_move f stores (early ++ move ∷ []) early [] i (WordCame from epoch word now) (steps.Ends next) becomes refl h in
    let place = placed f i stores early may.0 h0.may may.1 in
    let g : GivesUp may.0 becomes from epoch next word = gives_epoch_up from epoch word now may.0 becomes next may.3 in
    let knows : Knows f stores early i epoch g.recovery = all_know f stores placed early [] h0 (none_know f stores placed) i may.0 epoch g.recovery may.1 (ap recovery_in g.phase) in
    let answered : WasAnswered early from i epoch (StillFrozen g.answer) = subst (λ w. WordWasSaid f stores early from i epoch w) g.answers (said_at f stores (early ++ move ∷ []) early [] move refl h) in
    let more = second_came f stores early early i from epoch g.recovery g.answer h0 (whole early) answered g.second knows.knows in
    let still = (and_parts (is_some g.recovery.frozen) _ g.evidence).1 in
    record {
      recovery = g.recovery;
      recovers = record { value = may.0; runs = may.1; phase = g.phase };
      later = subst (λ p. GoesOn (keeps.Begun epoch) (kept_in p)) g.enters
          (subst (λ p. GoesOn (kept_in p) (kept_in becomes.phase)) g.phase (words from now epoch word may.0 becomes (steps.Ends next) may.3));
      were_frozen = by_question f stores i epoch g.recovery.nonce place.within early (recovering.with_second_in g.recovery.question from g.answer.nonce) may.0.place.config.f h0 place.group still more;
    }

-- ---- who was frozen under a nonce is so whenever it recovers under it

pub stays_frozen : (f : ℕ) (stores : ℕ → Kept) (early late : List Move) (i : ℕ) (epoch : Epoch) (nonce : ℕ) → AreTrueMoves f stores (early ++ late) → IsFrozen (machine_behind f stores early i) epoch nonce
    → IsFrozenUnder (machine_behind f stores (early ++ late) i) epoch nonce
stays_frozen f stores early late i epoch nonce h k own r recovers same =
    let start = frozen_beyond f stores early i epoch nonce (early_true f stores early late h) k in
    let end = from_then_on f stores (Under f stores epoch nonce) nonce (under_lasts f stores epoch nonce) early (early ++ late) i (record { late = late; is = refl }) h start in
    elim (end.on recovers.value own r recovers.runs (ap recovery_in recovers.phase)) [
      | inl so ↦ (so.0, so.2)
      | inr past ↦ absurd (omega (arith, past, same))
    ]
