-- As a machine begins an epoch, f+1 have come to it.
use Rattle.std.proofs.Common.{◌≡◌, ℕ, zero, suc, ◌+◌, ◌<◌, ◌≤◌, Bool, true, false, cond, ◌||◌, List, [], ◌∷◌, ◌++◌, Option, Some, None, refl, sym, ap, ◌∙◌, subst, inl, inr, is_some, eqb, arith, fold}
use Rattle.std.specs.Prelude.{count_by}
use Rattle.std.proofs.lemmas.Bool.{false≢true, and_parts, leb-true, or_cases, eqb-true, eq-eqb}
use Rattle.std.specs.Cmp.Lexicographic.{bytes_decides}
use Rattle.vr_model.specs.Groups.{group_size, how_many}
use Rattle.laws_history.proofs.Committed.{one_more}
use Rattle.net_hello.specs.declared.hello.Epoch.{Epoch}
use Rattle.plc_epochs.specs.Recovering.{thawed}
use Rattle.plc_epochs.specs.Table
use Rattle.plc_epochs.specs.declared.kept.Kept.{Kept}
use Rattle.plc_epochs.specs.declared.recovery.Recovery.{Recovery}
use Rattle.plc_epochs.specs.declared.cold_start.ColdStart.{ColdStart}
use Rattle.plc_epochs.specs.declared.cold_start.Phase.{Phase}
use Rattle.plc_epochs.specs.declared.cold_start.Phase.TheVariants.{Entered, Recovering}
use Rattle.plc_epochs.specs.declared.cold_start.Step.{Step}
use Rattle.plc_epochs.specs.declared.cold_start.Step.TheVariants as steps
use Rattle.plc_epochs.proofs.GoingOn.{either}
use Rattle.laws_epochs.specs.Machines.{Move, Takes, TimeHasPassed, Machines, AreMoves, after_moves, at_rest}
use Rattle.laws_epochs.specs.Beginnings.{HasCome, MajorityIsPast}
use Rattle.laws_epochs.proofs.Changes.{has_heard, WasHeard}
use Rattle.laws_epochs.proofs.Standing.{CameIn, Fine, GoingOn, Stands, first, over, split, never_back}

-- ---- counting

abbrev mark : Option ℕ → ℕ
mark x = cond (is_some x) 1 0

counted_from : (xs : List (Option ℕ)) (n : ℕ) → fold (λ k x. k + mark x) n xs ≡ n + count_by is_some xs
counted_from [] n = omega arith
counted_from (x ∷ xs) n = omega (arith, counted_from xs (n + mark x), counted_from xs (0 + mark x))

shift : (test : ℕ → Bool) (n : ℕ) → how_many test (suc n) ≡ cond (test 0) 1 0 + how_many (λ j. test (suc j)) n
shift test zero = omega arith
shift test (suc n) = omega (arith, shift test n)

pub no_fewer : (xs : List (Option ℕ)) (n : ℕ) → ((j : ℕ) → has_heard xs j ≡ true → j < n) → count_by is_some xs ≤ how_many (has_heard xs) n
no_fewer [] n low = omega arith
no_fewer (None ∷ xs) zero low = omega (arith, counted_from xs 0, no_fewer xs zero (λ j h. absurd (omega (arith, low (suc j) h))))
no_fewer (Some x ∷ xs) zero low = absurd (omega (arith, low 0 refl))
no_fewer (x ∷ xs) (suc n) low = omega (arith, counted_from xs (0 + mark x), shift (has_heard (x ∷ xs)) n, no_fewer xs n (λ j h. omega (arith, low (suc j) h)))

-- ---- what a machine is that begins an epoch

-- It has entered that epoch, has heard f others in it, and has its image.
pub record Begins (a : ColdStart) (epoch : Epoch) : Type 0 where
  pub heard : List (Option ℕ)
  pub phase : a.phase ≡ Entered epoch heard
  pub many : a.place.config.f ≤ count_by is_some heard
  pub image : epoch.image ≡ a.image

abbrev begun_by : Step → Option Epoch
begun_by (steps.Begins epoch) = Some epoch
begun_by step = None

other_step : {R : Type 0} (step : Step) (epoch : Epoch) → step ≡ steps.Begins epoch → begun_by step ≡ None → R
other_step step epoch is none = absurd (false≢true (ap is_some (sym none ∙ ap begun_by is)))

abbrev epoch_or : Epoch → Option Epoch → Epoch
epoch_or default (Some epoch) = epoch
epoch_or default None = default

entered_begins : (own epoch : Epoch) (heard : List (Option ℕ)) (a b : ColdStart) (step : Step) → a.phase ≡ Entered own heard → step ≡ steps.Begins epoch → Table.LooksEntered own heard a step b → Begins a epoch
entered_begins own epoch heard a b step was is h =
    either (Table.may_begin a own heard) _ _ _ h
    (λ may g.
    let same : own ≡ epoch = ap (λ s. epoch_or own (begun_by s)) (sym g.0 ∙ is) in
    let parts = and_parts _ _ may in
    record {
      heard = heard;
      phase = was ∙ ap (λ e. Entered e heard) same;
      many = leb-true a.place.config.f (count_by is_some heard) parts.0;
      image = ap (λ (e : Epoch). e.image) (sym same) ∙ (bytes_decides own.image a.image).0 parts.1;
    })
    (λ may s. other_step step epoch is (ap begun_by s.0))

recovering_begins : (epoch own : Epoch) (r : Recovery) (now : ℕ) (o : Option Recovery) (a b : ColdStart) (step : Step) → step ≡ steps.Begins epoch → Table.LooksBy own r now o a step b → Begins a epoch
recovering_begins epoch own r now (Some after) a b step is h = other_step step epoch is (ap begun_by h.0)
recovering_begins epoch own r now None a b step is h =
    either (Table.may_ask a r now) _ _ _ h (λ e g. other_step step epoch is (ap begun_by g.0)) (λ e s. other_step step epoch is (ap begun_by s.0))

begins_in : (p : Phase) (now : ℕ) (epoch : Epoch) (a b : ColdStart) (step : Step) → a.phase ≡ p → step ≡ steps.Begins epoch → Table.LooksIn p now a step b → Begins a epoch
begins_in (Entered own heard) now epoch a b step was is h = entered_begins own epoch heard a b step was is h
begins_in (Recovering own r) now epoch a b step was is h = recovering_begins epoch own r now (thawed r a.place.config.f now) a b step is h
begins_in _ now epoch a b step was is h = other_step step epoch is (ap begun_by h.0)

pub begins : (now : ℕ) (epoch : Epoch) (a b : ColdStart) → Table.Looks now a (steps.Begins epoch) b → Begins a epoch
begins now epoch a b h = begins_in a.phase now epoch a b (steps.Begins epoch) refl refl h

-- ---- the majority

-- the one that begins, and those that it has heard
abbrev pub who : ℕ → List (Option ℕ) → ℕ → Bool
who i heard j = eqb j i || has_heard heard j

or_second : (s t : Bool) → t ≡ true → (s || t) ≡ true
or_second true t h = refl
or_second false t h = h

who_hears : (i j : ℕ) (heard : List (Option ℕ)) → has_heard heard j ≡ true → who i heard j ≡ true
who_hears i j heard h = or_second (eqb j i) (has_heard heard j) h

module _ (f i : ℕ) (Came : ℕ → Epoch → Type 0) (epoch : Epoch) (store : Kept) (a : ColdStart) (fine : Fine f Came i store a) (b : Begins a epoch) where
  pub heard_so : (j : ℕ) → has_heard b.heard j ≡ true → (Came j epoch) × (j ≡ i → ⊥) × (j < group_size f)
  heard_so j h = fine.heard epoch j (subst (λ p. WasHeard p epoch j) (sym b.phase) (refl, h))

  unheard : (t : Bool) → has_heard b.heard i ≡ t → has_heard b.heard i ≡ false
  unheard true e = absurd ((heard_so i e).1 refl)
  unheard false e = e

  pub many : f + 1 ≤ how_many (who i b.heard) (group_size f)
  many =
      let counted : count_by is_some b.heard ≤ how_many (has_heard b.heard) (group_size f) = no_fewer b.heard (group_size f) (λ j h. (heard_so j h).2) in
      let enough : f ≤ count_by is_some b.heard = subst (λ n. n ≤ count_by is_some b.heard) fine.group b.many in
      let own : who i b.heard i ≡ true = ap (λ t. t || has_heard b.heard i) (eq-eqb i i refl) in
      let more = one_more (has_heard b.heard) (who i b.heard) i (group_size f) fine.within (unheard (has_heard b.heard i) refl) own (λ j low h. who_hears i j b.heard h) in
      omega (arith, counted, enough, more)

  -- its own store has come to the epoch
  pub own_came : HasCome epoch store
  own_came = fine.greets epoch (ap Table.greeting_in b.phase)

  -- so has each of them, where that's so of those that it has heard
  pub all_came : (Has : ℕ → Type 0) → Has i → ((j : ℕ) → has_heard b.heard j ≡ true → Has j) → (j : ℕ) → who i b.heard j ≡ true → Has j
  all_came Has own others j h = elim (or_cases (eqb j i) (has_heard b.heard j) h) [
    | inl is ↦ subst Has (sym (eqb-true j i is)) own
    | inr heard ↦ others j heard
  ]

pub majority : (f i now : ℕ) (stores : ℕ → Kept) (early : List Move) (epoch : Epoch) (becomes : ColdStart) → GoingOn
    → AreMoves f (at_rest stores) (early ++ Takes i (TimeHasPassed now) (steps.Begins epoch) becomes ∷ [])
    → MajorityIsPast f stores early (Takes i (TimeHasPassed now) (steps.Begins epoch) becomes) epoch
majority f i now stores early epoch becomes goes right =
    let move = Takes i (TimeHasPassed now) (steps.Begins epoch) becomes in
    let parts = split f early (move ∷ []) (at_rest stores) right in
    let before = over f early (at_rest stores) goes (first f stores) parts.0 in
    let w : Machines = after_moves f (at_rest stores) early in
    let may = parts.1.0 in
    let b : Begins may.0 epoch = begins now epoch may.0 becomes may.3 in
    let fine : Fine f (CameIn w) i (w.at i).store may.0 = before.0.each i may.0 may.1 in
    record {
      who = who i b.heard;
      many = many f i (CameIn w) epoch (w.at i).store may.0 fine b;
      past = λ late j all low h. never_back f stores early (move ∷ late) j epoch goes all (all_came f i (CameIn w) epoch (w.at i).store may.0 fine b (λ k. HasCome epoch (w.at k).store) (own_came f i (CameIn w) epoch (w.at i).store may.0 fine b) (λ k heard. (heard_so f i (CameIn w) epoch (w.at i).store may.0 fine b k heard).0) j h);
    }

-- ---- one image

pub one_image : (now later : ℕ) (epoch : Epoch) (a b c d : ColdStart) → Table.Looks now a (steps.Begins epoch) b → Table.Looks later c (steps.Begins epoch) d → a.image ≡ c.image
one_image now later epoch a b c d h k = sym (begins now epoch a b h).image ∙ (begins later epoch c d k).image
