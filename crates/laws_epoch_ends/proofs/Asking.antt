-- A machine that asks, and the moment of its second question: all that it asks then froze before, and who confirms it is
-- still frozen behind it.
use Rattle.std.proofs.Common.{◌≡◌, ℕ, ◌<◌, Bool, true, false, not, ltb, List, [], ◌∷◌, ◌++◌, Option, Some, None, refl, sym, ap, ◌∙◌, subst, inl, inr, is_some, arith, append_assoc, append-nil}
use Rattle.std.specs.Prelude.{slice_get, ◌==◌}
use Rattle.std.proofs.lemmas.Bool.{false≢true, and_parts, not-true, eq-eqb, eqb-true, ltb-true}
use Rattle.std.proofs.lemmas.Option.{same_Some}
use Rattle.vr_model.specs.Groups.{group_size}
use Rattle.vr_model.specs.Replicas.{put}
use Rattle.net_hello.specs.declared.hello.Epoch.{Epoch}
use Rattle.plc_epochs.specs.Epochs.{has_told, is_word}
use Rattle.plc_epochs.specs.Recovering as recovering
use Rattle.plc_epochs.specs.Recovering.{recovering_under}
use Rattle.plc_epochs.specs.Table.{is_other, phase_from, question_in, spoken_in}
use Rattle.plc_epochs.specs.declared.kept.Kept.{Kept}
use Rattle.plc_epochs.specs.declared.kept.Kept.TheVariants as keeps
use Rattle.plc_epochs.specs.declared.recovery.Recovery.{Recovery}
use Rattle.plc_epochs.specs.declared.recovery.Question.{Question}
use Rattle.plc_epochs.specs.declared.recovery.Question.TheVariants.{Unasked, First, Second}
use Rattle.plc_epochs.specs.declared.word.Answer.{Answer}
use Rattle.plc_epochs.specs.declared.word.Word.{Word}
use Rattle.plc_epochs.specs.declared.word.Word.TheVariants.{Frozen, Confirm, StillFrozen}
use Rattle.plc_epochs.specs.declared.cold_start.ColdStart.{ColdStart}
use Rattle.plc_epochs.specs.declared.cold_start.Phase.{Phase}
use Rattle.plc_epochs.specs.declared.cold_start.Phase.TheVariants.{Waiting, Above, Entering, Entered, Beginning, TakingPart, Recovering}
use Rattle.plc_epochs.specs.declared.cold_start.Step.{Step}
use Rattle.laws_epochs.specs.Machines.{Telling, WordCame, Follows, Move, Starts, Takes, Greets, Writes, Stops, GoesByHand, Machine, Machines, to_write, May, after_move, AreMoves, after_moves, at_rest}
use Rattle.laws_epochs.specs.Beginnings.{IsPlaced}
use Rattle.laws_epoch_ends.specs.TrueMoves.{AllWereSaid, MoveIsTrue, AreTrueMoves, WasAnswered, WasAsked, WordWasSaid, machine_behind}
use Rattle.laws_epoch_ends.specs.Freezing.{IsFrozen}
use Rattle.laws_epoch_ends.proofs.Lists.{Begins, chain, either_way, nothing_is_told, put_cases, told_more, whole}
use Rattle.laws_epoch_ends.proofs.Steps.{Change, Stays, Thaws, Asks, Freezes, HearsFirst, AsksAgain, HearsSecond, Recovered, came_about, no_value, phase_of, recovery_in}
use Rattle.laws_epoch_ends.proofs.Nonces.{Beyond, is_second, least_after_moves}
use Rattle.laws_epoch_ends.proofs.Saying.{Confirmed, Froze, said}
use Rattle.laws_epoch_ends.proofs.Moments.{Asked, asked_lasts, begun_true, beyond_now, early_true, from_then_on, joined, split_may}

-- ---- what a machine is behind a move

pub data NowRuns (f : ℕ) (w : Machines) (m : Move) (i : ℕ) (a : ColdStart) : Type 0 where
  AsBefore : (w.at i).runs ≡ Some a → NowRuns f w m i a
  Started : (store : Kept) (nonce since : ℕ) → a.phase ≡ phase_from store nonce since → NowRuns f w m i a
  Took : (telling : Telling) (step : Step) (b : ColdStart) → m ≡ Takes i telling step a → (w.at i).runs ≡ Some b → Follows telling (w.at i).store b step a → NowRuns f w m i a

module _ (f : ℕ) (w : Machines) (i : ℕ) (a : ColdStart) where
  changed : (move : Move) (j : ℕ) (m : Machine) → (i ≡ j → m.runs ≡ Some a → NowRuns f w move i a) → (put w.at j m i).runs ≡ Some a → NowRuns f w move i a
  changed move j m here = put_cases w.at j m i (λ (x : Machine). x.runs ≡ Some a → NowRuns f w move i a) here (λ other. AsBefore)

  pub now_runs : (m : Move) → May f w m → ((after_move f w m).at i).runs ≡ Some a → NowRuns f w m i a
  now_runs (Starts j place image count since becomes) may h =
      changed (Starts j place image count since becomes) j (record { store = (w.at j).store; runs = Some becomes })
      (λ is runs. Started (w.at j).store (recovering.first_nonce count) since (ap (λ (x : ColdStart). x.phase) (sym (same_Some becomes a runs)) ∙ may.4.2)) h
  now_runs (Takes j telling step becomes) may h =
      changed (Takes j telling step becomes) j (record { store = (w.at j).store; runs = Some becomes })
      (λ is runs.
      let same : becomes ≡ a = same_Some becomes a runs in
      subst (λ n. NowRuns f w (Takes j telling step becomes) n a) (sym is)
      (subst (λ x. NowRuns f w (Takes j telling step becomes) j x) same (Took telling step may.0 refl may.1 may.3))) h
  now_runs (Greets j epoch) may h = AsBefore h
  now_runs (Writes j) may h =
      changed (Writes j) j (record { store = to_write (w.at j).store (w.at j).runs; runs = (w.at j).runs }) (λ is runs. AsBefore (subst (λ n. (w.at n).runs ≡ Some a) (sym is) runs)) h
  now_runs (Stops j) may h = changed (Stops j) j (record { store = (w.at j).store; runs = None }) (λ is runs. no_value None a refl runs) h
  now_runs (GoesByHand j image has) may h = changed (GoesByHand j image has) j (record { store = has; runs = None }) (λ is runs. no_value None a refl runs) h

took_runs : (f : ℕ) (w : Machines) (i : ℕ) (telling : Telling) (step : Step) (a : ColdStart) → ((after_move f w (Takes i telling step a)).at i).runs ≡ Some a
took_runs f w i telling step a = put_cases w.at i (record { store = (w.at i).store; runs = Some a }) i (λ (x : Machine). x.runs ≡ Some a) (λ is. refl) (λ other. absurd (other refl))

-- whoever is up knows its place
abbrev pub Placed : Type 0
Placed = (f i : ℕ) (stores : ℕ → Kept) (moves : List Move) (a : ColdStart) → AreMoves f (at_rest stores) moves → ((after_moves f (at_rest stores) moves).at i).runs ≡ Some a → IsPlaced f i a

-- ---- words

-- who asks to confirm has asked a second time, under the nonce of its question
pub record SecondAsked (p : Phase) (question : ℕ) : Type 0 where
  pub own : Epoch
  pub recovery : Recovery
  pub phase : p ≡ Recovering own recovery
  pub nonce : recovery.nonce ≡ question
  pub second : is_second recovery.question ≡ true

abbrev confirm_of : ℕ → Word → ℕ
confirm_of n (Confirm question asked) = question
confirm_of n _ = n

abbrev is_confirm : Word → Bool
is_confirm (Confirm question asked) = true
is_confirm _ = false

second_by : (q : Question) (own : Epoch) (r : Recovery) (p : Phase) (question : ℕ) (asked : List (Option ℕ)) → r.question ≡ q → p ≡ Recovering own r → recovering.question_word r.nonce q ≡ Some (Confirm question asked) → SecondAsked p question
second_by Unasked own r p question asked is was h = no_value None _ refl h
second_by (First frozen) own r p question asked is was h = absurd (false≢true (ap is_confirm (same_Some _ _ h)))
second_by (Second told still) own r p question asked is was h =
    record { own = own; recovery = r; phase = was; nonce = ap (confirm_of r.nonce) (same_Some _ _ h); second = ap is_second is }

second_asked : (p : Phase) (question : ℕ) (asked : List (Option ℕ)) → question_in p ≡ Some (Confirm question asked) → SecondAsked p question
second_asked (Recovering own r) question asked h = second_by r.question own r (Recovering own r) question asked refl refl h
second_asked (Waiting heard above) question asked h = no_value None _ refl h
second_asked (Above above) question asked h = no_value None _ refl h
second_asked (Entering own heard) question asked h = no_value None _ refl h
second_asked (Entered own heard) question asked h = no_value None _ refl h
second_asked (Beginning own) question asked h = no_value None _ refl h
second_asked (TakingPart own) question asked h = no_value None _ refl h

told_so : (told : List (Option ℕ)) (j x : ℕ) → has_told told j x ≡ true → slice_get told j ≡ Some (Some x)
told_so told j x h = go (slice_get told j) refl h
  where
    go : (o : Option (Option ℕ)) → slice_get told j ≡ o → is_word o x ≡ true → slice_get told j ≡ Some (Some x)
    go (Some (Some y)) is k = is ∙ ap (λ z. Some (Some z)) (eqb-true y x k)
    go (Some None) is k = absurd (false≢true k)
    go None is k = absurd (false≢true k)

-- ---- what a machine that asks knows

module _ (f : ℕ) (stores : ℕ → Kept) where
  abbrev at : List Move → ℕ → Machine
  at moves i = machine_behind f stores moves i

  pub record FrozeBy (done : List Move) (j : ℕ) (e : Epoch) (x : ℕ) : Type 0 where
    pub early : List Move
    pub within : Begins early done
    pub frozen : IsFrozen (at early j) e x

  pub record FrozenBehind (moment done : List Move) (j : ℕ) (e : Epoch) (x : ℕ) : Type 0 where
    pub early : List Move
    pub behind : Begins moment early
    pub within : Begins early done
    pub frozen : IsFrozen (at early j) e x

  abbrev pub AllFroze : List Move → ℕ → Epoch → List (Option ℕ) → Type 0
  AllFroze done i e told = (j x : ℕ) → slice_get told j ≡ Some (Some x) → FrozeBy done j e x × (j ≡ i → ⊥) × (j < group_size f)

  -- not yet asked a second time under this nonce
  pub record IsFirst (m : Machine) (e : Epoch) (x : ℕ) : Type 0 where
    pub value : ColdStart
    pub recovery : Recovery
    pub runs : m.runs ≡ Some value
    pub recovers : recovery_in value.phase ≡ Some (e, recovery)
    pub nonce : recovery.nonce ≡ x
    pub first : is_second recovery.question ≡ false

  -- the moment at which machine i asked a second time
  pub record Moment (done : List Move) (i : ℕ) (e : Epoch) (x : ℕ) (asked still : List (Option ℕ)) : Type 0 where
    pub before : List Move
    pub last : Move
    pub within : Begins (before ++ last ∷ []) done
    pub first : IsFirst (at before i) e x
    pub frozen : IsFrozen (at (before ++ last ∷ []) i) e x
    pub asked_froze : AllFroze (before ++ last ∷ []) i e asked
    pub still_frozen : (j y : ℕ) → slice_get still j ≡ Some (Some y) → (slice_get asked j ≡ Some (Some y)) × FrozenBehind (before ++ last ∷ []) done j e y

  abbrev pub KnowsIn : List Move → ℕ → Epoch → ℕ → Question → Type 0
  KnowsIn done i e x Unasked = Unit {0}
  KnowsIn done i e x (First told) = AllFroze done i e told
  KnowsIn done i e x (Second asked still) = Moment done i e x asked still

  pub record Knows (done : List Move) (i : ℕ) (e : Epoch) (r : Recovery) : Type 0 where
    pub frozen : recovering.is_unasked r.question ≡ false → is_some r.frozen ≡ true
    pub knows : KnowsIn done i e r.nonce r.question

  abbrev pub AllKnow : List Move → Type 0
  AllKnow done = (i : ℕ) (a : ColdStart) (e : Epoch) (r : Recovery) → (at done i).runs ≡ Some a → recovery_in a.phase ≡ Some (e, r) → Knows done i e r

  -- ---- it goes on being so

  froze_more : (done all : List Move) (i : ℕ) (e : Epoch) (told : List (Option ℕ)) → Begins done all → AllFroze done i e told → AllFroze all i e told
  froze_more done all i e told b k j x h =
      let old = k j x h in
      (record { early = old.0.early; within = chain old.0.early done all old.0.within b; frozen = old.0.frozen }, old.1, old.2)

  moment_more : (done all : List Move) (i : ℕ) (e : Epoch) (x : ℕ) (asked still : List (Option ℕ)) → Begins done all → Moment done i e x asked still → Moment all i e x asked still
  moment_more done all i e x asked still b k = record {
    before = k.before;
    last = k.last;
    within = chain (k.before ++ k.last ∷ []) done all k.within b;
    first = k.first;
    frozen = k.frozen;
    asked_froze = k.asked_froze;
    still_frozen = λ j y h.
        let old = k.still_frozen j y h in
        (old.0, record { early = old.1.early; behind = old.1.behind; within = chain old.1.early done all old.1.within b; frozen = old.1.frozen });
  }

  knows_more : (done all : List Move) (i : ℕ) (e : Epoch) (x : ℕ) (q : Question) → Begins done all → KnowsIn done i e x q → KnowsIn all i e x q
  knows_more done all i e x Unasked b k = tt
  knows_more done all i e x (First told) b k = froze_more done all i e told b k
  knows_more done all i e x (Second asked still) b k = moment_more done all i e x asked still b k

  -- ---- an answer that comes

  -- behind a move of that machine's among these
  pub behind_move : (done early late : List Move) (j : ℕ) (telling : Telling) (step : Step) (b : ColdStart) → done ≡ early ++ Takes j telling step b ∷ late → AreTrueMoves f stores done
      → May f (after_moves f (at_rest stores) early) (Takes j telling step b)
  behind_move done early late j telling step b is h =
      (split_may f early (Takes j telling step b ∷ late) (at_rest stores) (subst (λ ms. AreMoves f (at_rest stores) ms) is h.may)).1.0

  then_runs : (early : List Move) (j : ℕ) (telling : Telling) (step : Step) (b : ColdStart) → (at (early ++ Takes j telling step b ∷ []) j).runs ≡ Some b
  then_runs early j telling step b =
      subst (λ (v : Machines). (v.at j).runs ≡ Some b) (sym (joined f early (Takes j telling step b ∷ []) (at_rest stores))) (took_runs f (after_moves f (at_rest stores) early) j telling step b)

  begins_through : (done early late : List Move) (m : Move) → done ≡ early ++ m ∷ late → Begins (early ++ m ∷ []) done
  begins_through done early late m is = record { late = late; is = is ∙ sym (append_assoc early (m ∷ []) late) }

  epoch_of : (own e : Epoch) (p : Phase) (r : Recovery) → p ≡ Recovering own r → spoken_in p ≡ Some e → own ≡ e
  epoch_of own e p r is part = same_Some own e (ap spoken_in (sym is) ∙ part)

  -- who said that it froze did
  answer_froze : (done : List Move) (i j : ℕ) (e : Epoch) (answer : Answer) → AreTrueMoves f stores done → WasAnswered done j i e (Frozen answer) → FrozeBy done j e answer.nonce
  answer_froze done i j e answer h w =
      let move = Takes j (WordCame i w.asked_in w.question w.now) w.step w.becomes in
      let may = behind_move done w.early w.late j (WordCame i w.asked_in w.question w.now) w.step w.becomes w.is h in
      let k : Froze w.becomes answer = said i w.asked_in w.question w.now may.0 w.becomes w.step (Frozen answer) may.3 w.answers in
      record {
        early = w.early ++ move ∷ [];
        within = begins_through done w.early w.late move w.is;
        frozen = record {
          recovery = k.recovery;
          recovers = record {
            value = w.becomes;
            runs = then_runs w.early j (WordCame i w.asked_in w.question w.now) w.step w.becomes;
            phase = k.phase ∙ ap (λ x. Recovering x k.recovery) (epoch_of k.own e w.becomes.phase k.recovery k.phase w.part);
          };
          nonce_is = k.nonce;
          frozen = k.frozen;
        };
      }

  pub said_at : (done early late : List Move) (m : Move) → done ≡ early ++ m ∷ late → AreTrueMoves f stores done → MoveIsTrue f stores early m
  said_at done early late m is h = go [] early (subst (λ ms. AllWereSaid f stores [] ms) is h.said)
    where
      go : (seen early : List Move) → AllWereSaid f stores seen (early ++ m ∷ late) → MoveIsTrue f stores (seen ++ early) m
      go seen [] k = subst (λ ms. MoveIsTrue f stores ms m) (sym (append-nil seen)) k.0
      go seen (x ∷ early) k = subst (λ ms. MoveIsTrue f stores ms m) (append_assoc seen (x ∷ []) early) (go (seen ++ x ∷ []) early k.1)

  -- who said that it was still frozen was so behind the moment of the question
  answer_confirms : (done : List Move) (i j : ℕ) (e : Epoch) (answer : Answer) (asked still : List (Option ℕ)) → AreTrueMoves f stores done → WasAnswered done j i e (StillFrozen answer)
      → (k : Moment done i e answer.question asked still) → FrozenBehind (k.before ++ k.last ∷ []) done j e answer.nonce
  answer_confirms done i j e answer asked still h w k =
      let telling = WordCame i w.asked_in w.question w.now in
      let move = Takes j telling w.step w.becomes in
      let may = behind_move done w.early w.late j telling w.step w.becomes w.is h in
      let c : Confirmed may.0 w.becomes w.asked_in w.question answer = said i w.asked_in w.question w.now may.0 w.becomes w.step (StillFrozen answer) may.3 w.answers in
      let own : w.asked_in ≡ e = epoch_of w.asked_in e w.becomes.phase c.recovery (ap (λ (x : ColdStart). x.phase) c.same ∙ c.phase) w.part in
      let early_begins : Begins w.early done = record { late = move ∷ w.late; is = w.is } in
      let asked_then : WasAsked f stores w.early i w.asked_in (Confirm answer.question c.asked) =
      subst (λ q. WordWasSaid f stores w.early i j w.asked_in q) c.asks (said_at done w.early w.late move w.is h) in
      let s = second_asked asked_then.asks.value.phase answer.question c.asked asked_then.asks.question_is in
      let question_begins : Begins asked_then.early w.early = record { late = asked_then.late; is = asked_then.is } in
      let frozen : IsFrozen (at w.early j) e answer.nonce = record {
        recovery = c.recovery;
        recovers = record { value = may.0; runs = may.1; phase = c.phase ∙ ap (λ x. Recovering x c.recovery) own };
        nonce_is = c.nonce;
        frozen = c.frozen;
      } in
      let order = either_way asked_then.early k.before k.last done (chain asked_then.early w.early done question_begins early_begins) k.within in
      elim order [
        | inl too_early ↦ absurd (never_again asked_then.early k.before i e answer.question (begun_true f stores k.before done (chain k.before (k.before ++ k.last ∷ []) done (record { late = k.last ∷ []; is = refl }) k.within) h) too_early
            asked_then.asks.value asked_then.asks.runs s k.first)
        | inr behind ↦ record { early = w.early; behind = chain (k.before ++ k.last ∷ []) asked_then.early w.early behind question_begins; within = early_begins; frozen = frozen }
      ]
    where
      -- once it has asked a second time, it doesn't ask first again under that nonce
      never_again : (early late : List Move) (i : ℕ) (e : Epoch) (x : ℕ) → AreTrueMoves f stores late → Begins early late → (a : ColdStart) → (at early i).runs ≡ Some a → SecondAsked a.phase x → IsFirst (at late i) e x → ⊥
      never_again early late i e x h b a runs s first =
          let now = beyond_now f stores (Asked f stores x) early i a s.own s.recovery (begun_true f stores early late b h) runs (ap recovery_in s.phase) (s.nonce, s.second) in
          let start = subst (λ n. Beyond (Asked f stores x) n (least_after_moves (λ j. 0) early i) (at early i)) s.nonce now in
          let end = from_then_on f stores (Asked f stores x) x (asked_lasts f stores x) early late i b h start in
          elim (end.on first.value e first.recovery first.runs first.recovers) [
            | inl so ↦ false≢true (sym first.first ∙ so.1)
            | inr past ↦ absurd (omega (arith, past, first.nonce))
          ]

  -- ---- what it knows behind one answer more

  first_more : (done all : List Move) (i j : ℕ) (e : Epoch) (x n : ℕ) (q : Question) → Begins done all → recovering.is_first_in q x x ≡ true → KnowsIn done i e x q → FrozeBy all j e n → (j ≡ i → ⊥) → j < group_size f
      → KnowsIn all i e x (recovering.with_first_in q j n)
  first_more done all i j e x n Unasked b first k froze other low = tt
  first_more done all i j e x n (Second asked still) b first k froze other low = absurd (false≢true first)
  first_more done all i j e x n (First told) b first k froze other low = λ h y is. elim (told_more told j n h y is) [
    | inl new ↦ subst (λ z. FrozeBy all h e z × (h ≡ i → ⊥) × (h < group_size f)) (sym new.1)
        (subst (λ z. FrozeBy all z e n × (z ≡ i → ⊥) × (z < group_size f)) (sym new.0) (froze, other, low))
    | inr old ↦ froze_more done all i e told b k h y old
  ]

  second_more : (done all : List Move) (i j : ℕ) (e : Epoch) (x n : ℕ) (q : Question) → Begins done all → KnowsIn done i e x q
      → ((asked still : List (Option ℕ)) → q ≡ Second asked still → (k : Moment done i e x asked still) → (slice_get asked j ≡ Some (Some n)) × FrozenBehind (k.before ++ k.last ∷ []) all j e n)
      → KnowsIn all i e x (recovering.with_second_in q j n)
  unfolding moment_more
  second_more done all i j e x n Unasked b k new = tt
  second_more done all i j e x n (First told) b k new = froze_more done all i e told b k
  second_more done all i j e x n (Second asked still) b k new =
      let more = moment_more done all i e x asked still b k in
      let here = new asked still refl k in
      record {
        before = k.before;
        last = k.last;
        within = more.within;
        first = k.first;
        frozen = k.frozen;
        asked_froze = k.asked_froze;
        still_frozen = λ h y is. elim (told_more still j n h y is) [
          | inl now ↦ subst (λ z. (slice_get asked h ≡ Some (Some z)) × FrozenBehind (k.before ++ k.last ∷ []) all h e z) (sym now.1)
              (subst (λ z. (slice_get asked z ≡ Some (Some n)) × FrozenBehind (k.before ++ k.last ∷ []) all z e n) (sym now.0) here)
          | inr old ↦ more.still_frozen h y old
        ];
      }

  -- an answer to the second question comes
  pub second_came : (done all : List Move) (i j : ℕ) (e : Epoch) (r : Recovery) (answer : Answer) → AreTrueMoves f stores done → Begins done all → WasAnswered done j i e (StillFrozen answer)
      → recovering.is_second_answer r j answer ≡ true → KnowsIn done i e r.nonce r.question → KnowsIn all i e r.nonce (recovering.with_second_in r.question j answer.nonce)
  second_came done all i j e r answer h b w second k =
      second_more done all i j e r.nonce answer.nonce r.question b k
      (λ asked still is moment.
      let parts = and_parts (answer.question == r.nonce) (has_told asked j answer.nonce) (subst (λ q. recovering.is_second_in q r.nonce j answer ≡ true) is second) in
      let same : answer.question ≡ r.nonce = eqb-true answer.question r.nonce parts.0 in
      let confirmed : FrozenBehind (moment.before ++ moment.last ∷ []) done j e answer.nonce = confirms done i j e answer asked still (r.nonce) same h w moment in (
        told_so asked j answer.nonce parts.1,
        record { early = confirmed.early; behind = confirmed.behind; within = chain confirmed.early done all confirmed.within b; frozen = confirmed.frozen },
      ))
    where
      confirms : (done : List Move) (i j : ℕ) (e : Epoch) (answer : Answer) (asked still : List (Option ℕ)) (x : ℕ) → answer.question ≡ x → AreTrueMoves f stores done → WasAnswered done j i e (StillFrozen answer)
          → (k : Moment done i e x asked still) → FrozenBehind (k.before ++ k.last ∷ []) done j e answer.nonce
      confirms done i j e answer asked still x same h w =
          subst (λ y. (k : Moment done i e y asked still) → FrozenBehind (k.before ++ k.last ∷ []) done j e answer.nonce) same (answer_confirms done i j e answer asked still h w)

  -- ---- a step

  module _ (placed : Placed) where
    other_of : (done : List Move) (i j : ℕ) (a : ColdStart) → AreTrueMoves f stores done → (at done i).runs ≡ Some a → is_other a.place j ≡ true → (j ≡ i → ⊥) × (j < group_size f)
    other_of done i j a h runs other =
        let p = placed f i stores done a h.may runs in
        let parts = and_parts (not (j == a.place.number)) (ltb j (group_size a.place.config.f)) other in (
          λ is. false≢true (sym (not-true _ parts.0) ∙ eq-eqb j a.place.number (is ∙ sym p.number)),
          subst (λ n. j < group_size n) p.group (ltb-true j (group_size a.place.config.f) parts.1),
        )

    -- behind a step of machine i that is told this
    by_change : (done : List Move) (m : Move) (i : ℕ) (telling : Telling) (step : Step) (a b : ColdStart) (e : Epoch) (r s : Recovery) → AreTrueMoves f stores (done ++ m ∷ []) → m ≡ Takes i telling step b
        → (at done i).runs ≡ Some a → a.phase ≡ Recovering e r → (at (done ++ m ∷ []) i).runs ≡ Some b → recovery_in b.phase ≡ Some (e, s) → Knows done i e r → Change telling a.place e r s → Knows (done ++ m ∷ []) i e s
    by_change done m i telling step a b e r s h move runs was behind is k change = go change
      where
        all : List Move
        all = done ++ m ∷ []

        begins : Begins done all
        begins = record { late = m ∷ []; is = refl }

        so_far : AreTrueMoves f stores done
        so_far = early_true f stores done (m ∷ []) h

        to : (t : Recovery) → s ≡ t → Knows all i e t → Knows all i e s
        to t is k = subst (Knows all i e) (sym is) k

        frozen_of : (q : Question) → recovering.is_first_in q r.nonce r.nonce ≡ true → recovering.is_unasked q ≡ false
        frozen_of Unasked first = absurd (false≢true first)
        frozen_of (First told) first = refl
        frozen_of (Second asked still) first = refl

        true_word : (from now : ℕ) (word : Word) → telling ≡ WordCame from e word now → WordWasSaid f stores done from i e word
        true_word from now word told =
            let as_move : m ≡ Takes i (WordCame from e word now) step b = move ∙ ap (λ t. Takes i t step b) told in
            subst (MoveIsTrue f stores done) as_move (said_at all done [] m refl h)

        first_is : (answer : Answer) → recovering.is_first_answer r answer ≡ true → recovering.is_first_in r.question r.nonce r.nonce ≡ true
        first_is answer first = by_question r.question first
          where
            by_question : (q : Question) → recovering.is_first_in q r.nonce answer.question ≡ true → recovering.is_first_in q r.nonce r.nonce ≡ true
            by_question Unasked k = k
            by_question (First told) k = eq-eqb r.nonce r.nonce refl
            by_question (Second asked still) k = k

        first_knows : (from now : ℕ) (answer : Answer) → telling ≡ WordCame from e (Frozen answer) now → is_other a.place from ≡ true → recovering.is_first_answer r answer ≡ true
            → KnowsIn all i e r.nonce (recovering.with_first_in r.question from answer.nonce)
        first_knows from now answer told other first =
            let froze : FrozeBy done from e answer.nonce = answer_froze done i from e answer so_far (true_word from now (Frozen answer) told) in
            let o = other_of done i from a so_far runs other in
            first_more done all i from e r.nonce answer.nonce r.question begins (first_is answer first) k.knows
            (record { early = froze.early; within = chain froze.early done all froze.within begins; frozen = froze.frozen }) o.0 o.1

        -- with what it knows then it asks a second time
        again : (q : Question) (t : Recovery) → t.nonce ≡ r.nonce → s ≡ recovering.asking_again t → is_some t.frozen ≡ true → q ≡ t.question → KnowsIn all i e r.nonce q → is_second r.question ≡ false → KnowsIn all i e r.nonce (recovering.again q)
        again Unasked t nonce same frozen q knows first = tt
        again (Second asked still) t nonce same frozen q knows first = knows
        again (First told) t nonce same frozen q knows first = record {
          before = done;
          last = m;
          within = whole all;
          first = record { value = a; recovery = r; runs = runs; recovers = ap recovery_in was; nonce = refl; first = first };
          frozen = record {
            recovery = s;
            recovers = record { value = b; runs = behind; phase = phase_of b.phase e s is };
            nonce_is = ap (λ (x : Recovery). x.nonce) same ∙ nonce;
            frozen = ap (λ (x : Recovery). is_some x.frozen) same ∙ frozen;
          };
          asked_froze = knows;
          still_frozen = λ j y h. absurd (nothing_is_told j y h);
        }

        not_second : (q : Question) → recovering.is_first_in q r.nonce r.nonce ≡ true → is_second q ≡ false
        not_second Unasked first = refl
        not_second (First told) first = refl
        not_second (Second asked still) first = absurd (false≢true first)

        go : Change telling a.place e r s → Knows all i e s
        go (Stays same) = to r same (record { frozen = k.frozen; knows = knows_more done all i e r.nonce r.question begins k.knows })
        go (Thaws now next same) = to (recovering_under s.nonce now) same (record { frozen = λ u. absurd (false≢true (sym u)); knows = tt })
        go (Asks now unasked same) = to (recovering.asking r now) same (record { frozen = λ u. refl; knows = λ j x h. absurd (nothing_is_told j x h) })
        go (Freezes now same) = to (recovering.freezing r now) same (record { frozen = λ u. refl; knows = knows_more done all i e r.nonce r.question begins k.knows })
        go (HearsFirst from now answer told other first same) =
            to (recovering.with_first r from answer.nonce) same
            (record { frozen = λ u. k.frozen (frozen_of r.question (first_is answer first)); knows = first_knows from now answer told other first })
        go (AsksAgain from now answer told other first same) =
            let t : Recovery = recovering.with_first r from answer.nonce in
            let frozen : is_some r.frozen ≡ true = k.frozen (frozen_of r.question (first_is answer first)) in
            to (recovering.asking_again t) same
            (record {
              frozen = λ u. frozen;
              knows = again t.question t refl same frozen refl (first_knows from now answer told other first) (not_second r.question (first_is answer first));
            })
        go (HearsSecond from now answer told other second same) =
            to (recovering.with_second r from answer.nonce) same
            (record {
              frozen = λ u. k.frozen (second_asked_of r.question second);
              knows = second_came done all i from e r answer so_far begins (true_word from now (StillFrozen answer) told) second k.knows;
            })
          where
            second_asked_of : (q : Question) → recovering.is_second_in q r.nonce from answer ≡ true → recovering.is_unasked q ≡ false
            second_asked_of Unasked h = absurd (false≢true h)
            second_asked_of (First told) h = refl
            second_asked_of (Second asked still) h = refl

    -- one that has just started has asked nothing
    just_started : (done : List Move) (i : ℕ) (e : Epoch) (r : Recovery) (store : Kept) (nonce since : ℕ) → recovery_in (phase_from store nonce since) ≡ Some (e, r) → Knows done i e r
    just_started done i e r (keeps.Begun own) nonce since is =
        subst (λ (x : Epoch × Recovery). Knows done i e x.1) (same_Some (own, recovering_under nonce since) (e, r) is) (record { frozen = λ u. absurd (false≢true (sym u)); knows = tt })
    just_started done i e r keeps.Nothing nonce since is = no_value None (e, r) refl is
    just_started done i e r (keeps.Above above) nonce since is = no_value None (e, r) refl is
    just_started done i e r (keeps.Entered own) nonce since is = no_value None (e, r) refl is

    step : (done : List Move) (m : Move) → AreTrueMoves f stores (done ++ m ∷ []) → AllKnow done → AllKnow (done ++ m ∷ [])
    step done m h k i a e s runs is =
        let parts = split_may f done (m ∷ []) (at_rest stores) h.may in
        let w : Machines = after_moves f (at_rest stores) done in
        let here : ((after_move f w m).at i).runs ≡ Some a = subst (λ (v : Machines). (v.at i).runs ≡ Some a) (joined f done (m ∷ []) (at_rest stores)) runs in
        go (now_runs f w i a m parts.1.0 here)
      where
        go : NowRuns f (after_moves f (at_rest stores) done) m i a → Knows (done ++ m ∷ []) i e s
        go (AsBefore up) =
            let old = k i a e s up is in
            record { frozen = old.frozen; knows = knows_more done (done ++ m ∷ []) i e s.nonce s.question (record { late = m ∷ []; is = refl }) old.knows }
        go (Started store nonce since phase) = just_started (done ++ m ∷ []) i e s store nonce since (ap recovery_in (sym phase) ∙ is)
        go (Took telling step b move up follows) =
            let r : Recovered telling b e s = came_about telling ((after_moves f (at_rest stores) done).at i).store b a step e s follows is in
            by_change done m i telling step b a e r.before s h move up r.was runs is (k i b e r.before up (ap recovery_in r.was)) r.how

    pub all_know : (rest done : List Move) → AreTrueMoves f stores (done ++ rest) → AllKnow done → AllKnow (done ++ rest)
    all_know [] done h k = subst AllKnow (sym (append-nil done)) k
    all_know (m ∷ rest) done h k =
        let same : (done ++ m ∷ []) ++ rest ≡ done ++ m ∷ rest = append_assoc done (m ∷ []) rest in
        let right : AreTrueMoves f stores ((done ++ m ∷ []) ++ rest) = subst (AreTrueMoves f stores) (sym same) h in
        subst AllKnow same (all_know rest (done ++ m ∷ []) right (step done m (early_true f stores (done ++ m ∷ []) rest right) k))

    pub none_know : AllKnow []
    none_know i a e r runs is = no_value None a refl runs
