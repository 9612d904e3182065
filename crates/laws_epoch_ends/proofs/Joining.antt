-- The joining: at the moment at which f+1 machines of an epoch were frozen, and once a later epoch has begun, f+1 replicas
-- of the epoch's run are out, and are handed no answer.
use Rattle.std.proofs.Common.{◌≡◌, ℕ, zero, suc, ◌+◌, ◌<◌, ◌≤◌, Bool, true, false, cond, List, [], ◌∷◌, ◌++◌, take, Some, None, refl, sym, ap, ◌∙◌, subst, is_some, append_assoc, append-nil}
use Rattle.std.specs.Prelude.{slice_get}
use Rattle.std.proofs.lemmas.Bool.{false≢true}
use Rattle.std.proofs.lemmas.Option.{same_Some}
use Rattle.vr_model.specs.Logs.{Request}
use Rattle.vr_model.specs.Groups.{group_size, how_many}
use Rattle.vr_model.specs.Replicas.{Status, Normal, ViewChange, Recovering, Down, is_down, is_recovering, takes_part}
use Rattle.vr_model.specs.World.{World, Event, Completion, Done}
use Rattle.vr_model.specs.Views.{world}
use Rattle.laws_cold_start.specs.ColdStarts.{AreFrozen, HandsAnswer, IsInNoLog, IsNeverCommitted}
use Rattle.net_hello.specs.declared.hello.Epoch.{Epoch}
use Rattle.plc_epochs.specs.Epochs.{is_later, is_same}
use Rattle.plc_epochs.specs.declared.word.Word.{Word}
use Rattle.plc_epochs.specs.declared.kept.Kept.{Kept}
use Rattle.plc_epochs.specs.declared.cold_start.ColdStart.{ColdStart}
use Rattle.plc_epochs.specs.declared.cold_start.Step.TheVariants as steps
use Rattle.laws_epochs.specs.Machines.{Move, Takes, TimeHasPassed, WordCame, AreMoves, at_rest}
use Rattle.laws_epochs.specs.Beginnings.{HasCome, MajorityIsPast}
use Rattle.laws_epoch_ends.specs.TrueMoves.{AreTrueMoves, machine_behind}
use Rattle.laws_epoch_ends.specs.Freezing.{IsFrozen, IsFrozenUnder, WereFrozen}
use Rattle.laws_epoch_ends.specs.Acts.{Act, Moves, Happens, moves_in, events_in, MayBeAnswered, AreHosted}
use Rattle.laws_epoch_ends.specs.Ends.{NothingNewIn, EndedBefore}
use Rattle.laws_epoch_ends.proofs.Steps.{no_value, same_epoch}
use Rattle.laws_epoch_ends.proofs.Lists.{first_of, is_full, tail_of}
use Rattle.laws_epoch_ends.proofs.Moments.{early_true}
use Rattle.laws_epoch_ends.proofs.Asking.{Placed}
use Rattle.laws_epoch_ends.proofs.Evidence.{WordsGoOn, GaveUp, gave_up, stays_frozen}

-- ---- lists of acts

not_empty : {X R : Type 0} (x : X) (xs : List X) → [] ≡ x ∷ xs → R
not_empty x xs h = absurd (false≢true (ap is_full h))

module _ {C : Type 0} where
  pub moves_append : (xs ys : List (Act C)) → moves_in (xs ++ ys) ≡ moves_in xs ++ moves_in ys
  moves_append [] ys = refl
  moves_append (Moves m ∷ xs) ys = ap (λ ms. m ∷ ms) (moves_append xs ys)
  moves_append (Happens e event c ∷ xs) ys = moves_append xs ys

  pub if_append : (t : Bool) (x : Event C × Completion) (es bs cs : List (Event C × Completion)) → es ≡ bs ++ cs → cond t (x ∷ es) es ≡ cond t (x ∷ bs) bs ++ cs
  if_append true x es bs cs is = ap (λ ds. x ∷ ds) is
  if_append false x es bs cs is = is

  pub events_append : (e : Epoch) (xs ys : List (Act C)) → events_in e (xs ++ ys) ≡ events_in e xs ++ events_in e ys
  events_append e [] ys = refl
  events_append e (Moves m ∷ xs) ys = events_append e xs ys
  events_append e (Happens own event c ∷ xs) ys = if_append (is_same own e) (event, c) (events_in e (xs ++ ys)) (events_in e xs) (events_in e ys) (events_append e xs ys)

  -- where its moves are parted, a list of acts is
  pub record PartedAt (acts : List (Act C)) (ms : List Move) : Type 0 where
    pub before : List (Act C)
    pub between : List (Act C)
    pub is : acts ≡ before ++ between
    pub moves : moves_in before ≡ ms

  pub parted : (acts : List (Act C)) (ms late : List Move) → moves_in acts ≡ ms ++ late → PartedAt acts ms
  parted acts [] late h = record { before = []; between = acts; is = refl; moves = refl }
  parted [] (m ∷ ms) late h = not_empty m (ms ++ late) h
  parted (Moves n ∷ acts) (m ∷ ms) late h =
      let rest = parted acts ms late (ap tail_of h) in
      let same : n ≡ m = ap (first_of n) h in
      record { before = Moves n ∷ rest.before; between = rest.between; is = ap (λ xs. Moves n ∷ xs) rest.is; moves = ap (λ xs. n ∷ xs) rest.moves ∙ ap (λ x. x ∷ ms) same }
  parted (Happens e event c ∷ acts) (m ∷ ms) late h =
      let rest = parted acts (m ∷ ms) late h in
      record { before = Happens e event c ∷ rest.before; between = rest.between; is = ap (λ xs. Happens e event c ∷ xs) rest.is; moves = rest.moves }

  -- where an event of an epoch stands among acts
  pub record StandsAt (acts : List (Act C)) (e : Epoch) (k : ℕ) (x : Event C × Completion) : Type 0 where
    pub before : List (Act C)
    pub behind : List (Act C)
    pub is : acts ≡ before ++ Happens e x.0 x.1 ∷ behind
    pub so_far : events_in e before ≡ take k (events_in e acts)

  pub stands_at : (acts : List (Act C)) (e : Epoch) (k : ℕ) (x : Event C × Completion) → slice_get (events_in e acts) k ≡ Some x → StandsAt acts e k x
  stands_at [] e k x h = no_value None x refl h
  stands_at (Moves m ∷ acts) e k x h =
      let rest = stands_at acts e k x h in
      record { before = Moves m ∷ rest.before; behind = rest.behind; is = ap (λ xs. Moves m ∷ xs) rest.is; so_far = rest.so_far }
  stands_at (Happens own event c ∷ acts) e k x h = go (λ j at. stands_at acts e j x at) (is_same own e) refl k h
    where
      go : ((j : ℕ) → slice_get (events_in e acts) j ≡ Some x → StandsAt acts e j x) → (t : Bool) → is_same own e ≡ t → (k : ℕ) → slice_get (cond t ((event, c) ∷ events_in e acts) (events_in e acts)) k ≡ Some x → StandsAt (Happens own event c ∷ acts) e k x
      go more false t k h =
          let rest = more k h in
          record {
            before = Happens own event c ∷ rest.before;
            behind = rest.behind;
            is = ap (λ xs. Happens own event c ∷ xs) rest.is;
            so_far = ap (λ b. cond b ((event, c) ∷ events_in e rest.before) (events_in e rest.before)) t ∙ (rest.so_far
                ∙ ap (λ b. take k (cond b ((event, c) ∷ events_in e acts) (events_in e acts))) (sym t));
          }
      go more true t zero h =
          let same : (event, c) ≡ x = same_Some (event, c) x h in
          record {
            before = [];
            behind = acts;
            is = ap (λ (y : Epoch × (Event C × Completion)). Happens y.0 y.1.0 y.1.1 ∷ acts) (λ i. (same_epoch own e t i, same i));
            so_far = refl;
          }
      go more true t (suc k) h =
          let rest = more k h in
          record {
            before = Happens own event c ∷ rest.before;
            behind = rest.behind;
            is = ap (λ xs. Happens own event c ∷ xs) rest.is;
            so_far = ap (λ b. cond b ((event, c) ∷ events_in e rest.before) (events_in e rest.before)) t ∙ (ap (λ es. (event, c) ∷ es) rest.so_far
                ∙ ap (λ b. take (suc k) (cond b ((event, c) ∷ events_in e acts) (events_in e acts))) (sym t));
          }

pub down_is_out : (s : Status) → is_down s ≡ true → takes_part s ≡ false
down_is_out Normal h = absurd (false≢true h)
down_is_out ViewChange h = absurd (false≢true h)
down_is_out Recovering h = refl
down_is_out Down h = refl

pub down_or_recovering : (s : Status) → is_down s ≡ true → is_recovering s ≡ true → ⊥
down_or_recovering Normal h k = false≢true h
down_or_recovering ViewChange h k = false≢true h
down_or_recovering Recovering h k = false≢true h
down_or_recovering Down h k = false≢true k

module _ {C A : Type 0} (f : ℕ) (answer : List C → A) (stores : ℕ → Kept) (belongs : ℕ → ℕ → ℕ) where
  -- the run of an epoch, behind two lists of acts
  run_of_both : (e : Epoch) (xs ys : List (Act C)) → world f answer (events_in e xs ++ events_in e ys) ≡ world f answer (events_in e (xs ++ ys))
  run_of_both e xs ys = ap (λ es. world f answer es) (sym (events_append e xs ys))

  -- ---- frozen

  module _ (before between : List (Act C)) (e : Epoch) (hosted : AreHosted f answer stores belongs e (before ++ between)) (who : ℕ → Bool) (nonces : ℕ → ℕ)
      (many : f + 1 ≤ how_many who (group_size f))
      (frozen : (i : ℕ) → i < group_size f → who i ≡ true → IsFrozen (machine_behind f stores (moves_in before) i) e (nonces i)) where
    true_before : (xs ys : List (Act C)) → before ++ between ≡ xs ++ ys → AreTrueMoves f stores (moves_in xs)
    true_before xs ys is =
        early_true f stores (moves_in xs) (moves_in ys) (subst (AreTrueMoves f stores) (moves_append xs ys) (subst (λ acts. AreTrueMoves f stores (moves_in acts)) is hosted.machines))

    unanswered : (i k : ℕ) (event : Event C) → i < group_size f → who i ≡ true → slice_get (events_in e between) k ≡ Some (event, Done)
        → HandsAnswer (world f answer (events_in e before ++ take k (events_in e between))) event i (belongs i (nonces i)) → ⊥
    unanswered i k event low is at hands =
        let s = stands_at between e k (event, Done) at in
        let all : before ++ between ≡ (before ++ s.before) ++ Happens e event Done ∷ s.behind = ap (λ xs. before ++ xs) s.is ∙ sym (append_assoc before s.before (Happens e event Done ∷ s.behind)) in
        let same : world f answer (events_in e before ++ take k (events_in e between)) ≡ world f answer (events_in e (before ++ s.before)) =
        ap (λ es. world f answer (events_in e before ++ es)) (sym s.so_far) ∙ run_of_both e before s.before in
        let may = hosted.answers (before ++ s.before) s.behind event i (belongs i (nonces i)) all low (subst (λ (w : World C A). HandsAnswer w event i (belongs i (nonces i))) same hands) in
        let m : MayBeAnswered (machine_behind f stores (moves_in (before ++ s.before)) i) e may.0 = may.2 in
        let nonce : may.0 ≡ nonces i = hosted.one_each i may.0 (nonces i) may.1 in
        let right = true_before (before ++ s.before) (Happens e event Done ∷ s.behind) all in
        let so = stays_frozen f stores (moves_in before) (moves_in s.before) i e (nonces i) (subst (AreTrueMoves f stores) (moves_append before s.before) right) (frozen i low is) in
        let there = subst (λ ms. IsFrozenUnder (machine_behind f stores ms i) e (nonces i)) (sym (moves_append before s.before)) so in
        false≢true (ap is_some (sym m.unfrozen) ∙ (there e m.recovery m.recovers (m.nonce_is ∙ nonce)).1)

    pub are_frozen : AreFrozen f answer (events_in e before) (events_in e between) who (λ i. belongs i (nonces i))
    are_frozen = record {
      many = many;
      out = λ i low is. (hosted.go before between i refl low).frozen (nonces i) (frozen i low is);
      unanswered = λ i low is k event at hands. unanswered i k event low is at hands;
    }

-- what stood in no log is never committed, by the law of cold starts
abbrev pub NothingNew : Type 0 → Type 0 → Type 0
NothingNew C A = (f : ℕ) (answer : List C → A) (early late : List (Event C × Completion)) (who : ℕ → Bool) (nonces : ℕ → ℕ) (m : Request C) → AreFrozen f answer early late who nonces → IsInNoLog f answer early m
    → IsNeverCommitted f answer early late m

-- a machine begins an epoch behind a majority
abbrev pub Behind : Type 0
Behind = (f machine now : ℕ) (stores : ℕ → Kept) (early : List Move) (epoch : Epoch) (becomes : ColdStart) → AreMoves f (at_rest stores) (early ++ Takes machine (TimeHasPassed now) (steps.Begins epoch) becomes ∷ [])
    → MajorityIsPast f stores early (Takes machine (TimeHasPassed now) (steps.Begins epoch) becomes) epoch

module _ {C A : Type 0} (f : ℕ) (answer : List C → A) (stores : ℕ → Kept) (belongs : ℕ → ℕ → ℕ) (law : NothingNew C A) where
  -- an epoch that a machine gives up has ended before
  pub ended_before : Placed → WordsGoOn → (early late : List (Act C)) (i from now : ℕ) (epoch next : Epoch) (word : Word) (becomes : ColdStart)
      → AreHosted f answer stores belongs epoch (early ++ Moves (Takes i (WordCame from epoch word now) (steps.Ends next) becomes) ∷ late)
      → EndedBefore f answer stores i epoch next early (Moves (Takes i (WordCame from epoch word now) (steps.Ends next) becomes) ∷ late)
  ended_before placed words early late i from now epoch next word becomes hosted =
      let move = Takes i (WordCame from epoch word now) (steps.Ends next) becomes in
      let rest : List (Act C) = Moves move ∷ late in
      let ms : List Move = moves_in early in
      let all_true : AreTrueMoves f stores (ms ++ move ∷ moves_in late) = subst (AreTrueMoves f stores) (moves_append early rest) hosted.machines in
      let until : AreTrueMoves f stores (ms ++ move ∷ []) = early_true f stores (ms ++ move ∷ []) (moves_in late) (subst (AreTrueMoves f stores) (sym (append_assoc ms (move ∷ []) (moves_in late))) all_true) in
      let up : GaveUp f stores ms i epoch next = gave_up placed words f stores ms i from now epoch next word becomes until in
      let w : WereFrozen f stores ms epoch = up.were_frozen in
      let p : PartedAt early w.early = parted early w.early w.late w.is in
      let same : early ++ rest ≡ p.before ++ (p.between ++ rest) = ap (λ xs. xs ++ rest) p.is ∙ append_assoc p.before p.between rest in
      let frozen = are_frozen f answer stores belongs p.before (p.between ++ rest) epoch (subst (AreHosted f answer stores belongs epoch) same hosted) w.who w.nonces w.many
      (λ j low is. subst (λ xs. IsFrozen (machine_behind f stores xs j) epoch (w.nonces j)) (sym p.moves) (w.frozen j low is)) in
      record {
        recovery = up.recovery;
        recovers = up.recovers;
        later = up.later;
        before = p.before;
        between = p.between;
        is = p.is;
        who = w.who;
        nonces = λ j. belongs j (w.nonces j);
        frozen = frozen;
        nothing_new = λ m out. law f answer (events_in epoch p.before) (events_in epoch (p.between ++ rest)) w.who (λ j. belongs j (w.nonces j)) m frozen out;
      }

  -- ---- an epoch before one that has begun

  module _ (behind : Behind) (early late : List (Act C)) (i now : ℕ) (next epoch : Epoch) (becomes : ColdStart) (later : is_later next epoch ≡ true)
      (hosted : AreHosted f answer stores belongs epoch (early ++ Moves (Takes i (TimeHasPassed now) (steps.Begins next) becomes) ∷ late)) where
    abbrev move : Move
    move = Takes i (TimeHasPassed now) (steps.Begins next) becomes

    abbrev whole : List (Act C)
    whole = early ++ Moves move ∷ late

    majority : MajorityIsPast f stores (moves_in early) move next
    majority =
        let ms : List Move = moves_in early in
        let all_true : AreTrueMoves f stores (ms ++ move ∷ moves_in late) = subst (AreTrueMoves f stores) (moves_append early (Moves move ∷ late)) hosted.machines in
        let until : AreTrueMoves f stores (ms ++ move ∷ []) = early_true f stores (ms ++ move ∷ []) (moves_in late) (subst (AreTrueMoves f stores) (sym (append_assoc ms (move ∷ []) (moves_in late))) all_true) in
        behind f i now stores ms next becomes until.may

    -- one of those is down in the epoch's run, from then on
    is_out : (some rest : List (Act C)) (j : ℕ) → late ≡ some ++ rest → j < group_size f → majority.who j ≡ true
        → is_down ((world f answer (events_in epoch (early ++ Moves move ∷ some))).replicas j).status ≡ true
    is_out some rest j is low one =
        let acts : List (Act C) = early ++ Moves move ∷ some in
        let all : whole ≡ acts ++ rest = ap (λ xs. early ++ Moves move ∷ xs) is ∙ sym (append_assoc early (Moves move ∷ some) rest) in
        let right : AreTrueMoves f stores (moves_in acts) = early_true f stores (moves_in acts) (moves_in rest)
        (subst (AreTrueMoves f stores) (moves_append acts rest) (subst (λ xs. AreTrueMoves f stores (moves_in xs)) all hosted.machines)) in
        let same : moves_in acts ≡ moves_in early ++ move ∷ moves_in some = moves_append early (Moves move ∷ some) in
        let past = majority.past (moves_in some) j (subst (λ ms. AreMoves f (at_rest stores) ms) same right.may) low one in
        let come = subst (λ ms. HasCome next (machine_behind f stores ms j).store) (sym same) past.store in
        (hosted.go acts rest j all low).left (next, later, come)

    -- its replica there, at the moment itself
    abbrev now_in : World C A
    now_in = world f answer (events_in epoch early)

    here : world f answer (events_in epoch (early ++ Moves move ∷ [])) ≡ now_in
    here = ap (λ es. world f answer es) (events_append epoch early (Moves move ∷ []) ∙ append-nil (events_in epoch early))

    nobody_answers : (j k nonce : ℕ) (event : Event C) → j < group_size f → majority.who j ≡ true → slice_get (events_in epoch late) k ≡ Some (event, Done)
        → HandsAnswer (world f answer (events_in epoch early ++ take k (events_in epoch late))) event j nonce → ⊥
    nobody_answers j k nonce event low one at hands =
        let s = stands_at late epoch k (event, Done) at in
        let same : world f answer (events_in epoch early ++ take k (events_in epoch late)) ≡ world f answer (events_in epoch (early ++ Moves move ∷ s.before)) =
        ap (λ es. world f answer (events_in epoch early ++ es)) (sym s.so_far) ∙ run_of_both f answer stores belongs epoch early (Moves move ∷ s.before) in
        let down = is_out s.before (Happens epoch event Done ∷ s.behind) j s.is low one in
        down_or_recovering _ (subst (λ (w : World C A). is_down (w.replicas j).status ≡ true) (sym same) down) hands.recovers.0

    out_for_good : AreFrozen f answer (events_in epoch early) (events_in epoch (Moves move ∷ late)) majority.who (λ j. (now_in.replicas j).nonce)
    out_for_good = record {
      many = majority.many;
      out = λ j low one. (down_is_out _ (subst (λ (w : World C A). is_down (w.replicas j).status ≡ true) here (is_out [] late j refl low one)), refl);
      unanswered = λ j low one k event at hands. nobody_answers j k (now_in.replicas j).nonce event low one at hands;
    }

    pub nothing_new : NothingNewIn f answer epoch early (Moves (Takes i (TimeHasPassed now) (steps.Begins next) becomes) ∷ late)
    nothing_new m out = law f answer (events_in epoch early) (events_in epoch (Moves move ∷ late)) majority.who (λ j. (now_in.replicas j).nonce) m out_for_good out
