-- What the messages and the replicas say of the group's history.
use Rattle.std.proofs.Common.{max, ◌≡◌, ℕ, ◌+◌, ◌-◌, ◌<◌, ◌≤◌, ◌⊎◌, true, false, List, [], ◌∷◌, ◌++◌, length, take, Option, Some, None}
use Rattle.vr_model.specs.Logs.{Request, IsPrefix, IsEntry, IsRising, IsAmong, IsFrom}
use Rattle.vr_model.specs.Groups.{primary}
use Rattle.laws_history.proofs.History.{History, IsChosen, IsSound, Grows, Leaves}
use Rattle.vr_model.specs.Messages.{DoViewChange, PrimaryState, RecoveryResponse, number_of, Body, RequestMessage, Prepare, PrepareOk, Commit, Reply, StartViewChange, DoViewChangeMessage, StartView, Recovery, RecoveryResponseMessage, GetState, NewState, Message}
use Rattle.vr_model.specs.Replicas.{is_normal, is_view_change, is_recovering, is_down, ReplicaState, Outcome}
use Rattle.vr_model.specs.Choices.{commands}
use Rattle.vr_model.specs.Views.{IsStarted, SentDoViewChange, IsNormalAbove}

-- the first k entries of v's log are committed, by a quorum of v or of an earlier view
pub record IsCommitted {X : Type 0} (f : ℕ) (h : History X) (v k : ℕ) : Type 0 where
  pub within : k ≤ length (h.log v)
  pub since : ℕ
  pub upto : since ≤ v
  pub chosen : IsChosen f h since k
  pub same : take k (h.log v) ≡ take k (h.log since)

-- a log of view v, as it was handed on
pub record IsLogOf {X : Type 0} (h : History X) (v : ℕ) (log : List X) : Type 0 where
  pub started : h.started v ≡ true
  pub within : IsPrefix log (h.log v)
  pub whole : h.first v ≤ length log

pub record PrepareSays {X : Type 0} (f : ℕ) (h : History X) (v : ℕ) (m : X) (p c : ℕ) : Type 0 where
  pub started : h.started v ≡ true
  pub above : 0 < p
  pub entry : IsEntry (h.log v) (p - 1) m
  pub commit : IsCommitted f h v c

pub record LogSays {X : Type 0} (f : ℕ) (h : History X) (s v c : ℕ) (mine : List X) : Type 0 where
  pub leads : primary f v ≡ s
  pub log : IsLogOf h v mine
  pub first : h.first v ≡ length mine
  pub commit : IsCommitted f h v c

-- with the log comes all that t had accepted of the view when it came up with this nonce
pub record StateSays {X : Type 0} (f : ℕ) (h : History X) (s t v x c : ℕ) (mine : List X) : Type 0 where
  pub leads : primary f v ≡ s
  pub log : IsLogOf h v mine
  pub commit : IsCommitted f h v c
  pub used : h.used t x ≡ true
  pub fresh : h.held t x v ≤ length mine

-- the response of s to the recovery of replica i with nonce x
abbrev pub ResponseOk : {C : Type 0} → ℕ → History (Request C) → ℕ → ℕ → ℕ → RecoveryResponse C → Type 0
ResponseOk {C} f h i x s a = (v : PrimaryState C) → a.state ≡ Some v → StateSays f h s i a.view x v.commit_number v.log

pub record PartSays {X : Type 0} (f : ℕ) (h : History X) (v p c : ℕ) (part : List X) : Type 0 where
  pub log : IsLogOf h v (take p (h.log v) ++ part)
  pub place : p ≤ length (h.log v)
  pub commit : IsCommitted f h v c

pub record DoViewChangeSays {X : Type 0} (f : ℕ) (h : History X) (s u last c : ℕ) (log : List X) : Type 0 where
  pub leaves : Leaves h s u last log
  pub commit : IsCommitted f h last c
  pub executed : c ≤ length log

pub record ReplySays {C A : Type 0} (f : ℕ) (answer : List C → A) (h : History (Request C)) (client number : ℕ) (a : A) : Type 0 where
  pub view : ℕ
  pub place : ℕ
  pub request : Request C
  pub commit : IsCommitted f h view (place + 1)
  pub entry : IsEntry (h.log view) place request
  pub done : place < h.done
  pub client_is : request.client ≡ client
  pub number_is : request.number ≡ number
  pub answer_is : a ≡ answer (commands (take (place + 1) (h.log view)))

-- what a message from s to t says
abbrev pub Says : {C A : Type 0} → ℕ → (List C → A) → History (Request C) → ℕ → ℕ → Body C A → Type 0
Says f answer h s t (RequestMessage m) = IsAmong h.asked m
Says f answer h s t (Prepare v m p c) = PrepareSays f h v m p c
Says f answer h s t (PrepareOk v p) = p ≤ h.accepted s v
Says f answer h s t (Commit v c) = IsCommitted f h v c
Says f answer h s t (Reply v n a) = ReplySays f answer h t n a
Says f answer h s t (StartViewChange v) = Unit {0}
Says f answer h s t (DoViewChangeMessage u a) = DoViewChangeSays f h s u a.last_normal_view a.commit_number a.log × (u ≤ h.left s)
Says f answer h s t (StartView v c log) = LogSays f h s v c log
Says f answer h s t (Recovery x w) = h.used s x ≡ true
Says f answer h s t (RecoveryResponseMessage x a) = ResponseOk f h t x s a
Says f answer h s t (GetState v p) = Unit {0}
Says f answer h s t (NewState v p c log) = PartSays f h v p c log

abbrev pub MessageSays : {C A : Type 0} → ℕ → (List C → A) → History (Request C) → Message C A → Type 0
MessageSays f answer h m = Says f answer h (number_of m.from) (number_of m.to) m.body

abbrev pub AllSay : {C A : Type 0} → ℕ → (List C → A) → History (Request C) → List (Message C A) → Type 0
AllSay f answer h [] = Unit {0}
AllSay f answer h (m ∷ ms) = MessageSays f answer h m × AllSay f answer h ms

-- replica i holds this log, of its last normal view, and has executed k entries
pub record Stands {X : Type 0} (f : ℕ) (h : History X) (i v k : ℕ) (mine : List X) : Type 0 where
  pub log : IsLogOf h v mine
  pub accepted : h.accepted i v ≡ length mine
  pub commit : IsCommitted f h v k
  pub executed : k ≤ length mine

pub record NormalOk {C : Type 0} (f : ℕ) (h : History (Request C)) (i : ℕ) (r : ReplicaState C) : Type 0 where
  pub stands : Stands f h i r.view r.commit_number r.log
  pub last : r.last_normal_view ≡ r.view
  pub promised : h.promised i ≡ r.view
  pub stored : r.stored_view ≡ r.view
  pub leads : primary f r.view ≡ i → r.log ≡ h.log r.view
  pub acknowledged : primary f r.view ≡ i → (s : ℕ) → r.acknowledged s ≤ h.accepted s r.view

pub record ViewChangeOk {C : Type 0} (f : ℕ) (h : History (Request C)) (i : ℕ) (r : ReplicaState C) : Type 0 where
  pub stands : Stands f h i r.last_normal_view r.commit_number r.log
  pub below : r.last_normal_view < r.view
  pub promised : h.promised i ≡ r.view
  pub stored : r.stored_view ≡ r.view
  pub later : (v : ℕ) → r.last_normal_view < v → h.accepted i v ≡ 0
  pub unstarted : primary f r.view ≡ i → h.started r.view ≡ false
  pub sent_do_view_change : r.sent_do_view_change ≡ true → (primary f r.view ≡ i → ⊥) → r.view ≤ h.left i
  pub do_view_changes : (s : ℕ) (a : DoViewChange C) → r.do_view_changes s ≡ Some a → DoViewChangeSays f h s r.view a.last_normal_view a.commit_number a.log
  pub left : (s : ℕ) (a : DoViewChange C) → r.do_view_changes s ≡ Some a → (s ≡ i → ⊥) → r.view ≤ h.left s  -- its own is not sent, but kept

pub record RecoveringOk {C : Type 0} (f : ℕ) (h : History (Request C)) (i : ℕ) (r : ReplicaState C) : Type 0 where
  pub empty : r.log ≡ []
  pub commit : r.commit_number ≡ 0
  pub promised : h.promised i ≤ r.stored_view
  pub used : h.used i r.nonce ≡ true
  pub held : (v : ℕ) → h.held i r.nonce v ≡ h.accepted i v
  pub own : r.responses i ≡ None
  pub responses : (s : ℕ) (a : RecoveryResponse C) → r.responses s ≡ Some a → ResponseOk f h i r.nonce s a

pub record ReplicaOk {C : Type 0} (f : ℕ) (h : History (Request C)) (i : ℕ) (r : ReplicaState C) : Type 0 where
  pub up : is_down r.status ≡ false
  pub normal : is_normal r.status ≡ true → NormalOk f h i r
  pub view_change : is_view_change r.status ≡ true → ViewChangeOk f h i r
  pub recovering : is_recovering r.status ≡ true → RecoveringOk f h i r

-- what a step of another replica leaves alone
pub record Apart {X : Type 0} (f : ℕ) (h g : History X) (j : ℕ) : Type 0 where
  pub accepted : (v : ℕ) → g.accepted j v ≡ h.accepted j v
  pub promised : g.promised j ≡ h.promised j
  pub log : (v : ℕ) → primary f v ≡ j → g.log v ≡ h.log v
  pub started : (v : ℕ) → primary f v ≡ j → g.started v ≡ h.started v

-- a view's log: rising, and of what was submitted
pub record LogOk {C : Type 0} (asked log : List (Request C)) : Type 0 where
  pub rising : IsRising log
  pub submitted : IsFrom asked log

-- what the store keeps
abbrev pub saved : ℕ → Option ℕ → ℕ
saved stored None = stored
saved stored (Some u) = u

-- the replica knows what its store keeps, and that never falls
pub record StoreOk {C A : Type 0} (stored : ℕ) (o : Outcome C A) : Type 0 where
  pub is : o.replica.stored_view ≡ saved stored o.saves
  pub rises : stored ≤ saved stored o.saves

-- by this outcome replica i leaves the view: it sends a DOVIEWCHANGE of a later one, or is normal in one
abbrev pub LeavesBy : {C A : Type 0} → ℕ → Outcome C A → ℕ → Type 0
LeavesBy i o v = SentDoViewChange o.sends i v ⊎ IsNormalAbove o.replica v

-- the outcome of a rule at replica i agrees with a later history
pub record Good {C A : Type 0} (f : ℕ) (answer : List C → A) (h : History (Request C)) (i stored k : ℕ) (o : Outcome C A) : Type 0 where
  pub store : StoreOk stored o
  pub later : History (Request C)
  pub sound : IsSound f later
  pub grows : Grows h later
  pub apart : (j : ℕ) → (j ≡ i → ⊥) → Apart f h later j
  pub replica : ReplicaOk f later i o.replica
  pub done : later.done ≤ max h.done o.replica.commit_number
  pub rises : ((v : ℕ) → LogOk h.asked (h.log v)) → (v : ℕ) → LogOk later.asked (later.log v)
  pub asked : later.asked ≡ h.asked
  pub sends : AllSay f answer later o.sends
  pub grown : k ≤ o.replica.commit_number
  pub unused : (j y : ℕ) → later.used j y ≡ true → h.used j y ≡ true
  pub left : (j v : ℕ) → v < later.left j → (v < h.left j) ⊎ ((j ≡ i) × LeavesBy i o v)
  pub starts : (u : ℕ) → later.started u ≡ true → (h.started u ≡ true) ⊎ (0 < f → IsStarted o.sends u)

-- the same, where the step may use a nonce
pub record Fits {C A : Type 0} (f : ℕ) (answer : List C → A) (h : History (Request C)) (i stored : ℕ) (o : Outcome C A) : Type 0 where
  pub store : StoreOk stored o
  pub later : History (Request C)
  pub sound : IsSound f later
  pub grows : Grows h later
  pub apart : (j : ℕ) → (j ≡ i → ⊥) → Apart f h later j
  pub replica : ReplicaOk f later i o.replica
  pub done : later.done ≤ max h.done o.replica.commit_number
  pub rises : ((v : ℕ) → LogOk h.asked (h.log v)) → (v : ℕ) → LogOk later.asked (later.log v)
  pub asked : later.asked ≡ h.asked
  pub sends : AllSay f answer later o.sends
  pub left : (j v : ℕ) → v < later.left j → (v < h.left j) ⊎ ((j ≡ i) × LeavesBy i o v)
  pub starts : (u : ℕ) → later.started u ≡ true → (h.started u ≡ true) ⊎ (0 < f → IsStarted o.sends u)
