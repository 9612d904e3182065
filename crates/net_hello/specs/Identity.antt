-- What tells one group from another, and which hello an end of a connection accepts.
use Rattle.std.specs.Prelude.{◌≡◌, ℕ, ◌^◌, ◌<◌, ◌-◌, List, ◌∷◌, ◌++◌, ◌==◌, ◌&&◌, not, length, nat_lt, Bool, false}
use Rattle.std.specs.Prelude.{Option, Some, None, Result, Ok, Err, if◌then◌else◌}
use Rattle.std.specs.Int.{w16, w32, to_be_bytes}
use Rattle.sha2.specs.Sha256.{sha256}
use Rattle.vr_model.specs.declared.message.Party.{Party}
use Rattle.vr_model.specs.declared.message.Party.TheVariants.{Replica, Client}
use Rattle.net_hello.specs.declared.hello.Known.{Known}
use Rattle.net_hello.specs.declared.hello.Hello.{Hello}
use Rattle.net_hello.specs.declared.judging.Refusal.{Refusal}
use Rattle.net_hello.specs.declared.judging.Refusal.TheVariants as refusals

-- what tells a group from another: its name, the bytes that were drawn for it, how many may fail, the budget of a scan,
-- and the commands from checkpoint to checkpoint
pub record Terms : Type 0 where
  pub name : List ℕ
  pub drawn : List ℕ
  pub f : ℕ
  pub budget : ℕ
  pub every : ℕ

pub record FitsTerms (t : Terms) : Type 0 where
  pub drawn : length t.drawn ≡ 16
  pub budget : t.budget < 2 ^ 32
  pub every : t.every < 2 ^ 16

-- the numbers in one byte, four and two, then 16 drawn bytes, and then the name
abbrev pub encoded : Terms → List ℕ
encoded t = t.f ∷ (to_be_bytes w32 t.budget ++ (to_be_bytes w16 t.every ++ (t.drawn ++ t.name)))

abbrev pub identity_of : Terms → List ℕ
identity_of t = sha256 (encoded t)

-- Other terms are other bytes, before they are hashed.
abbrev pub AreTold : Type 0
AreTold = (a b : Terms) → FitsTerms a → FitsTerms b → encoded a ≡ encoded b → a ≡ b

-- ---- which hello is accepted

-- of one kind and number
abbrev pub are_alike : Party → Party → Bool
are_alike (Replica i) (Replica j) = i == j
are_alike (Client c) (Client d) = c.number == d.number
are_alike (Replica i) (Client d) = false
are_alike (Client c) (Replica j) = false

-- both speak in one epoch of one group, and their machines show outputs equally long
abbrev pub AreOfOneEpoch : Hello → Hello → Type 0
AreOfOneEpoch own other = (other.identity ≡ own.identity) × (other.fresh ≡ own.fresh)
    × (other.epoch.number ≡ own.epoch.number) × (other.epoch.image ≡ own.epoch.image)

-- both speak so, for two parties
abbrev pub AreOfTwo : Hello → Hello → Type 0
AreOfTwo own other = AreOfOneEpoch own other × (other.party ≡ own.party → ⊥)

-- a store was seen, and it's another one
abbrev pub is_another_store : ℕ → ℕ → Bool
is_another_store seen store = not (seen == 0) && not (seen == store)

-- starts were seen, and these are more by some thousands
abbrev pub is_far_above : ℕ → ℕ → Bool
is_far_above seen starts = not (seen == 0) && nat_lt 4096 (starts - seen)

-- by what is known of the other end's party, and by what that end knows of one's own: its store isn't the one that was
-- seen, or one's own isn't; it was started less often than was seen, or far more often; or one's own was
abbrev pub judged_by : Hello → Known → Hello → Result (Unit {0}) Refusal
judged_by own seen other = if is_another_store seen.store other.store then Err refusals.OtherStore
    else (if is_another_store other.known.store own.store then Err refusals.OwnStore
    else (if nat_lt other.starts seen.starts then Err refusals.FewerStarts
    else (if is_far_above seen.starts other.starts then Err refusals.MoreStarts
    else (if nat_lt own.starts other.known.starts then Err refusals.OwnStarts else Ok tt))))

-- a party to be connected with, of which that is known, and which is judged so by it
abbrev pub JudgesKnown : Hello → Option Known → Hello → Result (Unit {0}) Refusal → Type 0
JudgesKnown own seen other result =
    AreOfTwo own other × ((known : Known) × (seen ≡ Some known) × (judged_by own known other ≡ result))

-- How a hello is judged, by one's own and by what is known of its party, if that's one to be connected with. The first
-- reason to refuse it is told.
abbrev pub Judges : Hello → Option Known → Hello → Result (Unit {0}) Refusal → Type 0
Judges own seen other (Ok done) = JudgesKnown own seen other (Ok done)
Judges own seen other (Err refusals.OtherVersion) = ⊥
Judges own seen other (Err refusals.OtherGroup) = other.identity ≡ own.identity → ⊥
Judges own seen other (Err refusals.OtherFresh) = (other.identity ≡ own.identity) × (other.fresh ≡ own.fresh → ⊥)
Judges own seen other (Err refusals.OtherEpoch) = (other.identity ≡ own.identity) × (other.fresh ≡ own.fresh)
    × (other.epoch.number ≡ own.epoch.number → ⊥)
Judges own seen other (Err refusals.OtherProgram) = (other.identity ≡ own.identity) × (other.fresh ≡ own.fresh)
    × (other.epoch.number ≡ own.epoch.number) × (other.epoch.image ≡ own.epoch.image → ⊥)
Judges own seen other (Err refusals.OwnParty) = AreOfOneEpoch own other × (other.party ≡ own.party)
Judges own seen other (Err refusals.NoMember) = AreOfTwo own other × (seen ≡ None)
Judges own seen other (Err refusals.OtherStore) = JudgesKnown own seen other (Err refusals.OtherStore)
Judges own seen other (Err refusals.OwnStore) = JudgesKnown own seen other (Err refusals.OwnStore)
Judges own seen other (Err refusals.FewerStarts) = JudgesKnown own seen other (Err refusals.FewerStarts)
Judges own seen other (Err refusals.MoreStarts) = JudgesKnown own seen other (Err refusals.MoreStarts)
Judges own seen other (Err refusals.OwnStarts) = JudgesKnown own seen other (Err refusals.OwnStarts)
