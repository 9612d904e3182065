-- What is read behind a hello that was proved was opened over a way from its sayer's machine.
use Rattle.std.proofs.Common.{◌≡◌, ℕ, ◌+◌, ◌^◌, ◌<◌, ◌≤◌, ◌⊎◌, inl, inr, not, ◌||◌, Bool, true, false, List, [], ◌∷◌, ◌++◌, append_assoc, Option, Some, None, Result, Ok, Err, length, if◌then◌else◌, refl, sym, ap, ◌∙◌, subst, arith}
use Rattle.std.specs.Prelude.{◌==◌, bytes_eq}
use Rattle.std.proofs.lemmas.Bool.{eqb-true}
use Rattle.io_model.specs.Streams.{Ending, Splits}
use Rattle.vr_model.specs.declared.message.Message.{Message}
use Rattle.vr_wire.specs.declared.fault.WireFault.{WireFault}
use Rattle.vr_wire.specs.Streams.{frames}
use Rattle.net_keys.specs.Keys.{heard_as, key_name, key_named, pair_key}
use Rattle.net_keys.specs.Meeting.{answer_of, connection_key, judged_answer, judged_challenge, key_or_none}
use Rattle.net_keys.specs.Sealing.{sum_of}
use Rattle.net_keys.specs.Forging.{AreOpened}
use Rattle.net_keys.specs.declared.key.Key.{Key}
use Rattle.net_keys.specs.declared.keys.Keys.{Keys}
use Rattle.net_keys.specs.declared.challenge.Challenge.{Challenge}
use Rattle.net_keys.specs.declared.challenge.ChallengeFault.{ChallengeFault}
use Rattle.net_keys.specs.declared.challenge.ChallengeFault.TheVariants.{OwnChallenge, OtherMachine, OwnMachine, OtherKey}
use Rattle.net_keys.specs.declared.sealing.Side.{Side}
use Rattle.net_keys.specs.declared.sealing.Side.TheVariants.{Dialler, Listener}
use Rattle.net_keys.specs.declared.sealing.Opener.{Opener}
use Rattle.net_keys.specs.declared.meeting.Answered.{Answered}
use Rattle.net_sealed.specs.Coming.{Coming, Reads, StandFirst}
use Rattle.net_sealed.proofs.Readings.{reads_more}
use Rattle.net_peers.specs.Proved.{IsSaidByDialler, IsSaidByListener, machine_of}
use Rattle.laws_keys.specs.Ways.{Way, HasOpened, HaveCome, StandsIn}
use Rattle.laws_keys.specs.Hellos.{GoesFrom, IsHeard, LeftOpenWays, ProvedOpenWays, ReadingsJoin, SumsStand, opens_behind}

-- ---- how challenges were judged

abbrev answer_judged : (own from to key : Bool) → Result (Unit {0}) ChallengeFault
answer_judged own from to key = if own then Err OwnChallenge
    else (if not from || not to then Err OtherMachine else (if not key then Err OtherKey else Ok tt))

answered_by : (own from to key : Bool) → answer_judged own from to key ≡ Ok tt → from ≡ true
answered_by true from to key e = absurd cc
answered_by false true to key e = refl
answered_by false false to key e = absurd cc

answers : (own answer : Challenge) → judged_answer own answer ≡ Ok tt → answer.from ≡ own.to
answers own answer e = eqb-true answer.from own.to (answered_by (bytes_eq answer.nonce own.nonce) (answer.from == own.to) (answer.to == own.from) (bytes_eq answer.key own.key) e)

abbrev challenge_judged : (own to from : Bool) → Option Key → Result Key ChallengeFault
challenge_judged own to from found = if own then Err OwnChallenge
    else (if not to then Err OtherMachine else (if from then Err OwnMachine else key_or_none found))

is_named : (own to from : Bool) (found : Option Key) (key : Key) → challenge_judged own to from found ≡ Ok key → found ≡ Some key
is_named true to from found key e = absurd cc
is_named false false from found key e = absurd cc
is_named false true true found key e = absurd cc
is_named false true false None key e = absurd cc
is_named false true false (Some other) key e = let same : other ≡ key = cc in ap Some same

abbrev one_or_other : Bool → Key → Option Key → Option Key
one_or_other spoken speaks other = if spoken then Some speaks else other

is_spoken : (spoken : Bool) (speaks : Key) (other : Option Key) (key : Key) → one_or_other spoken speaks other ≡ Some key → (key ≡ speaks) ⊎ (other ≡ Some key)
is_spoken true speaks other key e = let same : speaks ≡ key = cc in inl (sym same)
is_spoken false speaks other key e = inr e

of_name : (is : Bool) (other key : Key) → one_or_other is other None ≡ Some key → Some other ≡ Some key
of_name true other key e = e
of_name false other key e = absurd cc

is_other : (hears : Option Key) (name : List ℕ) (key : Key) → heard_as hears name ≡ Some key → hears ≡ Some key
is_other None name key e = absurd cc
is_other (Some other) name key e = of_name (bytes_eq (key_name other) name) other key e

is_heard : (keys : Keys) (own : ℕ) (challenge : Challenge) (nonce : List ℕ) (key : Key) → judged_challenge keys own challenge nonce ≡ Ok key → IsHeard keys key
is_heard keys own challenge nonce key e =
    let named = is_named (bytes_eq challenge.nonce nonce) (challenge.to == own) (challenge.from == own) (key_named keys challenge.key) key e in
    elim (is_spoken (bytes_eq (key_name keys.speaks) challenge.key) keys.speaks (heard_as keys.hears challenge.key) key named) [
      | inl spoken ↦ inl spoken
      | inr other ↦ inr (is_other keys.hears challenge.key key other)
    ]

-- ---- what was opened of what came

stands_wider : (came more part : List ℕ) → StandsIn came part → StandsIn (came ++ more) part
stands_wider came more part (front, rest, is) =
    (front, rest ++ more, ap (λ (t : List ℕ). t ++ more) is ∙ (append_assoc front (part ++ rest) more ∙ ap (λ (t : List ℕ). front ++ t) (append_assoc part rest more)))

have_wider : (came more : List ℕ) (records : List (List ℕ × List ℕ)) → HaveCome came records → HaveCome (came ++ more) records
have_wider came more [] have = tt
have_wider came more ((body, sum) ∷ records) have = (stands_wider came more (body ++ sum) have.0, have_wider came more records have.1)

-- records that stand first, one behind the other, have come
all_stand : (whole front bytes : List ℕ) (records : List (List ℕ × List ℕ)) (rest : List ℕ) → whole ≡ front ++ bytes → StandFirst bytes records rest → HaveCome whole records
all_stand whole front bytes [] rest is stand = tt
all_stand whole front bytes ((body, sum) ∷ records) rest is (high, low, behind, bytes_are, long, stand) =
    let start : List ℕ = front ++ (high ∷ low ∷ []) in
    let one : whole ≡ start ++ (body ++ (sum ++ behind)) =
    is ∙ (ap (λ (t : List ℕ). front ++ t) bytes_are ∙ sym (append_assoc front (high ∷ low ∷ []) (body ++ (sum ++ behind)))) in
    let both : whole ≡ start ++ ((body ++ sum) ++ behind) = one ∙ ap (λ (t : List ℕ). start ++ t) (sym (append_assoc body sum behind)) in
    let more : whole ≡ (start ++ (body ++ sum)) ++ behind = both ∙ sym (append_assoc start (body ++ sum) behind) in
    ((start, behind, both), all_stand whole (start ++ (body ++ sum)) behind records rest more stand)

-- ---- one way

module _ (opener : Opener) (key : List ℕ) (side : Side) (met : ℕ) (is : opener ≡ record { key = key; side = side; next = met }) where
  behind : (records : List (List ℕ × List ℕ)) → AreOpened opener.key opener.side opener.next records → AreOpened key side met records
  behind records opened = subst (λ (o : Opener). AreOpened o.key o.side o.next records) is opened

  few : (n count : ℕ) → n ≡ opener.next + count → n < 2 ^ 64 → met + count ≤ 2 ^ 64
  few n count e lt = let from : opener.next ≡ met = ap (λ (o : Opener). o.next) is in omega arith

module _ (keys : Keys) (own : ℕ) (opener : Opener) (first sum wire rest : List ℕ) (after : Coming) (gave : List ℕ) (given : List Message) (ending : Ending WireFault)
    (r : Reads (Some wire) (Some rest) (opens_behind opener) after gave) (lt : after.opener.next < 2 ^ 64) (split : Splits frames gave given ending) where
  over_all : (records : List (List ℕ × List ℕ)) → HaveCome (first ++ r.came) records → HaveCome (first ++ wire) records
  over_all records have =
      let whole : (first ++ r.came) ++ rest ≡ first ++ wire = append_assoc first r.came rest ∙ ap (λ (t : List ℕ). first ++ t) (sym r.read) in
      subst (λ (t : List ℕ). HaveCome t records) whole (have_wider (first ++ r.came) rest records have)

  by_either : (machine : ℕ) (body : List ℕ) (said : IsSaidByDialler (record { keys = keys; own = own }) machine body sum opener ⊎ IsSaidByListener (record { keys = keys; own = own }) machine body sum opener)
      → SumsStand (record { keys = keys; own = own }) machine body sum opener first said
      → (way : Way) × (opened : List (List ℕ × List ℕ)) × GoesFrom keys machine own way × HasOpened way (first ++ wire) opened given ending
  by_either machine body (inl s) stands =
      let listener : Challenge = answer_of own s.challenge s.nonce in
      let pair : List ℕ = pair_key s.has_answered.key s.challenge.from own in
      let key : List ℕ = connection_key pair s.challenge listener in
      let way : Way = record { pair = pair; dialler = s.challenge; listener = listener; side = Dialler; meeting = 1 } in
      let same : s.answered.key ≡ key = ap (λ (a : Answered). a.key) s.has_answered.answered_is in
      let is : opener ≡ record { key = key; side = Dialler; next = 1 } =
      s.opener_is ∙ (s.met.opener ∙ ap (λ (k : List ℕ). let o : Opener = record { key = k; side = Dialler; next = 1 } in o) same) in (
        way,
        (body, sum) ∷ r.records,
        record {
          key = s.has_answered.key;
          heard = is_heard keys own s.challenge s.nonce s.has_answered.key s.has_answered.judged;
          pair = refl;
          from_is = s.from;
          to_is = refl;
        },
        record {
          stand = over_all ((body, sum) ∷ r.records) (stands_wider first r.came (body ++ sum) stands, all_stand (first ++ r.came) first r.came r.records after.waiting refl r.stand);
          each = (s.met.proved ∙ ap (λ (k : List ℕ). sum_of k Dialler 0 body) same, behind opener key Dialler 1 is r.records r.opened);
          count = let most = few opener key Dialler 1 is after.opener.next (length r.records) r.next lt in omega (arith, most);
          met = omega arith;
          gave = gave;
          left = after.opened;
          bodies = r.bodies;
          split = split;
        },
      )
  by_either machine body (inr s) (proof, stands) =
      let dialler : Challenge = record { from = own; to = machine; key = key_name keys.speaks; nonce = s.nonce } in
      let pair : List ℕ = pair_key keys.speaks own machine in
      let key : List ℕ = connection_key pair dialler s.answer in
      let way : Way = record { pair = pair; dialler = dialler; listener = s.answer; side = Listener; meeting = 2 } in
      let from : s.answer.from ≡ machine = answers dialler s.answer s.called.met.judged in
      let before : s.before ≡ record { key = key; side = Listener; next = 1 } = s.called.opener_is ∙ s.called.met.opener in
      let is : opener ≡ record { key = key; side = Listener; next = 2 } =
      s.opens.after_is ∙ ap (λ (o : Opener). let next : Opener = record o { next = o.next + 1 } in next) before in (
        way,
        ([], s.proof) ∷ (body, sum) ∷ r.records,
        record {
          key = keys.speaks;
          heard = inl refl;
          pair = ap (λ (m : ℕ). pair_key keys.speaks own m) (sym from);
          from_is = from;
          to_is = refl;
        },
        record {
          stand = over_all (([], s.proof) ∷ (body, sum) ∷ r.records) (stands_wider first r.came s.proof proof, (stands_wider first r.came (body ++ sum) stands, all_stand (first ++ r.came) first r.came r.records after.waiting refl r.stand));
          each = (s.called.met.proved, (s.opens.sum_is ∙ ap (λ (o : Opener). sum_of o.key o.side o.next body) before, behind opener key Listener 2 is r.records r.opened));
          count = let most = few opener key Listener 2 is after.opener.next (length r.records) r.next lt in omega (arith, most);
          met = omega arith;
          gave = gave;
          left = after.opened;
          bodies = r.bodies;
          split = split;
        },
      )

pub readings_join : ReadingsJoin
readings_join first second third before between after given more p q = reads_more first second third before between after given more p q

pub proved_open_ways : ProvedOpenWays
proved_open_ways keys own hello sum opener first proved wire rest after bytes given ending reads lt split =
    by_either keys own opener first sum wire rest after bytes given ending reads lt split (machine_of hello.party) proved.proved.body proved.proved.said proved.stand

pub left_open_ways : LeftOpenWays
left_open_ways keys own machine bytes sum first l stands =
    let s = l.said in
    let listener : Challenge = answer_of own s.challenge s.nonce in
    let pair : List ℕ = pair_key s.has_answered.key s.challenge.from own in
    let key : List ℕ = connection_key pair s.challenge listener in
    let way : Way = record { pair = pair; dialler = s.challenge; listener = listener; side = Dialler; meeting = 1 } in
    let same : s.answered.key ≡ key = ap (λ (a : Answered). a.key) s.has_answered.answered_is in (
      way,
      record {
        key = s.has_answered.key;
        heard = is_heard keys own s.challenge s.nonce s.has_answered.key s.has_answered.judged;
        pair = refl;
        from_is = s.from;
        to_is = refl;
      },
      stands,
      (s.met.proved ∙ ap (λ (k : List ℕ). sum_of k Dialler 0 bytes) same, tt),
    )
