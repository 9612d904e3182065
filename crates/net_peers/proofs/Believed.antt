-- What a machine has proved.
use mathlib.Core.Logic.{∥∥₁_map}
use Rattle.std.proofs.Common.{◌≡◌, ℕ, List, inl, inr, refl, sym, subst}
use Rattle.net_hello.specs.declared.hello.Hello.{Hello}
use Rattle.net_hello.specs.Hellos.{IsHello}
use Rattle.net_keys.specs.Sealing.{Opens}
use Rattle.net_keys.specs.Meeting.{HasAnswered, MeetsDialler, MeetsListener}
use Rattle.net_keys.specs.declared.challenge.Challenge.{Challenge}
use Rattle.net_keys.specs.declared.sealing.Opener.{Opener}
use Rattle.net_keys.specs.declared.meeting.Ends.{Ends}
use Rattle.net_keys.specs.declared.meeting.Dialled.{Dialled}
use Rattle.net_keys.specs.declared.meeting.Answered.{Answered}
use Rattle.net_peers.specs.declared.guard.Guard.{Guard}
use Rattle.net_peers.specs.Proved.{HasCalled, IsLeft, IsProved, IsSaidByDialler, IsSaidByListener, dialled_by, machine_of}

-- a machine that was dialled is met
pub has_called : (guard : Guard) (machine : ℕ) (nonce : List ℕ) (dialled : Dialled) (answer : Challenge) (proof : List ℕ) (ends : Ends)
    → dialled ≡ dialled_by guard machine nonce → MeetsListener dialled answer proof ends → ∥ HasCalled guard machine nonce answer proof ends.opener ∥₁
has_called guard machine nonce dialled answer proof ends is met = ∣ record {
  ends = ends;
  met = subst (λ (d : Dialled). MeetsListener d answer proof ends) is met;
  opener_is = refl;
} ∣₁

-- and says hello
pub proved_by_listener : (guard : Guard) (machine : ℕ) (nonce : List ℕ) (answer : Challenge) (proof : List ℕ) (before after : Opener) (body sum : List ℕ) (hello : Hello)
    → ∥ HasCalled guard machine nonce answer proof before ∥₁ → Opens before after body sum → IsHello hello body → machine_of hello.party ≡ machine → ∥ IsProved guard hello sum after ∥₁
proved_by_listener guard machine nonce answer proof before after body sum hello called opens spells own = ∥∥₁_map called (λ (h : HasCalled guard machine nonce answer proof before). record {
  body = body;
  spells = spells;
  said = inr (subst (λ (m : ℕ). IsSaidByListener guard m body sum after) (sym own) (record {
    nonce = nonce;
    answer = answer;
    proof = proof;
    before = before;
    called = h;
    opens = opens;
  }));
})

-- a machine that dialled is met
said_by_dialler : (guard : Guard) (challenge : Challenge) (nonce : List ℕ) (answered : Answered) (body sum : List ℕ) (ends : Ends)
    → HasAnswered guard.keys guard.own challenge nonce answered → MeetsDialler answered body sum ends → IsSaidByDialler guard challenge.from body sum ends.opener
said_by_dialler guard challenge nonce answered body sum ends has met = record {
  challenge = challenge;
  from = refl;
  nonce = nonce;
  answered = answered;
  has_answered = has;
  ends = ends;
  met = met;
  opener_is = refl;
}

-- by its hello
pub proved_by_dialler : (guard : Guard) (challenge : Challenge) (nonce : List ℕ) (answered : Answered) (body sum : List ℕ) (ends : Ends) (hello : Hello)
    → ∥ HasAnswered guard.keys guard.own challenge nonce answered ∥₁ → MeetsDialler answered body sum ends → IsHello hello body → machine_of hello.party ≡ challenge.from
    → ∥ IsProved guard hello sum ends.opener ∥₁
proved_by_dialler guard challenge nonce answered body sum ends hello has met spells own = ∥∥₁_map has (λ (h : HasAnswered guard.keys guard.own challenge nonce answered). record {
  body = body;
  spells = spells;
  said = inl (subst (λ (m : ℕ). IsSaidByDialler guard m body sum ends.opener) (sym own) (said_by_dialler guard challenge nonce answered body sum ends h met));
})

-- or by what it leaves
pub left_by_dialler : (guard : Guard) (challenge : Challenge) (nonce : List ℕ) (answered : Answered) (body sum : List ℕ) (ends : Ends)
    → ∥ HasAnswered guard.keys guard.own challenge nonce answered ∥₁ → MeetsDialler answered body sum ends → ∥ IsLeft guard challenge.from body sum ∥₁
left_by_dialler guard challenge nonce answered body sum ends has met = ∥∥₁_map has (λ (h : HasAnswered guard.keys guard.own challenge nonce answered). record {
  opener = ends.opener;
  said = said_by_dialler guard challenge nonce answered body sum ends h met;
})
