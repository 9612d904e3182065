-- Requests of a log are noted: of each client the last number is known, and what was executed stays.
use Rattle.std.proofs.Common.{◌≡◌, ℕ, ◌+◌, ◌-◌, ◌<◌, ◌≤◌, List, [], ◌∷◌, ◌++◌, length, take, drop, get_or, set, Some, arith, refl, ap, ◌∙◌, sym, subst, append_assoc, inl, inr}
use Rattle.std.proofs.lemmas.Grind.{common_steps}
use Rattle.std.proofs.lemmas.Bool.{cases_eq}
use Rattle.std.proofs.lemmas.List.{take_more, length-drop, get_or-drop, get_or-set_same, get_or-set_other, length-set, map-append}
use Rattle.il_model.specs.declared.command.Command.{Command}
use Rattle.vr_model.specs.declared.message.Request as code
use Rattle.vr_model.specs.Logs.{Request, greater}
use Rattle.vr_model.specs.Groups.{client_count}
use Rattle.vr_model.specs.Checkpoints.{request_of, requests_of}
use Rattle.vr_clients.specs.declared.clients.Client.{Client}
use Rattle.vr_clients.specs.Clients.{no_client, client_at, noted, KnowsNumbers, KnowsMore}
use Rattle.vr_clients.proofs.LastRequests.{last_more_own, last_more_other}

-- what is known of a client, after a request of another or of its own was noted
pub noted_executed : (clients : List Client) (i number c : ℕ) → c < length clients → (client_at (set clients i (noted (client_at clients i) number)) c).executed ≡ (client_at clients c).executed
noted_executed clients i number c l = elim (cases_eq i c) [
  | inl same ↦
      ap (λ (x : Client). x.executed) (ap (λ j. get_or (set clients i (noted (client_at clients i) number)) j no_client) (sym same) ∙ get_or-set_same clients i (noted (client_at clients i) number) no_client (let j : i < length clients = omega arith in j))
      ∙ ap (λ j. (client_at clients j).executed) same
  | inr other ↦ ap (λ (x : Client). x.executed) (get_or-set_other clients i c (noted (client_at clients i) number) no_client (λ e. other (sym e)))
]

pub noted_numbers : (clients : List Client) (log : List (Request Command)) (m : Request Command) → KnowsNumbers clients log → KnowsNumbers (set clients m.client (noted (client_at clients m.client) m.number)) (log ++ m ∷ [])
noted_numbers clients log m k = record {
  whole = length-set clients m.client new ∙ k.whole;
  numbers = λ c l. elim (cases_eq m.client c) [
    | inl same ↦
        ap (λ (x : Client). x.last_number) (ap (λ j. get_or (set clients m.client new) j no_client) (sym same) ∙ get_or-set_same clients m.client new no_client (let whole : length clients ≡ client_count = k.whole in let j : m.client < length clients = omega arith in j))
        ∙ ap (λ j. greater (client_at clients j).last_number (Some m.number)) same
        ∙ ap (λ o. greater o (Some m.number)) (k.numbers c l)
        ∙ sym (last_more_own log m c same)
    | inr other ↦ ap (λ (x : Client). x.last_number) (get_or-set_other clients m.client c new no_client (λ e. other (sym e))) ∙ k.numbers c l ∙ sym (last_more_other log m c other)
  ];
}
  where
    new : Client
    new = noted (client_at clients m.client) m.number

-- a table knows what it knew
pub knows_none : (table : List Client) → KnowsMore table [] table
knows_none table = record { size = refl; numbers = λ log k. subst (KnowsNumbers table) (append_none log) k; executed = λ c l. refl }
  where
    append_none : (xs : List (Request Command)) → xs ≡ xs ++ []
    append_none xs = grind (arith, common_steps)

-- one more request
knows_one : (table : List Client) (requests : List (Request Command)) (now : List Client) (m : Request Command) → KnowsMore table requests now
    → KnowsMore table (requests ++ m ∷ []) (set now m.client (noted (client_at now m.client) m.number))
knows_one table requests now m k = record {
  size = length-set now m.client (noted (client_at now m.client) m.number) ∙ k.size;
  numbers = λ log known. subst (KnowsNumbers (set now m.client (noted (client_at now m.client) m.number))) (append_assoc log requests (m ∷ [])) (noted_numbers now (log ++ requests) m (k.numbers log known));
  executed = λ c l. noted_executed now m.client m.number c (subst (λ n. c < n) (sym k.size) l) ∙ k.executed c l;
}

-- the requests of the log from one place to another are known, and the one there
pub knows_next : (table now : List Client) (log : List code.Request) (from place : ℕ) (m : code.Request) → from ≤ place → place < length log → get_or log place m ≡ m
    → KnowsMore table (requests_of (take (place - from) (drop from log))) now
    → KnowsMore table (requests_of (take (place + 1 - from) (drop from log))) (set now m.client.number (noted (client_at now m.client.number) m.number))
knows_next table now log from place m l w is k =
    let n : place + 1 - from ≡ place - from + 1 = omega arith in
    let j : from + (place - from) ≡ place = omega arith in
    let size : length (drop from log) ≡ length log - from = length-drop from log in
    let more : take (place + 1 - from) (drop from log) ≡ take (place - from) (drop from log) ++ m ∷ [] =
    ap (λ p. take p (drop from log)) n ∙ take_more (drop from log) (place - from) m (omega arith)
    ∙ ap (λ x. take (place - from) (drop from log) ++ x ∷ []) (get_or-drop from log (place - from) m ∙ ap (λ p. get_or log p m) j ∙ is) in
    subst (λ rs. KnowsMore table rs (set now m.client.number (noted (client_at now m.client.number) m.number)))
    (sym (ap requests_of more ∙ map-append request_of (take (place - from) (drop from log)) (m ∷ [])))
    (knows_one table (requests_of (take (place - from) (drop from log))) now (request_of m) k)
