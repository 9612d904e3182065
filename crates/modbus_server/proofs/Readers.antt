-- Who may only read stages nothing.
use Rattle.std.proofs.Common.{◌≡◌, ℕ, Bool, List, [], ◌∷◌, Option, Some, None, ◌⊎◌, sym, ap, refl, subst, ◌∙◌}
use Rattle.io_image.specs.Book.{Book}
use Rattle.il_model.specs.declared.cells.Cells.{Cells}
use Rattle.io_model.specs.Streams.{Ending, Rest, Fault, Failed}
use Rattle.modbus_wire.specs.declared.header.HeaderFault.{HeaderFault}
use Rattle.modbus_wire.specs.Frames.{Adu}
use Rattle.modbus_replies.specs.declared.permitted.Access.{Access}
use Rattle.modbus_replies.specs.declared.permitted.Access.TheVariants.{ReadsAlone}
use Rattle.modbus_replies.specs.Replies.{Replies, permitted_reply, read_outcome, read_reply}
use Rattle.modbus_server.specs.declared.serve.SessionEnd.{SessionEnd}
use Rattle.modbus_server.specs.declared.serve.SessionEnd.TheVariants as ends
use Rattle.modbus_server.specs.Sessions.{Images, Answers, AnswersAll, Serves, Breaks, Ended, Talks}
use Rattle.io_image.specs.Releases.{shown}

-- of a reply that stages nothing
nothing : (before after : Option Book) (f : Cells → List ℕ) (reply : List ℕ) → Replies before after (λ staged refused. read_outcome (f staged)) reply → after ≡ before
nothing None after f reply h = h.0
nothing (Some b) None f reply h = absurd h
nothing (Some b) (Some c) f reply h = ap Some h.2

permitted : (access : Access) (before after : Option Book) (stale : Bool) (pdu : List ℕ) (released : Cells) (reply : List ℕ) → access ≡ ReadsAlone
    → Replies before after (λ staged refused. permitted_reply access stale pdu staged released refused) reply → after ≡ before
permitted access before after stale pdu released reply is h =
    nothing before after (λ staged. read_reply stale pdu staged released) reply
    (subst (λ (a : Access). Replies before after (λ staged refused. permitted_reply a stale pdu staged released refused) reply) is h)

one : (a b : Images) (u x : Adu) → a.access ≡ ReadsAlone → Answers a u x b → b.told ≡ a.told
one a b u x is h = permitted a.access a.told b.told h.stale u.pdu (shown b.seen).image.cells x.pdu is h.pdu

all : (a c : Images) (us as' : List Adu) → a.access ≡ ReadsAlone → AnswersAll a us as' c → c.told ≡ a.told
all a c [] [] is h = ap (λ (d : Images). d.told) h
all a c [] (x ∷ as') is h = absurd h
all a c (u ∷ us) [] is h = absurd h
all a c (u ∷ us) (x ∷ as') is h =
    let first = h.1 in
    all h.0 c us as' (first.access ∙ is) h.2 ∙ one a h.0 u x is first

served : (input : List ℕ) (to : Ending HeaderFault) (a c : Images) (held held' : Option (List ℕ)) → a.access ≡ ReadsAlone → Serves (Rest []) input to a c held held' → c.told ≡ a.told
served input to a c held held' is s = all a c s.requests s.replies is s.answered

broken : (input : List ℕ) (a c : Images) (held held' : Option (List ℕ)) → a.access ≡ ReadsAlone → Breaks input a c held held' → c.told ≡ a.told
broken input a c held held' is s = all a c s.requests s.replies is s.answered

ended : (end : SessionEnd) (input : List ℕ) (left : Option (List ℕ)) (fails : Type 0) (a c : Images) (held held' : Option (List ℕ)) → a.access ≡ ReadsAlone → Ended end input left fails a c held held' → c.told ≡ a.told
ended ends.Closed input left fails a c held held' is h = served input (Rest h.1) a c held held' is h.2
ended (ends.Header fault) input left fails a c held held' is h = served input (Fault fault) a c held held' is h
ended ends.Memory input left fails a c held held' is h = broken input a c held held' is h
ended ends.Device input left fails a c held held' is h = broken input a c held held' is h.1

pub unstaged : (end : SessionEnd) (left left' held held' : Option (List ℕ)) (r r' w w' : ℕ) (a c : Images) → a.access ≡ ReadsAlone → Talks end left left' r r' held held' w w' a c → c.told ≡ a.told
unstaged end left left' held held' r r' w w' a c is t = ended end t.input left' (Failed r r' ⊎ Failed w w') a c held held' is t.ended
