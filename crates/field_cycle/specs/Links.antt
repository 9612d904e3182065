-- A connection to a server.
use Rattle.std.specs.Prelude.{◌≡◌, ⊤, ℕ, ◌+◌, ◌-◌, ◌*◌, ◌%◌, ◌^◌, ◌==◌, min, bit_and, Bool, true, false, not, ◌&&◌, nat_le, nat_lt}
use Rattle.std.specs.Prelude.{if◌then◌else◌, List, [], ◌∷◌, Option, Some, None, unwrap_or, Result, Ok, Err}
use Rattle.modbus_wire.specs.Frames.{Adu}
use Rattle.modbus_wire.specs.Functions.{code_of}
use Rattle.modbus_wire.specs.Requests.{function_by, is_request, request_bytes}
use Rattle.modbus_wire.specs.Replies.{reply_of}
use Rattle.modbus_wire.specs.declared.request.Request.{Request}
use Rattle.modbus_wire.specs.declared.reply.Reply.{Reply}
use Rattle.modbus_wire.specs.declared.reply.Reply.TheVariants.{Bits, Words, Done, Failed}
use Rattle.field_cycle.specs.declared.link.TheConstants.{FIRST_PAUSE, LONGEST_PAUSE, GOOD}
use Rattle.field_cycle.specs.declared.link.LinkFault.{LinkFault}
use Rattle.field_cycle.specs.declared.link.LinkFault.TheVariants.{Transaction, Unit, Function, Length, Exception}
use Rattle.field_cycle.specs.declared.link.Asked.{Asked}
use Rattle.field_cycle.specs.declared.link.Phase.{Phase}
use Rattle.field_cycle.specs.declared.link.Phase.TheVariants.{Down, Connecting, Idle, Waiting}
use Rattle.field_cycle.specs.declared.link.Tally.{Tally}
use Rattle.field_cycle.specs.declared.link.Link.{Link}

-- a moment so much later, or the last one of 64 bits
abbrev pub later : ℕ → ℕ → ℕ
later now time = min (now + time) 18446744073709551615

-- what doesn't answer the function: of another function, or of it and of another length
abbrev pub misfit : ℕ → List ℕ → LinkFault
misfit code [] = Function
misfit code (first ∷ others) = if bit_and first 127 == code then Length else Function

-- an exception is a fault, and so is what is no reply
abbrev pub judged : ℕ → List ℕ → Option Reply → Result Reply LinkFault
judged code pdu None = Err (misfit code pdu)
judged code pdu (Some (Failed number)) = Err (Exception number)
judged code pdu (Some (Bits bits)) = Ok (Bits bits)
judged code pdu (Some (Words words)) = Ok (Words words)
judged code pdu (Some Done) = Ok Done

-- the reply that a unit is to what was asked: first the transaction is judged, then the unit, then the bytes
abbrev pub reply_by : Asked → ℕ → Adu → Result Reply LinkFault
reply_by asked unit adu =
    if not (adu.transaction == asked.transaction) then Err Transaction
    else (if not (adu.unit == unit) then Err Unit
    else judged (code_of (function_by asked.request)) adu.pdu (reply_of asked.request adu.pdu))

-- the transaction after this one
abbrev pub next_transaction : ℕ → ℕ
next_transaction transaction = (transaction + 1) % 2 ^ 16

-- one of the sixteen transactions before the next one; behind 65535 comes 0
abbrev pub is_earlier : ℕ → ℕ → Bool
is_earlier next transaction =
    nat_lt 0 ((next + 65536 - transaction) % 65536) && nat_le ((next + 65536 - transaction) % 65536) 16

abbrev pub answer_of : Result Reply LinkFault → Result (Option Reply) LinkFault
answer_of (Ok reply) = Ok (Some reply)
answer_of (Err fault) = Err fault

-- A reply to a request before is late, or came twice: it's none, and no fault. Else it's judged, or nothing was asked.
abbrev pub heard_in : Phase → ℕ → ℕ → Adu → Result (Option Reply) LinkFault
heard_in (Waiting asked) transaction unit adu =
    if is_earlier asked.transaction adu.transaction then Ok None else answer_of (reply_by asked unit adu)
heard_in Idle transaction unit adu =
    if is_earlier (next_transaction transaction) adu.transaction then Ok None else Err Transaction
heard_in _ transaction unit adu = Err Transaction

-- the reply that a unit is where this was asked, if it's none to a request before
abbrev pub heard : Link → Adu → Result (Option Reply) LinkFault
heard l adu = heard_in l.phase l.transaction l.unit adu

abbrev pub IsAnswer : Result (Option Reply) LinkFault → Type 0
IsAnswer (Ok (Some reply)) = ⊤
IsAnswer _ = ⊥

abbrev pub IsSkipped : Result (Option Reply) LinkFault → Type 0
IsSkipped (Ok None) = ⊤
IsSkipped _ = ⊥

abbrev pub is_down : Phase → Bool
is_down Down = true
is_down _ = false

abbrev pub is_idle : Phase → Bool
is_idle Idle = true
is_idle _ = false

abbrev pub is_waiting : Phase → Bool
is_waiting Connecting = true
is_waiting (Waiting asked) = true
is_waiting _ = false

abbrev pub is_up : Phase → Bool
is_up Idle = true
is_up (Waiting asked) = true
is_up _ = false

abbrev pub is_due : Link → ℕ → Bool
is_due l now = is_down l.phase && nat_le l.until now

abbrev pub is_late : Link → ℕ → Bool
is_late l now = is_waiting l.phase && nat_le l.until now

abbrev pub no_tally : Tally
no_tally = record { replies = 0; skipped = 0; retries = 0; losses = 0 }

-- down, with the first pause before it
abbrev pub IsNew : ℕ → ℕ → ℕ → Link → Type 0
IsNew unit timeout retries l = (l.unit ≡ unit) × (l.timeout ≡ timeout) × (l.retries ≡ retries) × (l.phase ≡ Down)
    × (l.until ≡ 0) × (l.pause ≡ FIRST_PAUSE) × (l.tally ≡ no_tally)

abbrev pub connecting : Link → ℕ → Link
connecting l now = record l { phase = Connecting; until = later now l.timeout }

abbrev pub opened_phase : Phase → Phase
opened_phase Connecting = Idle
opened_phase phase = phase

abbrev pub opened : Link → Link
opened l = record l { phase = opened_phase l.phase }

abbrev pub may_ask : Link → Request → Bool
may_ask l request = is_idle l.phase && is_request request

abbrev pub asking : Link → Request → ℕ → Link
asking l request now =
    record l {
      phase = Waiting (record { transaction = next_transaction l.transaction; request = request });
      until = later now l.timeout;
      left = l.retries;
      transaction = next_transaction l.transaction;
    }

-- a unit with the bytes of a request, under the next transaction
abbrev pub IsSent : Link → Request → Adu → Type 0
IsSent l request adu = (adu.transaction ≡ next_transaction l.transaction) × (adu.unit ≡ l.unit) × (adu.pdu ≡ request_bytes request)

abbrev pub is_asked : Phase → Bool
is_asked (Waiting asked) = is_request asked.request
is_asked _ = false

-- what was asked may be asked once more
abbrev pub may_ask_again : Link → Bool
may_ask_again l = nat_lt 0 l.left && is_asked l.phase

abbrev pub one_retry_more : Tally → Tally
one_retry_more t = record t { retries = later t.retries 1 }

-- it's waited for the reply anew, and it may be asked once less
abbrev pub asking_again : Link → ℕ → Link
asking_again l now = record l { until = later now l.timeout; left = l.left - 1; tally = one_retry_more l.tally }

abbrev pub IsSentBy : Phase → Link → Adu → Type 0
IsSentBy (Waiting asked) l adu =
    (adu.transaction ≡ asked.transaction) × (adu.unit ≡ l.unit) × (adu.pdu ≡ request_bytes asked.request)
IsSentBy _ l adu = ⊥

-- the same request as before, under its transaction
abbrev pub IsSentAgain : Link → Adu → Type 0
IsSentAgain l adu = IsSentBy l.phase l adu

abbrev pub one_reply_more : Tally → Tally
one_reply_more t = record t { replies = later t.replies 1 }

-- nothing is asked any more
abbrev pub answered : Link → Link
answered l = record l { phase = Idle; tally = one_reply_more l.tally }

abbrev pub one_skipped_more : Tally → Tally
one_skipped_more t = record t { skipped = later t.skipped 1 }

-- nothing changes, but it's counted
abbrev pub skipping : Link → Link
skipping l = record l { tally = one_skipped_more l.tally }

-- rounds are good since then, or since now; once for 5 s, the next pause is the first again
abbrev pub trusted : Link → ℕ → Link
trusted l now =
    record l {
      good = Some (unwrap_or l.good now);
      pause = if nat_le (later (unwrap_or l.good now) GOOD) now then FIRST_PAUSE else l.pause;
    }

abbrev pub one_loss_more : Tally → Tally
one_loss_more t = record t { losses = later t.losses 1 }

-- down for a pause, of which the next is twice as long, up to the longest
abbrev pub failed : Link → ℕ → Link
failed l now =
    record l {
      phase = Down;
      good = None;
      until = later now l.pause;
      pause = min (later 0 (2 * l.pause)) LONGEST_PAUSE;
      tally = one_loss_more l.tally;
    }

-- down until this moment
abbrev pub turned_away : Link → ℕ → Link
turned_away l until = record l { phase = Down; until = until; tally = one_loss_more l.tally }

-- down, without a fault and without a pause
abbrev pub closed : Link → Link
closed l = record l { phase = Down; until = 0 }
