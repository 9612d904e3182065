-- One history, said of a trace and its schedule alone: no rule, no message and no replica stands below it.
use Rattle.std.specs.Prelude.{◌≡◌, ℕ, suc, ◌+◌, ◌*◌, ◌^◌, ◌<◌, ◌≤◌, ◌==◌, Bool, false, List, length, take, map, Some}
use Rattle.std.specs.List.{slice_get, count_by, after_last}
use Rattle.il_model.specs.declared.command.Command.{Command}
use Rattle.il_model.specs.declared.command.Answer.{Answer}
use Rattle.vr_model.specs.declared.message.Request.{Request}
use Rattle.vr_schedules.specs.declared.event.WorldEvent.{WorldEvent}
use Rattle.vr_schedules.specs.declared.event.WorldEvent.TheVariants.{Submit, ClientRestart}
use Rattle.vr_schedules.specs.declared.trace.Release.{Release}
use Rattle.vr_schedules.specs.declared.trace.Trace.{Trace}

-- the client of this number starts again
abbrev pub is_start_of : ℕ → WorldEvent → Bool
is_start_of c (ClientRestart client) = c == client
is_start_of c _ = false

-- it submits a command
abbrev pub is_submission_of : ℕ → WorldEvent → Bool
is_submission_of c (Submit client command) = c == client
is_submission_of c _ = false

-- The number of the request that the client submits next, after these events: each of its starts has 2^32 numbers, of
-- which the first isn't used.
abbrev pub next_number : ℕ → List WorldEvent → ℕ
next_number c events = count_by (is_start_of c) events * 2 ^ 32
    + (count_by (is_submission_of c) (after_last (is_start_of c) events) + 1)

-- the list of requests has this one at this place
abbrev pub Has : Trace → ℕ → Request → Type 0
Has trace place m = slice_get trace.order.items place ≡ Some m

-- after event number e it had this length: these were its first requests
abbrev pub HadLength : Trace → ℕ → ℕ → Type 0
HadLength trace e n = slice_get trace.lengths.items e ≡ Some n

-- an event submitted the request, when the list had not yet come to this place
pub record WasSubmitted (schedule : List WorldEvent) (trace : Trace) (place : ℕ) (m : Request) : Type 0 where
  pub event : ℕ
  pub is : slice_get schedule event ≡ Some (Submit m.client.number m.command)
  pub number : m.number ≡ next_number m.client.number (take event schedule)
  pub committed : ℕ
  pub had : HadLength trace event committed
  pub before : committed ≤ place

-- The released answer is that to its request: it stands at the request's place among the answers to all commands of the
-- list, one after another. The list had come to that place when it was released.
pub record IsAnswered (answers : List Command → List Answer) (trace : Trace) (release : Release) : Type 0 where
  pub place : ℕ
  pub request : Request
  pub entry : Has trace place request
  pub client : request.client.number ≡ release.client.number
  pub number : request.number ≡ release.number
  pub answer : slice_get (answers (map (λ m. m.command) trace.order.items)) place ≡ Some release.answer
  pub committed : ℕ
  pub had : HadLength trace release.event committed
  pub below : place < committed

-- There is one list of requests, and it only grows.
pub record IsOneHistory (answers : List Command → List Answer) (schedule : List WorldEvent)
    (trace : Trace) : Type 0 where
  -- it has a length after each event, which never falls, and is whole after the last
  pub counted : length trace.lengths.items ≡ length schedule
  pub grows : (d e k n : ℕ) → d ≤ e → HadLength trace d k → HadLength trace e n → k ≤ n
  pub ends : (e : ℕ) → length schedule ≡ suc e → HadLength trace e (length trace.order.items)
  -- each request in it was submitted, and not put there before
  pub submitted : (place : ℕ) (m : Request) → Has trace place m → WasSubmitted schedule trace place m
  -- each stands there once, and a client's in rising order
  pub rising : (p q : ℕ) (m n : Request) → p < q → Has trace p m → Has trace q n
      → m.client.number ≡ n.client.number → m.number < n.number
  -- and each answer that was released is the one to its request
  pub released : (k : ℕ) (release : Release) → slice_get trace.releases.items k ≡ Some release
      → IsAnswered answers trace release
