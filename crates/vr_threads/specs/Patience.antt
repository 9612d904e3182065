-- When a replica is late, by what its timer knows, and in a group of machines also by which others are there.
use Rattle.std.specs.Prelude.{ℕ, ◌*◌, ◌-◌, min, nat_le, ◌==◌, ◌||◌, ◌&&◌, Bool, false, if◌then◌else◌, Option, Some}
use Rattle.std.specs.Prelude.{None, ◌≡◌, ◌/◌, ◌%◌, ◌^◌, not, nat_lt, count_ones, option_map}
use Rattle.std.specs.Option.{unwrap_or}
use Rattle.std.specs.Duration.{as_nanos, max_nanos}
use Rattle.std.specs.declared.time.Duration.{Duration}
use Rattle.vr_model.specs.declared.message.Body.{Body}
use Rattle.vr_model.specs.declared.message.Message.{Message}
use Rattle.vr_model.specs.declared.message.Party.{Party}
use Rattle.vr_model.specs.declared.standing.Standing.{Standing}
use Rattle.vr_model.specs.declared.standing.Status.{Status}
use Rattle.vr_model.specs.declared.standing.Status.TheVariants.{Normal, ViewChange, Recovering, Down}
use Rattle.vr_model.specs.declared.message.Body.TheVariants as body
use Rattle.vr_model.specs.declared.message.Party.TheVariants as party
use Rattle.vr_model.specs.Groups.{primary}
use Rattle.vr_model.specs.Replicas.{is_normal}
use Rattle.vr_model.specs.StandsFor.{status_of}
use Rattle.vr_ports.specs.declared.timer.Tick.{Tick}
use Rattle.vr_ports.specs.declared.timer.Tick.TheVariants as tick
use Rattle.vr_threads.specs.declared.patience.Sign.{Sign}
use Rattle.vr_threads.specs.declared.group_patience.GroupPatience.{GroupPatience}
use Rattle.vr_threads.specs.declared.group_patience.GroupTimes.{GroupTimes}
use Rattle.vr_threads.specs.declared.patience.Sign.TheVariants as sign

-- ---- by its timer, in nanoseconds since a beginning

-- so long it is since then, or longer
abbrev pub is_over : ℕ → Option ℕ → ℕ → Bool
is_over time None now = false
is_over time (Some since) now = nat_le time (now - since)

-- where nothing is late: by how long and since when nothing was sent again
abbrev pub resend_at : ℕ → Option ℕ → ℕ → Tick
resend_at pause resent now = if is_over pause resent now then tick.Resend else tick.None

-- what is said now, by whether the primary is lost, how long and since when nothing showed that the view goes on, and
-- how long and since when nothing was sent again
abbrev pub tick_at : Bool → ℕ → Option ℕ → ℕ → Option ℕ → ℕ → Tick
tick_at is_lost wait silent pause resent now =
    if is_lost || is_over wait silent now then tick.Timeout else resend_at pause resent now

-- how long is waited in the view behind one that did not begin: twice as long, up to the longest
abbrev pub wait_behind : ℕ → ℕ → ℕ
wait_behind longest wait = min (wait * 2) longest

-- a message of a view that is as late as its own, or later, shows that the view goes on
abbrev pub goes_on : Standing → ℕ → Sign
goes_on standing view = if nat_le standing.view view then sign.GoesOn else sign.None

-- What a message of a replica says in a group for f failures, by what the one that hears it is: that its view goes on,
-- or a later one; where it is the primary, that the sender follows it; or that the primary of its view came up again,
-- which has lost the view.
abbrev pub sign_from : ℕ → Standing → ℕ → Body → Sign
sign_from f standing sender (body.Prepare view request op_number commit_number) = goes_on standing view
sign_from f standing sender (body.Commit view commit_number) = goes_on standing view
sign_from f standing sender (body.StartView view commit_number log) = goes_on standing view
sign_from f standing sender (body.NewState view op_number commit_number log) = goes_on standing view
sign_from f standing sender (body.PrepareOk view op_number) =
    if standing.is_primary && (view == standing.view) then sign.Follows sender else sign.None
sign_from f standing sender (body.Recovery nonce stored_view) =
    if is_normal (status_of standing.status) && (sender == primary f standing.view) then sign.Lost else sign.None
sign_from f standing sender _ = sign.None

abbrev pub sign_of : ℕ → Standing → Message → Sign
sign_of f standing m = of m.from
  where
    of : Party → Sign
    of (party.Replica sender) = sign_from f standing sender m.body
    of (party.Client c) = sign.None

-- ---- in a group of machines: bit k of those that are near, or reached, stands for replica k

-- so many times as long, up to the longest time
abbrev pub times_as_long : ℕ → Duration → ℕ
times_as_long count time = min (as_nanos time * count) max_nanos

-- the times that go with a patience: without its primary a replica waits for two fifths of it, and behind having been
-- alone for four; to stand still for half of it is to have heard nothing, and for two to have been alone
abbrev pub GoWith : Duration → Duration → GroupTimes → Type 0
GoWith patience resend times =
    (times.patience ≡ patience) × (times.resend ≡ resend)
    × (as_nanos times.unreached ≡ times_as_long 2 patience / 5) × (as_nanos times.healing ≡ times_as_long 4 patience)
    × (as_nanos times.pause ≡ as_nanos patience / 2) × (as_nanos times.absence ≡ times_as_long 2 patience)

-- it was so then, and that is not so long ago
abbrev pub is_within : ℕ → Option ℕ → ℕ → Bool
is_within time None now = false
is_within time (Some since) now = nat_lt (now - since) time

abbrev pub has_bit : ℕ → ℕ → Bool
has_bit mask k = nat_lt k 8 && (mask / 2 ^ k % 2 == 1)

-- it was not asked for so long: it stood still
abbrev pub has_stood : GroupPatience → Duration → Duration → Bool
has_stood p time now = is_over (as_nanos time) (option_map as_nanos p.asked_at) (as_nanos now)

-- A change of its view could come to something: enough others are near. And a primary that nobody answers takes the
-- next view for begun, since that is what the others do.
abbrev pub may_change : GroupPatience → ℕ → Bool
may_change p near = nat_le p.patience.f (count_ones near) || p.patience.standing.is_primary

-- this primary is not reached; or it is not near, while the view changes
abbrev pub is_away : Status → ℕ → ℕ → ℕ → Bool
is_away Normal leader near reached = not (has_bit reached leader)
is_away ViewChange leader near reached = not (has_bit near leader)
is_away Recovering leader near reached = false
is_away Down leader near reached = false

-- the primary of its view is another one, and is away
abbrev pub lacks_primary : GroupPatience → ℕ → ℕ → Bool
lacks_primary p near reached =
    let leader : ℕ = primary p.patience.f p.patience.standing.view in
    not (leader == p.number) && is_away p.patience.standing.status leader near reached

-- it was alone not long ago, and has not heard since that its view goes on
abbrev pub is_healing : GroupPatience → Duration → Bool
is_healing p now = has_stood p p.times.absence now
    || is_within (as_nanos p.times.healing) (option_map as_nanos p.alone_at) (as_nanos now)

-- Its primary is lost; or, where it did not stand still itself, nothing showed that its view goes on for as long as it
-- waits, or its primary was away for as long as that is borne.
abbrev pub is_late : GroupPatience → Duration → ℕ → ℕ → Bool
is_late p now near reached =
    p.patience.is_lost
    || (not (has_stood p p.times.pause now)
    && (is_over (as_nanos p.patience.wait) (option_map as_nanos p.patience.silent_since) (as_nanos now)
    || (lacks_primary p near reached
    && is_over (as_nanos p.times.unreached) (option_map as_nanos p.lacking_since) (as_nanos now))))

abbrev pub is_timeout : GroupPatience → Duration → ℕ → ℕ → Bool
is_timeout p now near reached = may_change p near && (not (is_healing p now) && is_late p now near reached)

-- what is said now
abbrev pub group_tick : GroupPatience → Duration → ℕ → ℕ → Tick
group_tick p now near reached =
    if is_timeout p now near reached then tick.Timeout
    else resend_at (as_nanos p.patience.pause) (option_map as_nanos p.patience.resent_at) (as_nanos now)

-- what it did not hear until now says nothing: it stood still, or nobody could have changed the view
abbrev pub begins_anew : GroupPatience → Duration → ℕ → Bool
begins_anew p now near = has_stood p p.times.pause now || not (may_change p near)

-- since when nothing showed that its view goes on, where it does not time out
abbrev pub silent_after : GroupPatience → Duration → ℕ → Duration
silent_after p now near = if begins_anew p now near then now else unwrap_or p.patience.silent_since now

-- since when its primary is away, where it does not time out
abbrev pub lacking_after : GroupPatience → Duration → ℕ → ℕ → Option Duration
lacking_after p now near reached =
    if lacks_primary p near reached then
    Some (if begins_anew p now near then now else unwrap_or p.lacking_since now)
    else None

-- when it was alone last, where it does not time out
abbrev pub alone_after : GroupPatience → Duration → ℕ → Option Duration
alone_after p now near = if has_stood p p.times.absence now || not (may_change p near) then Some now else p.alone_at
