-- When the port of a node is tried again, and when the node gives up the view that it leads.
use Rattle.std.specs.Prelude.{◌≡◌, Bool, false, not, ◌||◌, ℕ, ◌+◌, ◌*◌, ◌-◌, ◌^◌, ◌==◌, min, nat_lt, nat_le}
use Rattle.std.specs.Prelude.{if◌then◌else◌, Option, Some, None}
use Rattle.std.specs.Duration.{as_nanos}
use Rattle.std.specs.declared.time.Duration.{Duration}
use Rattle.plc_node_core.specs.declared.tries.Tries.{Tries}

-- the port wasn't refused since it was open last; three times it's to be before its node gives up
abbrev pub IsUnrefused : Tries → Type 0
IsUnrefused tries = (tries.view ≡ None) × (tries.refused ≡ 0) × (tries.most ≡ 3)

-- the same behind others
abbrev pub unrefused : Tries → Tries
unrefused tries = record (tries) { view = None; refused = 0; most = 3 }

-- it was refused in this view last
abbrev pub was_in : Option ℕ → ℕ → Bool
was_in None view = false
was_in (Some last) view = last == view

-- half a second has passed behind the last try
abbrev pub has_paused : Duration → Duration → Bool
has_paused last now = nat_le 500_000_000 (as_nanos now - as_nanos last)

-- a try is due: the first one in a view at once, and each later one half a second behind the one before
abbrev pub is_due : Tries → ℕ → Duration → Bool
is_due tries view now = not (was_in tries.view view) || has_paused tries.last now

-- twice as often, and 96 times at most
abbrev pub twice : ℕ → ℕ
twice count = if nat_lt count 48 then count * 2 else 96

-- so often it's to be refused in another view: twice as often as in the last one, where that was given up
abbrev pub most_after : Tries → ℕ
most_after tries = if nat_lt tries.refused tries.most then tries.most else twice tries.most

abbrev pub once_more : ℕ → ℕ
once_more count = min (count + 1) (2 ^ 32 - 1)

abbrev pub refused_in : Tries → ℕ → Duration → Tries
refused_in tries view now = if was_in tries.view view
    then record (tries) { refused = once_more tries.refused; last = now }
    else record { view = Some view; refused = 1; most = most_after tries; last = now }

-- the view that the node gives up: where its port was refused so often
abbrev pub given_up : Tries → Option ℕ
given_up tries = if nat_lt tries.refused tries.most then None else tries.view
