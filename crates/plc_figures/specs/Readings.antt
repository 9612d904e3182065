-- What shows of the scans, and of the replicas of a group.
use Rattle.std.specs.Prelude.{ℕ, ◌+◌, ◌-◌, ◌^◌, min, max, Bool, true, false, not, nat_lt, if◌then◌else◌, List, [], ◌∷◌, fold, get_or, codes, decimal}
use Rattle.vr_model.specs.declared.standing.Status.{Status}
use Rattle.vr_model.specs.declared.standing.Status.TheVariants as statuses
use Rattle.plc_figures.specs.declared.reading.Replica.{Replica}

-- in microseconds: the greatest interval of each bucket but the last, which has those above
abbrev pub bounds : List ℕ
bounds =
    1_000 ∷ 2_500 ∷ 5_000 ∷ 10_000 ∷ 25_000 ∷ 50_000 ∷ 100_000 ∷ 250_000 ∷ 500_000 ∷ 1_000_000 ∷ 2_500_000
    ∷ 5_000_000 ∷ []

-- so many more, as far as they can be counted
abbrev pub capped : ℕ → ℕ → ℕ
capped total count = min (total + count) (2 ^ 64 - 1)

-- how many are counted at these places together
abbrev pub sum_of : List ℕ → ℕ
sum_of counts = fold capped 0 counts

-- its view goes on normally, unless its store has failed
abbrev pub normal_unless : Status → Bool → Bool
normal_unless statuses.Normal failed = not failed
normal_unless statuses.ViewChange failed = false
normal_unless statuses.Recovering failed = false
normal_unless statuses.Down failed = false

abbrev pub shows_normal : Replica → Bool
shows_normal replica = normal_unless replica.standing.status replica.has_failed

-- 1 where it's so, else 0
abbrev pub flag_number : Bool → ℕ
flag_number false = 0
flag_number true = 1

-- the greatest view that shows
abbrev pub greatest_view : List Replica → ℕ
greatest_view replicas = fold (λ view shown. max view shown.standing.view) 0 replicas

-- the functions of Modbus whose requests are counted each by itself
abbrev pub functions : List ℕ
functions = 1 ∷ 2 ∷ 3 ∷ 4 ∷ 5 ∷ 6 ∷ 15 ∷ 16 ∷ 22 ∷ 23 ∷ []

-- the function whose requests are counted at this place
abbrev pub function_name : ℕ → List ℕ
function_name place = if nat_lt place 10 then decimal (get_or functions place 0) else codes "other"
