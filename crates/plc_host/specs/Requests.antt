-- Requests of Modbus clients, as they are counted.
use Rattle.std.specs.Prelude.{ℕ, ◌+◌, ◌-◌, ◌^◌, ◌==◌, min, not, List, [], ◌∷◌, Option, Some, None, get_or, set}
use Rattle.std.specs.List.{prefix_len}
use Rattle.plc_host.specs.declared.requests.Requests.{Requests}

-- those that are counted each by itself
abbrev pub functions : List ℕ
functions = 1 ∷ 2 ∷ 3 ∷ 4 ∷ 5 ∷ 6 ∷ 15 ∷ 16 ∷ 22 ∷ 23 ∷ []

abbrev pub no_request : Requests
no_request = record {
  functions = 0 ∷ 0 ∷ 0 ∷ 0 ∷ 0 ∷ 0 ∷ 0 ∷ 0 ∷ 0 ∷ 0 ∷ 0 ∷ [];
  exceptions = 0 ∷ 0 ∷ 0 ∷ 0 ∷ [];
}

-- the place of a function among them, or else the one behind them
abbrev pub place_of : ℕ → ℕ
place_of function = prefix_len (λ own. not (own == function)) functions

-- one more at this place, if there is one, as far as it can be counted
abbrev pub with_one : List ℕ → ℕ → List ℕ
with_one counts place = set counts place (min (get_or counts place 0 + 1) (2 ^ 64 - 1))

-- one more at the place of this code, if it's one; codes begin with 1
abbrev pub with_exception : List ℕ → Option ℕ → List ℕ
with_exception counts None = counts
with_exception counts (Some code) = with_one counts (code - 1)

-- with one that asks for this function, and is answered by the exception of this code if by one
abbrev pub with_request : Requests → ℕ → Option ℕ → Requests
with_request counts function exception = record {
  functions = with_one counts.functions (place_of function);
  exceptions = with_exception counts.exceptions exception;
}
