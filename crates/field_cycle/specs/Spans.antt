-- How long rounds took.
use Rattle.std.specs.Prelude.{ℕ, max, nat_lt, List, [], ◌∷◌, get_or, set}
use Rattle.std.specs.List.{prefix_len}
use Rattle.field_cycle.specs.declared.spans.Spans.{Spans}
use Rattle.field_cycle.specs.Links.{later}

-- in milliseconds: the longest span of each bucket but the last, which has those above
abbrev pub bounds : List ℕ
bounds = 1 ∷ 2 ∷ 5 ∷ 10 ∷ 20 ∷ 50 ∷ 100 ∷ 200 ∷ 500 ∷ 1000 ∷ 2000 ∷ 5000 ∷ []

-- the first bucket whose bound isn't below it
abbrev pub bucket_of : ℕ → ℕ
bucket_of span = prefix_len (λ bound. nat_lt bound span) bounds

abbrev pub no_span : Spans
no_span = record { counts = 0 ∷ 0 ∷ 0 ∷ 0 ∷ 0 ∷ 0 ∷ 0 ∷ 0 ∷ 0 ∷ 0 ∷ 0 ∷ 0 ∷ 0 ∷ []; sum = 0; last = 0; longest = 0 }

-- one span more in a bucket
abbrev pub with_one : List ℕ → ℕ → List ℕ
with_one counts bucket = set counts bucket (later (get_or counts bucket 0) 1)

abbrev pub with_span : Spans → ℕ → Spans
with_span s span =
    record {
      counts = with_one s.counts (bucket_of span);
      sum = later s.sum span;
      last = span;
      longest = max s.longest span;
    }
