-- How a run of calls goes on, moment by moment.
use Rattle.std.proofs.Common.{inl, inr, ⊎_elim, ℕ, arith}
use Rattle.io_shelf.specs.Shelves.{Content, Elapses, LeavesOnly, NoMore}
use Rattle.io_shelf.specs.Counts.{IsLeftOrNext}

module _ {S : Type 0} (moment : S → ℕ) (left_since : S → ℕ → Content → Type 0) where
  -- before the first call
  pub begun : (s : S) (P : Content → Type 0) → ((c : Content) → left_since s (moment s) c → P c) → LeavesOnly moment left_since s s P
  begun s P here = record { later = omega arith; each = here; earlier = λ t c le left. inl left }

  -- one call more, behind which nothing may be left but what has P
  pub goes_on : (old mid new : S) (P may_leave : Content → Type 0) → LeavesOnly moment left_since old mid P → Elapses (moment mid) (moment new) (left_since mid) (left_since new) may_leave
      → ((c : Content) → may_leave c → P c) → LeavesOnly moment left_since old new P
  goes_on old mid new P may_leave so_far time here = record {
    later = omega (arith, so_far.later, time.later);
    each = λ c left. ⊎_elim (so_far.each c) (here c) (time.nothing_else (moment old) c so_far.later left);
    earlier = λ t c le left. ⊎_elim (so_far.earlier t c le) (λ now. inr (here c now)) (time.nothing_else t c (omega (arith, le, so_far.later)) left);
  }

  -- a file is read and then changed, to one more than what was found
  pub counts_on : (may_leave : S → Content → Type 0) (old mid new : S) → ((c : Content) → left_since old (moment old) c → may_leave old c) → Elapses (moment old) (moment mid) (left_since old) (left_since mid) (may_leave mid)
      → NoMore (may_leave old) (may_leave mid) → Elapses (moment mid) (moment new) (left_since mid) (left_since new) (may_leave new) → ((c : Content) → may_leave new c → IsLeftOrNext (may_leave old) c)
      → LeavesOnly moment left_since old new (IsLeftOrNext (may_leave old))
  counts_on may_leave old mid new only read_time no_more change_time left =
      let P : Content → Type 0 = IsLeftOrNext (may_leave old) in
      let at_first : LeavesOnly moment left_since old old P = begun old P (λ c is. inl (only c is)) in
      let behind_read : LeavesOnly moment left_since old mid P = goes_on old old mid P (may_leave mid) at_first read_time (λ c is. inl (no_more c is)) in
      goes_on old mid new P (may_leave new) behind_read change_time left
