-- An outbox over all of its calls: what came in, what left it, and what was flushed by then.
use Rattle.std.specs.Prelude.{◌≡◌, ℕ, ◌+◌, ◌⊎◌, Bool, true, false, List, [], ◌∷◌, ◌++◌, Option, None, Some}
use Rattle.std.specs.Prelude.{nat_lt, if◌then◌else◌}
use Rattle.vr_model.specs.declared.message.Message.{Message}
use Rattle.vr_outbox.specs.Stages.{behind_begin, behind_end}
use Rattle.vr_outbox.specs.Waiting.{Waiting}
use Rattle.vr_outbox.specs.Outboxes.{empty, behind_take_up, due, with_stage, without_due}

-- what is called of it
pub data Call : Type 0 where
  TakesUp : (sends : List Message) (is_put : Bool) → Call
  Begins : Call
  Ends : Call
  HandsOut : Call

-- ---- the outbox

abbrev pub after : Waiting → Call → Waiting
after w (TakesUp sends is_put) = behind_take_up w sends is_put
after w Begins = with_stage w (behind_begin w.stage)
after w Ends = with_stage w (behind_end w.stage)
after w HandsOut = without_due w

abbrev pub ends : Waiting → List Call → Waiting
ends w [] = w
ends w (c ∷ cs) = ends (after w c) cs

-- what came in, in order
abbrev pub came_in : List Call → List Message
came_in [] = []
came_in (TakesUp sends is_put ∷ cs) = sends ++ came_in cs
came_in (Begins ∷ cs) = came_in cs
came_in (Ends ∷ cs) = came_in cs
came_in (HandsOut ∷ cs) = came_in cs

-- what left it, in order
abbrev pub handed : Waiting → Call → List Message
handed w (TakesUp sends is_put) = []
handed w Begins = []
handed w Ends = []
handed w HandsOut = due w

abbrev pub all_handed : Waiting → List Call → List Message
all_handed w [] = []
all_handed w (c ∷ cs) = handed w c ++ all_handed (after w c) cs

-- ---- the flushes, told from the calls alone

-- so many inputs were put; the flush under way, if one is, began when so many of them were; and so many are flushed
pub record Count : Type 0 where
  pub put : ℕ
  pub flush : Option ℕ
  pub flushed : ℕ

-- a flush begins where something isn't flushed, and none is under way
abbrev pub flush_begun : Count → Option ℕ → Option ℕ
flush_begun n None = if nat_lt n.flushed n.put then Some n.put else None
flush_begun n (Some covered) = Some covered

-- what was put before it began is flushed once it's over
abbrev pub flushed_by : Count → Option ℕ → ℕ
flushed_by n None = n.flushed
flushed_by n (Some covered) = covered

abbrev pub counted : Count → Call → Count
counted n (TakesUp sends true) = record n { put = n.put + 1 }
counted n (TakesUp sends false) = n
counted n Begins = record n { flush = flush_begun n n.flush }
counted n Ends = record n { flush = None; flushed = flushed_by n n.flush }
counted n HandsOut = n

abbrev pub all_counted : Count → List Call → Count
all_counted n [] = n
all_counted n (c ∷ cs) = all_counted (counted n c) cs

abbrev pub none_put : Count
none_put = record { put = 0; flush = None; flushed = 0 }

-- ---- what is promised

-- what left, and behind that what waits, is what came in, each message once and in order
abbrev pub KeepsOrder : List Call → Type 0
KeepsOrder cs = all_handed empty cs ++ (ends empty cs).held ≡ came_in cs

-- At each moment nothing may be handed out, or all that was put by then is flushed.
abbrev pub WaitsForFlushes : List Call → Type 0
WaitsForFlushes cs =
    (due (ends empty cs) ≡ []) ⊎ ((all_counted none_put cs).flushed ≡ (all_counted none_put cs).put)
