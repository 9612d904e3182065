-- Of whom a hello was refused.
use Rattle.std.specs.Prelude.{Bool, true, not, Option, Some, None}
use Rattle.vr_model.specs.declared.message.Party.{Party}
use Rattle.net_hello.specs.declared.judging.Refusal.{Refusal}
use Rattle.net_links.specs.Own.{is_same}

-- it's of another party than this, or names none
abbrev pub is_of_another : Party → (Option Party × Refusal) → Bool
is_of_another party (None, refusal) = true
is_of_another party (Some refused, refusal) = not (is_same refused party)
