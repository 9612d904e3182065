-- A release is put, or there is no room for it.
use Rattle.std.proofs.Common.{◌≡◌, ℕ, ◌+◌, ◌-◌, ◌^◌, min, List, [], ◌∷◌, ◌++◌, inl, inr, ap, ◌∙◌}
use Rattle.plc_trace.specs.declared.line.Line.{Line}
use Rattle.plc_trace.specs.declared.line.Traced.{Traced}
use Rattle.plc_trace.specs.declared.trace.Trace.{Trace}
use Rattle.plc_trace.specs.Tracing.{IsPut, told}
use Rattle.rtrb.specs.Ring.{SameProducer}

pub none_told : (traced : Traced) (old new : Trace) → SameProducer old.producer new.producer → told new ≡ told old → new.left_out ≡ min (old.left_out + 1) (2 ^ 64 - 1) → IsPut traced old new
none_told traced old new same is more = record { same = same; put = inr (is, more) }

pub line_told : (traced : Traced) (old looked new : Trace) → SameProducer old.producer looked.producer → SameProducer looked.producer new.producer → told looked ≡ told old → told new ≡ told looked ++ record { traced = traced; left_out = old.left_out } ∷ [] → new.left_out ≡ 0 → IsPut traced old new
line_told traced old looked new first then_ same is none = record {
  same = ((then_.0.0 ∙ first.0.0, then_.0.1 ∙ first.0.1, then_.0.2 ∙ first.0.2, then_.0.3 ∙ first.0.3), then_.1 ∙ first.1);
  put = inl (is ∙ ap (λ (xs : List Line). xs ++ record { traced = traced; left_out = old.left_out } ∷ []) same, none);
}
