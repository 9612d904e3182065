use Rattle.std.proofs.Common.{◌∙◌, sym, ℕ, List, Ok, ap}
use Rattle.std.specs.Prelude.{codes}
use Rattle.std.specs.String.{string_bytes}
use Rattle.il_model.specs.Limits.{is_short_image}
use Rattle.plc_json.proofs.Changes.{nests, says_short, says_long}
use Rattle.plc_json.proofs.single.change_value.Goals as goal

pub returns-then-is_short_image-clause-says : goal.returns-then-is_short_image-clause-says
returns-then-is_short_image-clause-says c =
    says_short c.args.image.now (string_bytes c.in_ok-digits.digits) c.digits_value.result
    (c.in_ok-digits.ensures ∙ ap (λ (l : List ℕ). Ok l) c.as_slice-bytes.ensures.value) (ap is_short_image (sym c.as_slice-bytes.ensures.value) ∙ sym c.is_short_image.ensures ∙ c.if-is_short_image.true) c.digits_value.ensures

pub returns-then-is_short_image-clause-nests : goal.returns-then-is_short_image-clause-nests
returns-then-is_short_image-clause-nests c = nests (codes "change") (string_bytes c.in_ok-digits.digits) c.digits_value.result c.digits_value.ensures

pub returns-else-is_short_image-clause-says : goal.returns-else-is_short_image-clause-says
returns-else-is_short_image-clause-says c =
    says_long c.args.image.now (string_bytes c.in_ok-digits.digits) c.long_digits_value.result
    (c.in_ok-digits.ensures ∙ ap (λ (l : List ℕ). Ok l) c.as_slice-bytes.ensures.value) (ap is_short_image (sym c.as_slice-bytes.ensures.value) ∙ sym c.is_short_image.ensures ∙ c.if-is_short_image.false) c.as_slice-bytes.ensures.bound c.long_digits_value.ensures

pub returns-else-is_short_image-clause-nests : goal.returns-else-is_short_image-clause-nests
returns-else-is_short_image-clause-nests c = nests (codes "long_change") (string_bytes c.in_ok-digits.digits) c.long_digits_value.result c.long_digits_value.ensures
