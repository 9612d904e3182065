use Rattle.std.proofs.Common.{ℕ, sym, ap, ◌∙◌}
use Rattle.std.proofs.lemmas.Bool.{cases_lt}
use Rattle.vr_model.specs.Groups.{client_count}
use Rattle.net_hello.specs.Hellos.{client_by}
use Rattle.net_hello.proofs.Readings.{client_again}
use Rattle.net_hello.proofs.hello.client_of.Goals as goal

pub returns : goal.returns
returns c = sym (ap (λ (n : ℕ). client_by n (cases_lt n client_count)) (sym c.in_ok-client.ensures.value) ∙ client_again c.in_ok-client.client (cases_lt c.in_ok-client.client.number client_count))
