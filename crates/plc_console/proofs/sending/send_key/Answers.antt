use Rattle.std.proofs.Common.{◌≡◌, ℕ, List, true, subst}
use Rattle.std.proofs.KnownBytes.{Appends-trans}
use Rattle.std.specs.Prelude.{◌↔◌, codes}
use Rattle.plc_console.proofs.sending.send_key.Goals as goal

pub returns : goal.returns
returns g c = record {
  sent = Appends-trans _ _ _ _ _ c.in_ok-write_all.ensures.ok c.in_ok-write_all-2.ensures.ok;
  answer = c.in_ok-answer.answer.items;
  ends = c.in_ok-answer.ensures.read.1;
  read = c.in_ok-answer.ensures.read.0;
  taken = subst (λ (answer : List ℕ). (c.is_done.result ≡ true) ↔ (answer ≡ codes "done\n")) c.as_slice.ensures.value c.is_done.ensures;
}
