use Rattle.std.proofs.Common.{arith}
use Rattle.il_loader.proofs.Images.{is_found, is_read}
use Rattle.il_loader.proofs.Beginnings.{is_cut, is_more}
use Rattle.il_loader.proofs.loading.spelled.Goals as goal

pub returns-clause-found : goal.returns-clause-found
returns-clause-found c = is_found (λ p. p) c.args.bytes.now c.whole.result (λ i. omega (arith, c.type_inv.bytes i)) c.whole.ensures

pub returns-clause-only : goal.returns-clause-only
returns-clause-only c = λ Q is same. is_read (λ p. p) c.args.bytes.now c.whole.result Q is same c.whole.ensures

pub returns-clause-cut : goal.returns-clause-cut
returns-clause-cut c = λ Q more is same some. is_cut (λ p. p) c.args.bytes.now more c.whole.result Q is same some c.whole.ensures

pub returns-clause-more : goal.returns-clause-more
returns-clause-more c = λ Q more is same some. is_more (λ p. p) c.args.bytes.now more c.whole.result Q is same some c.whole.ensures
