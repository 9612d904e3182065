use Rattle.std.proofs.Common.{◌∙◌, arith}
use Rattle.net_hello.proofs.Readings.{found_in, hello_only, hello_prefix}
use Rattle.net_hello.proofs.hello.Hello.read.Goals as goal

pub returns-clause-found : goal.returns-clause-found
returns-clause-found c = found_in c.args.bytes.now c.hello_of.result (λ i. omega (arith, c.type_inv.bytes i)) c.hello_of.ensures

pub returns-clause-only : goal.returns-clause-only
returns-clause-only c = λ hello is. c.hello_of.ensures ∙ hello_only hello c.args.bytes.now is

pub returns-clause-prefix : goal.returns-clause-prefix
returns-clause-prefix c = λ hello more fits some is. c.hello_of.ensures ∙ hello_prefix hello c.args.bytes.now more fits some is
