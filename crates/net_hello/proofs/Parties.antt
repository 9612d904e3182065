-- Parties of one kind and number are one.
use Rattle.std.proofs.Common.{◌≡◌, ℕ, Bool, true, false, eqb, refl, sym, ap, subst}
use Rattle.std.specs.Prelude.{◌↔◌, IsTrue}
use Rattle.std.proofs.lemmas.Bool.{eqb-true, eq-eqb}
use Rattle.vr_model.specs.declared.client.ClientNumber.{ClientNumber}
use Rattle.vr_model.specs.declared.message.Party.{Party}
use Rattle.vr_model.specs.declared.message.Party.TheVariants.{Replica, Client}
use Rattle.net_hello.specs.Identity.{are_alike}
use Rattle.net_hello.proofs.Readings.{client_same}

pub alike_is_one : (p q : Party) → IsTrue (are_alike p q) ↔ (p ≡ q)
alike_is_one (Replica i) (Replica j) = (λ t. ap (λ (n : ℕ). Replica n) (eqb-true i j t), λ e. eq-eqb i j (let same : i ≡ j = cc in same))
alike_is_one (Client c) (Client d) = (λ t. ap (λ (n : ClientNumber). Client n) (client_same c d (eqb-true c.number d.number t)), λ e. eq-eqb c.number d.number (let same : c ≡ d = cc in ap (λ (n : ClientNumber). n.number) same))
alike_is_one (Replica i) (Client d) = (λ t. absurd (let no : false ≡ true = t in cc), λ e. absurd (let no : ⊥ = cc in no))
alike_is_one (Client c) (Replica j) = (λ t. absurd (let no : false ≡ true = t in cc), λ e. absurd (let no : ⊥ = cc in no))

pub alike_tells : (p q : Party) (b : Bool) → b ≡ are_alike p q → IsTrue b ↔ (p ≡ q)
alike_tells p q b e = subst (λ (x : Bool). IsTrue x ↔ (p ≡ q)) (sym e) (alike_is_one p q)
